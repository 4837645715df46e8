use Rattle.std.proofs.Common.{◌≡◌, length}
use Rattle.bf_machine.specs.Views.{OnlyLooks}
use Rattle.rel_session.specs.Devices.{devices}
use Rattle.rel_session.specs.Lines.{lines_of}
use Rattle.rel_session.specs.Sessions.{fresh}
use Rattle.rel_session.specs.Waiting.{IsFew, session_of}
use Rattle.rel_session.proofs.Running.{RanSoFar}
use Rattle.rel_session.proofs.lines.answer_lines.Given as goal

-- the lines run so far, and what is run of the rest behind them
abbrev pub invariant-loop-rest : goal.invariant-loop-rest
invariant-loop-rest g l =
    let old = devices (g.W.Sink.told l.fn.sink) (g.M.Machine.told l.fn.machine) (g.C.Clock.told l.fn.clock) in
    let now = devices (g.W.Sink.told l.sink) (g.M.Machine.told l.machine) (g.C.Clock.told l.clock) in
    record {
      so_far : RanSoFar g.R.Reader.reads l.asking.offset l.asking.moment fresh (lines_of l.fn.input) old (session_of old.machine.world l.session) (lines_of l.rest) now;
      few : IsFew l.session;
      looks : OnlyLooks old.machine now.machine;
      steady : now.sink.faults ≡ old.sink.faults;
      clock_steady : now.clock.faults ≡ old.clock.faults;
    }

abbrev pub decreases-loop-rest : goal.decreases-loop-rest
decreases-loop-rest g l = length l.rest

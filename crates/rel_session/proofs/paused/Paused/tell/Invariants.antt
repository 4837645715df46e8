use Rattle.std.proofs.Common.{◌≡◌}
use Rattle.bf_machine.specs.Views.{OnlyLooks}
use Rattle.rel_eval.specs.Cursors.{weight}
use Rattle.rel_session.specs.Waiting.{TellsLeft, state_of}
use Rattle.rel_session.proofs.Lasting.{ToldSoFar}
use Rattle.rel_session.proofs.paused.Paused.tell.Given as goal

-- what was told so far, and what is told of the rest behind it
abbrev pub invariant-page : goal.invariant-page
invariant-page g l =
    let old = state_of (g.W.Sink.told l.fn.sink) l.fn.out (g.M.Machine.told l.fn.machine) in
    let now = state_of (g.W.Sink.told l.sink) l.out (g.M.Machine.told l.machine) in
    let offset = l.asking.offset in
    record {
      so_far : ToldSoFar (TellsLeft old.machine.world offset l.fn.self.span l.fn.self.cursor l.fn.room) old
          (TellsLeft old.machine.world offset l.fn.self.span l.self.cursor l.room) now;
      span : l.self.span ≡ l.fn.self.span;
      looks : OnlyLooks old.machine now.machine;
      steady : now.sink.faults ≡ old.sink.faults;
    }

abbrev pub decreases-page : goal.decreases-page
decreases-page g l = weight l.self.cursor

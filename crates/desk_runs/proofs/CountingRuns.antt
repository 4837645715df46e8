-- What runs of relays and agents do to the counts of faults.
use Rattle.std.proofs.Common.{◌≡◌, ◌≤◌, ℕ, List, Result, Ok, Err, refl, ap, ◌∙◌, subst, arith}
use Rattle.desk_base.specs.Counts.{CountsFaults, Rose}
use Rattle.desk_base.specs.Views.{SinkView}
use Rattle.desk_base.specs.declared.sink.Put.{Put}
use Rattle.desk_base.specs.declared.sink.Put.TheVariants as put
use Rattle.bf_machine.proofs.Telling.{RoseBy-more, RoseBy-none, later-RoseBy}
use Rattle.desk_rounds.specs.declared.agent_rounds.Rounder.{Rounder}
use Rattle.desk_rounds.specs.declared.agent_rounds.RoundEnd.{RoundEnd}
use Rattle.desk_rounds.specs.declared.agent_rounds.RoundEnd.TheVariants as end
use Rattle.desk_rounds.specs.Lines.{Line}
use Rattle.desk_runs.specs.declared.rounding.AgentStop.{AgentStop}
use Rattle.desk_runs.specs.declared.rounding.AgentStop.TheVariants as cut
use Rattle.desk_runs.specs.AgentRuns.{AgentRun, Begun, MakesAll, Runs, Then}
use Rattle.desk_runs.specs.AgentSteps.{AgentScene, BreaksRound, LeavesRound, TellsRound}
use Rattle.desk_runs.specs.Counting.{CountsLines, CountsRounds, machine_fault_told, no_answer_told, told_of_rounds}
use Rattle.desk_runs.proofs.CountingAgents.{CountsPart, round_counted, unlooked}
use Rattle.desk_runs.proofs.CountingRounds.{unanswered}

-- ---- an agent
-- what whole rounds do
pub record CountsWhole (old new : AgentScene) : Type 0 where
  pub sink : new.sink.faults ≡ old.sink.faults
  pub clock : new.point.clock.faults ≡ old.point.clock.faults
  pub pocket : new.point.devices.pocket.faults ≡ old.point.devices.pocket.faults
  pub machine : old.point.devices.machine.faults ≤ new.point.devices.machine.faults
  pub link : old.point.at.way.link.faults ≤ new.point.at.way.link.faults

failed_not_done : put.Done ≡ put.Failed → ⊥
failed_not_done e = cc

done_clock : end.Done ≡ end.ClockFault → ⊥
done_clock e = cc

done_pocket : end.Done ≡ end.PocketFault → ⊥
done_pocket e = cc

told_counts : (rounder : Rounder) (old : AgentScene) (answer : Put) (lines : List Line) (new : AgentScene) → TellsRound rounder old answer lines new
    → CountsPart old.point end.Done lines new.point
told_counts rounder old answer lines new tells = round_counted rounder old.point end.Done lines new.point tells.round

pub whole_counted : (rounder : Rounder) (old new : AgentScene) (run : AgentRun) → Runs rounder old run new → CountsWhole old new
whole_counted rounder old new Begun same =
    let machine_is = ap (λ (s : AgentScene). s.point.devices.machine.faults) same in
    let link_is = ap (λ (s : AgentScene). s.point.at.way.link.faults) same in record {
      sink = ap (λ (s : AgentScene). s.sink.faults) same;
      clock = ap (λ (s : AgentScene). s.point.clock.faults) same;
      pocket = ap (λ (s : AgentScene). s.point.devices.pocket.faults) same;
      machine = omega (arith, machine_is);
      link = omega (arith, link_is);
    }
whole_counted rounder old new (Then run lines) (mid, runs, tells) =
    let before = whole_counted rounder old mid run runs in
    let last = told_counts rounder mid put.Done lines new tells in
    let machine_before = before.machine in
    let machine_last = later-RoseBy (unlooked lines) mid.point.devices.machine.faults new.point.devices.machine.faults last.machine in
    let link_before = before.link in
    let link_last = later-RoseBy (unanswered lines) mid.point.at.way.link.faults new.point.at.way.link.faults last.link in record {
      sink = tells.writes.counts.steady failed_not_done ∙ before.sink;
      clock = last.clock.steady done_clock ∙ before.clock;
      pocket = last.pocket.steady done_pocket ∙ before.pocket;
      machine = omega (arith, machine_before, machine_last);
      link = omega (arith, link_before, link_last);
    }

-- what ended a run is this
abbrev IsCut : Result Unit AgentStop → AgentStop → Type 0
IsCut result why = result ≡ Err why

-- a count that stayed, as another device ended the run
stays : (a b c : ℕ) (F : Type 0) → (F → ⊥) → b ≡ a → c ≡ b → CountsFaults F a c
stays a b c F never before last = record { rose = λ f. absurd (never f); steady = λ none. last ∙ before; later = omega (arith, before, last) }

-- one of the device that ended it
rises : (a b c : ℕ) (F : Type 0) → F → b ≡ a → Rose b c → CountsFaults F a c
rises a b c F is before rose =
    let Rises : ℕ → Type 0 = λ n. Rose n c in
    let risen = subst Rises before rose in
    record { rose = λ f. risen; steady = λ none. absurd (none is); later = later-RoseBy 1 a c risen }

-- one that stayed before the broken round, and was counted in it
after_steady : (a b c : ℕ) (F G : Type 0) → b ≡ a → (F → G) → (G → F) → CountsFaults F b c → CountsFaults G a c
after_steady a b c F G before to from counts =
    let Rises : ℕ → Type 0 = λ n. Rose n c in
    let later = counts.later in
    record { rose = λ g. subst Rises before (counts.rose (from g)); steady = λ none. counts.steady (λ f. none (to f)) ∙ before; later = omega (arith, before, later) }

-- what the broken round did, where nothing of it was written
left_counted : (rounder : Rounder) (old mid new : AgentScene) (why : AgentStop) (ended : RoundEnd) → CountsWhole old mid → LeavesRound rounder mid ended new
    → (IsCut (Err why) cut.Sink → ⊥) → (IsCut (Err why) cut.Clock → ended ≡ end.ClockFault) → (ended ≡ end.ClockFault → IsCut (Err why) cut.Clock)
    → (IsCut (Err why) cut.Pocket → ended ≡ end.PocketFault) → (ended ≡ end.PocketFault → IsCut (Err why) cut.Pocket) → CountsRounds (Err why) old new
left_counted rounder old mid new why ended before left no_sink clock_to clock_from pocket_to pocket_from =
    let last = round_counted rounder mid.point ended left.lines new.point left.round in
    let machine_before = before.machine in
    let machine_last = later-RoseBy (unlooked left.lines) mid.point.devices.machine.faults new.point.devices.machine.faults last.machine in
    let link_before = before.link in
    let link_last = later-RoseBy (unanswered left.lines) mid.point.at.way.link.faults new.point.at.way.link.faults last.link in record {
      sink = stays old.sink.faults mid.sink.faults new.sink.faults (IsCut (Err why) cut.Sink) no_sink before.sink (ap (λ (s : SinkView). s.faults) left.sink);
      clock = after_steady old.point.clock.faults mid.point.clock.faults new.point.clock.faults (ended ≡ end.ClockFault) (IsCut (Err why) cut.Clock) before.clock clock_from clock_to last.clock;
      pocket = after_steady old.point.devices.pocket.faults mid.point.devices.pocket.faults new.point.devices.pocket.faults (ended ≡ end.PocketFault) (IsCut (Err why) cut.Pocket) before.pocket pocket_from pocket_to last.pocket;
      machine = omega (arith, machine_before, machine_last);
      link = omega (arith, link_before, link_last);
    }

broken_counted : (rounder : Rounder) (old mid new : AgentScene) (why : AgentStop) → CountsWhole old mid → BreaksRound rounder mid why new → CountsRounds (Err why) old new
broken_counted rounder old mid new cut.Clock before left =
    left_counted rounder old mid new cut.Clock end.ClockFault before left (λ e. cc) (λ e. refl) (λ e. refl) (λ e. absurd (cc)) (λ e. absurd (cc))
broken_counted rounder old mid new cut.Pocket before left =
    left_counted rounder old mid new cut.Pocket end.PocketFault before left (λ e. cc) (λ e. absurd (cc)) (λ e. absurd (cc)) (λ e. refl) (λ e. refl)
broken_counted rounder old mid new cut.Memory before left =
    left_counted rounder old mid new cut.Memory end.Memory before left (λ e. cc) (λ e. absurd (cc)) (λ e. absurd (cc)) (λ e. absurd (cc)) (λ e. absurd (cc))
broken_counted rounder old mid new cut.Sink before (lines, tells) =
    let last = told_counts rounder mid put.Failed lines new tells in
    let machine_before = before.machine in
    let machine_last = later-RoseBy (unlooked lines) mid.point.devices.machine.faults new.point.devices.machine.faults last.machine in
    let link_before = before.link in
    let link_last = later-RoseBy (unanswered lines) mid.point.at.way.link.faults new.point.at.way.link.faults last.link in record {
      sink = rises old.sink.faults mid.sink.faults new.sink.faults (IsCut (Err cut.Sink) cut.Sink) refl before.sink (tells.writes.counts.rose refl);
      clock = stays old.point.clock.faults mid.point.clock.faults new.point.clock.faults (IsCut (Err cut.Sink) cut.Clock) (λ e. cc) before.clock (last.clock.steady done_clock);
      pocket = stays old.point.devices.pocket.faults mid.point.devices.pocket.faults new.point.devices.pocket.faults (IsCut (Err cut.Sink) cut.Pocket) (λ e. cc) before.pocket
          (last.pocket.steady done_pocket);
      machine = omega (arith, machine_before, machine_last);
      link = omega (arith, link_before, link_last);
    }

pub rounds_counted : (rounder : Rounder) (old new : AgentScene) (count : ℕ) (result : Result Unit AgentStop) → MakesAll rounder old count result new → CountsRounds result old new
rounds_counted rounder old new count (Ok u) (run, is, goes) =
    let all = whole_counted rounder old new run goes.runs in record {
      sink = stays old.sink.faults old.sink.faults new.sink.faults (IsCut (Ok u) cut.Sink) (λ e. cc) refl all.sink;
      clock = stays old.point.clock.faults old.point.clock.faults new.point.clock.faults (IsCut (Ok u) cut.Clock) (λ e. cc) refl all.clock;
      pocket = stays old.point.devices.pocket.faults old.point.devices.pocket.faults new.point.devices.pocket.faults (IsCut (Ok u) cut.Pocket) (λ e. cc) refl all.pocket;
      machine = all.machine;
      link = all.link;
    }
rounds_counted rounder old new count (Err why) (done, below, mid, (run, is, goes), breaks) =
    broken_counted rounder old mid new why (whole_counted rounder old mid run goes.runs) breaks

-- at least as many faults of the link and of the machine were counted as lines of whole rounds tell
pub lines_counted : (rounder : Rounder) (old new : AgentScene) (run : AgentRun) → Runs rounder old run new → CountsLines old run new
lines_counted rounder old new Begun same =
    let link_is = ap (λ (s : AgentScene). s.point.at.way.link.faults) same in
    let machine_is = ap (λ (s : AgentScene). s.point.devices.machine.faults) same in record {
      link = RoseBy-none old.point.at.way.link.faults new.point.at.way.link.faults (omega (arith, link_is));
      machine = RoseBy-none old.point.devices.machine.faults new.point.devices.machine.faults (omega (arith, machine_is));
    }
lines_counted rounder old new (Then run lines) (mid, runs, tells) =
    let before = lines_counted rounder old mid run runs in
    let last = told_counts rounder mid put.Done lines new tells in record {
      link = RoseBy-more (told_of_rounds no_answer_told run) (unanswered lines) old.point.at.way.link.faults mid.point.at.way.link.faults new.point.at.way.link.faults before.link last.link;
      machine = RoseBy-more (told_of_rounds machine_fault_told run) (unlooked lines) old.point.devices.machine.faults mid.point.devices.machine.faults new.point.devices.machine.faults before.machine
          last.machine;
    }

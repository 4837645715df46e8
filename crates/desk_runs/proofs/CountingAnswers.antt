-- What the answers of a relay's conversations tell of its link's count of faults, beside the lines of its rounds.
use Rattle.std.proofs.Common.{◌≡◌, ◌⊎◌, ℕ, ◌+◌, Bool, List, inl, inr, arith}
use Rattle.std.specs.Prelude.{codes}
use Rattle.desk_base.specs.Counts.{Rose}
use Rattle.desk_base.specs.declared.sink.Put.TheVariants as put
use Rattle.bf_machine.specs.Rises.{RoseBy}
use Rattle.bf_machine.proofs.Telling.{RoseBy-later, RoseBy-more}
use Rattle.desk_http.specs.declared.request.Refusal.{Refusal}
use Rattle.desk_http.specs.declared.request.Refusal.TheVariants as refusal
use Rattle.desk_http.specs.declared.talk.Met.{Met}
use Rattle.desk_http.specs.Conversing.{Responds}
use Rattle.desk_http.specs.Heard.{Heard, Call, Refused}
use Rattle.desk_http.specs.Spoken.{status_of}
use Rattle.desk_hosts.specs.RelayCalls.{RelayCalls, RelayTells}
use Rattle.desk_rounds.specs.Lines.{Line}
use Rattle.desk_runs.specs.Counting.{ToldLinkFault, ToldLinkFaults, no_answer_told, told_of_relay}
use Rattle.desk_runs.specs.RelayRuns.{Begun, RelayRun, Then}
use Rattle.desk_runs.specs.RelaySteps.{RelayScene, TellsRound, TellsTalk, host_of}
use Rattle.desk_runs.proofs.CountingFiles.{link_fault_counted, not_400, not_404}
use Rattle.desk_runs.proofs.CountingRelays.{lines_rise, talk_falls}
use Rattle.desk_runs.proofs.CountingRounds.{fewer, unanswered}

not_413 : ◌≡◌ {A = ℕ} 502 413 → ⊥
not_413 h = omega (arith, h)

no_refusal : (it : Refusal) → 502 ≡ status_of it → ⊥
no_refusal refusal.BadRequest h = not_400 h
no_refusal refusal.NoSuch h = not_404 h
no_refusal refusal.TooLong h = not_413 h

fault_answered : (host host' : RelayTells) (heard : Heard) (whole : Bool) → Responds RelayCalls host heard whole 502 (codes "link fault\n") host' → Rose host.files.link.faults host'.files.link.faults
fault_answered host host' (Call asking path body) whole responds = link_fault_counted host host' asking path body responds.1
fault_answered host host' (Refused it) whole responds = absurd (no_refusal it responds.0)

fault_rose : (old new : RelayScene) → ToldLinkFault old new → RoseBy 1 old.link.faults new.link.faults
fault_rose old new told = fault_answered (host_of old) (host_of new) told.due.heard told.due.whole told.due.responds

-- the conversation and the round behind some steps
pair_rose : (before count : ℕ) (mid between new : RelayScene) (ended : Met) (lines : List Line) → TellsTalk mid put.Done ended between → TellsRound between put.Done lines new
    → (count ≡ before) ⊎ ((count ≡ before + 1) × ToldLinkFault mid between) → (told : ℕ) (first : ℕ) → RoseBy (before + told) first mid.link.faults
    → RoseBy (count + (told + unanswered lines)) first new.link.faults
pair_rose before count mid between new ended lines talk round (inl same) told first rose =
    let after = RoseBy-later (unanswered lines) mid.link.faults between.link.faults new.link.faults (talk_falls mid between ended talk.talks).link (lines_rise between new put.Done lines round) in
    let all = RoseBy-more (before + told) (unanswered lines) first mid.link.faults new.link.faults rose after in
    fewer (count + (told + unanswered lines)) ((before + told) + unanswered lines) first new.link.faults (omega (arith, same)) all
pair_rose before count mid between new ended lines talk round (inr (more, fault)) told first rose =
    let after = RoseBy-more 1 (unanswered lines) mid.link.faults between.link.faults new.link.faults (fault_rose mid between fault) (lines_rise between new put.Done lines round) in
    let all = RoseBy-more (before + told) (1 + unanswered lines) first mid.link.faults new.link.faults rose after in
    fewer (count + (told + unanswered lines)) ((before + told) + (1 + unanswered lines)) first new.link.faults (omega (arith, more)) all

pub faults_counted : (old new : RelayScene) (run : RelayRun) (count : ℕ) → ToldLinkFaults old run count new → RoseBy (count + told_of_relay no_answer_told run) old.link.faults new.link.faults
faults_counted old new (Begun lines) count (none, tells) =
    fewer (count + unanswered lines) (unanswered lines) old.link.faults new.link.faults (omega (arith, none)) (lines_rise old new put.Done lines tells)
faults_counted old new (Then run ended lines) count (before, mid, between, runs, talk, round, more) =
    pair_rose before count mid between new ended lines talk round more (told_of_relay no_answer_told run) old.link.faults (faults_counted old mid run before runs)

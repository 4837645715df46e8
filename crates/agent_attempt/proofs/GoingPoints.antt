-- What holds at each step of an attempt that goes on holds from its beginning to its end. Other crates may cite these lemmas.
use Rattle.std.proofs.Common.{ℕ, ℤ, Bool, true, false, List, [], ◌∷◌, inl, inr, Option, Some, None, refl, sym, subst}
use Rattle.std.specs.Prelude.{IfSome}
use Rattle.script_run.specs.declared.cause.Cause.{Cause}
use Rattle.script_run.specs.declared.ran.Ran.{Ran}
use Rattle.script_run.specs.declared.ran.Ran.TheVariants as ran
use Rattle.script_run.specs.Walks.{Walk}
use Rattle.bf_machine.specs.Views.{IsLater, MachineView}
use Rattle.script_run.specs.Asking.{When}
use Rattle.agent_attempt.specs.declared.found.Found.{Found}
use Rattle.agent_attempt.specs.declared.found.Found.TheVariants.{Yes, No, Failed, Memory}
use Rattle.agent_attempt.specs.declared.went.Went.{Went}
use Rattle.agent_attempt.specs.declared.attempt.Part.{Part}
use Rattle.agent_attempt.specs.Attempts.{PlainAttempt, PlainStage, Past, coming, starting, running, judging}
use Rattle.script_run.specs.Advances.{Advances}
use Rattle.agent_attempt.specs.Going.{Going, Ends, Stays, after_failure, with_failure, Fails, AfterJudging, FromJudging, AfterRun, FromRunning, FromStarting, AfterComing, FromComing, Through, FromStage, FromLeft, GoesOn, SameAttempt, held_at}
use Rattle.agent_attempt.specs.Relevance.{HasAsked}
use Rattle.agent_attempt.proofs.Lasting.{advances_later, later_looks, later_refl, later_trans}
use Rattle.agent_attempt.proofs.Quiet.{fixlet_quiet, succeeds_quiet}

-- From one view of the machine to another, and to what is held then: where the attempt ends or stays, behind what was asked, and
-- behind what a script did.
pub record Points (at : When) (a : PlainAttempt) (P : MachineView → MachineView → Option PlainAttempt → Type 0) : Type 0 where
  pub ends : (v : MachineView) → P v v None
  pub stays : (v : MachineView) (left : List Part) (stage : PlainStage) (past : Past) → P v v (Some (held_at a left stage past))
  pub asked : (f : Found) (old between new : MachineView) (after : Option PlainAttempt) → HasAsked old f between → P between new after → P old new after
  pub runs : (walk further : Walk) (came : Ran) (old between new : MachineView) (after : Option PlainAttempt) → Advances at old walk came between further → P between new after → P old new after

module _ (at : When) (a : PlainAttempt) (P : MachineView → MachineView → Option PlainAttempt → Type 0) (k : Points at a P) where
  abbrev pub Leads : Going → Type 0
  Leads go = (past : Past) (old : MachineView) (answer : Went) (new : MachineView) (after : Option PlainAttempt) → go past old answer new after → P old new after

  pub ends_lead : Leads Ends
  ends_lead past old answer new after h = subst (λ o. P old new o) (sym h.2) (subst (λ v. P old v None) (sym h.1) (k.ends old))

  pub stays_lead : (left : List Part) (stage : PlainStage) (would : Went) → Leads (Stays a left stage would)
  stays_lead left stage would past old answer new after h =
      subst (λ o. P old new o) (sym h.2) (subst (λ v. P old v (Some (held_at a left stage past))) (sym h.1) (k.stays old left stage past))

  failure_leads : (all : Bool) (rest : Going) → Leads rest → Leads (after_failure all rest)
  failure_leads true rest leads = leads
  failure_leads false rest leads = ends_lead

  pub fails_lead : (part : Part) (line : ℕ) (cause : Cause) (exit : Option ℤ) (rest : Going) → Leads rest → Leads (Fails a part line cause exit rest)
  fails_lead part line cause exit rest leads = λ past. failure_leads a.action.all_members rest leads (with_failure part line cause exit past)

  pub after_judging_leads : (part : Part) (left : List Part) (exit : Option ℤ) (rest : Going) → Leads rest → (f : Found) → Leads (AfterJudging a part left exit rest f)
  after_judging_leads part left exit rest leads Yes = λ past. leads (record past { exit = exit })
  after_judging_leads part left exit rest leads No = fails_lead part 0 _ exit rest leads
  after_judging_leads part left exit rest leads Failed = fails_lead part 0 _ exit rest leads
  after_judging_leads part left exit rest leads Memory = stays_lead (part ∷ left) (judging exit) _

  pub judging_leads : (part : Part) (left : List Part) (exit : Option ℤ) (rest : Going) → Leads rest → Leads (FromJudging at a part left exit rest)
  judging_leads part left exit rest leads past old answer new after (f, between, succeeds, h) =
      k.asked f old between new after (succeeds_quiet at part.fixlet part.fixlet.success old f between succeeds) (after_judging_leads part left exit rest leads f past between answer new after h)

  pub after_run_leads : (part : Part) (left : List Part) (rest : Going) → Leads rest → (came : Ran) (walk : Walk) → Leads (AfterRun at a part left rest came walk)
  after_run_leads part left rest leads (ran.Held line) walk = stays_lead (part ∷ left) (running walk None) _
  after_run_leads part left rest leads (ran.Wants line digest) walk = stays_lead (part ∷ left) (running walk (Some digest)) _
  after_run_leads part left rest leads ran.Done walk = judging_leads part left _ rest leads
  after_run_leads part left rest leads (ran.Failed line cause) walk = fails_lead part line cause _ rest leads
  after_run_leads part left rest leads ran.Memory walk = stays_lead (part ∷ left) (running walk None) _

  pub running_leads : (part : Part) (left : List Part) (walk : Walk) (rest : Going) → Leads rest → Leads (FromRunning at a part left walk rest)
  running_leads part left walk rest leads past old answer new after (came, between, further, advances, h) =
      k.runs walk further came old between new after advances (after_run_leads part left rest leads came further past between answer new after h)

  pub starting_leads : (part : Part) (left : List Part) (rest : Going) → Leads rest → Leads (FromStarting at a part left rest)
  starting_leads part left rest leads past old answer new after (inl h) = stays_lead (part ∷ left) starting _ past old answer new after h
  starting_leads part left rest leads past old answer new after (inr (script, verdict, h)) = running_leads part left _ rest leads past old answer new after h

  pub after_coming_leads : (part : Part) (left : List Part) (rest : Going) → Leads rest → (f : Found) → Leads (AfterComing at a part left rest f)
  after_coming_leads part left rest leads Yes = starting_leads part left rest leads
  after_coming_leads part left rest leads No = leads
  after_coming_leads part left rest leads Failed = fails_lead part 0 _ _ rest leads
  after_coming_leads part left rest leads Memory = stays_lead (part ∷ left) coming _

  pub coming_leads : (part : Part) (left : List Part) (rest : Going) → Leads rest → Leads (FromComing at a part left rest)
  coming_leads part left rest leads past old answer new after (f, between, is, h) =
      k.asked f old between new after (fixlet_quiet at part.fixlet old f between is) (after_coming_leads part left rest leads f past between answer new after h)

  pub through_leads : (left : List Part) → Leads (Through at a left)
  through_leads [] = ends_lead
  through_leads (part ∷ left) = coming_leads part left (Through at a left) (through_leads left)

  stage_leads : (part : Part) (left : List Part) (stage : PlainStage) → Leads (FromStage at a part left stage)
  stage_leads part left coming = coming_leads part left (Through at a left) (through_leads left)
  stage_leads part left starting = starting_leads part left (Through at a left) (through_leads left)
  stage_leads part left (running walk None) = running_leads part left walk (Through at a left) (through_leads left)
  stage_leads part left (running walk (Some digest)) = stays_lead (part ∷ left) (running walk (Some digest)) _
  stage_leads part left (judging exit) = judging_leads part left exit (Through at a left) (through_leads left)

  left_leads : (left : List Part) → Leads (FromLeft at a left)
  left_leads [] = ends_lead
  left_leads (part ∷ left) = stage_leads part left a.stage

  pub going_leads : (old : MachineView) (answer : Went) (new : MachineView) (after : Option PlainAttempt) → GoesOn at a old answer new after → P old new after
  going_leads old answer new after h = left_leads a.left a.past old answer new after h

-- ---- what is held then is the same attempt
stays_same : (at : When) (a : PlainAttempt) → Points at a (λ old new after. IfSome after (SameAttempt a))
stays_same at a = record {
  ends = λ v. tt;
  stays = λ v left stage past. record { action = refl; row = refl; offset = refl };
  asked = λ f old between new after quiet same. same;
  runs = λ walk further came old between new after advances same. same;
}

pub going_same : (at : When) (a : PlainAttempt) (old : MachineView) (answer : Went) (new : MachineView) (after : Option PlainAttempt) → GoesOn at a old answer new after → IfSome after (SameAttempt a)
going_same at a old answer new after h = going_leads at a (λ old new after. IfSome after (SameAttempt a)) (stays_same at a) old answer new after h

-- ---- and the machine's counts are no less
abbrev pub Later : MachineView → MachineView → Option PlainAttempt → Type 0
Later old new after = IsLater old new

pub later_points : (at : When) (a : PlainAttempt) → Points at a Later
later_points at a = record {
  ends = λ v. later_refl v;
  stays = λ v left stage past. later_refl v;
  asked = λ f old between new after quiet later. later_trans old between new (later_looks old between quiet.only) later;
  runs = λ walk further came old between new after advances later. later_trans old between new (advances_later at old walk came between further advances) later;
}

pub going_later : (at : When) (a : PlainAttempt) (old : MachineView) (answer : Went) (new : MachineView) (after : Option PlainAttempt) → GoesOn at a old answer new after → IsLater old new
going_later at a = going_leads at a Later (later_points at a)

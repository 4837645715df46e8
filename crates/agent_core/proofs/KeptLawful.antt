-- Lawful rows stay lawful over a turn, the agent's and the saved ones.
use Rattle.std.proofs.Common.{◌≡◌, List, Contains, Some, subst}
use Rattle.std.proofs.lemmas.List.Elements.{All-contains}
use Rattle.desk_base.specs.Moments.{IsMoment}
use Rattle.act_rules.specs.declared.rule.Rules.{Rules}
use Rattle.act_rules.specs.declared.row.Outcome.TheVariants.{Interrupted}
use Rattle.act_rules.specs.Owed.{IsOwed}
use Rattle.fix_site.specs.declared.action.Action.{Action}
use Rattle.act_rules.specs.Notes.{no_note}
use Rattle.script_run.specs.Asking.{When}
use Rattle.bf_machine.specs.Views.{MachineView}
use Rattle.agent_text.specs.declared.saved.Saved.{Saved}
use Rattle.agent_text.specs.Histories.{AreHistories, PlainHistory, rows_at}
use Rattle.agent_text.specs.Pockets.{Holds}
use Rattle.agent_text.specs.SavedTexts.{IsSaved}
use Rattle.agent_text.proofs.SavedAnswers.{LinesAgain}
use Rattle.agent_attempt.specs.declared.found.Found.TheVariants as found
use Rattle.agent_attempt.specs.ActionContents.{actions_of, content_of}
use Rattle.agent_attempt.specs.Relevance.{IsDue}
use Rattle.agent_core.specs.declared.turned.Turned.{Turned}
use Rattle.agent_state.specs.States.{IsSound, State, interrupted, new_row, next_row, saved_of, text_of, with_beginning, with_histories, with_report}
use Rattle.agent_core.specs.Devices.{Devices}
use Rattle.agent_core.specs.Stops.{AreLawful, AreLawfulIn, BothLawful, HaveRules, Table}
use Rattle.agent_core.specs.Turns.{Marks, Turn, outcome_of}
use Rattle.agent_core.proofs.Due.{due_may}
use Rattle.agent_core.proofs.Begun.{ChangedHistories, marked_kept, saved_beginning, sound_broken}
use Rattle.agent_core.proofs.Holding.{after_done, after_failed, after_memory}
use Rattle.agent_core.proofs.LawfulRows.{LawfulChanges, lawful_begun, lawful_cleared, lawful_ended, lawful_reported}
use Rattle.agent_core.proofs.SavedOnce.{OneSaved, own_text, saved_once}
use Rattle.agent_core.proofs.Sounding.{sound_saved}
use Rattle.agent_core.proofs.TurnPoints.{Keeps, turn_keeps}

-- what the proof takes of other crates
pub record Laws : Type 0 where
  pub histories : ChangedHistories
  pub rows : LawfulChanges
  pub one : OneSaved
  pub lines : LinesAgain

-- the text of a state has its rows alone
lawful_own : Laws → (table : Table) (s : State) → IsSaved (saved_of s) → AreLawful table s.histories → AreLawfulIn table (Some (text_of s))
lawful_own law table s is lawful other text =
    let same = saved_once law.one law.lines (text_of s) (saved_of s) other (own_text s is) text in
    subst (λ (x : Saved). AreLawful table x.histories) same lawful

-- ---- the points of a turn
abbrev In : Table → Devices → Type 0
In table d = Holds d.pocket.saved (AreLawfulIn table)

record Stood (table : Table) (s : State) (d : Devices) : Type 0 where
  sound : IsSound s
  rules : HaveRules table (actions_of s.sites)
  lawful : AreLawful table s.histories
  saved : In table d

record Tried (table : Table) (marks : Marks) (s : State) (d : Devices) : Type 0 where
  sound : IsSound s
  rules : HaveRules table (actions_of s.sites)
  lawful : AreLawful table s.histories
  saved : In table d
  good : AreHistories marks.histories
  marked : AreLawful table marks.histories

abbrev Came : Table → State → Devices → Type 0
Came table s d = IsSound s → BothLawful table s d.pocket.saved

-- the row of what is due is owed
owed_by : (table : Table) (action : Action) (s : State) (at : When) (hs : List PlainHistory) → HaveRules table (actions_of s.sites) → Contains (actions_of s.sites) action → IsOwed action.rules (rows_at action.id hs) at.moment
    → IsOwed (table action.id) (rows_at action.id hs) at.moment
owed_by table action s at hs rules among owed =
    let same : action.rules ≡ table action.id = All-contains (λ (a : Action). a.rules ≡ table a.id) (actions_of s.sites) action rules among in
    subst (λ (r : Rules). IsOwed r (rows_at action.id hs) at.moment) same owed

keeps_lawful : Laws → (table : Table) (at : When) → IsMoment at.moment →
    Keeps at (λ s d. Stood table s d) (λ marks s d. Tried table marks s d) (λ began attempt s d. BothLawful table s d.pocket.saved) (λ changed would s d. BothLawful table s d.pocket.saved) (λ a s d. Came table s d)
keeps_lawful law table at time = record {
  memory = λ s d a is. (a.lawful, a.saved);
  broken_done = λ s d id pocket a broken saves.
      let good = sound_broken law.histories s id at.moment time a.sound broken in
      let lawful = lawful_ended law.rows table id at.moment Interrupted no_note s.histories a.lawful in
      (lawful, after_done (AreLawfulIn table) _ d.pocket.saved pocket.saved saves.saves (lawful_own law table (interrupted id at.moment s) good.saved lawful));
  broken_failed = λ s d id pocket a broken saves is.
      let lawful = lawful_ended law.rows table id at.moment Interrupted no_note s.histories a.lawful in
      (lawful, after_failed (AreLawfulIn table) _ d.pocket.saved pocket.saved saves.saves a.saved (lawful_own law table (interrupted id at.moment s) is.saved lawful));
  broken_memory = λ s d id pocket a broken saves is.
      (lawful_ended law.rows table id at.moment Interrupted no_note s.histories a.lawful, after_memory (AreLawfulIn table) (text_of (interrupted id at.moment s)) d.pocket.saved pocket.saved saves.saves a.saved);
  resumes = λ s d attempt a broken held. (a.lawful, a.saved);
  held = λ began attempt s d component line machine after g goes. g;
  wants = λ began attempt s d digest machine after g goes. g;
  ends = λ began attempt s d fail note machine after g goes. (lawful_ended law.rows table attempt.action.id at.moment (outcome_of fail) note s.histories g.0, g.1);
  lacks = λ began attempt s d machine after g goes is. g;
  tries = λ s d a broken held. record { sound = a.sound; rules = a.rules; lawful = a.lawful; saved = a.saved; good = a.sound.saved.histories; marked = a.lawful };
  tested = λ marks s d action machine t may asks. record { sound = t.sound; rules = t.rules; lawful = t.lawful; saved = t.saved; good = t.good; marked = t.marked };
  marked = λ marks s d action machine t may asks. record {
    sound = t.sound;
    rules = t.rules;
    lawful = t.lawful;
    saved = t.saved;
    good = marked_kept law.histories marks.histories action.id at.moment time t.good may;
    marked = lawful_cleared law.rows table action.id at.moment marks.histories t.marked;
  };
  test_failed = λ marks s d action machine t asks is. (t.lawful, t.saved);
  test_memory = λ marks s d action machine t asks is. (t.lawful, t.saved);
  passed = λ marks s d action machine t asks. record { sound = t.sound; rules = t.rules; lawful = t.lawful; saved = t.saved; good = t.good; marked = t.marked };
  try_failed = λ marks s d action machine t asks is. (t.lawful, t.saved);
  try_memory = λ marks s d action machine t asks is. (t.lawful, t.saved);
  begun_done = λ marks s d action content machine pocket t due there among saves.
      let begun = begins marks s d action machine t due among in
      (begun.0, after_done (AreLawfulIn table) _ d.pocket.saved pocket.saved saves.saves begun.1);
  begun_failed = λ marks s d action machine pocket t due among saves is.
      (t.marked, after_failed (AreLawfulIn table) _ d.pocket.saved pocket.saved saves.saves t.saved (begins marks s d action machine t due among).1);
  begun_memory = λ marks s d action machine pocket t due saves is. (t.lawful, after_memory (AreLawfulIn table) (text_of (with_beginning action.id at.moment (with_histories marks.histories s))) d.pocket.saved pocket.saved saves.saves t.saved);
  no_memory = λ marks s d t is. (t.lawful, t.saved);
  idle = λ marks s d t. (t.marked, t.saved);
  reported_done = λ changed would s d pocket b can saves is.
      let lawful = lawful_reported table 500 s.histories b.0 in
      (lawful, after_done (AreLawfulIn table) _ d.pocket.saved pocket.saved saves.saves (lawful_own law table (with_report s) is.saved lawful));
  reported_failed = λ changed would s d pocket b can saves is.
      let lawful = lawful_reported table 500 s.histories b.0 in
      (lawful, after_failed (AreLawfulIn table) _ d.pocket.saved pocket.saved saves.saves b.1 (lawful_own law table (with_report s) is.saved lawful));
  reported_memory = λ changed would s d pocket b can saves is.
      (lawful_reported table 500 s.histories b.0, after_memory (AreLawfulIn table) (text_of (with_report s)) d.pocket.saved pocket.saved saves.saves b.1);
  changed_done = λ would s d pocket b saves is. (b.0, after_done (AreLawfulIn table) _ d.pocket.saved pocket.saved saves.saves (lawful_own law table s is.saved b.0));
  changed_failed = λ would s d pocket b saves is. (b.0, after_failed (AreLawfulIn table) _ d.pocket.saved pocket.saved saves.saves b.1 (lawful_own law table s is.saved b.0));
  changed_memory = λ would s d pocket b saves is. (b.0, after_memory (AreLawfulIn table) (text_of s) d.pocket.saved pocket.saved saves.saves b.1);
  unchanged = λ would s d b is. b;
}
  where
    begins : (marks : Marks) (s : State) (d : Devices) (action : Action) (machine : MachineView) → Tried table marks s d
        → IsDue at s.computer action (content_of action s.sites) (rows_at action.id marks.histories) d.machine found.Yes machine → Contains (actions_of s.sites) action
        → AreLawful table (with_beginning action.id at.moment (with_histories marks.histories s)).histories × AreLawfulIn table (Some (text_of (with_beginning action.id at.moment (with_histories marks.histories s))))
    begins marks s d action machine t due among =
        let may = due_may at s.computer action (content_of action s.sites) (rows_at action.id marks.histories) d.machine machine due in
        let good = saved_beginning law.histories at s marks.histories action time t.sound t.good among may in
        let owed = owed_by table action s at marks.histories t.rules among may.owed in
        let lawful = lawful_begun law.rows table action.id (new_row (next_row action.id marks.histories) at.moment) marks.histories owed t.marked in
        (lawful, lawful_own law table (with_beginning action.id at.moment (with_histories marks.histories s)) good lawful)

pub turn_lawful : Laws → (table : Table) (at : When) → IsMoment at.moment → (s s2 : State) (d d2 : Devices) (answer : Turned) → Turn at s d answer s2 d2 → IsSound s → IsSound s2 → HaveRules table (actions_of s.sites)
    → BothLawful table s d.pocket.saved → BothLawful table s2 d2.pocket.saved
turn_lawful law table at time s s2 d d2 answer turn is is2 rules both =
    let own = lawful_own law table s is.saved both.0 in
    turn_keeps at (λ s d. Stood table s d) (λ marks s d. Tried table marks s d) (λ began attempt s d. BothLawful table s d.pocket.saved) (λ changed would s d. BothLawful table s d.pocket.saved) (λ a s d. Came table s d)
    (keeps_lawful law table at time) answer s2 d2 s d
    (λ e. record { sound = is; rules = rules; lawful = both.0; saved = both.1 })
    (λ pocket saves. record { sound = sound_saved s is; rules = rules; lawful = both.0; saved = after_done (AreLawfulIn table) _ d.pocket.saved pocket.saved saves.saves own })
    (λ pocket saves is. (both.0, after_failed (AreLawfulIn table) _ d.pocket.saved pocket.saved saves.saves both.1 own))
    (λ pocket saves is. (both.0, after_memory (AreLawfulIn table) (text_of s) d.pocket.saved pocket.saved saves.saves both.1)) turn is2

-- The reports that an agent shows in its outbox: those that are saved.
use Rattle.std.specs.Prelude.{◌≡◌, ◌⊎◌, ℕ, true, List, length, take, All, Contains, Option, Some, None}
use Rattle.report_text.specs.declared.report.Report.{Report}
use Rattle.agent_text.specs.declared.saved.Saved.{Saved}
use Rattle.agent_text.specs.Pockets.{Holds}
use Rattle.agent_core.specs.Stops.{IsTextOfSaved}
use Rattle.agent_state.specs.States.{State}

-- all reports are shown
abbrev pub ShowsAll : State → Type 0
ShowsAll s = s.shown ≡ length s.reports

-- the reports that are shown
abbrev pub shown_reports : State → List Report
shown_reports s = take s.shown s.reports

-- the report stands in the saved text
abbrev pub StandsIn : Option (List ℕ) → Report → Type 0
StandsIn None report = ⊥
StandsIn (Some text) report = (saved : Saved) × IsTextOfSaved text saved × Contains saved.reports report

-- What holds of every agent and its pocket: the agent is unsaved or shows all its reports, and those that it shows stand in the pocket's
-- text, where this is told.
pub record ShowsSaved (s : State) (told : Option (Option (List ℕ))) : Type 0 where
  pub all : (s.unsaved ≡ true) ⊎ ShowsAll s
  pub stand : Holds told (λ now. All (StandsIn now) (shown_reports s))

-- An agent as contracts see it: its state, with the attempt that is held as the code keeps it.
use Rattle.std.specs.Prelude.{ℕ, List, Bool, Option}
use Rattle.std.specs.Option.{option_map}
use Rattle.report_text.specs.declared.report.Report.{Report}
use Rattle.fix_site.specs.declared.site.Site.{Site}
use Rattle.agent_text.specs.Histories.{PlainHistory}
use Rattle.agent_attempt.specs.Stages.{AttemptState, shown_attempt}
use Rattle.agent_state.specs.States.{State}

pub record AgentState : Type 0 where
  pub computer : List ℕ
  pub sites : List Site
  pub next : ℕ
  pub histories : List PlainHistory
  pub reports : List Report
  pub shown : ℕ
  pub held : Option AttemptState
  pub unsaved : Bool

-- the state that it is
abbrev pub shown_state : AgentState → State
shown_state a = record {
  computer = a.computer;
  sites = a.sites;
  next = a.next;
  histories = a.histories;
  reports = a.reports;
  shown = a.shown;
  held = option_map shown_attempt a.held;
  unsaved = a.unsaved;
}

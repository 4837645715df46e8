-- What opening an agent from its pocket answers.
use Rattle.std.specs.Prelude.{◌≡◌, ℕ, List, [], length, false, Option, Some, None, ⊤, Ok, Err}
use Rattle.desk_base.specs.Counts.{CountsFaults}
use Rattle.agent_text.specs.declared.saved.Saved.{Saved}
use Rattle.agent_text.specs.declared.error.SavedError.TheVariants as error
use Rattle.agent_text.specs.Pockets.{Holds, PocketView}
use Rattle.agent_text.specs.SavedTexts.{ReadsSaved}
use Rattle.agent_core.specs.declared.opening.Opened.{Opened}
use Rattle.agent_core.specs.declared.opening.Opened.TheVariants as opened
use Rattle.agent_core.specs.Agents.{shown_state}
use Rattle.agent_core.specs.Stops.{BothLawful, Table}
use Rattle.agent_state.specs.States.{State}

-- the agent of what was saved: all of its reports are saved, and it has no site and holds no attempt
abbrev pub opened_state : Saved → State
opened_state saved = record {
  computer = saved.computer;
  sites = [];
  next = saved.next;
  histories = saved.histories;
  reports = saved.reports;
  shown = length saved.reports;
  held = None;
  unsaved = false;
}

-- an agent that has done nothing yet
abbrev pub new_state : List ℕ → State
new_state computer = opened_state (record { computer = computer; next = 1; histories = []; reports = [] })

-- the agent of a pocket with this text, or without one
abbrev pub IsAgentOf : List ℕ → Option (List ℕ) → State → Type 0
IsAgentOf computer None s = s ≡ new_state computer
IsAgentOf computer (Some text) s = (saved : Saved) × ReadsSaved computer text (Ok saved) × (s ≡ opened_state saved)

-- An agent is that of the pocket's text, and a bad line is the first one of it, which is the one that names another computer where one
-- does. A fault and want of memory say nothing of it. `told` is what the pocket tells of its text; where it tells nothing, the agent is
-- that of some text.
abbrev pub OpensAgent : List ℕ → Option (Option (List ℕ)) → Opened → Type 0
OpensAgent computer told (opened.Agent agent) =
    (saved : Option (List ℕ)) × Holds told (λ now. now ≡ saved) × IsAgentOf computer saved (shown_state agent)
OpensAgent computer told (opened.BadPocket line) =
    (text : List ℕ) × Holds told (λ now. now ≡ Some text) × ReadsSaved computer text (Err (error.BadLine line))
OpensAgent computer told opened.PocketFault = ⊤
OpensAgent computer told opened.Memory = ⊤

-- An agent is opened from a pocket, which keeps its text.
pub record OpensFrom (computer : List ℕ) (old : PocketView) (answer : Opened) (new : PocketView) : Type 0 where
  pub opens : OpensAgent computer old.saved answer
  pub saved : new.saved ≡ old.saved
  pub counts : CountsFaults (answer ≡ opened.PocketFault) old.faults new.faults

-- Where an agent was opened, its rows are lawful, and those of its pocket.
abbrev pub OpensLawful : Table → Opened → Option (Option (List ℕ)) → Type 0
OpensLawful table (opened.Agent agent) told = BothLawful table (shown_state agent) told
OpensLawful table answer told = ⊤

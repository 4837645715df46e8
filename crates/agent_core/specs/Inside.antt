-- What contracts see of an agent, and what holds of each.
use Rattle.std.specs.Prelude.{◌≡◌, ℕ, None, Some}
use Rattle.agent_attempt.specs.ActionContents.{actions_of}
use Rattle.agent_attempt.specs.Attempts.{PlainAttempt, StageWaitsBelow}
use Rattle.agent_core.specs.declared.kept_state.KeptState.{KeptState}
use Rattle.agent_core.specs.Agents.{AgentState, shown_state}
use Rattle.agent_core.specs.Stops.{HeldWaitsBelow}
use Rattle.agent_state.specs.States.{HeldRuns, State, IsSound}
use Rattle.agent_state.specs.Lookups.{TalliesStand}

abbrev pub agent_of : KeptState → AgentState
agent_of a = record {
  computer = a.name;
  sites = a.sites;
  next = a.next;
  histories = a.histories;
  reports = a.outbox.reports;
  shown = a.outbox.shown;
  held = a.held;
  unsaved = a.unsaved;
}

abbrev pub state_of : KeptState → State
state_of a = shown_state (agent_of a)

-- the state is sound, and the tallies are those of the gathered actions
pub record IsSoundKept (a : KeptState) : Type 0 where
  pub sound : IsSound (state_of a)
  pub tallies : TalliesStand a.tallies (actions_of a.sites) a.histories

-- they are sound on a machine that started so many programs: the one that the held attempt waits for is one of those
pub record AreSoundOn (started : ℕ) (a : KeptState) : Type 0 where
  pub sound : IsSoundKept a
  pub waits : HeldWaitsBelow started (state_of a).held

-- this attempt, whose row runs, can go on on such a machine; no other is held
pub record CanGoOn (started : ℕ) (attempt : PlainAttempt) (a : KeptState) : Type 0 where
  pub sound : IsSoundKept a
  pub free : a.held ≡ None
  pub runs : HeldRuns (Some attempt) a.histories
  pub waits : StageWaitsBelow started attempt.stage

-- An agent over a pocket that tells its text, call by call, with stops among the calls.
use Rattle.std.specs.Prelude.{◌≡◌, ℕ, List, [], ◌∷◌, Bool, Option, Some, ⊤}
use Rattle.desk_base.specs.Moments.{IsMoment}
use Rattle.report_text.specs.declared.answer.Gathered.{Gathered}
use Rattle.report_text.specs.declared.answer.Verdict.{Verdict}
use Rattle.fix_site.specs.declared.site.Site.{Site}
use Rattle.fix_site.specs.Sites.{IsSite}
use Rattle.script_run.specs.Asking.{When}
use Rattle.agent_attempt.specs.ActionContents.{actions_of}
use Rattle.agent_core.specs.declared.opening.Opened.TheVariants as opened
use Rattle.agent_core.specs.declared.turned.Turned.{Turned}
use Rattle.agent_core.specs.Agents.{AgentState, shown_state}
use Rattle.agent_state.specs.Changes.{GathersSite, SettlesState, SuppliesState}
use Rattle.agent_core.specs.Opens.{OpensAgent}
use Rattle.agent_state.specs.States.{IsSound, State}
use Rattle.agent_core.specs.Devices.{Devices}
use Rattle.agent_core.specs.Stops.{HaveRules, Table}
use Rattle.agent_core.specs.Turns.{Turn}

pub data Call : Type 0 where
  -- a site is gathered
  gathers : (site : Site) → Call
  -- a turn is made
  turns : (at : When) → Call
  -- a file comes, or that it isn't served
  supplies : (digest : List ℕ) (bytes : Option (List ℕ)) → Call
  -- the verdict on a report comes
  settles : (seq : ℕ) (verdict : Verdict) → Call
  -- The agent is stopped, and another one is opened from the pocket. A stop within a turn is that turn, with each later save failing and
  -- leaving the old text, and then this.
  restarts : Call

-- a call that meets its conditions, the gathered actions having these rules
abbrev pub IsCall : Table → Call → Type 0
IsCall table (gathers site) = IsSite site × HaveRules table (actions_of (site ∷ []))
IsCall table (turns at) = IsMoment at.moment
IsCall table call = ⊤

-- where an agent stands: its state, the text of its pocket, and its machine's count of faults
pub record Point : Type 0 where
  pub state : State
  pub saved : Option (List ℕ)
  pub faults : ℕ

-- A turn leads from one point to another, its devices telling what stands there.
pub record MakesTurn (at : When) (old : Point) (answer : Turned) (new : Point) : Type 0 where
  pub before : Devices
  pub after : Devices
  pub turn : Turn at old.state before answer new.state after
  pub saved_before : before.pocket.saved ≡ Some old.saved
  pub saved_after : after.pocket.saved ≡ Some new.saved
  pub faults_before : before.machine.faults ≡ old.faults
  pub faults_after : after.machine.faults ≡ new.faults

abbrev pub point : State → Option (List ℕ) → ℕ → Point
point s saved faults = record { state = s; saved = saved; faults = faults }

-- what a call does to an agent and to the text of its pocket
abbrev pub Does : Call → State → Option (List ℕ) → State → Option (List ℕ) → Type 0
Does (gathers site) s saved s2 saved2 = (answer : Gathered) × GathersSite s site answer s2 × (saved2 ≡ saved)
Does (turns at) s saved s2 saved2 =
    (answer : Turned) × (faults : ℕ) × (faults2 : ℕ) × MakesTurn at (point s saved faults) answer (point s2 saved2 faults2)
Does (supplies digest bytes) s saved s2 saved2 = (answer : Bool) × SuppliesState s digest bytes answer s2 × (saved2 ≡ saved)
Does (settles seq verdict) s saved s2 saved2 = (answer : Bool) × SettlesState seq verdict s answer s2 × (saved2 ≡ saved)
Does restarts s saved s2 saved2 =
    (agent : AgentState) × OpensAgent s.computer (Some saved) (opened.Agent agent) × (s2 ≡ shown_state agent) × (saved2 ≡ saved)

-- what calls do, one after another; each state is sound, as those of agents are
abbrev pub DoAll : List Call → State → Option (List ℕ) → State → Option (List ℕ) → Type 0
DoAll [] s saved s2 saved2 = (s2 ≡ s) × (saved2 ≡ saved)
DoAll (call ∷ calls) s saved s2 saved2 =
    (between : State) × (then : Option (List ℕ)) × Does call s saved between then × IsSound between
    × DoAll calls between then s2 saved2

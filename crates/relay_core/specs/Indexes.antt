-- How queued reports and known keys are found by key. Only private functions cite these definitions.
use Rattle.std.specs.Prelude.{◌≡◌, ℕ, cond, List, ◌++◌, map, Some, None, IsSome}
use Rattle.std.specs.declared.option.Option.{Option}
use Rattle.std.specs.declared.cmp.Ordering.{Ordering}
use Rattle.std.specs.Ordering.{nat_cmp, ordering_then}
use Rattle.std.specs.Cmp.Lexicographic.{slice_cmp}
use Rattle.std.specs.Map.{lookup}
use Rattle.std.specs.BTreeMap.{BTreeMap, get, is_at}
use Rattle.report_text.specs.declared.report.Report.{Report}
use Rattle.relay_core.specs.declared.key.Key.{Key}
use Rattle.relay_core.specs.declared.report_queue.KeyState.{KeyState}
use Rattle.relay_core.specs.declared.report_queue.KeyState.TheVariants.{Queued, Held}
use Rattle.relay_core.specs.ReportKeys.{ReportKey, same_key, digested, held_digest, queued_digest}

-- what is queued, and what the server is known to hold
pub record QueueState : Type 0 where
  pub queue : List Report
  pub held : List (ReportKey × List ℕ)

-- the key that is kept as this one
abbrev pub shown_key : Key → ReportKey
shown_key key = record { computer = key.computer.bytes; seq = key.seq }

-- the order of kept keys
abbrev pub key_cmp : Key → Key → Ordering
key_cmp key other =
    ordering_then (slice_cmp nat_cmp key.computer.bytes other.computer.bytes) (nat_cmp key.seq other.seq)

-- n has this state at the key, and what m has at each other one
abbrev pub Writes : BTreeMap Key KeyState → Key → Option KeyState → BTreeMap Key KeyState → Type 0
Writes m key state n = (other : Key) → get key_cmp n other ≡ cond (is_at (key_cmp key) other) state (get key_cmp m other)

-- the key has a state
abbrev pub HasState : BTreeMap Key KeyState → Key → Type 0
HasState states key = IsSome (get key_cmp states key)

-- each known and each queued key, with its digest
abbrev pub all_keys : QueueState → List (ReportKey × List ℕ)
all_keys reports = reports.held ++ map digested reports.queue

-- the states of these keys
abbrev pub states_by : (List ℕ → KeyState) → List (ReportKey × List ℕ) → List (ReportKey × KeyState)
states_by state keys = map (λ entry. (entry.0, state entry.1)) keys

abbrev pub key_states : QueueState → List (ReportKey × KeyState)
key_states reports = states_by Held reports.held ++ states_by Queued (map digested reports.queue)

-- the state of this key
abbrev pub state_of : QueueState → ReportKey → Option KeyState
state_of reports key = lookup (same_key key) (key_states reports)

-- the state is that of a key of which this is held and this queued
abbrev pub IsState : Option (List ℕ) → Option (List ℕ) → Option KeyState → Type 0
IsState held queued None = (held ≡ None) × (queued ≡ None)
IsState held queued (Some (Queued digest)) = (held ≡ None) × (queued ≡ Some digest)
IsState held queued (Some (Held digest)) = (held ≡ Some digest) × (queued ≡ None)

-- the state of this key
abbrev pub FindsState : QueueState → ReportKey → Option KeyState → Type 0
FindsState reports key state = IsState (held_digest reports.held key) (queued_digest reports.queue key) state

-- nothing is known of this key, and no report of it is queued
abbrev pub IsNewKey : QueueState → ReportKey → Type 0
IsNewKey reports key = FindsState reports key None

-- a report of this key is queued
abbrev pub IsQueued : QueueState → ReportKey → Type 0
IsQueued reports key = IsSome (queued_digest reports.queue key)

-- What `relay` does with files where it has a cache, by its whole steps. Only the law of that cites this.
use Rattle.std.specs.Prelude.{◌≡◌, ◌<◌, ◌⊎◌, ℕ, List, Some}
use Rattle.std.specs.declared.option.Option.{Option}
use Rattle.desk_base.specs.declared.sink.Put.TheVariants as put
use Rattle.relay_cache.specs.CachedFiles.{CacheState}
use Rattle.relay_core.specs.Relays.{RelayState, desk_queue, empty_relay}
use Rattle.desk_serve.specs.declared.step.Stop.{Stop}
use Rattle.desk_runs.specs.KeptFiles.{FileCall, KeepsFiles}
use Rattle.desk_runs.specs.RelayRuns.{BreaksNext, RelayRun, talk_count}
use Rattle.desk_runs.specs.RelaySteps.{BreaksRound, RelayScene}
use Rattle.desk_top.specs.declared.command.RelayWords.{RelayWords}
use Rattle.desk_top.specs.Relayed.{OpensRelay, Relaying, empty_cache, relay_at}

-- what the steps of a relay begin with that has a cache of this room
abbrev pub begins_at : ℕ → Relaying → RelayScene
begins_at room opened = relay_at (empty_relay desk_queue) (empty_cache (Some room)) opened

-- The upstream was named and the door opened, and a relay whose cache kept nothing made these whole steps, in which these files were asked
-- for, the latest first.
pub record AsksFiles (asked : RelayWords) (room : ℕ) (old : Relaying) (run : RelayRun) (calls : List FileCall) (left : RelayScene) : Type 0 where
  pub opened : Relaying
  pub opens : OpensRelay asked old put.Done opened
  pub keeps : KeepsFiles room (begins_at room opened) run calls left

-- P holds of such steps and of what they left
abbrev pub AsksSomeFiles : RelayWords → ℕ → Relaying → (RelayRun → RelayScene → Type 0) → Type 0
AsksSomeFiles asked room old P =
    (run : RelayRun) × (calls : List FileCall) × (left : RelayScene) × AsksFiles asked room old run calls left × P run left

-- the devices were left so, with what the relay and its cache keep
abbrev pub LeavesRelay : RelayScene → Relaying → Type 0
LeavesRelay left new = (last : RelayState) × (kept : Option CacheState) × (left ≡ relay_at last kept new)

-- So many conversations were held, and a round after each.
abbrev pub RelaysFiles : RelayWords → ℕ → Relaying → Relaying → Type 0
RelaysFiles asked room old new = AsksSomeFiles asked room old (λ run left. (talk_count run ≡ asked.count) × LeavesRelay left new)

-- The first round broke, or a step behind whole ones, of fewer conversations.
abbrev pub BreaksFiles : RelayWords → ℕ → Relaying → Stop → Relaying → Type 0
BreaksFiles asked room old why new =
    ((opened : Relaying) × (broken : RelayScene) × OpensRelay asked old put.Done opened
    × BreaksRound (begins_at room opened) why broken × LeavesRelay broken new)
    ⊎ AsksSomeFiles asked room old
    (λ run left. (talk_count run < asked.count) × (broken : RelayScene) × BreaksNext left why broken × LeavesRelay broken new)

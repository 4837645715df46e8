-- What the line loop did over the tables of a keeper, whatever the machine borrows, and where nothing was looked up before.
use Rattle.std.proofs.Common.{◌≡◌, [], ℕ, pos, List, None, Result, Ok, Err, MatchResult, subst}
use Rattle.bf_world.specs.declared.key.Key.{Key}
use Rattle.rel_session.specs.declared.halt.Halt.{Halt}
use Rattle.rel_session.specs.Devices.{DidAll, DidFront}
use Rattle.rel_session.specs.Sessions.{fresh}
use Rattle.session_view.specs.Asking.{DidFrontOverTables, DidOverTables, RanOver, TableDevices, shown_devices}
use Rattle.session_view.specs.Readings.{SessionReads}

-- a run is the same whatever the machine borrows
freed : (lines : List (List ℕ)) (old new : TableDevices) (looked later : List Key) (holds borrowed : List ℕ)
    → DidAll SessionReads (pos 0) fresh lines None (shown_devices old looked holds) (shown_devices new later borrowed)
    → DidAll SessionReads (pos 0) fresh lines None (shown_devices old looked []) (shown_devices new later [])
freed lines old new looked later holds borrowed (moments, run, runs, did) =
    (moments, run, runs, record { written = did.written; looked = did.looked; faults = did.faults; dated = did.dated })

freed_front : (lines : List (List ℕ)) (old new : TableDevices) (looked later : List Key) (holds borrowed : List ℕ)
    → DidFront SessionReads (pos 0) fresh lines None (shown_devices old looked holds) (shown_devices new later borrowed)
    → DidFront SessionReads (pos 0) fresh lines None (shown_devices old looked []) (shown_devices new later [])
freed_front lines old new looked later holds borrowed (moments, front, is, did) =
    (moments, front, is, record { written = did.written; looked = did.looked; faults = did.faults; dated = did.dated })

pub ran_by : (r : Result Unit Halt) (lines : List (List ℕ)) (old new : TableDevices) (looked later : List Key) (holds borrowed : List ℕ)
    → MatchResult r (λ _. DidAll SessionReads (pos 0) fresh lines None (shown_devices old looked holds) (shown_devices new later borrowed))
    (λ _. DidFront SessionReads (pos 0) fresh lines None (shown_devices old looked holds) (shown_devices new later borrowed))
    → RanOver r lines old looked new later
ran_by (Ok u) lines old new looked later holds borrowed did = freed lines old new looked later holds borrowed did
ran_by (Err e) lines old new looked later holds borrowed did = freed_front lines old new looked later holds borrowed did

over : (r : Result Unit Halt) (lines : List (List ℕ)) (old new : TableDevices) (later : List Key) → RanOver r lines old [] new later
    → MatchResult r (λ _. DidOverTables lines old new) (λ _. DidFrontOverTables lines old new)
over (Ok u) lines old new later did = (later, [], did)
over (Err e) lines old new later did = (later, [], did)

pub ran_over : (r : Result Unit Halt) (lines : List (List ℕ)) (old new : TableDevices) (looked later : List Key) → looked ≡ []
    → RanOver r lines old looked new later → MatchResult r (λ _. DidOverTables lines old new) (λ _. DidFrontOverTables lines old new)
ran_over r lines old new looked later none ran = over r lines old new later (subst (λ (l : List Key). RanOver r lines old l new later) none ran)

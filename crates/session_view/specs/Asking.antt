-- What question lines over the tables do to the sink, the keeper and the clock, where they tell it.
use Rattle.std.specs.Prelude.{◌≡◌, ℕ, ◌≤◌, pos, List, [], None, Result, MatchResult, option_map}
use Rattle.desk_base.specs.Counts.{CountsFaults}
use Rattle.desk_base.specs.Views.{SinkView, ClockView}
use Rattle.bf_world.specs.declared.key.Key.{Key}
use Rattle.desk_keep.specs.Views.{KeeperView}
use Rattle.rel_session.specs.declared.halt.Halt.{Halt}
use Rattle.rel_session.specs.Devices.{Devices, devices, DidAll, DidFront}
use Rattle.rel_session.specs.Sessions.{fresh}
use Rattle.session_view.specs.Readings.{SessionReads}
use Rattle.session_tables.specs.Worlds.{tables_view, tables_world}

-- what the devices tell
pub record TableDevices : Type 0 where
  pub sink : SinkView
  pub keeper : KeeperView
  pub clock : ClockView

-- the devices that tell this
abbrev pub table_devices : SinkView → KeeperView → ClockView → TableDevices
table_devices sink keeper clock = record { sink = sink; keeper = keeper; clock = clock }

-- the devices of a run of question lines, where these keys were looked up and these references are held
abbrev pub shown_devices : TableDevices → List Key → List ℕ → Devices
shown_devices d looked holds = devices d.sink (tables_view d.keeper looked holds) d.clock

-- All lines were run over the world of the tables, each question at a moment of the clock and at offset 0.
abbrev pub DidOverTables : List (List ℕ) → TableDevices → TableDevices → Type 0
DidOverTables lines old new =
    (looked : List Key) × (holds : List ℕ) × DidAll SessionReads (pos 0) fresh lines None (shown_devices old [] holds) (shown_devices new looked holds)

-- A front of that was done.
abbrev pub DidFrontOverTables : List (List ℕ) → TableDevices → TableDevices → Type 0
DidFrontOverTables lines old new =
    (looked : List Key) × (holds : List ℕ) × DidFront SessionReads (pos 0) fresh lines None (shown_devices old [] holds) (shown_devices new looked holds)

-- Nothing was done but to read, to write and to ask for moments: what is shown of the rows stays; the counts of the sink and the clock rose
-- where these failed, and stayed where they didn't.
pub record OnlyAsksTables (sink_failed clock_failed : Type 0) (old new : TableDevices) : Type 0 where
  pub shown : option_map tables_world new.keeper.rows ≡ option_map tables_world old.keeper.rows
  pub later : old.keeper.faults ≤ new.keeper.faults
  pub sink : CountsFaults sink_failed old.sink.faults new.sink.faults
  pub clock : CountsFaults clock_failed old.clock.faults new.clock.faults

-- All lines were run, or a front of that, where these keys were looked up before and after. Only private functions cite this.
abbrev pub RanOver : Result Unit Halt → List (List ℕ) → TableDevices → List Key → TableDevices → List Key → Type 0
RanOver result lines old looked new later =
    MatchResult result (λ _. DidAll SessionReads (pos 0) fresh lines None (shown_devices old looked []) (shown_devices new later []))
    (λ _. DidFront SessionReads (pos 0) fresh lines None (shown_devices old looked []) (shown_devices new later []))

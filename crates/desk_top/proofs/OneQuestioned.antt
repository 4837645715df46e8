-- Questions over what is kept say one thing, where no look fails.
use Rattle.std.proofs.Common.{◌≡◌, [], ℕ, pos, List, None, ap, option_map, subst, refl}
use Rattle.bf_world.specs.declared.key.Key.{Key}
use Rattle.desk_keep.specs.Calls.{Opens}
use Rattle.desk_keep.specs.declared.answer.Applied.TheVariants as applied
use Rattle.desk_keep.specs.Views.{KeeperView}
use Rattle.rel_session.specs.Devices.{DidAll}
use Rattle.rel_session.specs.Lines.{lines_of}
use Rattle.rel_session.specs.Sessions.{fresh}
use Rattle.session_tables.specs.Worlds.{tables_world}
use Rattle.session_view.specs.Asking.{DidOverTables, TableDevices, shown_devices, table_devices}
use Rattle.session_view.specs.Readings.{SessionReads}
use Rattle.desk_top.specs.Questioned.{AsksAt}
use Rattle.desk_top.specs.Tellings.{AskedAlike, RanAlike, TellsAll, TellsTables}
use Rattle.desk_top.proofs.OneSaid.{OneRun, asked_once}

view_is : (a b : KeeperView) → a.rows ≡ b.rows → a.faults ≡ b.faults → a ≡ b
view_is a b rows faults = λ i. record { rows = rows i; faults = faults i }

-- what is kept is told the same once it was opened
opened_is : (old opened : KeeperView) → Opens old applied.Done opened → opened ≡ old
opened_is old opened opens = view_is opened old opens.only.rows (opens.only.counts.steady (λ e. cc))

tells_all : (old : TableDevices) → TellsTables old → TellsAll (shown_devices old [] [])
tells_all old tells = record {
  held = tells.held;
  holds = tells.holds;
  world = tables_world tells.rows;
  shows = ap (option_map tables_world) tells.keeps;
  looked = [];
  keeps = refl;
  rises = tells.rises;
  given = tells.given;
  gives = tells.gives;
}

-- a run is the same whatever the machine of the tables borrows
freed : (lines : List (List ℕ)) (old new : TableDevices) → DidOverTables lines old new
    → (looked : List Key) × DidAll SessionReads (pos 0) fresh lines None (shown_devices old [] []) (shown_devices new looked [])
freed lines old new (looked, holds, (moments, run, runs, did)) =
    (looked, (moments, run, runs, record { written = did.written; looked = did.looked; faults = did.faults; dated = did.dated }))

pub tables_once : OneRun SessionReads → (input : List ℕ) (old one other : TableDevices) → TellsTables old → AskedAlike old one other
    → AsksAt input old one → AsksAt input old other → one.sink.held ≡ other.sink.held
tables_once one_run input old one other tells alike (opened, opens, did) (opened', opens', did') =
    let Did : TableDevices → KeeperView → Type 0 = λ new view. DidOverTables (lines_of input) (table_devices old.sink view old.clock) new in
    let first = freed (lines_of input) old one (subst (Did one) (opened_is old.keeper opened opens) did.0) in
    let second = freed (lines_of input) old other (subst (Did other) (opened_is old.keeper opened' opens') did'.0) in
    let steady : RanAlike (shown_devices old [] []) (shown_devices one first.0 []) (shown_devices other second.0 []) =
    record { one_steady = alike.one_steady; other_steady = alike.other_steady; moments = alike.moments } in
    (asked_once SessionReads one_run input (shown_devices old [] []) (shown_devices one first.0 []) (shown_devices other second.0 [])
    (tells_all old tells) steady first.1 second.1).0

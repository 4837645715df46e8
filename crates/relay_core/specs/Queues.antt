-- What the queue keeps. Only private functions cite these definitions.
use Rattle.std.specs.Prelude.{◌≡◌, ℕ, ◌+◌, ◌≤◌, min, List, length, map, All}
use Rattle.std.specs.Map.{keys_of}
use Rattle.std.specs.List.{IsDistinct}
use Rattle.std.specs.BTreeMap.{get}
use Rattle.std.specs.VecDeque.{deque_capacity}
use Rattle.report_text.specs.Reports.{IsReport}
use Rattle.relay_core.specs.declared.key.Key.{Key}
use Rattle.relay_core.specs.declared.report_queue.HeldKey.{HeldKey}
use Rattle.relay_core.specs.declared.report_queue.ReportQueue.TheInside.{Inside}
use Rattle.relay_core.specs.ReportKeys.{ReportKey, same_key}
use Rattle.relay_core.specs.Indexes.{QueueState, shown_key, key_cmp, all_keys, state_of}

-- a known key, with its digest
abbrev pub shown_held : HeldKey → ReportKey × List ℕ
shown_held held = (shown_key held.key, held.digest)

-- what is kept
abbrev pub queue_of : Inside → QueueState
queue_of inside = record { queue = inside.reports.items; held = map shown_held inside.held.items }

-- No key stands twice. Each is found by its order, and each queued report has the room that its key takes when it becomes known.
pub record IsIndexed (inside : Inside) : Type 0 where
  pub good : All IsReport inside.reports.items
  pub few : length inside.held.items ≤ 10000
  pub distinct : IsDistinct same_key (keys_of (all_keys (queue_of inside)))
  pub found : (key : Key) → get key_cmp inside.states key ≡ state_of (queue_of inside) (shown_key key)
  pub room : min (length inside.held.items + length inside.reports.items) 10000 ≤ deque_capacity inside.held

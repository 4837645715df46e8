-- How many actions are pending.
use Rattle.std.specs.Prelude.{ℕ, List, length}
use Rattle.agent_text.specs.Histories.{PlainHistory, pending_ids}

abbrev pub pending_count : List PlainHistory → ℕ
pending_count hs = length (pending_ids hs)

-- Where the blocks of a site stand. Only private functions and invariants cite these definitions.
use Rattle.std.specs.Prelude.{◌≡◌, ◌==◌, ℕ, List, cond, Some, None}
use Rattle.std.specs.BTreeMap.{BTreeMap, get}
use Rattle.std.specs.List.{position}
use Rattle.std.specs.Option.{option_or}
use Rattle.std.specs.Ordering.{nat_cmp}
use Rattle.agent_attempt.specs.declared.read_block.ReadBlock.{ReadBlock}
use Rattle.agent_attempt.specs.ReadBlocks.{read_id}

-- the place of each id is that of the first block that has it, and no other id has a place
abbrev pub ArePlaces : BTreeMap ℕ ℕ → List ReadBlock → Type 0
ArePlaces places blocks = (id : ℕ) → get nat_cmp places id ≡ position (λ block. read_id block == id) blocks

-- the id has this place where it had none, and all others have theirs
abbrev pub AddsPlace : BTreeMap ℕ ℕ → ℕ → ℕ → BTreeMap ℕ ℕ → Type 0
AddsPlace old id place new =
    (other : ℕ) → get nat_cmp new other ≡ option_or (get nat_cmp old other) (cond (id == other) (Some place) None)

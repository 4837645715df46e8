-- What is known of the blocks of a site so far. Only private functions cite these definitions.
use Rattle.std.specs.Prelude.{◌≡◌, ℕ, ◌⊎◌, ◌↔◌, IsTrue}
use Rattle.std.specs.Ordering.{nat_cmp}
use Rattle.std.specs.BTreeSet.{BTreeSet, contains}
use Rattle.fix_site.specs.declared.block.Block.{Block}
use Rattle.fix_site.specs.declared.block.Block.TheVariants.{Fixlet as fixlet_block}
use Rattle.fix_site.specs.declared.blocks_so_far.BlocksSoFar.TheInside.{Inside}
use Rattle.fix_site.specs.Blocks.{HasId, HasFixlet}

-- the set has these ids, and no others
abbrev pub HasJust : BTreeSet ℕ → (ℕ → Type 0) → Type 0
HasJust set Is = (id : ℕ) → IsTrue (contains nat_cmp set id) ↔ Is id

-- one set has the ids of all blocks, another one those of the fixlets among them
pub record KnowsIds (known : Inside) : Type 0 where
  pub ids : HasJust known.ids (HasId known.blocks.items)
  pub fixlets : HasJust known.fixlets (HasFixlet known.blocks.items)

-- an id of the set, or one of these
abbrev pub IsIn : BTreeSet ℕ → (ℕ → Type 0) → ℕ → Type 0
IsIn set Is id = IsTrue (contains nat_cmp set id) ⊎ Is id

-- the block is a fixlet with this id
abbrev pub IsFixletWith : Block → ℕ → Type 0
IsFixletWith (fixlet_block fixlet) id = fixlet.id ≡ id
IsFixletWith other id = ⊥

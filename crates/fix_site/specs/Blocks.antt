-- The blocks of a site.
use Rattle.std.specs.Prelude.{◌≡◌, ◌≢◌, ℕ, ◌<◌, List, ◌∷◌, ◌++◌, All, Contains, codes}
use Rattle.fix_site.specs.declared.fixlet.Fixlet.{Fixlet}
use Rattle.fix_site.specs.declared.block.Block.{Block}
use Rattle.fix_site.specs.declared.block.Block.TheVariants.{Fixlet as fixlet_block, Baseline as baseline_block, Action as action_block}
use Rattle.fix_site.specs.Actions.{IsAction, action_line, action_rest}
use Rattle.fix_site.specs.Contents.{IsFixlet, IsBaseline, fixlet_line, baseline_line, fixlet_rest, baseline_rest}

abbrev pub block_id : Block → ℕ
block_id (fixlet_block fixlet) = fixlet.id
block_id (baseline_block baseline) = baseline.id
block_id (action_block action) = action.id

-- a block that can be spelled
abbrev pub IsBlock : Block → Type 0
IsBlock (fixlet_block fixlet) = IsFixlet fixlet
IsBlock (baseline_block baseline) = IsBaseline baseline
IsBlock (action_block action) = IsAction action

-- the first line of a block, which has its id
abbrev pub id_line : Block → List ℕ
id_line (fixlet_block fixlet) = fixlet_line fixlet.id
id_line (baseline_block baseline) = baseline_line baseline.id
id_line (action_block action) = action_line action.id

-- the lines behind it
abbrev pub block_rest : Block → List (List ℕ)
block_rest (fixlet_block fixlet) = fixlet_rest fixlet
block_rest (baseline_block baseline) = baseline_rest baseline
block_rest (action_block action) = action_rest action

-- the lines of a block
abbrev pub block_lines : Block → List (List ℕ)
block_lines block = id_line block ∷ block_rest block

-- the site `actionsite` has actions alone, and another site has none
abbrev pub IsKindOf : List ℕ → Block → Type 0
IsKindOf name (action_block action) = name ≡ codes "actionsite"
IsKindOf name block = name ≢ codes "actionsite"

-- a block with this id stands among the blocks
abbrev pub HasId : List Block → ℕ → Type 0
HasId blocks id = (block : Block) × Contains blocks block × (block_id block ≡ id)

-- The id is none of those before. Actions stand in ascending order.
abbrev pub HasNewId : List Block → Block → Type 0
HasNewId before (action_block action) = All (λ other. block_id other < action.id) before
HasNewId before block = ¬ HasId before (block_id block)

-- a fixlet with this id stands among the blocks
abbrev pub HasFixlet : List Block → ℕ → Type 0
HasFixlet blocks id = (fixlet : Fixlet) × Contains blocks (fixlet_block fixlet) × (fixlet.id ≡ id)

-- the components of a baseline are fixlets that stand before it
abbrev pub HasComponents : List Block → Block → Type 0
HasComponents before (baseline_block baseline) = All (HasFixlet before) baseline.components
HasComponents before block = Unit {0}

-- in a site of this name the block can follow these
pub record CanFollow (name : List ℕ) (before : List Block) (block : Block) : Type 0 where
  pub good : IsBlock block
  pub kind : IsKindOf name block
  pub id : HasNewId before block
  pub components : HasComponents before block

-- a site of this name can have these blocks: each can follow those before it
abbrev pub AreBlocks : List ℕ → List Block → Type 0
AreBlocks name blocks =
    (before after : List Block) (block : Block) → blocks ≡ before ++ block ∷ after → CanFollow name before block

-- The blocks of a site, taken one after another.
use Rattle.std.proofs.Common.{ℕ, ◌≡◌, List, [], ◌∷◌, ◌++◌, sym, ap, subst, ◌∙◌, append_assoc, append-nil, None, Ok}
use Rattle.std.specs.Prelude.{flat_map}
use Rattle.line_forms.specs.LineStates.{LineState}
use Rattle.line_forms.specs.Readers.{Passes}
use Rattle.line_forms.proofs.Passing.{passes_then}
use Rattle.fix_site.specs.declared.block.Block.{Block}
use Rattle.fix_site.specs.Blocks.{AreBlocks, CanFollow, block_lines}
use Rattle.fix_site.specs.Readings.{TakesBlock, TakesBlocks}
use Rattle.line_forms.proofs.Parts.{Lines}
use Rattle.line_forms.proofs.Sequences.{each_more}

all_more : (blocks : List Block) (block : Block) → flat_map block_lines (blocks ++ block ∷ []) ≡ flat_map block_lines blocks ++ block_lines block
all_more [] block = append-nil (block_lines block)
all_more (b ∷ blocks) block = ap (λ l. block_lines b ++ l) (all_more blocks block) ∙ sym (append_assoc (block_lines b) (flat_map block_lines blocks) (block_lines block))

abbrev AreTaken : List ℕ → LineState → LineState → List Block → Type 0
AreTaken name old new blocks = AreBlocks name blocks × Passes old new (flat_map block_lines blocks)

-- one more block was taken
pub block_more : (name : List ℕ) (old mid new : LineState) (blocks seen result : List Block) (block : Block) → AreBlocks name blocks → Passes old mid (flat_map block_lines blocks) → seen ≡ blocks → result ≡ blocks ++ block ∷ [] →
    CanFollow name seen block × Passes mid new (block_lines block) → AreTaken name old new result
block_more name old mid new blocks seen result block are passes seen_is result_is (can, one) =
    let P : List Block → Type 0 = AreTaken name old new in
    let F : List Block → Type 0 = λ l. CanFollow name l block in
    let Q : Lines → Type 0 = λ l. Passes old new l in
    subst P (sym result_is)
    (each_more (CanFollow name) blocks block are (subst F seen_is can), subst Q (sym (all_more blocks block)) (passes_then old mid new (flat_map block_lines blocks) (block_lines block) passes one))

-- no further one is ahead
pub blocks_over : (name : List ℕ) (old mid new : LineState) (blocks seen result : List Block) → AreBlocks name blocks → Passes old mid (flat_map block_lines blocks) → seen ≡ blocks → result ≡ blocks →
    TakesBlock name seen mid new (Ok None) → TakesBlocks name old new (Ok result)
blocks_over name old mid new blocks seen result are passes seen_is result_is none =
    let P : List Block → Type 0 = λ l. TakesBlocks name old new (Ok l) in
    let S : List Block → Type 0 = λ l. TakesBlock name l mid new (Ok None) in
    let Q : LineState → Type 0 = λ s. TakesBlocks name old s (Ok blocks) in
    let over = subst S seen_is none in
    subst P (sym result_is) (subst Q (sym over.0) (are, passes, over.1, over.2))

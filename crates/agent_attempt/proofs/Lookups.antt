-- Lookups of blocks whose texts were read.
use Rattle.std.proofs.Common.{◌≡◌, ◌≢◌, ◌==◌, ◌<◌, ◌+◌, ◌++◌, ℕ, Bool, true, false, cond, eqb, List, [], ◌∷◌, length, get_or, take, drop, map, Some, None, refl, sym, ap, ◌∙◌, arith}
use Rattle.std.specs.declared.option.Option.{Option}
use Rattle.std.specs.List.{find}
use Rattle.std.specs.Option.{option_map, option_and_then}
use Rattle.std.specs.Prelude.{All}
use Rattle.std.specs.Option.{option_or}
use Rattle.std.proofs.lemmas.Bool.{cond-false, cond-true, eq-eqb, ne_eqb}
use Rattle.std.proofs.lemmas.List.{drop_more, get_or-map, length-map, take-append-drop}
use Rattle.std.proofs.lemmas.List.Elements.{All-head, All-tail, Contains-get_or}
use Rattle.std.proofs.lemmas.List.Folds.{find-append}
use Rattle.fix_site.specs.declared.block.Block.{Block}
use Rattle.fix_site.specs.declared.block.Block.TheVariants as block
use Rattle.fix_site.specs.Blocks.{AreBlocks, HasNewId, IsBlock, block_id}
use Rattle.fix_site.specs.declared.fixlet.Fixlet.{Fixlet}
use Rattle.agent_attempt.specs.declared.read_block.ReadBlock.{ReadBlock}
use Rattle.agent_attempt.specs.ReadBlocks.{shown_block, read_id}
use Rattle.agent_attempt.specs.ActionContents.{as_fixlet, block_at}
use Rattle.agent_attempt.specs.FoundContents.{FindsBlock, FindsFixlet, IsFixletOf}
use denote.Ref.{Bor}

either_shown : (b : Bool) (block : ReadBlock) (other : Option ReadBlock) (shown : Option Block) → shown ≡ option_map shown_block other →
    cond b (Some (shown_block block)) shown ≡ option_map shown_block (cond b (Some block) other)
either_shown true block other shown e = refl
either_shown false block other shown e = e

find_shown : (id : ℕ) (blocks : List ReadBlock) → block_at id (map shown_block blocks) ≡ option_map shown_block (find (λ b. read_id b == id) blocks)
find_shown id [] = refl
find_shown id (block ∷ blocks) = either_shown (read_id block == id) block (find (λ b. read_id b == id) blocks) _ (find_shown id blocks)

pub finds_block : (id : ℕ) (blocks : List ReadBlock) (answer : Option (Bor ReadBlock)) → option_map (λ (b : Bor ReadBlock). b.now) answer ≡ find (λ b. read_id b == id) blocks →
    FindsBlock id (map shown_block blocks) answer
finds_block id blocks None e = find_shown id blocks ∙ ap (option_map shown_block) (sym e)
finds_block id blocks (Some found) e = find_shown id blocks ∙ ap (option_map shown_block) (sym e)

-- ---- a block at a place
split_at : (blocks : List Block) (i : ℕ) (d : Block) → i < length blocks → take i blocks ++ get_or blocks i d ∷ drop (i + 1) blocks ≡ blocks
split_at blocks i d inside = ap (λ l. take i blocks ++ l) (sym (drop_more blocks i d inside)) ∙ take-append-drop i blocks

-- the blocks of a site can be spelled
pub blocks_good : (name : List ℕ) (blocks : List Block) → AreBlocks name blocks → All IsBlock blocks
blocks_good name blocks are k d inside = (are (take k blocks) (drop (k + 1) blocks) (get_or blocks k d) (sym (split_at blocks k d inside))).good

none_found : (id : ℕ) (blocks : List Block) → All (λ (b : Block). block_id b ≢ id) blocks → block_at id blocks ≡ None
none_found id [] others = refl
none_found id (b ∷ blocks) others =
    cond-false (eqb (block_id b) id) (Some b) _ (ne_eqb (block_id b) id (All-head (λ (x : Block). block_id x ≢ id) b blocks others))
    ∙ none_found id blocks (All-tail (λ (x : Block). block_id x ≢ id) b blocks others)

new_apart : (before : List Block) (b : Block) → HasNewId before b → All (λ (other : Block). block_id other ≢ block_id b) before
new_apart before (block.Fixlet f) new k d within e = absurd (new (get_or before k d, Contains-get_or before k d within, e))
new_apart before (block.Baseline b) new k d within e = absurd (new (get_or before k d, Contains-get_or before k d within, e))
new_apart before (block.Action a) new k d within e = let lt = new k d within in omega (arith, lt, e)

-- it is the one of its id, since no id stands twice
block_there : (name : List ℕ) (blocks : List Block) (i : ℕ) (b : Block) → AreBlocks name blocks → i < length blocks → b ≡ get_or blocks i b → block_at (block_id b) blocks ≡ Some b
block_there name blocks i b are inside is =
    let split : take i blocks ++ b ∷ drop (i + 1) blocks ≡ blocks = ap (λ x. take i blocks ++ x ∷ drop (i + 1) blocks) is ∙ split_at blocks i b inside in
    let own = λ (x : Block). eqb (block_id x) (block_id b) in
    ap (block_at (block_id b)) (sym split) ∙ find-append own (take i blocks) (b ∷ drop (i + 1) blocks)
    ∙ ap (λ o. option_or o (find own (b ∷ drop (i + 1) blocks))) (none_found (block_id b) (take i blocks) (new_apart (take i blocks) b (are (take i blocks) (drop (i + 1) blocks) b (sym split)).id))
    ∙ cond-true (own b) (Some b) (find own (drop (i + 1) blocks)) (eq-eqb (block_id b) (block_id b) refl)

pub finds_near : (id : ℕ) (name : List ℕ) (blocks : List Block) (items : List ReadBlock) (place : ℕ) (found : Bor ReadBlock) → map shown_block items ≡ blocks → AreBlocks name blocks → place < length items
    → found.now ≡ get_or items place found.now → read_id found.now ≡ id → FindsBlock id blocks (Some found)
finds_near id name blocks items place found view are inside at is =
    let b = shown_block found.now in
    let count : length blocks ≡ length items = ap (length {A = Block}) (sym view) ∙ length-map items shown_block in
    let there : b ≡ get_or blocks place b = ap shown_block at ∙ sym (get_or-map shown_block items place found.now b inside) ∙ ap (λ l. get_or l place b) view in
    ap (λ n. block_at n blocks) (sym is) ∙ block_there name blocks place b are (omega (arith, count, inside)) there

pub finds_fixlet : (id : ℕ) (blocks : List Block) (block : Block) (answer : Option (Bor Fixlet)) → block_at id blocks ≡ Some block → IsFixletOf block answer → FindsFixlet id blocks answer
finds_fixlet id blocks block None e h = ap (option_and_then as_fixlet) e ∙ h
finds_fixlet id blocks block (Some found) e h = ap (option_and_then as_fixlet) e ∙ h

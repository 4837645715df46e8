-- Where the blocks of a site stand.
use Rattle.std.proofs.Common.{◌≡◌, ◌==◌, ◌+◌, ◌++◌, length, ℕ, suc, Bool, true, false, cond, List, [], ◌∷◌, map, Some, None, refl, sym, ap, ◌∙◌, arith}
use Rattle.std.specs.declared.option.Option.{Option}
use Rattle.std.specs.List.{find, position, position_from}
use Rattle.std.specs.Prelude.{slice_get}
use Rattle.std.specs.Option.{option_map, option_and_then, option_or}
use Rattle.std.specs.BTreeMap.{BTreeMap}
use Rattle.std.specs.Slice.{IsItemAt}
use Rattle.std.proofs.lemmas.Iterator.Adapters.{position_from-zero}
use Rattle.std.proofs.lemmas.Option.{slice_get_past, slice_get_read}
use Rattle.agent_attempt.specs.declared.read_block.ReadBlock.{ReadBlock}
use Rattle.agent_attempt.specs.ReadBlocks.{read_id, shown_block}
use Rattle.agent_attempt.specs.FoundContents.{FindsBlock}
use Rattle.agent_attempt.specs.BlockPlaces.{ArePlaces, AddsPlace}
use Rattle.agent_attempt.proofs.Lookups.{finds_block}
use denote.Ref.{Bor}

-- ---- places in any list
module _ {X : Type 0} (is : X → Bool) where
  later_place : (b : Bool) (i : ℕ) (all rest behind more : Option ℕ) → all ≡ option_or rest behind → behind ≡ more →
      cond b (Some i) all ≡ option_or (cond b (Some i) rest) more
  later_place true i all rest behind more e same = refl
  later_place false i all rest behind more e same = e ∙ ap (option_or rest) same

  -- the place with one more
  place_more : (i : ℕ) (xs : List X) (x : X) → position_from is i (xs ++ x ∷ []) ≡ option_or (position_from is i xs) (cond (is x) (Some (i + length xs)) None)
  place_more i [] x = let e : i ≡ i + 0 = omega arith in ap (λ k. cond (is x) (Some k) None) e
  place_more i (y ∷ xs) x =
      let e : (i + 1) + length xs ≡ i + length (y ∷ xs) = omega arith in
      later_place (is y) i _ (position_from is (i + 1) xs) _ _ (place_more (i + 1) xs x) (ap (λ k. cond (is x) (Some k) None) e)

  found_here : (b : Bool) (x : X) (i : ℕ) (at : ℕ → Option X) (rest : Option X) (place : Option ℕ) → at i ≡ Some x → rest ≡ option_and_then at place →
      cond b (Some x) rest ≡ option_and_then at (cond b (Some i) place)
  found_here true x i at rest place here e = sym here
  found_here false x i at rest place here e = e

  -- what stands at the place
  found_from : (i : ℕ) (at : ℕ → Option X) (xs : List X) → ((k : ℕ) → at (i + k) ≡ slice_get xs k) → find is xs ≡ option_and_then at (position_from is i xs)
  found_from i at [] h = refl
  found_from i at (x ∷ xs) h =
      let first : i ≡ i + 0 = omega arith in
      found_here (is x) x i at (find is xs) (position_from is (i + 1) xs) (ap at first ∙ h 0)
      (found_from (i + 1) at xs (λ k. let e : (i + 1) + k ≡ i + suc k = omega arith in ap at e ∙ h (suc k)))

  pub position_more : (xs : List X) (x : X) → position is (xs ++ x ∷ []) ≡ option_or (position is xs) (cond (is x) (Some (length xs)) None)
  position_more xs x =
      let e : 0 + length xs ≡ length xs = omega arith in
      position_from-zero is (xs ++ x ∷ []) ∙ place_more 0 xs x ∙ ap (λ k. option_or (position_from is 0 xs) (cond (is x) (Some k) None)) e
      ∙ ap (λ o. option_or o (cond (is x) (Some (length xs)) None)) (sym (position_from-zero is xs))

  pub found_at_position : (xs : List X) → find is xs ≡ option_and_then (slice_get xs) (position is xs)
  found_at_position xs = found_from 0 (slice_get xs) xs (λ k. let e : 0 + k ≡ k = omega arith in ap (slice_get xs) e) ∙ ap (option_and_then (slice_get xs)) (sym (position_from-zero is xs))

-- what is lent of a place
item_at : {X : Type 0} (xs : List X) (i : ℕ) (answer : Option (Bor X)) → IsItemAt xs i answer → option_map (λ (b : Bor X). b.now) answer ≡ slice_get xs i
item_at xs i None item = sym (slice_get_past xs i item.3)
item_at xs i (Some b) item = sym (slice_get_read xs (length xs) i b.now refl item.3.0 item.1)

-- ---- places of blocks
-- the index with one block more
pub places_more : (old new : BTreeMap ℕ ℕ) (blocks : List ReadBlock) (block : ReadBlock) → ArePlaces old blocks → AddsPlace old (read_id block) (length blocks) new →
    ArePlaces new (blocks ++ block ∷ [])
places_more old new blocks block are adds id =
    adds id ∙ ap (λ o. option_or o (cond (read_id block == id) (Some (length blocks)) None)) (are id) ∙ sym (position_more (λ b. read_id b == id) blocks block)

-- the block that the index finds
finds_by_place : (id : ℕ) (blocks : List ReadBlock) (place : Option ℕ) (answer : Option (Bor ReadBlock)) → place ≡ position (λ b. read_id b == id) blocks →
    option_map (λ (b : Bor ReadBlock). b.now) answer ≡ option_and_then (slice_get blocks) place → FindsBlock id (map shown_block blocks) answer
finds_by_place id blocks place answer is at =
    finds_block id blocks answer (at ∙ ap (option_and_then (slice_get blocks)) is ∙ sym (found_at_position (λ b. read_id b == id) blocks))

pub finds_at : (id : ℕ) (blocks : List ReadBlock) (place : ℕ) (answer : Option (Bor ReadBlock)) → Some place ≡ position (λ b. read_id b == id) blocks → IsItemAt blocks place answer →
    FindsBlock id (map shown_block blocks) answer
finds_at id blocks place answer is item = finds_by_place id blocks (Some place) answer is (item_at blocks place answer item)

pub finds_none : (id : ℕ) (blocks : List ReadBlock) → None ≡ position (λ b. read_id b == id) blocks → FindsBlock id (map shown_block blocks) None
finds_none id blocks is = finds_by_place id blocks None None is refl

-- Components, as they are taken out of a site one after another.
use Rattle.std.proofs.Common.{◌≡◌, ℕ, suc, ◌+◌, ◌<◌, List, [], ◌∷◌, ◌++◌, length, get_or, take, Option, Some, None, refl, sym, ap, ◌∙◌, arith}
use Rattle.std.specs.Option.{option_and_then}
use Rattle.std.specs.List.{cons_option}
use Rattle.std.proofs.lemmas.List.{take_more}
use Rattle.std.proofs.lemmas.List.Elements.{filter_map-append}
use Rattle.fix_site.specs.declared.block.Block.{Block}
use Rattle.fix_site.specs.declared.fixlet.Fixlet.{Fixlet}
use Rattle.agent_attempt.specs.declared.attempt.Part.{Part}
use Rattle.agent_attempt.specs.Attempts.{numbered}
use Rattle.agent_attempt.specs.ActionContents.{as_fixlet, block_at, fixlets_at}

-- a component of this number
abbrev pub part_of : ℕ → Fixlet → Part
part_of number fixlet = record { component = number; fixlet = fixlet }

one_more : (ids : List ℕ) (blocks : List Block) (i id : ℕ) → i < length ids → id ≡ get_or ids i 0 →
    fixlets_at (take (i + 1) ids) blocks ≡ fixlets_at (take i ids) blocks ++ fixlets_at (id ∷ []) blocks
one_more ids blocks i id inside is =
    ap (λ l. fixlets_at l blocks) (take_more ids i 0 inside ∙ ap (λ n. take i ids ++ n ∷ []) (sym is))
    ∙ filter_map-append (λ n. option_and_then as_fixlet (block_at n blocks)) (take i ids) (id ∷ [])

numbered_append : (number : ℕ) (some more : List Fixlet) → numbered number (some ++ more) ≡ numbered number some ++ numbered (number + length some) more
numbered_append number [] more = let e : number ≡ number + 0 = omega arith in ap (λ n. numbered n more) e
numbered_append number (first ∷ some) more =
    let e : (number + 1) + length some ≡ number + suc (length some) = omega arith in
    ap (λ l. part_of number first ∷ l) (numbered_append (number + 1) some more ∙ ap (λ n. numbered (number + 1) some ++ numbered n more) e)

length-numbered : (number : ℕ) (fixlets : List Fixlet) → length (numbered number fixlets) ≡ length fixlets
length-numbered number [] = refl
length-numbered number (fixlet ∷ fixlets) = ap suc (length-numbered (number + 1) fixlets)

-- the components of one id more
pub group_more : (ids : List ℕ) (blocks : List Block) (i id : ℕ) (parts after : List Part) → i < length ids → id ≡ get_or ids i 0 → parts ≡ numbered 1 (fixlets_at (take i ids) blocks) →
    after ≡ parts ++ numbered (length parts + 1) (fixlets_at (id ∷ []) blocks) → after ≡ numbered 1 (fixlets_at (take (i + 1) ids) blocks)
group_more ids blocks i id parts after inside is before added =
    let some = fixlets_at (take i ids) blocks in
    let more = fixlets_at (id ∷ []) blocks in
    let count : length parts ≡ length some = ap length before ∙ length-numbered 1 some in
    let position : length parts + 1 ≡ 1 + length some = omega arith in
    added ∙ (λ j. before j ++ numbered (position j) more) ∙ sym (numbered_append 1 some more) ∙ ap (numbered 1) (sym (one_more ids blocks i id inside is))

-- an id that is a fixlet, and one that is none
pub one_part : (blocks : List Block) (id component : ℕ) (fixlet : Fixlet) (number : ℕ) → option_and_then as_fixlet (block_at id blocks) ≡ Some fixlet → component ≡ number →
    part_of component fixlet ∷ [] ≡ numbered number (fixlets_at (id ∷ []) blocks)
one_part blocks id component fixlet number some is =
    ap (λ n. part_of n fixlet ∷ []) is ∙ sym (ap (λ (o : Option Fixlet). numbered number (cons_option o [])) some)

pub none_part : (blocks : List Block) (id number : ℕ) → option_and_then as_fixlet (block_at id blocks) ≡ None → [] ≡ numbered number (fixlets_at (id ∷ []) blocks)
none_part blocks id number none = sym (ap (λ (o : Option Fixlet). numbered number (cons_option o [])) none)

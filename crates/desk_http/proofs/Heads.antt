-- Where a conversation has no head, whatever follows.
use Rattle.std.proofs.Common.{◌≡◌, ℕ, ◌≤◌, ◌<◌, ◌⊎◌, Option, List, [], ◌∷◌, ◌++◌, length, length-append, get_or, drop, sym, ap, subst, ◌∙◌, arith, inl, inr}
use Rattle.std.specs.Io.KnownBytes.{Consumes, Keeps}
use Rattle.std.proofs.KnownBytes.{Consumes-kept}
use Rattle.std.proofs.lemmas.Grind.{common_steps}
use Rattle.httparse.specs.Grammar.{HasNoRequest, print_request}
use Rattle.httparse.proofs.GrammarLemmas.{print_request-append}
use Rattle.httparse.specs.Spans.{RequestOverflows}
use Rattle.desk_http.specs.Heard.{HasNoHead}
use Rattle.desk_http.specs.Reading.{NeverHasHead}

-- the front of a list that ends within its first part
split_front : (a b front rest : List ℕ) → length front ≤ length a → a ++ b ≡ front ++ rest → a ≡ front ++ drop (length front) a
split_front a b [] rest short is = grind (arith, common_steps)
split_front [] b (x ∷ front) rest short is = absurd (omega arith)
split_front (y ∷ a) b (x ∷ front) rest short is =
    let head : y ≡ x = ap (λ l. get_or l 0 y) is in
    let tail : a ++ b ≡ front ++ rest = ap (drop 1) is in
    let later : a ≡ front ++ drop (length front) a = split_front a b front rest (omega (arith, short)) tail in
    ap (λ h. h ∷ a) head ∙ ap (λ l. x ∷ l) later

-- no head in so many bytes
pub none_in_many : (buf : List ℕ) → HasNoRequest buf → 16384 ≤ length buf → NeverHasHead buf
none_in_many buf none many more head rest is =
    none head (drop (length (print_request head)) buf) (is.reads.0, split_front buf more (print_request head) rest (omega (arith, is.short)) is.reads.1)

-- more fields than there is room for
pub none_overflowing : (buf : List ℕ) → RequestOverflows 64 buf → NeverHasHead buf
none_overflowing buf over more head rest is =
    let many = over more head rest is.reads in
    absurd (omega (arith, is.few, many))

pub none_at_end : (buf : List ℕ) → HasNoRequest buf → HasNoHead buf
none_at_end buf none head rest is = none head rest is.reads

pub none_after : (buf : List ℕ) → (buf ≡ []) ⊎ HasNoRequest buf → 16384 ≤ length buf → NeverHasHead buf
none_after buf (inl empty) long = absurd (omega (arith, ap length empty, long))
none_after buf (inr none) long = none_in_many buf none long

some_printed : (a b c : List ℕ) → [] ≡ a ++ (b ++ 32 ∷ c) → ⊥
some_printed a b c e = omega (arith, ap length e, length-append a (b ++ 32 ∷ c), length-append b (32 ∷ c))

none_in_nothing : HasNoHead []
none_in_nothing head rest is = some_printed _ _ _ (is.reads.1 ∙ print_request-append head rest)

no_head_yet : (buf : List ℕ) → (buf ≡ []) ⊎ HasNoRequest buf → HasNoHead buf
no_head_yet buf (inl empty) = subst (λ l. HasNoHead l) (sym empty) none_in_nothing
no_head_yet buf (inr none) = none_at_end buf none

-- where a read failed before there was a head
pub failed_head : (old mid new : Option (List ℕ)) (buf buf' : List ℕ) → Consumes old mid buf → (buf ≡ []) ⊎ HasNoRequest buf → length buf < 16384 → Keeps mid new → buf' ≡ buf → Consumes old new buf' × HasNoHead buf' × (length buf' < 16384)
failed_head old mid new buf buf' taken none short kept same =
    subst (λ l. Consumes old new l × HasNoHead l × (length l < 16384)) (sym same)
    (Consumes-kept old mid new buf taken kept, no_head_yet buf none, short)

-- The pieces of a text between separators, one by one.
use Rattle.std.proofs.Common.{◌≡◌, ℕ, zero, suc, ◌+◌, ◌-◌, ◌<◌, ◌≤◌, List, [], ◌∷◌, length, take, drop, Some, None, refl, sym, ap, subst, map, ◌∙◌, arith, length-drop, length-append}
use Rattle.std.specs.declared.option.Option.{Option}
use Rattle.std.specs.Option.{option_map}
use Rattle.std.specs.Str.{IsCharBoundary}
use Rattle.std.proofs.lemmas.List.{drop-drop}
use Rattle.std.specs.Str.Pattern.{FindsText, MatchBeginsAt}
use Rattle.rel_sources.specs.Traces.{Item, text_item}
use Rattle.rel_sources.specs.Rows.{piece_items}
use Rattle.rel_sources.specs.Words.{first_place, cut_pieces, pieces_within, pieces_by, pieces_from}
use Rattle.rel_sources.proofs.Standing.{Nowhere, first-none, found-first, inside}

nowhere-nil : (part : List ℕ) → 0 < length part → Nowhere part []
nowhere-nil part some i below rest is =
    let nil : List ℕ = [] in
    let none : length (drop i nil) ≡ 0 - i = length-drop i nil in
    let both : length (drop i nil) ≡ length part + length rest = ap length is ∙ length-append part rest in
    omega arith

-- there are never more separators than bytes
within-nil : (k : ℕ) (separator : List ℕ) → 0 < length separator → pieces_within k separator [] ≡ [] ∷ []
within-nil zero separator some = refl
within-nil (suc k) separator some =
    ap (cut_pieces (pieces_within k separator) separator []) (first-none separator [] (nowhere-nil separator some))

cut-same : (m n : List ℕ → List (List ℕ)) (separator text : List ℕ) (place : Option ℕ) → ((i : ℕ) → m (drop (i + length separator) text) ≡ n (drop (i + length separator) text))
    → cut_pieces m separator text place ≡ cut_pieces n separator text place
cut-same m n separator text None same = refl
cut-same m n separator text (Some place) same = ap (λ l. take place text ∷ l) (same place)

within-enough : (k j : ℕ) (separator text : List ℕ) → 0 < length separator → length text ≤ k → length text ≤ j → pieces_within k separator text ≡ pieces_within j separator text
within-enough zero j separator [] some below other = sym (within-nil j separator some)
within-enough zero j separator (x ∷ xs) some below other = absurd (omega arith)
within-enough (suc k) zero separator [] some below other = within-nil (suc k) separator some
within-enough (suc k) zero separator (x ∷ xs) some below other = absurd (omega arith)
within-enough (suc k) (suc j) separator text some below other =
    cut-same (pieces_within k separator) (pieces_within j separator) separator text (first_place separator text)
    (λ i.
    let left : length (drop (i + length separator) text) ≡ length text - (i + length separator) = length-drop (i + length separator) text in
    within-enough k j separator (drop (i + length separator) text) some (omega arith) (omega arith))

within-one : (n : ℕ) (separator text : List ℕ) → first_place separator text ≡ None → pieces_within n separator text ≡ text ∷ []
within-one zero separator text e = refl
within-one (suc n) separator text e = ap (cut_pieces (pieces_within n separator) separator text) e

within-cut : (n : ℕ) (separator text : List ℕ) (i : ℕ) → length text ≡ n → 0 < length separator → first_place separator text ≡ Some i → i + length separator ≤ n
    → pieces_within n separator text ≡ take i text ∷ pieces_within (length (drop (i + length separator) text)) separator (drop (i + length separator) text)
within-cut zero separator text i e some is below = absurd (omega arith)
within-cut (suc n) separator text i e some is below =
    let left : length (drop (i + length separator) text) ≡ length text - (i + length separator) = length-drop (i + length separator) text in
    ap (cut_pieces (pieces_within n separator) separator text) is
    ∙ ap (λ l. take i text ∷ l) (within-enough n (length (drop (i + length separator) text)) separator (drop (i + length separator) text) some (omega arith) (omega arith))

-- without a separator the text is one piece
pub pieces-one : (separator text : List ℕ) → first_place separator text ≡ None → pieces_by separator text ≡ text ∷ []
unfolding pieces_by
pieces-one [] text e = refl
pieces-one (x ∷ xs) text e = within-one (length text) (x ∷ xs) text e

pub pieces-whole : (text : List ℕ) → pieces_by [] text ≡ text ∷ []
unfolding pieces_by
pieces-whole text = refl

-- the first separator ends the first piece
pub pieces-cut : (separator text : List ℕ) (i : ℕ) → 0 < length separator → first_place separator text ≡ Some i → i + length separator ≤ length text
    → pieces_by separator text ≡ take i text ∷ pieces_by separator (drop (i + length separator) text)
unfolding pieces_by
pieces-cut [] text i some is below = absurd (let no : 0 < 0 = some in omega arith)
pieces-cut (x ∷ xs) text i some is below = within-cut (length text) (x ∷ xs) text i refl some is below

pub pieces-empty : (separator text : List ℕ) → length separator ≡ 0 → pieces_by separator text ≡ text ∷ []
pieces-empty [] text e = pieces-whole text
pieces-empty (x ∷ xs) text e = absurd (omega arith)

-- the piece that a search found, and those behind its separator
pub piece-found : (separator text : List ℕ) (i : ℕ) → 0 < length separator → MatchBeginsAt (FindsText separator) text i
    → pieces_by separator text ≡ take i text ∷ pieces_by separator (drop (i + length separator) text)
piece-found separator text i some at =
    pieces-cut separator text i some (found-first separator text (Some i) some at) (inside separator text i at.0 some at.1.1)

-- the piece where a search found nothing
pub piece-last : (separator text : List ℕ) → 0 < length separator → FindsText separator text None → pieces_by separator text ≡ text ∷ []
piece-last separator text some lack = pieces-one separator text (first-none separator text lack)

-- a text may be cut behind a separator
pub boundary-found : (separator text : List ℕ) (i : ℕ) → MatchBeginsAt (FindsText separator) text i → IsCharBoundary text (i + length separator)
boundary-found separator text i at = subst (λ (n : ℕ). IsCharBoundary text n) at.1.1.ends at.4

pieces-behind : (separator text left : List ℕ) (from : ℕ) (taken : Option ℕ) → left ≡ drop from text
    → pieces_from separator left taken ≡ pieces_from separator text (option_map (λ n. from + n) taken)
pieces-behind separator text left from None is = refl
pieces-behind separator text left from (Some n) is = ap (pieces_by separator) (ap (drop n) is ∙ drop-drop n from text)

-- the next piece
pub piece-next : (separator text left piece : List ℕ) (from : ℕ) (taken : Option ℕ) (item : Item) → pieces_by separator left ≡ piece ∷ pieces_from separator left taken → left ≡ drop from text → item ≡ text_item piece
    → piece_items separator text (Some from) ≡ item ∷ piece_items separator text (option_map (λ n. from + n) taken)
piece-next separator text left piece from taken item first is same =
    ap (λ t. map text_item (pieces_by separator t)) (sym is)
    ∙ ap (map text_item) first
    ∙ ap (λ x. x ∷ map text_item (pieces_from separator left taken)) (sym same)
    ∙ ap (λ l. item ∷ map text_item l) (pieces-behind separator text left from taken is)

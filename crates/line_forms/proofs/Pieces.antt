-- The pieces of a text between bytes of one kind. Other crates may cite these lemmas.
use Rattle.std.proofs.Common.{◌≡◌, ◌≢◌, ℕ, ◌<◌, ◌==◌, true, false, List, [], ◌∷◌, length, All, sym, refl, ap, subst, ◌∙◌, inl, inr, arith}
use Rattle.std.specs.List.{onto_first, join_with_byte}
use Rattle.std.proofs.lemmas.Bool.{cases_eq}
use Rattle.std.proofs.lemmas.Bool.Decides.{nat_tests}
use Rattle.std.proofs.lemmas.List.Elements.{All-head, All-tail, All-nil, All-cons, All-weaker}
use Rattle.std.proofs.lemmas.List.Splits.{slice_split_none, slice_split_at, length-slice_split, join_with_byte-slice_split}
use Rattle.line_forms.specs.Cuts.{Lacks, IsCut, pieces, AreJoined}

eqb_other : (x byte : ℕ) → x ≢ byte → (x == byte) ≡ false
eqb_other x byte other = grind (arith, nat_tests)

eqb_same : (byte : ℕ) → (byte == byte) ≡ true
eqb_same byte = grind (arith, nat_tests)

-- a text without the byte is one piece
pub pieces-none : (byte : ℕ) (text : List ℕ) → Lacks byte text → pieces byte text ≡ text ∷ []
pieces-none byte text lacks = slice_split_none (λ x. x == byte) text (All-weaker (λ x. x ≢ byte) (λ x. (x == byte) ≡ false) (λ x. eqb_other x byte) text lacks)

-- a cut takes off the first piece
pub pieces-cut : (byte : ℕ) (text first rest : List ℕ) → IsCut byte text first rest → pieces byte text ≡ first ∷ pieces byte rest
pieces-cut byte text first rest cut =
    ap (pieces byte) cut.1 ∙ slice_split_at (λ x. x == byte) first byte rest (All-weaker (λ x. x ≢ byte) (λ x. (x == byte) ≡ false) (λ x. eqb_other x byte) first cut.0) (eqb_same byte)

pub pieces-some : (byte : ℕ) (text : List ℕ) → 0 < length (pieces byte text)
pieces-some byte text = omega (arith, length-slice_split (λ x. x == byte) text)

pub join-pieces : (byte : ℕ) (text : List ℕ) → join_with_byte byte (pieces byte text) ≡ text
join-pieces byte text = join_with_byte-slice_split byte text

-- the byte stands in no piece
onto_first-lacks : (byte x : ℕ) (parts : List (List ℕ)) → x ≢ byte → All (Lacks byte) parts → All (Lacks byte) (onto_first x parts)
onto_first-lacks byte x [] other all = All-cons (Lacks byte) (x ∷ []) [] (All-cons (λ y. y ≢ byte) x [] other (All-nil (λ y. y ≢ byte))) (All-nil (Lacks byte))
onto_first-lacks byte x (part ∷ parts) other all =
    All-cons (Lacks byte) (x ∷ part) parts (All-cons (λ y. y ≢ byte) x part other (All-head (Lacks byte) part parts all)) (All-tail (Lacks byte) part parts all)

pub pieces-lack : (byte : ℕ) (text : List ℕ) → All (Lacks byte) (pieces byte text)
pieces-lack byte [] = All-cons (Lacks byte) [] [] (All-nil (λ y. y ≢ byte)) (All-nil (Lacks byte))
pieces-lack byte (x ∷ xs) =
    let more = pieces-lack byte xs in
    elim (cases_eq x byte) [
      | inl same ↦
          let P : List (List ℕ) → Type 0 = All (Lacks byte) in
          let e : pieces byte (x ∷ xs) ≡ [] ∷ pieces byte xs = grind (arith, nat_tests) in
          subst P (sym e) (All-cons (Lacks byte) [] (pieces byte xs) (All-nil (λ y. y ≢ byte)) more)
      | inr other ↦
          let P : List (List ℕ) → Type 0 = All (Lacks byte) in
          let e : pieces byte (x ∷ xs) ≡ onto_first x (pieces byte xs) = grind (arith, nat_tests) in
          subst P (sym e) (onto_first-lacks byte x (pieces byte xs) other more)
    ]

-- parts without the byte are the pieces of their join
pub pieces-join : (byte : ℕ) (parts : List (List ℕ)) → 0 < length parts → All (Lacks byte) parts → pieces byte (join_with_byte byte parts) ≡ parts
pieces-join byte [] some lacks = absurd (omega arith)
pieces-join byte (x ∷ []) some lacks = pieces-none byte x (All-head (Lacks byte) x [] lacks)
pieces-join byte (x ∷ y ∷ xs) some lacks =
    pieces-cut byte (join_with_byte byte (x ∷ y ∷ xs)) x (join_with_byte byte (y ∷ xs)) (All-head (Lacks byte) x (y ∷ xs) lacks, refl)
    ∙ ap (λ l. x ∷ l) (pieces-join byte (y ∷ xs) (omega arith) (All-tail (Lacks byte) x (y ∷ xs) lacks))

-- a text is joined parts exactly where its pieces are such parts
pub joined_from_pieces : (byte : ℕ) (P : List ℕ → Type 0) (text : List ℕ) → All P (pieces byte text) → AreJoined byte P text
joined_from_pieces byte P text all = (pieces byte text, pieces-some byte text, all, sym (join-pieces byte text))

pub pieces_from_joined : (byte : ℕ) (P : List ℕ → Type 0) → ((part : List ℕ) → P part → Lacks byte part) → (text : List ℕ) → AreJoined byte P text → All P (pieces byte text)
pieces_from_joined byte P lacks text (parts, some, all, is) =
    let e : pieces byte text ≡ parts = ap (pieces byte) is ∙ pieces-join byte parts some (All-weaker P (Lacks byte) lacks parts all) in
    let Q : List (List ℕ) → Type 0 = All P in
    subst Q (sym e) all

-- joined parts, with the first one taken off
pub joined_first : (byte : ℕ) (P : List ℕ → Type 0) → ((part : List ℕ) → P part → Lacks byte part) → (text first rest : List ℕ) → IsCut byte text first rest → AreJoined byte P text → P first
joined_first byte P lacks text first rest cut joined =
    let Q : List (List ℕ) → Type 0 = All P in
    All-head P first (pieces byte rest) (subst Q (pieces-cut byte text first rest cut) (pieces_from_joined byte P lacks text joined))

pub joined_rest : (byte : ℕ) (P : List ℕ → Type 0) → ((part : List ℕ) → P part → Lacks byte part) → (text first rest : List ℕ) → IsCut byte text first rest → AreJoined byte P text → AreJoined byte P rest
joined_rest byte P lacks text first rest cut joined =
    let Q : List (List ℕ) → Type 0 = All P in
    joined_from_pieces byte P rest (All-tail P first (pieces byte rest) (subst Q (pieces-cut byte text first rest cut) (pieces_from_joined byte P lacks text joined)))

pub joined_more : (byte : ℕ) (P : List ℕ → Type 0) → ((part : List ℕ) → P part → Lacks byte part) → (text first rest : List ℕ) → IsCut byte text first rest → P first → AreJoined byte P rest → AreJoined byte P text
joined_more byte P lacks text first rest cut is joined =
    let Q : List (List ℕ) → Type 0 = All P in
    joined_from_pieces byte P text (subst Q (sym (pieces-cut byte text first rest cut)) (All-cons P first (pieces byte rest) is (pieces_from_joined byte P lacks rest joined)))

-- one part alone
pub joined_one : (byte : ℕ) (P : List ℕ → Type 0) (text : List ℕ) → P text → AreJoined byte P text
joined_one byte P text is = (text ∷ [], omega arith, All-cons P text [] is (All-nil P), refl)

pub only_joined : (byte : ℕ) (P : List ℕ → Type 0) → ((part : List ℕ) → P part → Lacks byte part) → (text : List ℕ) → Lacks byte text → AreJoined byte P text → P text
only_joined byte P lacks text none joined =
    let Q : List (List ℕ) → Type 0 = All P in
    All-head P text [] (subst Q (pieces-none byte text none) (pieces_from_joined byte P lacks text joined))

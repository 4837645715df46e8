-- Lines of words, numbers and names: no LF stands in them, and the most bytes that they have. Other crates may cite these lemmas.
use Rattle.std.proofs.Common.{ℕ, ◌≡◌, ◌≢◌, ◌+◌, ◌≤◌, ◌==◌, ℤ, pos, negsuc, List, [], ◌∷◌, ◌++◌, length, true, ap, ◌∙◌, arith, All, map, length-append}
use Rattle.std.specs.List.{list_all}
use Rattle.std.specs.Prelude.{decimal, not, flat_map}
use Rattle.std.specs.Fmt.{signed_decimal}
use Rattle.std.proofs.lemmas.Int.{ints}
use Rattle.std.proofs.lemmas.Fmt.{length-decimal-le}
use Rattle.std.proofs.lemmas.List.Elements.{All-nil, All-append, All-head, All-map, All-tail, All-weaker}
use Rattle.desk_base.specs.Moments.{IsMoment}
use Rattle.line_forms.specs.Cuts.{Lacks}
use Rattle.line_forms.specs.Lines.{IsLine, ended_line, lines_text}
use Rattle.line_forms.specs.Names.{IsName}
use Rattle.line_forms.specs.Numbers.{IsId}
use Rattle.line_forms.proofs.Cutting.{lacks_by}
use Rattle.line_forms.proofs.LineLemmas.{lines_text-append}
use Rattle.line_forms.proofs.PlainLemmas.{lacks_plain, plain_id, plain_name}

-- ---- no LF
-- a word and what follows it
pub worded : (word rest : List ℕ) → list_all (λ x. not (x == 10)) word ≡ true → Lacks 10 rest → IsLine (word ++ rest)
worded word rest h lacks = All-append (λ x. x ≢ 10) word rest (lacks_by 10 word h) lacks

-- an id and a name
pub lacks_id : (id : ℕ) → IsId id → Lacks 10 (decimal id)
lacks_id id is = lacks_plain 10 (decimal id) (omega arith) (plain_id id is)

pub lacks_name : (name : List ℕ) → IsName name → Lacks 10 name
lacks_name name is = lacks_plain 10 name (omega arith) (plain_name name is)

-- a line of each value, and several of each
pub all_mapped : {V : Type 0} (line : V → List ℕ) (P : V → Type 0) → ((v : V) → P v → IsLine (line v)) → (vs : List V) → All P vs → All IsLine (map line vs)
all_mapped line P says vs all = All-map IsLine line vs (All-weaker P (λ v. IsLine (line v)) says vs all)

pub all_flat : {V : Type 0} (lines_of : V → List (List ℕ)) (P : V → Type 0) → ((v : V) → P v → All IsLine (lines_of v)) → (vs : List V) → All P vs → All IsLine (flat_map lines_of vs)
all_flat lines_of P says [] all = All-nil IsLine
all_flat lines_of P says (v ∷ vs) all = All-append IsLine (lines_of v) (flat_map lines_of vs) (says v (All-head P v vs all)) (all_flat lines_of P says vs (All-tail P v vs all))

-- ---- bytes
-- the bytes of lines, with an LF for each
abbrev pub size : List (List ℕ) → ℕ
size lines = length (lines_text lines)

pub size_append : (a b : List (List ℕ)) → size (a ++ b) ≡ size a + size b
size_append a b = ap (length {A = ℕ}) (lines_text-append a b) ∙ length-append (lines_text a) (lines_text b)

pub size_cons : (x : List ℕ) (lines : List (List ℕ)) → size (x ∷ lines) ≡ length x + 1 + size lines
size_cons x lines = omega (arith, length-append (ended_line x) (lines_text lines), length-append x (10 ∷ []))

-- a moment and an id
pub moment_length : (t : ℤ) → IsMoment t → length (signed_decimal t) ≤ 12
moment_length (pos n) h = length-decimal-le 12 n (omega arith) (omega (arith, ints, h.1)) (omega (arith, ints, h.1))
moment_length (negsuc n) h = absurd (omega (arith, ints, h.0))

pub id_length : (id : ℕ) → IsId id → length (decimal id) ≤ 16
id_length id is = length-decimal-le 16 id (omega arith) (omega (arith, is.1)) (omega (arith, is.1))

-- a field, a space and what follows
pub joined_length : (field rest : List ℕ) (m n : ℕ) → length field ≤ m → length rest ≤ n → length (field ++ 32 ∷ rest) ≤ m + (n + 1)
joined_length field rest m n h k = omega (arith, h, k, length-append field (32 ∷ rest))

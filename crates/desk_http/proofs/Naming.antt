-- The fields with a name, one field after another.
use Rattle.std.proofs.Common.{◌≡◌, ℕ, suc, ◌<◌, ◌≤◌, ◌-◌, ◌↔◌, IsTrue, Bool, true, false, List, [], ◌∷◌, ◌++◌, All, append-nil, append_assoc, if◌then◌else◌, length, length-append, map, get_or, take, drop, refl, sym, ap, subst, ◌∙◌, arith}
use Rattle.std.proofs.lemmas.Grind.{common_steps}
use Rattle.std.proofs.lemmas.Bool.{false_from_ne_true, false≢true}
use Rattle.std.proofs.lemmas.Slice.Eq.{bytes_eq-Decides}
use Rattle.std.specs.Char.{to_ascii_lowercase}
use Rattle.httparse.specs.Spans.{IsWithin, span_bytes, header_bytes}
use Rattle.httparse.specs.declared.spans.HeaderSpan.{HeaderSpan}
use Rattle.httparse.specs.declared.spans.Span.{Span}
use Rattle.desk_http.specs.declared.fields.Framing.{Framing}
use Rattle.desk_http.specs.declared.fields.Named.{Named}
use Rattle.desk_http.specs.declared.fields.Named.TheVariants.{Nothing, One, More}
use Rattle.desk_http.specs.Fields.{same_name, named}
use Rattle.desk_http.specs.Reading.{IsFraming, IsNamed}

abbrev pub no_span : HeaderSpan
no_span = record { name = record { start = 0; end = 0 }; value = record { start = 0; end = 0 } }

-- a list that is not empty
pub split_first : {A : Type 0} (rest : List A) (d : A) → 1 ≤ length rest → rest ≡ get_or rest 0 d ∷ take (length rest - 1) (drop 1 rest)
split_first [] d some = absurd (omega arith)
split_first (x ∷ xs) d some = grind (arith, common_steps)

hit_of : (a b : List ℕ) (r : Bool) → (IsTrue r ↔ (map to_ascii_lowercase a ≡ map to_ascii_lowercase b)) → r ≡ true → same_name a b ≡ true
hit_of a b r test is = (bytes_eq-Decides (map to_ascii_lowercase a) (map to_ascii_lowercase b)).1 (test.0 is)

miss_of : (a b : List ℕ) (r : Bool) → (IsTrue r ↔ (map to_ascii_lowercase a ≡ map to_ascii_lowercase b)) → r ≡ false → same_name a b ≡ false
miss_of a b r test is = false_from_ne_true (same_name a b) (λ yes. absurd (false≢true (sym is ∙ test.1 ((bytes_eq-Decides (map to_ascii_lowercase a) (map to_ascii_lowercase b)).0 yes))))

named_hit : (name : List ℕ) (f : List ℕ × List ℕ) (fs : List (List ℕ × List ℕ)) → same_name f.0 name ≡ true → named name (f ∷ fs) ≡ f.1 ∷ named name fs
named_hit name f fs is = rw is refl

named_miss : (name : List ℕ) (f : List ℕ × List ℕ) (fs : List (List ℕ × List ℕ)) → same_name f.0 name ≡ false → named name (f ∷ fs) ≡ named name fs
named_miss name f fs is = rw is refl

pub all_after : {A : Type 0} (P : A → Type 0) (rest : List A) (d : A) → 1 ≤ length rest → All P rest → All P (take (length rest - 1) (drop 1 rest))
all_after P [] d some all = absurd (omega arith)
all_after P (x ∷ xs) d some all = let e : take (length (x ∷ xs) - 1) (drop 1 (x ∷ xs)) ≡ xs = grind (arith, common_steps) in subst (λ l. All P l) (sym e) (λ k d' below. all (suc k) d' (omega (arith, below)))

one_found : (buf : List ℕ) (front : List (List ℕ)) (found : Named) → IsNamed buf front found → (found ≡ Nothing → ⊥) → 1 ≤ length front
one_found buf front Nothing is some = absurd (some refl)
one_found buf front (One span) is some = omega (arith, ap length is.1)
one_found buf front More is some = omega (arith, is)

-- by variants
abbrev pub kind : Named → ℕ
kind Nothing = 0
kind (One span) = 1
kind More = 2

pub some_found : (a b : Named) → (kind b ≡ 0 → ⊥) → a ≡ b → a ≡ Nothing → ⊥
some_found a b other is none = other (ap kind (sym is ∙ none))

pub other_one : (a : Named) (b : Span) → a ≡ One b → a ≡ Nothing → ⊥
other_one a b is none = some_found a (One b) (λ e. omega (arith, e)) is none

pub other_more : (a : Named) → a ≡ More → a ≡ Nothing → ⊥
other_more a is none = some_found a More (λ e. omega (arith, e)) is none

none_found : (buf : List ℕ) (front : List (List ℕ)) (found : Named) → IsNamed buf front found → found ≡ Nothing → front ≡ []
none_found buf front Nothing is same = is
none_found buf front (One span) is same = absurd (other_one (One span) span refl same)
none_found buf front More is same = absurd (other_more More refl same)

keeps_front : (b : Bool) (v : List ℕ) (l m n : List (List ℕ)) → l ≡ m ++ n → (if b then v ∷ l else l) ≡ (if b then v ∷ m else m) ++ n
keeps_front true v l m n is = ap (λ l. v ∷ l) is
keeps_front false v l m n is = is

named_append : (name : List ℕ) (fs gs : List (List ℕ × List ℕ)) → named name (fs ++ gs) ≡ named name fs ++ named name gs
named_append name [] gs = refl
named_append name (f ∷ fs) gs = keeps_front (same_name f.0 name) f.1 (named name (fs ++ gs)) (named name fs) (named name gs) (named_append name fs gs)

-- one field more, which has the name or another
module _ (buf name a : List ℕ) (field : HeaderSpan) (r : Bool) (is_a : a ≡ span_bytes buf field.name) (test : IsTrue r ↔ (map to_ascii_lowercase a ≡ map to_ascii_lowercase name)) where
  same_test : IsTrue r ↔ (map to_ascii_lowercase (span_bytes buf field.name) ≡ map to_ascii_lowercase name)
  same_test = subst (λ t. IsTrue r ↔ (map to_ascii_lowercase t ≡ map to_ascii_lowercase name)) is_a test

  hit : (fields : List (List ℕ × List ℕ)) → r ≡ true → named name (fields ++ header_bytes buf field ∷ []) ≡ named name fields ++ span_bytes buf field.value ∷ []
  hit fields is =
      named_append name fields (header_bytes buf field ∷ [])
      ∙ ap (λ l. named name fields ++ l) (named_hit name (header_bytes buf field) [] (hit_of (span_bytes buf field.name) name r same_test is))

  miss : (fields : List (List ℕ × List ℕ)) → r ≡ false → named name (fields ++ header_bytes buf field ∷ []) ≡ named name fields
  miss fields is =
      named_append name fields (header_bytes buf field ∷ [])
      ∙ ap (λ l. named name fields ++ l) (named_miss name (header_bytes buf field) [] (miss_of (span_bytes buf field.name) name r same_test is))
      ∙ append-nil (named name fields)

  pub stays : (found : Named) → r ≡ false → (fields : List (List ℕ × List ℕ)) → IsNamed buf (named name fields) found
      → IsNamed buf (named name (fields ++ header_bytes buf field ∷ [])) found
  stays found is fields named_so = subst (λ v. IsNamed buf v found) (sym (miss fields is)) named_so

  pub first_one : (found : Named) → r ≡ true → found ≡ Nothing → IsWithin (length buf) field.value → (fields : List (List ℕ × List ℕ))
      → IsNamed buf (named name fields) found → IsNamed buf (named name (fields ++ header_bytes buf field ∷ [])) (One field.value)
  first_one found is none within fields named_so =
      (within, hit fields is ∙ ap (λ v. v ++ span_bytes buf field.value ∷ []) (none_found buf (named name fields) found named_so none))

  pub one_more : (found : Named) → r ≡ true → (found ≡ Nothing → ⊥) → (fields : List (List ℕ × List ℕ))
      → IsNamed buf (named name fields) found → 2 ≤ length (named name (fields ++ header_bytes buf field ∷ []))
  one_more found is some fields named_so =
      omega (arith, ap length (hit fields is), length-append (named name fields) (span_bytes buf field.value ∷ []), one_found buf (named name fields) found named_so some)

-- the fields before the rest, where the rest is empty
pub seen_all : (buf : List ℕ) (fields rest : List HeaderSpan) (seen : List (List ℕ × List ℕ)) (found : Framing) → map (header_bytes buf) fields ≡ seen ++ map (header_bytes buf) rest
    → length rest < 1 → IsFraming buf seen found → IsFraming buf (map (header_bytes buf) fields) found
seen_all buf fields [] seen found whole none is = subst (λ l. IsFraming buf l found) (sym (whole ∙ append-nil seen)) is
seen_all buf fields (x ∷ rest) seen found whole none is = absurd (omega (arith, none))

-- one field of the rest is seen
pub seen_more : (buf : List ℕ) (fields rest : List HeaderSpan) (seen : List (List ℕ × List ℕ)) (d : HeaderSpan) → map (header_bytes buf) fields ≡ seen ++ map (header_bytes buf) rest
    → 1 ≤ length rest → map (header_bytes buf) fields ≡ (seen ++ header_bytes buf (get_or rest 0 d) ∷ []) ++ map (header_bytes buf) (take (length rest - 1) (drop 1 rest))
seen_more buf fields rest seen d whole some =
    whole ∙ ap (λ l. seen ++ map (header_bytes buf) l) (split_first rest d some)
    ∙ sym (append_assoc seen (header_bytes buf (get_or rest 0 d) ∷ []) (map (header_bytes buf) (take (length rest - 1) (drop 1 rest))))

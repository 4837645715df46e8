-- Items that are absent, and what is read behind items.
use Rattle.std.proofs.Common.{◌≡◌, ℕ, true, List, [], ◌∷◌, ◌++◌, length, refl, sym, ap, subst, ◌∙◌, arith}
use Rattle.std.specs.Prelude.{nat_eq}
use Rattle.std.proofs.lemmas.Bool.{eqb-true}
use Rattle.script_text.specs.declared.error.Refusal.{Refusal}
use Rattle.script_text.specs.declared.error.Refusal.TheVariants as refusal
use Rattle.script_text.specs.Bytes.{is_blank, is_in_field, NotNext, SplitsRun}
use Rattle.script_text.specs.Runs.{is_in_name}
use Rattle.script_text.specs.Items.{absent, IsTaken, IsField, field_of, field, quoted_name, loose_equals, equals, gap}
use Rattle.script_text.specs.Readings.{NotTaken}
use Rattle.script_text.proofs.Cutting.{run_one}

-- no field is no field that spells something
pub field_fails : {V : Type 0} (Spells : List ℕ → V → Type 0) (text : List ℕ) (e : Refusal) → NotTaken field text e → NotTaken (field_of Spells) text e
field_fails Spells text refusal.NoCommand h = (λ value rest t. h.0 t.0 rest (t.0, t.1, refl), λ b. b)
field_fails Spells text refusal.BraceNotClosed h = absurd h
field_fails Spells text refusal.Memory h = tt

-- a field that spells nothing
pub field_absent : {V : Type 0} (Spells : List ℕ → V → Type 0) (text found rest : List ℕ) → IsField text found rest → ((value : V) → ¬ Spells found value) → IsTaken (field_of Spells) text absent
field_absent Spells text found rest f n = (
  λ value other t.
      let same = run_one is_in_field text t.0 found other rest t.1.1 f.1 in
      let P : List ℕ → Type 0 = λ x. Spells x value in
      n value (subst P same.0 t.2),
  λ b. b,
)

-- behind the bytes of a name no quote stands
pub name_absent : (text inner run left : List ℕ) → text ≡ 34 ∷ inner → SplitsRun is_in_name inner run left → NotNext 34 left → IsTaken quoted_name text absent
name_absent text inner run left e s n = (
  λ name rest t.
      let f : inner ≡ name ++ 34 ∷ rest = (let a = e in let b = t.1 in cc) in
      let same = run_one is_in_name inner run name left (34 ∷ rest) s (record { splits = f; passing = t.0; stops = refl }) in
      subst (NotNext 34) same.1 n refl,
  λ b. b,
)

-- behind the blanks no `=` stands
pub equals_absent : (text before left : List ℕ) (e : Refusal) → SplitsRun is_blank text before left → NotTaken equals left e → NotTaken loose_equals text e
equals_absent text before left refusal.NoCommand s h = (
  λ value rest t.
      let same = run_one is_blank text before t.0 left (61 ∷ t.1) s t.3 in
      h.0 tt t.1 same.1,
  λ b. b,
)
equals_absent text before left refusal.BraceNotClosed s h = absurd h
equals_absent text before left refusal.Memory s h = tt

pub gap_absent : (text found rest : List ℕ) → SplitsRun is_blank text found rest → found ≡ [] → IsTaken gap text absent
gap_absent text found rest s e = (
  λ value other t.
      let same = run_one is_blank text found t.0 rest other s t.2 in
      let h = t.1 in
      let z = ap length (sym e ∙ same.0) in
      absurd (omega arith),
  λ b. b,
)

pub field_nothing : (text found rest : List ℕ) → SplitsRun is_in_field text found rest → found ≡ [] → IsTaken field text absent
field_nothing text found rest s e = (
  λ value other t.
      let same = run_one is_in_field text found t.0 rest other s t.1.1 in
      let h = t.1.0 in
      let z = ap length (sym e ∙ same.0) in
      absurd (omega arith),
  λ b. b,
)

pub empty_is : (xs : List ℕ) → nat_eq (length xs) 0 ≡ true → xs ≡ []
empty_is [] e = refl
empty_is (x ∷ xs) e = absurd (let f = eqb-true (length (x ∷ xs)) 0 e in omega arith)

pub field_is : (text found rest : List ℕ) → field.Takes text found rest → IsField text found rest
field_is text found rest t = subst (λ f. IsField text f rest) t.2 t.1

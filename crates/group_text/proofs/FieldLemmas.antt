-- The fields of properties and tests: a text is those of one value.
use Rattle.std.proofs.Common.{ℕ, ℤ, pos, negsuc, ◌≡◌, ◌≢◌, ◌<◌, ◌^◌, List, [], ◌∷◌, ◌++◌, refl, sym, ap, subst, ◌∙◌, arith, append_assoc, w64, FitsSigned}
use Rattle.std.specs.Fmt.{signed_decimal}
use Rattle.std.proofs.lemmas.Int.{ints}
use Rattle.std.proofs.lemmas.Fmt.{signed_decimal_injective}
use Rattle.line_forms.specs.Cuts.{Lacks}
use Rattle.line_forms.specs.Fields.{IsFirstField, field_text}
use Rattle.line_forms.specs.Names.{IsName, IsRest}
use Rattle.line_forms.proofs.Cutting.{IsCut-one}
use Rattle.line_forms.proofs.Lasts.{all_at}
use Rattle.line_forms.proofs.PlainLemmas.{lacks_plain, plain_name, plain_signed}
use Rattle.group_text.specs.declared.property.Property.{Property}
use Rattle.group_text.specs.Properties.{IsPeriod, IsProperty, property_rest}
use Rattle.group_text.specs.Readings.{AreFields, AreNamed}
use lib.Signed.{mag}

-- a text without spaces has no first field
pub no_field : (text first rest : List ℕ) → Lacks 32 text → IsFirstField text first rest → ⊥
no_field text first rest lacks cut = all_at (λ byte. byte ≢ 32) first rest 32 (subst (Lacks 32) cut.1 lacks) refl

-- a field without spaces, and what follows it
field_first : (text field rest : List ℕ) → Lacks 32 field → text ≡ field_text field ++ rest → IsFirstField text field rest
field_first text field rest lacks is = (lacks, is ∙ append_assoc field (32 ∷ []) rest)

first_field : (text field rest : List ℕ) → IsFirstField text field rest → text ≡ field_text field ++ rest
first_field text field rest cut = cut.1 ∙ sym (append_assoc field (32 ∷ []) rest)

name_lacks : (name : List ℕ) → IsName name → Lacks 32 name
name_lacks name is = lacks_plain 32 name (omega arith) (plain_name name is)

period_mag : (z : ℤ) → IsPeriod z → mag z < 2 ^ 63
period_mag (pos n) is = omega (arith, ints, is.1)
period_mag (negsuc n) is = omega (arith, ints, is.0)

pub period_fits : (z : ℤ) → IsPeriod z → FitsSigned w64 z
period_fits (pos n) is = record { sfits = omega (arith, ints, is.1) }
period_fits (negsuc n) is = absurd (omega (arith, ints, is.0))

period_lacks : (z : ℤ) → IsPeriod z → Lacks 32 (signed_decimal z)
period_lacks z is = lacks_plain 32 (signed_decimal z) (omega arith) (plain_signed z (period_mag z is))

-- ---- a name and a rest
named_cut : (text property rest : List ℕ) → AreNamed text property rest → IsFirstField text property rest
named_cut text property rest is = field_first text property rest (name_lacks property is.0) is.2

pub named_same : (text first last property rest : List ℕ) → IsFirstField text first last → AreNamed text property rest → (property ≡ first) × (rest ≡ last)
named_same text first last property rest cut is = IsCut-one 32 text first last property rest cut (named_cut text property rest is)

pub no_named : (text property rest : List ℕ) → Lacks 32 text → AreNamed text property rest → ⊥
no_named text property rest lacks is = no_field text property rest lacks (named_cut text property rest is)

pub other_name : (text first last property rest : List ℕ) → IsFirstField text first last → (IsName first → ⊥) → AreNamed text property rest → ⊥
other_name text first last property rest cut none is =
    let P : List ℕ → Type 0 = IsName in none (subst P (named_same text first last property rest cut is).0 is.0)

pub other_rest : (text first last property rest : List ℕ) → IsFirstField text first last → (IsRest last → ⊥) → AreNamed text property rest → ⊥
other_rest text first last property rest cut none is =
    let P : List ℕ → Type 0 = IsRest in none (subst P (named_same text first last property rest cut is).1 is.1)

pub named_whole : (text first last property rest : List ℕ) → IsFirstField text first last → IsName first → property ≡ first → IsRest last → rest ≡ last → AreNamed text property rest
named_whole text first last property rest cut name same is last_same =
    let N : List ℕ → Type 0 = IsName in
    let R : List ℕ → Type 0 = IsRest in
    let T : List ℕ → Type 0 = λ p. text ≡ field_text p ++ rest in
    let U : List ℕ → Type 0 = λ r. text ≡ field_text first ++ r in
    (subst N (sym same) name, subst R (sym last_same) is, subst T (sym same) (subst U (sym last_same) (first_field text first last cut)))

pub named_one : (text a b c d : List ℕ) → AreNamed text a b → AreNamed text c d → (c ≡ a) × (d ≡ b)
named_one text a b c d is fine = named_same text a b c d (named_cut text a b is) fine

-- ---- a name, a period and a question
fields_cut : (text name : List ℕ) (period : ℤ) (question : List ℕ) → AreFields text name period question → IsFirstField text name (field_text (signed_decimal period) ++ question)
fields_cut text name period question is =
    field_first text name (field_text (signed_decimal period) ++ question) (name_lacks name is.0) (is.3 ∙ append_assoc (field_text name) (field_text (signed_decimal period)) question)

pub fields_same : (text first rest second last name : List ℕ) (period : ℤ) (question : List ℕ) → IsFirstField text first rest → IsFirstField rest second last → AreFields text name period question →
    (name ≡ first) × (signed_decimal period ≡ second) × (question ≡ last)
fields_same text first rest second last name period question cut next is =
    let one = IsCut-one 32 text first rest name (field_text (signed_decimal period) ++ question) cut (fields_cut text name period question is) in
    let two = IsCut-one 32 rest second last (signed_decimal period) question next
    (field_first rest (signed_decimal period) question (period_lacks period is.1) (sym one.1)) in
    (one.0, two.0, two.1)

pub no_fields : (text name : List ℕ) (period : ℤ) (question : List ℕ) → Lacks 32 text → AreFields text name period question → ⊥
no_fields text name period question lacks is =
    no_field text name (field_text (signed_decimal period) ++ question) lacks (fields_cut text name period question is)

pub no_second : (text first rest name : List ℕ) (period : ℤ) (question : List ℕ) → IsFirstField text first rest → Lacks 32 rest → AreFields text name period question → ⊥
no_second text first rest name period question cut lacks is =
    let one = IsCut-one 32 text first rest name (field_text (signed_decimal period) ++ question) cut (fields_cut text name period question is) in
    no_field rest (signed_decimal period) question lacks (field_first rest (signed_decimal period) question (period_lacks period is.1) (sym one.1))

pub fields_whole : (text first rest second last name : List ℕ) (period : ℤ) (question : List ℕ) → IsFirstField text first rest → IsFirstField rest second last → IsName first → name ≡ first →
    IsPeriod period → second ≡ signed_decimal period → IsRest last → question ≡ last → AreFields text name period question
fields_whole text first rest second last name period question cut next is_name name_is is_period period_is is_rest question_is =
    let N : List ℕ → Type 0 = IsName in
    let R : List ℕ → Type 0 = IsRest in
    let whole : text ≡ field_text first ++ (field_text second ++ last) = first_field text first rest cut ∙ ap (λ r. field_text first ++ r) (first_field rest second last next) in (
      subst N (sym name_is) is_name,
      is_period,
      subst R (sym question_is) is_rest,
      whole ∙ ap (λ f. field_text f ++ (field_text second ++ last)) (sym name_is) ∙ ap (λ p. field_text name ++ (field_text p ++ last)) period_is
          ∙ ap (λ q. field_text name ++ (field_text (signed_decimal period) ++ q)) (sym question_is) ∙ sym (append_assoc (field_text name) (field_text (signed_decimal period)) question),
    )

pub period_one : (a b : ℤ) → IsPeriod a → IsPeriod b → signed_decimal a ≡ signed_decimal b → a ≡ b
period_one a b is fine e = signed_decimal_injective a b (period_mag a is) (period_mag b fine) e

-- ---- a property is known by its fields
abbrev property_of : List ℕ → ℤ → List ℕ → Property
property_of name period question = record { name = name; period = period; question = question }

pub fields_of : (text : List ℕ) (p : Property) → IsProperty p → text ≡ property_rest p → AreFields text p.name p.period p.question
fields_of text p is e = (is.name, is.period, is.rest, e)

pub fields_one : (text a : List ℕ) (s : ℤ) (q b : List ℕ) (t : ℤ) (r : List ℕ) → AreFields text a s q → AreFields text b t r → (b ≡ a) × (t ≡ s) × (r ≡ q)
fields_one text a s q b t r is fine =
    let next : IsFirstField (field_text (signed_decimal s) ++ q) (signed_decimal s) q = field_first (field_text (signed_decimal s) ++ q) (signed_decimal s) q (period_lacks s is.1) refl in
    let same = fields_same text a (field_text (signed_decimal s) ++ q) (signed_decimal s) q b t r (fields_cut text a s q is) next fine in
    (same.0, period_one t s fine.1 is.1 same.1, same.2)

pub property_one : (a b : Property) → IsProperty a → IsProperty b → property_rest a ≡ property_rest b → a ≡ b
property_one a b is fine e =
    let same = fields_one (property_rest b) b.name b.period b.question a.name a.period a.question (fields_of (property_rest b) b fine refl) (fields_of (property_rest b) a is (sym e)) in
    ap (λ n. property_of n a.period a.question) same.0 ∙ ap (λ s. property_of b.name s a.question) same.1 ∙ ap (λ q. property_of b.name b.period q) same.2

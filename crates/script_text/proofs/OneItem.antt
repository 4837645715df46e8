-- Each item is taken from a text in one way at most.
use Rattle.std.proofs.Common.{◌≡◌, ℕ, ◌-◌, ◌^◌, List, ◌∷◌, ◌++◌, refl, sym, ap, subst, ◌∙◌, arith, codes, Ok}
use Rattle.std.proofs.lemmas.Fmt.{decimal_injective}
use Rattle.std.proofs.lemmas.List.{append_cancel_left}
use Rattle.hex.specs.Hex.{decode_sized}
use Rattle.line_forms.specs.Numbers.{IsNumber}
use Rattle.script_text.specs.declared.piece.Ending.TheVariants as ending
use Rattle.script_text.specs.Bytes.{is_blank, is_in_field}
use Rattle.script_text.specs.Runs.{is_in_name}
use Rattle.script_text.specs.Templates.{IsTemplate, EndsExpression}
use Rattle.script_text.specs.Items.{Item, Taken, took, brace_open, absent, IsTaken, field_of, field, word, name_field, size_field, digest_field, gap, equals, loose_equals, quoted_name, braced, quoted, rest_of_line, path_of_line, line_end}
use Rattle.script_text.proofs.Cutting.{run_one}
use Rattle.script_text.proofs.OneTemplate.{cons_same, opened_one, expression_one, ends_or_open, template_one, template_or_open}
use Rattle.script_text.proofs.PieceLemmas.{path_one}

-- how a text is read as this item is one thing
abbrev pub IsSingle : {V : Type 0} → Item V → Type 0
IsSingle {V} item = (text : List ℕ) (t u : Taken V) → IsTaken item text t → IsTaken item text u → t ≡ u

-- what an item says, and what follows, is one thing
abbrev TakesOne : {V : Type 0} → Item V → Type 0
TakesOne {V} item = (text : List ℕ) (v w : V) (r s : List ℕ) → item.Takes text v r → item.Takes text w s → (v ≡ w) × (r ≡ s)

abbrev TakesOrBreaks : {V : Type 0} → Item V → Type 0
TakesOrBreaks {V} item = (text : List ℕ) (v : V) (r : List ℕ) → item.Takes text v r → ¬ item.Breaks text

same_took : {V : Type 0} (v w : V) (r s : List ℕ) → (v ≡ w) × (r ≡ s) → took v r ≡ took w s
same_took v w r s e = ap (λ x. took x r) e.0 ∙ ap (took w) e.1

single : {V : Type 0} (item : Item V) → TakesOne item → TakesOrBreaks item → IsSingle item
single item one or text (took v r) (took w s) x y = same_took v w r s (one text v w r s x y)
single item one or text (took v r) brace_open x y = absurd (or text v r x y)
single item one or text (took v r) absent x y = absurd (y.0 v r x)
single item one or text brace_open (took w s) x y = absurd (or text w s y x)
single item one or text brace_open brace_open x y = refl
single item one or text brace_open absent x y = absurd (y.1 x)
single item one or text absent (took w s) x y = absurd (x.0 w s y)
single item one or text absent brace_open x y = absurd (x.1 y)
single item one or text absent absent x y = refl

field_of_single : {V : Type 0} (Spells : List ℕ → V → Type 0) → ((text : List ℕ) (v w : V) → Spells text v → Spells text w → v ≡ w) → IsSingle (field_of Spells)
field_of_single Spells one = single (field_of Spells)
    (λ text v w r s x y.
    let same = run_one is_in_field text x.0 y.0 r s x.1.1 y.1.1 in
    (one y.0 v w (subst (λ f. Spells f v) same.0 x.2) y.2, same.1))
    (λ text v r x b. b)

pub field_single : IsSingle field
field_single = field_of_single (λ text value. text ≡ value) (λ text v w x y. sym x ∙ y)

pub word_single : (lower : List ℕ) → IsSingle (word lower)
word_single lower = field_of_single _ (λ text v w x y. refl)

pub name_single : IsSingle name_field
name_single = field_of_single _ (λ text v w x y. sym x.1 ∙ y.1)

number_same : (text other : List ℕ) (m n : ℕ) → text ≡ other → IsNumber (2 ^ 64 - 1) text m → IsNumber (2 ^ 64 - 1) other n → m ≡ n
number_same text other m n e h k = decimal_injective m n (omega (arith, h.0)) (omega (arith, k.0)) (sym h.1 ∙ e ∙ k.1)

pub size_single : IsSingle size_field
size_single = field_of_single _ (λ text v w x y. number_same x.0 y.0 v w (append_cancel_left (codes "size:") x.0 y.0 (sym x.1 ∙ y.1)) x.2 y.2)

decoded_same : (text other a b : List ℕ) (count : ℕ) → text ≡ other → decode_sized text count ≡ Ok a → decode_sized other count ≡ Ok b → a ≡ b
decoded_same text other a b count e x y = let f = ap (λ t. decode_sized t count) e in let g = x in let h = y in cc

pub digest_single : (before : List ℕ) (count : ℕ) → IsSingle (digest_field before count)
digest_single before count = field_of_single _ (λ text v w x y. decoded_same x.0 y.0 v w count (append_cancel_left before x.0 y.0 (sym x.1 ∙ y.1)) x.2 y.2)

pub gap_single : IsSingle gap
gap_single = single gap (λ text v w r s x y. (refl, (run_one is_blank text x.0 y.0 r s x.2 y.2).1)) (λ text v r x b. b)

pub equals_single : IsSingle equals
equals_single = single equals (λ text v w r s x y. (refl, (cons_same 61 61 r s (sym x ∙ y)).1)) (λ text v r x b. b)

pub loose_equals_single : IsSingle loose_equals
loose_equals_single = single loose_equals
    (λ text v w r s x y.
    let sign = run_one is_blank text x.0 y.0 (61 ∷ x.1) (61 ∷ y.1) x.3 y.3 in
    let left = (cons_same 61 61 x.1 y.1 sign.1).1 in
    (refl, (run_one is_blank y.1 x.2 y.2 r s (rw left at x.4) y.4).1))
    (λ text v r x b. b)

pub quoted_name_single : IsSingle quoted_name
quoted_name_single = single quoted_name
    (λ text v w r s x y.
    let same = run_one is_in_name (v ++ 34 ∷ r) v w (34 ∷ r) (34 ∷ s)
    (record { splits = refl; passing = x.0; stops = refl })
    (record { splits = (cons_same 34 34 (v ++ 34 ∷ r) (w ++ 34 ∷ s) (sym x.1 ∙ y.1)).1; passing = y.0; stops = refl }) in
    (same.0, (cons_same 34 34 r s same.1).1))
    (λ text v r x b. b)

pub braced_single : IsSingle braced
braced_single = single braced
    (λ text v w r s x y.
    let inner = opened_one text x.0 y.0 x.1 y.1 in
    expression_one y.0 v w r s (subst (λ i. EndsExpression i v r) inner x.2) y.2)
    (λ text v r x b.
    let inner = opened_one text x.0 b.0 x.1 b.1 in
    ends_or_open b.0 v r (subst (λ i. EndsExpression i v r) inner x.2) b.2)

pub quoted_single : IsSingle quoted
quoted_single = single quoted
    (λ text v w r s x y.
    let inner = (cons_same 34 34 x.0 y.0 (sym x.1 ∙ y.1)).1 in
    let same = template_one ending.Quote y.0 v w (34 ∷ r) (34 ∷ s) (subst (λ i. IsTemplate ending.Quote i v (34 ∷ r)) inner x.2) y.2 in
    (same.0, (cons_same 34 34 r s same.1).1))
    (λ text v r x b.
    let inner = (cons_same 34 34 x.0 b.0 (sym x.1 ∙ b.1)).1 in
    template_or_open ending.Quote b.0 v (34 ∷ r) (subst (λ i. IsTemplate ending.Quote i v (34 ∷ r)) inner x.2) b.2)

pub rest_single : IsSingle rest_of_line
rest_single = single rest_of_line
    (λ text v w r s x y. template_one ending.Text text v w r s x.1 y.1)
    (λ text v r x b. template_or_open ending.Text text v r x.1 b.1)

pub path_single : IsSingle path_of_line
path_single = single path_of_line
    (λ text v w r s x y.
    let path = path_one text x.0 y.0 x.2 y.2 in
    template_one ending.Text y.0 v w r s (subst (λ p. IsTemplate ending.Text p v r) path x.3) y.3)
    (λ text v r x b.
    let path = path_one text x.0 b.0 x.2 b.2 in
    template_or_open ending.Text b.0 v r (subst (λ p. IsTemplate ending.Text p v r) path x.3) b.3)

pub end_single : IsSingle line_end
end_single = single line_end (λ text v w r s x y. (refl, x.1 ∙ sym y.1)) (λ text v r x b. b)

-- A text begins with one template at most.
use Rattle.std.proofs.Common.{◌≡◌, ◌≢◌, ℕ, ◌<◌, ◌⊎◌, Bool, true, false, cond, List, [], ◌∷◌, ◌++◌, length, refl, sym, ap, subst, ◌∙◌, inl, inr, arith, length-append}
use Rattle.std.specs.Prelude.{nat_eq}
use Rattle.std.proofs.lemmas.Bool.{false≢true, eqb-true, eq-eqb}
use Rattle.script_text.specs.declared.piece.Ending.{Ending}
use Rattle.script_text.specs.declared.piece.Ending.TheVariants as ending
use Rattle.script_text.specs.declared.template.Part2.{Part2}
use Rattle.script_text.specs.declared.template.Part2.TheVariants.{Plain, Expression}
use Rattle.script_text.specs.declared.template.Template.{Template}
use Rattle.script_text.specs.Bytes.{Each, NotNext}
use Rattle.script_text.specs.Templates.{turned, in_literal, NoneEnds, HasNoEnd, EndsExpression, IsOpened, doubled, is_plain, EndsPlain, IsPart, AreParts, IsAtEnd, IsTemplate, HasOpenBrace}
use Rattle.script_text.specs.Readings.{EndsEarly}
use Rattle.script_text.proofs.TemplateLemmas.{brace_plain, doubled_long}

pub cons_same : {A : Type 0} (x y : A) (xs ys : List A) → x ∷ xs ≡ y ∷ ys → (x ≡ y) × (xs ≡ ys)
cons_same x y xs ys e = ((let f = e in cc), (let f = e in cc))

-- a byte, doubled where it is a brace, before a text
abbrev put : ℕ → List ℕ → List ℕ
put x t = cond (nat_eq x 123) (123 ∷ 123 ∷ t) (x ∷ t)

put-append : (x : ℕ) (t r : List ℕ) → put x t ++ r ≡ put x (t ++ r)
put-append x t r = elim (nat_eq x 123) as (λ c. cond c (123 ∷ 123 ∷ t) (x ∷ t) ++ r ≡ cond c (123 ∷ 123 ∷ (t ++ r)) (x ∷ (t ++ r))) [ true ↦ refl | false ↦ refl ]

-- what a byte is put as: a doubled brace, or another byte
put_cases : (x : ℕ) (t : List ℕ) → ((x ≡ 123) × (put x t ≡ 123 ∷ 123 ∷ t)) ⊎ ((x ≢ 123) × (put x t ≡ x ∷ t))
put_cases x t = elim (nat_eq x 123) as (λ c. c ≡ nat_eq x 123 → ((x ≡ 123) × (cond c (123 ∷ 123 ∷ t) (x ∷ t) ≡ 123 ∷ 123 ∷ t)) ⊎ ((x ≢ 123) × (cond c (123 ∷ 123 ∷ t) (x ∷ t) ≡ x ∷ t)))
    [ true ↦ (λ q. inl (eqb-true x 123 (sym q), refl)) | false ↦ (λ q. inr ((λ e. false≢true (q ∙ eq-eqb x 123 e)), refl)) ] refl

put_one : (x y : ℕ) (t u : List ℕ) → put x t ≡ put y u → (x ≡ y) × (t ≡ u)
put_one x y t u e = elim (put_cases x t) [
  | inl a ↦ elim (put_cases y u) [
    | inl b ↦ (let p = a.0 in let q = b.0 in cc, let f : 123 ∷ 123 ∷ t ≡ 123 ∷ 123 ∷ u = (sym a.1 ∙ e ∙ b.1) in cc)
    | inr b ↦ (let f : 123 ∷ 123 ∷ t ≡ y ∷ u = (sym a.1 ∙ e ∙ b.1) in let g : y ≡ 123 = cc in absurd (b.0 g))
  ]
  | inr a ↦ elim (put_cases y u) [
    | inl b ↦ (let f : x ∷ t ≡ 123 ∷ 123 ∷ u = (sym a.1 ∙ e ∙ b.1) in let g : x ≡ 123 = cc in absurd (a.0 g))
    | inr b ↦ cons_same x y t u (sym a.1 ∙ e ∙ b.1)
  ]
]

-- plain text doesn't go on where it ends
no_more : (e : Ending) (y : ℕ) (t r : List ℕ) → r ≡ put y t → is_plain e y ≡ true → EndsPlain e r → ⊥
no_more e y t [] q p h = elim (put_cases y t) [ inl a ↦ (let f : [] ≡ 123 ∷ 123 ∷ t = q ∙ a.1 in cc) | inr a ↦ (let f : [] ≡ y ∷ t = q ∙ a.1 in cc) ]
no_more e y t (b ∷ bs) q p h = elim (put_cases y t) [
  | inl a ↦ (let c = cons_same b 123 bs (123 ∷ t) (q ∙ a.1) in elim h [
    | inl i ↦ subst (NotNext 123) c.1 i.1 refl
    | inr i ↦ false≢true (sym i ∙ ap (is_plain e) c.0 ∙ brace_plain e)
  ])
  | inr a ↦ (let c = cons_same b y bs t (q ∙ a.1) in elim h [
    | inl i ↦ a.0 (sym c.0 ∙ (let f = i.0 in let g : b ≡ 123 = cc in g))
    | inr i ↦ false≢true (sym i ∙ ap (is_plain e) c.0 ∙ p)
  ])
]

same_doubled : (e : Ending) (a b r s : List ℕ) → doubled a ++ r ≡ doubled b ++ s → Each (is_plain e) a → Each (is_plain e) b → EndsPlain e r → EndsPlain e s → (a ≡ b) × (r ≡ s)
same_doubled e [] [] r s q pa pb er es = (refl, q)
same_doubled e [] (y ∷ b) r s q pa pb er es = absurd (no_more e y (doubled b ++ s) r (q ∙ put-append y (doubled b) s) pb.0 er)
same_doubled e (x ∷ a) [] r s q pa pb er es = absurd (no_more e x (doubled a ++ r) s (sym q ∙ put-append x (doubled a) r) pa.0 es)
same_doubled e (x ∷ a) (y ∷ b) r s q pa pb er es =
    let one = put_one x y (doubled a ++ r) (doubled b ++ s) (sym (put-append x (doubled a) r) ∙ q ∙ put-append y (doubled b) s) in
    let h = same_doubled e a b r s one.1 pa.1 pb.1 er es in
    let i = one.0 in let j = h.0 in
    ((let z : x ∷ a ≡ y ∷ b = cc in z), h.1)

same_ends : (s : Bool) (a b r t : List ℕ) → a ++ 125 ∷ r ≡ b ++ 125 ∷ t → NoneEnds s a → in_literal s a ≡ false → NoneEnds s b → in_literal s b ≡ false → (a ≡ b) × (r ≡ t)
same_ends s [] [] r t q na la nb lb = (refl, (cons_same 125 125 r t q).1)
same_ends s [] (y ∷ b) r t q na la nb lb = absurd (false≢true (sym la ∙ nb.0 (sym (cons_same 125 y r (b ++ 125 ∷ t) q).0)))
same_ends s (x ∷ a) [] r t q na la nb lb = absurd (false≢true (sym lb ∙ na.0 (cons_same x 125 (a ++ 125 ∷ r) t q).0))
same_ends s (x ∷ a) (y ∷ b) r t q na la nb lb =
    let c = cons_same x y (a ++ 125 ∷ r) (b ++ 125 ∷ t) q in
    let h = same_ends (turned s x) a b r t c.1 na.1 la (subst (λ z. NoneEnds (turned s z) b) (sym c.0) nb.1) (ap (λ z. in_literal (turned s z) b) c.0 ∙ lb) in
    let i = c.0 in let j = h.0 in
    ((let z : x ∷ a ≡ y ∷ b = cc in z), h.1)

none_ends : (s : Bool) (a r : List ℕ) → NoneEnds s (a ++ 125 ∷ r) → in_literal s a ≡ true
none_ends s [] r h = h.0 refl
none_ends s (x ∷ a) r h = none_ends (turned s x) a r h.1

-- an expression that ends isn't open
pub ends_or_open : (inner expression rest : List ℕ) → EndsExpression inner expression rest → ¬ HasNoEnd inner
ends_or_open inner expression rest e n = false≢true (sym e.outside ∙ none_ends false expression rest (subst (NoneEnds false) e.splits n))

pub expression_one : (inner a b r s : List ℕ) → EndsExpression inner a r → EndsExpression inner b s → (a ≡ b) × (r ≡ s)
expression_one inner a b r s x y = same_ends false a b r s (sym x.splits ∙ y.splits) x.first x.outside y.first y.outside

pub opened_one : (text a b : List ℕ) → IsOpened text a → IsOpened text b → a ≡ b
opened_one text a b x y = (cons_same 123 123 a b (sym x.0 ∙ y.0)).1

plain_not_opened : (plain rest inner text : List ℕ) → 0 < length plain → text ≡ doubled plain ++ rest → IsOpened text inner → ⊥
plain_not_opened [] rest inner text l s h = absurd (omega arith)
plain_not_opened (b ∷ bs) rest inner text l s h =
    let q : 123 ∷ inner ≡ put b (doubled bs ++ rest) = sym h.0 ∙ s ∙ put-append b (doubled bs) rest in
    elim (put_cases b (doubled bs ++ rest)) [
      | inl a ↦ subst (NotNext 123) (cons_same 123 123 inner (123 ∷ (doubled bs ++ rest)) (q ∙ a.1)).1 h.1 refl
      | inr a ↦ a.0 (sym (cons_same 123 b inner (doubled bs ++ rest) (q ∙ a.1)).0)
    ]

pub part_one : (e : Ending) (text : List ℕ) (p q : Part2) (r s : List ℕ) → IsPart e text p r → IsPart e text q s → (p ≡ q) × (r ≡ s)
part_one e text (Plain a) (Plain b) r s x y =
    let h = same_doubled e a b r s (sym x.1.splits ∙ y.1.splits) x.1.passing y.1.passing x.1.ends y.1.ends in
    (ap (λ z. Plain z) h.0, h.1)
part_one e text (Plain a) (Expression b) r s x y = absurd (plain_not_opened a r y.0 text x.0 x.1.splits y.1)
part_one e text (Expression a) (Plain b) r s x y = absurd (plain_not_opened b s x.0 text y.0 y.1.splits x.1)
part_one e text (Expression a) (Expression b) r s x y =
    let i = opened_one text x.0 y.0 x.1 y.1 in
    let h = expression_one y.0 a b r s (subst (λ z. EndsExpression z a r) i x.2) y.2 in
    (ap (λ z. Expression z) h.0, h.1)

-- nothing is taken any more
abbrev pub IsFinal : Ending → List ℕ → Type 0
IsFinal e left = (p : Part2) (rest : List ℕ) → ¬ IsPart e left p rest

pub parts_one : (e : Ending) (text : List ℕ) (ps qs : List Part2) (l m : List ℕ) → AreParts e text ps l → IsFinal e l → AreParts e text qs m → IsFinal e m → (ps ≡ qs) × (l ≡ m)
parts_one e text [] [] l m x fl y fm = (refl, sym x ∙ y)
parts_one e text [] (q ∷ qs) l m x fl y fm = absurd (fl q y.0 (subst (λ t. IsPart e t q y.0) x y.1))
parts_one e text (p ∷ ps) [] l m x fl y fm = absurd (fm p x.0 (subst (λ t. IsPart e t p x.0) y x.1))
parts_one e text (p ∷ ps) (q ∷ qs) l m x fl y fm =
    let one = part_one e text p q x.0 y.0 x.1 y.1 in
    let h = parts_one e y.0 ps qs l m (subst (λ t. AreParts e t ps l) one.1 x.2) fl y.2 fm in
    let i = one.0 in let j = h.0 in
    ((let z : p ∷ ps ≡ q ∷ qs = cc in z), h.1)

pub final_nil : (e : Ending) → IsFinal e []
final_nil e (Plain plain) rest h =
    let a = ap length h.1.splits in
    let b = length-append (doubled plain) rest in
    let c = doubled_long plain in
    let d = h.0 in
    absurd (omega arith)
final_nil e (Expression x) rest h = let f = h.1.0 in cc

quote_final : (more : List ℕ) → IsFinal ending.Quote (34 ∷ more)
quote_final more (Plain []) rest h = absurd (let d = h.0 in omega arith)
quote_final more (Plain (b ∷ bs)) rest h =
    no_more ending.Quote b (doubled bs ++ rest) (34 ∷ more) (h.1.splits ∙ put-append b (doubled bs) rest) h.1.passing.0 (inr refl)
quote_final more (Expression x) rest h = false≢true (eq-eqb 34 123 (cons_same 34 123 more h.0 h.1.0).0)

pub final_end : (e : Ending) (left : List ℕ) → IsAtEnd e left → IsFinal e left
final_end ending.Text left h = subst (IsFinal ending.Text) (sym h) (final_nil ending.Text)
final_end ending.Quote left h = subst (IsFinal ending.Quote) (sym h.1) (quote_final h.0)

pub final_open : (e : Ending) (left inner : List ℕ) → IsOpened left inner → HasNoEnd inner → IsFinal e left
final_open e left inner o n (Plain plain) rest h = plain_not_opened plain rest inner left h.0 h.1.splits o
final_open e left inner o n (Expression x) rest h =
    ends_or_open inner x rest (subst (λ z. EndsExpression z x rest) (opened_one left h.0 inner h.1 o) h.2) n

end_not_opened : (e : Ending) (left inner : List ℕ) → IsAtEnd e left → ¬ IsOpened left inner
end_not_opened ending.Text left inner h o = let a = h in let b = o.0 in cc
end_not_opened ending.Quote left inner h o = false≢true (eq-eqb 34 123 (cons_same 34 123 h.0 inner (sym h.1 ∙ o.0)).0)

-- a text begins with one template at most, and with none where a brace is open or it ends too early
pub template_one : (e : Ending) (text : List ℕ) (t u : Template) (r s : List ℕ) → IsTemplate e text t r → IsTemplate e text u s → (t ≡ u) × (r ≡ s)
template_one e text t u r s x y =
    let h = parts_one e text t.parts u.parts r s x.0 (final_end e r x.1) y.0 (final_end e s y.1) in
    (ap (λ (ps : List Part2). let z : Template = record { parts = ps } in z) h.0, h.1)

pub template_or_open : (e : Ending) (text : List ℕ) (t : Template) (r : List ℕ) → IsTemplate e text t r → ¬ HasOpenBrace e text
template_or_open e text t r x o =
    let h = parts_one e text t.parts o.parts r o.left x.0 (final_end e r x.1) o.before (final_open e o.left o.inner o.opens o.unclosed) in
    end_not_opened e o.left o.inner (subst (IsAtEnd e) h.1 x.1) o.opens

pub early_no_template : (e : Ending) (text : List ℕ) (t : Template) (r : List ℕ) → EndsEarly e text → ¬ IsTemplate e text t r
early_no_template e text t r x y =
    let h = parts_one e text x.0 t.parts [] r x.1 (final_nil e) y.0 (final_end e r y.1) in
    x.2 (subst (IsAtEnd e) (sym h.1) y.1)

pub early_not_open : (e : Ending) (text : List ℕ) → EndsEarly e text → ¬ HasOpenBrace e text
early_not_open e text x o =
    let h = parts_one e text x.0 o.parts [] o.left x.1 (final_nil e) o.before (final_open e o.left o.inner o.opens o.unclosed) in
    let f : [] ≡ 123 ∷ o.inner = h.1 ∙ o.opens.0 in
    cc

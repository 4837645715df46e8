-- Lists of lines that begin alike, and lines up to a last one.
use Rattle.std.proofs.Common.{ℕ, ◌≡◌, List, [], ◌∷◌, ◌++◌, refl, sym, ap, subst, ◌∙◌, ◌⊎◌, inl, inr, All, append_assoc}
use Rattle.std.proofs.lemmas.List.Elements.{All-head, All-tail}
use Rattle.line_forms.proofs.Passing.{cons_head, cons_tail}
use Rattle.office_text.specs.OrderLines.{EndsAt}

abbrev pub Lines : Type 0
Lines = List (List ℕ)

pub nothing : (line : List ℕ) (more : Lines) → [] ≡ line ∷ more → ⊥
nothing line more e = cc

pub something : (line : List ℕ) (more : Lines) → line ∷ more ≡ [] → ⊥
something line more e = cc

-- of two lists that begin one list, one begins the other
abbrev pub Fronts : Lines → Lines → Lines → Lines → Type 0
Fronts x y p q = ((m : Lines) × (y ≡ x ++ m) × (p ≡ m ++ q)) ⊎ ((m : Lines) × (x ≡ y ++ m) × (q ≡ m ++ p))

pub fronts : (x y p q : Lines) → x ++ p ≡ y ++ q → Fronts x y p q
fronts [] y p q e = inl (y, refl, e)
fronts (a ∷ x) [] p q e = inr (a ∷ x, refl, sym e)
fronts (a ∷ x) (b ∷ y) p q e =
    let same : a ≡ b = cons_head a b (x ++ p) (y ++ q) e in
    elim (fronts x y p q (cons_tail a b (x ++ p) (y ++ q) e)) [
      | inl h ↦ inl (h.0, ap (λ l. l ∷ y) (sym same) ∙ ap (λ l. a ∷ l) h.1, h.2)
      | inr h ↦ inr (h.0, ap (λ l. l ∷ x) same ∙ ap (λ l. b ∷ l) h.1, h.2)
    ]

-- lines up to a last one, which are there in two ways
ends_one : (L : List ℕ → Type 0) (f g : Lines) (l m : List ℕ) (p q : Lines) → All (λ line. ¬ L line) f → L l → All (λ line. ¬ L line) g → L m → f ++ l ∷ p ≡ g ++ m ∷ q → g ++ m ∷ [] ≡ f ++ l ∷ []
ends_one L [] [] l m p q f_are l_is g_are m_is e = ap (λ x. x ∷ []) (sym (cons_head l m p q e))
ends_one L [] (y ∷ g) l m p q f_are l_is g_are m_is e = absurd (All-head (λ line. ¬ L line) y g g_are (subst L (cons_head l y p (g ++ m ∷ q) e) l_is))
ends_one L (x ∷ f) [] l m p q f_are l_is g_are m_is e = absurd (All-head (λ line. ¬ L line) x f f_are (subst L (sym (cons_head x m (f ++ l ∷ p) q e)) m_is))
ends_one L (x ∷ f) (y ∷ g) l m p q f_are l_is g_are m_is e =
    ap (λ z. z ∷ g ++ m ∷ []) (sym (cons_head x y (f ++ l ∷ p) (g ++ m ∷ q) e))
    ∙ ap (λ z. x ∷ z) (ends_one L f g l m p q (All-tail (λ line. ¬ L line) x f f_are) l_is (All-tail (λ line. ¬ L line) y g g_are) m_is (cons_tail x y (f ++ l ∷ p) (g ++ m ∷ q) e))

pub ends_same : (L : List ℕ → Type 0) (x y p q : Lines) → EndsAt L x → EndsAt L y → x ++ p ≡ y ++ q → y ≡ x
ends_same L x y p q a b e =
    let left : x ++ p ≡ a.others ++ a.last ∷ p = ap (λ z. z ++ p) a.lines_are ∙ append_assoc a.others (a.last ∷ []) p in
    let right : y ++ q ≡ b.others ++ b.last ∷ q = ap (λ z. z ++ q) b.lines_are ∙ append_assoc b.others (b.last ∷ []) q in
    b.lines_are ∙ ends_one L a.others b.others a.last b.last p q a.others_are a.last_is b.others_are b.last_is (sym left ∙ e ∙ right) ∙ sym a.lines_are

-- lines up to a last one aren't among lines none of which is that
ends_inside : (L : List ℕ → Type 0) (x : Lines) (last : List ℕ) (p lines : Lines) → L last → All (λ line. ¬ L line) lines → lines ≡ x ++ last ∷ p → ⊥
ends_inside L [] last p [] is are e = nothing last p e
ends_inside L [] last p (z ∷ lines) is are e = All-head (λ line. ¬ L line) z lines are (subst L (sym (cons_head z last lines p e)) is)
ends_inside L (y ∷ x) last p [] is are e = nothing y (x ++ last ∷ p) e
ends_inside L (y ∷ x) last p (z ∷ lines) is are e = ends_inside L x last p lines is (All-tail (λ line. ¬ L line) z lines are) (cons_tail z y lines (x ++ last ∷ p) e)

pub ends_not_among : (L : List ℕ → Type 0) (x p lines : Lines) → EndsAt L x → All (λ line. ¬ L line) lines → lines ≡ x ++ p → ⊥
ends_not_among L x p lines a are e =
    ends_inside L a.others a.last p lines a.last_is are (e ∙ ap (λ z. z ++ p) a.lines_are ∙ append_assoc a.others (a.last ∷ []) p)

pub nothing_last : (f : Lines) (last : List ℕ) → [] ≡ f ++ last ∷ [] → ⊥
nothing_last [] last e = nothing last [] e
nothing_last (x ∷ f) last e = nothing x (f ++ last ∷ []) e

pub ends_some : (L : List ℕ → Type 0) → EndsAt L [] → ⊥
ends_some L a = nothing_last a.others a.last a.lines_are

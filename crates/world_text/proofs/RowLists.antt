-- What some lines add, one after another. Other crates may cite these lemmas.
use Rattle.std.proofs.Common.{◌≡◌, ℕ, List, [], ◌∷◌, ◌++◌, ◌⊎◌, inl, inr, refl, sym, subst, ◌∙◌}
use Rattle.line_forms.proofs.Passing.{cons_head, cons_tail}
use Rattle.world_text.specs.declared.draft.Draft.{Draft}
use Rattle.world_text.specs.Rows.{Adds, AddsAll}
use Rattle.world_text.specs.Readings.{end_line}
use Rattle.world_text.proofs.OneRow.{adds_one, end_adds_none}

pub all_snoc : (rows : List (List ℕ)) (line : List ℕ) (d mid last : Draft) → AddsAll d rows mid → Adds mid line last → AddsAll d (rows ++ line ∷ []) last
all_snoc [] line d mid last h k = (last, subst (λ (x : Draft). Adds x line last) h k, refl)
all_snoc (row ∷ rows) line d mid last h k = (h.0, h.1, all_snoc rows line h.0 mid last h.2 k)

pub all_split : (rows more : List (List ℕ)) (d last : Draft) → AddsAll d (rows ++ more) last → (mid : Draft) × AddsAll d rows mid × AddsAll mid more last
all_split [] more d last h = (d, refl, h)
all_split (row ∷ rows) more d last h =
    let t = all_split rows more h.0 last h.2 in
    (t.0, (h.0, h.1, t.1), t.2)

-- what stands behind lines that were added, in lines that are added and the last line
abbrev pub Next : Draft → Draft → List ℕ → List (List ℕ) → Type 0
Next mid last line rest = ((line ≡ end_line) × (rest ≡ []) × (mid ≡ last)) ⊎ ((next : Draft) × Adds mid line next)

pub next_row : (rows all : List (List ℕ)) (line : List ℕ) (rest : List (List ℕ)) (d mid last : Draft) → AddsAll d rows mid → AddsAll d all last →
    rows ++ line ∷ rest ≡ all ++ end_line ∷ [] → Next mid last line rest
next_row [] [] line rest d mid last h k e = inl (cons_head line end_line rest [] e, cons_tail line end_line rest [] e, h ∙ sym k)
next_row [] (q ∷ all) line rest d mid last h k e =
    let same : q ≡ line = sym (cons_head line q rest _ e) in
    inr (k.0, subst (λ (x : Draft). Adds x line k.0) (sym h) (subst (λ (l : List ℕ). Adds d l k.0) same k.1))
next_row (p ∷ rows) [] line rest d mid last h k e =
    let same : p ≡ end_line = cons_head p end_line _ [] e in
    absurd (end_adds_none d h.0 (subst (λ (l : List ℕ). Adds d l h.0) same h.1))
next_row (p ∷ rows) (q ∷ all) line rest d mid last h k e =
    let same : q ≡ p = sym (cons_head p q _ _ e) in
    let one : k.0 ≡ h.0 = adds_one d p h.0 k.0 h.1 (subst (λ (l : List ℕ). Adds d l k.0) same k.1) in
    next_row rows all line rest h.0 mid last h.2 (subst (λ (x : Draft). AddsAll x all last) one k.2) (cons_tail p q _ _ e)

-- the last line is none of lines that are added
pub end_not_among : (rows more : List (List ℕ)) (d last : Draft) → AddsAll d (rows ++ end_line ∷ more) last → ⊥
end_not_among rows more d last h = let t = all_split rows (end_line ∷ more) d last h in end_adds_none t.0 t.2.0 t.2.1

pub not_ended : (rows all : List (List ℕ)) (d mid : Draft) → AddsAll d rows mid → rows ≡ all ++ end_line ∷ [] → ⊥
not_ended rows all d mid h e = end_not_among all [] d mid (subst (λ (l : List (List ℕ)). AddsAll d l mid) e h)

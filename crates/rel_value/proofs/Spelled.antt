-- Times as they are written.
use Rattle.std.proofs.Common.{◌≡◌, ℕ, ◌/◌, ◌%◌, ℤ, List, [], ◌∷◌, ◌++◌, ap, ◌∙◌, append_assoc}
use Rattle.rel_value.specs.declared.calendar.CivilDate.{CivilDate}
use Rattle.rel_value.specs.Calendar.{date_after}
use Rattle.rel_value.specs.Spellings.{weekday, date_text, clock, offset_text, shown_seconds, time_text}

regroup : (o w d c f : List ℕ) → ((((((o ++ w) ++ 44 ∷ 32 ∷ []) ++ d) ++ 32 ∷ []) ++ c) ++ 32 ∷ []) ++ f ≡ o ++ ((((w ++ 44 ∷ 32 ∷ []) ++ d) ++ 32 ∷ c) ++ 32 ∷ f)
regroup o w d c f = simp append_assoc

-- the pieces one after another are the time text
pub time-written : (moment offset : ℤ) (s : ℕ) (date : CivilDate) (o w p1 p2 p3 p4 p5 p6 : List ℕ) → s ≡ shown_seconds moment offset → w ≡ weekday (s / 86400) → date ≡ date_after (s / 86400) → p1 ≡ o ++ w → p2 ≡ p1 ++ 44 ∷ 32 ∷ [] → p3 ≡ p2 ++ date_text date → p4 ≡ p3 ++ 32 ∷ [] → p5 ≡ p4 ++ clock (s % 86400) → p6 ≡ p5 ++ 32 ∷ [] → p6 ++ offset_text offset ≡ o ++ time_text moment offset
time-written moment offset s date o w p1 p2 p3 p4 p5 p6 es ew ed e1 e2 e3 e4 e5 e6 =
    let f = offset_text offset in
    let c = clock (s % 86400) in
    let q3 : p3 ≡ ((o ++ w) ++ 44 ∷ 32 ∷ []) ++ date_text date = e3 ∙ ap (λ l. l ++ date_text date) (e2 ∙ ap (λ l. l ++ 44 ∷ 32 ∷ []) e1) in
    let q6 : p6 ≡ ((p3 ++ 32 ∷ []) ++ c) ++ 32 ∷ [] = e6 ∙ ap (λ l. l ++ 32 ∷ []) (e5 ∙ ap (λ l. l ++ c) e4) in
    let T : ℕ → List ℕ = λ n. (((weekday (n / 86400) ++ 44 ∷ 32 ∷ []) ++ date_text (date_after (n / 86400))) ++ 32 ∷ clock (n % 86400)) ++ 32 ∷ f in
    ap (λ l. l ++ f) (q6 ∙ ap (λ l. ((l ++ 32 ∷ []) ++ c) ++ 32 ∷ []) q3)
    ∙ regroup o w (date_text date) c f
    ∙ ap (λ l. o ++ ((((l ++ 44 ∷ 32 ∷ []) ++ date_text date) ++ 32 ∷ c) ++ 32 ∷ f)) ew
    ∙ ap (λ d. o ++ ((((weekday (s / 86400) ++ 44 ∷ 32 ∷ []) ++ date_text d) ++ 32 ∷ c) ++ 32 ∷ f)) ed
    ∙ ap (λ n. o ++ T n) es

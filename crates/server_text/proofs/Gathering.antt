-- Lists that loops gather, with one element more.
use Rattle.std.proofs.Common.{◌≡◌, ℕ, ◌+◌, ◌-◌, ◌^◌, ◌<◌, min, List, [], ◌∷◌, ◌++◌, length, take, get_or, codes, sym, ap, ◌∙◌, arith, append_assoc, append-nil, add-zero}
use Rattle.std.specs.Prelude.{filter_map}
use Rattle.std.specs.List.{concat}
use Rattle.std.specs.declared.option.Option.{Option}
use Rattle.std.proofs.lemmas.List.{take_more}
use Rattle.std.proofs.lemmas.List.Elements.{filter_map-append}
use Rattle.std.proofs.lemmas.List.Folds.{concat-append}
use Rattle.line_forms.specs.Lines.{ended_line}
use Rattle.fix_site.specs.Sites.{site_line}
use Rattle.desk_keep.specs.declared.change.Change.{Change}
use Rattle.server_text.specs.ActionStates.{stopped_text}
use Rattle.server_text.specs.Actionsite.{actionsite_body, longest_actionsite}
use Rattle.server_text.specs.TextParts.{most_bytes}
use Rattle.server_text.specs.ToldRows.{action_texts}
use Rattle.server_text.proofs.ActionsiteBytes.{longest, most_of-append}

pub filter_map_more : {X Y : Type 0} (f : X → Option Y) (xs : List X) (i : ℕ) (d : X) → i < length xs → filter_map f (take (i + 1) xs) ≡ filter_map f (take i xs) ++ filter_map f (get_or xs i d ∷ [])
filter_map_more f xs i d within = ap (filter_map f) (take_more xs i d within) ∙ filter_map-append f (take i xs) (get_or xs i d ∷ [])

-- what the element at hand gives was appended
pub gathered : {X Y : Type 0} (f : X → Option Y) (xs : List X) (i : ℕ) (d x : X) (old new : List Y) → i < length xs → old ≡ filter_map f (take i xs) → x ≡ get_or xs i d → new ≡ old ++ filter_map f (x ∷ []) → new ≡ filter_map f (take (i + 1) xs)
gathered f xs i d x old new within so is more =
    more ∙ (λ k. so k ++ filter_map f (is k ∷ [])) ∙ sym (filter_map_more f xs i d within)

-- the texts of the actions so far, and that of the one at hand
pub texts_gathered : (version : ℕ) (rows : List Change) (i : ℕ) (d row : Change) (old new : List ℕ) → i < length rows → old ≡ actionsite_body version (action_texts (take i rows)) → row ≡ get_or rows i d
    → new ≡ old ++ concat (action_texts (row ∷ [])) → new ≡ actionsite_body version (action_texts (take (i + 1) rows))
unfolding actionsite_body
texts_gathered version rows i d row old new within so is more =
    let head = ended_line (site_line (codes "actionsite") version) in
    let before = action_texts (take i rows) in
    let one = action_texts (get_or rows i d ∷ []) in
    more ∙ (λ k. so k ++ concat (action_texts (is k ∷ [])))
    ∙ append_assoc head (concat before) (concat one)
    ∙ ap (λ l. head ++ l) (sym (concat-append before one) ∙ ap concat (sym (filter_map_more _ rows i d within)))

pub nothing_gathered : (version : ℕ) (out : List ℕ) → out ≡ ended_line (site_line (codes "actionsite") version) → out ≡ actionsite_body version []
unfolding actionsite_body
nothing_gathered version out is = is ∙ sym (append-nil (ended_line (site_line (codes "actionsite") version)))

-- ---- the most bytes of `actionsite`

pub most_of_more : (rows : List Change) (i : ℕ) (d : Change) → i < length rows → most_bytes (action_texts (take (i + 1) rows)) ≡ most_bytes (action_texts (take i rows)) + most_bytes (action_texts (get_or rows i d ∷ []))
most_of_more rows i d within =
    ap most_bytes (filter_map_more _ rows i d within) ∙ most_of-append (action_texts (take i rows)) (action_texts (get_or rows i d ∷ []))

saturated : (most all one new bound : ℕ) → most ≡ min all bound → new ≡ min (most + one) bound → new ≡ min (all + one) bound
saturated most all one new bound so more = grind arith

longer : (n m k : ℕ) → 105 + (n + (m + k)) ≡ (105 + (n + m)) + k
longer n m k = omega arith

-- the most bytes of the new action alone, and with one kept action more
pub none_measured : (text : List ℕ) (n new : ℕ) → n ≡ length (stopped_text text) → new ≡ min (105 + n) (2 ^ 64 - 1) → new ≡ min (longest_actionsite (text ∷ action_texts [])) (2 ^ 64 - 1)
none_measured text n new is more = more ∙ ap (λ l. min l (2 ^ 64 - 1)) (ap (λ l. 105 + l) (is ∙ sym (add-zero (length (stopped_text text)))) ∙ sym (longest (text ∷ [])))

pub one_measured : (text : List ℕ) (rows : List Change) (i : ℕ) (d row : Change) (most one new : ℕ) → i < length rows → most ≡ min (longest_actionsite (text ∷ action_texts (take i rows))) (2 ^ 64 - 1) → row ≡ get_or rows i d
    → one ≡ most_bytes (action_texts (row ∷ [])) → new ≡ min (most + one) (2 ^ 64 - 1) → new ≡ min (longest_actionsite (text ∷ action_texts (take (i + 1) rows))) (2 ^ 64 - 1)
one_measured text rows i d row most one new within so is measured more =
    let n = length (stopped_text text) in
    let m = most_bytes (action_texts (take i rows)) in
    let k = most_bytes (action_texts (get_or rows i d ∷ [])) in
    let one_is : one ≡ k = measured ∙ ap (λ r. most_bytes (action_texts (r ∷ []))) is in
    saturated most (105 + (n + m)) k new (2 ^ 64 - 1) (so ∙ ap (λ l. min l (2 ^ 64 - 1)) (longest (text ∷ action_texts (take i rows)))) (more ∙ ap (λ o. min (most + o) (2 ^ 64 - 1)) one_is)
    ∙ ap (λ l. min l (2 ^ 64 - 1)) (sym (longer n m k) ∙ ap (λ l. 105 + (n + l)) (sym (most_of_more rows i d within)) ∙ sym (longest (text ∷ action_texts (take (i + 1) rows))))

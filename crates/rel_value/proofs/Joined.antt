-- Versions as they are written.
use Rattle.std.proofs.Common.{◌≡◌, ℕ, zero, suc, ◌+◌, ◌<◌, ◌≤◌, List, [], ◌∷◌, ◌++◌, length, take, get_or, map, refl, sym, ap, ◌∙◌, arith, append_assoc, decimal}
use Rattle.std.specs.List.{join_with_byte}
use Rattle.std.proofs.lemmas.List.{append-nil, take_more, map-append, length-take, length-map}
use Rattle.rel_value.specs.Texts.{version_text}

join-push : (c : ℕ) (xs : List (List ℕ)) (x : List ℕ) → 0 < length xs → join_with_byte c (xs ++ x ∷ []) ≡ join_with_byte c xs ++ (c ∷ x)
join-push c [] x some = absurd (omega arith)
join-push c (y ∷ []) x some = refl
join-push c (y ∷ z ∷ zs) x some =
    ap (λ l. y ++ (c ∷ l)) (join-push c (z ∷ zs) x (omega arith)) ∙ sym (append_assoc y (c ∷ join_with_byte c (z ∷ zs)) (c ∷ x))

version_text-push : (ns : List ℕ) (n : ℕ) → 0 < length ns → version_text (ns ++ n ∷ []) ≡ version_text ns ++ (46 ∷ decimal n)
version_text-push ns n some =
    ap (join_with_byte 46) (map-append decimal ns (n ∷ [])) ∙ join-push 46 (map decimal ns) (decimal n) (omega (arith, length-map ns decimal))

-- one more number is written
pub written-first : (start out more : List ℕ) (ns : List ℕ) (i : ℕ) → i ≤ 0 → i < length ns → out ≡ start ++ version_text (take i ns) → more ≡ out ++ decimal (get_or ns i 0) → more ≡ start ++ version_text (take (i + 1) ns)
written-first start out more [] i none below e h = absurd (omega arith)
written-first start out more (n ∷ ns) zero none below e h = h ∙ ap (λ l. l ++ decimal n) (e ∙ append-nil start)
written-first start out more (n ∷ ns) (suc i) none below e h = absurd (omega arith)

pub written-more : (start out dotted more : List ℕ) (ns : List ℕ) (i : ℕ) → 0 < i → i < length ns → out ≡ start ++ version_text (take i ns) → dotted ≡ out ++ 46 ∷ [] → more ≡ dotted ++ decimal (get_or ns i 0) → more ≡ start ++ version_text (take (i + 1) ns)
written-more start out dotted more ns i some below e d h =
    let n = get_or ns i 0 in
    let pushed : version_text (take (i + 1) ns) ≡ version_text (take i ns) ++ (46 ∷ decimal n) = ap version_text (take_more ns i 0 below) ∙ version_text-push (take i ns) n (omega (arith, length-take i ns)) in
    let together : ((start ++ version_text (take i ns)) ++ 46 ∷ []) ++ decimal n ≡ start ++ (version_text (take i ns) ++ (46 ∷ decimal n)) = simp append_assoc in
    h ∙ ap (λ l. l ++ decimal n) (d ∙ ap (λ l. l ++ 46 ∷ []) e) ∙ together ∙ ap (λ l. start ++ l) (sym pushed)

-- The most bytes of `actionsite`. Other crates may cite these lemmas.
use Rattle.std.proofs.Common.{◌≡◌, ℕ, ◌+◌, ◌^◌, List, [], ◌∷◌, ◌++◌, length, map, codes, refl, sym, ap, ◌∙◌, arith, length-append, add_assoc, zero-add}
use Rattle.std.specs.List.{concat}
use Rattle.std.specs.Fmt.{digits}
use Rattle.sha2.specs.Sha256.{sha256}
use Rattle.sha2.proofs.Facts256.{length-sha256}
use Rattle.hex.specs.Hex.{encode_lower, lower_digits}
use Rattle.hex.proofs.HexLemmas.{length-encode_with}
use Rattle.line_forms.specs.Fields.{field_text}
use Rattle.line_forms.specs.Lines.{ended_line}
use Rattle.fix_site.specs.Sites.{digest_line, site_line}
use Rattle.server_text.specs.ActionStates.{stopped_text}
use Rattle.server_text.specs.Actionsite.{actionsite_body, actionsite_text, longest_actionsite}
use Rattle.server_text.specs.TextParts.{most_bytes}

head_length : length (ended_line (site_line (codes "actionsite") (2 ^ 53))) ≡ 33
unfolding digits
head_length = refl

pub digest_length : (digest : List ℕ) → length digest ≡ 32 → length (ended_line (digest_line digest)) ≡ 72
digest_length digest is =
    let a = length-append (digest_line digest) (10 ∷ []) in
    let b = length-append (field_text (codes "digest")) (encode_lower digest) in
    let d = length-encode_with lower_digits digest in
    let w : length (field_text (codes "digest")) ≡ 7 = refl in
    omega (arith, is)

pub texts_length : (texts : List (List ℕ)) → length (concat (map stopped_text texts)) ≡ most_bytes texts
texts_length [] = refl
texts_length (text ∷ texts) = length-append (stopped_text text) (concat (map stopped_text texts)) ∙ ap (λ n. length (stopped_text text) + n) (texts_length texts)

sum_of : (n : ℕ) → (33 + n) + 72 ≡ 105 + n
sum_of n = omega arith

pub longest : (texts : List (List ℕ)) → longest_actionsite texts ≡ 105 + most_bytes texts
unfolding actionsite_body actionsite_text longest_actionsite
longest texts =
    let head = ended_line (site_line (codes "actionsite") (2 ^ 53)) in
    let held = concat (map stopped_text texts) in
    let last = ended_line (digest_line (sha256 (head ++ held))) in
    let a : length ((head ++ held) ++ last) ≡ length (head ++ held) + length last = length-append (head ++ held) last in
    let b : length (head ++ held) ≡ length head + length held = length-append head held in
    let h : length head ≡ 33 = head_length in
    let t : length held ≡ most_bytes texts = texts_length texts in
    let d : length last ≡ 72 = digest_length (sha256 (head ++ held)) (length-sha256 (head ++ held)) in
    a ∙ (λ i. (b ∙ (λ j. h j + t j)) i + d i) ∙ sum_of (most_bytes texts)

pub most_of-append : (texts more : List (List ℕ)) → most_bytes (texts ++ more) ≡ most_bytes texts + most_bytes more
most_of-append [] more = sym (zero-add (most_bytes more))
most_of-append (text ∷ texts) more = ap (λ n. length (stopped_text text) + n) (most_of-append texts more) ∙ sym (add_assoc (length (stopped_text text)) (most_bytes texts) (most_bytes more))

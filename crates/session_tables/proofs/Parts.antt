-- Parts of paths: the test of one says what its relation does, and the last part is what stands behind the last `/`.
use Rattle.std.proofs.Common.{◌≡◌, ◌≢◌, ℕ, ◌+◌, ◌-◌, ◌<◌, ◌≤◌, ◌&&◌, suc, Bool, true, false, not, nat_le, List, [], ◌∷◌, ◌++◌, length, drop, get_or, codes, Decides, Option, None, Some, is_some, refl, sym, ap, ◌∙◌, arith}
use Rattle.std.specs.List.{list_all, suffix_len}
use Rattle.std.proofs.lemmas.Bool.Decides.{nat_tests, Decides-like, Decides-not, Decides-and, Decides-by_and}
use Rattle.std.proofs.lemmas.Grind.{common_steps}
use Rattle.std.proofs.lemmas.List.{get_or-append-add}
use Rattle.std.proofs.lemmas.List.Sums.{suffix_len_is}
use Rattle.std.proofs.lemmas.Slice.Eq.{bytes_eq-Decides}
use Rattle.std.proofs.Math.Seq.{get_or-append_seam}
use Rattle.line_forms.specs.Cuts.{Lacks, IsLastCut}
use Rattle.line_forms.specs.Paths.{IsPart}
use Rattle.line_forms.specs.Reads.{ReadsText}
use Rattle.bf_world.specs.Paths.{is_slash, is_part, last_name}
use denote.Ref.{Bor}

-- ---- the test of a part
some_of : (t : List ℕ) → t ≢ [] → 0 < length t
some_of [] h = absurd (h refl)
some_of (b ∷ bs) h = omega arith

none_of : (t : List ℕ) → 0 < length t → t ≢ []
none_of [] h e = absurd (let k : 0 < 0 = h in omega arith)
none_of (b ∷ bs) h e = absurd (cc)

part_byte : (byte : ℕ) → Decides (nat_le 32 byte && not (is_slash byte)) ((32 ≤ byte) × (byte ≢ 47))
part_byte byte = (λ h. grind (arith, nat_tests), λ h. grind (arith, nat_tests))

pub part-Decides : (t : List ℕ) → Decides (is_part t) (IsPart t)
unfolding is_part
part-Decides t =
    let some = Decides-like _ (some_of t) (none_of t) (Decides-not _ (bytes_eq-Decides t [])) in
    let one = Decides-not _ (bytes_eq-Decides t (codes ".")) in
    let two = Decides-not _ (bytes_eq-Decides t (codes "..")) in
    let test : ℕ → Bool = λ byte. nat_le 32 byte && not (is_slash byte) in
    let bytes = Decides-by_and test (λ byte. (32 ≤ byte) × (byte ≢ 47)) (list_all test) part_byte refl (λ _ _. refl) t in
    Decides-like _ (λ h. (h.0.0.0, h.0.0.1, h.0.1, h.1)) (λ h. (((h.0, h.1), h.2), h.3)) (Decides-and _ _ (Decides-and _ _ (Decides-and _ _ some one) two) bytes)

-- what was read of a form, as a test of it
pub read-test : (P : List ℕ → Type 0) (b : Bool) (t : List ℕ) (r : Option (Bor (List ℕ))) → Decides b (P t) → ReadsText P t r → is_some r ≡ b
read-test P true t None d h = absurd (h (d.0 refl))
read-test P false t None d h = refl
read-test P b t (Some x) d h = sym (d.1 h.0)

-- ---- the last part
lacks_at : (t : List ℕ) (k : ℕ) → Lacks 47 t → k < length t → not (is_slash (get_or t k 0)) ≡ true
lacks_at t k lacks below =
    let other : get_or t k 0 ≢ 47 = lacks k 0 below in
    grind (arith, nat_tests)

slash_at : (t first rest : List ℕ) → IsLastCut 47 t first rest → (length t ≡ length first + 1 + length rest) × (get_or t (length first) 0 ≡ 47)
slash_at t first rest cut =
    let e : t ≡ first ++ 47 ∷ rest = cut.1 in
    (rw e (grind (arith, common_steps)), rw e (get_or-append_seam first 47 rest 0))

behind_slash : (t first rest : List ℕ) → IsLastCut 47 t first rest → (k : ℕ) → length first + 1 ≤ k → k < length t → not (is_slash (get_or t k 0)) ≡ true
behind_slash t first rest cut k from below =
    let e : t ≡ first ++ 47 ∷ rest = cut.1 in
    let len = (slash_at t first rest cut).0 in
    let more : k ≡ length first + suc (k - (length first + 1)) = omega arith in
    let here : get_or t k 0 ≡ get_or rest (k - (length first + 1)) 0 = ap (λ l. get_or l k 0) e ∙ ap (λ n. get_or (first ++ 47 ∷ rest) n 0) more ∙ get_or-append-add first (47 ∷ rest) (suc (k - (length first + 1))) 0 in
    ap (λ b. not (is_slash b)) here ∙ lacks_at rest (k - (length first + 1)) cut.0 (omega arith)

behind_len : (t first rest : List ℕ) → IsLastCut 47 t first rest → suffix_len (λ x. not (is_slash x)) t ≡ length t - (length first + 1)
behind_len t first rest cut =
    let len = slash_at t first rest cut in
    suffix_len_is (λ x. not (is_slash x)) t (length first + 1) 0 (omega arith) (behind_slash t first rest cut) (λ _. ap (λ n. not (is_slash (get_or t n 0))) (let k : length first + 1 - 1 ≡ length first = omega arith in k) ∙ ap (λ b. not (is_slash b)) len.1)

pub name_of_cut : (t first rest : List ℕ) → IsLastCut 47 t first rest → drop (length first + 1) t ≡ last_name t
unfolding last_name
name_of_cut t first rest cut =
    let len = slash_at t first rest cut in
    let behind = behind_len t first rest cut in
    ap (λ n. drop n t) (let k : length first + 1 ≡ length t - suffix_len (λ x. not (is_slash x)) t = omega arith in k)

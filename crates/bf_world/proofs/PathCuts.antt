-- Paths that are cut at their last `/`.
use Rattle.std.proofs.Common.{◌≡◌, ◌≢◌, ℕ, ◌+◌, ◌-◌, ◌<◌, ◌≤◌, suc, true, not, List, [], ◌∷◌, ◌++◌, length, take, drop, get_or, ap, ◌∙◌, arith}
use Rattle.std.specs.List.{suffix_len}
use Rattle.std.proofs.lemmas.Bool.Decides.{nat_tests}
use Rattle.std.proofs.lemmas.Grind.{common_steps}
use Rattle.std.proofs.lemmas.List.{get_or-append-add}
use Rattle.std.proofs.lemmas.List.Sums.{suffix_len_is}
use Rattle.std.proofs.Math.Seq.{get_or-append_seam}
use Rattle.line_forms.specs.Cuts.{Lacks, IsLastCut}
use Rattle.bf_world.specs.Paths.{is_slash, last_name, parent_path}

lacks_at : (t : List ℕ) (k : ℕ) → Lacks 47 t → k < length t → not (is_slash (get_or t k 0)) ≡ true
lacks_at t k lacks below =
    let other : get_or t k 0 ≢ 47 = lacks k 0 below in
    grind (arith, nat_tests)

pub slash_at : (t first rest : List ℕ) → IsLastCut 47 t first rest → (length t ≡ length first + 1 + length rest) × (get_or t (length first) 0 ≡ 47)
slash_at t first rest cut =
    let e : t ≡ first ++ 47 ∷ rest = cut.1 in
    (rw e (grind (arith, common_steps)), rw e (get_or-append_seam first 47 rest 0))

behind_slash : (t first rest : List ℕ) → IsLastCut 47 t first rest → (k : ℕ) → length first + 1 ≤ k → k < length t → not (is_slash (get_or t k 0)) ≡ true
behind_slash t first rest cut k from below =
    let e : t ≡ first ++ 47 ∷ rest = cut.1 in
    let len = (slash_at t first rest cut).0 in
    let more : k ≡ length first + suc (k - (length first + 1)) = omega arith in
    let here : get_or t k 0 ≡ get_or rest (k - (length first + 1)) 0 = ap (λ l. get_or l k 0) e ∙ ap (λ n. get_or (first ++ 47 ∷ rest) n 0) more ∙ get_or-append-add first (47 ∷ rest) (suc (k - (length first + 1))) 0 in
    ap (λ b. not (is_slash b)) here ∙ lacks_at rest (k - (length first + 1)) cut.0 (omega arith)

behind_len : (t first rest : List ℕ) → IsLastCut 47 t first rest → suffix_len (λ x. not (is_slash x)) t ≡ length t - (length first + 1)
behind_len t first rest cut =
    let len = slash_at t first rest cut in
    suffix_len_is (λ x. not (is_slash x)) t (length first + 1) 0 (omega arith) (behind_slash t first rest cut) (λ _. ap (λ n. not (is_slash (get_or t n 0))) (let k : length first + 1 - 1 ≡ length first = omega arith in k) ∙ ap (λ b. not (is_slash b)) len.1)

pub name_of_cut : (t first rest : List ℕ) → IsLastCut 47 t first rest → drop (length first + 1) t ≡ last_name t
unfolding last_name
name_of_cut t first rest cut =
    let len = slash_at t first rest cut in
    let behind = behind_len t first rest cut in
    ap (λ n. drop n t) (let k : length first + 1 ≡ length t - suffix_len (λ x. not (is_slash x)) t = omega arith in k)

pub parent_of_cut : (t first rest : List ℕ) → IsLastCut 47 t first rest → take (length first) t ≡ parent_path t
unfolding parent_path
parent_of_cut t first rest cut =
    let len = slash_at t first rest cut in
    let behind = behind_len t first rest cut in
    ap (λ n. take n t) (let k : length first ≡ length t - suffix_len (λ x. not (is_slash x)) t - 1 = omega arith in k)

none_len : (t : List ℕ) → Lacks 47 t → suffix_len (λ x. not (is_slash x)) t ≡ length t - 0
none_len t lacks = suffix_len_is (λ x. not (is_slash x)) t 0 0 (omega arith) (λ k _ below. lacks_at t k lacks below) (λ h. absurd (omega arith))

pub name_of_none : (t : List ℕ) → Lacks 47 t → t ≡ last_name t
unfolding last_name
name_of_none t lacks =
    let none = none_len t lacks in
    ap (λ n. drop n t) (let k : 0 ≡ length t - suffix_len (λ x. not (is_slash x)) t = omega arith in k)

pub parent_of_none : (t : List ℕ) → Lacks 47 t → [] ≡ parent_path t
unfolding parent_path
parent_of_none t lacks =
    let none = none_len t lacks in
    ap (λ n. take n t) (let k : 0 ≡ length t - suffix_len (λ x. not (is_slash x)) t - 1 = omega arith in k)

-- A row that matches is found, or another one is.
use Rattle.std.proofs.Common.{◌≡◌, ℕ, zero, suc, ◌+◌, ◌-◌, ◌<◌, ◌≤◌, ◌⊎◌, inl, inr, Bool, true, false, cond, ◌==◌, ◌&&◌, ltb, nat_eq, is_some, List, [], ◌∷◌, ◌++◌, None, Some, length, length-append, get_or, drop, refl, sym, ap, ◌∙◌, subst, arith, append-nil}
use Rattle.std.specs.declared.option.Option.{Option}
use Rattle.std.specs.List.{ends_with}
use Rattle.std.specs.Cmp.Lexicographic.{pointwise}
use Rattle.std.proofs.lemmas.Bool.{false≢true, cases_Bool}
use Rattle.std.proofs.lemmas.Bool.Decides.{nat_tests}
use Rattle.matchit.specs.Rows.{RowsOf}
use Rattle.matchit.specs.Seek.{own, step, or_else, seek, with_suffix, same_text, segment, has_slash, cuts, better, longest_from, param_step}
use Rattle.route_rules.specs.Endpoints.{HasRow, AllTidy, Ends, Matches}
use Rattle.route_rules.proofs.Segments.{cond_true, cond_false, drop_front}
use Rattle.route_rules.proofs.Sound.{step_row, AllEnds, ParamCase, nothing, all, part, param_case, took_row, and_parts, lt_of}

cons_nil : {A : Type 0} (x : A) (xs : List A) → x ∷ xs ≡ [] → ⊥
cons_nil x xs is = omega (arith, ap length is)

-- the first slash of a path that begins with a part
slash_in : (w p : List ℕ) → has_slash (w ++ 47 ∷ p) ≡ true
slash_in [] p = refl
slash_in (x ∷ w) p = elim (cases_Bool (x == 47)) [
  | inl slash ↦ cond_true (x == 47) true (has_slash (w ++ 47 ∷ p)) slash
  | inr other ↦ cond_false (x == 47) true (has_slash (w ++ 47 ∷ p)) other ∙ slash_in w p
]

pub bare_tail : (x : ℕ) (w : List ℕ) → has_slash (x ∷ w) ≡ false → ((x == 47) ≡ false) × (has_slash w ≡ false)
bare_tail x w bare = elim (cases_Bool (x == 47)) [
  | inl slash ↦ absurd (false≢true (sym bare ∙ cond_true (x == 47) true (has_slash w) slash))
  | inr other ↦ (other, sym (cond_false (x == 47) true (has_slash w) other) ∙ bare)
]

-- two ways to cut at the first slash are the same
same_cut : (w v p q : List ℕ) → has_slash w ≡ false → has_slash v ≡ false → w ++ 47 ∷ p ≡ v ++ 47 ∷ q → (length w ≡ length v) × (p ≡ q)
same_cut [] [] p q bare bare' is = (refl, ap (drop 1) is)
same_cut [] (x ∷ v) p q bare bare' is = let h : 47 ≡ x = ap (λ l. get_or l 0 x) is in absurd (grind (arith, nat_tests, (bare_tail x v bare').0))
same_cut (x ∷ w) [] p q bare bare' is = let h : x ≡ 47 = ap (λ l. get_or l 0 x) is in absurd (grind (arith, nat_tests, (bare_tail x w bare).0))
same_cut (x ∷ w) (y ∷ v) p q bare bare' is = let r = same_cut w v p q (bare_tail x w bare).1 (bare_tail y v bare').1 (ap (drop 1) is) in (omega (arith, r.0), r.1)

segment_cut : (w p : List ℕ) → has_slash w ≡ false → segment (w ++ 47 ∷ p) ≡ w ++ 47 ∷ []
segment_cut [] p bare = refl
segment_cut (x ∷ w) p bare = cond_false (x == 47) _ _ (bare_tail x w bare).0 ∙ ap (λ l. x ∷ l) (segment_cut w p (bare_tail x w bare).1)

drop_past : (w r : List ℕ) → drop (length w) (w ++ r) ≡ r
drop_past [] r = refl
drop_past (x ∷ w) r = drop_past w r

and_both : (a b : Bool) → a ≡ true → b ≡ true → (a && b) ≡ true
and_both true b is too = too
and_both false b is too = is

lt_is : (a b : ℕ) → a < b → ltb a b ≡ true
lt_is a b less = grind (arith, nat_tests)

lt_not : (a b : ℕ) → ltb a b ≡ false → b ≤ a
lt_not a b is = grind (arith, nat_tests)

cuts_part : (w : List ℕ) → 0 < length w → cuts (w ++ 47 ∷ []) (47 ∷ []) ≡ true
cuts_part w some =
    let size : length (w ++ 47 ∷ []) ≡ length w + 1 = length-append w (47 ∷ []) in
    let less : length (w ++ 47 ∷ []) - 1 ≡ length w = omega (arith, size) in
    let last : drop (length (w ++ 47 ∷ []) - 1) (w ++ 47 ∷ []) ≡ 47 ∷ [] = ap (λ n. drop n (w ++ 47 ∷ [])) less ∙ drop_past w (47 ∷ []) in
    and_both (ltb 1 (length (w ++ 47 ∷ []))) (ends_with nat_eq (w ++ 47 ∷ []) (47 ∷ [])) (lt_is 1 (length (w ++ 47 ∷ [])) (omega (arith, size, some))) (ap (λ l. pointwise nat_eq (47 ∷ []) l) last)

better_some : (seg best : List ℕ) → cuts seg (47 ∷ []) ≡ true → 1 ≤ length (better seg best (47 ∷ []))
better_some seg best cut = elim (cases_Bool (ltb (length best) 1)) [
  | inl short ↦ subst (λ (x : List ℕ). 1 ≤ length x) (sym (cond_true (ltb (length best) 1 && cuts seg (47 ∷ [])) (47 ∷ []) best (and_both _ _ short cut))) (omega arith)
  | inr long ↦ subst (λ (x : List ℕ). 1 ≤ length x) (sym (cond_false (ltb (length best) 1 && cuts seg (47 ∷ [])) (47 ∷ []) best (ap (λ v. v && cuts seg (47 ∷ [])) long))) (omega (arith, lt_not (length best) 1 long))
]

-- what follows a parameter in a path that matches
tail_of : (t p : List ℕ) → Ends t → Matches t p → (p ≡ []) ⊎ ((u : List ℕ) × (q : List ℕ) × (t ≡ 47 ∷ u) × (p ≡ 47 ∷ q))
tail_of [] p ends m = inl m
tail_of (x ∷ u) p ends (inl (small, (q, whole, m))) = inr (u, q, ap (λ y. y ∷ u) ends, whole ∙ ap (λ y. y ∷ q) ends)
tail_of (x ∷ u) p ends (inr (wild, m)) = absurd (omega (arith, wild, ends))

no_match : (x : ℕ) (t : List ℕ) → Matches (x ∷ t) [] → ⊥
no_match x t (inl (small, (q, whole, m))) = cons_nil x q (sym whole)
no_match x t (inr (wild, (w, q, whole, some, bare, m))) = omega (arith, some, ap length whole, length-append w q)

module _ {K : Type 0} where
  row_own : (rs : RowsOf K) (k : K) → HasRow [] k rs → is_some (own rs) ≡ true
  row_own [] k has = absurd has
  row_own (([], j) ∷ rs) k has = refl
  row_own ((x ∷ t, j) ∷ rs) k (inl (same, key)) = absurd (cons_nil x t same)
  row_own ((x ∷ t, j) ∷ rs) k (inr more) = row_own rs k more

  pub row_step : (b : ℕ) (rs : RowsOf K) (t : List ℕ) (k : K) → HasRow (b ∷ t) k rs → HasRow t k (step b rs)
  row_step b [] t k has = absurd has
  row_step b (([], j) ∷ rs) t k (inl (same, key)) = absurd (cons_nil b t (sym same))
  row_step b (([], j) ∷ rs) t k (inr more) = row_step b rs t k more
  row_step b ((x ∷ u, j) ∷ rs) t k has = by (row_step b rs t k) (x == b) refl has
    where
      by : (HasRow (b ∷ t) k rs → HasRow t k (step b rs)) → (v : Bool) → (x == b) ≡ v → HasRow (b ∷ t) k ((x ∷ u, j) ∷ rs) → HasRow t k (cond v ((u, j) ∷ step b rs) (step b rs))
      by ih true e (inl (same, key)) = inl (ap (drop 1) same, key)
      by ih true e (inr more) = inr (ih more)
      by ih false e (inl (same, key)) = let xb : x ≡ b = ap (λ l. get_or l 0 x) same in absurd (grind (arith, nat_tests))
      by ih false e (inr more) = ih more

  row_suffix : (rs : RowsOf K) (u : List ℕ) (k : K) → HasRow (47 ∷ u) k rs → HasRow (47 ∷ u) k (with_suffix (47 ∷ []) rs)
  row_suffix [] u k has = has
  row_suffix ((t, j) ∷ rs) u k has = by (row_suffix rs u k) (same_text (segment t) (47 ∷ [])) refl has
    where
      by : (HasRow (47 ∷ u) k rs → HasRow (47 ∷ u) k (with_suffix (47 ∷ []) rs)) → (v : Bool) → same_text (segment t) (47 ∷ []) ≡ v → HasRow (47 ∷ u) k ((t, j) ∷ rs) → HasRow (47 ∷ u) k (cond v ((t, j) ∷ with_suffix (47 ∷ []) rs) (with_suffix (47 ∷ []) rs))
      by ih true e (inl here) = inl here
      by ih true e (inr more) = inr (ih more)
      by ih false e (inl (same, key)) = absurd (false≢true (sym e ∙ ap (λ t. same_text (segment t) (47 ∷ [])) same))
      by ih false e (inr more) = ih more

  or_first : (a c : Option K) → is_some a ≡ true → is_some (or_else a c) ≡ true
  or_first None c is = absurd (false≢true is)
  or_first (Some k) c is = refl

  or_second : (a c : Option K) → is_some c ≡ true → is_some (or_else a c) ≡ true
  or_second None c is = is
  or_second (Some k) c is = refl

  seek_end : (rs : RowsOf K) (path : List ℕ) → seek (length path) rs path ≡ own rs
  unfolding seek
  seek_end rs [] = refl
  seek_end rs (b ∷ path) = seek_end rs path

  longest_grows : (seg best : List ℕ) (rs : RowsOf K) → length best ≤ length (longest_from seg best rs)
  longest_grows seg best [] = omega arith
  longest_grows seg best ((t, k) ∷ rs) = omega (arith, longest_grows seg (better seg best (segment t)) rs, better_grows seg best (segment t))
    where
      better_grows : (seg best s : List ℕ) → length best ≤ length (better seg best s)
      better_grows seg best s = elim (cases_Bool (ltb (length best) (length s) && cuts seg s)) [
        | inl longer ↦ let l = lt_of (length best) (length s) (and_parts (ltb (length best) (length s)) (cuts seg s) longer).0 in subst (λ (x : List ℕ). length best ≤ length x) (sym (cond_true (ltb (length best) (length s) && cuts seg s) s best longer)) (omega (arith, l))
        | inr other ↦ subst (λ (x : List ℕ). length best ≤ length x) (sym (cond_false (ltb (length best) (length s) && cuts seg s) s best other)) (omega arith)
      ]

  longest_some : (seg best : List ℕ) (rs : RowsOf K) (u : List ℕ) (k : K) → cuts seg (47 ∷ []) ≡ true → HasRow (47 ∷ u) k rs → 1 ≤ length (longest_from seg best rs)
  longest_some seg best [] u k cut has = absurd has
  longest_some seg best ((t, j) ∷ rs) u k cut (inl (same, key)) = omega (arith, longest_grows seg (better seg best (segment t)) rs, subst (λ s. 1 ≤ length (better seg best s)) (sym (ap segment same)) (better_some seg best cut))
  longest_some seg best ((t, j) ∷ rs) u k cut (inr more) = longest_some seg (better seg best (segment t)) rs u k cut more

  param_complete : (rest : RowsOf K) (b : ℕ) (path t : List ℕ) (k : K) (took : ℕ × RowsOf K) (w p : List ℕ) → Ends t → HasRow t k rest → b ∷ path ≡ w ++ p → 0 < length w → has_slash w ≡ false → Matches t p → ParamCase rest (b ∷ path) took → ((t : List ℕ) → HasRow t k took.1 → Matches t (drop (took.0 - 1) path) → is_some (seek (took.0 - 1) took.1 path) ≡ true) → is_some (seek (took.0 - 1) took.1 path) ≡ true
  param_complete rest b path t k took w p ends has whole some bare m c ih = by (tail_of t p ends m) c
    where
      by : (p ≡ []) ⊎ ((u : List ℕ) × (q : List ℕ) × (t ≡ 47 ∷ u) × (p ≡ 47 ∷ q)) → ParamCase rest (b ∷ path) took → is_some (seek (took.0 - 1) took.1 path) ≡ true
      by (inl empty) (nothing is slash none) =
          let same : b ∷ path ≡ w = whole ∙ ap (λ l. w ++ l) empty ∙ append-nil w in
          absurd (false≢true (sym bare ∙ sym (ap has_slash same) ∙ slash))
      by (inr (u, q, t_is, p_is)) (nothing is slash none) =
          let same : b ∷ path ≡ w ++ 47 ∷ q = whole ∙ ap (λ l. w ++ l) p_is in
          let seg : segment (b ∷ path) ≡ w ++ 47 ∷ [] = ap segment same ∙ segment_cut w q bare in
          let cut : cuts (segment (b ∷ path)) (47 ∷ []) ≡ true = ap (λ s. cuts s (47 ∷ [])) seg ∙ cuts_part w some in
          absurd (omega (arith, ap length none, longest_some (segment (b ∷ path)) [] rest u k cut (subst (λ t. HasRow t k rest) t_is has)))
      by (inl empty) (all is bare') =
          let done : drop (length (b ∷ path) - 1) path ≡ [] = drop_front b path (b ∷ path) [] (omega arith) (sym (append-nil (b ∷ path))) in
          let at : drop (took.0 - 1) path ≡ p = ap (λ (l : ℕ × RowsOf K). drop (l.0 - 1) path) is ∙ done ∙ sym empty in
          ih t (subst (λ (l : ℕ × RowsOf K). HasRow t k l.1) (sym is) has) (subst (λ l. Matches t l) (sym at) m)
      by (inr (u, q, t_is, p_is)) (all is bare') = absurd (false≢true (sym bare' ∙ ap has_slash (whole ∙ ap (λ l. w ++ l) p_is) ∙ slash_in w q))
      by (inl empty) (part c some' is) =
          let same : b ∷ path ≡ w = whole ∙ ap (λ l. w ++ l) empty ∙ append-nil w in
          absurd (false≢true (sym bare ∙ sym (ap has_slash same) ∙ ap has_slash c.whole ∙ slash_in c.front c.after))
      by (inr (u, q, t_is, p_is)) (part c some' is) =
          let same : w ++ 47 ∷ q ≡ c.front ++ 47 ∷ c.after = sym (whole ∙ ap (λ l. w ++ l) p_is) ∙ c.whole in
          let cut = same_cut w c.front q c.after bare c.none same in
          let at : drop (took.0 - 1) path ≡ p = ap (λ (l : ℕ × RowsOf K). drop (l.0 - 1) path) is ∙ drop_front b path c.front (47 ∷ c.after) some' c.whole ∙ ap (λ l. 47 ∷ l) (sym cut.1) ∙ sym p_is in
          let kept : HasRow t k (with_suffix (47 ∷ []) rest) = subst (λ t. HasRow t k (with_suffix (47 ∷ []) rest)) (sym t_is) (row_suffix rest u k (subst (λ t. HasRow t k rest) t_is has)) in
          ih t (subst (λ (l : ℕ × RowsOf K). HasRow t k l.1) (sym is) kept) (subst (λ l. Matches t l) (sym at) m)

  pub complete : (n : ℕ) (rs : RowsOf K) (path t : List ℕ) (k : K) → AllTidy rs → HasRow t k rs → Matches t (drop n path) → is_some (seek n rs path) ≡ true
  unfolding seek
  complete zero rs [] [] k tidy has m = row_own rs k has
  complete zero rs [] (x ∷ t) k tidy has m = absurd (no_match x t m)
  complete (suc n) rs [] [] k tidy has m = row_own rs k has
  complete (suc n) rs [] (x ∷ t) k tidy has m = absurd (no_match x t m)
  complete (suc n) rs (b ∷ path) t k tidy has m = complete n rs path t k tidy has m
  complete zero rs (b ∷ path) [] k tidy has m = absurd (cons_nil b path m)
  complete zero rs (b ∷ path) (x ∷ t) k tidy has (inl (small, (q, whole, m))) =
      let bx : b ≡ x = ap (λ l. get_or l 0 b) whole in
      let same : path ≡ q = ap (drop 1) whole in
      or_first _ _ (complete 0 (step b rs) path t k (λ u j h. (tidy (b ∷ u) j (step_row b rs u j h)).2) (row_step b rs t k (subst (λ y. HasRow (y ∷ t) k rs) (sym bx) has)) (subst (λ l. Matches t l) (sym same) m))
  complete zero rs (b ∷ path) (x ∷ t) k tidy has (inr (wild, (w, p, whole, some, bare, m))) =
      let rest = step 256 rs in
      let took = param_step rest (b ∷ path) in
      let ends : AllEnds rest = λ u j h. (tidy (256 ∷ u) j (step_row 256 rs u j h)).1 refl in
      let c : ParamCase rest (b ∷ path) took = param_case rest (b ∷ path) ends in
      let has' : HasRow t k rest = row_step 256 rs t k (subst (λ y. HasRow (y ∷ t) k rs) wild has) in
      or_second (seek 0 (step b rs) path) _ (or_first (seek (took.0 - 1) took.1 path) _
      (param_complete rest b path t k took w p (ends t k has') has' whole some bare m c
      (λ u h n. complete (took.0 - 1) took.1 path u k (λ v j g. (tidy (256 ∷ v) j (step_row 256 rs v j (took_row rest (b ∷ path) took v j c g))).2) h n)))

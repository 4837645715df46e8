-- What is found is a row that matches.
use Rattle.std.proofs.Common.{◌≡◌, ℕ, zero, suc, ◌+◌, ◌-◌, ◌<◌, ◌⊎◌, inl, inr, Bool, true, false, cond, ◌==◌, ◌&&◌, ltb, nat_eq, is_some, unwrap_or, List, [], ◌∷◌, None, Some, length, length-append, drop, refl, sym, ap, ◌∙◌, subst, arith, append-nil}
use Rattle.std.specs.declared.option.Option.{Option}
use Rattle.std.specs.List.{ends_with}
use Rattle.std.proofs.lemmas.Bool.{false≢true, cases_Bool}
use Rattle.std.proofs.lemmas.Bool.Decides.{nat_tests}
use Rattle.matchit.specs.Rows.{RowsOf}
use Rattle.matchit.specs.Seek.{own, step, or_else, seek, with_suffix, same_text, segment, has_slash, cuts, better, longest_from, longest_suffix, param_step}
use Rattle.route_rules.specs.Endpoints.{HasRow, AllTidy, Ends, Matches}
use Rattle.route_rules.proofs.Segments.{cond_true, cond_false, segment_all, Cut, cut_of, no_end, drop_front}

some_same : {A : Type 0} (a b : A) → Some a ≡ Some b → a ≡ b
some_same a b is = ap (λ o. unwrap_or o a) is

none_some : {A : Type 0} (a : A) → None ≡ Some a → ⊥
none_some a is = false≢true (ap (λ o. is_some o) is)

pub and_parts : (a b : Bool) → (a && b) ≡ true → (a ≡ true) × (b ≡ true)
and_parts true b is = (refl, is)
and_parts false b is = absurd (false≢true is)

-- the longest suffix is a slash, or there is none
abbrev IsSlashOf : List ℕ → List ℕ → Type 0
IsSlashOf seg s = (s ≡ []) ⊎ ((s ≡ 47 ∷ []) × (cuts seg (47 ∷ []) ≡ true))

better_slash : (seg best t : List ℕ) → Ends t → IsSlashOf seg best → IsSlashOf seg (better seg best (segment t))
better_slash seg best [] ends is = subst (λ s. IsSlashOf seg s) (sym (cond_false (ltb (length best) 0 && cuts seg []) [] best (short (length best) (cuts seg [])))) is
  where
    short : (n : ℕ) (v : Bool) → (ltb n 0 && v) ≡ false
    short n v = grind (arith, nat_tests)
better_slash seg best (x ∷ t) ends is =
    let s : segment (x ∷ t) ≡ 47 ∷ [] = cond_true (x == 47) (x ∷ []) (x ∷ segment t) (grind (arith, nat_tests)) ∙ ap (λ y. y ∷ []) ends in
    subst (λ s. IsSlashOf seg (better seg best s)) (sym s) (by (ltb (length best) 1 && cuts seg (47 ∷ [])) refl)
  where
    by : (v : Bool) → (ltb (length best) 1 && cuts seg (47 ∷ [])) ≡ v → IsSlashOf seg (cond v (47 ∷ []) best)
    by true e = inr (refl, (and_parts (ltb (length best) 1) (cuts seg (47 ∷ [])) e).1)
    by false e = is

abbrev pub AllBytes : List ℕ → Type 0
AllBytes [] = Unit {0}
AllBytes (b ∷ path) = (b < 256) × AllBytes path

pub lt_of : (a b : ℕ) → ltb a b ≡ true → a < b
lt_of a b is = grind (arith, nat_tests)

module _ {K : Type 0} where
  own_row : (rs : RowsOf K) (k : K) → own rs ≡ Some k → HasRow [] k rs
  own_row [] k is = absurd (none_some k is)
  own_row (([], j) ∷ rs) k is = inl (refl, some_same j k is)
  own_row ((x ∷ t, j) ∷ rs) k is = inr (own_row rs k is)

  pub step_row : (b : ℕ) (rs : RowsOf K) (t : List ℕ) (k : K) → HasRow t k (step b rs) → HasRow (b ∷ t) k rs
  step_row b [] t k has = absurd has
  step_row b (([], j) ∷ rs) t k has = inr (step_row b rs t k has)
  step_row b ((x ∷ u, j) ∷ rs) t k has = by (step_row b rs t k) (x == b) refl has
    where
      by : (HasRow t k (step b rs) → HasRow (b ∷ t) k rs) → (v : Bool) → (x == b) ≡ v → HasRow t k (cond v ((u, j) ∷ step b rs) (step b rs)) → HasRow (b ∷ t) k ((x ∷ u, j) ∷ rs)
      by ih true e (inl (same, key)) = let xb : x ≡ b = grind (arith, nat_tests) in inl (ap (λ y. y ∷ u) xb ∙ ap (λ l. b ∷ l) same, key)
      by ih true e (inr more) = inr (ih more)
      by ih false e more = inr (ih more)

  pub suffix_row : (s : List ℕ) (rs : RowsOf K) (t : List ℕ) (k : K) → HasRow t k (with_suffix s rs) → HasRow t k rs
  suffix_row s [] t k has = has
  suffix_row s ((u, j) ∷ rs) t k has = by (suffix_row s rs t k) (same_text (segment u) s) has
    where
      by : (HasRow t k (with_suffix s rs) → HasRow t k rs) → (v : Bool) → HasRow t k (cond v ((u, j) ∷ with_suffix s rs) (with_suffix s rs)) → HasRow t k ((u, j) ∷ rs)
      by ih true (inl here) = inl here
      by ih true (inr more) = inr (ih more)
      by ih false more = inr (ih more)

  or_else_is : (a c : Option K) (k : K) → or_else a c ≡ Some k → (a ≡ Some k) ⊎ (c ≡ Some k)
  or_else_is None c k is = inr is
  or_else_is (Some j) c k is = inl is

  abbrev pub AllEnds : RowsOf K → Type 0
  AllEnds rs = (t : List ℕ) (k : K) → HasRow t k rs → Ends t

  longest_slash : (seg best : List ℕ) (rs : RowsOf K) → AllEnds rs → IsSlashOf seg best → IsSlashOf seg (longest_from seg best rs)
  longest_slash seg best [] ends is = is
  longest_slash seg best ((t, k) ∷ rs) ends is = longest_slash seg (better seg best (segment t)) rs (λ u j has. ends u j (inr has)) (better_slash seg best t (ends t k (inl (refl, refl))) is)

  -- a parameter takes nothing, all of a path without a slash, or what comes before the first slash
  pub data ParamCase (rs : RowsOf K) (path : List ℕ) (took : ℕ × RowsOf K) : Type 0 where
    nothing : took ≡ (0, []) → has_slash path ≡ true → longest_suffix (segment path) rs ≡ [] → ParamCase rs path took
    all : took ≡ (length path, rs) → has_slash path ≡ false → ParamCase rs path took
    part : (c : Cut path) → 0 < length c.front → took ≡ (length c.front, with_suffix (47 ∷ []) rs) → ParamCase rs path took

  pub param_case : (rs : RowsOf K) (path : List ℕ) → AllEnds rs → ParamCase rs path (param_step rs path)
  unfolding param_step
  param_case rs path ends = by (longest_slash (segment path) [] rs ends (inl refl)) (cases_Bool (has_slash path))
    where
      by : IsSlashOf (segment path) (longest_suffix (segment path) rs) → (has_slash path ≡ true) ⊎ (has_slash path ≡ false) → ParamCase rs path (param_step rs path)
      by (inl none) (inl slash) = nothing (rw (none, slash) refl) slash none
      by (inl none) (inr bare) = all (rw (none, bare) refl) bare
      by (inr (is, cut)) (inl slash) =
          let c : Cut path = cut_of path slash in
          let size : length (segment path) ≡ length c.front + 1 = ap length c.first_is ∙ length-append c.front (47 ∷ []) in
          let long : 1 < length (segment path) = lt_of 1 (length (segment path)) (and_parts (ltb 1 (length (segment path))) (ends_with nat_eq (segment path) (47 ∷ [])) cut).0 in
          let less : length (segment path) - 1 ≡ length c.front = omega (arith, size) in
          part c (omega (arith, size, long)) (rw is (ap (λ n. (n, with_suffix (47 ∷ []) rs)) less))
      by (inr (is, cut)) (inr bare) = absurd (no_end path bare (subst (λ l. ends_with nat_eq l (47 ∷ []) ≡ true) (segment_all path bare) (and_parts (ltb 1 (length (segment path))) (ends_with nat_eq (segment path) (47 ∷ [])) cut).1))

  abbrev pub Found : RowsOf K → List ℕ → K → Type 0
  Found rs path k = (t : List ℕ) × HasRow t k rs × Matches t path

  param_found : (rs rest : RowsOf K) (b : ℕ) (path : List ℕ) (k : K) (took : ℕ × RowsOf K) → ((t : List ℕ) (k : K) → HasRow t k rest → HasRow (256 ∷ t) k rs) → ParamCase rest (b ∷ path) took → Found took.1 (drop (took.0 - 1) path) k → Found rs (b ∷ path) k
  param_found rs rest b path k took up (nothing is slash none) found = absurd (subst (λ (l : ℕ × RowsOf K). HasRow found.0 k l.1) is found.1)
  param_found rs rest b path k took up (all is bare) found =
      let f : Found rest (drop (length (b ∷ path) - 1) path) k = subst (λ (l : ℕ × RowsOf K). Found l.1 (drop (l.0 - 1) path) k) is found in
      let done : drop (length (b ∷ path) - 1) path ≡ [] = drop_front b path (b ∷ path) [] (omega arith) (sym (append-nil (b ∷ path))) in
      (256 ∷ f.0, up f.0 k f.1, inr (refl, (b ∷ path, [], sym (append-nil (b ∷ path)), omega arith, bare, subst (λ l. Matches f.0 l) done f.2)))
  param_found rs rest b path k took up (part c some is) found =
      let f : Found (with_suffix (47 ∷ []) rest) (drop (length c.front - 1) path) k = subst (λ (l : ℕ × RowsOf K). Found l.1 (drop (l.0 - 1) path) k) is found in
      let after : drop (length c.front - 1) path ≡ 47 ∷ c.after = drop_front b path c.front (47 ∷ c.after) some c.whole in
      (256 ∷ f.0, up f.0 k (suffix_row (47 ∷ []) rest f.0 k f.1), inr (refl, (c.front, 47 ∷ c.after, c.whole, some, c.none, subst (λ l. Matches f.0 l) after f.2)))

  pub took_row : (rest : RowsOf K) (path : List ℕ) (took : ℕ × RowsOf K) (t : List ℕ) (k : K) → ParamCase rest path took → HasRow t k took.1 → HasRow t k rest
  took_row rest path took t k (nothing is slash none) has = absurd (subst (λ (l : ℕ × RowsOf K). HasRow t k l.1) is has)
  took_row rest path took t k (all is bare) has = subst (λ (l : ℕ × RowsOf K). HasRow t k l.1) is has
  took_row rest path took t k (part c some is) has = suffix_row (47 ∷ []) rest t k (subst (λ (l : ℕ × RowsOf K). HasRow t k l.1) is has)

  pub sound : (n : ℕ) (rs : RowsOf K) (path : List ℕ) (k : K) → AllTidy rs → AllBytes path → seek n rs path ≡ Some k → Found rs (drop n path) k
  unfolding seek
  sound zero rs [] k tidy bytes is = ([], own_row rs k is, refl)
  sound (suc n) rs [] k tidy bytes is = ([], own_row rs k is, refl)
  sound (suc n) rs (b ∷ path) k tidy bytes is = sound n rs path k tidy bytes.1 is
  sound zero rs (b ∷ path) k tidy bytes is =
      let rest = step 256 rs in
      let ends : AllEnds rest = λ t j has. (tidy (256 ∷ t) j (step_row 256 rs t j has)).1 refl in
      let c : ParamCase rest (b ∷ path) (param_step rest (b ∷ path)) = param_case rest (b ∷ path) ends in
      let took = param_step rest (b ∷ path) in
      elim (or_else_is (seek 0 (step b rs) path) _ k is) [
        | inl by_byte ↦
            let f = sound 0 (step b rs) path k (λ t j has. (tidy (b ∷ t) j (step_row b rs t j has)).2) bytes.1 by_byte in
            (b ∷ f.0, step_row b rs f.0 k f.1, inl (bytes.0, (path, refl, f.2)))
        | inr other ↦ elim (or_else_is (seek (took.0 - 1) took.1 path) (own (step 257 rs)) k other) [
          | inl by_part ↦ param_found rs rest b path k took (λ t j has. step_row 256 rs t j has) c (sound (took.0 - 1) took.1 path k (λ t j has. (tidy (256 ∷ t) j (step_row 256 rs t j (took_row rest (b ∷ path) took t j c has))).2) bytes.1 by_part)
          | inr last ↦ let bad = tidy (257 ∷ []) k (step_row 257 rs [] k (own_row (step 257 rs) k last)) in absurd (omega (arith, bad.0))
        ]
      ]

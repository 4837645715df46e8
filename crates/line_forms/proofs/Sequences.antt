-- Parts that are repeated, as far as they go, before a part that begins otherwise. Other crates may cite these lemmas.
use Rattle.std.proofs.Common.{ℕ, ◌≡◌, List, [], ◌∷◌, ◌++◌, map, refl, sym, ap, subst, ◌∙◌, ◌⊎◌, inl, inr, append_assoc, append-nil}
use Rattle.std.specs.Prelude.{flat_map}
use Rattle.line_forms.specs.LineStates.{LineState}
use Rattle.line_forms.specs.BadLines.{Begins}
use Rattle.line_forms.specs.Readers.{AreLinesOf, StopsAt, EachCan, IsNotAhead, IsStuck, Passes, TakesAll}
use Rattle.line_forms.proofs.Passing.{cons_head, cons_tail, map_snoc, passes_then}
use Rattle.line_forms.proofs.Parts.{Lines, splits, rest_same, no_value_ahead, HoldsNone, Then, HasSome}

-- ---- each value of a list stands behind those before it; one more can be added
pub each_none : {V : Type 0} (Can : List V → V → Type 0) → EachCan Can []
each_none Can [] after v h = cc
each_none Can (x ∷ before) after v h = cc

not_one : {V : Type 0} (before after : List V) (w x v : V) → w ∷ [] ≡ x ∷ (before ++ v ∷ after) → ⊥
not_one [] after w x v h = cc
not_one (y ∷ before) after w x v h = cc

-- a place in a list with one more value is the last one, or one of the list
snoc_split : {V : Type 0} (vs : List V) (w : V) (before after : List V) (v : V) → vs ++ w ∷ [] ≡ before ++ v ∷ after →
    ((vs ≡ before) × (w ≡ v)) ⊎ ((rest : List V) × (vs ≡ before ++ v ∷ rest))
snoc_split [] w [] after v h = inl (refl, cons_head w v [] after h)
snoc_split [] w (x ∷ before) after v h = absurd (not_one before after w x v h)
snoc_split (u ∷ vs) w [] after v h = inr (vs, ap (λ x. x ∷ vs) (cons_head u v (vs ++ w ∷ []) after h))
snoc_split (u ∷ vs) w (x ∷ before) after v h =
    let same : u ≡ x = cons_head u x (vs ++ w ∷ []) (before ++ v ∷ after) h in
    elim (snoc_split vs w before after v (cons_tail u x (vs ++ w ∷ []) (before ++ v ∷ after) h)) [
      | inl e ↦ inl (ap (λ y. y ∷ vs) same ∙ ap (λ l. x ∷ l) e.0, e.1)
      | inr e ↦ inr (e.0, ap (λ y. y ∷ vs) same ∙ ap (λ l. x ∷ l) e.1)
    ]

-- one more value that can stand there
pub each_more : {V : Type 0} (Can : List V → V → Type 0) (vs : List V) (w : V) → EachCan Can vs → Can vs w → EachCan Can (vs ++ w ∷ [])
each_more {V} Can vs w each can before after v h =
    elim (snoc_split vs w before after v h) [
      | inl e ↦ (let P : List V → Type 0 = λ l. Can l v in let Q : V → Type 0 = λ u. Can vs u in subst P e.0 (subst Q e.1 can))
      | inr e ↦ each before e.0 v e.1
    ]

-- two lists with a last value each have the same one
pub same_last : {V : Type 0} (vs front : List V) (w v : V) → vs ++ w ∷ [] ≡ front ++ v ∷ [] → (vs ≡ front) × (w ≡ v)
same_last {V} vs front w v h = elim (snoc_split vs w front [] v h) [
  | inl e ↦ e
  | inr e ↦ absurd (longer front e.0 v w (ap (λ l. l ++ w ∷ []) (sym e.1) ∙ h))
]
  where
    longer : (front rest : List V) (v w : V) → (front ++ v ∷ rest) ++ w ∷ [] ≡ front ++ v ∷ [] → ⊥
    longer [] [] v w h = let k : w ∷ [] ≡ [] = cons_tail v v (w ∷ []) [] h in cc
    longer [] (x ∷ rest) v w h = let k : x ∷ (rest ++ w ∷ []) ≡ [] = cons_tail v v (x ∷ (rest ++ w ∷ [])) [] h in cc
    longer (x ∷ front) rest v w h = longer front rest v w (cons_tail x x ((front ++ v ∷ rest) ++ w ∷ []) (front ++ v ∷ []) h)

-- ---- values spelled one behind another
-- the lines of values, each with a first one
abbrev pub with_first : {V : Type 0} → (V → List ℕ) → (V → Lines) → V → Lines
with_first first tail v = first v ∷ tail v

-- a value whose lines are one
abbrev pub no_tail : {V : Type 0} → V → Lines
no_tail v = []

-- the lines of values of one line
pub flat_single : {V : Type 0} (first : V → List ℕ) (vs : List V) → flat_map (with_first first no_tail) vs ≡ map first vs
flat_single first [] = refl
flat_single first (v ∷ vs) = ap (λ l. first v ∷ l) (flat_single first vs)

-- the lines of one more value
pub flat_snoc : {V : Type 0} (lines_of : V → Lines) (vs : List V) (v : V) → flat_map lines_of (vs ++ v ∷ []) ≡ flat_map lines_of vs ++ lines_of v
flat_snoc lines_of [] v = append-nil (lines_of v)
flat_snoc lines_of (x ∷ vs) v = ap (λ l. lines_of x ++ l) (flat_snoc lines_of vs v) ∙ sym (append_assoc (lines_of x) (flat_map lines_of vs) (lines_of v))

-- the first of these lines goes on with the value
abbrev pub GoesOn : {V : Type 0} → (V → List ℕ → Type 0) → V → Lines → Type 0
GoesOn Next v lines = (line : List ℕ) × (more : Lines) × (lines ≡ line ∷ more) × Next v line

-- these lines don't go on with the last of these values
abbrev pub EndsLast : {V : Type 0} → (V → List ℕ → Type 0) → List V → Lines → Type 0
EndsLast {V} Next vs lines = (front : List V) (v : V) → vs ≡ front ++ v ∷ [] → GoesOn Next v lines → ⊥

-- no line goes on with a value
abbrev pub NoNext : {V : Type 0} → V → List ℕ → Type 0
NoNext v line = ⊥

-- Behind the same values one value is known by its lines, where what follows doesn't go on with it; no first line goes on with a
-- value; and what follows a list begins with no value that can stand there, and goes on with none.
pub record IsSequence {V : Type 0} (Can : List V → V → Type 0) (first : V → List ℕ) (tail : V → Lines) (Next : V → List ℕ → Type 0) (After : List V → Lines → Type 0) : Type 0 where
  pub one : (before : List V) (v w : V) (x y : Lines) → Can before v → Can before w → (GoesOn Next v x → ⊥) → (GoesOn Next w y → ⊥) → with_first first tail v ++ x ≡ with_first first tail w ++ y → v ≡ w
  pub firsts : (before : List V) (v w : V) → Can before v → Next w (first v) → ⊥
  pub foreign : (vs : List V) (v : V) (rest more : Lines) → After vs rest → Can vs v → rest ≡ first v ∷ more → ⊥
  pub ends : (vs : List V) (rest : Lines) (v : V) → After vs rest → GoesOn Next v rest → ⊥

-- the lines of a list, and then those of a set that goes by it
abbrev pub Many : {V : Type 0} → (List V → V → Type 0) → (V → List ℕ) → (V → Lines) → (List V → Lines → Type 0) → Lines → Type 0
Many Can first tail After = Then (EachCan Can) (flat_map (with_first first tail)) After

-- Two lists of values whose lines begin one list of lines: they are the same, or one of them goes on with a further value.
abbrev pub Compares : {V : Type 0} → (V → Lines) → List V → List V → Lines → Lines → Type 0
Compares {V} lines_of vs ws x y =
    ((vs ≡ ws) × (x ≡ y))
    ⊎ (((w : V) × (us : List V) × (ws ≡ vs ++ w ∷ us) × (x ≡ lines_of w ++ (flat_map lines_of us ++ y)))
    ⊎ ((v : V) × (us : List V) × (vs ≡ ws ++ v ∷ us) × (y ≡ lines_of v ++ (flat_map lines_of us ++ x))))

compares_cons : {V : Type 0} (lines_of : V → Lines) (v : V) (vs ws : List V) (x y : Lines) → Compares lines_of vs ws x y → Compares lines_of (v ∷ vs) (v ∷ ws) x y
compares_cons lines_of v vs ws x y (inl h) = inl (ap (λ l. v ∷ l) h.0, h.1)
compares_cons lines_of v vs ws x y (inr (inl h)) = inr (inl (h.0, h.1, ap (λ l. v ∷ l) h.2, h.3))
compares_cons lines_of v vs ws x y (inr (inr h)) = inr (inr (h.0, h.1, ap (λ l. v ∷ l) h.2, h.3))

same_head : (before a b : Lines) (line first : List ℕ) (z : Lines) → before ++ line ∷ a ≡ first ∷ z → (m : Lines) × (before ++ line ∷ b ≡ first ∷ m)
same_head [] a b line first z h = (b, ap (λ l. l ∷ b) (cons_head line first a z h))
same_head (x ∷ before) a b line first z h = (before ++ line ∷ b, ap (λ l. l ∷ (before ++ line ∷ b)) (cons_head x first (before ++ line ∷ a) z h))

shift : (a before rest : Lines) (line : List ℕ) → ((a ++ before) ++ line ∷ []) ++ rest ≡ a ++ (before ++ line ∷ rest)
shift a before rest line = append_assoc (a ++ before) (line ∷ []) rest ∙ append_assoc a before (line ∷ rest)

begin_again : (After : Lines → Type 0) (before rest : Lines) (line : List ℕ) → After (before ++ line ∷ rest) → Begins After (before ++ line ∷ [])
begin_again After before rest line h = let P : Lines → Type 0 = After in (rest, subst P (sym (append_assoc before (line ∷ []) rest)) h)

module _ {V : Type 0} {Can : List V → V → Type 0} {first : V → List ℕ} {tail : V → Lines} {Next : V → List ℕ → Type 0} {After : List V → Lines → Type 0} (s : IsSequence Can first tail Next After) where
  -- what stands behind a value of a list doesn't go on with it
  behind_ends : (done : List V) (v : V) (vs : List V) (x : Lines) → EachCan Can (done ++ v ∷ vs) → EndsLast Next (done ++ v ∷ vs) x → GoesOn Next v (flat_map (with_first first tail) vs ++ x) → ⊥
  behind_ends done v [] x each ends goes = ends done v refl goes
  behind_ends done v (u ∷ us) x each ends (line, more, e, next) =
      let same : first u ≡ line = cons_head (first u) line ((tail u ++ flat_map (with_first first tail) us) ++ x) more e in
      let N : List ℕ → Type 0 = Next v in
      s.firsts (done ++ v ∷ []) u v (each (done ++ v ∷ []) us u (sym (append_assoc done (v ∷ []) (u ∷ us)))) (subst N (sym same) next)

  -- two lists that go on behind the same values
  compare_from : (done vs ws : List V) (x y : Lines) → EachCan Can (done ++ vs) → EachCan Can (done ++ ws) → EndsLast Next (done ++ vs) x → EndsLast Next (done ++ ws) y →
      flat_map (with_first first tail) vs ++ x ≡ flat_map (with_first first tail) ws ++ y → Compares (with_first first tail) vs ws x y
  compare_from done [] [] x y each fine ends last e = inl (refl, e)
  compare_from done [] (w ∷ ws) x y each fine ends last e = inr (inl (w, ws, refl, e ∙ append_assoc (with_first first tail w) (flat_map (with_first first tail) ws) y))
  compare_from done (v ∷ vs) [] x y each fine ends last e = inr (inr (v, vs, refl, sym e ∙ append_assoc (with_first first tail v) (flat_map (with_first first tail) vs) x))
  compare_from done (v ∷ vs) (w ∷ ws) x y each fine ends last e =
      let vx : Lines = flat_map (with_first first tail) vs ++ x in
      let wy : Lines = flat_map (with_first first tail) ws ++ y in
      let long : with_first first tail v ++ vx ≡ with_first first tail w ++ wy =
      sym (append_assoc (with_first first tail v) (flat_map (with_first first tail) vs) x) ∙ e ∙ append_assoc (with_first first tail w) (flat_map (with_first first tail) ws) y in
      let same : v ≡ w = s.one done v w vx wy (each done vs v refl) (fine done ws w refl) (behind_ends done v vs x each ends) (behind_ends done w ws y fine last) long in
      let behind = rest_same (with_first first tail) v w vx wy same long in
      let E : List V → Type 0 = EachCan Can in
      let L : Lines → List V → Type 0 = λ z l. EndsLast Next l z in
      let F : V → Type 0 = λ u. EachCan Can (done ++ u ∷ ws) in
      let G : V → Type 0 = λ u. EndsLast Next (done ++ u ∷ ws) y in
      let P : V → Type 0 = λ u. Compares (with_first first tail) (v ∷ vs) (u ∷ ws) x y in
      subst P same (compares_cons (with_first first tail) v vs ws x y
      (compare_from (done ++ v ∷ []) vs ws x y
      (subst E (sym (append_assoc done (v ∷ []) vs)) each) (subst E (sym (append_assoc done (v ∷ []) ws)) (subst F (sym same) fine))
      (subst (L x) (sym (append_assoc done (v ∷ []) vs)) ends) (subst (L y) (sym (append_assoc done (v ∷ []) ws)) (subst G (sym same) last)) behind))

  -- what follows a list doesn't go on with its last value
  after_ends : (vs : List V) (rest : Lines) → After vs rest → EndsLast Next vs rest
  after_ends vs rest after front v e goes = s.ends vs rest v after goes

  -- the values of a list and what follows it are known by the lines
  pub many_one : (vs ws : List V) (x y : Lines) → EachCan Can vs → EachCan Can ws → After vs x → After ws y → flat_map (with_first first tail) vs ++ x ≡ flat_map (with_first first tail) ws ++ y → (vs ≡ ws) × (x ≡ y)
  many_one vs ws x y each fine after other e = only (compare_from [] vs ws x y each fine (after_ends vs x after) (after_ends ws y other) e)
    where
      only : Compares (with_first first tail) vs ws x y → (vs ≡ ws) × (x ≡ y)
      only (inl h) = h
      only (inr (inl (w, us, ws_is, x_is))) = absurd (s.foreign vs w x (tail w ++ (flat_map (with_first first tail) us ++ y)) after (fine vs us w ws_is) x_is)
      only (inr (inr (v, us, vs_is, y_is))) = absurd (s.foreign ws v y (tail v ++ (flat_map (with_first first tail) us ++ x)) other (each ws us v vs_is) y_is)

  -- A list stands there as far as it goes, and behind it nothing goes on.
  pub stops_many : (vs : List V) (before : Lines) (mid state : LineState) → EachCan Can vs → IsNotAhead (Can vs) first mid → EndsLast Next vs mid.lines → mid.lines ≡ before ++ state.lines →
      StopsAt (After vs) before state → StopsAt (Many Can first tail After) (flat_map (with_first first tail) vs ++ before) state
  stops_many vs before mid state each none ends mid_is stops = record {
    begins = (stops.begins.0, (vs, before ++ stops.begins.0, each, stops.begins.1, append_assoc (spelled vs) before stops.begins.0));
    unfinished = λ (ws, rest, fine, after, e). no_end ws rest fine after (compare_from [] vs ws before rest each fine ends_before (after_ends ws rest after) e);
    ahead = λ line more is_ahead (rest, (ws, end, fine, after, e)).
        no_line line more is_ahead rest ws end fine after
        (compare_from [] vs ws (before ++ line ∷ rest) end each fine (ends_ahead line more rest is_ahead) (after_ends ws end after) (sym (shift (spelled vs) before rest line) ∙ e));
  }
    where
      spelled : List V → Lines
      spelled us = flat_map (with_first first tail) us

      ends_before : EndsLast Next vs before
      ends_before front v e (line, more, is, next) = ends front v e (line, more ++ state.lines, mid_is ∙ ap (λ l. l ++ state.lines) is, next)

      ends_ahead : (line : List ℕ) (more rest : Lines) → state.lines ≡ line ∷ more → EndsLast Next vs (before ++ line ∷ rest)
      ends_ahead line more rest is_ahead front v e (l, m, is, next) =
          let head = same_head before rest more line l m is in
          ends front v e (l, head.0, mid_is ∙ ap (λ k. before ++ k) is_ahead ∙ head.1, next)

      after_same : (ws : List V) (x y : Lines) → vs ≡ ws → x ≡ y → After ws y → After vs x
      after_same ws x y same is after =
          let P : List V → Type 0 = λ us. After us x in
          let Q : Lines → Type 0 = λ l. After ws l in
          subst P (sym same) (subst Q (sym is) after)

      no_end : (ws : List V) (rest : Lines) → EachCan Can ws → After ws rest → Compares (with_first first tail) vs ws before rest → ⊥
      no_end ws rest fine after (inl h) = stops.unfinished (after_same ws before rest h.0 h.1 after)
      no_end ws rest fine after (inr (inl (w, us, ws_is, x_is))) =
          none w ((tail w ++ (spelled us ++ rest)) ++ state.lines) (fine vs us w ws_is) (mid_is ∙ ap (λ l. l ++ state.lines) x_is)
      no_end ws rest fine after (inr (inr (v, us, vs_is, y_is))) = s.foreign ws v rest (tail v ++ (spelled us ++ before)) after (each ws us v vs_is) y_is

      no_line : (line : List ℕ) (more : Lines) → state.lines ≡ line ∷ more → (rest : Lines) (ws : List V) (end : Lines) → EachCan Can ws → After ws end → Compares (with_first first tail) vs ws (before ++ line ∷ rest) end → ⊥
      no_line line more is_ahead rest ws end fine after (inl h) =
          stops.ahead line more is_ahead (begin_again (After vs) before rest line (after_same ws (before ++ line ∷ rest) end h.0 h.1 after))
      no_line line more is_ahead rest ws end fine after (inr (inl (w, us, ws_is, x_is))) =
          let head = same_head before rest more line (first w) (tail w ++ (spelled us ++ end)) x_is in
          none w head.0 (fine vs us w ws_is) (mid_is ∙ ap (λ l. before ++ l) is_ahead ∙ head.1)
      no_line line more is_ahead rest ws end fine after (inr (inr (v, us, vs_is, y_is))) =
          s.foreign ws v end (tail v ++ (spelled us ++ (before ++ line ∷ rest))) after (each ws us v vs_is) y_is

  -- The lines of a list are taken, and those of a further value don't go on.
  pub stops_inside : (vs : List V) (start : List ℕ) (begun : Lines) (state : LineState) → EachCan Can vs → ((v : V) → Can vs v → HasSome (After (vs ++ v ∷ []))) → HoldsNone (Can vs) (with_first first tail) (start ∷ begun) →
      StopsAt (AreLinesOf (Can vs) (with_first first tail)) (start ∷ begun) state → StopsAt (Many Can first tail After) (flat_map (with_first first tail) vs ++ start ∷ begun) state
  stops_inside vs start begun state each some holds stops = record {
    begins = begin stops.begins;
    unfinished = λ (ws, rest, fine, after, e). no_end ws rest fine after (compare_from [] vs ws (start ∷ begun) rest each fine (ends_start begun) (after_ends ws rest after) e);
    ahead = λ line more is_ahead (rest, (ws, end, fine, after, e)).
        no_line line more is_ahead rest ws end fine after
        (compare_from [] vs ws (start ∷ (begun ++ line ∷ rest)) end each fine (ends_start (begun ++ line ∷ rest)) (after_ends ws end after) (sym (shift (spelled vs) (start ∷ begun) rest line) ∙ e));
  }
    where
      spelled : List V → Lines
      spelled us = flat_map (with_first first tail) us

      start_is : start ≡ first stops.begins.1.0
      start_is = cons_head start (first stops.begins.1.0) (begun ++ stops.begins.0) (tail stops.begins.1.0) stops.begins.1.2

      ends_start : (more : Lines) → EndsLast Next vs (start ∷ more)
      ends_start more front v e (line, rest, is, next) =
          let N : List ℕ → Type 0 = Next v in
          s.firsts vs stops.begins.1.0 v stops.begins.1.1 (subst N (sym (cons_head start line more rest is) ∙ start_is) next)

      begin : Begins (AreLinesOf (Can vs) (with_first first tail)) (start ∷ begun) → Begins (Many Can first tail After) (spelled vs ++ start ∷ begun)
      begin (more, (v, can, e)) =
          let h = some v can in (
            more ++ h.0,
            (
              vs ++ v ∷ [],
              h.0,
              each_more Can vs v each can,
              h.1,
              append_assoc (spelled vs) (start ∷ begun) (more ++ h.0) ∙ ap (λ l. spelled vs ++ l) (sym (append_assoc (start ∷ begun) more h.0) ∙ ap (λ l. l ++ h.0) e)
                  ∙ sym (append_assoc (spelled vs) (with_first first tail v) h.0) ∙ ap (λ l. l ++ h.0) (sym (flat_snoc (with_first first tail) vs v)),
            ),
          )

      -- what stands there begins as a value does
      starts : (rest tailing : Lines) (ws : List V) → vs ≡ ws → After ws rest → start ∷ tailing ≡ rest → ⊥
      starts rest tailing ws same after e =
          let C : List V → Type 0 = λ l. Can l stops.begins.1.0 in
          s.foreign ws stops.begins.1.0 rest tailing after (subst C same stops.begins.1.1) (sym e ∙ ap (λ l. l ∷ tailing) start_is)

      no_end : (ws : List V) (rest : Lines) → EachCan Can ws → After ws rest → Compares (with_first first tail) vs ws (start ∷ begun) rest → ⊥
      no_end ws rest fine after (inl h) = starts rest begun ws h.0 after h.1
      no_end ws rest fine after (inr (inl (w, us, ws_is, x_is))) = holds w (spelled us ++ rest) (fine vs us w ws_is) x_is
      no_end ws rest fine after (inr (inr (v, us, vs_is, y_is))) = s.foreign ws v rest (tail v ++ (spelled us ++ start ∷ begun)) after (each ws us v vs_is) y_is

      no_line : (line : List ℕ) (more : Lines) → state.lines ≡ line ∷ more → (rest : Lines) (ws : List V) (end : Lines) → EachCan Can ws → After ws end → Compares (with_first first tail) vs ws (start ∷ (begun ++ line ∷ rest)) end → ⊥
      no_line line more is_ahead rest ws end fine after (inl h) = starts end (begun ++ line ∷ rest) ws h.0 after h.1
      no_line line more is_ahead rest ws end fine after (inr (inl (w, us, ws_is, x_is))) =
          no_value_ahead (Can vs) (with_first first tail) (start ∷ begun) state line more rest w (spelled us ++ end) holds stops is_ahead (fine vs us w ws_is)
          (splits (start ∷ begun) (line ∷ rest) (with_first first tail w) (spelled us ++ end) x_is)
      no_line line more is_ahead rest ws end fine after (inr (inr (v, us, vs_is, y_is))) =
          s.foreign ws v end (tail v ++ (spelled us ++ start ∷ (begun ++ line ∷ rest))) after (each ws us v vs_is) y_is

  -- where what follows a list stops, all stops
  pub stuck_many : (vs : List V) (old mid new : LineState) → EachCan Can vs → Passes old mid (flat_map (with_first first tail) vs) → IsNotAhead (Can vs) first mid → EndsLast Next vs mid.lines →
      IsStuck (After vs) mid new → IsStuck (Many Can first tail After) old new
  stuck_many vs old mid new each taken none ends (before, passes, stops) = (
    flat_map (with_first first tail) vs ++ before,
    passes_then old mid new (flat_map (with_first first tail) vs) before taken passes,
    stops_many vs before mid new each none ends passes.0 stops,
  )

  -- and so where a further value stops
  pub stuck_inside : (vs : List V) (start : List ℕ) (begun : Lines) (old mid new : LineState) → EachCan Can vs → Passes old mid (flat_map (with_first first tail) vs) →
      ((v : V) → Can vs v → HasSome (After (vs ++ v ∷ []))) → HoldsNone (Can vs) (with_first first tail) (start ∷ begun) → Passes mid new (start ∷ begun) → StopsAt (AreLinesOf (Can vs) (with_first first tail)) (start ∷ begun) new →
      IsStuck (Many Can first tail After) old new
  stuck_inside vs start begun old mid new each taken some holds passes stops = (
    flat_map (with_first first tail) vs ++ start ∷ begun,
    passes_then old mid new (flat_map (with_first first tail) vs) (start ∷ begun) taken passes,
    stops_inside vs start begun new each some holds stops,
  )

-- where values of one line each were taken, with which no line goes on, and what follows them stops, all stops
pub stuck_taken : {V : Type 0} {Can : List V → V → Type 0} {first : V → List ℕ} {After : List V → Lines → Type 0} → IsSequence Can first no_tail NoNext After → (vs : List V) (old mid new : LineState) →
    TakesAll Can first old mid vs → IsStuck (After vs) mid new → IsStuck (Many Can first no_tail After) old new
stuck_taken {V} {Can} {first} {After} s vs old mid new taken stuck =
    let P : Lines → Type 0 = Passes old mid in
    stuck_many s vs old mid new taken.0 (subst P (sym (flat_single first vs)) taken.1) taken.2 (λ front v e goes. goes.3) stuck

-- Not one value of a list stands there, and the list can't be empty.
pub stops_empty : {V : Type 0} (Can : List V → V → Type 0) (first : V → List ℕ) (tail : V → Lines) (After : List V → Lines → Type 0) (state : LineState) →
    HasSome (Many Can first tail After) → ((rest : Lines) → ¬ After [] rest) → IsNotAhead (Can []) first state → StopsAt (Many Can first tail After) [] state
stops_empty {V} Can first tail After state some never none = record {
  begins = some;
  unfinished = λ (ws, rest, fine, after, e). no_end ws rest after e;
  ahead = λ line more is_ahead (rest, (ws, end, fine, after, e)). no_line line more is_ahead rest ws end fine after e;
}
  where
    no_end : (ws : List V) (rest : Lines) → After ws rest → [] ≡ flat_map (with_first first tail) ws ++ rest → ⊥
    no_end [] rest after e = never rest after
    no_end (w ∷ ws) rest after e = cc

    no_line : (line : List ℕ) (more : Lines) → state.lines ≡ line ∷ more → (rest : Lines) (ws : List V) (end : Lines) → EachCan Can ws → After ws end → line ∷ rest ≡ flat_map (with_first first tail) ws ++ end → ⊥
    no_line line more is_ahead rest [] end fine after e = never end after
    no_line line more is_ahead rest (w ∷ ws) end fine after e =
        none w more (fine [] ws w refl) (is_ahead ∙ ap (λ l. l ∷ more) (cons_head line (first w) rest ((tail w ++ flat_map (with_first first tail) ws) ++ end) e))

-- ---- values that are known by their lines, whatever follows
-- behind the same values, one value is
abbrev pub OneWayBehind : {V : Type 0} → (List V → V → Type 0) → (V → Lines) → Type 0
OneWayBehind {V} Can lines_of =
    (before : List V) (v w : V) (x y : Lines) → Can before v → Can before w → lines_of v ++ x ≡ lines_of w ++ y → v ≡ w

-- no such value begins these lines
abbrev pub IsForeign : {V : Type 0} → (List V → V → Type 0) → (V → List ℕ) → Lines → Type 0
IsForeign {V} Can first lines = (before : List V) (v : V) (more : Lines) → Can before v → lines ≡ first v ∷ more → ⊥

-- what follows a list begins with no value of it
abbrev pub EndsForeign : {V : Type 0} → (List V → V → Type 0) → (V → List ℕ) → (List V → Lines → Type 0) → Type 0
EndsForeign {V} Can first After = (vs : List V) (rest : Lines) → After vs rest → IsForeign Can first rest

-- such values stand one behind another, and no line goes on with one
pub known : {V : Type 0} (Can : List V → V → Type 0) (first : V → List ℕ) (tail : V → Lines) (After : List V → Lines → Type 0) → OneWayBehind Can (with_first first tail) → EndsForeign Can first After → IsSequence Can first tail NoNext After
known Can first tail After one foreign = record {
  one = λ before v w x y can also _ _ e. one before v w x y can also e;
  firsts = λ before v w can next. next;
  foreign = λ vs v rest more after can e. foreign vs rest after vs v more can e;
  ends = λ vs rest v after goes. goes.3;
}

-- two lists of such values whose lines begin one list of lines
pub compare : {V : Type 0} (Can : List V → V → Type 0) (first : V → List ℕ) (tail : V → Lines) (vs ws : List V) (x y : Lines) → OneWayBehind Can (with_first first tail) → EachCan Can vs → EachCan Can ws →
    flat_map (with_first first tail) vs ++ x ≡ flat_map (with_first first tail) ws ++ y → Compares (with_first first tail) vs ws x y
compare {V} Can first tail vs ws x y one each fine e =
    let After : List V → Lines → Type 0 = λ us rest. ⊥ in
    compare_from (known Can first tail After one (λ us rest after. absurd after)) [] vs ws x y each fine (λ front v e goes. goes.3) (λ front v e goes. goes.3) e

-- and where no value begins what follows them, the lists are the same
pub many_known : {V : Type 0} (Can : List V → V → Type 0) (first : V → List ℕ) (tail : V → Lines) (vs ws : List V) (x y : Lines) → OneWayBehind Can (with_first first tail) → EachCan Can vs → EachCan Can ws →
    IsForeign Can first x → IsForeign Can first y → flat_map (with_first first tail) vs ++ x ≡ flat_map (with_first first tail) ws ++ y → (vs ≡ ws) × (x ≡ y)
many_known {V} Can first tail vs ws x y one each fine clear other e =
    let After : List V → Lines → Type 0 = λ us rest. IsForeign Can first rest in
    many_one (known Can first tail After one (λ us rest foreign. foreign)) vs ws x y each fine clear other e

-- ---- values that were taken, a line each
-- one more value was taken
pub taken_more : {V : Type 0} (Can : List V → V → Type 0) (first : V → List ℕ) (start mid new : LineState) (items seen result : List V) (v : V) → EachCan Can items → Passes start mid (map first items) →
    seen ≡ items → result ≡ items ++ v ∷ [] → Can seen v → Passes mid new (first v ∷ []) → EachCan Can result × Passes start new (map first result)
taken_more {V} Can first start mid new items seen result v each passes seen_is result_is can one =
    let P : List V → Type 0 = λ r. EachCan Can r × Passes start new (map first r) in
    let Q : Lines → Type 0 = λ l. Passes start new l in
    let C : List V → Type 0 = λ l. Can l v in
    subst P (sym result_is)
    (each_more Can items v each (subst C seen_is can), subst Q (sym (map_snoc first items v)) (passes_then start mid new (map first items) (first v ∷ []) passes one))

-- and no further one is ahead
pub taken_all : {V : Type 0} (Can : List V → V → Type 0) (first : V → List ℕ) (start mid new : LineState) (items seen result : List V) → EachCan Can items → Passes start mid (map first items) →
    seen ≡ items → result ≡ items → new ≡ mid → IsNotAhead (Can seen) first mid → TakesAll Can first start new result
taken_all {V} Can first start mid new items seen result each passes seen_is result_is same none =
    let P : List V → Type 0 = λ r. TakesAll Can first start new r in
    let Q : LineState → Type 0 = λ s. TakesAll Can first start s items in
    let C : List V → Type 0 = λ l. IsNotAhead (Can l) first mid in
    subst P (sym result_is) (subst Q (sym same) (each, passes, subst C seen_is none))

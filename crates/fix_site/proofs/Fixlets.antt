-- The lines of a fixlet behind its first, part by part.
use Rattle.std.proofs.Common.{ℕ, ◌≡◌, List, [], ◌∷◌, ◌++◌, refl, sym, ap, ◌∙◌, map, true, false}
use Rattle.std.specs.Prelude.{codes, flat_map}
use Rattle.line_forms.specs.Contents as held
use Rattle.line_forms.specs.Names.{IsRest}
use Rattle.line_forms.specs.LineStates.{LineState}
use Rattle.line_forms.specs.Readers.{Passes, AreLinesOf, IsStuck, IsNotAhead, TakesAll, TakesExactly}
use Rattle.line_forms.specs.Numbers.{IsId}
use Rattle.line_forms.proofs.Passing.{cons_head, cons_tail, passes_then}
use Rattle.fix_site.specs.declared.fixlet.Fixlet.{Fixlet}
use Rattle.fix_site.specs.declared.fixlet.Success.{Success}
use Rattle.fix_site.specs.declared.fixlet.Success.TheVariants as success
use Rattle.fix_site.specs.Actions.{end_line}
use Rattle.fix_site.specs.Contents.{IsSuccess, title_line, relevance_line, success_line, fixlet_rest}
use Rattle.fix_site.specs.Readings.{Anywhere, FitsScript, IsFixletOf}
use Rattle.line_forms.proofs.Lasts.{each_all}
use Rattle.line_forms.proofs.Parts.{HasSome, IsOneWay, Lines, Only, Then, single, stuck_behind, stuck_first, stuck_line, stuck_only, stuck_same}
use Rattle.line_forms.proofs.Sequences.{EndsForeign, Many, each_none, flat_single, known, many_known, no_tail, stuck_taken, with_first}
use Rattle.fix_site.proofs.ListLemmas.{all_each, each_script, regroup, script_each}
use Rattle.fix_site.proofs.ContentLines.{a_rest, title_one, relevance_one, success_one, success_not_relevance, script_one, end_not_content}

abbrev fixlet_of : ℕ → List ℕ → List (List ℕ) → Success → List (List ℕ) → Fixlet
fixlet_of id title relevance success script = record { id = id; title = title; relevance = relevance; success = success; script = script }

-- what follows the script, the line of the success, the questions and the title
abbrev Behind1 : List (List ℕ) → Lines → Type 0
Behind1 script = Only end_line

abbrev Behind2 : Success → Lines → Type 0
Behind2 s = Many FitsScript held.content_line no_tail Behind1

abbrev Behind3 : List (List ℕ) → Lines → Type 0
Behind3 questions = Then IsSuccess (single success_line) Behind2

abbrev Behind4 : List ℕ → Lines → Type 0
Behind4 title = Many (Anywhere IsRest) relevance_line no_tail Behind3

abbrev Whole : Lines → Type 0
Whole = Then IsRest (single title_line) Behind4

some2 : (s : Success) → HasSome (Behind2 s)
some2 s = (end_line ∷ [], ([], end_line ∷ [], each_none FitsScript, refl, refl))

some3 : (questions : List (List ℕ)) → HasSome (Behind3 questions)
some3 questions = let s = some2 success.Lines in (codes "success lines" ∷ s.0, (success.Lines, s.0, tt, s.1, refl))

some4 : (title : List ℕ) → HasSome (Behind4 title)
some4 title = let s = some3 [] in (s.0, ([], s.0, each_none (Anywhere IsRest), s.1, refl))

-- the parts begin otherwise than those before them
foreign2 : EndsForeign FitsScript held.content_line Behind1
foreign2 script rest is before v more can e = end_not_content v (cons_head end_line (held.content_line v) [] more (sym is ∙ e))

foreign4 : EndsForeign (Anywhere IsRest) relevance_line Behind3
foreign4 questions rest (s, tail, is, after, h) before v more can e =
    success_not_relevance s v (cons_head (success_line s) (relevance_line v) tail more (sym h ∙ e))

-- the parts are those of a fixlet
there : (id : ℕ) → IsId id → (lines : Lines) → Whole lines → AreLinesOf (IsFixletOf id) fixlet_rest lines
there id good lines (title, rest1, is_title, (questions, rest2, each, (s, rest3, is_s, (script, rest4, fits, end, e4), e3), e2), e1) = (
  fixlet_of id title questions s script,
  (
    record {
      id = good;
      title = is_title;
      relevance = each_all IsRest (Anywhere IsRest) (λ before v h. h) questions each;
      success = is_s;
      script = each_script script fits;
    },
    refl,
  ),
  e1 ∙ ap (λ l. title_line title ∷ l) (e2 ∙ ap (λ l. l ++ rest2) (flat_single relevance_line questions)
      ∙ ap (λ l. map relevance_line questions ++ l) (e3 ∙ ap (λ l. success_line s ∷ l) (e4 ∙ ap (λ l. l ++ rest4) (flat_single held.content_line script) ∙ ap (λ l. map held.content_line script ++ l) end))),
)

back : (id : ℕ) (lines : Lines) → AreLinesOf (IsFixletOf id) fixlet_rest lines → Whole lines
back id lines (f, (is, same), e) =
    let rest4 = end_line ∷ [] in
    let rest3 = flat_map (with_first held.content_line no_tail) f.script ++ rest4 in
    let rest2 = success_line f.success ∷ rest3 in
    let rest1 = flat_map (with_first relevance_line no_tail) f.relevance ++ rest2 in (
      f.title,
      rest1,
      is.title,
      (f.relevance, rest2, all_each IsRest f.relevance is.relevance, (f.success, rest3, is.success, (f.script, rest4, script_each f.script is.script, refl, refl), refl), refl),
      e ∙ ap (λ l. title_line f.title ∷ l) (ap (λ l. l ++ success_line f.success ∷ (map held.content_line f.script ++ rest4)) (sym (flat_single relevance_line f.relevance))
          ∙ ap (λ l. flat_map (with_first relevance_line no_tail) f.relevance ++ success_line f.success ∷ l) (ap (λ l. l ++ rest4) (sym (flat_single held.content_line f.script)))),
    )

stuck_whole : (id : ℕ) (old new : LineState) → IsId id → IsStuck Whole old new → IsStuck (AreLinesOf (IsFixletOf id) fixlet_rest) old new
stuck_whole id old new good h = stuck_same Whole (AreLinesOf (IsFixletOf id) fixlet_rest) old new (there id good) (back id) h

-- the title isn't ahead
pub fixlet_title : (id : ℕ) (old new : LineState) → IsId id → (new ≡ old) × IsNotAhead IsRest title_line old → IsStuck (AreLinesOf (IsFixletOf id) fixlet_rest) old new
fixlet_title id old new good none =
    stuck_whole id old new good (stuck_first IsRest (single title_line) Behind4 old new title_one (λ v is. some4 v) (stuck_line IsRest title_line (codes "a") old new a_rest none))

-- the line of the success isn't ahead
pub fixlet_success : (id : ℕ) (title : List ℕ) (questions : List (List ℕ)) (old a b new : LineState) → IsId id → IsRest title → Passes old a (title_line title ∷ []) → TakesAll (Anywhere IsRest) relevance_line a b questions →
    (new ≡ b) × IsNotAhead IsSuccess success_line b → IsStuck (AreLinesOf (IsFixletOf id) fixlet_rest) old new
fixlet_success id title questions old a b new good is_title one two none =
    stuck_whole id old new good
    (stuck_behind IsRest (single title_line) Behind4 title old a new title_one is_title one
    (stuck_taken (known (Anywhere IsRest) relevance_line no_tail Behind3 relevance_one foreign4) questions a b new two
    (stuck_first IsSuccess (single success_line) Behind2 b new success_one (λ v is. some2 v) (stuck_line IsSuccess success_line success.Lines b new tt none))))

-- the last line isn't ahead
pub fixlet_end : (id : ℕ) (title : List ℕ) (questions : List (List ℕ)) (s : Success) (script : List (List ℕ)) (old a b d e new : LineState) → IsId id → IsRest title → Passes old a (title_line title ∷ []) → TakesAll (Anywhere IsRest) relevance_line a b questions →
    IsSuccess s → Passes b d (success_line s ∷ []) → TakesAll FitsScript held.content_line d e script → TakesExactly end_line e new false → IsStuck (AreLinesOf (IsFixletOf id) fixlet_rest) old new
fixlet_end id title questions s script old a b d e new good is_title one two is_s three four none =
    stuck_whole id old new good
    (stuck_behind IsRest (single title_line) Behind4 title old a new title_one is_title one
    (stuck_taken (known (Anywhere IsRest) relevance_line no_tail Behind3 relevance_one foreign4) questions a b new two
    (stuck_behind IsSuccess (single success_line) Behind2 s b d new success_one is_s three
    (stuck_taken (known FitsScript held.content_line no_tail Behind1 script_one foreign2) script d e new four (stuck_only end_line e new none)))))

-- all lines are
pub fixlet_whole : (id : ℕ) (title : List ℕ) (questions : List (List ℕ)) (s : Success) (script : List (List ℕ)) (old a b d e new : LineState) → IsId id → IsRest title → Passes old a (title_line title ∷ []) → TakesAll (Anywhere IsRest) relevance_line a b questions →
    IsSuccess s → Passes b d (success_line s ∷ []) → TakesAll FitsScript held.content_line d e script → TakesExactly end_line e new true →
    IsFixletOf id (fixlet_of id title questions s script) × Passes old new (fixlet_rest (fixlet_of id title questions s script))
fixlet_whole id title questions s script old a b d e new good is_title one two is_s three four last = (
  (
    record {
      id = good;
      title = is_title;
      relevance = each_all IsRest (Anywhere IsRest) (λ before v h. h) questions two.0;
      success = is_s;
      script = each_script script four.0;
    },
    refl,
  ),
  passes_then old a new (title_line title ∷ []) (map relevance_line questions ++ success_line s ∷ (map held.content_line script ++ end_line ∷ [])) one
      (passes_then a b new (map relevance_line questions) (success_line s ∷ (map held.content_line script ++ end_line ∷ [])) two.1
      (passes_then b d new (success_line s ∷ []) (map held.content_line script ++ end_line ∷ []) three
      (passes_then d e new (map held.content_line script) (end_line ∷ []) four.1 last))),
)

-- a fixlet is known by its lines, whatever follows
pub fixlet_one : (id : ℕ) → IsOneWay (IsFixletOf id) fixlet_rest
fixlet_one id f g x y (is, f_id) (fine, g_id) e =
    let m_f = map held.content_line f.script ++ end_line ∷ [] in
    let m_g = map held.content_line g.script ++ end_line ∷ [] in
    let title = title_one f.title g.title _ _ is.title fine.title e in
    let e1 : (map relevance_line f.relevance ++ success_line f.success ∷ m_f) ++ x ≡ (map relevance_line g.relevance ++ success_line g.success ∷ m_g) ++ y = cons_tail _ _ _ _ e in
    let e2 : flat_map (with_first relevance_line no_tail) f.relevance ++ (success_line f.success ∷ (m_f ++ x)) ≡ flat_map (with_first relevance_line no_tail) g.relevance ++ (success_line g.success ∷ (m_g ++ y)) =
    regroup (flat_single relevance_line f.relevance) (success_line f.success ∷ m_f) x (flat_single relevance_line g.relevance) (success_line g.success ∷ m_g) y e1 in
    let two = many_known (Anywhere IsRest) relevance_line no_tail f.relevance g.relevance (success_line f.success ∷ (m_f ++ x)) (success_line g.success ∷ (m_g ++ y)) relevance_one
    (all_each IsRest f.relevance is.relevance) (all_each IsRest g.relevance fine.relevance) (no_question f.success (m_f ++ x)) (no_question g.success (m_g ++ y)) e2 in
    let success = success_one f.success g.success _ _ is.success fine.success two.1 in
    let e3 : m_f ++ x ≡ m_g ++ y = cons_tail _ _ _ _ two.1 in
    let e4 : flat_map (with_first held.content_line no_tail) f.script ++ (end_line ∷ x) ≡ flat_map (with_first held.content_line no_tail) g.script ++ (end_line ∷ y) =
    regroup (flat_single held.content_line f.script) (end_line ∷ []) x (flat_single held.content_line g.script) (end_line ∷ []) y e3 in
    let four = many_known FitsScript held.content_line no_tail f.script g.script (end_line ∷ x) (end_line ∷ y) script_one
    (script_each f.script is.script) (script_each g.script fine.script) (no_content x) (no_content y) e4 in
    fixlet_is f g (f_id ∙ sym g_id) title two.0 success four.0
  where
    no_question : (s : Success) (rest : Lines) (before : List (List ℕ)) (v : List ℕ) (more : Lines) → Anywhere IsRest before v → success_line s ∷ rest ≡ relevance_line v ∷ more → ⊥
    no_question s rest before v more can e = success_not_relevance s v (cons_head (success_line s) (relevance_line v) rest more e)

    no_content : (rest : Lines) (before : List (List ℕ)) (v : List ℕ) (more : Lines) → FitsScript before v → end_line ∷ rest ≡ held.content_line v ∷ more → ⊥
    no_content rest before v more can e = end_not_content v (cons_head end_line (held.content_line v) rest more e)

    fixlet_is : (f g : Fixlet) → f.id ≡ g.id → f.title ≡ g.title → f.relevance ≡ g.relevance → f.success ≡ g.success → f.script ≡ g.script → f ≡ g
    fixlet_is f g a b c d h =
        ap (λ (x : ℕ). fixlet_of x f.title f.relevance f.success f.script) a ∙ ap (λ (x : List ℕ). fixlet_of g.id x f.relevance f.success f.script) b
        ∙ ap (λ (x : List (List ℕ)). fixlet_of g.id g.title x f.success f.script) c ∙ ap (λ (x : Success). fixlet_of g.id g.title g.relevance x f.script) d
        ∙ ap (λ (x : List (List ℕ)). fixlet_of g.id g.title g.relevance g.success x) h

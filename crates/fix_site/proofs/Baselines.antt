-- The lines of a baseline behind its first, part by part.
use Rattle.std.proofs.Common.{ℕ, ◌≡◌, ◌<◌, List, [], ◌∷◌, ◌++◌, length, refl, sym, ap, subst, ◌∙◌, arith, All, map, true, false}
use Rattle.std.specs.Prelude.{codes, flat_map}
use Rattle.std.proofs.lemmas.List.Elements.{All-nil, All-cons, All-head, All-tail}
use Rattle.line_forms.specs.Names.{IsRest}
use Rattle.line_forms.specs.LineStates.{LineState}
use Rattle.line_forms.specs.Readers.{Passes, AreLinesOf, IsStuck, EachCan, IsNotAhead, TakesAll, TakesExactly}
use Rattle.line_forms.specs.Numbers.{IsId}
use Rattle.line_forms.proofs.Passing.{cons_head, cons_tail, passes_then}
use Rattle.fix_site.specs.declared.baseline.Baseline.{Baseline}
use Rattle.fix_site.specs.declared.block.Block.{Block}
use Rattle.fix_site.specs.Actions.{end_line}
use Rattle.fix_site.specs.Contents.{title_line, relevance_line, component_line, baseline_rest}
use Rattle.fix_site.specs.Blocks.{HasFixlet}
use Rattle.fix_site.specs.Readings.{Anywhere, IsBaselineOf, IsComponent}
use Rattle.line_forms.proofs.Lasts.{each_all}
use Rattle.line_forms.proofs.Parts.{HasSome, IsOneWay, Lines, Only, Then, single, stuck_behind, stuck_first, stuck_line, stuck_only, stuck_same}
use Rattle.line_forms.proofs.Sequences.{EndsForeign, Many, OneWayBehind, each_more, each_none, flat_single, known, many_known, no_tail, stops_empty, stuck_taken, with_first}
use Rattle.fix_site.proofs.ListLemmas.{all_each, regroup}
use Rattle.fix_site.proofs.ContentLines.{a_rest, title_one, relevance_one, component_same, component_not_relevance, end_not_component}

abbrev baseline_of : ℕ → List ℕ → List (List ℕ) → List ℕ → Baseline
baseline_of id title relevance components = record { id = id; title = title; relevance = relevance; components = components }

abbrev Can : List Block → List ℕ → ℕ → Type 0
Can blocks = Anywhere (IsComponent blocks)

-- what follows the components, the questions and the title
abbrev Behind1 : List ℕ → Lines → Type 0
Behind1 components lines = (0 < length components) × (lines ≡ end_line ∷ [])

abbrev Behind2 : List Block → List (List ℕ) → Lines → Type 0
Behind2 blocks questions = Many (Can blocks) component_line no_tail Behind1

abbrev Behind3 : List Block → List ℕ → Lines → Type 0
Behind3 blocks title = Many (Anywhere IsRest) relevance_line no_tail (Behind2 blocks)

abbrev Whole : List Block → Lines → Type 0
Whole blocks = Then IsRest (single title_line) (Behind3 blocks)

some2 : (blocks : List Block) (component : ℕ) → IsComponent blocks component → (questions : List (List ℕ)) → HasSome (Behind2 blocks questions)
some2 blocks component is questions =
    (component_line component ∷ end_line ∷ [], (component ∷ [], end_line ∷ [], each_more (Can blocks) [] component (each_none (Can blocks)) is, (omega arith, refl), refl))

some3 : (blocks : List Block) (component : ℕ) → IsComponent blocks component → (title : List ℕ) → HasSome (Behind3 blocks title)
some3 blocks component is title =
    let s = some2 blocks component is [] in
    (s.0, ([], s.0, each_none (Anywhere IsRest), s.1, refl))

component_one : (blocks : List Block) → OneWayBehind (Can blocks) (with_first component_line no_tail)
component_one blocks before v w x y is fine e = component_same v w is.0 fine.0 (cons_head (component_line v) (component_line w) x y e)

foreign1 : (blocks : List Block) → EndsForeign (Can blocks) component_line Behind1
foreign1 blocks components rest is before v more can e = end_not_component v (cons_head end_line (component_line v) [] more (sym is.1 ∙ e))

first_component : (components : List ℕ) (rest lines : Lines) → 0 < length components → lines ≡ flat_map (with_first component_line no_tail) components ++ rest → (q : List ℕ) (more : Lines) → lines ≡ relevance_line q ∷ more → ⊥
first_component [] rest lines some h q more e = absurd (omega (arith, some))
first_component (c ∷ components) rest lines some h q more e =
    component_not_relevance c q (cons_head (component_line c) (relevance_line q) (flat_map (with_first component_line no_tail) components ++ rest) more (sym h ∙ e))

foreign2 : (blocks : List Block) → EndsForeign (Anywhere IsRest) relevance_line (Behind2 blocks)
foreign2 blocks questions lines (components, rest, each, (some, is), h) before v more can e = first_component components rest lines some h v more e

all_ids : (blocks : List Block) (components : List ℕ) → EachCan (Can blocks) components → All IsId components
all_ids blocks components each = each_all IsId (Can blocks) (λ before v h. h.0) components each

all_fixlets : (blocks : List Block) (components : List ℕ) → EachCan (Can blocks) components → All (HasFixlet blocks) components
all_fixlets blocks components each = each_all (HasFixlet blocks) (Can blocks) (λ before v h. h.1) components each

both : (blocks : List Block) (components : List ℕ) → All IsId components → All (HasFixlet blocks) components → All (IsComponent blocks) components
both blocks [] h k = All-nil (IsComponent blocks)
both blocks (c ∷ cs) h k =
    All-cons (IsComponent blocks) c cs (All-head IsId c cs h, All-head (HasFixlet blocks) c cs k)
    (both blocks cs (All-tail IsId c cs h) (All-tail (HasFixlet blocks) c cs k))

there : (blocks : List Block) (id : ℕ) → IsId id → (lines : Lines) → Whole blocks lines → AreLinesOf (IsBaselineOf blocks id) baseline_rest lines
there blocks id good lines (title, rest1, is_title, (questions, rest2, each, (components, rest3, can, (some, end), e3), e2), e1) = (
  baseline_of id title questions components,
  (
    record {
      id = good;
      title = is_title;
      relevance = each_all IsRest (Anywhere IsRest) (λ before v h. h) questions each;
      some = some;
      components = all_ids blocks components can;
    },
    all_fixlets blocks components can,
    refl,
  ),
  e1 ∙ ap (λ l. title_line title ∷ l) (e2 ∙ ap (λ l. l ++ rest2) (flat_single relevance_line questions)
      ∙ ap (λ l. map relevance_line questions ++ l) (e3 ∙ ap (λ l. l ++ rest3) (flat_single component_line components) ∙ ap (λ l. map component_line components ++ l) end)),
)

back : (blocks : List Block) (id : ℕ) (lines : Lines) → AreLinesOf (IsBaselineOf blocks id) baseline_rest lines → Whole blocks lines
back blocks id lines (b, (is, fixlets, same), e) =
    let rest3 = end_line ∷ [] in
    let rest2 = flat_map (with_first component_line no_tail) b.components ++ rest3 in
    let rest1 = flat_map (with_first relevance_line no_tail) b.relevance ++ rest2 in (
      b.title,
      rest1,
      is.title,
      (b.relevance, rest2, all_each IsRest b.relevance is.relevance, (b.components, rest3, all_each (IsComponent blocks) b.components (both blocks b.components is.components fixlets), (is.some, refl), refl), refl),
      e ∙ ap (λ l. title_line b.title ∷ l) (ap (λ l. l ++ (map component_line b.components ++ rest3)) (sym (flat_single relevance_line b.relevance))
          ∙ ap (λ l. flat_map (with_first relevance_line no_tail) b.relevance ++ l) (ap (λ l. l ++ rest3) (sym (flat_single component_line b.components)))),
    )

stuck_whole : (blocks : List Block) (id : ℕ) (old new : LineState) → IsId id → IsStuck (Whole blocks) old new → IsStuck (AreLinesOf (IsBaselineOf blocks id) baseline_rest) old new
stuck_whole blocks id old new good h = stuck_same (Whole blocks) (AreLinesOf (IsBaselineOf blocks id) baseline_rest) old new (there blocks id good) (back blocks id) h

-- the title isn't ahead
pub baseline_title : (blocks : List Block) (id : ℕ) (old new : LineState) → IsId id → ((component : ℕ) × IsComponent blocks component) → (new ≡ old) × IsNotAhead IsRest title_line old →
    IsStuck (AreLinesOf (IsBaselineOf blocks id) baseline_rest) old new
baseline_title blocks id old new good (component, is) none =
    stuck_whole blocks id old new good
    (stuck_first IsRest (single title_line) (Behind3 blocks) old new title_one (λ v _. some3 blocks component is v) (stuck_line IsRest title_line (codes "a") old new a_rest none))

-- no component is ahead
pub baseline_none : (blocks : List Block) (id : ℕ) (title : List ℕ) (questions : List (List ℕ)) (components : List ℕ) (old a b new : LineState) → IsId id → ((component : ℕ) × IsComponent blocks component) →
    IsRest title → Passes old a (title_line title ∷ []) → TakesAll (Anywhere IsRest) relevance_line a b questions → TakesAll (Can blocks) component_line b new components → components ≡ [] →
    IsStuck (AreLinesOf (IsBaselineOf blocks id) baseline_rest) old new
baseline_none blocks id title questions components old a b new good (component, is) is_title one two three none =
    let P : List ℕ → Type 0 = λ cs. TakesAll (Can blocks) component_line b new cs in
    let empty : TakesAll (Can blocks) component_line b new [] = subst P none three in
    stuck_whole blocks id old new good
    (stuck_behind IsRest (single title_line) (Behind3 blocks) title old a new title_one is_title one
    (stuck_taken (known (Anywhere IsRest) relevance_line no_tail (Behind2 blocks) relevance_one (foreign2 blocks)) questions a b new two
    ([], empty.1, stops_empty (Can blocks) component_line no_tail Behind1 new (some2 blocks component is questions) (λ rest h. omega (arith, h.0)) empty.2)))

-- the last line isn't ahead
pub baseline_end : (blocks : List Block) (id : ℕ) (title : List ℕ) (questions : List (List ℕ)) (components : List ℕ) (old a b d new : LineState) → IsId id → IsRest title → Passes old a (title_line title ∷ []) →
    TakesAll (Anywhere IsRest) relevance_line a b questions → TakesAll (Can blocks) component_line b d components → 0 < length components → TakesExactly end_line d new false →
    IsStuck (AreLinesOf (IsBaselineOf blocks id) baseline_rest) old new
baseline_end blocks id title questions components old a b d new good is_title one two three some none =
    stuck_whole blocks id old new good
    (stuck_behind IsRest (single title_line) (Behind3 blocks) title old a new title_one is_title one
    (stuck_taken (known (Anywhere IsRest) relevance_line no_tail (Behind2 blocks) relevance_one (foreign2 blocks)) questions a b new two
    (stuck_taken (known (Can blocks) component_line no_tail Behind1 (component_one blocks) (foreign1 blocks)) components b d new three
    (stuck_same (Only end_line) (Behind1 components) d new (λ lines h. (some, h)) (λ lines h. h.1) (stuck_only end_line d new none)))))

-- all lines are
pub baseline_whole : (blocks : List Block) (id : ℕ) (title : List ℕ) (questions : List (List ℕ)) (components : List ℕ) (old a b d new : LineState) → IsId id → IsRest title → Passes old a (title_line title ∷ []) →
    TakesAll (Anywhere IsRest) relevance_line a b questions → TakesAll (Can blocks) component_line b d components → 0 < length components → TakesExactly end_line d new true →
    IsBaselineOf blocks id (baseline_of id title questions components) × Passes old new (baseline_rest (baseline_of id title questions components))
baseline_whole blocks id title questions components old a b d new good is_title one two three some last = (
  (
    record {
      id = good;
      title = is_title;
      relevance = each_all IsRest (Anywhere IsRest) (λ before v h. h) questions two.0;
      some = some;
      components = all_ids blocks components three.0;
    },
    all_fixlets blocks components three.0,
    refl,
  ),
  passes_then old a new (title_line title ∷ []) (map relevance_line questions ++ (map component_line components ++ end_line ∷ [])) one
      (passes_then a b new (map relevance_line questions) (map component_line components ++ end_line ∷ []) two.1
      (passes_then b d new (map component_line components) (end_line ∷ []) three.1 last)),
)

-- a baseline is known by its lines, whatever follows
pub baseline_one : (blocks : List Block) (id : ℕ) → IsOneWay (IsBaselineOf blocks id) baseline_rest
baseline_one blocks id f g x y (is, fixlets, f_id) (fine, others, g_id) e =
    let m_f = map component_line f.components ++ end_line ∷ [] in
    let m_g = map component_line g.components ++ end_line ∷ [] in
    let title = title_one f.title g.title _ _ is.title fine.title e in
    let e1 : (map relevance_line f.relevance ++ m_f) ++ x ≡ (map relevance_line g.relevance ++ m_g) ++ y = cons_tail _ _ _ _ e in
    let e2 : flat_map (with_first relevance_line no_tail) f.relevance ++ (m_f ++ x) ≡ flat_map (with_first relevance_line no_tail) g.relevance ++ (m_g ++ y) =
    regroup (flat_single relevance_line f.relevance) m_f x (flat_single relevance_line g.relevance) m_g y e1 in
    let two = many_known (Anywhere IsRest) relevance_line no_tail f.relevance g.relevance (m_f ++ x) (m_g ++ y) relevance_one
    (all_each IsRest f.relevance is.relevance) (all_each IsRest g.relevance fine.relevance) (no_question f.components x is.some) (no_question g.components y fine.some) e2 in
    let e4 : flat_map (with_first component_line no_tail) f.components ++ (end_line ∷ x) ≡ flat_map (with_first component_line no_tail) g.components ++ (end_line ∷ y) =
    regroup (flat_single component_line f.components) (end_line ∷ []) x (flat_single component_line g.components) (end_line ∷ []) y two.1 in
    let four = many_known (Can blocks) component_line no_tail f.components g.components (end_line ∷ x) (end_line ∷ y) (component_one blocks)
    (all_each (IsComponent blocks) f.components (both blocks f.components is.components fixlets)) (all_each (IsComponent blocks) g.components (both blocks g.components fine.components others)) (no_component x) (no_component y) e4 in
    baseline_is f g (f_id ∙ sym g_id) title two.0 four.0
  where
    no_question : (components : List ℕ) (x : Lines) → 0 < length components → (before : List (List ℕ)) (v : List ℕ) (more : Lines) → Anywhere IsRest before v → (map component_line components ++ end_line ∷ []) ++ x ≡ relevance_line v ∷ more → ⊥
    no_question [] x some before v more can e = absurd (omega (arith, some))
    no_question (c ∷ components) x some before v more can e = component_not_relevance c v (cons_head (component_line c) (relevance_line v) _ more e)

    no_component : (rest : Lines) (before : List ℕ) (v : ℕ) (more : Lines) → Can blocks before v → end_line ∷ rest ≡ component_line v ∷ more → ⊥
    no_component rest before v more can e = end_not_component v (cons_head end_line (component_line v) rest more e)

    baseline_is : (f g : Baseline) → f.id ≡ g.id → f.title ≡ g.title → f.relevance ≡ g.relevance → f.components ≡ g.components → f ≡ g
    baseline_is f g a b c d =
        ap (λ (x : ℕ). baseline_of x f.title f.relevance f.components) a ∙ ap (λ (x : List ℕ). baseline_of g.id x f.relevance f.components) b
        ∙ ap (λ (x : List (List ℕ)). baseline_of g.id g.title x f.components) c ∙ ap (λ (x : List ℕ). baseline_of g.id g.title g.relevance x) d

-- The lines of a target, each as an item that can stand behind those before it.
use Rattle.std.proofs.Common.{ℕ, ◌≡◌, ◌<◌, List, [], ◌∷◌, ◌++◌, length, refl, sym, ap, subst, ◌∙◌, arith, All, map, None, false}
use Rattle.std.specs.Prelude.{codes, flat_map, Bool}
use Rattle.std.proofs.lemmas.List.{append_cancel_left}
use Rattle.std.proofs.lemmas.List.Elements.{All-nil, All-cons, All-head, All-tail}
use Rattle.line_forms.specs.Names.{IsName, IsRest}
use Rattle.line_forms.specs.Fields.{field_text}
use Rattle.line_forms.specs.LineStates.{LineState}
use Rattle.line_forms.specs.Readers.{Passes, EachCan, IsNotAhead, TakesAll, TakesExactly}
use Rattle.line_forms.proofs.Passing.{cons_head}
use Rattle.fix_site.specs.declared.action.Target.{Target}
use Rattle.fix_site.specs.declared.action.Target.TheVariants as target
use Rattle.fix_site.specs.Actions.{IsTarget, computer_line, where_line, target_lines}
use Rattle.fix_site.specs.Readings.{TakesTarget, IsTargetOver, Anywhere}
use Rattle.line_forms.proofs.Lasts.{all_at, each_all}
use Rattle.line_forms.proofs.Parts.{Lines, not_taken}
use Rattle.line_forms.proofs.Sequences.{OneWayBehind, each_more, each_none, no_tail, with_first}
use Rattle.fix_site.proofs.ContentLines.{apart}

-- one line of a target
pub data Item : Type 0 where
  all_item : Item
  computer_item : List ℕ → Item
  where_item : List ℕ → Item

abbrev pub item_line : Item → List ℕ
item_line all_item = codes "target all"
item_line (computer_item name) = computer_line name
item_line (where_item question) = where_line question

-- a computer of this target
abbrev IsComputerItem : Item → Type 0
IsComputerItem all_item = ⊥
IsComputerItem (computer_item name) = IsName name
IsComputerItem (where_item question) = ⊥

-- only a computer can stand behind other lines, which are computers
abbrev pub CanItem : List Item → Item → Type 0
CanItem before all_item = before ≡ []
CanItem before (computer_item name) = All IsComputerItem before × IsName name
CanItem before (where_item question) = (before ≡ []) × IsRest question

abbrev pub items_of : Target → List Item
items_of target.All = all_item ∷ []
items_of (target.Computers names) = map computer_item names
items_of (target.Where question) = where_item question ∷ []

-- the items of a target have its lines
computers_flat : (names : List (List ℕ)) → flat_map (with_first item_line no_tail) (map computer_item names) ≡ map computer_line names
computers_flat [] = refl
computers_flat (name ∷ names) = ap (λ l. computer_line name ∷ l) (computers_flat names)

pub items_flat : (t : Target) → flat_map (with_first item_line no_tail) (items_of t) ≡ target_lines t
items_flat target.All = refl
items_flat (target.Computers names) = computers_flat names
items_flat (target.Where question) = refl

computers_map : (names : List (List ℕ)) → map item_line (map computer_item names) ≡ map computer_line names
computers_map [] = refl
computers_map (name ∷ names) = ap (λ l. computer_line name ∷ l) (computers_map names)

items_map : (t : Target) → map item_line (items_of t) ≡ target_lines t
items_map target.All = refl
items_map (target.Computers names) = computers_map names
items_map (target.Where question) = refl

-- and can stand so
all_front : {V : Type 0} (P : V → Type 0) (before after : List V) → All P (before ++ after) → All P before
all_front P [] after h = All-nil P
all_front P (x ∷ before) after h = All-cons P x before (All-head P x (before ++ after) h) (all_front P before after (All-tail P x (before ++ after) h))

can_behind : (before : List Item) (v : Item) → All IsComputerItem before → IsComputerItem v → CanItem before v
can_behind before all_item h k = absurd k
can_behind before (computer_item name) h k = (h, k)
can_behind before (where_item question) h k = absurd k

computers_good : (names : List (List ℕ)) → All IsName names → All IsComputerItem (map computer_item names)
computers_good [] h = All-nil IsComputerItem
computers_good (name ∷ names) h =
    All-cons IsComputerItem (computer_item name) (map computer_item names) (All-head IsName name names h) (computers_good names (All-tail IsName name names h))

computers_can : (items : List Item) → All IsComputerItem items → EachCan CanItem items
computers_can items good before after v e =
    let P : List Item → Type 0 = All IsComputerItem in
    let all = subst P e good in
    can_behind before v (all_front IsComputerItem before (v ∷ after) all) (all_at IsComputerItem before after v all)

pub items_can : (t : Target) → IsTarget t → EachCan CanItem (items_of t)
items_can target.All is = each_more CanItem [] all_item (each_none CanItem) refl
items_can (target.Computers names) is = computers_can (map computer_item names) (computers_good names is.1)
items_can (target.Where question) is = each_more CanItem [] (where_item question) (each_none CanItem) (refl, is)

pub items_some : (t : Target) → IsTarget t → 0 < length (items_of t)
items_some target.All is = omega arith
items_some (target.Computers []) is = absurd (omega (arith, is.0))
items_some (target.Computers (name ∷ names)) is = omega arith
items_some (target.Where question) is = omega arith

-- no item can stand behind one of these
behind_all : (v : Item) → CanItem (all_item ∷ []) v → ⊥
behind_all all_item can = cc
behind_all (computer_item name) can = All-head IsComputerItem all_item [] can.0
behind_all (where_item question) (can, is) = cc

behind_where : (question : List ℕ) (v : Item) → CanItem (where_item question ∷ []) v → ⊥
behind_where question all_item can = cc
behind_where question (computer_item name) can = All-head IsComputerItem (where_item question) [] can.0
behind_where question (where_item other) (can, is) = cc

-- items that can stand so are those of a target
not_none : (done : List Item) → 0 < length done → done ≡ [] → ⊥
not_none [] some e = omega arith
not_none (x ∷ done) some e = cc

abbrev AreComputers : List Item → Type 0
AreComputers items = (names : List (List ℕ)) × All IsName names × (items ≡ map computer_item names)

computers_from : (done left : List Item) → 0 < length done → EachCan CanItem (done ++ left) → AreComputers left
computers_from done [] some each = ([], All-nil IsName, refl)
computers_from done (all_item ∷ left) some each = absurd (not_none done some (each done left all_item refl))
computers_from done (where_item question ∷ left) some each = absurd (not_none done some (each done left (where_item question) refl).0)
computers_from done (computer_item name ∷ left) some each =
    let E : List Item → Type 0 = EachCan CanItem in
    let more : 0 < length (done ++ computer_item name ∷ []) = longer done (computer_item name) some in
    let rest = computers_from (done ++ computer_item name ∷ []) left more (subst E (sym (regrouped done (computer_item name) left)) each) in
    let good = (each done left (computer_item name) refl).1 in
    (name ∷ rest.0, All-cons IsName name rest.0 good rest.1, ap (λ l. computer_item name ∷ l) rest.2)
  where
    longer : (done : List Item) (v : Item) → 0 < length done → 0 < length (done ++ v ∷ [])
    longer [] v some = omega arith
    longer (x ∷ done) v some = omega arith

    regrouped : (done : List Item) (v : Item) (left : List Item) → (done ++ v ∷ []) ++ left ≡ done ++ v ∷ left
    regrouped [] v left = refl
    regrouped (x ∷ done) v left = ap (λ l. x ∷ l) (regrouped done v left)

abbrev pub AreItems : List Item → Type 0
AreItems items = (t : Target) × IsTarget t × (items ≡ items_of t)

pub items_from : (items : List Item) → EachCan CanItem items → 0 < length items → AreItems items
items_from [] each some = absurd (omega arith)
items_from (all_item ∷ []) each some = (target.All, tt, refl)
items_from (all_item ∷ v ∷ rest) each some = absurd (behind_all v (each (all_item ∷ []) rest v refl))
items_from (where_item question ∷ []) each some = (target.Where question, (each [] [] (where_item question) refl).1, refl)
items_from (where_item question ∷ v ∷ rest) each some = absurd (behind_where question v (each (where_item question ∷ []) rest v refl))
items_from (computer_item name ∷ rest) each some =
    let found = computers_from (computer_item name ∷ []) rest (omega arith) each in
    let good = (each [] rest (computer_item name) refl).1 in
    (target.Computers (name ∷ found.0), (omega arith, All-cons IsName name found.0 good found.1), ap (λ l. computer_item name ∷ l) found.2)

-- a target is known by its items
computers_same : (v w : List (List ℕ)) → map computer_item v ≡ map computer_item w → v ≡ w
computers_same [] [] e = refl
computers_same [] (y ∷ w) e = cc
computers_same (x ∷ v) [] e = cc
computers_same (x ∷ v) (y ∷ w) e =
    let first : x ≡ y = cc in
    let rest : map computer_item v ≡ map computer_item w = cc in
    ap (λ z. z ∷ v) first ∙ ap (λ l. y ∷ l) (computers_same v w rest)

all_not_computers : (names : List (List ℕ)) → all_item ∷ [] ≡ map computer_item names → ⊥
all_not_computers [] e = cc
all_not_computers (name ∷ names) e = cc

where_not_computers : (question : List ℕ) (names : List (List ℕ)) → where_item question ∷ [] ≡ map computer_item names → ⊥
where_not_computers question [] e = cc
where_not_computers question (name ∷ names) e = cc

pub items_same : (t u : Target) → items_of t ≡ items_of u → t ≡ u
items_same target.All target.All e = refl
items_same target.All (target.Computers names) e = absurd (all_not_computers names e)
items_same target.All (target.Where question) e = cc
items_same (target.Computers names) target.All e = absurd (all_not_computers names (sym e))
items_same (target.Computers names) (target.Computers others) e = ap (λ (l : List (List ℕ)). let t : Target = target.Computers l in t) (computers_same names others e)
items_same (target.Computers names) (target.Where question) e = absurd (where_not_computers question names (sym e))
items_same (target.Where question) target.All e = cc
items_same (target.Where question) (target.Computers names) e = absurd (where_not_computers question names e)
items_same (target.Where question) (target.Where other) e =
    let same : question ≡ other = cc in
    ap (λ (l : List ℕ). let t : Target = target.Where l in t) same

-- an item is known by its line
item_same : (v w : Item) → item_line v ≡ item_line w → v ≡ w
item_same all_item all_item e = refl
item_same all_item (computer_item n) e = absurd (apart 7 97 (item_line all_item) (item_line (computer_item n)) refl refl e)
item_same all_item (where_item q) e = absurd (apart 7 97 (item_line all_item) (item_line (where_item q)) refl refl e)
item_same (computer_item n) all_item e = absurd (apart 7 99 (item_line (computer_item n)) (item_line all_item) refl refl e)
item_same (computer_item m) (computer_item n) e = ap computer_item (append_cancel_left (field_text (codes "target computer")) m n e)
item_same (computer_item n) (where_item q) e = absurd (apart 7 99 (item_line (computer_item n)) (item_line (where_item q)) refl refl e)
item_same (where_item q) all_item e = absurd (apart 7 119 (item_line (where_item q)) (item_line all_item) refl refl e)
item_same (where_item q) (computer_item n) e = absurd (apart 7 119 (item_line (where_item q)) (item_line (computer_item n)) refl refl e)
item_same (where_item p) (where_item q) e = ap where_item (append_cancel_left (field_text (codes "target where")) p q e)

pub item_one : OneWayBehind CanItem (with_first item_line no_tail)
item_one before v w x y is fine e = item_same v w (cons_head (item_line v) (item_line w) x y e)

-- a target was taken as far as it goes
over : (t : Target) (new : LineState) → IsTarget t → IsTargetOver t new → IsNotAhead (CanItem (items_of t)) item_line new
over target.All new is none v more can e = behind_all v can
over (target.Where question) new is none v more can e = behind_where question v can
over (target.Computers names) new is none all_item more can e =
    not_none (map computer_item names) (items_some (target.Computers names) is) can
over (target.Computers names) new is none (computer_item name) more can e = none name more can.1 e
over (target.Computers names) new is none (where_item question) more can e =
    not_none (map computer_item names) (items_some (target.Computers names) is) can.0

pub takes_items : (old new : LineState) (t : Target) → IsTarget t → Passes old new (target_lines t) → IsTargetOver t new → TakesAll CanItem item_line old new (items_of t)
takes_items old new t is passes none =
    let P : Lines → Type 0 = λ l. Passes old new l in
    (items_can t is, subst P (sym (items_map t)) passes, over t new is none)

-- no line of a target is ahead
pub no_item : (old new : LineState) → old.lines ≡ new.lines → ((t : Target) (more : Lines) → IsTarget t → ¬ (old.lines ≡ target_lines t ++ more)) → IsNotAhead (CanItem []) item_line new
no_item old new same none all_item more can e = none target.All more tt (same ∙ e)
no_item old new same none (computer_item name) more can e = none (target.Computers (name ∷ [])) more (omega arith, All-cons IsName name [] can.1 (All-nil IsName)) (same ∙ e)
no_item old new same none (where_item question) more can e = none (target.Where question) more can.1 (same ∙ e)

-- the lines of a target, one kind after another
pub where_taken : (old a new : LineState) (taken : Bool) (question : List ℕ) → TakesExactly (codes "target all") old a taken → taken ≡ false → Passes a new (where_line question ∷ []) → Passes old new (where_line question ∷ [])
where_taken old a new taken question takes is passes =
    let P : LineState → Type 0 = λ s. Passes s new (where_line question ∷ []) in
    subst P (not_taken (codes "target all") old a taken takes is).0 passes

pub computers_taken : (old a b new : LineState) (taken : Bool) (names : List (List ℕ)) → TakesExactly (codes "target all") old a taken → taken ≡ false → (b ≡ a) × IsNotAhead IsRest where_line a →
    TakesAll (Anywhere IsName) computer_line b new names → 0 < length names → IsTarget (target.Computers names) × Passes old new (map computer_line names) × IsNotAhead IsName computer_line new
computers_taken old a b new taken names takes is none all some =
    let P : LineState → Type 0 = λ s. Passes s new (map computer_line names) in
    let good : IsTarget (target.Computers names) = (some, each_all IsName (Anywhere IsName) (λ before v h. h) names all.0) in
    (good, subst P (none.0 ∙ (not_taken (codes "target all") old a taken takes is).0) all.1, λ v more is e. all.2 v more is e)

pub no_target : (old a b new : LineState) (taken : Bool) (names : List (List ℕ)) → TakesExactly (codes "target all") old a taken → taken ≡ false → (b ≡ a) × IsNotAhead IsRest where_line a →
    TakesAll (Anywhere IsName) computer_line b new names → names ≡ [] → TakesTarget old new None
no_target old a b new taken names takes is none all nothing =
    let one = not_taken (codes "target all") old a taken takes is in
    let P : List (List ℕ) → Type 0 = λ ns. TakesAll (Anywhere IsName) computer_line b new ns in
    let Q : LineState → Type 0 = λ s. TakesAll (Anywhere IsName) computer_line s new [] in
    let empty = subst Q (none.0 ∙ one.0) (subst P nothing all) in
    let start : a.lines ≡ old.lines = ap (λ (s : LineState). s.lines) one.0 in
    (empty.1, only one.1 (λ q more is e. none.1 q more is (start ∙ e)) (λ n more is e. empty.2 n more is (sym empty.1.0 ∙ e)))
  where
    only : ((more : Lines) → old.lines ≡ codes "target all" ∷ more → ⊥) → IsNotAhead IsRest where_line old → IsNotAhead IsName computer_line old → (t : Target) (more : Lines) → IsTarget t → old.lines ≡ target_lines t ++ more → ⊥
    only no_all no_where no_name target.All more is e = no_all more e
    only no_all no_where no_name (target.Where question) more is e = no_where question more is e
    only no_all no_where no_name (target.Computers []) more is e = absurd (omega (arith, is.0))
    only no_all no_where no_name (target.Computers (name ∷ names)) more is e = no_name name (map computer_line names ++ more) (All-head IsName name names is.1) e

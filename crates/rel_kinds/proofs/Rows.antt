-- Each row of the tables gives what it says, and a head's row is one of these.
use Rattle.std.proofs.Common.{◌≡◌, ℕ, ℤ, Bool, true, false, ◌&&◌, ◌||◌, List, [], ◌∷◌, ◌++◌, find, All, Option, Some, None, option_map, refl, sym, ap, subst, ◌∙◌}
use Rattle.std.specs.Prelude.{option_and_then, if◌then◌else◌, codes}
use Rattle.std.specs.Str.{bytes_eq}
use Rattle.std.proofs.lemmas.List.Elements.{All-head, All-tail, All-append}
use Rattle.rel_lexer.specs.declared.place.Place.{Place}
use Rattle.bf_world.specs.Worlds.{WorldState}
use Rattle.rel_value.specs.declared.property.PropertyId.{PropertyId}
use Rattle.rel_value.specs.declared.property.PropertyId.TheVariants as id
use Rattle.rel_value.specs.Plain.{Plain, integer, PlainKind, booleans, integers, texts, text_parts, times, intervals, versions, files, folders, clients, settings, processes, packages, systems, actions, tuples, PlainKinds, kind_of}
use Rattle.rel_types.specs.declared.head.Aggregate.{Aggregate}
use Rattle.rel_types.specs.declared.head.Aggregate.TheVariants as aggregate
use Rattle.rel_types.specs.declared.head.Head.{Head}
use Rattle.rel_types.specs.declared.head.Head.TheVariants as head
use Rattle.rel_types.specs.Plans.{HeldNode, no_node, a_node, held_kind, kind_of as node_kind}
use Rattle.rel_types.specs.Rows.{Row, Asked, admits, fits, given_by, kind_list, are_words}
use Rattle.rel_types.specs.Properties.{property_rows}
use Rattle.rel_types.specs.Aggregates.{aggregate_rows}
use Rattle.rel_types.specs.Heads.{Headed, row_head, first_row, literal_number, item_kind, item_head, kind_at, part_kinds, head_of}
use Rattle.rel_sources.specs.declared.scene.Scene.{Scene}
use Rattle.rel_inspect.specs.Props.{prop}
use Rattle.rel_trace.specs.Trace.{Trace}
use Rattle.rel_nodes.specs.Meaning.{placed, fold_of, aggregated}
use Rattle.rel_kinds.specs.Giving.{GivesKind, GivesOne, IsThere}
use Rattle.rel_kinds.specs.RowPromises.{AggregateKeeps, HeadKeeps, RowKeeps}
use Rattle.rel_kinds.proofs.Properties.{property-keeps, item-keeps, item-one}
use Rattle.rel_kinds.proofs.Folds as folds
use Rattle.rel_kinds.proofs.Folds.{full_kind}
use Rattle.rel_kinds.proofs.Asked.{Each, ◌▹◌, each-all, asked-integers, asked-intervals, asked-times, asked-versions, asked-booleans, asked-texts}
use Rattle.rel_kinds.proofs.Basics.{some_same, none_some, false_true, both}

-- ---- the rows, one by one

rows-keep : Each RowKeeps property_rows
unfolding property_rows
rows-keep =
    property-keeps id.True booleans refl
    ▹ property-keeps id.False booleans refl
    ▹ property-keeps id.Second intervals refl
    ▹ property-keeps id.Minute intervals refl
    ▹ property-keeps id.Hour intervals refl
    ▹ property-keeps id.Day intervals refl
    ▹ property-keeps id.Now times refl
    ▹ property-keeps id.FileAt files refl
    ▹ property-keeps id.FolderAt folders refl
    ▹ property-keeps id.FileNamed files refl
    ▹ property-keeps id.FolderNamed folders refl
    ▹ property-keeps id.File files refl
    ▹ property-keeps id.Folder folders refl
    ▹ property-keeps id.Descendant files refl
    ▹ property-keeps id.Name texts refl
    ▹ property-keeps id.Pathname texts refl
    ▹ property-keeps id.Size integers refl
    ▹ property-keeps id.ModificationTime times refl
    ▹ property-keeps id.Line texts refl
    ▹ property-keeps id.LineAt texts refl
    ▹ property-keeps id.LineContaining texts refl
    ▹ property-keeps id.Sha1 texts refl
    ▹ property-keeps id.Sha256 texts refl
    ▹ property-keeps id.OperatingSystem systems refl
    ▹ property-keeps id.ComputerName texts refl
    ▹ property-keeps id.Process processes refl
    ▹ property-keeps id.Package packages refl
    ▹ property-keeps id.Version versions refl
    ▹ property-keeps id.Client clients refl
    ▹ property-keeps id.Action actions refl
    ▹ property-keeps id.Setting settings refl
    ▹ property-keeps id.Value texts refl
    ▹ property-keeps id.EffectiveDate times refl
    ▹ property-keeps id.IntegerIn integers refl
    ▹ property-keeps id.Length integers refl
    ▹ property-keeps id.First text_parts refl
    ▹ property-keeps id.Last text_parts refl
    ▹ property-keeps id.PrecedingText texts refl
    ▹ property-keeps id.FollowingText texts refl
    ▹ property-keeps id.SubstringSeparatedBy texts refl
    ▹ property-keeps id.Parameter texts refl
    ▹ property-keeps id.ExitCode integers refl
    ▹ tt

pub properties-keep : All RowKeeps property_rows
properties-keep = each-all RowKeeps RowKeeps (λ row h. h) property_rows rows-keep

of_kind : (t : Trace) (l k : PlainKind) → l ≡ k → GivesKind l t → GivesKind k t
of_kind t l k h e = subst (λ j. GivesKind j t) h e

concatenation-keeps : (argument : HeldNode) (separator : Option Plain) (p : Place) (l : PlainKind) (t : Trace) → GivesKind l t → GivesKind texts (aggregated (fold_of aggregate.Concatenation texts argument) p separator t)
concatenation-keeps no_node separator p l t e = folds.concatenation-kind l separator p t e
concatenation-keeps (a_node n) separator p l t e = folds.separated-kind l separator p t e

-- a maximum or a minimum gives values of the kind of its object, in full
greatest : (k l : PlainKind) → full_kind l ≡ k → (argument : HeldNode) (separator : Option Plain) (p : Place) (t : Trace) → GivesKind l t → GivesKind k (aggregated (fold_of aggregate.Maximum k argument) p separator t)
greatest k l f argument separator p t e = of_kind (aggregated (fold_of aggregate.Maximum k argument) p separator t) (full_kind l) k f (folds.maximum-kind l separator p t e)

least : (k l : PlainKind) → full_kind l ≡ k → (argument : HeldNode) (separator : Option Plain) (p : Place) (t : Trace) → GivesKind l t → GivesKind k (aggregated (fold_of aggregate.Minimum k argument) p separator t)
least k l f argument separator p t e = of_kind (aggregated (fold_of aggregate.Minimum k argument) p separator t) (full_kind l) k f (folds.minimum-kind l separator p t e)

sums-keep : Each RowKeeps aggregate_rows
unfolding aggregate_rows
sums-keep =
    (refl, λ l a argument separator p t e. folds.number-kind l separator p t e)
    ▹ (refl, λ l a argument separator p t e. folds.integer_sum-kind separator p t (of_kind t l integers (asked-integers l a) e))
    ▹ (refl, λ l a argument separator p t e. folds.interval_sum-kind separator p t (of_kind t l intervals (asked-intervals l a) e))
    ▹ (refl, λ l a argument separator p t e. greatest integers l (ap full_kind (asked-integers l a)) argument separator p t e)
    ▹ (refl, λ l a argument separator p t e. greatest intervals l (ap full_kind (asked-intervals l a)) argument separator p t e)
    ▹ (refl, λ l a argument separator p t e. greatest times l (ap full_kind (asked-times l a)) argument separator p t e)
    ▹ (refl, λ l a argument separator p t e. greatest versions l (ap full_kind (asked-versions l a)) argument separator p t e)
    ▹ (refl, λ l a argument separator p t e. greatest texts l (asked-texts l a) argument separator p t e)
    ▹ (refl, λ l a argument separator p t e. least integers l (ap full_kind (asked-integers l a)) argument separator p t e)
    ▹ (refl, λ l a argument separator p t e. least intervals l (ap full_kind (asked-intervals l a)) argument separator p t e)
    ▹ (refl, λ l a argument separator p t e. least times l (ap full_kind (asked-times l a)) argument separator p t e)
    ▹ (refl, λ l a argument separator p t e. least versions l (ap full_kind (asked-versions l a)) argument separator p t e)
    ▹ (refl, λ l a argument separator p t e. least texts l (asked-texts l a) argument separator p t e)
    ▹ (refl, λ l a argument separator p t e. folds.conjunction-kind separator p t (of_kind t l booleans (asked-booleans l a) e))
    ▹ (refl, λ l a argument separator p t e. folds.disjunction-kind separator p t (of_kind t l booleans (asked-booleans l a) e))
    ▹ (refl, λ l a argument separator p t e. concatenation-keeps argument separator p l t e)
    ▹ tt

pub aggregates-keep : All RowKeeps aggregate_rows
aggregates-keep = each-all RowKeeps RowKeeps (λ row h. h) aggregate_rows sums-keep

-- ---- what words stand for

first-or : {A : Type 0} (P : A → Type 0) (test : A → Bool) (y x : A) (b : Bool) (rest : Option A) → test y ≡ b → P y → (rest ≡ Some x → P x × (test x ≡ true)) → (if b then Some y else rest) ≡ Some x → P x × (test x ≡ true)
first-or P test y x true rest e p k h = let q = some_same y x h in (subst P q p, subst (λ z. test z ≡ true) q e)
first-or P test y x false rest e p k h = k h

find-keeps : {A : Type 0} (P : A → Type 0) (test : A → Bool) (xs : List A) (x : A) → All P xs → find test xs ≡ Some x → P x × (test x ≡ true)
find-keeps P test [] x a h = absurd (none_some x h)
find-keeps P test (y ∷ ys) x a h =
    first-or P test y x (test y) (find test ys) refl (All-head P y ys a) (λ g. find-keeps P test ys x (All-tail P y ys a) g) h

-- the part of a tuple with a number
abbrev IsItem : HeldNode → HeldNode → Headed → Type 0
IsItem a o h = (h.head ≡ head.Property id.Item) × (item_kind (literal_number a) (held_kind o) ≡ Some h.kind)

-- what a row of the tables says, for an object that it asks for
abbrev IsRow : HeldNode → Headed → Type 0
IsRow o h = (asked : Asked) × HeadKeeps h.head asked h.kind × (admits asked (given_by (held_kind o)) ≡ true)

three : {C : Type 0} (b c : Bool) (x y z r : Option Headed) → (if b then x else (if c then y else z)) ≡ r → (x ≡ r → C) → (y ≡ r → C) → (z ≡ r → C) → C
three true c x y z r h f g k = f h
three false true x y z r h f g k = g h
three false false x y z r h f g k = k h

item-is : (plural : Bool) (m : Option PlainKind) (h : Headed) → item_head plural m ≡ Some h → (h.head ≡ head.Property id.Item) × (m ≡ Some h.kind)
item-is plural None h e = absurd (none_some h e)
item-is plural (Some k) h e =
    let q = some_same (record { head = head.Property id.Item; plural = plural; kind = k }) h e in (sym (ap (λ (x : Headed). x.head) q), ap (λ (x : Headed). Some x.kind) q)

row-is : (words : List ℕ) (a o : HeldNode) (r : Option Row) (h : Headed) → first_row words (given_by (held_kind a)) (given_by (held_kind o)) ≡ r → option_map (row_head words) r ≡ Some h → IsRow o h
row-is words a o None h f e = absurd (none_some h e)
row-is words a o (Some row) h f e =
    let test : Row → Bool = fits words (given_by (held_kind a)) (given_by (held_kind o)) in
    let k = find-keeps RowKeeps test (property_rows ++ aggregate_rows) row (All-append RowKeeps property_rows aggregate_rows properties-keep aggregates-keep) f in
    let b = both (bytes_eq row.singular words || are_words words row.plural) (admits row.argument (given_by (held_kind a)) && admits row.object (given_by (held_kind o))) k.1 in
    let c = both (admits row.argument (given_by (held_kind a))) (admits row.object (given_by (held_kind o))) b.1 in
    (row.object, subst (λ (x : Headed). HeadKeeps x.head row.object x.kind) (some_same (row_head words row) h e) k.0, c.1)

head-cases : {C : Type 0} (words : List ℕ) (a o : HeldNode) (h : Headed) → head_of words a o ≡ Some h → (IsItem a o h → C) → (IsRow o h → C) → C
unfolding head_of
head-cases words a o h e item row =
    three (bytes_eq words (codes "item")) (bytes_eq words (codes "items"))
    (item_head false (item_kind (literal_number a) (held_kind o))) (item_head true (item_kind (literal_number a) (held_kind o)))
    (option_map (row_head words) (first_row words (given_by (held_kind a)) (given_by (held_kind o)))) (Some h) e
    (λ g. item (item-is false (item_kind (literal_number a) (held_kind o)) h g))
    (λ g. item (item-is true (item_kind (literal_number a) (held_kind o)) h g))
    (λ g. row (row-is words a o (first_row words (given_by (held_kind a)) (given_by (held_kind o))) h refl g))

-- ---- properties

-- an argument that is a number itself has this value
abbrev pub IsStated : HeldNode → Option Plain → Type 0
IsStated a x = (n : ℤ) → literal_number a ≡ Some n → x ≡ Some (integer n)

-- a number and a tuple that has a part of this number
abbrev HasPart : Option ℤ → Option PlainKind → PlainKind → Type 0
HasPart number object k = (n : ℤ) × (ks : PlainKinds) × (number ≡ Some n) × (object ≡ Some (tuples ks)) × (kind_at n (kind_list ks) ≡ Some k)

part-of : (n : ℤ) (o k : PlainKind) → option_and_then (kind_at n) (part_kinds o) ≡ Some k → HasPart (Some n) (Some o) k
part-of n (tuples ks) k h = (n, ks, refl, refl, h)
part-of n _ k h = absurd (none_some k h)

has-part : (number : Option ℤ) (object : Option PlainKind) (k : PlainKind) → item_kind number object ≡ Some k → HasPart number object k
has-part None object k h = absurd (none_some k h)
has-part (Some n) None k h = absurd (none_some k h)
has-part (Some n) (Some o) k h = part-of n o k h

item-there : (k : PlainKind) (n : ℤ) (ks : PlainKinds) (v : Option Plain) → kind_at n (kind_list ks) ≡ Some k → IsThere (Some (tuples ks)) v → (p : Place) (w : WorldState) (s : Scene) → GivesKind k (placed p (prop id.Item (Some (integer n)) v w s))
item-there k n ks None h e p w s = absurd e
item-there k n ks (Some y) h e p w s = item-keeps k n ks y h e p w s

-- `item` gives one value, of the kind of the part that its number names
pub numbered-keeps : (n : ℤ) (v : Plain) (k : PlainKind) → item_kind (Some n) (Some (kind_of v)) ≡ Some k → (p : Place) (w : WorldState) (s : Scene) → GivesKind k (placed p (prop id.Item (Some (integer n)) (Some v) w s)) × GivesOne (placed p (prop id.Item (Some (integer n)) (Some v) w s))
numbered-keeps n v k e p w s =
    let q = has-part (Some n) (Some (kind_of v)) k e in
    let P : Option Plain → Type 0 = λ y. GivesKind k (placed p (prop id.Item y (Some v) w s)) × GivesOne (placed p (prop id.Item y (Some v) w s)) in
    let t = some_same (kind_of v) (tuples q.1) q.3 in
    subst P (ap (option_map integer) (sym q.2)) (item-keeps k q.0 q.1 v q.4 t p w s, item-one k q.0 q.1 v q.4 t p w s)

abbrev property_of : Head → PropertyId
property_of (head.Property i) = i
property_of (head.Aggregate g) = id.True

abbrev is_property : Head → Bool
is_property (head.Property i) = true
is_property (head.Aggregate g) = false

-- a property that words stand for, with an argument and an object of the kinds that it was found with
pub property-head : (words : List ℕ) (a o : HeldNode) (i : PropertyId) (plural : Bool) (k : PlainKind) → head_of words a o ≡ Some (record { head = head.Property i; plural = plural; kind = k }) → (x v : Option Plain) → IsStated a x → IsThere (held_kind o) v → (p : Place) (w : WorldState) (s : Scene) → GivesKind k (placed p (prop i x v w s))
property-head words a o i plural k h x v stated there p w s =
    head-cases words a o (record { head = head.Property i; plural = plural; kind = k }) h
    (λ e. let q = has-part (literal_number a) (held_kind o) k e.1 in
    subst (λ j. GivesKind k (placed p (prop j x v w s))) (sym (ap property_of e.0))
    (subst (λ y. GivesKind k (placed p (prop id.Item y v w s))) (sym (stated q.0 q.2))
    (item-there k q.0 q.1 v q.4 (subst (λ j. IsThere j v) q.3 there) p w s)))
    (λ e. e.1 p x v w s)

-- ---- aggregates

-- all values of the object have its kind
abbrev pub Gathers : HeldNode → Trace → Type 0
Gathers no_node t = Unit {0}
Gathers (a_node n) t = GivesKind (node_kind n) t

gathered-keeps : (g : Aggregate) (asked : Asked) (k : PlainKind) (o a : HeldNode) (x : Option Plain) (p : Place) (t : Trace) → AggregateKeeps g asked k → admits asked (given_by (held_kind o)) ≡ true → Gathers o t → GivesKind k (aggregated (fold_of g k a) p x t)
gathered-keeps g asked k no_node a x p t h e q = absurd (false_true (sym h.0 ∙ e))
gathered-keeps g asked k (a_node n) a x p t h e q = h.1 (node_kind n) e a x p t q

pub aggregate-head : (words : List ℕ) (a o : HeldNode) (g : Aggregate) (plural : Bool) (k : PlainKind) → head_of words a o ≡ Some (record { head = head.Aggregate g; plural = plural; kind = k }) → (x : Option Plain) (p : Place) (t : Trace) → Gathers o t → GivesKind k (aggregated (fold_of g k a) p x t)
aggregate-head words a o g plural k h x p t q =
    head-cases words a o (record { head = head.Aggregate g; plural = plural; kind = k }) h
    (λ e. absurd (false_true (ap is_property e.0)))
    (λ e. gathered-keeps g e.0 k o a x p t e.1 e.2 q)

-- Tuples that are put together in halves are those of all parts.
use Rattle.std.proofs.Common.{◌≡◌, ℕ, ◌+◌, ◌-◌, ◌<◌, ◌≤◌, List, [], ◌∷◌, ◌++◌, length, get_or, take, drop, map, refl, sym, ap, ◌∙◌, subst, arith, append_assoc, Option, take-add, take_all, drop-drop, length-take-le, length-drop}
use Rattle.std.proofs.lemmas.List.{append-nil, length-append, map-append, length-map, take-map, drop-map, take_more}
use Rattle.rel_lexer.specs.declared.place.Place.{Place}
use Rattle.bf_world.specs.Worlds.{WorldState}
use Rattle.rel_value.specs.Plain.{Plain, tuple, Parts, no_parts, more_parts}
use Rattle.rel_types.specs.declared.node.Node.{Node}
use Rattle.rel_types.specs.declared.node.NodeList.{NodeList}
use Rattle.rel_types.specs.Plans.{PlainNode, Nodes, no_nodes, more_nodes}
use Rattle.rel_types.specs.Views.{listed, node_items, shown_node, shown_nodes}
use Rattle.rel_sources.specs.declared.scene.Scene.{Scene}
use Rattle.rel_trace.specs.declared.joining.Joining.{Joining}
use Rattle.rel_trace.specs.declared.joining.Joining.TheVariants.{Pair, Push, Append}
use Rattle.rel_trace.specs.Joins.{parts_then, tied, tupled}
use Rattle.rel_trace.specs.Scopes.{Around, with_left}
use Rattle.rel_trace.specs.Trace.{Trace, none, one, each, turned, result_at}
use Rattle.rel_nodes.specs.declared.tuples.Section.{Section}
use Rattle.rel_nodes.specs.Core.{Core, Alike, core, core_of, tuple_core}
use Rattle.rel_nodes.specs.Meaning.{joining, last_behind, mean, tuple_mean}
use Rattle.rel_nodes.specs.Nodes.{boxed_shape}
use Rattle.rel_nodes.specs.Spans.{span_of_node}
use Rattle.rel_nodes.specs.Tuples.{TracedPart, spread, tuples, traced, traces, AreLeftless, GivesTuples, EndsAt, IsCommaOf, IsTupleOf}
use Rattle.rel_nodes.proofs.Compositions.{each_each, follow_none}
use Rattle.rel_nodes.proofs.Lists.{nodes-out}
use Rattle.rel_nodes.proofs.Means.{means, tuple_means}

-- ---- traces

-- parts before all tuples
spread_before : (f : Plain → Trace) (qs rs : Parts) (x : TracedPart) (xs : List TracedPart) → ((ps : Parts) → f (tuple ps) ≡ one (tuple (parts_then qs ps))) → each (spread rs x xs) f ≡ spread (parts_then qs rs) x xs
spread_before f qs rs x [] h =
    each_each x.trace (λ v. one (tuple (more_parts rs v))) f
    ∙ ap (each x.trace) (λ i v. (follow_none (f (tuple (more_parts rs v))) ∙ h (more_parts rs v)) i)
spread_before f qs rs x (y ∷ ys) h =
    each_each x.trace (λ v. turned x.span (spread (more_parts rs v) y ys)) f
    ∙ ap (each x.trace) (λ i v. turned x.span (spread_before f qs (more_parts rs v) y ys h i))

-- further parts behind all tuples
spread_behind : (f : Plain → Trace) (p : Place) (rs : Parts) (x : TracedPart) (xs : List TracedPart) (y : TracedPart) (ys : List TracedPart) → EndsAt (λ (t : TracedPart). t.span) p (x ∷ xs) → ((ps : Parts) → f (tuple ps) ≡ turned p (spread ps y ys))
    → each (spread rs x xs) f ≡ spread rs x (xs ++ y ∷ ys)
spread_behind f p rs x [] y ys e h =
    each_each x.trace (λ v. one (tuple (more_parts rs v))) f
    ∙ ap (each x.trace) (λ i v. (follow_none (f (tuple (more_parts rs v))) ∙ h (more_parts rs v) ∙ ap (λ q. turned q (spread (more_parts rs v) y ys)) e) i)
spread_behind f p rs x (x2 ∷ xs) y ys e h =
    each_each x.trace (λ v. turned x.span (spread (more_parts rs v) x2 xs)) f
    ∙ ap (each x.trace) (λ i v. turned x.span (spread_behind f p (more_parts rs v) x2 xs y ys e h i))

pub join_pair : (p : Place) (xs ys : List TracedPart) → length xs ≡ 1 → length ys ≡ 1 → EndsAt (λ (t : TracedPart). t.span) p xs → each (tuples xs) (tupled Pair p (tuples ys)) ≡ tuples (xs ++ ys)
join_pair p [] ys h k e = absurd (omega (arith, h))
join_pair p (x ∷ x2 ∷ xs) ys h k e = absurd (omega (arith, h))
join_pair p (x ∷ []) [] h k e = absurd (omega (arith, k))
join_pair p (x ∷ []) (y ∷ y2 ∷ ys) h k e = absurd (omega (arith, k))
join_pair p (x ∷ []) (y ∷ []) h k e = ap (λ q. each x.trace (λ v. turned q (each y.trace (λ z. one (tuple (more_parts (more_parts no_parts v) z)))))) e

pub join_push : (p : Place) (xs ys : List TracedPart) → 1 < length xs → length ys ≡ 1 → EndsAt (λ (t : TracedPart). t.span) p xs → each (tuples xs) (tupled Push p (tuples ys)) ≡ tuples (xs ++ ys)
join_push p [] ys h k e = absurd (omega (arith, h))
join_push p (x ∷ []) ys h k e = absurd (omega (arith, h))
join_push p (x ∷ x2 ∷ xs) [] h k e = absurd (omega (arith, k))
join_push p (x ∷ x2 ∷ xs) (y ∷ y2 ∷ ys) h k e = absurd (omega (arith, k))
join_push p (x ∷ x2 ∷ xs) (y ∷ []) h k e = spread_behind (tupled Push p y.trace) p no_parts x (x2 ∷ xs) y [] e (λ ps. refl)

pub join_append : (p : Place) (xs ys : List TracedPart) → 1 < length xs → 1 < length ys → EndsAt (λ (t : TracedPart). t.span) p xs → each (tuples xs) (tupled Append p (tuples ys)) ≡ tuples (xs ++ ys)
join_append p [] ys h k e = absurd (omega (arith, h))
join_append p (x ∷ []) ys h k e = absurd (omega (arith, h))
join_append p (x ∷ x2 ∷ xs) [] h k e = absurd (omega (arith, k))
join_append p (x ∷ x2 ∷ xs) (y ∷ []) h k e = absurd (omega (arith, k))
join_append p (x ∷ x2 ∷ xs) (y ∷ y2 ∷ ys) h k e =
    spread_behind (tupled Append p (spread no_parts y (y2 ∷ ys))) p no_parts x (x2 ∷ xs) y (y2 ∷ ys) e
    (λ ps. ap (turned p) (spread_before (λ z. result_at p (tied Append (tuple ps) z)) ps no_parts y (y2 ∷ ys) (λ qs. refl)))

-- by the numbers of parts
join : (j : Joining) (p : Place) (xs ys : List TracedPart) (n m : ℕ) → length xs ≡ n → length ys ≡ m → 0 < m → m ≤ n → (n ≤ 1 → m ≤ 1 → j ≡ Pair) → (1 < n → m ≤ 1 → j ≡ Push) → (1 < m → j ≡ Append) → EndsAt (λ (t : TracedPart). t.span) p xs
    → each (tuples xs) (tupled j p (tuples ys)) ≡ tuples (xs ++ ys)
join j p [] ys n m h k some le pair push append e = absurd (omega (arith, h))
join j p (x ∷ []) [] n m h k some le pair push append e = absurd (omega (arith, k))
join j p (x ∷ []) (y ∷ []) n m h k some le pair push append e =
    ap (λ c. each (tuples (x ∷ [])) (tupled c p (tuples (y ∷ [])))) (pair (omega (arith, h)) (omega (arith, k))) ∙ join_pair p (x ∷ []) (y ∷ []) refl refl e
join j p (x ∷ []) (y ∷ y2 ∷ ys) n m h k some le pair push append e = absurd (omega (arith, h, k))
join j p (x ∷ x2 ∷ xs) [] n m h k some le pair push append e = absurd (omega (arith, k))
join j p (x ∷ x2 ∷ xs) (y ∷ []) n m h k some le pair push append e =
    ap (λ c. each (tuples (x ∷ x2 ∷ xs)) (tupled c p (tuples (y ∷ [])))) (push (omega (arith, h)) (omega (arith, k))) ∙ join_push p (x ∷ x2 ∷ xs) (y ∷ []) (omega arith) refl e
join j p (x ∷ x2 ∷ xs) (y ∷ y2 ∷ ys) n m h k some le pair push append e =
    ap (λ c. each (tuples (x ∷ x2 ∷ xs)) (tupled c p (tuples (y ∷ y2 ∷ ys)))) (append (omega (arith, k))) ∙ join_append p (x ∷ x2 ∷ xs) (y ∷ y2 ∷ ys) (omega arith) (omega arith) e

-- ---- sections

ends_traced : (w : WorldState) (s : Scene) (a : Around) (p : Place) (xs : List Section) → EndsAt (λ (x : Section). x.last) p xs → EndsAt (λ (t : TracedPart). t.span) p (traces w s a xs)
ends_traced w s a p [] h = h
ends_traced w s a p (x ∷ []) h = h
ends_traced w s a p (x ∷ y ∷ ys) h = ends_traced w s a p (y ∷ ys) h

ends_behind : (p : Place) (xs ys : List Section) → EndsAt (λ (x : Section). x.last) p ys → EndsAt (λ (x : Section). x.last) p (xs ++ ys)
ends_behind p [] ys h = h
ends_behind p (x ∷ []) [] h = absurd h
ends_behind p (x ∷ []) (y ∷ ys) h = h
ends_behind p (x ∷ x2 ∷ xs) ys h = ends_behind p (x2 ∷ xs) ys h

leftless_take : (n : ℕ) (xs : List Section) → AreLeftless xs → AreLeftless (take n xs)
leftless_take n xs h w s a v = sym (take-map (traced w s (with_left a v)) n xs) ∙ ap (take n) (h w s a v) ∙ take-map (traced w s a) n xs

pub leftless_drop : (n : ℕ) (xs ys : List Section) → ys ≡ drop n xs → AreLeftless xs → AreLeftless ys
leftless_drop n xs ys e h =
    subst (λ (zs : List Section). AreLeftless zs) (sym e)
    (λ w s a v. sym (drop-map (traced w s (with_left a v)) n xs) ∙ ap (drop n) (h w s a v) ∙ drop-map (traced w s a) n xs)

-- one part
pub part_alone : (x : Section) (xs ys : List Section) (n : ℕ) → n ≡ 1 → xs ≡ x ∷ ys → IsTupleOf x (take n xs)
part_alone x xs ys n e h =
    let one_part : take n xs ≡ x ∷ [] = ap (λ m. take m xs) e ∙ ap (take 1) h in
    subst (λ (zs : List Section). IsTupleOf x zs) (sym one_part) (record { gives = λ w s a. refl; ends = refl })

pub part_left : (x : Section) (xs ys : List Section) (n : ℕ) → n ≡ 1 → xs ≡ x ∷ ys → ys ≡ drop n xs
part_left x xs ys n e h = ap (drop 1) (sym h) ∙ ap (λ m. drop m xs) (sym e)

whole_list : (xs ys : List Section) (n h m : ℕ) → h + m ≡ n → ys ≡ drop h xs → take h xs ++ take m ys ≡ take n xs
whole_list xs ys n h m both e =
    ap (λ zs. take h xs ++ take m zs) e ∙ sym (take-add h m xs) ∙ ap (λ k. take k xs) both

taken : (w : WorldState) (s : Scene) (a : Around) (n : ℕ) (xs : List Section) → n ≤ length xs → length (traces w s a (take n xs)) ≡ n
taken w s a n xs h = length-map (take n xs) (traced w s a) ∙ length-take-le n xs h

-- two halves
pub halves_joined : (j : Joining) (whole first second : Section) (xs ys : List Section) (n h m : ℕ) → h + m ≡ n → n ≤ length xs → 0 < m → m ≤ h → ys ≡ drop h xs → AreLeftless xs → (h ≤ 1 → m ≤ 1 → j ≡ Pair) → (1 < h → m ≤ 1 → j ≡ Push) → (1 < m → j ≡ Append)
    → IsTupleOf first (take h xs) → IsTupleOf second (take m ys) → IsCommaOf j first second whole → IsTupleOf whole (take n xs)
halves_joined j whole first second xs ys n h m both fits some le e leftless pair push append f g comma =
    let less : length ys ≡ length xs - h = ap (length {A = Section}) e ∙ length-drop h xs in
    let fits_first : h ≤ length xs = omega arith in
    let fits_second : m ≤ length ys = omega (arith, less) in
    let leftless_second = leftless_take m ys (leftless_drop h xs ys e leftless) in
    subst (λ (zs : List Section). IsTupleOf whole zs) (whole_list xs ys n h m both e)
    (record {
      gives = λ w s a.
          ap (λ c. core w s c a) comma.made
          ∙ ap (λ t. each t (λ v. tupled j first.last (core w s (boxed_shape second.node) (with_left a v)) v)) (f.gives w s a)
          ∙ ap (each (tuples (traces w s a (take h xs)))) (λ i v. tupled j first.last ((g.gives w s (with_left a v) ∙ ap tuples (leftless_second w s a v)) i) v)
          ∙ join j first.last (traces w s a (take h xs)) (traces w s a (take m ys)) h m (taken w s a h xs fits_first) (taken w s a m ys fits_second) some le pair push append (ends_traced w s a first.last (take h xs) f.ends)
          ∙ ap tuples (sym (map-append (traced w s a) (take h xs) (take m ys)));
      ends = subst (λ (p : Place). EndsAt (λ (x : Section). x.last) p (take h xs ++ take m ys)) (sym comma.last) (ends_behind second.last (take h xs) (take m ys) g.ends);
    })

pub halves_left : (xs ys zs : List Section) (n h m : ℕ) → h + m ≡ n → ys ≡ drop h xs → zs ≡ drop m ys → zs ≡ drop n xs
halves_left xs ys zs n h m both e g = g ∙ ap (drop m) e ∙ drop-drop m h xs ∙ ap (λ k. drop k xs) both

-- the same parts
pub leftless_same : (xs ys : List Section) → xs ≡ ys → AreLeftless ys → AreLeftless xs
leftless_same xs ys e h = subst (λ (zs : List Section). AreLeftless zs) (sym e) h

-- all parts, and none
pub all_parts : (whole : Section) (xs ys : List Section) (n : ℕ) → length xs ≤ n → xs ≡ ys → IsTupleOf whole (take n xs) → GivesTuples (boxed_shape whole.node) ys
all_parts whole xs ys n h e is =
    let all : take n xs ≡ ys = take_all n xs h ∙ e in
    subst (λ (zs : List Section). GivesTuples (boxed_shape whole.node) zs) all is.gives

pub no_part : (c : Core) (xs : List Section) → length xs ≡ 0 → ((w : WorldState) (s : Scene) (a : Around) → core w s c a ≡ none) → GivesTuples c xs
no_part c [] e h = h
no_part c (x ∷ xs) e h = absurd (omega (arith, e))

-- ---- plans

abbrev pub meant : WorldState → Scene → Option Plain → PlainNode → TracedPart
meant w s i n = record { trace = mean w s n i; span = span_of_node n }

-- the sections mean what these nodes of a plan mean
abbrev pub AreMeant : List Section → List Node → Type 0
AreMeant xs ns = (w : WorldState) (s : Scene) (a : Around) → traces w s a xs ≡ map (meant w s a.it) (map shown_node ns)

traced_alike : (x : Section) (n : PlainNode) → Alike (boxed_shape x.node) (core_of n) → x.last ≡ span_of_node n → (w : WorldState) (s : Scene) (a : Around) → traced w s a x ≡ meant w s a.it n
traced_alike x n h e w s a =
    ap (λ (t : Trace). record { trace = t; span = x.last }) (h w s a ∙ means w s n a)
    ∙ ap (λ (p : Place). record { trace = mean w s n a.it; span = p }) e

-- one section more
pub meant_more : (xs ys : List Section) (x : Section) (ns : List Node) (i : ℕ) (n : Node) → AreMeant xs (take i ns) → ys ≡ xs ++ x ∷ [] → i < length ns → n ≡ get_or ns i n → Alike (boxed_shape x.node) (core_of (shown_node n)) → x.last ≡ span_of_node (shown_node n)
    → AreMeant ys (take (i + 1) ns)
meant_more xs ys x ns i n inv pushed below is alike span = λ w s a.
    ap (traces w s a) pushed
    ∙ map-append (traced w s a) xs (x ∷ [])
    ∙ ap (λ ts. ts ++ traced w s a x ∷ []) (inv w s a)
    ∙ ap (λ t. map (meant w s a.it) (map shown_node (take i ns)) ++ t ∷ []) (traced_alike x (shown_node n) alike span w s a)
    ∙ sym (map-append (meant w s a.it) (map shown_node (take i ns)) (shown_node n ∷ []))
    ∙ ap (map (meant w s a.it)) (sym (map-append shown_node (take i ns) (n ∷ [])))
    ∙ ap (λ m. map (meant w s a.it) (map shown_node (take i ns ++ m ∷ []))) is
    ∙ sym (ap (λ ms. map (meant w s a.it) (map shown_node ms)) (take_more ns i n below))

pub meant_leftless : (xs : List Section) (ns : List Node) → AreMeant xs ns → AreLeftless xs
meant_leftless xs ns h w s a v = h w s (with_left a v) ∙ sym (h w s a)

-- the nodes of a list, from the first
abbrev in_order : Nodes → List PlainNode
in_order no_nodes = []
in_order (more_nodes ns n) = in_order ns ++ n ∷ []

in_order_listed : (l : Nodes) (ns : List PlainNode) → in_order (listed l ns) ≡ in_order l ++ ns
in_order_listed l [] = sym (append-nil (in_order l))
in_order_listed l (n ∷ ns) = in_order_listed (more_nodes l n) ns ∙ append_assoc (in_order l) (n ∷ []) ns

in_order_ends : (w : WorldState) (s : Scene) (i : Option Plain) (ns : List PlainNode) (n : PlainNode) → EndsAt (λ (t : TracedPart). t.span) (span_of_node n) (map (meant w s i) (ns ++ n ∷ []))
in_order_ends w s i [] n = refl
in_order_ends w s i (m ∷ []) n = refl
in_order_ends w s i (m ∷ m2 ∷ ms) n = in_order_ends w s i (m2 ∷ ms) n

length_behind : (ns : List PlainNode) (n : PlainNode) → length (ns ++ n ∷ []) ≡ length ns + 1
length_behind ns n = length-append ns (n ∷ [])

join_meant : (w : WorldState) (s : Scene) (i : Option Plain) (ns : Nodes) (n : PlainNode) (t : TracedPart) → each (tuples (map (meant w s i) (in_order ns ++ n ∷ []))) (tupled (joining ns) (span_of_node n) t.trace) ≡ tuples (map (meant w s i) (in_order ns ++ n ∷ []) ++ t ∷ [])
join_meant w s i no_nodes n t = join_pair (span_of_node n) (meant w s i n ∷ []) (t ∷ []) refl refl refl
join_meant w s i (more_nodes ns m) n t =
    let all = in_order (more_nodes ns m) in
    let count : length (map (meant w s i) (all ++ n ∷ [])) ≡ length (in_order ns) + 1 + 1 =
    length-map (all ++ n ∷ []) (meant w s i) ∙ length_behind all n ∙ ap (λ k. k + 1) (length_behind (in_order ns) m) in
    join_push (span_of_node n) (map (meant w s i) (all ++ n ∷ [])) (t ∷ []) (omega (arith, count)) refl (in_order_ends w s i all n)

behind_meant : (w : WorldState) (s : Scene) (i : Option Plain) (ns : Nodes) (t : TracedPart) → tuples (map (meant w s i) (in_order ns) ++ t ∷ []) ≡ last_behind w s ns t.trace i
behind_meant w s i no_nodes t = refl
behind_meant w s i (more_nodes ns n) t =
    sym (join_meant w s i ns n t)
    ∙ ap (λ ts. each (tuples ts) (tupled (joining ns) (span_of_node n) t.trace)) (map-append (meant w s i) (in_order ns) (n ∷ []))
    ∙ ap (λ u. each u (tupled (joining ns) (span_of_node n) t.trace)) (behind_meant w s i ns (meant w s i n))

tuples_meant : (w : WorldState) (s : Scene) (i : Option Plain) (ns : Nodes) → tuples (map (meant w s i) (in_order ns)) ≡ tuple_mean w s ns i
tuples_meant w s i no_nodes = refl
tuples_meant w s i (more_nodes ns n) =
    ap tuples (map-append (meant w s i) (in_order ns) (n ∷ [])) ∙ behind_meant w s i ns (meant w s i n)

-- the tuple of all sections
pub tuple_meant : (c : Core) (xs : List Section) (l : NodeList) (ns : List Node) (i : ℕ) → GivesTuples c xs → AreMeant xs (take i ns) → (i < length ns → ⊥) → ns ≡ node_items l → Alike c (tuple_core (shown_nodes l))
tuple_meant c xs l ns i h inv over is = λ w s a.
    let le : length ns ≤ i = omega arith in
    h w s a
    ∙ ap tuples (inv w s a)
    ∙ ap (λ ms. tuples (map (meant w s a.it) (map shown_node ms))) (take_all i ns le ∙ is)
    ∙ ap (λ ms. tuples (map (meant w s a.it) ms)) (sym (in_order_listed no_nodes (map shown_node (node_items l))))
    ∙ tuples_meant w s a.it (listed no_nodes (map shown_node (node_items l)))
    ∙ ap (λ ms. tuple_mean w s ms a.it) (sym (nodes-out l))
    ∙ sym (tuple_means w s (shown_nodes l) a)

-- Each value of a plan has the plan's kind, and a plan that is not plural gives one.
use Rattle.std.proofs.Common.{◌≡◌, Bool, true, false, ◌||◌, List, [], ◌∷◌, Option, Some, None, refl, sym, ap, subst, ◌∙◌}
use Rattle.rel_lexer.specs.declared.place.Place.{Place}
use Rattle.rel_lexer.specs.declared.operator.BinarySign.{BinarySign}
use Rattle.rel_lexer.specs.declared.operator.BinarySign.TheVariants as sign
use Rattle.rel_lexer.specs.declared.operator.UnarySign.TheVariants as one_operand
use Rattle.bf_world.specs.Worlds.{WorldState}
use Rattle.rel_value.specs.Casts as value
use Rattle.rel_value.specs.Kinds.{Sort, truths, sort_of, combined_kind, binary_kind, IsOfKind}
use Rattle.rel_value.specs.Operands.{stance}
use Rattle.rel_value.specs.Plain.{Plain, boolean, integer, words, tuple, PlainKind, booleans, tuples, PlainKinds, no_kinds, more_kinds, kind_of}
use Rattle.rel_value.specs.Signs.{op, negated}
use Rattle.rel_types.specs.declared.cast_steps.CastStep.{CastStep}
use Rattle.rel_types.specs.declared.head.Head.TheVariants as head
use Rattle.rel_types.specs.Plans as plan
use Rattle.rel_types.specs.Plans.{PlainNode, node, is_plural, PlainForm, numeral, literal, it, phrase, body, cast, unary, chain, conditional, collection, HeldNode, no_node, a_node, held_kind, LinkedNodes, no_links, more_links, Nodes, no_nodes, more_nodes, node_kinds, tuple_kind, any_plural}
use Rattle.rel_types.specs.Signs.{unary_kind}
use Rattle.rel_types.specs.Typing.{it_inside}
use Rattle.rel_types.specs.Agreement.{CastsAgree, SignAgrees, AreOf, Agrees, FormAgrees, ObjectAgrees, LinksAgree, NodesAgree}
use Rattle.rel_sources.specs.declared.scene.Scene.{Scene}
use Rattle.rel_inspect.specs.Props.{prop}
use Rattle.rel_trace.specs.declared.joining.Joining.TheVariants.{Push}
use Rattle.rel_trace.specs.declared.logic.Logic.{Logic}
use Rattle.rel_trace.specs.declared.logic.Logic.TheVariants.{And, Or}
use Rattle.rel_trace.specs.Trace.{Trace, none, one, each, turned, result_at, is_true}
use Rattle.rel_trace.specs.Draws.{any, sifted}
use Rattle.rel_trace.specs.Joins.{chosen, decides, decided, with_right, tied, tupled}
use Rattle.rel_trace.specs.Ones.{inverted}
use Rattle.rel_nodes.specs.Spans.{span_of_node}
use Rattle.rel_nodes.specs.Meaning.{placed, given, singly, casted, infixed, fold_of, aggregated, joining, mean, form_mean, argued, over, gathered, filtered, chained, tuple_mean, last_behind, collected}
use Rattle.rel_kinds.specs.Giving.{GivesKind, GivesOne, IsThere}
use Rattle.rel_kinds.proofs.Outcomes.{result-kind, result-one, op-kind, not-kind, negated-kind, cast-kind}
use Rattle.rel_kinds.proofs.Joins.{either-kind, either-one, follow-kind, each-kind, each-all, each-one, any-kind, any-one, single-kind, single-one, kept-kind, barred-kind, barred-one}
use Rattle.rel_kinds.proofs.Rows.{IsStated, property-head, Gathers, aggregate-head}
use Rattle.rel_kinds.proofs.Basics.{some_same, none_some, part_kinds, is_tuple}

true_false : true ≡ false → ⊥
true_false h = cc

neither : (a b : Bool) → (a || b) ≡ false → (a ≡ false) × (b ≡ false)
neither true b h = absurd (true_false h)
neither false b h = (refl, h)

-- ---- what is kept

-- values of this kind, and one alone where it is not plural
abbrev pub Keeps : PlainKind → Bool → Trace → Type 0
Keeps k plural t = GivesKind k t × (plural ≡ false → GivesOne t)

as_kind : (j k : PlainKind) (plural : Bool) (t : Trace) → j ≡ k → Keeps j plural t → Keeps k plural t
as_kind j k plural t e h = subst (λ i. Keeps i plural t) e h

one-keeps : (k : PlainKind) (plural : Bool) (v : Plain) → kind_of v ≡ k → Keeps k plural (one v)
one-keeps k plural v e = ((e, tt), λ s. refl)

there-keeps : (k : PlainKind) (plural : Bool) (v : Option Plain) → IsThere (Some k) v → Keeps k plural (given v)
there-keeps k plural None h = absurd h
there-keeps k plural (Some v) h = one-keeps k plural v h

it-keeps : (i : Option PlainKind) (k : PlainKind) (plural : Bool) (v : Option Plain) → i ≡ Some k → IsThere i v → Keeps k plural (given v)
it-keeps i k plural v e h = there-keeps k plural v (subst (λ j. IsThere j v) e h)

singly-keeps : (k : PlainKind) (plural : Bool) (p : Place) (t : Trace) → GivesKind k t → Keeps k plural (singly plural p t)
singly-keeps k true p t h = (h, λ s. absurd (true_false s))
singly-keeps k false p t h = (single-kind k p t h, λ s. single-one p t)

-- where a singular trace's values are replaced by singular ones
each-keeps : (a k : PlainKind) (plural : Bool) (t : Trace) (f : Plain → Trace) → GivesKind a t → (plural ≡ false → GivesOne t) → ((v : Plain) → kind_of v ≡ a → Keeps k plural (f v)) → Keeps k plural (each t f)
each-keeps a k plural t f h o g =
    (each-kind a k t f h (λ v e. let q = g v e in q.0), λ s. each-one a t f h (o s) (λ v e. let q = g v e in q.1 s))

-- ---- casts and signs

casted-keeps : (s : Scene) (from to : PlainKind) (plural : Bool) (cs : List CastStep) (t : Trace) → CastsAgree from cs to → Keeps from plural t → Keeps to plural (casted s cs t)
casted-keeps s from to plural [] t a h = as_kind from to plural t a h
casted-keeps s from to plural (c ∷ cs) t a h =
    casted-keeps s a.0 to plural cs (each t (λ v. result_at c.place (value.cast c.cast v s.offset))) a.2
    (each-keeps from a.0 plural t (λ v. result_at c.place (value.cast c.cast v s.offset)) h.0 h.1
    (λ v e. let q = cast-kind c.cast s.offset v from a.0 e a.1 in
    (result-kind a.0 c.place (value.cast c.cast v s.offset) q, λ z. result-one a.0 c.place (value.cast c.cast v s.offset) q)))

not-keeps : (p : Place) (a k : PlainKind) (t : Trace) → unary_kind one_operand.Not a ≡ Some k → GivesKind a t → GivesOne t → Keeps k false (each t (λ v. result_at p (inverted v)))
not-keeps p a k t e h o =
    each-keeps a k false t (λ v. result_at p (inverted v)) h (λ z. o)
    (λ v ev. let q = not-kind v a k ev e in (result-kind k p (inverted v) q, λ z. result-one k p (inverted v) q))

minus-keeps : (p : Place) (a k : PlainKind) (t : Trace) → unary_kind one_operand.Minus a ≡ Some k → GivesKind a t → GivesOne t → Keeps k false (each t (λ v. result_at p (negated (stance v))))
minus-keeps p a k t e h o =
    each-keeps a k false t (λ v. result_at p (negated (stance v))) h (λ z. o)
    (λ v ev. let q = negated-kind v a k ev e in (result-kind k p (negated (stance v)) q, λ z. result-one k p (negated (stance v)) q))

any-keeps : (k : PlainKind) (t : Trace) → Some booleans ≡ Some k → Keeps k false (any t)
any-keeps k t e = (subst (λ j. GivesKind j (any t)) (some_same booleans k e) (any-kind t), λ z. any-one t)

-- a sign with a row
row-keeps : (s : BinarySign) (p : Place) (a b k : PlainKind) (t u : Trace) → binary_kind s a b ≡ Some k → Keeps a false t → Keeps b false u → Keeps k false (each t (with_right s p u))
row-keeps s p a b k t u e h g =
    each-keeps a k false t (with_right s p u) h.0 h.1
    (λ x ex. each-keeps b k false u (λ y. result_at p (op s x y)) g.0 g.1
    (λ y ey. let q = op-kind s x y a b k ex ey e in (result-kind k p (op s x y) q, λ z. result-one k p (op s x y) q)))

-- both sides of `and` and `or` are Boolean, and so is what they give
abbrev is_truths : Sort → Bool
is_truths truths = true
is_truths _ = false

truths-kind : (b : PlainKind) → is_truths (sort_of b) ≡ true → b ≡ booleans
truths-kind booleans h = refl
truths-kind _ h = absurd (true_false (sym h))

combined-sorts : (a b : Sort) (k : PlainKind) → combined_kind a b ≡ Some k → (is_truths b ≡ true) × (booleans ≡ k)
combined-sorts truths truths k h = (refl, some_same booleans k h)
combined-sorts _ _ k h = absurd (none_some k h)

decided-keeps : (l : Logic) (a b k : PlainKind) (t u : Trace) → combined_kind (sort_of a) (sort_of b) ≡ Some k → Keeps a false t → Keeps b false u → Keeps k false (each t (decided l u))
decided-keeps l a b k t u e h g =
    let c = combined-sorts (sort_of a) (sort_of b) k e in
    let r : Keeps k false u = as_kind b k false u (truths-kind b c.0 ∙ c.1) g in
    each-keeps a k false t (decided l u) h.0 h.1
    (λ x ex. (
      either-kind k (decides l (is_true x)) (one (boolean (is_true x))) u (c.1, tt) r.0,
      λ z. either-one (decides l (is_true x)) (one (boolean (is_true x))) u refl (r.1 z),
    ))

infixed-keeps : (s : BinarySign) (p : Place) (a b k : PlainKind) (t u : Trace) → SignAgrees s a b k → Keeps a false t → Keeps b false u → Keeps k false (infixed s p t u)
infixed-keeps sign.Bar p a b k t u e h g =
    let l = as_kind a k false t e.1 h in
    let r = as_kind b k false u (sym e.0 ∙ e.1) g in
    (barred-kind k t u l.0 r.0, λ z. barred-one t u (l.1 z) (r.1 z))
infixed-keeps sign.And p a b k t u e h g = decided-keeps And a b k t u e h g
infixed-keeps sign.Or p a b k t u e h g = decided-keeps Or a b k t u e h g
infixed-keeps s p a b k t u e h g = row-keeps s p a b k t u e h g

-- ---- `if`

chosen-keeps : (k : PlainKind) (p q : Bool) (t y n : Trace) → GivesKind booleans t → GivesOne t → Keeps k p y → Keeps k q n → Keeps k (p || q) (each t (chosen y n))
chosen-keeps k p q t y n h o g r =
    each-keeps booleans k (p || q) t (chosen y n) h (λ z. o)
    (λ x ex. (either-kind k (is_true x) y n g.0 r.0, λ z. let b = neither p q z in either-one (is_true x) y n (g.1 b.0) (r.1 b.1)))

-- ---- tuples

-- the kind of some parts and a last one of this kind together
abbrev behind_kind : Nodes → PlainKind → PlainKind
behind_kind no_nodes k = k
behind_kind (more_nodes ns n) k = tuples (more_kinds (node_kinds (more_nodes ns n)) k)

pushed-kind : (js : PlainKinds) (k : PlainKind) (x y : Plain) → kind_of x ≡ tuples js → kind_of y ≡ k → IsOfKind (Some (tuples (more_kinds js k))) (tied Push x y)
pushed-kind js k (tuple ps) y e g = ap (λ is. tuples (more_kinds is (kind_of y))) (ap part_kinds e) ∙ ap (λ j. tuples (more_kinds js j)) g
pushed-kind js k _ y e g = absurd (true_false (sym (ap is_tuple e)))

-- an earlier part's value with the later one's
tied-kind : (ns : Nodes) (a k : PlainKind) (x y : Plain) → kind_of x ≡ behind_kind ns a → kind_of y ≡ k → IsOfKind (Some (tuples (more_kinds (more_kinds (node_kinds ns) a) k))) (tied (joining ns) x y)
tied-kind no_nodes a k x y e g =
    ap (λ j. tuples (more_kinds (more_kinds no_kinds j) (kind_of y))) e ∙ ap (λ j. tuples (more_kinds (more_kinds no_kinds a) j)) g
tied-kind (more_nodes ns n) a k x y e g = pushed-kind (more_kinds (node_kinds (more_nodes ns n)) a) k x y e g

-- where either may be plural
each-either : (a k : PlainKind) (p q : Bool) (t : Trace) (f : Plain → Trace) → Keeps a p t → ((v : Plain) → kind_of v ≡ a → Keeps k q (f v)) → Keeps k (p || q) (each t f)
each-either a k p q t f h g =
    each-keeps a k (p || q) t f h.0 (λ z. let b = neither p q z in h.1 b.0) (λ v e. let r = g v e in (r.0, λ z. let b = neither p q z in r.1 b.1))

tupled-keeps : (ns : Nodes) (p : Place) (a k : PlainKind) (q : Bool) (last : Trace) (x : Plain) → Keeps k q last → kind_of x ≡ behind_kind ns a → Keeps (tuples (more_kinds (more_kinds (node_kinds ns) a) k)) q (tupled (joining ns) p last x)
tupled-keeps ns p a k q last x h e =
    each-keeps k (tuples (more_kinds (more_kinds (node_kinds ns) a) k)) q last (λ y. result_at p (tied (joining ns) x y)) h.0 h.1
    (λ y g. let r = tied-kind ns a k x y e g in
    (result-kind (tuples (more_kinds (more_kinds (node_kinds ns) a) k)) p (tied (joining ns) x y) r, λ z. result-one (tuples (more_kinds (more_kinds (node_kinds ns) a) k)) p (tied (joining ns) x y) r))

all-kind : (ns : Nodes) (n : PlainNode) (k : PlainKind) → tuple_kind (more_nodes ns n) ≡ Some k → behind_kind ns (plan.kind_of n) ≡ k
all-kind no_nodes n k e = absurd (none_some k e)
all-kind (more_nodes ns m) n k e = some_same (behind_kind (more_nodes ns m) (plan.kind_of n)) k e

-- ---- names and bodies

filtered-kind : (w : WorldState) (s : Scene) (p : Place) (k : PlainKind) (f : HeldNode) (t : Trace) → GivesKind k t → GivesKind k (filtered w s p f t)
filtered-kind w s p k no_node t h = h
filtered-kind w s p k (a_node f) t h = each-kind k k t (sifted p (λ v. mean w s f (Some v))) h (λ v e. kept-kind k v false (mean w s f (Some v)) e)

argued-kind : (w : WorldState) (s : Scene) (k : PlainKind) (x : HeldNode) (t : Option Plain → Trace) (v : Option Plain) → ((y : Option Plain) → IsStated x y → GivesKind k (t y)) → GivesKind k (argued w s x t v)
argued-kind w s k no_node t v g = g None (λ n e. absurd (none_some n e))
argued-kind w s k (a_node (node j b (numeral p n))) t v g =
    follow-kind k (t (Some (integer n))) none (g (Some (integer n)) (λ m e. ap (λ z. Some (integer z)) (some_same n m e))) tt
argued-kind w s k (a_node (node j b form)) t v g =
    each-all k (mean w s (node j b form) v) (λ y. t (Some y)) (λ y. g (Some y) (λ m e. absurd (none_some m e)))

over-kind : (w : WorldState) (s : Scene) (k : PlainKind) (p : Place) (i : Option PlainKind) (o : HeldNode) (t : Option Plain → Trace) (instead v : Option Plain) → Gathers o (gathered w s o v) → IsThere i instead → ((u : Option Plain) → IsThere (it_inside i o) u → GivesKind k (t u)) → GivesKind k (over w s p o t instead v)
over-kind w s k p i no_node t instead v d h g = g instead h
over-kind w s k p i (a_node n) t instead v d h g = each-kind (plan.kind_of n) k (mean w s n v) (λ u. turned p (t (Some u))) d (λ u e. g (Some u) e)

inside-held : (o : HeldNode) → it_inside None o ≡ held_kind o
inside-held no_node = refl
inside-held (a_node n) = refl

-- ---- plans

loosely : (k : PlainKind) (plural : Bool) (t : Trace) → Keeps k false t → Keeps k plural t
loosely k plural t h = (h.0, λ z. h.1 refl)

mutual
  pub keeps : (w : WorldState) (s : Scene) (i : Option PlainKind) (n : PlainNode) (v : Option Plain) → Agrees i n → IsThere i v → Keeps (plan.kind_of n) (is_plural n) (mean w s n v)
  keeps w s i (node k plural form) v a h = form-keeps w s i k plural form v a h

  form-keeps : (w : WorldState) (s : Scene) (i : Option PlainKind) (k : PlainKind) (plural : Bool) (form : PlainForm) (v : Option Plain) → FormAgrees i k plural form → IsThere i v → Keeps k plural (form_mean w s k plural form v)
  form-keeps w s i k plural (numeral p n) v a h = one-keeps k plural (integer n) (sym a.0)
  form-keeps w s i k plural (literal p t) v a h = one-keeps k plural (words t) (sym a.0)
  form-keeps w s i k plural (it p) v a h = it-keeps i k plural v a.0 h
  form-keeps w s i k plural (phrase p (head.Property id) x f o) v a h =
      let head_words = a.2 in
      singly-keeps k plural p (filtered w s p f (argued w s x (λ y. over w s p o (λ u. placed p (prop id y u w s)) None v) v))
      (filtered-kind w s p k f (argued w s x (λ y. over w s p o (λ u. placed p (prop id y u w s)) None v) v)
      (argued-kind w s k x (λ y. over w s p o (λ u. placed p (prop id y u w s)) None v) v (λ y stated.
      over-kind w s k p None o (λ u. placed p (prop id y u w s)) None v (held-gives w s i o v a.1 h) tt (λ u there.
      property-head head_words.0 x o id plural k head_words.1 y u stated (subst (λ j. IsThere j u) (inside-held o) there) p w s))))
  form-keeps w s i k plural (phrase p (head.Aggregate g) x f o) v a h =
      let head_words = a.2 in
      singly-keeps k plural p (filtered w s p f (argued w s x (λ y. aggregated (fold_of g k x) p y (gathered w s o v)) v))
      (filtered-kind w s p k f (argued w s x (λ y. aggregated (fold_of g k x) p y (gathered w s o v)) v)
      (argued-kind w s k x (λ y. aggregated (fold_of g k x) p y (gathered w s o v)) v (λ y stated.
      aggregate-head head_words.0 x o g plural k head_words.1 y p (gathered w s o v) (held-gives w s i o v a.1 h))))
  form-keeps w s i k plural (body p b f o) v a h =
      singly-keeps k plural p (filtered w s p f (over w s p o (mean w s b) v v))
      (filtered-kind w s p k f (over w s p o (mean w s b) v v)
      (over-kind w s k p i o (mean w s b) v v (held-gives w s i o v a.0 h) h (λ u there.
      let q = keeps w s (it_inside i o) b u a.1 there in subst (λ j. GivesKind j (mean w s b u)) a.2 q.0)))
  form-keeps w s i k plural (cast n cs) v a h =
      let q = keeps w s i n v a.0 h in
      casted-keeps s (plan.kind_of n) k plural cs (mean w s n v) a.2 (q.0, λ z. q.1 a.1)
  form-keeps w s i k plural (unary p one_operand.Not n) v a h =
      let q = keeps w s i n v a.0 h in
      loosely k plural (each (mean w s n v) (λ u. result_at p (inverted u))) (not-keeps p (plan.kind_of n) k (mean w s n v) a.2 q.0 (q.1 a.1))
  form-keeps w s i k plural (unary p one_operand.Minus n) v a h =
      let q = keeps w s i n v a.0 h in
      loosely k plural (each (mean w s n v) (λ u. result_at p (negated (stance u)))) (minus-keeps p (plan.kind_of n) k (mean w s n v) a.2 q.0 (q.1 a.1))
  form-keeps w s i k plural (unary p one_operand.Exists n) v a h = loosely k plural (any (mean w s n v)) (any-keeps k (mean w s n v) a.2)
  form-keeps w s i k plural (unary p one_operand.Exist n) v a h = loosely k plural (any (mean w s n v)) (any-keeps k (mean w s n v) a.2)
  form-keeps w s i k plural (chain n ls) v a h =
      let q = keeps w s i n v a.0 h in
      loosely k plural (chained w s ls (mean w s n v) v) (chained-keeps w s i (plan.kind_of n) ls k (mean w s n v) v a.2 (q.0, λ z. q.1 a.1) h)
  form-keeps w s i k plural (conditional p t y n) v a h =
      let q = keeps w s i t v a.0 h in
      let yes = as_kind (plan.kind_of y) k (is_plural y) (mean w s y v) a.5 (keeps w s i y v a.3 h) in
      let no = as_kind (plan.kind_of n) k (is_plural n) (mean w s n v) (sym a.6) (keeps w s i n v a.4 h) in
      subst (λ b. Keeps k b (each (mean w s t v) (chosen (mean w s y v) (mean w s n v)))) a.7
      (chosen-keeps k (is_plural y) (is_plural n) (mean w s t v) (mean w s y v) (mean w s n v) (subst (λ j. GivesKind j (mean w s t v)) (sym a.2) q.0) (q.1 a.1) yes no)
  form-keeps w s i k plural (plan.tuple ns) v a h =
      subst (λ b. Keeps k b (tuple_mean w s ns v)) a.2 (tuple-keeps w s i k ns v a.0 a.1 h)
  form-keeps w s i k plural (collection ns) v a h =
      (collected-kind w s i k ns v a.0 a.2 h, λ z. absurd (true_false (sym a.3 ∙ z)))

  held-gives : (w : WorldState) (s : Scene) (i : Option PlainKind) (x : HeldNode) (v : Option Plain) → ObjectAgrees i x → IsThere i v → Gathers x (gathered w s x v)
  held-gives w s i no_node v a h = tt
  held-gives w s i (a_node n) v a h = let q = keeps w s i n v a h in q.0

  chained-keeps : (w : WorldState) (s : Scene) (i : Option PlainKind) (first : PlainKind) (ls : LinkedNodes) (k : PlainKind) (t : Trace) (v : Option Plain) → LinksAgree i first ls k → Keeps first false t → IsThere i v → Keeps k false (chained w s ls t v)
  chained-keeps w s i first no_links k t v a g h = as_kind first k false t a g
  chained-keeps w s i first (more_links ls p c n) k t v a g h =
      let q = keeps w s i n v a.2 h in
      infixed-keeps c p a.0 (plan.kind_of n) k (chained w s ls t v) (mean w s n v) a.4 (chained-keeps w s i first ls a.0 t v a.1 g h) (q.0, λ z. q.1 a.3)

  tuple-keeps : (w : WorldState) (s : Scene) (i : Option PlainKind) (k : PlainKind) (ns : Nodes) (v : Option Plain) → NodesAgree i ns → tuple_kind ns ≡ Some k → IsThere i v → Keeps k (any_plural ns) (tuple_mean w s ns v)
  tuple-keeps w s i k no_nodes v a e h = absurd (none_some k e)
  tuple-keeps w s i k (more_nodes ns n) v a e h =
      as_kind (behind_kind ns (plan.kind_of n)) k (any_plural ns || is_plural n) (last_behind w s ns (mean w s n v) v) (all-kind ns n k e)
      (behind-keeps w s i ns (plan.kind_of n) (is_plural n) (mean w s n v) v a.0 h (keeps w s i n v a.1 h))

  behind-keeps : (w : WorldState) (s : Scene) (i : Option PlainKind) (ns : Nodes) (k : PlainKind) (q : Bool) (last : Trace) (v : Option Plain) → NodesAgree i ns → IsThere i v → Keeps k q last → Keeps (behind_kind ns k) (any_plural ns || q) (last_behind w s ns last v)
  behind-keeps w s i no_nodes k q last v a h g = g
  behind-keeps w s i (more_nodes ns n) k q last v a h g =
      each-either (behind_kind ns (plan.kind_of n)) (behind_kind (more_nodes ns n) k) (any_plural ns || is_plural n) q (last_behind w s ns (mean w s n v) v) (tupled (joining ns) (span_of_node n) last)
      (behind-keeps w s i ns (plan.kind_of n) (is_plural n) (mean w s n v) v a.0 h (keeps w s i n v a.1 h))
      (λ x e. tupled-keeps ns (span_of_node n) (plan.kind_of n) k q last x g e)

  collected-kind : (w : WorldState) (s : Scene) (i : Option PlainKind) (k : PlainKind) (ns : Nodes) (v : Option Plain) → NodesAgree i ns → AreOf k ns → IsThere i v → GivesKind k (collected w s ns v)
  collected-kind w s i k no_nodes v a b h = tt
  collected-kind w s i k (more_nodes ns n) v a b h =
      let q = keeps w s i n v a.1 h in
      follow-kind k (collected w s ns v) (mean w s n v) (collected-kind w s i k ns v a.0 b.0 h) (subst (λ j. GivesKind j (mean w s n v)) (sym b.1) q.0)

-- ---- the law

pub parts-keep : (around : Option PlainKind) (n : PlainNode) → Agrees around n → (v : Option Plain) → IsThere around v → (w : WorldState) (s : Scene) → GivesKind (plan.kind_of n) (mean w s n v)
parts-keep around n a v h w s = let q = keeps w s around n v a h in q.0

pub parts-give : (around : Option PlainKind) (n : PlainNode) → Agrees around n → is_plural n ≡ false → (v : Option Plain) → IsThere around v → (w : WorldState) (s : Scene) → GivesOne (mean w s n v)
parts-give around n a one v h w s = let q = keeps w s around n v a h in q.1 one

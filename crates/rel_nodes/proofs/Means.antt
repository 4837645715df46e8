-- The few forms mean what the plan means. Other crates may cite these lemmas.
use Rattle.std.proofs.Common.{◌≡◌, List, [], ◌∷◌, Bool, true, false, refl, ap, ◌∙◌, Option, Some, None}
use Rattle.rel_lexer.specs.declared.place.Place.{Place}
use Rattle.rel_lexer.specs.declared.operator.BinarySign.{BinarySign}
use Rattle.rel_lexer.specs.declared.operator.BinarySign.TheVariants as sign
use Rattle.rel_lexer.specs.declared.operator.UnarySign.{UnarySign}
use Rattle.rel_lexer.specs.declared.operator.UnarySign.TheVariants as one_operand
use Rattle.bf_world.specs.Worlds.{WorldState}
use Rattle.rel_value.specs.declared.property.PropertyId.{PropertyId}
use Rattle.rel_value.specs.Casts as value
use Rattle.rel_value.specs.Plain.{Plain, PlainKind}
use Rattle.rel_value.specs.Signs.{op}
use Rattle.rel_types.specs.declared.cast_steps.CastStep.{CastStep}
use Rattle.rel_types.specs.declared.head.Aggregate.{Aggregate}
use Rattle.rel_types.specs.declared.head.Head.TheVariants as head
use Rattle.rel_types.specs.Plans.{PlainNode, node, PlainForm, numeral, literal, it, phrase, body, cast, unary, chain, conditional, tuple, collection, HeldNode, no_node, a_node, LinkedNodes, no_links, more_links, Nodes, no_nodes, more_nodes}
use Rattle.rel_sources.specs.declared.scene.Scene.{Scene}
use Rattle.rel_inspect.specs.Props.{prop}
use Rattle.rel_trace.specs.declared.joining.Joining.{Joining}
use Rattle.rel_trace.specs.declared.logic.Logic.{Logic}
use Rattle.rel_trace.specs.declared.logic.Logic.TheVariants.{And, Or}
use Rattle.rel_trace.specs.Trace.{Trace, none, follow, each, turned, result_at}
use Rattle.rel_trace.specs.Draws.{sifted}
use Rattle.rel_trace.specs.Folds.{held_first}
use Rattle.rel_trace.specs.Joins.{barred, chosen, decided, tupled}
use Rattle.rel_trace.specs.Scopes.{Around, with_it, with_argument, with_left}
use Rattle.rel_trace.specs.Ones.{fold_kind}
use Rattle.rel_trace.specs.Twos.{left_kind}
use Rattle.rel_nodes.specs.Spans.{span_of_node}
use Rattle.rel_nodes.specs.Meaning.{placed, singly, casted, prefixed, infixed, fold_of, aggregated, joining, mean, form_mean, argued, over, gathered, filtered, chained, tuple_mean, last_behind, collected}
use Rattle.rel_nodes.specs.Core.{Core, property_core, one_core, two_core, core, singly_core, cast_arrow, casted_core, prefix_kind, infix_core, is_there, core_of, form_core, argued_core, over_core, gathered_core, filtered_core, chained_core, tuple_core, behind_core, collected_core}
use Rattle.rel_nodes.proofs.Compositions.{follow_none}
use Rattle.rel_nodes.proofs.Folding.{same_folded, unargued}

singly_means : (w : WorldState) (s : Scene) (plural : Bool) (p : Place) (c : Core) (a : Around) → core w s (singly_core plural p c) a ≡ singly plural p (core w s c a)
singly_means w s true p c a = refl
singly_means w s false p c a = refl

casted_means : (w : WorldState) (s : Scene) (cs : List CastStep) (c : Core) (a : Around) → core w s (casted_core cs c) a ≡ casted s cs (core w s c a)
casted_means w s [] c a = refl
casted_means w s (x ∷ xs) c a =
    casted_means w s xs (two_core left_kind c (cast_arrow x)) a
    ∙ ap (λ (f : Plain → Trace). casted s xs (each (core w s c a) f)) (λ i v. follow_none (result_at x.place (value.cast x.cast v s.offset)) i)

prefix_means : (w : WorldState) (s : Scene) (g : UnarySign) (p : Place) (c : Core) (a : Around) → core w s (one_core (prefix_kind g p) c) a ≡ prefixed g p (core w s c a)
prefix_means w s one_operand.Not p c a = refl
prefix_means w s one_operand.Exists p c a = refl
prefix_means w s one_operand.Exist p c a = refl
prefix_means w s one_operand.Minus p c a = refl

-- `and` and `or`, whose right operand doesn't look at what stands to its left
decided_means : (w : WorldState) (s : Scene) (l : Logic) (t : Trace) (d : Core) (m : Option Plain → Trace) (a : Around) → ((e : Around) → core w s d e ≡ m e.it) → each t (λ v. follow (decided l (core w s d (with_left a v)) v) none) ≡ each t (decided l (m a.it))
decided_means w s l t d m a h = ap (each t) (λ i v. (follow_none (decided l (core w s d (with_left a v)) v) ∙ ap (λ u. decided l u v) (h (with_left a v))) i)

-- what stands to the left of a right operand is known to its sign alone
infix_means : (w : WorldState) (s : Scene) (g : BinarySign) (p : Place) (c d : Core) (m : Option Plain → Trace) (a : Around) → ((e : Around) → core w s d e ≡ m e.it) → core w s (infix_core g p c d) a ≡ infixed g p (core w s c a) (m a.it)
infix_means w s sign.Bar p c d m a h = ap (barred (core w s c a)) (h a)
infix_means w s sign.And p c d m a h = decided_means w s And (core w s c a) d m a h
infix_means w s sign.Or p c d m a h = decided_means w s Or (core w s c a) d m a h
infix_means w s g p c d m a h = ap (λ (f : Plain → Trace). each (core w s c a) (λ v. each (f v) (λ y. result_at p (op g v y)))) (λ i v. h (with_left a v) i)

-- what is known of an argument, an object or a filter
abbrev Gathers : WorldState → Scene → HeldNode → Type 0
Gathers w s x = (e : Around) → core w s (gathered_core x) e ≡ gathered w s x e.it

filtered_means : (w : WorldState) (s : Scene) (p : Place) (f : HeldNode) (c : Core) (a : Around) → Gathers w s f → core w s (filtered_core p f c) a ≡ filtered w s p f (core w s c a)
filtered_means w s p no_node c a h = refl
filtered_means w s p (a_node f) c a h = ap (λ (m : Plain → Trace). each (core w s c a) (sifted p m)) (λ i v. h (with_it a v) i)

-- what stands inside an argument form means this of the argument, if there is one
abbrev Inside : WorldState → Scene → HeldNode → Core → (Option Plain → Trace) → Around → Type 0
Inside w s no_node c m a = core w s c a ≡ m None
Inside w s (a_node n) c m a = (y : Plain) → core w s c (with_argument a y) ≡ m (Some y)

argued_means : (w : WorldState) (s : Scene) (x : HeldNode) (c : Core) (m : Option Plain → Trace) (a : Around) → Gathers w s x → Inside w s x c m a → core w s (argued_core x c) a ≡ argued w s x m a.it
argued_means w s no_node c m a h k = k
argued_means w s (a_node n) c m a h k =
    ap (λ t. each t (λ y. core w s c (with_argument a y))) (h a)
    ∙ ap (λ (f : Plain → Trace). each (mean w s n a.it) f) (λ i y. k y i)

-- with an object, and without one
over_means : (w : WorldState) (s : Scene) (p : Place) (o : HeldNode) (c : Core) (m : Option Plain → Trace) (a : Around) → Gathers w s o → ((e : Around) → core w s c e ≡ m e.it) → core w s (over_core p o c) a ≡ over w s p o m a.it a.it
over_means w s p no_node c m a h k = k a
over_means w s p (a_node o) c m a h k =
    ap (λ t. each t (λ v. turned p (core w s c (with_it a v)))) (h a)
    ∙ ap (λ (f : Plain → Trace). each (mean w s o a.it) f) (λ i v. turned p (k (with_it a v) i))

property_means : (w : WorldState) (s : Scene) (p : Place) (id : PropertyId) (x o : HeldNode) (a : Around) → Gathers w s o → Inside w s x (over_core p o (property_core id (is_there x) (is_there o) p)) (λ y. over w s p o (λ v. placed p (prop id y v w s)) None a.it) a
property_means w s p id no_node no_node a h = refl
property_means w s p id no_node (a_node o) a h = ap (λ t. each t (λ v. turned p (placed p (prop id None (Some v) w s)))) (h a)
property_means w s p id (a_node n) no_node a h = λ y. refl
property_means w s p id (a_node n) (a_node o) a h = λ y. ap (λ t. each t (λ v. turned p (placed p (prop id (Some y) (Some v) w s)))) (h (with_argument a y))

aggregate_means : (w : WorldState) (s : Scene) (p : Place) (k : PlainKind) (g : Aggregate) (x o : HeldNode) (a : Around) → Gathers w s o → Inside w s x (one_core (fold_kind (fold_of g k x) p) (gathered_core o)) (λ y. aggregated (fold_of g k x) p y (gathered w s o a.it)) a
aggregate_means w s p k g no_node o a h =
    same_folded (fold_of g k no_node) a.argument None p (unargued g k a.argument None) (held_first (fold_of g k no_node)) (core w s (gathered_core o) a)
    ∙ ap (aggregated (fold_of g k no_node) p None) (h a)
aggregate_means w s p k g (a_node n) o a h = λ y. ap (aggregated (fold_of g k (a_node n)) p (Some y)) (h (with_argument a y))

-- and to a tuple alone
later_means : (w : WorldState) (s : Scene) (j : Joining) (p : Place) (t : Trace) (c : Core) (m : Option Plain → Trace) (a : Around) → ((e : Around) → core w s c e ≡ m e.it) → each t (λ v. tupled j p (core w s c (with_left a v)) v) ≡ each t (tupled j p (m a.it))
later_means w s j p t c m a h = ap (each t) (λ i v. tupled j p (h (with_left a v) i) v)

mutual
  pub means : (w : WorldState) (s : Scene) (n : PlainNode) (a : Around) → core w s (core_of n) a ≡ mean w s n a.it
  means w s (node k plural form) a = form_means w s k plural form a

  form_means : (w : WorldState) (s : Scene) (k : PlainKind) (plural : Bool) (form : PlainForm) (a : Around) → core w s (form_core k plural form) a ≡ form_mean w s k plural form a.it
  form_means w s k plural (numeral p n) a = refl
  form_means w s k plural (literal p t) a = refl
  form_means w s k plural (it p) a = refl
  form_means w s k plural (phrase p (head.Property id) x f o) a =
      singly_means w s plural p (filtered_core p f (argued_core x (over_core p o (property_core id (is_there x) (is_there o) p)))) a
      ∙ ap (singly plural p) (
      filtered_means w s p f (argued_core x (over_core p o (property_core id (is_there x) (is_there o) p))) a (held_means w s f)
      ∙ ap (filtered w s p f) (argued_means w s x (over_core p o (property_core id (is_there x) (is_there o) p)) (λ y. over w s p o (λ v. placed p (prop id y v w s)) None a.it) a (held_means w s x) (property_means w s p id x o a (held_means w s o))))
  form_means w s k plural (phrase p (head.Aggregate g) x f o) a =
      singly_means w s plural p (filtered_core p f (argued_core x (one_core (fold_kind (fold_of g k x) p) (gathered_core o)))) a
      ∙ ap (singly plural p) (
      filtered_means w s p f (argued_core x (one_core (fold_kind (fold_of g k x) p) (gathered_core o))) a (held_means w s f)
      ∙ ap (filtered w s p f) (argued_means w s x (one_core (fold_kind (fold_of g k x) p) (gathered_core o)) (λ y. aggregated (fold_of g k x) p y (gathered w s o a.it)) a (held_means w s x) (aggregate_means w s p k g x o a (held_means w s o))))
  form_means w s k plural (body p b f o) a =
      singly_means w s plural p (filtered_core p f (over_core p o (core_of b))) a
      ∙ ap (singly plural p) (
      filtered_means w s p f (over_core p o (core_of b)) a (held_means w s f)
      ∙ ap (filtered w s p f) (over_means w s p o (core_of b) (mean w s b) a (held_means w s o) (means w s b)))
  form_means w s k plural (cast n cs) a = casted_means w s cs (core_of n) a ∙ ap (casted s cs) (means w s n a)
  form_means w s k plural (unary p g n) a = prefix_means w s g p (core_of n) a ∙ ap (prefixed g p) (means w s n a)
  form_means w s k plural (chain n ls) a = chained_means w s ls (core_of n) a ∙ ap (λ t. chained w s ls t a.it) (means w s n a)
  form_means w s k plural (conditional p t y n) a =
      ap (λ u. each u (chosen (core w s (core_of y) a) (core w s (core_of n) a))) (means w s t a)
      ∙ ap (λ u. each (mean w s t a.it) (chosen u (core w s (core_of n) a))) (means w s y a)
      ∙ ap (λ u. each (mean w s t a.it) (chosen (mean w s y a.it) u)) (means w s n a)
  form_means w s k plural (tuple ns) a = tuple_means w s ns a
  form_means w s k plural (collection ns) a = collected_means w s ns a

  held_means : (w : WorldState) (s : Scene) (x : HeldNode) (a : Around) → core w s (gathered_core x) a ≡ gathered w s x a.it
  held_means w s no_node a = refl
  held_means w s (a_node n) a = means w s n a

  chained_means : (w : WorldState) (s : Scene) (ls : LinkedNodes) (c : Core) (a : Around) → core w s (chained_core ls c) a ≡ chained w s ls (core w s c a) a.it
  chained_means w s no_links c a = refl
  chained_means w s (more_links ls p g n) c a =
      infix_means w s g p (chained_core ls c) (core_of n) (mean w s n) a (means w s n)
      ∙ ap (λ t. infixed g p t (mean w s n a.it)) (chained_means w s ls c a)

  pub tuple_means : (w : WorldState) (s : Scene) (ns : Nodes) (a : Around) → core w s (tuple_core ns) a ≡ tuple_mean w s ns a.it
  tuple_means w s no_nodes a = refl
  tuple_means w s (more_nodes ns n) a = behind_means w s ns (core_of n) (mean w s n) a (means w s n)

  behind_means : (w : WorldState) (s : Scene) (ns : Nodes) (c : Core) (m : Option Plain → Trace) (a : Around) → ((e : Around) → core w s c e ≡ m e.it) → core w s (behind_core ns c) a ≡ last_behind w s ns (m a.it) a.it
  behind_means w s no_nodes c m a h = h a
  behind_means w s (more_nodes ns n) c m a h =
      ap (λ t. each t (λ v. tupled (joining ns) (span_of_node n) (core w s c (with_left a v)) v)) (behind_means w s ns (core_of n) (mean w s n) a (means w s n))
      ∙ later_means w s (joining ns) (span_of_node n) (last_behind w s ns (mean w s n a.it) a.it) c m a h

  collected_means : (w : WorldState) (s : Scene) (ns : Nodes) (a : Around) → core w s (collected_core ns) a ≡ collected w s ns a.it
  collected_means w s no_nodes a = refl
  collected_means w s (more_nodes ns n) a =
      ap (λ t. follow t (core w s (core_of n) a)) (collected_means w s ns a)
      ∙ ap (follow (collected w s ns a.it)) (means w s n a)

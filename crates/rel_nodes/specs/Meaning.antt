-- What a question means: the trace of a plan in a world and a scene. The last argument is what `it` stands for, if it stands for
-- something.
use Rattle.std.specs.Prelude.{Bool, if◌then◌else◌, List, [], ◌∷◌, Option, Some, None}
use Rattle.rel_lexer.specs.declared.place.Place.{Place}
use Rattle.rel_lexer.specs.declared.operator.BinarySign.{BinarySign}
use Rattle.rel_lexer.specs.declared.operator.BinarySign.TheVariants as sign
use Rattle.rel_lexer.specs.declared.operator.UnarySign.{UnarySign}
use Rattle.rel_lexer.specs.declared.operator.UnarySign.TheVariants as one_operand
use Rattle.bf_world.specs.Worlds.{WorldState}
use Rattle.rel_value.specs.Casts as value
use Rattle.rel_value.specs.Operands.{stance}
use Rattle.rel_value.specs.Plain.{Plain, integer, words, PlainKind, intervals}
use Rattle.rel_value.specs.Signs.{negated}
use Rattle.rel_types.specs.declared.cast_steps.CastStep.{CastStep}
use Rattle.rel_types.specs.declared.head.Aggregate.{Aggregate}
use Rattle.rel_types.specs.declared.head.Aggregate.TheVariants as of
use Rattle.rel_types.specs.declared.head.Head.TheVariants as head
use Rattle.rel_types.specs.Plans.{PlainNode, node, PlainForm, numeral, literal, it, phrase, body, cast, unary, chain, conditional, tuple, collection, HeldNode, no_node, a_node, LinkedNodes, no_links, more_links, Nodes, no_nodes, more_nodes}
use Rattle.rel_sources.specs.declared.scene.Scene.{Scene}
use Rattle.rel_inspect.specs.Props.{prop}
use Rattle.rel_sources.specs.Traces as walk
use Rattle.rel_trace.specs.declared.fold.Fold.{Fold}
use Rattle.rel_trace.specs.declared.fold.Fold.TheVariants as fold
use Rattle.rel_trace.specs.declared.joining.Joining.{Joining}
use Rattle.rel_trace.specs.declared.joining.Joining.TheVariants.{Pair, Push}
use Rattle.rel_trace.specs.declared.kind.RelKind.TheVariants.{TextTooLong}
use Rattle.rel_trace.specs.declared.logic.Logic.TheVariants.{And, Or}
use Rattle.rel_trace.specs.Trace.{Error, Look, Turn, Give, Trace, Ends, After, none, one, follow, each, turned, result_at}
use Rattle.rel_trace.specs.Draws.{any, single, sifted}
use Rattle.rel_trace.specs.Folds.{held_first, folded}
use Rattle.rel_trace.specs.Joins.{barred, chosen, decided, tupled, with_right}
use Rattle.rel_trace.specs.Ones.{inverted}
use Rattle.rel_nodes.specs.Spans.{span_of_node}

-- the events of a property with its head at this place; a text that is too long is an error there
abbrev pub placed : Place → walk.Trace → Trace
placed p (walk.Ends walk.Stop) = none
placed p (walk.Ends walk.TooLong) = Ends (Error TextTooLong p)
placed p (walk.After (walk.Look key) t) = After (Look p key) (placed p t)
placed p (walk.After walk.Turn t) = After (Turn p) (placed p t)
placed p (walk.After (walk.Give v) t) = After (Give v) (placed p t)

-- the value, if there is one
abbrev pub given : Option Plain → Trace
given None = none
given (Some v) = one v

-- all values of what is plural, and the one value of what is singular, with its head at this place
abbrev pub singly : Bool → Place → Trace → Trace
singly plural p t = if plural then t else single p t

-- casts, each of what the one before it gives and at its own place
abbrev pub casted : Scene → List CastStep → Trace → Trace
casted s [] t = t
casted s (c ∷ cs) t = casted s cs (each t (λ v. result_at c.place (value.cast c.cast v s.offset)))

-- a sign before an operand
abbrev pub prefixed : UnarySign → Place → Trace → Trace
prefixed one_operand.Not p t = each t (λ v. result_at p (inverted v))
prefixed one_operand.Exists p t = any t
prefixed one_operand.Exist p t = any t
prefixed one_operand.Minus p t = each t (λ v. result_at p (negated (stance v)))

-- a sign between two operands
abbrev pub infixed : BinarySign → Place → Trace → Trace → Trace
infixed sign.Bar p left right = barred left right
infixed sign.And p left right = each left (decided And right)
infixed sign.Or p left right = each left (decided Or right)
infixed s p left right = each left (with_right s p right)

-- a sum is over intervals where it gives an interval, and else over integers
abbrev pub sum_of : PlainKind → Fold
sum_of intervals = fold.IntervalSum
sum_of _ = fold.IntegerSum

-- an argument of a concatenation is its separator
abbrev pub concatenation_of : HeldNode → Fold
concatenation_of no_node = fold.Concatenation
concatenation_of (a_node n) = fold.Separated

-- the fold of an aggregate that gives this kind, with this argument
abbrev pub fold_of : Aggregate → PlainKind → HeldNode → Fold
fold_of of.Number k a = fold.Number
fold_of of.Sum k a = sum_of k
fold_of of.Maximum k a = fold.Maximum
fold_of of.Minimum k a = fold.Minimum
fold_of of.Conjunction k a = fold.Conjunction
fold_of of.Disjunction k a = fold.Disjunction
fold_of of.Concatenation k a = concatenation_of a

-- the fold of all values, with this separator
abbrev pub aggregated : Fold → Place → Option Plain → Trace → Trace
aggregated f p separator t = folded f separator p (held_first f) t

-- how a part of a tuple joins those before it: the first two make a pair, and a further one is put at its end
abbrev pub joining : Nodes → Joining
joining no_nodes = Pair
joining (more_nodes ns n) = Push

abbrev mutual
  pub mean : WorldState → Scene → PlainNode → Option Plain → Trace
  mean w s (node k plural form) i = form_mean w s k plural form i

  -- what gives values of this kind, one or any number
  pub form_mean : WorldState → Scene → PlainKind → Bool → PlainForm → Option Plain → Trace
  form_mean w s k plural (numeral p n) i = one (integer n)
  form_mean w s k plural (literal p t) i = one (words t)
  form_mean w s k plural (it p) i = given i
  form_mean w s k plural (phrase p (head.Property id) a f o) i = singly plural p (filtered w s p f (argued w s a (λ x. over w s p o (λ v. placed p (prop id x v w s)) None i) i))
  form_mean w s k plural (phrase p (head.Aggregate g) a f o) i = singly plural p (filtered w s p f (argued w s a (λ x. aggregated (fold_of g k a) p x (gathered w s o i)) i))
  form_mean w s k plural (body p b f o) i = singly plural p (filtered w s p f (over w s p o (mean w s b) i i))
  form_mean w s k plural (cast n cs) i = casted s cs (mean w s n i)
  form_mean w s k plural (unary p g n) i = prefixed g p (mean w s n i)
  form_mean w s k plural (chain n ls) i = chained w s ls (mean w s n i) i
  form_mean w s k plural (conditional p t y n) i = each (mean w s t i) (chosen (mean w s y i) (mean w s n i))
  form_mean w s k plural (tuple ns) i = tuple_mean w s ns i
  form_mean w s k plural (collection ns) i = collected w s ns i

  -- with the value of the argument, or without one
  pub argued : WorldState → Scene → HeldNode → (Option Plain → Trace) → Option Plain → Trace
  argued w s no_node t i = t None
  argued w s (a_node n) t i = each (mean w s n i) (λ x. t (Some x))

  -- with each value of the object, after a turn; once, with what stands in its place, where there is no object
  pub over : WorldState → Scene → Place → HeldNode → (Option Plain → Trace) → Option Plain → Option Plain → Trace
  over w s p no_node t instead i = t instead
  over w s p (a_node o) t instead i = each (mean w s o i) (λ v. turned p (t (Some v)))

  -- all values of the object
  pub gathered : WorldState → Scene → HeldNode → Option Plain → Trace
  gathered w s no_node i = none
  gathered w s (a_node o) i = mean w s o i

  -- the values that the filter keeps, if there is one
  pub filtered : WorldState → Scene → Place → HeldNode → Trace → Trace
  filtered w s p no_node t = t
  filtered w s p (a_node f) t = each t (sifted p (λ v. mean w s f (Some v)))

  -- the first operand, and then each sign with its operand, from the left
  pub chained : WorldState → Scene → LinkedNodes → Trace → Option Plain → Trace
  chained w s no_links first i = first
  chained w s (more_links ls p g n) first i = infixed g p (chained w s ls first i) (mean w s n i)

  pub tuple_mean : WorldState → Scene → Nodes → Option Plain → Trace
  tuple_mean w s no_nodes i = none
  tuple_mean w s (more_nodes ns n) i = last_behind w s ns (mean w s n i) i

  -- the tuples of some parts and a last one; each value of a part before the last costs a turn at that part's span
  pub last_behind : WorldState → Scene → Nodes → Trace → Option Plain → Trace
  last_behind w s no_nodes last i = last
  last_behind w s (more_nodes ns n) last i = each (last_behind w s ns (mean w s n i) i) (tupled (joining ns) (span_of_node n) last)

  -- the parts one after another
  pub collected : WorldState → Scene → Nodes → Option Plain → Trace
  collected w s no_nodes i = none
  collected w s (more_nodes ns n) i = follow (collected w s ns i) (mean w s n i)

-- Cited by private functions alone: the node of one form of tree, from what checking gives for its first part. Each stands so in Typing.
use Rattle.std.specs.Prelude.{true, false, List, [], Ok}
use Rattle.rel_lexer.specs.declared.place.Place.{Place}
use Rattle.rel_lexer.specs.declared.operator.UnarySign.{UnarySign}
use Rattle.rel_grammar.specs.declared.casts.CastTo.{CastTo}
use Rattle.rel_types.specs.Plans.{PlainNode, node, kind_of, cast, unary, tuple, collection, Nodes, first_kind, tuple_kind, any_plural}
use Rattle.rel_types.specs.Outcomes.{Checked, after, defined, fitting}
use Rattle.rel_lexer.specs.OperatorWords.{unary_words}
use Rattle.rel_types.specs.Signs.{unary_kind}
use Rattle.rel_types.specs.Typing.{typed_casts}

abbrev pub casted : PlainNode → List CastTo → Checked PlainNode
casted first cs =
    after (typed_casts (record { kind = kind_of first; steps = [] }) cs) (λ done.
    Ok (node done.kind false (cast first done.steps)))

abbrev pub signed : Place → UnarySign → PlainNode → Checked PlainNode
signed p s right =
    after (defined p (unary_words s) (unary_kind s (kind_of right))) (λ k.
    Ok (node k false (unary p s right)))

abbrev pub tupled : Place → Nodes → Checked PlainNode
tupled span ns = after (fitting span (tuple_kind ns)) (λ k. Ok (node k (any_plural ns) (tuple ns)))

abbrev pub collected : Place → Nodes → Checked PlainNode
collected span ns = after (fitting span (first_kind ns)) (λ k. Ok (node k true (collection ns)))

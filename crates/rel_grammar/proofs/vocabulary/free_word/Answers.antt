use Rattle.std.proofs.Common.{◌∙◌, ap}
use Rattle.std.specs.List.{list_any}
use Rattle.rel_grammar.specs.Shapes.{all_reserved}
use Rattle.rel_grammar.proofs.WordShapes.{free_kind, taken_kind, spelled}
use Rattle.rel_grammar.proofs.vocabulary.free_word.Goals as goal

pub returns : goal.returns
returns c = free_kind c.args.kind.now c.in-Word.text c.is_reserved.result c.in-Word.is (c.is_reserved.ensures ∙ ap (λ w. list_any (spelled w) all_reserved) c.as_str.ensures) c.if-is_reserved.false

pub returns-then-is_reserved : goal.returns-then-is_reserved
returns-then-is_reserved c = taken_kind c.args.kind.now c.in-Word.text c.is_reserved.result c.in-Word.is (c.is_reserved.ensures ∙ ap (λ w. list_any (spelled w) all_reserved) c.as_str.ensures) c.if-is_reserved.true

use Rattle.std.proofs.Common.{ℕ, ◌+◌, ◌-◌, ◌*◌, length}
use Rattle.rel_grammar.specs.declared.level.Level.{Level}
use Rattle.rel_grammar.specs.declared.level.Level.TheVariants as level
use Rattle.rel_grammar.specs.Shapes.{all_shaped}
use Rattle.rel_grammar.specs.Views.{shown, shown_links, shown_parts}
use Rattle.rel_grammar.specs.Reads.{CollectionGoesOn, TupleGoesOn, ChainGoesOn}
use Rattle.rel_grammar.proofs.+parser.Given as goal

-- how far a level stands above the parts below it
abbrev pub height : Level → ℕ
height level.Bar = 18
height level.Either = 16
height level.Both = 14
height level.Sum = 11
height level.Product = 9

-- how far the depth may still grow, and then the rules in their order
abbrev pub decreases-heads::bracketed : goal.decreases-heads::bracketed
decreases-heads::bracketed l = 32 * (66 - l.depth) + 0

abbrev pub decreases-heads::phrase : goal.decreases-heads::phrase
decreases-heads::phrase l = 32 * (66 - l.depth) + 1

abbrev pub decreases-heads::primary : goal.decreases-heads::primary
decreases-heads::primary l = 32 * (66 - l.depth) + 2

abbrev pub decreases-heads::term : goal.decreases-heads::term
decreases-heads::term l = 32 * (66 - l.depth) + 3

abbrev pub decreases-heads::reference : goal.decreases-heads::reference
decreases-heads::reference l = 32 * (66 - l.depth) + 4

abbrev pub decreases-parser::unary : goal.decreases-parser::unary
decreases-parser::unary l = 32 * (66 - l.depth) + 5

abbrev pub decreases-parser::relation : goal.decreases-parser::relation
decreases-parser::relation l = 32 * (66 - l.depth) + 13

abbrev pub decreases-parser::operand : goal.decreases-parser::operand
decreases-parser::operand l = 32 * (66 - l.depth) + height l.level

abbrev pub decreases-parser::chain : goal.decreases-parser::chain
decreases-parser::chain l = 32 * (66 - l.depth) + (height l.level + 1)

abbrev pub decreases-parser::choice : goal.decreases-parser::choice
decreases-parser::choice l = 32 * (66 - l.depth) + 20

abbrev pub decreases-parser::conditional : goal.decreases-parser::conditional
decreases-parser::conditional l = 32 * (66 - l.depth) + 19

abbrev pub decreases-parser::up_to : goal.decreases-parser::up_to
decreases-parser::up_to l = 32 * (66 - l.depth) + 23

abbrev pub decreases-parser::tuple : goal.decreases-parser::tuple
decreases-parser::tuple l = 32 * (66 - l.depth) + 21

abbrev pub decreases-parser::collection : goal.decreases-parser::collection
decreases-parser::collection l = 32 * (66 - l.depth) + 22

abbrev pub invariant-parser::collection-loop-parts : goal.invariant-parser::collection-loop-parts
invariant-parser::collection-loop-parts l = CollectionGoesOn l.fn.depth (all_shaped l.fn.rest) (shown_parts l.parts) (all_shaped l.next)

abbrev pub decreases-parser::collection-loop-parts : goal.decreases-parser::collection-loop-parts
decreases-parser::collection-loop-parts l = length (all_shaped l.next)

abbrev pub invariant-parser::tuple-loop-parts : goal.invariant-parser::tuple-loop-parts
invariant-parser::tuple-loop-parts l = TupleGoesOn l.fn.depth (all_shaped l.fn.rest) (shown_parts l.parts) (all_shaped l.next)

abbrev pub decreases-parser::tuple-loop-parts : goal.decreases-parser::tuple-loop-parts
decreases-parser::tuple-loop-parts l = length (all_shaped l.next)

abbrev pub invariant-parser::chain-loop-links : goal.invariant-parser::chain-loop-links
invariant-parser::chain-loop-links l = ChainGoesOn l.fn.level l.fn.depth (all_shaped l.fn.rest) (shown l.first) (shown_links l.links) l.place l.sign (all_shaped l.next)

abbrev pub decreases-parser::chain-loop-links : goal.decreases-parser::chain-loop-links
decreases-parser::chain-loop-links l = length (all_shaped l.next)

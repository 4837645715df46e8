use Rattle.std.proofs.Common.{◌≡◌, ◌<◌, ◌∙◌, length, arith, refl, false}
use Rattle.std.proofs.lemmas.Bool.Decides.{nat_tests}
use Rattle.std.proofs.lemmas.Result.{err_from_is_err_and}
use Rattle.rel_grammar.specs.declared.error.ParseError.TheVariants.{NoParse}
use Rattle.rel_grammar.specs.Machine.{whole}
use Rattle.rel_grammar.specs.Views.{shown}
use Rattle.rel_grammar.specs.Shapes.{all_shaped}
use Rattle.rel_grammar.proofs.Peeking.{length-shaped}
use Rattle.rel_grammar.proofs.Whole.{whole_found, whole_only, whole_left, whole_fault, whole_memory}
use Rattle.rel_grammar.proofs.question.parse.Goals as goal

pub returns-in_err-tree-clause-only : goal.returns-in_err-tree-clause-only
returns-in_err-tree-clause-only c = λ q is low. let p = err_from_is_err_and c.from_residual.result c.from_residual.ensures.1 in rw (p.1, p.2) (whole_memory c.args.tokens.now.end (all_shaped c.args.tokens.now.list) _ (rw c.as_slice.ensures at (c.in_err-tree.ensures whole refl)) q is low)

pub returns-in_err-tree-clause-refused : goal.returns-in_err-tree-clause-refused
returns-in_err-tree-clause-refused c = let p = err_from_is_err_and c.from_residual.result c.from_residual.ensures.1 in rw (p.1, p.2) (whole_fault c.args.tokens.now.end (all_shaped c.args.tokens.now.list) _ (rw c.as_slice.ensures at (c.in_err-tree.ensures whole refl)))

pub returns-then-is_empty-clause-found : goal.returns-then-is_empty-clause-found
returns-then-is_empty-clause-found c = let h : length (all_shaped c.in_ok-tree.left.now) ≡ 0 = let k : length c.in_ok-tree.left.now ≡ 0 = grind (arith, nat_tests, c.if-is_empty.ensures) in length-shaped false c.in_ok-tree.left.now ∙ k in whole_found (all_shaped c.args.tokens.now.list) (shown c.in_ok-tree.tree) (all_shaped c.in_ok-tree.left.now) h (rw c.as_slice.ensures at c.in_ok-tree.ensures)

pub returns-then-is_empty-clause-only : goal.returns-then-is_empty-clause-only
returns-then-is_empty-clause-only c = let h : length (all_shaped c.in_ok-tree.left.now) ≡ 0 = let k : length c.in_ok-tree.left.now ≡ 0 = grind (arith, nat_tests, c.if-is_empty.ensures) in length-shaped false c.in_ok-tree.left.now ∙ k in whole_only (all_shaped c.args.tokens.now.list) (shown c.in_ok-tree.tree) (all_shaped c.in_ok-tree.left.now) h (rw c.as_slice.ensures at c.in_ok-tree.ensures)

pub returns-else-is_empty-clause-only : goal.returns-else-is_empty-clause-only
returns-else-is_empty-clause-only c = λ q is low. let h : 0 < length (all_shaped c.in_ok-tree.left.now) = let k : 0 < length c.in_ok-tree.left.now = grind (arith, nat_tests, c.if-is_empty.ensures) in omega (arith, k, length-shaped false c.in_ok-tree.left.now) in whole_memory c.args.tokens.now.end (all_shaped c.args.tokens.now.list) (NoParse c.place_at.result) (whole_left c.args.tokens.now.end (all_shaped c.args.tokens.now.list) (shown c.in_ok-tree.tree) (all_shaped c.in_ok-tree.left.now) c.place_at.result h (rw c.as_slice.ensures at c.in_ok-tree.ensures) (c.place_at.ensures false)) q is low

pub returns-else-is_empty-clause-refused : goal.returns-else-is_empty-clause-refused
returns-else-is_empty-clause-refused c = let h : 0 < length (all_shaped c.in_ok-tree.left.now) = let k : 0 < length c.in_ok-tree.left.now = grind (arith, nat_tests, c.if-is_empty.ensures) in omega (arith, k, length-shaped false c.in_ok-tree.left.now) in whole_fault c.args.tokens.now.end (all_shaped c.args.tokens.now.list) (NoParse c.place_at.result) (whole_left c.args.tokens.now.end (all_shaped c.args.tokens.now.list) (shown c.in_ok-tree.tree) (all_shaped c.in_ok-tree.left.now) c.place_at.result h (rw c.as_slice.ensures at c.in_ok-tree.ensures) (c.place_at.ensures false))

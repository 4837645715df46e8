use Rattle.std.proofs.Common.{subst}
use Rattle.std.proofs.lemmas.Result.{err_from_is_err_and}
use Rattle.rel_grammar.specs.Answers.{IsTreeOf}
use Rattle.rel_grammar.specs.Trees.{Plain}
use Rattle.rel_grammar.specs.Views.{shown}
use Rattle.rel_eval.specs.Answers.{PreparesTree}
use Rattle.session_view.proofs.Preparing.{deep_tree, no_tokens, no_tree, shallow_tree}
use Rattle.session_view.proofs.prepare.prepare_session.Goals as goal

pub returns-in_err-tokens : goal.returns-in_err-tokens
returns-in_err-tokens c =
    let p = err_from_is_err_and c.from_residual.result c.from_residual.ensures.1 in
    rw p.1 (no_tokens c.args.text.now c.in_err-tokens.field-0.0 p.0 c.in_err-tokens.ensures.refusal p.2)

pub returns-in_err-tree : goal.returns-in_err-tree
returns-in_err-tree c =
    let p = err_from_is_err_and c.from_residual-in_err-tree.result c.from_residual-in_err-tree.ensures.1 in
    rw p.1 (no_tree c.args.text.now c.in_ok-tokens.tokens c.in_err-tree.field-0.0 p.0 c.in_ok-tokens.ensures.tokens c.in_err-tree.ensures.refused p.2)

pub returns-in-Some : goal.returns-in-Some
returns-in-Some c =
    let read = c.in_ok-tree.ensures.found in
    let is : IsTreeOf c.args.text.now (shown c.in_ok-tree.tree) = record { tokens = c.in_ok-tokens.tokens; lexed = c.in_ok-tokens.ensures.tokens; question = read.0; sentence = read.1; shallow = read.2; tree_is = read.3 } in
    deep_tree c.args.text.now (shown c.in_ok-tree.tree) c.in-Some.place is c.in-Some.ensures

pub returns : goal.returns
returns c =
    let read = c.in_ok-tree.ensures.found in
    let is : IsTreeOf c.args.text.now (shown c.in_ok-tree.tree) = record { tokens = c.in_ok-tokens.tokens; lexed = c.in_ok-tokens.ensures.tokens; question = read.0; sentence = read.1; shallow = read.2; tree_is = read.3 } in
    shallow_tree c.args.text.now (shown c.in_ok-tree.tree) c.prepare_tree.result is c.in_default.ensures
    (subst (λ (t : Plain). PreparesTree t c.prepare_tree.result) c.in_ok-replaced.ensures c.prepare_tree.ensures)

-- A tree that is not well typed is refused with the checker's fault, and a text is what its tree is.
use Rattle.std.proofs.Common.{◌≡◌, ◌≢◌, ℕ, List, Result, None, Ok, Err, inr, subst}
use Rattle.rel_lexer.specs.declared.place.Place.{Place}
use Rattle.rel_grammar.specs.Trees.{Plain}
use Rattle.rel_grammar.specs.Answers.{IsTreeOf}
use Rattle.rel_types.specs.declared.error.TypeError.{TypeError}
use Rattle.rel_types.specs.declared.error.TypeError.TheVariants as typing
use Rattle.rel_types.specs.Outcomes.{Fails}
use Rattle.rel_types.specs.Typing.{typed}
use Rattle.rel_eval.specs.declared.refusal.Refusal.{Refusal}
use Rattle.rel_eval.specs.declared.refusal.Refusal.TheVariants.{At, NotDefined, Memory}
use Rattle.rel_trace.specs.declared.kind.RelKind.{RelKind}
use Rattle.rel_eval.specs.declared.question.Question.{Question}
use Rattle.rel_eval.specs.Answers.{Prepares, PreparesTree}
use Rattle.rel_eval.specs.Refusals.{IsRefusalOfChecker, IsTypeRefusal}

-- a refusal of the checker's for one thing, at one place, is no want of memory
no_want : (e : TypeError) (k : RelKind) (p : Place) → IsTypeRefusal e k p → e ≢ typing.Memory
no_want e k p is same = let Refused : TypeError → Type 0 = λ x. IsTypeRefusal x k p in subst Refused same is

abbrev undefined_error : Place → List ℕ → TypeError
undefined_error p words = typing.NotDefined p words

defined_is_no_want : (p : Place) (words : List ℕ) → undefined_error p words ≢ typing.Memory
defined_is_no_want p words e = cc

pub untyped : (tree : Plain) (e : TypeError) (refusal : Refusal) → Fails (typed None tree) e → IsRefusalOfChecker e refusal → PreparesTree tree (Err refusal)
unfolding Fails
untyped tree e (At k p) faults is = (e, faults (no_want e k p is), is)
untyped tree e (NotDefined p words) faults is =
    let Faults : TypeError → Type 0 = λ x. x ≢ typing.Memory → typed None tree ≡ Err x in
    subst Faults is faults (defined_is_no_want p words)
untyped tree e Memory faults is = tt

pub of_tree : (text : List ℕ) (tree : Plain) (answer : Result Question Refusal) → IsTreeOf text tree → PreparesTree tree answer → Prepares text answer
of_tree text tree (Ok prepared) is answers = (tree, is, answers)
of_tree text tree (Err (At kind place)) is answers = inr (inr (tree, is, answers))
of_tree text tree (Err (NotDefined place words)) is answers = (tree, is, answers)
of_tree text tree (Err Memory) is answers = tt

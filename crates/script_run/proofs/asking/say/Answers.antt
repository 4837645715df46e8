use Rattle.std.proofs.Common.{ℕ, List, Ok, Err, ap, refl, subst, sym, inl, ◌∙◌}
use Rattle.desk_base.specs.Counts.{CountsIf}
use Rattle.bf_machine.proofs.Looking.{OnlyLooks-refl}
use Rattle.rel_types.specs.Plans.{is_plural}
use Rattle.rel_eval.specs.Answers.{Prepares}
use Rattle.rel_eval.specs.Questions.{question, plan_of}
use Rattle.script_run.proofs.Asked.{says_question}
use Rattle.script_run.proofs.asking.say.Goals as goal

pub returns-in-Ok : goal.returns-in-Ok
returns-in-Ok g c =
    let plan = plan_of c.in-Ok.question in
    let P : List ℕ → Type 0 = λ t. Prepares t (Ok c.in-Ok.question) in
    let e = c.one_text.ensures in
    record {
      says = inl (
        question plan,
        subst P (c.as_bytes.ensures.value ∙ c.as_str.ensures) c.in-Ok.ensures,
        says_question (is_plural plan) (g.M.Machine.told c.args.machine.now).world c.args.kept.now.scene plan _ _ _ (λ p. let h = e.plural p in (h.0, ap (λ m. (g.M.Machine.told m).looked) h.1)) e.words,
      );
      only = e.looks;
      cause = e.cause;
    }

pub returns-in-Err : goal.returns-in-Err
returns-in-Err g c =
    let P : List ℕ → Type 0 = λ t. Prepares t (Err c.in-Err.refusal) in
    let faults = (g.M.Machine.told c.args.machine.now).faults in
    record {
      says = c.unread.ensures.reads c.args.expression.now (subst P (c.as_bytes.ensures.value ∙ c.as_str.ensures) c.in-Err.ensures) _ _ _;
      only = OnlyLooks-refl _;
      cause = subst (λ failed. CountsIf failed faults faults) (sym c.unread.ensures.failed) refl;
    }

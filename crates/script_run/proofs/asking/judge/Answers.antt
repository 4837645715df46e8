use Rattle.std.proofs.Common.{ℕ, List, Ok, Err, ap, refl, subst, sym, inl, ◌∙◌}
use Rattle.rel_value.specs.Plain.{booleans}
use Rattle.desk_base.specs.Counts.{CountsIf}
use Rattle.bf_machine.proofs.Looking.{OnlyLooks-refl}
use Rattle.rel_types.specs.Plans.{is_plural, kind_of}
use Rattle.rel_types.specs.Alike.{same_kind}
use Rattle.rel_eval.specs.Answers.{Prepares}
use Rattle.rel_eval.specs.Questions.{question, plan_of}
use Rattle.script_run.proofs.Asked.{judges_kind, judges_question}
use Rattle.script_run.proofs.asking.judge.Goals as goal

pub returns-in-Ok : goal.returns-in-Ok
returns-in-Ok g c =
    let plan = plan_of c.in-Ok.question in
    let P : List ℕ → Type 0 = λ t. Prepares t (Ok c.in-Ok.question) in
    let e = c.truth.ensures in
    let world = (g.M.Machine.told c.args.machine.now).world in
    record {
      judges = inl (
        question plan,
        subst P (c.as_bytes.ensures.value ∙ c.as_str.ensures) c.in-Ok.ensures,
        judges_question (is_plural plan) world c.args.kept.now.scene plan _ _ _ (λ p. let h = e.plural p in (h.0, ap (λ m. (g.M.Machine.told m).looked) h.1))
            (λ p. judges_kind (same_kind (kind_of plan) booleans) world c.args.kept.now.scene plan _ _ _ (λ s. let h = e.other p s in (h.0, ap (λ m. (g.M.Machine.told m).looked) h.1)) (e.judges p)),
      );
      only = e.looks;
      cause = e.cause;
    }

pub returns-in-Err : goal.returns-in-Err
returns-in-Err g c =
    let P : List ℕ → Type 0 = λ t. Prepares t (Err c.in-Err.refusal) in
    let faults = (g.M.Machine.told c.args.machine.now).faults in
    record {
      judges = c.unread_test.ensures.reads c.args.test.now (subst P (c.as_bytes.ensures.value ∙ c.as_str.ensures) c.in-Err.ensures) _ _ _;
      only = OnlyLooks-refl _;
      cause = subst (λ failed. CountsIf failed faults faults) (sym c.unread_test.ensures.failed) refl;
    }

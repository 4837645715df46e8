use Rattle.std.proofs.Common.{◌+◌, length, inl, inr, refl, sym, ap, subst, ◌∙◌, Ok, Some, w64}
use Rattle.std.proofs.lemmas.Int.{to_z-of_z}
use Rattle.fix_site.specs.declared.action.Action.{Action}
use Rattle.agent_text.specs.Histories.{rows_at}
use Rattle.agent_attempt.specs.declared.found.Found.TheVariants.{Yes, No, Failed, Memory}
use Rattle.agent_attempt.specs.Attempts.{new_attempt}
use Rattle.agent_attempt.specs.ActionContents.{content_of}
use Rattle.agent_attempt.specs.FoundContents.{shown_content, shown_if}
use Rattle.agent_core.specs.Inside.{state_of}
use Rattle.agent_state.specs.States.{with_histories}
use Rattle.agent_core.specs.Steps.{BeginsOne}
use Rattle.agent_core.proofs.Due.{asked_of}
use Rattle.agent_state.proofs.RowsAt.{found_rows}
use Rattle.agent_core.proofs.kept_state.KeptState.try_one.Goals as goal

pub returns-in-No : goal.returns-in-No
returns-in-No g c =
    let content = c.content_near-content.ensures ∙ ap (λ (a : Action). content_of a c.args.self.now.sites) c.action.ensures in
    (No, asked_of c.args.time.now c.args.self.now.name c.args.action.now _ _ _ _ _ _ _ No content refl c.in-No.is (inl (c.requires, c.wanted.ensures.wanted)), refl)

pub returns-in-Failed : goal.returns-in-Failed
returns-in-Failed g c =
    let content = c.content_near-content.ensures ∙ ap (λ (a : Action). content_of a c.args.self.now.sites) c.action.ensures in
    (Failed, asked_of c.args.time.now c.args.self.now.name c.args.action.now _ _ _ _ _ _ _ Failed content refl c.in-Failed.is (inl (c.requires, c.wanted.ensures.wanted)), refl)

pub returns-in-Memory : goal.returns-in-Memory
returns-in-Memory g c =
    let content = c.content_near-content.ensures ∙ ap (λ (a : Action). content_of a c.args.self.now.sites) c.action.ensures in
    (Memory, asked_of c.args.time.now c.args.self.now.name c.args.action.now _ _ _ _ _ _ _ Memory content refl c.in-Memory.is (inl (c.requires, c.wanted.ensures.wanted)), refl)

pub returns-in-Ok : goal.returns-in-Ok
returns-in-Ok g c =
    let action : Action = c.args.action.now in
    let content = c.content_near-content.ensures ∙ ap (λ (a : Action). content_of a c.args.self.now.sites) c.action.ensures in
    let rows = c.rows_of-rows.ensures.value ∙ found_rows c.rows_near.result (rows_at c.action-2.result.now.id c.args.marked.now) c.rows_near.ensures.value ∙ ap (λ (a : Action). rows_at a.id c.args.marked.now) c.action-2.ensures in
    let asked = asked_of c.args.time.now c.args.self.now.name action _ _ _ _ _ _ _ Yes content refl c.in-Yes.is (inl (c.requires, c.wanted.ensures.wanted)) in
    let offset = to_z-of_z w64 c.offset.result (record { sfits = c.offset.type_inv }) ∙ c.offset.ensures.value in
    let own = shown_content c.in-Some.content in (
      Yes,
      asked,
      subst (λ o. BeginsOne c.args.time.now (with_histories c.args.marked.now (state_of c.args.self.now)) action o (Ok (Some c.in-Ok.attempt))) (ap shown_if (sym c.in-Some.is) ∙ content)
          (inr (
            c.in-Ok.attempt,
            refl,
            c.in-Ok.ensures.begun ∙ (λ j. new_attempt action own (length (rows j) + 1) (offset j)),
          )),
    )

use Rattle.std.proofs.Common.{length, refl, sym, subst, ◌∙◌}
use Rattle.agent_core.specs.declared.kept_state.KeptState.{KeptState}
use Rattle.agent_core.specs.Inside.{state_of}
use Rattle.agent_state.specs.States.{State, saved_of, text_of}
use Rattle.agent_core.specs.Devices.{devices}
use Rattle.agent_core.specs.Turns.{LastSave}
use Rattle.agent_core.proofs.Flowing.{finishes_changed, finishes_reported, within_more}
use Rattle.agent_core.proofs.Reporting.{report_within}
use Rattle.agent_core.proofs.kept_state.KeptState.finish.Goals as goal

pub save_last-requires-then-changed-clause-within : goal.save_last-requires-then-changed-clause-within
save_last-requires-then-changed-clause-within g c =
    let a : KeptState = c.args.self.now in
    within_more (length (text_of (state_of a))) _ _ _ (c.saved_texts_are_short.ensures (saved_of (state_of a)) c.requires.sound.sound.saved) c.requires.spare.text

pub save_last-requires-clause-within : goal.save_last-requires-clause-within
save_last-requires-clause-within g c =
    let a : KeptState = c.args.self.now in
    let b : KeptState = c.report.new.self in
    report_within (length (text_of (state_of b))) c.args.spare.text.capacity (state_of a) (state_of b) c.report.ensures.state (c.saved_texts_are_short.ensures (saved_of (state_of b)) c.report.ensures.sound.sound.saved) c.requires.spare.text

pub returns-then-can_report-clause-finishes : goal.returns-then-can_report-clause-finishes
returns-then-can_report-clause-finishes g c machine =
    let old = g.P.Pocket.told c.args.pocket.now in
    let new = g.P.Pocket.told c.save_last.new.pocket in
    finishes_reported c.args.changed c.args.would (state_of c.args.self.now) (state_of c.report.new.self) (devices machine old) c.save_last.result (state_of c.save_last.new.self) (devices machine new)
    (sym c.can_report.ensures ∙ c.if-can_report.true) c.report.ensures.state (c.save_last.ensures.saves machine)

pub returns-then-changed-clause-finishes : goal.returns-then-changed-clause-finishes
returns-then-changed-clause-finishes g c machine =
    let old = devices machine (g.P.Pocket.told c.args.pocket.now) in
    let new = devices machine (g.P.Pocket.told c.save_last-then-changed.new.pocket) in
    let s : State = state_of c.args.self.now in
    let s2 : State = state_of c.save_last-then-changed.new.self in
    finishes_changed c.args.changed c.args.would s old c.save_last-then-changed.result s2 new (sym c.can_report.ensures ∙ c.if-can_report.false)
    (subst (λ b. LastSave b c.args.would s old c.save_last-then-changed.result s2 new) (sym c.if-changed.true) (c.save_last-then-changed.ensures.saves machine))

pub returns-clause-finishes : goal.returns-clause-finishes
returns-clause-finishes g c machine =
    let old = devices machine (g.P.Pocket.told c.args.pocket.now) in
    let s : State = state_of c.args.self.now in
    finishes_changed c.args.changed c.args.would s old c.args.would s old (sym c.can_report.ensures ∙ c.if-can_report.false)
    (subst (λ b. LastSave b c.args.would s old c.args.would s old) (sym c.if-changed.false) (refl, refl, refl))

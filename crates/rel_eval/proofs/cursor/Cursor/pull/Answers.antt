use Rattle.std.proofs.Common.{refl, sym, subst}
use Rattle.rel_eval.specs.declared.cursor.Pulled.TheVariants as pulled
use Rattle.rel_eval.specs.declared.cursor.State.{State}
use Rattle.rel_eval.specs.Cursors.{AsState, cursor_rest}
use Rattle.rel_eval.proofs.Drawn.{open_draws, as_open, over_draws, erred_draws, shut_draws}
use Rattle.rel_eval.proofs.Nearer.{weighs}
use Rattle.rel_eval.proofs.cursor.Cursor.pull.Goals as goal

pub returns-clause-goes : goal.returns-clause-goes
returns-clause-goes g c = λ w h.
    open_draws _ _ _ _ _ _ _ c.into_pulled-pulled.result c.args.self.now.state c.state-self.result c.in-Open.is c.state-self.ensures (c.step-step.ensures.steps.goes w h) c.into_pulled-pulled.ensures.meets

pub returns-clause-again : goal.returns-clause-again
returns-clause-again g c = as_open c.args.self.now.state c.into_pulled-pulled.result c.in-Open.is c.into_pulled-pulled.ensures.not_closed

pub returns-clause-still : goal.returns-clause-still
returns-clause-still g c = λ h. absurd (h c.in-Open.is)

pub returns-clause-nearer : goal.returns-clause-nearer
returns-clause-nearer g c = weighs _ _ _ _ _ c.into_pulled-pulled.result c.step-step.ensures.shape c.step-step.ensures.steps.within c.step-step.ensures.steps.falls c.into_pulled-pulled.ensures.nearer

pub returns-clause-cause : goal.returns-clause-cause
returns-clause-cause g c = rw c.into_pulled-pulled.ensures.failed c.step-step.ensures.steps.cause

pub returns-in-Over-clause-goes : goal.returns-in-Over-clause-goes
returns-in-Over-clause-goes g c = λ w h. over_draws _ c.args.self.now.state _ c.in-Over.is

pub returns-in-Erred-clause-goes : goal.returns-in-Erred-clause-goes
returns-in-Erred-clause-goes g c = λ w h. erred_draws _ c.args.self.now.state _ c.in-Erred.kind c.in-Erred.place c.in-Erred.is

pub returns-in-Shut-clause-goes : goal.returns-in-Shut-clause-goes
returns-in-Shut-clause-goes g c = λ w h. shut_draws _ (cursor_rest w c.args.self.now) (cursor_rest w c.args.self.now)

pub returns-in-Over-clause-again : goal.returns-in-Over-clause-again
returns-in-Over-clause-again g c = subst (λ (x : State). AsState x pulled.End) (sym c.in-Over.is) refl

pub returns-in-Erred-clause-again : goal.returns-in-Erred-clause-again
returns-in-Erred-clause-again g c = subst (λ (x : State). AsState x (pulled.Error c.in-Erred.kind c.in-Erred.place)) (sym c.in-Erred.is) refl

pub returns-in-Shut-clause-again : goal.returns-in-Shut-clause-again
returns-in-Shut-clause-again g c = subst (λ (x : State). AsState x pulled.Closed) (sym c.in-Shut.is) refl

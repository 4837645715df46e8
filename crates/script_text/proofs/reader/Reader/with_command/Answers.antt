use Rattle.std.proofs.Common.{[], ◌∷◌, ◌++◌, refl, ap, ◌∙◌}
use Rattle.script_text.specs.declared.prefetch.Prefetch.{Prefetch}
use Rattle.script_text.specs.Trees.{more_statements}
use Rattle.script_text.specs.Views.{shown_statements}
use Rattle.script_text.proofs.Shown.{shown-Do}
use Rattle.script_text.proofs.Steps.{skip_step, fetch_step, act_step, begin_step, new_file}
use Rattle.script_text.proofs.reader.Reader.with_command.Goals as goal

pub returns-in-Nothing : goal.returns-in-Nothing
returns-in-Nothing c = λ a b s. rw c.in-Nothing.is (skip_step a b c.args.number c.args.self s)

pub returns-in_ok-push-in-Prefetch : goal.returns-in_ok-push-in-Prefetch
returns-in_ok-push-in-Prefetch c = λ a b s. rw c.in-Prefetch.is (fetch_step a b c.args.number c.in-Prefetch.source c.args.self _ s (c.in_ok-push-in-Prefetch.ensures ∙ ap (λ (x : Prefetch). c.args.self.prefetches ++ x ∷ []) c.at.ensures) refl refl refl)

pub returns-in_ok-push-in-Do : goal.returns-in_ok-push-in-Do
returns-in_ok-push-in-Do c = λ a b s. rw c.in-Do.is (act_step a b c.args.number c.in-Do.what c.args.self _ s refl refl (c.in_ok-push-in-Do.ensures ∙ ap (more_statements (shown_statements c.args.self.statements)) (shown-Do c.args.number c.in-Do.what)) refl)

pub returns-in-Create : goal.returns-in-Create
returns-in-Create c = λ a b s. rw c.in-Create.is (begin_step a b c.args.number c.in-Create.word c.args.self _ s refl refl refl (new_file c.args.number c.in-Create.word c.new.result c.new.ensures))

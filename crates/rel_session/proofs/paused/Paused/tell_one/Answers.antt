use Rattle.std.proofs.Common.{◌≡◌, List, [], refl, sym, append-nil, subst}
use Rattle.std.proofs.lemmas.Result.{err_from_is_err_and}
use Rattle.std.specs.declared.option.Option.{Option}
use Rattle.bf_machine.specs.Told.{Grows}
use Rattle.bf_world.specs.declared.key.Key.{Key}
use Rattle.bf_world.specs.declared.key.Key.TheVariants.{System}
use Rattle.rel_lexer.specs.declared.place.Place.{Place}
use Rattle.rel_trace.specs.Steps.{LooksAt}
use Rattle.rel_eval.specs.declared.cursor.Pulled.TheVariants as pulled
use Rattle.rel_eval.specs.Pulls.{Draws, Skips}
use Rattle.rel_trace.specs.Trace.{Stop, Error, Look, Trace, Ends, After}
use Rattle.rel_session.specs.Printed.{said_error}
use Rattle.rel_session.specs.Tellings.{Tells, ended, faulted}
use Rattle.rel_session.specs.Waiting.{left_of}
use Rattle.bf_machine.proofs.Telling.{CountsFailed-none, CountsFailed-one}
use Rattle.rel_session.proofs.Lasting.{drawn, drawn_somehow, drawn_value, stays_drawn, stays_faulted, step_at_value, step_at_end}
use Rattle.rel_session.proofs.Tellings.{told_error, told_fault, told_stop}
use Rattle.rel_session.proofs.paused.Paused.tell_one.Goals as goal

pub returns-in_err-say_error-in-Error-clause-told : goal.returns-in_err-say_error-in-Error-clause-told
unfolding left_of
returns-in_err-say_error-in-Error-clause-told g c =
    let p = err_from_is_err_and c.from_residual.result c.from_residual.ensures.1 in
    rw p.1 (stays_drawn _ _ _ _ _ _ _ _ c.in-Error.ensures.cause (drawn_somehow _ (left_of c.args.self.now.cursor) (left_of c.pull.new.self) (pulled.Error c.in-Error.kind c.in-Error.place) _ _ c.in-Error.ensures.goes))

-- the failed look is the next event
failed : (place : Place) (t : Trace) (looked looked' : Option (List Key)) (u : Trace) → Draws looked t (pulled.Failed place) looked' u
    → (keys : List Key) × Grows looked looked' keys × ((later : Trace) × Skips t keys later × LooksAt place later)
failed place t looked looked' u draws = (draws.0, draws.1, (u, draws.2.0, draws.2.1))

-- a trace that begins with a look there
abbrev looking : Place → Trace
looking place = After (Look place System) (Ends Stop)

pub returns-in_err-say_fault-in-Failed-clause-told : goal.returns-in_err-say_fault-in-Failed-clause-told
unfolding left_of
returns-in_err-say_fault-in-Failed-clause-told g c =
    let p = err_from_is_err_and c.from_residual-in_err-say_fault-in-Failed.result c.from_residual-in_err-say_fault-in-Failed.ensures.1 in
    let d = drawn _ (left_of c.args.self.now.cursor) _ _ (LooksAt c.in-Failed.place) (looking c.in-Failed.place) (System, Ends Stop, refl) (λ w is. failed _ _ _ _ _ (c.in-Failed.ensures.goes w is)) in
    rw p.1 (stays_faulted _ _ _ _ _ c.in-Failed.place _ _ c.in-Failed.ensures.cause d)

pub returns-in-Value-clause-told : goal.returns-in-Value-clause-told
unfolding left_of
returns-in-Value-clause-told g c =
    let before = left_of c.args.self.now.cursor in
    let now = left_of c.pull.new.self in
    step_at_value _ _ _ _ before now _ _ c.tell_value.result _ _ _ _ refl (drawn_value _ before now _ _ _ c.in-Value.ensures.goes) c.in-Value.ensures.cause c.tell_value.ensures

pub returns-in-End-clause-told : goal.returns-in-End-clause-told
unfolding left_of
returns-in-End-clause-told g c =
    let Said : Trace → Type 0 = λ t. Tells c.args.asking.offset c.args.self.now.span c.args.room t (ended []) in
    let d = drawn _ (left_of c.args.self.now.cursor) _ _ (λ t. t ≡ Ends Stop) (Ends Stop) refl (λ w is. let goes = c.in-End.ensures.goes w is in (goes.0, goes.1, (Ends Stop, goes.2.0, refl))) in
    step_at_end _ c.args.asking.offset c.args.self.now.span c.args.room _ _ _ _ (ended []) _ _ _ _ d (λ t is. subst Said (sym is) (told_stop _ _ _)) refl refl (sym (append-nil c.args.out.now)) (CountsFailed-none _ _ c.in-End.ensures.cause)

pub returns-in_ok-say_error-in-Error-clause-told : goal.returns-in_ok-say_error-in-Error-clause-told
unfolding left_of
returns-in_ok-say_error-in-Error-clause-told g c =
    let error = Ends (Error c.in-Error.kind c.in-Error.place) in
    let said = ended (said_error c.in-Error.kind c.in-Error.place) in
    let Said : Trace → Type 0 = λ t. Tells c.args.asking.offset c.args.self.now.span c.args.room t said in
    let d = drawn _ (left_of c.args.self.now.cursor) _ _ (λ t. t ≡ error) error refl (λ w is. let goes = c.in-Error.ensures.goes w is in (goes.0, goes.1, (error, goes.2.0, refl))) in
    step_at_end _ c.args.asking.offset c.args.self.now.span c.args.room _ _ _ _ said _ _ _ _ d (λ t is. subst Said (sym is) (told_error _ _ _ _ _)) refl refl c.in_ok-say_error-in-Error.ensures (CountsFailed-none _ _ c.in-Error.ensures.cause)

pub returns-in_ok-say_fault-in-Failed-clause-told : goal.returns-in_ok-say_fault-in-Failed-clause-told
unfolding left_of
returns-in_ok-say_fault-in-Failed-clause-told g c =
    let d = drawn _ (left_of c.args.self.now.cursor) _ _ (LooksAt c.in-Failed.place) (looking c.in-Failed.place) (System, Ends Stop, refl) (λ w is. failed _ _ _ _ _ (c.in-Failed.ensures.goes w is)) in
    step_at_end _ c.args.asking.offset c.args.self.now.span c.args.room _ _ _ _ (faulted c.in-Failed.place) _ _ _ _ d (λ t at. told_fault _ _ _ c.in-Failed.place t at) refl refl c.in_ok-say_fault-in-Failed.ensures (CountsFailed-one _ _ c.in-Failed.ensures.cause)

pub returns-in-Memory-clause-told : goal.returns-in-Memory-clause-told
unfolding left_of
returns-in-Memory-clause-told g c =
    stays_drawn _ _ _ _ _ _ _ _ c.in-Memory.ensures.cause (drawn_somehow _ (left_of c.args.self.now.cursor) (left_of c.pull.new.self) pulled.Memory _ _ c.in-Memory.ensures.goes)

pub returns-in-Closed-clause-told : goal.returns-in-Closed-clause-told
unfolding left_of
returns-in-Closed-clause-told g c =
    stays_drawn _ _ _ _ _ _ _ _ c.in-Closed.ensures.cause (drawn_somehow _ (left_of c.args.self.now.cursor) (left_of c.pull.new.self) pulled.Closed _ _ c.in-Closed.ensures.goes)

use Rattle.std.proofs.Common.{◌∷◌, [], List, ℕ, ap}
use Rattle.std.specs.Prelude.{get_or}
use Rattle.rel_session.specs.Lines.{lines_of}
use Rattle.session_view.specs.Asking.{table_devices}
use Rattle.session_view.proofs.Sessions.{ran_by}
use Rattle.session_view.proofs.session.answer_by.Goals as goal

pub returns-clause-ran : goal.returns-clause-ran
returns-clause-ran g c =
    let old = c.args.machine.now in
    let new = c.answer_lines.new.machine in
    ran_by c.answer_lines.result (lines_of c.args.input.now)
    (table_devices (g.W.Sink.told c.args.sink.now) (g.K.Keeper.told old.keeper.now) (g.C.Clock.told c.args.clock.now))
    (table_devices (g.W.Sink.told c.answer_lines.new.sink) (g.K.Keeper.told new.keeper.now) (g.C.Clock.told c.answer_lines.new.clock))
    old.looked.now new.looked.now (old.keeper.ghost_name ∷ old.looked.ghost_name ∷ []) (new.keeper.ghost_name ∷ new.looked.ghost_name ∷ [])
    c.answer_lines.ensures.ran

pub returns-clause-only : goal.returns-clause-only
returns-clause-only g c =
    let only = c.answer_lines.ensures.only in
    record { shown = only.looks.world; later = only.looks.later; sink = only.sink; clock = only.clock }

pub returns-clause-same_keeper : goal.returns-clause-same_keeper
returns-clause-same_keeper g c = ap (λ (l : List ℕ). get_or l 0 0) c.answer_lines.ensures.only.looks.holds

pub returns-clause-same_looked : goal.returns-clause-same_looked
returns-clause-same_looked g c = ap (λ (l : List ℕ). get_or l 1 0) c.answer_lines.ensures.only.looks.holds

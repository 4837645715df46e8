use Rattle.std.proofs.Common.{◌∷◌, [], ◌++◌, ap, ◌∙◌}
use Rattle.rel_session.proofs.Answering.{pauses_behind}
use Rattle.rel_session.proofs.session.Session.pause.Goals as goal

pub returns-clause-paused : goal.returns-clause-paused
returns-clause-paused c world =
    pauses_behind world _ _ _ _ c.args.question c.make_room.ensures.page c.requires (c.in_ok-push.ensures.items ∙ ap (λ l. l ++ c.args.question ∷ []) c.make_room.ensures.last)

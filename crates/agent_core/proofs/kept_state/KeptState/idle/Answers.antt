use Rattle.std.proofs.Common.{sym, subst}
use Rattle.agent_core.specs.declared.kept_state.KeptState.{KeptState}
use Rattle.agent_core.specs.Inside.{IsSoundKept}
use Rattle.agent_core.proofs.MarkedTurns.{marks_on, without_marks}
use Rattle.agent_core.proofs.kept_state.KeptState.idle.Goals as goal

pub returns-in_default-clause-sound : goal.returns-in_default-clause-sound
returns-in_default-clause-sound g c =
    let b : KeptState = c.take_spare.new.self in
    let before = c.args.marked.before.items in
    subst IsSoundKept (sym c.unmark.ensures) (without_marks before b (marks_on c.args.self.now b before c.take_spare.ensures.state c.take_spare.ensures.sound c.requires))

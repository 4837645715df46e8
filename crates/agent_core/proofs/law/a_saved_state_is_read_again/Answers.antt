use Rattle.agent_state.specs.States.{saved_of}
use Rattle.agent_core.proofs.Reopening.{opened_again}
use Rattle.agent_core.proofs.law.a_saved_state_is_read_again.Goals as goal

pub returns-clause-opened : goal.returns-clause-opened
returns-clause-opened c = λ s agent sound opens. opened_again c.a_saved_text_is_read_again.ensures s agent sound opens

pub returns-clause-read : goal.returns-clause-read
returns-clause-read c = λ s answer sound reads. c.a_saved_text_is_read_again.ensures (saved_of s) answer sound.saved reads

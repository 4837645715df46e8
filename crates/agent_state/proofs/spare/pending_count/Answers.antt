use Rattle.std.proofs.Common.{rules, ◌∙◌}
use Rattle.std.proofs.lemmas.Iterator.{YieldsList-from_slice}
use Rattle.std.proofs.lemmas.Iterator.Consumers.{YieldsList-from_filter, count_from_yields_List}
use borrow.Author.Tests.{tests}
use Rattle.agent_text.specs.declared.history.History.{History}
use Rattle.agent_state.proofs.Pending.{pending_shown}
use Rattle.agent_state.proofs.spare.pending_count.Goals as goal

pub returns : goal.returns
returns c =
    count_from_yields_List c.filter.result c.count.result c.count.ensures.ran
    (YieldsList-from_filter _ (λ (h : History). h.pending) (YieldsList-from_slice c.args.histories.now (cc)) c.filter.ensures.closure (λ x b q k. search (rules, tests)))
    ∙ pending_shown c.args.histories.now

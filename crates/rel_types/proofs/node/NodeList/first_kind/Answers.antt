use Rattle.std.proofs.Common.{arith, sym}
use Rattle.rel_types.proofs.NodeLists.{first_shown, kind-shown}
use Rattle.rel_types.proofs.node.NodeList.first_kind.Goals as goal

pub returns-in-len1-up : goal.returns-in-len1-up
returns-in-len1-up c = first_shown c.args.self.now c.as_slice.result.now c.first-item.result _ c.as_slice.ensures.value (omega (arith, c.in-len1-up.len_at_least)) c.first-item.is (sym (kind-shown c.first-item.result))

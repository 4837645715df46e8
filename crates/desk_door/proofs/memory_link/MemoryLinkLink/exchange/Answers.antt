use Rattle.std.proofs.Common.{inl, ap, refl, ◌∙◌}
use Rattle.desk_base.specs.CallStates.{one_call, one_fault}
use Rattle.desk_door.specs.Memory.{LinkState}
use Rattle.desk_door.proofs.memory_link.MemoryLinkLink.exchange.Goals as goal

pub returns-then-fails-clause-memory : goal.returns-then-fails-clause-memory
returns-then-fails-clause-memory c =
    let calls = ap (λ (l : LinkState). l.calls) c.self.view_is in
    (c.fault.ensures.counted ∙ ap one_fault (c.begin-fails.ensures.counted ∙ ap one_call calls), inl (rw c.fault.ensures.counted (c.if-fails.ensures.listed.0 refl)))

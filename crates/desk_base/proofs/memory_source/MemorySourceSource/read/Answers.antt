use Rattle.std.proofs.Common.{◌≡◌, ℕ, ◌+◌, List, ◌++◌, length, take, drop, arith, ap, take-append-drop}
use Rattle.std.proofs.lemmas.Grind.{common_steps}
use Rattle.desk_base.specs.MemoryStates.{SourceState}
use Rattle.desk_base.proofs.memory_source.MemorySourceSource.read.Goals as goal

-- what is left begins with what was copied, and goes on behind it
left_after : (at n : ℕ) (bytes copied rest : List ℕ) → copied ≡ take n (drop at bytes) → length copied ≡ n → drop at bytes ≡ take n (copied ++ rest) ++ drop (at + n) bytes
left_after at n bytes copied rest is len = grind (arith, common_steps, take-append-drop n (drop at bytes))

pub returns-clause-gives : goal.returns-clause-gives
returns-clause-gives c =
    let left = ap (λ (s : SourceState). s.left) c.self.view_is in
    rw (← left) (grind (arith, common_steps, left_after))

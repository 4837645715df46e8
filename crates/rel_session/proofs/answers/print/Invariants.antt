use Rattle.std.proofs.Common.{◌≡◌, ◌++◌, drop}
use Rattle.rel_session.specs.Printed.{printed}
use Rattle.rel_session.proofs.answers.print.Given as goal

-- what was printed so far, and what is still to be printed
abbrev pub invariant-loop-byte : goal.invariant-loop-byte
invariant-loop-byte l = l.fn.out ++ printed l.text ≡ l.out ++ printed (drop l.byte-index l.text)

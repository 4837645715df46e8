use Rattle.std.proofs.Common.{◌≡◌, ◌++◌, length}
use denote.Text.{Utf8}
use denote.Shadow.{shadow}
use Rattle.rel_print.specs.Pages.{quotes_escaped}
use Rattle.rel_print.proofs.escape.push_quotes_escaped.Given as goal

abbrev pub invariant-loop-front : goal.invariant-loop-front
invariant-loop-front l = shadow (Utf8 l.rest) × (l.out ++ quotes_escaped l.rest ≡ l.fn.out ++ quotes_escaped l.fn.text)

abbrev pub decreases-loop-front : goal.decreases-loop-front
decreases-loop-front l = length l.rest

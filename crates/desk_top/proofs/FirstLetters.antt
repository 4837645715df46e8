-- The first letters of commands, by which their words differ.
use Rattle.std.proofs.Common.{◌≡◌, ℕ, List, ◌∷◌, sym, ap, ◌∙◌}
use Rattle.desk_top.specs.declared.command.DeskCommand.{DeskCommand}
use Rattle.desk_top.specs.Commands.{Asks, words_of}

abbrev pub first_letter : List (List ℕ) → ℕ
first_letter ((letter ∷ letters) ∷ words) = letter
first_letter words = 0

pub first_letters : (words : List (List ℕ)) (k other : DeskCommand) → Asks words k → Asks words other → first_letter (words_of k) ≡ first_letter (words_of other)
first_letters words k other p q = ap first_letter (sym p.1 ∙ q.1)

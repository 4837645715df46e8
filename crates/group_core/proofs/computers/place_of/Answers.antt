use Rattle.std.proofs.Common.{rules}
use Rattle.std.specs.Ordering.{nat_cmp}
use Rattle.std.specs.Cmp.Lexicographic.{slice_cmp}
use Rattle.std.proofs.lemmas.Fn.{always_returns_same}
use Rattle.group_core.specs.declared.computers.Computer.{Computer}
use Rattle.group_core.specs.Lists.{computer_name}
use Rattle.group_core.proofs.Sorting.{searched}
use Rattle.group_core.proofs.computers.place_of.Goals as goal

pub returns : goal.returns
returns c =
    let facts = c.binary_search_by.ensures in
    let by_name = facts.position (λ (x : Computer). slice_cmp nat_cmp x.name c.args.name.now) (always_returns_same _ _ _ (λ a r g called. (search rules, search rules))) in
    searched computer_name c.args.computers.now c.args.name.now _ c.requires.ascending facts.bound by_name

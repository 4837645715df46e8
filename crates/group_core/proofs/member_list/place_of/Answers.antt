use Rattle.std.proofs.Common.{ℕ, List, rules}
use Rattle.std.specs.Ordering.{nat_cmp}
use Rattle.std.specs.Cmp.Lexicographic.{slice_cmp}
use Rattle.std.proofs.lemmas.Fn.{always_returns_same}
use Rattle.group_core.specs.Lists.{itself}
use Rattle.group_core.proofs.Sorting.{searched}
use Rattle.group_core.proofs.member_list.place_of.Goals as goal

pub returns : goal.returns
returns c =
    let facts = c.binary_search_by.ensures in
    let by_name = facts.position (λ (x : List ℕ). slice_cmp nat_cmp x c.args.name.now) (always_returns_same _ _ _ (λ a r g called. (search rules, search rules))) in
    searched itself c.args.names.now c.args.name.now _ c.requires facts.bound by_name

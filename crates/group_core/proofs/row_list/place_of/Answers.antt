use Rattle.std.proofs.Common.{rules}
use Rattle.std.specs.Ordering.{nat_cmp}
use Rattle.std.specs.Cmp.Lexicographic.{slice_cmp}
use Rattle.std.proofs.lemmas.Fn.{always_returns_same}
use Rattle.group_core.specs.declared.kept_row.KeptRow.{KeptRow}
use Rattle.group_core.specs.Lists.{row_name}
use Rattle.group_core.proofs.Sorting.{searched}
use Rattle.group_core.proofs.row_list.place_of.Goals as goal

pub returns : goal.returns
returns c =
    let facts = c.binary_search_by.ensures in
    let by_name = facts.position (λ (x : KeptRow). slice_cmp nat_cmp x.row.property c.args.property.now) (always_returns_same _ _ _ (λ a r g called. (search rules, search rules))) in
    searched row_name c.args.rows.now c.args.property.now _ c.requires facts.bound by_name

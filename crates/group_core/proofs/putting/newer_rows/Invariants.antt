use Rattle.std.proofs.Common.{◌≡◌, take}
use Rattle.std.specs.Prelude.{map, filter}
use Rattle.group_sample.specs.declared.sample.Sampled.{Sampled}
use Rattle.group_core.specs.Books.{is_newer}
use Rattle.group_core.specs.Keeping.{numbered}
use Rattle.group_core.specs.Lists.{one_of, row_name}
use Rattle.group_core.proofs.putting.newer_rows.Given as goal

-- those so far that are newer
abbrev pub invariant-loop-row : goal.invariant-loop-row
invariant-loop-row l =
    l.newer.items ≡ map (numbered l.sample.seq) (filter (λ (row : Sampled). is_newer l.sample.seq (one_of row_name row.property l.kept)) (take l.row-index l.row-items))

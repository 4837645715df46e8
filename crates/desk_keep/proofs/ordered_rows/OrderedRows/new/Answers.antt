use Rattle.std.proofs.Common.{◌∷◌, [], sym, subst, refl}
use Rattle.std.specs.Map.{values_of}
use Rattle.desk_keep.specs.Tables.{AreRows}
use Rattle.desk_keep.specs.Inside.{AreEntries, AreCounts}
use Rattle.desk_keep.proofs.Following.{AreRows-nil}
use Rattle.desk_keep.proofs.Counting.{no_counts}
use Rattle.desk_keep.proofs.ordered_rows.OrderedRows.new.Goals as goal

pub invariant_of-result : goal.invariant_of-result
invariant_of-result c =
    let empty = sym c.new.ensures.empty in record {
      rows = subst (λ es. AreRows (values_of es)) empty AreRows-nil;
      entries = subst AreEntries empty tt;
      tables = refl;
      counts = subst (λ es. AreCounts (0 ∷ 0 ∷ 0 ∷ 0 ∷ 0 ∷ 0 ∷ []) (values_of es)) empty no_counts;
    }

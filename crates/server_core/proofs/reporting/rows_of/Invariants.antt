use Rattle.std.proofs.Common.{◌≡◌, ◌∷◌, take}
use Rattle.std.specs.Prelude.{All, filter, map}
use Rattle.desk_keep.specs.declared.change.Change.TheVariants as change
use Rattle.desk_keep.specs.Calls.{IfTold}
use Rattle.desk_keep.specs.Forms.{Fits}
use Rattle.server_core.specs.AcceptedTables.{has_later, result_of}
use Rattle.server_core.proofs.reporting.rows_of.Given as goal

-- the computer, the digest and the later results of the rows so far
abbrev pub invariant-loop-row : goal.invariant-loop-row
invariant-loop-row g l =
    let old = g.K.Keeper.told l.fn.keeper in
    let new = g.K.Keeper.told l.keeper in
    record {
      kept : new.rows ≡ old.rows;
      steady : new.faults ≡ old.faults;
      fit : All Fits l.batch;
      batch : IfTold old.rows (λ rows. l.batch
          ≡ change.Computer l.report.computer ∷ change.Report l.report.computer l.report.seq l.fn.digest
          ∷ map (result_of l.report) (filter (has_later rows l.report) (take l.row-index l.report.rows)));
    }

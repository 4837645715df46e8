use Rattle.std.proofs.Common.{subst, sym}
use Rattle.std.proofs.lemmas.Result.{err_from_is_err_and}
use Rattle.office_text.specs.declared.book_reader.Entry.{Entry}
use Rattle.office_text.specs.OrderReadings.{ReadsEntry}
use Rattle.office_text.proofs.EntryLemmas.{refused_analysis, refused_group}
use Rattle.office_text.proofs.book_reader.read_entry.Goals as goal

pub returns-in_err-read_analysis-in-Analysis : goal.returns-in_err-read_analysis-in-Analysis
returns-in_err-read_analysis-in-Analysis c =
    let P : Entry → Type 0 = λ sort. ReadsEntry sort c.args.text.now c.from_residual.result in
    let p = err_from_is_err_and c.from_residual.result c.from_residual.ensures.1 in
    subst P (sym c.in-Analysis.is) (rw (p.1, p.2) (refused_analysis c.args.text.now _ c.in_err-read_analysis-in-Analysis.ensures.reads))

pub returns-in_err-read_group-in-Group : goal.returns-in_err-read_group-in-Group
returns-in_err-read_group-in-Group c =
    let P : Entry → Type 0 = λ sort. ReadsEntry sort c.args.text.now c.from_residual-in_err-read_group-in-Group.result in
    let p = err_from_is_err_and c.from_residual-in_err-read_group-in-Group.result c.from_residual-in_err-read_group-in-Group.ensures.1 in
    subst P (sym c.in-Group.is) (rw (p.1, p.2) (refused_group c.args.text.now _ c.in_err-read_group-in-Group.ensures))

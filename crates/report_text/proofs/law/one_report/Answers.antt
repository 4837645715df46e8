use Rattle.std.proofs.Common.{sym, ap, ◌∙◌}
use Rattle.line_forms.specs.LineStates.{lines_of}
use Rattle.report_text.proofs.LineLemmas.{lines_again}
use Rattle.report_text.proofs.ReportParts.{report_known}
use Rattle.report_text.proofs.law.one_report.Goals as goal

pub returns : goal.returns
returns c = λ report other good fine same.
    report_known report other good fine
    (sym (lines_again report c.lines_are_read_again.ensures.lines good) ∙ ap lines_of same ∙ lines_again other c.lines_are_read_again.ensures.lines fine)

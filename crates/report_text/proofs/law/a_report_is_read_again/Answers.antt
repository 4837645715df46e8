use Rattle.report_text.proofs.LineLemmas.{read_again}
use Rattle.report_text.proofs.SizeLemmas.{report_length}
use Rattle.report_text.proofs.law.a_report_is_read_again.Goals as goal

pub returns-clause-short : goal.returns-clause-short
returns-clause-short c = report_length

pub returns-clause-again : goal.returns-clause-again
returns-clause-again c = λ report answer good reads.
    read_again report answer c.lines_are_read_again.ensures.lines c.lines_are_read_again.ensures.unended good (report_length report good) reads

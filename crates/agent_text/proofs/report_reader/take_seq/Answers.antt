use Rattle.std.proofs.Common.{ℕ, ◌<◌, refl, arith}
use Rattle.std.proofs.lemmas.Bool.{iff_false}
use Rattle.line_forms.specs.Numbers.{IsId}
use Rattle.line_forms.proofs.Passing.{other_ahead, takes_it}
use Rattle.report_text.specs.Reports.{seq_line}
use Rattle.report_text.proofs.ReportParts.{seq_one}
use Rattle.agent_text.specs.PartReadings.{IsLater}
use Rattle.agent_text.proofs.report_reader.take_seq.Goals as goal

pub returns-then-seq-next : goal.returns-then-seq-next
returns-then-seq-next c =
    let Can : ℕ → Type 0 = λ seq. IsId seq × IsLater c.args.before.now seq × (seq < c.args.next) in (
      refl,
      other_ahead Can seq_line c.args.lines.now c.in_ok-line_ahead.field-0.now c.in_ok-line_ahead.ensures.0 c.in_ok-seq.seq
          (λ seq fits e. seq_one seq c.in_ok-seq.seq fits.0 c.in_ok-seq.ensures.0 e) c.in_ok-line_ahead.ensures.1 c.in_ok-seq.ensures.1
          (λ fits. absurd (omega (arith, fits.2, c.if-seq-next.true))),
    )

pub returns-then-not-is_later : goal.returns-then-not-is_later
returns-then-not-is_later c =
    let Can : ℕ → Type 0 = λ seq. IsId seq × IsLater c.args.before.now seq × (seq < c.args.next) in (
      refl,
      other_ahead Can seq_line c.args.lines.now c.in_ok-line_ahead.field-0.now c.in_ok-line_ahead.ensures.0 c.in_ok-seq.seq
          (λ seq fits e. seq_one seq c.in_ok-seq.seq fits.0 c.in_ok-seq.ensures.0 e) c.in_ok-line_ahead.ensures.1 c.in_ok-seq.ensures.1
          (λ fits. iff_false c.is_later.ensures c.if-not-is_later.true fits.1),
    )

pub returns : goal.returns
returns c = (
  (c.in_ok-seq.ensures.0, c.is_later.ensures.0 c.if-not-is_later.false, c.if-seq-next.false),
  takes_it seq_line c.args.lines.now c.skip_line.new.self c.in_ok-line_ahead.field-0.now c.in_ok-line_ahead.ensures.0 c.in_ok-seq.seq c.in_ok-line_ahead.ensures.1 c.in_ok-seq.ensures.1 c.skip_line.ensures,
)

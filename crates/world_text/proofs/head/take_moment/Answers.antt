use Rattle.std.proofs.Common.{w64}
use Rattle.std.proofs.lemmas.Int.{to_z-of_z}
use Rattle.line_forms.proofs.Passing.{takes_it}
use Rattle.line_forms.proofs.PlainLemmas.{moment_mag}
use Rattle.world_text.specs.Readings.{moment_line}
use Rattle.world_text.proofs.head.take_moment.Goals as goal

pub returns : goal.returns
returns c =
    let fits = to_z-of_z w64 c.in_ok-moment.moment (record { sfits = moment_mag c.in_ok-moment.moment c.in_ok-moment.ensures.0 }) in
    simp fits (
      c.in_ok-moment.ensures.0,
      takes_it moment_line c.args.lines.now c.skip_line.new.self c.in_ok-line_ahead.field-0.now c.in_ok-line_ahead.ensures.0 c.in_ok-moment.moment c.in_ok-line_ahead.ensures.1 c.in_ok-moment.ensures.1 c.skip_line.ensures,
    )

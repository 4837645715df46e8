use Rattle.std.proofs.Common.{w64}
use Rattle.std.proofs.lemmas.Int.{to_z-of_z}
use Rattle.line_forms.proofs.Passing.{takes_it}
use Rattle.world_text.specs.Readings.{offset_line}
use Rattle.world_text.proofs.FieldLemmas.{offset_mag}
use Rattle.world_text.proofs.head.take_offset.Goals as goal

pub returns : goal.returns
returns c =
    let fits = to_z-of_z w64 c.in_ok-offset.offset (record { sfits = offset_mag c.in_ok-offset.offset c.in_ok-offset.ensures.0 }) in
    simp fits (
      c.in_ok-offset.ensures.0,
      takes_it offset_line c.args.lines.now c.skip_line.new.self c.in_ok-line_ahead.field-0.now c.in_ok-line_ahead.ensures.0 c.in_ok-offset.offset c.in_ok-line_ahead.ensures.1 c.in_ok-offset.ensures.1 c.skip_line.ensures,
    )

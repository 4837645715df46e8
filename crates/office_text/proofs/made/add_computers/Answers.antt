use Rattle.std.proofs.Common.{◌++◌, ◌+◌, ◌/◌, ◌%◌, ap, ◌∙◌, arith}
use Rattle.line_forms.specs.Lines.{lines_text}
use Rattle.office_text.specs.Made.{computer_lines, minor}
use Rattle.office_text.proofs.MadeLemmas.{draw_more, place_more}
use Rattle.office_text.proofs.made.add_computers.Goals as goal

pub loop-place-preserved : goal.loop-place-preserved
loop-place-preserved c =
    let n = c.args.number in
    let place = c.loop-place.place in
    let next = draw_more n place c.loop-place.drawn c.next_draw-drawn.result c.loop-place.invariant.drawn c.next_draw-drawn.ensures in
    let written = c.in_ok-add_computer.ensures ∙ ap (λ d. c.loop-place.out ++ lines_text (computer_lines (place + 1) (d / 65536 % 2))) next in
    record {
      written = place_more (λ place. computer_lines place (minor n place)) place c.args.out.now c.loop-place.out c.add_computer.new.out c.loop-place.invariant.written written;
      drawn = next;
      small = omega (arith, c.next_draw-drawn.ensures);
    }

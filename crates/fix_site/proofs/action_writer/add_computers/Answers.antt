use Rattle.std.proofs.Common.{◌<◌, ◌++◌, ℕ, List, length, ap, ◌∙◌, arith}
use Rattle.line_forms.specs.Lines.{ended_line}
use Rattle.fix_site.specs.Actions.{computer_line}
use Rattle.fix_site.proofs.Writings.{line_written}
use Rattle.fix_site.proofs.action_writer.add_computers.Goals as goal

pub loop-name-preserved : goal.loop-name-preserved
loop-name-preserved c =
    let items : List (List ℕ) = c.as_slice-name-items.result.now in
    let inside : c.loop-name.name-index < length items = search (arith, c.loop-name-test.true) in
    line_written computer_line items c.loop-name.name-index c.name-item.result c.args.out.now c.loop-name.out c.write_rest.new.out inside c.loop-name.invariant
    (c.in_ok-write_rest.ensures ∙ ap (λ (n : List ℕ). c.loop-name.out ++ ended_line (computer_line n)) c.name-item.is)

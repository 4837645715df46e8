use Rattle.std.proofs.Common.{ℕ, List, [], ◌∷◌, Err, subst, ◌∙◌}
use Rattle.line_forms.specs.BadLines.{AnswersBadLine}
use Rattle.world_text.specs.declared.error.WorldError.{WorldError}
use Rattle.world_text.specs.Texts.{AreNamedLines, ReadsNamedWorld}
use Rattle.office_text.specs.OrderReadings.{computer_line}
use Rattle.office_text.proofs.ComputerLemmas.{computer_bad, computer_read}
use Rattle.office_text.proofs.PartLemmas.{ahead_again, in_text}
use Rattle.office_text.proofs.computer_reader.take_computer_order.Goals as goal

pub returns-in-Ok : goal.returns-in-Ok
returns-in-Ok c =
    let name = c.in-Some.names.computer.now in
    let relay = c.in-Some.names.relay.now in
    let taken = c.in_ok-taken.ensures in
    let one = c.skip_line.ensures (computer_line (name, relay)) c.in-Some.ensures.1.0 c.in-Some.ensures.1.1 in
    let again = ahead_again c.lines_make_the_text.ensures.lines c.lines_are_read_again.ensures.lines c.lines_are_read_again.ensures.unended
    c.skip_line.new.self c.take_to.new.lines taken.0 (in_text c.args.lines.now c.skip_line.new.self (computer_line (name, relay) ∷ []) c.requires one) taken.1 in
    computer_read c.args.orders.now name relay c.in_ok-name.name c.in_ok-relay.relay c.in-Ok.world taken.0 c.as_slice.result.now c.args.lines.now c.skip_line.new.self c.take_to.new.lines
    c.in-Some.ensures.0 again one taken.1 (c.as_slice.ensures ∙ taken.2) c.in-Ok.ensures c.in_ok-name.ensures c.in_ok-relay.ensures

pub returns-in-Err-BadLine : goal.returns-in-Err-BadLine
returns-in-Err-BadLine c =
    let name = c.in-Some.names.computer.now in
    let relay = c.in-Some.names.relay.now in
    let taken = c.in_ok-taken.ensures in
    let one = c.skip_line.ensures (computer_line (name, relay)) c.in-Some.ensures.1.0 c.in-Some.ensures.1.1 in
    let again = ahead_again c.lines_make_the_text.ensures.lines c.lines_are_read_again.ensures.lines c.lines_are_read_again.ensures.unended
    c.skip_line.new.self c.take_to.new.lines taken.0 (in_text c.args.lines.now c.skip_line.new.self (computer_line (name, relay) ∷ []) c.requires one) taken.1 in
    let A : List ℕ → Type 0 = λ t. AnswersBadLine (AreNamedLines name) t c.in-Err-BadLine.line in
    let R : WorldError → Type 0 = λ e. ReadsNamedWorld name c.as_slice.result.now (Err e) in
    let bad = subst A (c.as_slice.ensures ∙ taken.2) (subst R c.in-Err-BadLine.field-0-is c.in-Err-BadLine.ensures) in
    computer_bad c.args.orders.now name relay taken.0 c.args.lines.now c.skip_line.new.self c.take_to.new.lines c.in_ok-taken.taken.ended c.in-Err-BadLine.line c.number-first.result c.saturating_add.result
    c.in-Some.ensures.0 c.requires again one taken.1 taken.3 bad c.number-first.ensures c.saturating_add.ensures

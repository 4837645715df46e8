use Rattle.std.proofs.Common.{ℕ, List, Err, subst, ◌∙◌}
use Rattle.line_forms.specs.BadLines.{AnswersBadLine}
use Rattle.group_text.specs.declared.error.GroupError.{GroupError}
use Rattle.office_text.specs.OrderReadings.{AreEntryLines, ReadsEntry}
use Rattle.office_text.proofs.EntryLemmas.{entry_bad, entry_read}
use Rattle.office_text.proofs.PartLemmas.{ahead_again}
use Rattle.office_text.proofs.book_reader.take_entry.Goals as goal

pub returns-in-Ok : goal.returns-in-Ok
returns-in-Ok c before =
    let taken = c.in_ok-taken.ensures in
    let again = ahead_again c.lines_make_the_text.ensures.lines c.lines_are_read_again.ensures.lines c.lines_are_read_again.ensures.unended c.args.lines.now c.take_to.new.lines taken.0 c.requires taken.1 in
    entry_read before c.in-Some.entry c.in-Ok.order taken.0 c.as_slice.result.now c.args.lines.now c.take_to.new.lines again taken.1 (c.as_slice.ensures ∙ taken.2) c.in-Ok.ensures

pub returns-in-Err-BadAnalysis : goal.returns-in-Err-BadAnalysis
returns-in-Err-BadAnalysis c before =
    let taken = c.in_ok-taken.ensures in
    let again = ahead_again c.lines_make_the_text.ensures.lines c.lines_are_read_again.ensures.lines c.lines_are_read_again.ensures.unended c.args.lines.now c.take_to.new.lines taken.0 c.requires taken.1 in
    let A : List ℕ → Type 0 = λ t. AnswersBadLine (AreEntryLines c.in-Some.entry) t c.in-Err-BadAnalysis.line in
    let R : GroupError → Type 0 = λ e. ReadsEntry c.in-Some.entry c.as_slice.result.now (Err e) in
    let bad = subst A (c.as_slice.ensures ∙ taken.2) (subst R c.in-Err-BadAnalysis.field-0-is c.in-Err-BadAnalysis.ensures) in
    entry_bad before c.in-Some.entry c.in-Some.ensures.0 taken.0 c.in-Some.ensures.1 c.args.lines.now c.take_to.new.lines c.in_ok-taken.taken.ended c.in-Err-BadAnalysis.line c.number-first.result c.saturating_add.result
    c.in-Some.ensures.2 c.in-Some.ensures.3 c.requires again taken.1 taken.3 bad c.number-first.ensures c.saturating_add.ensures

pub returns-in-Err-BadGroup : goal.returns-in-Err-BadGroup
returns-in-Err-BadGroup c before =
    let taken = c.in_ok-taken.ensures in
    let again = ahead_again c.lines_make_the_text.ensures.lines c.lines_are_read_again.ensures.lines c.lines_are_read_again.ensures.unended c.args.lines.now c.take_to.new.lines taken.0 c.requires taken.1 in
    let A : List ℕ → Type 0 = λ t. AnswersBadLine (AreEntryLines c.in-Some.entry) t c.in-Err-BadGroup.line in
    let R : GroupError → Type 0 = λ e. ReadsEntry c.in-Some.entry c.as_slice.result.now (Err e) in
    let bad = subst A (c.as_slice.ensures ∙ taken.2) (subst R c.in-Err-BadGroup.field-0-is c.in-Err-BadGroup.ensures) in
    entry_bad before c.in-Some.entry c.in-Some.ensures.0 taken.0 c.in-Some.ensures.1 c.args.lines.now c.take_to.new.lines c.in_ok-taken.taken.ended c.in-Err-BadGroup.line c.number-first.result c.saturating_add-in-Err-BadGroup.result
    c.in-Some.ensures.2 c.in-Some.ensures.3 c.requires again taken.1 taken.3 bad c.number-first.ensures c.saturating_add-in-Err-BadGroup.ensures

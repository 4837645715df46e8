use Rattle.std.proofs.Common.{◌≡◌, All, List, drop, length, map, refl, sym, ap, subst, ◌∙◌}
use Rattle.std.proofs.lemmas.Result.{err_from_is_err_and}
use Rattle.report_text.specs.Reports.{end_line}
use Rattle.agent_text.specs.declared.history.History.{History}
use Rattle.agent_text.specs.declared.saved.Saved.{Saved}
use Rattle.agent_text.specs.Histories.{AreHistories, PlainHistory, shown_history}
use Rattle.agent_text.specs.HistoryLines.{history_text}
use Rattle.agent_text.specs.MadeTexts.{nothing_made}
use Rattle.agent_text.specs.MostBytes.{history_bytes}
use Rattle.agent_text.proofs.MadeLemmas.{made_none}
use Rattle.agent_text.specs.KeptTexts.{AreKept, KeepsText}
use Rattle.agent_text.specs.PartReadings.{TakesPending, around_of, untold}
use Rattle.std.proofs.lemmas.Bool.{iff_false}
use Rattle.agent_text.proofs.HistoryLists.{all_untold, are_histories}
use Rattle.line_forms.proofs.Parts.{not_taken, was_taken}
use Rattle.agent_text.proofs.SavedAnswers.{bad_frame, bad_histories, bad_reports, marked_good, marked_items, not_ended, not_over, saved_is}
use Rattle.agent_text.proofs.SavedLines.{saved_parts}
use Rattle.agent_text.proofs.SavedStops.{saved_of}
use Rattle.agent_text.proofs.reader.read_saved.Goals as goal

pub returns-in_err-frame : goal.returns-in_err-frame
returns-in_err-frame c =
    let p = err_from_is_err_and c.from_residual.result c.from_residual.ensures.1 in
    rw (p.1, p.2) (bad_frame c.args.computer.now c.args.text.now c.new-lines.result c.take_frame.new.lines _ c.new-lines.ensures c.requires c.in_err-frame.ensures)

pub returns-in_err-histories : goal.returns-in_err-histories
returns-in_err-histories c =
    let p = err_from_is_err_and c.from_residual-in_err-histories.result c.from_residual-in_err-histories.ensures.1 in
    rw (p.1, p.2) (bad_histories c.args.computer.now c.args.text.now (around_of c.in_ok-frame.frame) c.new-lines.result c.take_frame.new.lines c.take_histories.new.lines _ c.new-lines.ensures c.requires
    c.in_ok-frame.ensures.0 c.in_ok-frame.ensures.1 c.in_err-histories.ensures.taken)

pub take_pending-requires-clause-good : goal.take_pending-requires-clause-good
take_pending-requires-clause-good c =
    let A : List History → Type 0 = λ l. AreHistories (map shown_history l) in
    subst A (sym c.deref_mut.ensures.value) (are_histories c.in_ok-frame.frame.form (map shown_history c.in_ok-histories.histories.items) c.in_ok-histories.ensures.taken.0.each)

pub take_pending-requires-clause-told : goal.take_pending-requires-clause-told
take_pending-requires-clause-told c =
    let U : List History → Type 0 = λ l. untold (map shown_history l) ≡ map shown_history l in
    subst U (sym c.deref_mut.ensures.value) (all_untold c.in_ok-frame.frame.form (map shown_history c.in_ok-histories.histories.items) c.in_ok-histories.ensures.taken.0.each)

pub take_pending-requires-clause-kept : goal.take_pending-requires-clause-kept
take_pending-requires-clause-kept c = subst (All KeepsText) (sym c.deref_mut.ensures.value) c.in_ok-histories.ensures.kept

pub returns-in_err-reports : goal.returns-in_err-reports
returns-in_err-reports c =
    let p = err_from_is_err_and c.from_residual-in_err-reports.result c.from_residual-in_err-reports.ensures.1 in
    let T : List History → Type 0 = λ l. TakesPending (map shown_history l) c.take_histories.new.lines c.take_pending.new.lines (map shown_history c.take_pending.new.histories) in
    rw (p.1, p.2) (bad_reports c.args.computer.now c.args.text.now (around_of c.in_ok-frame.frame) c.in_ok-histories.histories.items (map shown_history c.take_pending.new.histories)
    c.new-lines.result c.take_frame.new.lines c.take_histories.new.lines c.take_pending.new.lines c.take_reports.new.lines _ c.new-lines.ensures c.requires
    c.in_ok-frame.ensures.0 c.in_ok-frame.ensures.1 c.in_ok-histories.ensures.taken (subst T c.deref_mut.ensures.value c.take_pending.ensures.taken) c.in_err-reports.ensures)

pub returns-then-not-take_exactly : goal.returns-then-not-take_exactly
returns-then-not-take_exactly c =
    let T : List History → Type 0 = λ l. TakesPending (map shown_history l) c.take_histories.new.lines c.take_pending.new.lines (map shown_history c.take_pending.new.histories) in
    not_ended c.args.computer.now c.args.text.now (around_of c.in_ok-frame.frame) c.in_ok-histories.histories.items (map shown_history c.take_pending.new.histories) c.in_ok-reports.reports.items
    c.new-lines.result c.take_frame.new.lines c.take_histories.new.lines c.take_pending.new.lines c.take_reports.new.lines c.take_exactly.new.self c.number.result c.new-lines.ensures c.requires
    c.in_ok-frame.ensures.0 c.in_ok-frame.ensures.1 c.in_ok-histories.ensures.taken (subst T c.deref_mut.ensures.value c.take_pending.ensures.taken) c.in_ok-reports.ensures
    (not_taken end_line c.take_reports.new.lines c.take_exactly.new.self c.take_exactly.result c.take_exactly.ensures c.if-not-take_exactly.true) c.number.ensures

pub returns-then-not-is_over : goal.returns-then-not-is_over
returns-then-not-is_over c =
    let T : List History → Type 0 = λ l. TakesPending (map shown_history l) c.take_histories.new.lines c.take_pending.new.lines (map shown_history c.take_pending.new.histories) in
    not_over c.args.computer.now c.args.text.now (around_of c.in_ok-frame.frame) c.in_ok-histories.histories.items (map shown_history c.take_pending.new.histories) c.in_ok-reports.reports.items
    c.new-lines.result c.take_frame.new.lines c.take_histories.new.lines c.take_pending.new.lines c.take_reports.new.lines c.take_exactly.new.self c.number-then-not-is_over.result c.new-lines.ensures c.requires
    c.in_ok-frame.ensures.0 c.in_ok-frame.ensures.1 c.in_ok-histories.ensures.taken (subst T c.deref_mut.ensures.value c.take_pending.ensures.taken) c.in_ok-reports.ensures
    (was_taken end_line c.take_reports.new.lines c.take_exactly.new.self c.take_exactly.result c.take_exactly.ensures c.if-not-take_exactly.false)
    (iff_false c.is_over.ensures c.if-not-is_over.true) c.number-then-not-is_over.ensures

pub from_vec-requires : goal.from_vec-requires
from_vec-requires c =
    let new : List History = c.take_pending.new.histories in
    let items = marked_items c.deref_mut.result.now (drop (length new) c.in_ok-histories.histories.items) new c.in_ok-histories.histories.len c.take_pending.ensures.taken.same c.deref_mut.ensures.len in
    subst (λ (l : List History). AreKept l nothing_made) (sym items) (record {
      are = marked_good c.in_ok-frame.frame.form c.take_frame.new.lines c.take_histories.new.lines c.take_pending.new.lines c.in_ok-histories.histories.items c.deref_mut.result.now new c.in_ok-histories.ensures.taken
          c.deref_mut.ensures.value c.take_pending.ensures.taken;
      texts = c.take_pending.ensures.kept;
      made = made_none history_text history_bytes (map shown_history new);
    })

pub returns : goal.returns
returns c =
    let T : List History → Type 0 = λ l. TakesPending (map shown_history l) c.take_histories.new.lines c.take_pending.new.lines (map shown_history c.take_pending.new.histories) in
    let new : List History = c.take_pending.new.histories in
    let marks : List PlainHistory = map shown_history new in
    let saved : Saved = record { computer = c.in_ok-copy.field-0; next = c.in_ok-frame.frame.next; histories = c.from_vec.result; reports = c.from_vec-2.result } in
    let items = marked_items c.deref_mut.result.now (drop (length new) c.in_ok-histories.histories.items) new c.in_ok-histories.histories.len c.take_pending.ensures.taken.same c.deref_mut.ensures.len in
    saved_is c.args.computer.now c.args.text.now (around_of c.in_ok-frame.frame) c.in_ok-histories.histories.items marks c.in_ok-reports.reports.items
    c.new-lines.result c.take_frame.new.lines c.take_histories.new.lines c.take_pending.new.lines c.take_reports.new.lines c.take_exactly.new.self saved c.new-lines.ensures c.requires
    c.in_ok-frame.ensures.0 c.in_ok-frame.ensures.1 c.in_ok-histories.ensures.taken (subst T c.deref_mut.ensures.value c.take_pending.ensures.taken) c.in_ok-reports.ensures
    (was_taken end_line c.take_reports.new.lines c.take_exactly.new.self c.take_exactly.result c.take_exactly.ensures c.if-not-take_exactly.false)
    (c.is_over.ensures.0 c.if-not-is_over.false)
    (saved_parts saved (saved_of c.args.computer.now (around_of c.in_ok-frame.frame) marks c.in_ok-reports.reports.items) c.in_ok-copy.ensures refl (c.from_vec.ensures ∙ ap (map shown_history) items) c.from_vec-2.ensures)

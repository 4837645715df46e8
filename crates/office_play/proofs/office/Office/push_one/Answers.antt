use Rattle.std.proofs.Common.{◌≡◌, ◌<◌, List, ℕ, [], ◌∷◌, ◌++◌, rules, length, codes, refl, sym, ap, subst, ◌∙◌}
use Rattle.std.specs.Prelude.{get_or, is_some}
use Rattle.report_text.specs.declared.report.Report.{Report}
use Rattle.relay_core.specs.Relays.{RelayState}
use Rattle.delivery.specs.Messages.{ReportToServer}
use Rattle.office_rules.specs.OfficeLines.{sent_line}
use Rattle.office_play.specs.declared.message.Message.TheVariants as kept
use Rattle.office_play.specs.Links.{IsReportOf}
use Rattle.office_play.specs.States.{OfficeState, kept_of}
use Rattle.office_play.proofs.Dispatched.{dispatched, new_message}
use Rattle.office_play.proofs.Places.{at_place}
use Rattle.office_play.proofs.Queues.{queued_good, queued_is, queued_within}
use Rattle.office_play.proofs.office.Office.push_one.Goals as goal

pub bounds-queue-at : goal.bounds-queue-at
bounds-queue-at c =
    let old : OfficeState = c.args.self.now in
    let entry : List ℕ × RelayState = c.index.result.now in
    let is : entry ≡ get_or old.relays c.args.place entry = c.index.ensures ∙ ap (λ (o : OfficeState). get_or o.relays c.args.place entry) c.self.view_is in
    let queue : c.queue.result.now ≡ entry.1.queue = c.queue.ensures.queue ∙ ap (λ (e : List ℕ × RelayState). e.1.queue) c.behind-self.view_is in
    subst (λ (l : List Report). c.args.at < length l) (sym queue)
    (queued_within (kept_of old) c.args.name.now c.args.at c.requires.at.0 c.args.place entry c.requires.place is c.requires.at.1)

pub offset_bounds-queue-at : goal.offset_bounds-queue-at
offset_bounds-queue-at c = let within = bounds-queue-at c in search (rules, within)

pub returns-clause-plays : goal.returns-clause-plays
returns-clause-plays c report queued =
    let old : OfficeState = c.args.self.now in
    let name = c.args.name.now in
    let entry : List ℕ × RelayState = c.index.result.now in
    let is : entry ≡ get_or old.relays c.args.place entry = c.index.ensures ∙ ap (λ (o : OfficeState). get_or o.relays c.args.place entry) c.self.view_is in
    let queue : c.queue.result.now ≡ entry.1.queue = c.queue.ensures.queue ∙ ap (λ (e : List ℕ × RelayState). e.1.queue) c.behind-self.view_is in
    let read : Report = c.index-queue-at.result in
    let got : read ≡ get_or entry.1.queue c.args.at read = c.index-queue-at.is ∙ ap (λ (l : List Report). get_or l c.args.at read) queue in
    let within = queued_within (kept_of old) name c.args.at report c.args.place entry c.requires.place is queued in
    let same : report ≡ read = queued_is (kept_of old) name c.args.at report read c.args.place entry c.requires.place is within got queued in
    let good = queued_good (kept_of old) name c.args.at read c.args.place entry c.requires.place is within got c.requires.good in
    let copy : Report = c.in_ok-report.report in
    let copied : copy ≡ report = c.in_ok-report.ensures ∙ sym same in
    let named : c.in_ok-copy.field-0 ≡ name = c.in_ok-copy.ensures in
    dispatched (kept_of old) _ (ReportToServer name report) report (codes "server") c.args.out.now c.say_sent.new.out c.requires.good
    (ap is_some (at_place name old.relays c.args.place entry c.requires.place.first is).1, subst (IsReportOf (kept_of old).computers) (sym same) good)
    (new_message _ (kept_of old) c.self.inside.messages.items c.push.new.self.items (kept.ReportToServer c.in_ok-copy.field-0 copy) (ap kept_of c.self.view_is) refl c.in_ok-push.ensures.items
    ∙ (λ i. record (kept_of old) { messages = old.messages ++ ReportToServer (named i) (copied i) ∷ [] }))
    (c.in_ok-say_sent.ensures ∙ (λ i. c.args.out.now ++ sent_line (c.next_number.ensures i) (copied i) (codes "server")))

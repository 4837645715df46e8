use Rattle.std.proofs.Common.{◌++◌, ◌∙◌, ap, refl}
use Rattle.delivery.specs.Messages.{ReportToRelay}
use Rattle.office_rules.specs.OfficeLines.{sent_line}
use Rattle.office_play.specs.declared.message.Message.TheVariants as kept
use Rattle.office_play.specs.States.{OfficeState, kept_of}
use Rattle.office_play.proofs.Dispatched.{dispatched, new_message}
use Rattle.office_play.proofs.office.Office.send_to_relay.Goals as goal

pub returns-clause-plays : goal.returns-clause-plays
returns-clause-plays c =
    let old : OfficeState = c.args.self.now in
    dispatched (kept_of old) _ (ReportToRelay c.args.relay c.args.report) c.args.report c.args.relay c.args.out.now c.say_sent.new.out
    c.requires.good (c.requires.relay, c.requires.report)
    (new_message _ (kept_of old) c.self.inside.messages.items c.push.new.self.items (kept.ReportToRelay c.args.relay c.args.report)
    (ap kept_of c.self.view_is) refl c.in_ok-push.ensures.items)
    (c.in_ok-say_sent.ensures ∙ (λ i. c.args.out.now ++ sent_line (c.next_number.ensures i) c.args.report (c.as_str.ensures i)))

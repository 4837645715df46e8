-- Messages as contracts see them.
use Rattle.delivery.specs.Messages.{Message}
use Rattle.delivery.specs.Messages as sent
use Rattle.office_play.specs.declared.message.Message.{Message as KeptMessage}
use Rattle.office_play.specs.declared.message.Message.TheVariants as kept

-- the message that is kept so
abbrev pub shown_message : KeptMessage → Message
shown_message (kept.ReportToRelay relay report) = sent.ReportToRelay relay report
shown_message (kept.ReportToServer relay report) = sent.ReportToServer relay report
shown_message (kept.VerdictToComputer computer seq verdict) = sent.VerdictToComputer computer seq verdict
shown_message (kept.ReplyToRelay relay computer seq digest reply) =
    sent.ReplyToRelay relay (record { computer = computer; seq = seq }) digest reply

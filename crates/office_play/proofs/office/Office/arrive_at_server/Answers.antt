use Rattle.std.proofs.Common.{◌≡◌, ◌+◌, List, ◌++◌, length, None, true≢false, sym, ap, subst, refl, ◌∙◌}
use Rattle.std.specs.Prelude.{is_some}
use Rattle.report_text.specs.Reports.{report_text}
use Rattle.desk_keep.specs.declared.change.Change.{Change}
use Rattle.server_text.specs.declared.request.Request.TheVariants as request
use Rattle.turn_lines.specs.VerdictWords.{reply_word}
use Rattle.office_rules.specs.OfficeLines.{answer_words, delivered_line}
use Rattle.office_play.specs.declared.message.Message.TheVariants as kept
use Rattle.office_play.specs.Kept.{KeptOffice}
use Rattle.office_play.specs.Played.{AnswersOver}
use Rattle.office_play.specs.States.{OfficeState, kept_of}
use Rattle.office_play.proofs.Arrivals.{arrives_at_server, reply_judges}
use Rattle.office_play.proofs.Dispatched.{new_message}
use Rattle.office_play.proofs.office.Office.arrive_at_server.Goals as goal

pub write_report-requires : goal.write_report-requires
write_report-requires c = c.requires.message.1.good

pub digest-requires : goal.digest-requires
digest-requires c = c.requires.message.1.good

pub unreachable-requires : goal.unreachable-requires
unreachable-requires c =
    let old : OfficeState = c.args.self.now in
    let report = c.args.report in
    let answers : AnswersOver old.rows (request.Report (report_text report)) c.in_ok-reply.reply c.answer.new.keeper =
    subst (λ text. AnswersOver old.rows (request.Report text) c.in_ok-reply.reply c.answer.new.keeper) c.in_ok-write_report.ensures
    (subst (λ (o : OfficeState). AnswersOver o.rows (request.Report c.in_ok-write_report.field-0) c.in_ok-reply.reply c.answer.new.keeper) c.self.view_is
    c.in_ok-reply.ensures.answers) in
    let judged = reply_judges report (λ asked asks. c.a_written_report_is_read.ensures.only report asked c.requires.message.1.good asks) old.rows c.answer.new.keeper c.in_ok-reply.reply
    c.requires.accepted answers in
    let none : reply_word c.in_ok-reply.reply ≡ None = c.in_default.ensures in
    absurd (true≢false (sym judged ∙ ap is_some none))

pub returns-clause-plays : goal.returns-clause-plays
returns-clause-plays c =
    let old : OfficeState = c.args.self.now in
    let report = c.args.report in
    let rows : List Change = c.answer.new.keeper in
    let reply = c.in_ok-reply.reply in
    let digest = c.in_ok-digest.digest in
    let answers : AnswersOver old.rows (request.Report (report_text report)) reply rows =
    subst (λ text. AnswersOver old.rows (request.Report text) reply rows) c.in_ok-write_report.ensures
    (subst (λ (o : OfficeState). AnswersOver o.rows (request.Report c.in_ok-write_report.field-0) reply rows) c.self.view_is c.in_ok-reply.ensures.answers) in
    let moved : KeptOffice = record (kept_of old) { rows = rows } in
    arrives_at_server report (λ asked asks. c.a_written_report_is_read.ensures.only report asked c.requires.message.1.good asks) (kept_of old) _ c.args.relay reply rows
    c.in-Some.word.now digest c.args.number c.args.out.now c.say_answered.new.out c.requires.good c.requires.message.0 c.in_ok-digest.ensures answers c.in-Some.ensures
    (new_message _ moved c.self.inside.messages.items c.push.new.self.items (kept.ReplyToRelay c.args.relay report.computer report.seq digest reply)
    (ap (λ (o : OfficeState). record (kept_of o) { rows = rows }) c.self.view_is) refl c.in_ok-push.ensures.items)
    (c.in_ok-say_answered.ensures
    ∙ (λ i. c.args.out.now ++ delivered_line c.args.number (answer_words c.in-Some.word.now (length (c.self.view_is i).messages + 1))))

use Rattle.std.proofs.Common.{ap, subst}
use Rattle.group_core.specs.Books.{AddsAnalysis, BookState}
use Rattle.office_play.specs.States.{OfficeState, kept_of}
use Rattle.office_play.proofs.GroupWords.{keeps_analysis, keeps_book, on_ok_both}
use Rattle.office_play.proofs.office.Office.keep_analysis.Goals as goal

pub returns-clause-plays : goal.returns-clause-plays
returns-clause-plays c =
    let old : OfficeState = c.args.self.now in
    let analysis = c.args.analysis.now in
    let book : BookState = c.add-answer.new.self in
    let adds = subst (λ (o : OfficeState). AddsAnalysis o.book analysis c.add-answer.result book) c.self.view_is c.add-answer.ensures in
    on_ok_both c.say_added.result
    (λ said memory. keeps_analysis (kept_of old) _ analysis c.add-answer.result book c.args.out.now c.say_added.new.out c.requires.good c.requires.properties adds
    (ap (λ (o : OfficeState). kept_of (record o { book = book })) c.self.view_is) memory said)
    c.say_added.ensures.said c.say_added.ensures.memory

pub returns-clause-names : goal.returns-clause-names
returns-clause-names c =
    let book : BookState = c.add-answer.new.self in
    on_ok_both c.say_added.result
    (λ said memory. keeps_book (kept_of c.args.self.now) _ book (ap (λ (o : OfficeState). kept_of (record o { book = book })) c.self.view_is))
    c.say_added.ensures.said c.say_added.ensures.memory

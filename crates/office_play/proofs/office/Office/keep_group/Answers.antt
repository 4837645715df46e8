use Rattle.std.proofs.Common.{ap, subst}
use Rattle.group_core.specs.Books.{BookState, DefinesGroup}
use Rattle.office_play.specs.States.{OfficeState, kept_of}
use Rattle.office_play.proofs.GroupWords.{keeps_book, keeps_group, on_ok_both}
use Rattle.office_play.proofs.office.Office.keep_group.Goals as goal

pub returns-clause-plays : goal.returns-clause-plays
returns-clause-plays c =
    let old : OfficeState = c.args.self.now in
    let group = c.args.group.now in
    let book : BookState = c.define-answer.new.self in
    let defines = subst (λ (o : OfficeState). DefinesGroup o.book group c.define-answer.result book) c.self.view_is c.define-answer.ensures in
    on_ok_both c.say_defined.result
    (λ said memory. keeps_group (kept_of old) _ group c.define-answer.result book c.args.out.now c.say_defined.new.out c.requires defines
    (ap (λ (o : OfficeState). kept_of (record o { book = book })) c.self.view_is) memory said)
    c.say_defined.ensures.said c.say_defined.ensures.memory

pub returns-clause-names : goal.returns-clause-names
returns-clause-names c =
    let book : BookState = c.define-answer.new.self in
    on_ok_both c.say_defined.result
    (λ said memory. keeps_book (kept_of c.args.self.now) _ book (ap (λ (o : OfficeState). kept_of (record o { book = book })) c.self.view_is))
    c.say_defined.ensures.said c.say_defined.ensures.memory

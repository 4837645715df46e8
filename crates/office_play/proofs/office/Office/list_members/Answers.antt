use Rattle.std.proofs.Common.{[], ◌∷◌, ◌++◌, ap, subst, ◌∙◌}
use Rattle.std.specs.Prelude.{codes}
use Rattle.std.proofs.lemmas.Result.{on_ok_weaker}
use Rattle.group_core.specs.Books.{HasGroup}
use Rattle.office_rules.specs.OfficeLines.{nothing_line}
use Rattle.office_play.specs.States.{OfficeState, kept_of}
use Rattle.office_play.proofs.GroupWords.{says_none}
use Rattle.office_play.proofs.office.Office.list_members.Goals as goal

pub returns-in-None : goal.returns-in-None
returns-in-None c =
    let group = c.args.group.now in
    let none = subst (λ (o : OfficeState). ¬ HasGroup o.book.groups group) c.self.view_is c.in-None.ensures.members in
    on_ok_weaker c.say_about.result
    (λ said. says_none (kept_of c.args.self.now) group c.args.out.now c.say_about.new.out c.requires none
    (said ∙ ap (λ n. c.args.out.now ++ nothing_line (codes "members" ∷ n ∷ [])) c.as_str.ensures))
    c.say_about.ensures

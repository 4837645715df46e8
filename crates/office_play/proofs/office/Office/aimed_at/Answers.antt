use Rattle.std.proofs.Common.{inl, sym, ap, subst, ◌∙◌}
use Rattle.group_core.specs.Books.{HasGroup, HasMembers}
use Rattle.office_rules.specs.GroupWords.{aimed}
use Rattle.office_play.specs.States.{OfficeState}
use Rattle.office_play.proofs.GroupWords.{no_members, some_members}
use Rattle.office_play.proofs.office.Office.aimed_at.Goals as goal

pub returns-in_default : goal.returns-in_default
returns-in_default c =
    inl (subst (λ (o : OfficeState). ¬ HasGroup o.book.groups c.args.group.now) c.self.view_is c.in_default.ensures.members)

pub returns-then-is_empty : goal.returns-then-is_empty
returns-then-is_empty c =
    let group = c.args.group.now in
    let members = c.in-Some.members.now in
    no_members c.args.self.now.book group members (subst (λ (o : OfficeState). HasMembers o.book group members) c.self.view_is c.in-Some.ensures.members)
    (sym c.is_empty.ensures ∙ c.if-is_empty.true)

pub returns : goal.returns
returns c =
    let group = c.args.group.now in
    let members = c.in-Some.members.now in
    some_members c.args.self.now.book group c.args.action.now members _ (subst (λ (o : OfficeState). HasMembers o.book group members) c.self.view_is c.in-Some.ensures.members)
    (sym c.is_empty.ensures ∙ c.if-is_empty.false)
    (c.in_ok-aimed.ensures ∙ ap (aimed members) c.as_slice.ensures)

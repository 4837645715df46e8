use Rattle.std.proofs.Common.{Bool, List, ℕ, Option, sym, subst}
use Rattle.line_forms.specs.Readers.{Passes, TakesOne, TakesExactly}
use Rattle.fix_site.specs.declared.fixlet.Fixlet.{Fixlet}
use Rattle.fix_site.specs.declared.fixlet.Success.{Success}
use Rattle.fix_site.specs.Actions.{end_line}
use Rattle.fix_site.specs.Contents.{IsSuccess, success_line, fixlet_rest}
use Rattle.fix_site.specs.Readings.{IsFixletOf}
use Rattle.fix_site.proofs.Fixlets.{fixlet_title, fixlet_success, fixlet_end, fixlet_whole}
use Rattle.fix_site.proofs.content_reader.take_fixlet.Goals as goal

pub returns-in_default : goal.returns-in_default
returns-in_default c = fixlet_title c.args.id c.args.lines.now c.take_rest.new.lines c.requires c.in_default.ensures

pub returns-in_default-2 : goal.returns-in_default-2
returns-in_default-2 c =
    let P : Option Success → Type 0 = λ o. TakesOne IsSuccess success_line c.take_relevance.new.lines c.take_success.new.lines o in
    fixlet_success c.args.id c.in-Some.title.now c.in_ok-relevance.relevance c.args.lines.now c.take_rest.new.lines c.take_relevance.new.lines c.take_success.new.lines
    c.requires c.in-Some.ensures.0 c.in-Some.ensures.1 c.in_ok-relevance.ensures (subst P c.in_default-2.is c.in_ok-success.ensures)

pub returns-then-not-take_exactly : goal.returns-then-not-take_exactly
returns-then-not-take_exactly c =
    let P : Option Success → Type 0 = λ o. TakesOne IsSuccess success_line c.take_relevance.new.lines c.take_success.new.lines o in
    let Q : Bool → Type 0 = λ b. TakesExactly end_line c.take_script.new.lines c.take_exactly.new.self b in
    let success = subst P c.in-Some-2.is c.in_ok-success.ensures in
    fixlet_end c.args.id c.in-Some.title.now c.in_ok-relevance.relevance c.in-Some-2.success c.in_ok-script.script c.args.lines.now c.take_rest.new.lines c.take_relevance.new.lines c.take_success.new.lines c.take_script.new.lines c.take_exactly.new.self
    c.requires c.in-Some.ensures.0 c.in-Some.ensures.1 c.in_ok-relevance.ensures success.0 success.1 c.in_ok-script.ensures (subst Q c.if-not-take_exactly.true c.take_exactly.ensures)

pub returns : goal.returns
returns c =
    let P : Option Success → Type 0 = λ o. TakesOne IsSuccess success_line c.take_relevance.new.lines c.take_success.new.lines o in
    let Q : Bool → Type 0 = λ b. TakesExactly end_line c.take_script.new.lines c.take_exactly.new.self b in
    let R : List ℕ → Type 0 = λ t. let f : Fixlet = record { id = c.args.id; title = t; relevance = c.in_ok-relevance.relevance; success = c.in-Some-2.success; script = c.in_ok-script.script } in
    IsFixletOf c.args.id f × Passes c.args.lines.now c.take_exactly.new.self (fixlet_rest f) in
    let success = subst P c.in-Some-2.is c.in_ok-success.ensures in
    subst R (sym c.in_ok-from_str.ensures)
    (fixlet_whole c.args.id c.in-Some.title.now c.in_ok-relevance.relevance c.in-Some-2.success c.in_ok-script.script c.args.lines.now c.take_rest.new.lines c.take_relevance.new.lines c.take_success.new.lines c.take_script.new.lines c.take_exactly.new.self
    c.requires c.in-Some.ensures.0 c.in-Some.ensures.1 c.in_ok-relevance.ensures success.0 success.1 c.in_ok-script.ensures (subst Q c.if-not-take_exactly.false c.take_exactly.ensures))

use Rattle.std.proofs.Common.{ℕ, List, [], ◌∷◌, sym, subst}
use Rattle.std.specs.Prelude.{codes}
use Rattle.fix_site.specs.declared.fixlet.Success.TheVariants as success
use Rattle.line_forms.specs.Names.{IsRest}
use Rattle.line_forms.specs.Readers.{Passes}
use Rattle.fix_site.specs.Contents.{success_line}
use Rattle.line_forms.proofs.Parts.{second_taken}
use Rattle.fix_site.proofs.ContentLines.{clause_taken, no_success}
use Rattle.fix_site.proofs.content_reader.take_success.Goals as goal

pub returns-then-take_exactly-2 : goal.returns-then-take_exactly-2
returns-then-take_exactly-2 c = (
  tt,
  second_taken (codes "success lines") (codes "success relevance") c.args.lines.now c.take_exactly.new.self c.take_exactly-2.new.self c.take_exactly.result c.take_exactly-2.result
      c.take_exactly.ensures c.if-take_exactly.false c.take_exactly-2.ensures c.if-take_exactly-2.true,
)

pub returns-in_default : goal.returns-in_default
returns-in_default c =
    no_success c.args.lines.now c.take_exactly.new.self c.take_exactly-2.new.self c.take_rest.new.lines c.take_exactly.result c.take_exactly-2.result
    c.take_exactly.ensures c.if-take_exactly.false c.take_exactly-2.ensures c.if-take_exactly-2.false c.in_default.ensures

pub returns : goal.returns
returns c =
    let P : List ℕ → Type 0 = λ q. IsRest q × Passes c.args.lines.now c.take_rest.new.lines (success_line (success.Clause q) ∷ []) in
    subst P (sym c.in_ok-from_str.ensures) (
      c.in-Some.ensures.0,
      clause_taken c.args.lines.now c.take_exactly.new.self c.take_exactly-2.new.self c.take_rest.new.lines c.take_exactly.result c.take_exactly-2.result c.in-Some.question.now
          c.take_exactly.ensures c.if-take_exactly.false c.take_exactly-2.ensures c.if-take_exactly-2.false c.in-Some.ensures.1,
    )

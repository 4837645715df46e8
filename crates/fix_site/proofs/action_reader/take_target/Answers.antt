use Rattle.std.proofs.Common.{◌≡◌, ◌<◌, ℕ, List, [], ◌∷◌, length, sym, subst, arith}
use Rattle.std.proofs.lemmas.Bool.Decides.{nat_tests}
use Rattle.std.proofs.lemmas.List.{nil_from_length}
use Rattle.line_forms.specs.Names.{IsRest}
use Rattle.line_forms.specs.Readers.{Passes}
use Rattle.fix_site.specs.Actions.{where_line}
use Rattle.fix_site.proofs.Targets.{where_taken, computers_taken, no_target}
use Rattle.fix_site.proofs.action_reader.take_target.Goals as goal

pub returns-in-Some : goal.returns-in-Some
returns-in-Some c =
    let P : List ℕ → Type 0 = λ q. IsRest q × Passes c.args.lines.now c.take_rest.new.lines (where_line q ∷ []) × Unit {0} in
    subst P (sym c.in_ok-from_str.ensures)
    (c.in-Some.ensures.0, where_taken c.args.lines.now c.take_exactly.new.self c.take_rest.new.lines c.take_exactly.result c.in-Some.question.now c.take_exactly.ensures c.if-take_exactly.false c.in-Some.ensures.1, tt)

pub returns-then-is_empty : goal.returns-then-is_empty
returns-then-is_empty c =
    let zero : length c.in_ok-names.names ≡ 0 = search (arith, nat_tests) in
    no_target c.args.lines.now c.take_exactly.new.self c.take_rest.new.lines c.take_computers.new.lines c.take_exactly.result c.in_ok-names.names c.take_exactly.ensures c.if-take_exactly.false c.in_default.ensures c.in_ok-names.ensures (nil_from_length c.in_ok-names.names zero)

pub returns : goal.returns
returns c =
    let some : 0 < length c.in_ok-names.names = search (arith, nat_tests) in
    computers_taken c.args.lines.now c.take_exactly.new.self c.take_rest.new.lines c.take_computers.new.lines c.take_exactly.result c.in_ok-names.names c.take_exactly.ensures c.if-take_exactly.false c.in_default.ensures c.in_ok-names.ensures some

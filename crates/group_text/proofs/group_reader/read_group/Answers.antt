use Rattle.std.proofs.Common.{◌≡◌, ◌<◌, ℕ, List, length, arith, sym, subst}
use Rattle.std.specs.Prelude.{Ok}
use Rattle.std.proofs.lemmas.Bool.{iff_false}
use Rattle.std.proofs.lemmas.Bool.Decides.{nat_tests}
use Rattle.std.proofs.lemmas.List.{nil_from_length}
use Rattle.line_forms.specs.BadLines.{AnswersBadLine}
use Rattle.line_forms.proofs.Parts.{not_taken, was_taken}
use Rattle.group_text.specs.declared.test.Test.{Test}
use Rattle.group_text.specs.Groups.{AreGroupLines, ReadsGroup}
use Rattle.group_text.proofs.AnalysisParts.{end_line}
use Rattle.group_text.proofs.GroupParts.{group_of}
use Rattle.group_text.proofs.GroupReading.{bad_name, bad_match, bad_test, bad_end, bad_more, reads_whole}
use Rattle.group_text.proofs.group_reader.read_group.Goals as goal

pub returns-in_default : goal.returns-in_default
returns-in_default c =
    let B : ℕ → Type 0 = AnswersBadLine AreGroupLines c.args.text.now in
    subst B (sym c.number.ensures)
    (bad_name c.args.text.now c.new-lines.result c.take_name.new.lines c.new-lines.ensures c.in_default.ensures)

pub returns-in_default-take_match : goal.returns-in_default-take_match
returns-in_default-take_match c =
    let B : ℕ → Type 0 = AnswersBadLine AreGroupLines c.args.text.now in
    subst B (sym c.number-in_default-take_match.ensures)
    (bad_match c.args.text.now c.in-Some.name.now c.new-lines.result c.take_name.new.lines c.take_match.new.lines c.new-lines.ensures c.in-Some.ensures.0 c.in-Some.ensures.1 c.in_default-take_match.ensures)

pub returns-then-is_empty : goal.returns-then-is_empty
returns-then-is_empty c =
    let B : ℕ → Type 0 = AnswersBadLine AreGroupLines c.args.text.now in
    let zero : length c.in_ok-tests.tests.items ≡ 0 = search (arith, nat_tests) in
    subst B (sym c.number-then-is_empty.ensures)
    (bad_test c.args.text.now c.in-Some.name.now c.in-Some-take_match.any c.in_ok-tests.tests.items c.new-lines.result c.take_name.new.lines c.take_match.new.lines c.take_tests.new.lines
    (record { begins = c.new-lines.ensures; good = c.in-Some.ensures.0; first = c.in-Some.ensures.1; second = c.in-Some-take_match.ensures.1 })
    c.in_ok-tests.ensures (nil_from_length c.in_ok-tests.tests.items zero))

pub returns-then-not-take_exactly : goal.returns-then-not-take_exactly
returns-then-not-take_exactly c =
    let B : ℕ → Type 0 = AnswersBadLine AreGroupLines c.args.text.now in
    let some : 0 < length c.in_ok-tests.tests.items = search (arith, nat_tests) in
    subst B (sym c.number-then-not-take_exactly.ensures)
    (bad_end c.args.text.now c.in-Some.name.now c.in-Some-take_match.any c.in_ok-tests.tests.items c.new-lines.result c.take_name.new.lines c.take_match.new.lines c.take_tests.new.lines c.take_exactly.new.self
    (record { begins = c.new-lines.ensures; good = c.in-Some.ensures.0; first = c.in-Some.ensures.1; second = c.in-Some-take_match.ensures.1 })
    c.in_ok-tests.ensures some (not_taken end_line c.take_tests.new.lines c.take_exactly.new.self c.take_exactly.result c.take_exactly.ensures c.if-not-take_exactly.true))

pub returns-then-not-is_over : goal.returns-then-not-is_over
returns-then-not-is_over c =
    let B : ℕ → Type 0 = AnswersBadLine AreGroupLines c.args.text.now in
    let some : 0 < length c.in_ok-tests.tests.items = search (arith, nat_tests) in
    subst B (sym c.number-then-not-is_over.ensures)
    (bad_more c.args.text.now c.in-Some.name.now c.in-Some-take_match.any c.in_ok-tests.tests.items c.new-lines.result c.take_name.new.lines c.take_match.new.lines c.take_tests.new.lines c.take_exactly.new.self
    (record { begins = c.new-lines.ensures; good = c.in-Some.ensures.0; first = c.in-Some.ensures.1; second = c.in-Some-take_match.ensures.1 })
    c.in_ok-tests.ensures some (was_taken end_line c.take_tests.new.lines c.take_exactly.new.self c.take_exactly.result c.take_exactly.ensures c.if-not-take_exactly.false)
    (iff_false c.is_over.ensures c.if-not-is_over.true))

pub returns : goal.returns
returns c =
    let some : 0 < length c.in_ok-tests.tests.items = search (arith, nat_tests) in
    let R : List ℕ → Type 0 = λ name. ReadsGroup c.args.text.now (Ok (group_of name c.in-Some-take_match.any c.in_ok-tests.tests.items)) in
    let T : List Test → Type 0 = λ tests. ReadsGroup c.args.text.now (Ok (group_of c.in_ok-from_str.field-0 c.in-Some-take_match.any tests)) in
    subst T (sym c.from_vec.ensures) (subst R (sym c.in_ok-from_str.ensures)
    (reads_whole c.args.text.now c.in-Some.name.now c.in-Some-take_match.any c.in_ok-tests.tests.items c.new-lines.result c.take_name.new.lines c.take_match.new.lines c.take_tests.new.lines c.take_exactly.new.self
    (record { begins = c.new-lines.ensures; good = c.in-Some.ensures.0; first = c.in-Some.ensures.1; second = c.in-Some-take_match.ensures.1 })
    c.in_ok-tests.ensures some (was_taken end_line c.take_tests.new.lines c.take_exactly.new.self c.take_exactly.result c.take_exactly.ensures c.if-not-take_exactly.false)
    (c.is_over.ensures.0 c.if-not-is_over.false)))

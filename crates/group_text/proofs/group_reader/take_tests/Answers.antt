use Rattle.std.proofs.Common.{Option, refl, subst}
use Rattle.line_forms.specs.Readers.{TakesOne}
use Rattle.line_forms.proofs.Sequences.{taken_all, taken_more}
use Rattle.group_text.specs.declared.test.Test.{Test}
use Rattle.group_text.specs.Groups.{CanFollow}
use Rattle.group_text.specs.Tests.{test_line}
use Rattle.group_text.proofs.group_reader.take_tests.Goals as goal

pub loop-tests-preserved : goal.loop-tests-preserved
loop-tests-preserved c =
    let T : Option Test → Type 0 = TakesOne (CanFollow c.as_slice.result.now) test_line c.loop-tests.lines c.take_test.new.lines in
    let read = subst T c.in-Some.is c.in_ok-test.ensures in
    let taken = taken_more CanFollow test_line c.args.lines.now c.loop-tests.lines c.take_test.new.lines c.loop-tests.tests.items c.as_slice.result.now c.add.new.list.items c.in-Some.test
    c.loop-tests.invariant.each c.loop-tests.invariant.passes c.as_slice.ensures.value c.in_ok-add.ensures.ok read.0 read.1 in
    record { each = taken.0; passes = taken.1 }

pub returns : goal.returns
returns c =
    let T : Option Test → Type 0 = TakesOne (CanFollow c.as_slice.result.now) test_line c.loop-tests.lines c.take_test.new.lines in
    let none = subst T c.in_default.is c.in_ok-test.ensures in
    taken_all CanFollow test_line c.args.lines.now c.loop-tests.lines c.take_test.new.lines c.loop-tests.tests.items c.as_slice.result.now c.loop-tests.tests.items
    c.loop-tests.invariant.each c.loop-tests.invariant.passes c.as_slice.ensures.value refl none.0 none.1

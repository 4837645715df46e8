use Rattle.std.proofs.Common.{ℕ, List, [], ◌∷◌, Option, refl, subst}
use Rattle.line_forms.specs.Readers.{Passes, Spells}
use Rattle.group_text.specs.declared.test.Test.{Test}
use Rattle.group_text.specs.Tests.{IsTest, test_line}
use Rattle.group_text.proofs.GroupReading.{no_line, other_line, too_many}
use Rattle.group_text.proofs.group_reader.take_test.Goals as goal

pub returns-then-before-ge-MOST_TESTS : goal.returns-then-before-ge-MOST_TESTS
returns-then-before-ge-MOST_TESTS c = (refl, too_many c.args.before.now c.args.lines.now c.if-before-ge-MOST_TESTS.true)

pub returns-in_default : goal.returns-in_default
returns-in_default c = (refl, no_line c.args.before.now c.args.lines.now c.in_default.ensures)

pub returns-in_default-2 : goal.returns-in_default-2
returns-in_default-2 c =
    let S : Option Test → Type 0 = Spells IsTest test_line c.in-Some.line.now in
    (refl, other_line c.args.before.now c.args.lines.now c.in-Some.line.now c.in-Some.ensures.0 c.in-Some.ensures.1 (subst S c.in_default-2.is c.in_ok-test.ensures))

pub returns : goal.returns
returns c =
    let S : Option Test → Type 0 = Spells IsTest test_line c.in-Some.line.now in
    let P : List ℕ → Type 0 = λ l. Passes c.args.lines.now c.skip_line.new.self (l ∷ []) in
    let read = subst S c.in-Some-2.is c.in_ok-test.ensures in
    (record { good = read.0; few = c.if-before-ge-MOST_TESTS.false }, subst P read.1 (c.skip_line.ensures c.in-Some.line.now c.in-Some.ensures.0 c.in-Some.ensures.1))

use Rattle.std.proofs.Common.{◌≡◌, sym, subst}
use Rattle.group_text.specs.declared.test.Test.{Test}
use Rattle.group_text.specs.Tests.{IsTest, test_line}
use Rattle.group_text.proofs.group_reader.read_test.Goals as goal

pub returns : goal.returns
returns c =
    let T : Test → Type 0 = λ t. IsTest t × (c.args.line.now ≡ test_line t) in
    subst T (sym c.in_ok-own.ensures) c.in-Some.ensures

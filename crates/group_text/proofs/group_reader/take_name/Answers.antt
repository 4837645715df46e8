use Rattle.std.proofs.Common.{ℕ, List, sym, subst}
use Rattle.std.specs.Prelude.{codes}
use Rattle.line_forms.specs.Names.{IsName}
use Rattle.line_forms.proofs.Passing.{takes_rest}
use Rattle.group_text.proofs.group_reader.take_name.Goals as goal

pub returns : goal.returns
returns c =
    let N : List ℕ → Type 0 = IsName in (
      subst N (sym c.in_ok-name.ensures.1) c.in_ok-name.ensures.0,
      takes_rest c.args.lines.now c.skip_line.new.self (codes "group") c.in_ok-rest_ahead.field-0.now c.in_ok-name.name.now c.in_ok-rest_ahead.ensures.0 c.in_ok-rest_ahead.ensures.1 (sym c.in_ok-name.ensures.1) c.skip_line.ensures,
    )

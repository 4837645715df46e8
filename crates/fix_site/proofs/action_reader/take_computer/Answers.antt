use Rattle.std.proofs.Common.{ℕ, List, sym, subst, refl}
use Rattle.std.specs.Prelude.{codes}
use Rattle.line_forms.specs.Names.{IsName}
use Rattle.line_forms.proofs.Passing.{not_spelled, takes_rest}
use Rattle.fix_site.proofs.action_reader.take_computer.Goals as goal

pub returns-in_default-read_name : goal.returns-in_default-read_name
returns-in_default-read_name c = (
  refl,
  not_spelled IsName (λ (v : List ℕ). v) c.args.lines.now (codes "target computer") c.in-Some.field.now c.in-Some.ensures.0 c.in-Some.ensures.1
      (λ v is e. let P : List ℕ → Type 0 = IsName in c.in_default-read_name.ensures (subst P (sym e) is)),
)

pub returns : goal.returns
returns c =
    ((let P : List ℕ → Type 0 = IsName in subst P (sym c.in-Some-read_name.ensures.1) c.in-Some-read_name.ensures.0), takes_rest c.args.lines.now c.skip_line.new.self (codes "target computer") c.in-Some.field.now (c.in-Some-read_name.name.now) c.in-Some.ensures.0 c.in-Some.ensures.1 (sym c.in-Some-read_name.ensures.1) c.skip_line.ensures)

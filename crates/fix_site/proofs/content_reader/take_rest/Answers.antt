use Rattle.std.proofs.Common.{ℕ, List, sym, subst, refl}
use Rattle.line_forms.specs.Names.{IsRest}
use Rattle.line_forms.proofs.Passing.{not_spelled, takes_rest}
use Rattle.fix_site.proofs.content_reader.take_rest.Goals as goal

pub returns-in_default-read_rest : goal.returns-in_default-read_rest
returns-in_default-read_rest c = (
  refl,
  not_spelled IsRest (λ (v : List ℕ). v) c.args.lines.now c.args.word.now c.in-Some.field.now c.in-Some.ensures.0 c.in-Some.ensures.1
      (λ v is e. let P : List ℕ → Type 0 = IsRest in c.in_default-read_rest.ensures (subst P (sym e) is)),
)

pub returns : goal.returns
returns c =
    ((let P : List ℕ → Type 0 = IsRest in subst P (sym c.in-Some-read_rest.ensures.1) c.in-Some-read_rest.ensures.0), takes_rest c.args.lines.now c.skip_line.new.self c.args.word.now c.in-Some.field.now (c.in-Some-read_rest.rest.now) c.in-Some.ensures.0 c.in-Some.ensures.1 (sym c.in-Some-read_rest.ensures.1) c.skip_line.ensures)

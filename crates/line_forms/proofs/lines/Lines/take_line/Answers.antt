use Rattle.std.proofs.Common.{◌+◌, ◌-◌, ◌^◌, ◌∙◌, min, sym, ap}
use Rattle.line_forms.specs.LineStates.{LineState}
use Rattle.line_forms.proofs.LineLemmas.{lines_of-cut, unended_of-cut, behind-taken}
use Rattle.line_forms.proofs.lines.Lines.take_line.Goals as goal

pub returns-in-Some : goal.returns-in-Some
returns-in-Some c = (
  ap (λ (s : LineState). s.lines) (sym c.self.view_is) ∙ lines_of-cut _ _ _ c.in-Some.ensures,
  sym (unended_of-cut _ _ _ c.in-Some.ensures) ∙ ap (λ (s : LineState). s.unended) c.self.view_is,
  c.saturating_add-self-inside.ensures ∙ ap (λ (s : LineState). min (s.number + 1) (2 ^ 32 - 1)) c.self.view_is,
)

pub returns : goal.returns
returns c = behind-taken _ c.args.self.now c.behind_lines.result c.in_default.ensures (ap (λ (s : LineState). s.lines) (sym c.self.view_is)) (ap (λ (s : LineState). s.unended) (sym c.self.view_is)) c.behind_lines.ensures

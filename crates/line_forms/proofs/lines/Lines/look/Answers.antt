use Rattle.std.proofs.Common.{◌∙◌, sym, ap}
use Rattle.line_forms.specs.LineStates.{LineState, lines_of}
use Rattle.line_forms.proofs.LineLemmas.{lines_of-cut, behind-lines}
use Rattle.line_forms.proofs.lines.Lines.look.Goals as goal

pub returns-in-Some : goal.returns-in-Some
returns-in-Some c = (lines_of c.in-Some.cut.rest.now, ap (λ (s : LineState). s.lines) (sym c.self.view_is) ∙ lines_of-cut _ _ _ c.in-Some.ensures)

pub returns : goal.returns
returns c = behind-lines _ c.args.self.now c.behind_lines.result c.in_default.ensures (ap (λ (s : LineState). s.lines) (sym c.self.view_is)) (ap (λ (s : LineState). s.unended) (sym c.self.view_is)) c.behind_lines.ensures

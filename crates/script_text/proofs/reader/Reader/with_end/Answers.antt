use Rattle.std.proofs.Common.{refl, sym, ◌∙◌}
use Rattle.script_text.proofs.Steps.{end_step, top_where_none}
use Rattle.script_text.proofs.reader.Reader.with_end.Goals as goal

pub returns-in_default : goal.returns-in_default
returns-in_default c = λ a b s. (top_where_none a c.args.self.open.items s.opens (sym c.args.self.open.ok.0 ∙ c.in_default.ensures.cases.0), refl)

pub returns : goal.returns
returns c = λ a b s. end_step a b c.args.number c.args.self _ c.pop.new.self.items c.in-Some.innermost s c.in-Some.ensures.items c.prefetches.view_is refl c.in_ok-closed.ensures refl

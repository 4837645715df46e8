use Rattle.std.proofs.Common.{refl, sym, ◌∙◌}
use Rattle.script_text.proofs.Steps.{if_step, open_count}
use Rattle.script_text.proofs.reader.Reader.with_if.Goals as goal

pub returns-then-len-eq-DEEPEST : goal.returns-then-len-eq-DEEPEST
returns-then-len-eq-DEEPEST c = λ a b s. (sym (open_count a c.args.self.open.items s.opens) ∙ sym c.args.self.open.ok.0 ∙ sym c.len.ensures ∙ c.if-len-eq-DEEPEST.true, refl)

pub returns : goal.returns
returns c = λ a b s. if_step a b c.args.number c.args.test c.args.self _ _ (λ x. c.if-len-eq-DEEPEST.false (c.len.ensures ∙ c.args.self.open.ok.0 ∙ x)) s refl c.in_ok-push.ensures.items refl refl c.new.ensures refl c.new-2.ensures refl

use Rattle.std.proofs.Common.{refl}
use Rattle.script_text.proofs.Steps.{else_step}
use Rattle.script_text.proofs.reader.Reader.with_else.Goals as goal

pub returns : goal.returns
returns c = λ a b s h. else_step a b c.args.number c.args.arm c.args.self _ c.pop.new.self.items c.in-Some.innermost _ c.in-Some-last.last s h c.in-Some.ensures.items c.in-Some-last.is refl c.in_ok-push.ensures.items refl refl c.in_ok-with_arm.ensures refl c.new.ensures refl

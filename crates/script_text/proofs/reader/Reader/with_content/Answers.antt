use Rattle.std.proofs.Common.{refl, sym, ◌∙◌}
use Rattle.std.proofs.lemmas.Bool.{false≢true}
use Rattle.script_text.proofs.Steps.{close_file, fill_file}
use Rattle.script_text.proofs.reader.Reader.with_content.Goals as goal

pub returns-then-closes : goal.returns-then-closes
returns-then-closes c = λ a k o s. close_file a k c.args.number c.args.line.now c.args.self _ c.args.create s (c.closes.ensures.0 c.if-closes.true) refl refl c.in_ok-push.ensures o

pub returns : goal.returns
returns c = λ a k o s. fill_file a k c.args.number c.args.line.now c.in-Ok.template c.args.self _ c.args.create _ s (λ e. false≢true (sym c.if-closes.false ∙ c.closes.ensures.1 e)) c.in-Ok.ensures refl refl refl c.in_ok-push-in-Ok.ensures refl

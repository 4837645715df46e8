use Rattle.std.proofs.Common.{◌∙◌}
use Rattle.script_run.proofs.Exits.{exits}
use Rattle.script_run.proofs.run.Run.exit.Goals as goal

pub returns : goal.returns
returns c = λ script given settled stood. c.exit.ensures ∙ exits script given settled c.args.self.now stood

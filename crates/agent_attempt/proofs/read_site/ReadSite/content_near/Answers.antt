use Rattle.std.proofs.Common.{sym, ap, ◌∙◌}
use Rattle.std.specs.Option.{option_and_then}
use Rattle.agent_attempt.specs.ActionContents.{block_content}
use Rattle.agent_attempt.proofs.read_site.ReadSite.content_near.Goals as goal

pub returns-in-Some : goal.returns-in-Some
returns-in-Some c = c.content_of.ensures ∙ sym (ap (option_and_then (block_content c.args.self.now.blocks)) c.in-Some.ensures)

pub returns-in-None : goal.returns-in-None
returns-in-None c = sym (ap (option_and_then (block_content c.args.self.now.blocks)) c.in-None.ensures)

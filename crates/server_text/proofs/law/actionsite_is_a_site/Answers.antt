use Rattle.server_text.proofs.MadeSite.{made_reads}
use Rattle.server_text.proofs.law.actionsite_is_a_site.Goals as goal

pub returns : goal.returns
returns c = made_reads

use Rattle.server_core.proofs.KeptFiles.{files_shown}
use Rattle.server_core.proofs.law.a_file_is_kept_by_its_digest.Goals as goal

pub returns : goal.returns
returns c = files_shown

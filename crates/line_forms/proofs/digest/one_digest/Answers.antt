use Rattle.line_forms.proofs.DigestLemmas.{digest-one}
use Rattle.line_forms.proofs.digest.one_digest.Goals as goal

pub returns : goal.returns
returns c = digest-one

use Rattle.std.proofs.Common.{refl}
use Rattle.office_text.specs.Made.{site_body}
use Rattle.office_text.proofs.made.site_text.Goals as goal

pub returns : goal.returns
unfolding site_body
returns c = refl

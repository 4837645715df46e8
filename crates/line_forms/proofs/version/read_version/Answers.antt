use Rattle.line_forms.proofs.VersionLemmas.{IsUtf8-version}
use Rattle.line_forms.proofs.version.read_version.Goals as goal

pub returns-in_default : goal.returns-in_default
returns-in_default c = λ is. c.in_default.ensures is.0 is.1

pub returns-in_default-from_utf8 : goal.returns-in_default-from_utf8
returns-in_default-from_utf8 c = λ is. c.in_default-from_utf8.ensures.cases.0 (IsUtf8-version _ is)

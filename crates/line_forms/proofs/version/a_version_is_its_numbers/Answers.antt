use Rattle.line_forms.proofs.VersionLemmas.{pieces-version, version-pieces}
use Rattle.line_forms.proofs.version.a_version_is_its_numbers.Goals as goal

pub returns : goal.returns
returns c = λ text numbers. (
  λ is. let by = pieces-version text numbers is in (by.few, by.each, by.values),
  λ h. version-pieces text numbers (record { few = h.0; each = h.1; values = h.2 }),
)

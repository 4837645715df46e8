use Rattle.std.proofs.Common.{sym, ap, ◌∙◌, Some}
use Rattle.rel_value.proofs.VersionsRead.{version-some, version-none}
use Rattle.rel_value.specs.Versions.{version_of}
use Rattle.rel_value.proofs.version.Version.of_str.Goals as goal

pub returns-in-Some : goal.returns-in-Some
returns-in-Some c =
    ap Some (c.of_numbers.ensures ∙ c.as_slice.ensures)
    ∙ sym (version-some c.a_version_is_its_numbers.ensures c.as_bytes.result.now c.in-Some.numbers c.in-Some.ensures.0)
    ∙ ap version_of c.as_bytes.ensures.value

pub returns-in-None : goal.returns-in-None
returns-in-None c = sym (version-none c.a_version_is_its_numbers.ensures c.as_bytes.result.now c.in-None.ensures) ∙ ap version_of c.as_bytes.ensures.value

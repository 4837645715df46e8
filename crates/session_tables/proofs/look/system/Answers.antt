use Rattle.std.proofs.Common.{List, ℕ, subst, sym}
use Rattle.line_forms.specs.Versions.{IsVersion}
use Rattle.session_tables.proofs.Goodness.{version_one}
use Rattle.session_tables.proofs.look.system.Goals as goal

pub returns-clause-good : goal.returns-clause-good
returns-clause-good c = subst (λ (v : List ℕ). IsVersion v) (sym c.in_ok-from_str-2.ensures) version_one

-- The version of a bare world, `0`, is one.
use Rattle.std.proofs.Common.{ℕ, List, [], ◌∷◌, map, refl, sym, subst, arith}
use Rattle.std.specs.Str.Parse.{digits_value}
use Rattle.std.proofs.lemmas.List.Elements.{All-nil, All-cons}
use Rattle.line_forms.specs.Versions.{IsVersion, IsVersionNumber}
use Rattle.host_edge.proofs.rows.bare_world.Goals as goal

digit : IsVersionNumber (48 ∷ [])
digit = ((omega arith, (omega arith, tt)), omega arith)

nought : IsVersion (48 ∷ [])
nought = (map (digits_value 10) ((48 ∷ []) ∷ []), ((48 ∷ []) ∷ [], omega arith, omega arith, All-cons IsVersionNumber (48 ∷ []) [] digit (All-nil IsVersionNumber), refl, refl))

pub new-requires-clause-version : goal.new-requires-clause-version
new-requires-clause-version c = subst (λ (v : List ℕ). IsVersion v) (sym c.in_ok-version.ensures) nought

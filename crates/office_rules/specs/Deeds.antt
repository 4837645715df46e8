-- What is done in an office and printed of it, piece by piece.
use Rattle.std.specs.Prelude.{◌≡◌, ℕ, List, [], ◌∷◌, ◌++◌, Some}
use Rattle.delivery.specs.Messages.{named}
use Rattle.relay_core.specs.Relays.{RelayState}
use Rattle.office_rules.specs.Offices.{Office, PlayedComputer, with_computer, with_relay}

-- from an office to what is printed and the office then
abbrev pub Deed : Type 1
Deed = Office → List ℕ → Office → Type 0

-- Nothing is done and nothing printed.
abbrev pub DoesNothing : Deed
DoesNothing old said new = (said ≡ []) × (new ≡ old)

-- One is done and printed, and then another.
abbrev pub DoesBoth : Deed → Deed → Deed
DoesBoth First Second old said new =
    (between : Office) × (one : List ℕ) × (other : List ℕ) × First old one between × Second between other new × (said ≡ one ++ other)

-- One after another is done and printed.
abbrev pub DoesEach : {T : Type 0} → (T → Deed) → List T → Deed
DoesEach Does [] = DoesNothing
DoesEach Does (first ∷ more) = DoesBoth (Does first) (DoesEach Does more)

-- It is done at the relay of this name, or at the computer, and nowhere else.
abbrev pub AtRelay : List ℕ → (RelayState → List ℕ → RelayState → Type 0) → Deed
AtRelay name Does old said new =
    (relay : RelayState) × (then : RelayState) × (named name old.relays ≡ Some relay) × Does relay said then
    × (new ≡ with_relay name then old)

abbrev pub AtComputer : List ℕ → (PlayedComputer → List ℕ → PlayedComputer → Type 0) → Deed
AtComputer name Does old said new =
    (computer : PlayedComputer) × (then : PlayedComputer) × (named name old.computers ≡ Some computer) × Does computer said then
    × (new ≡ with_computer name then old)

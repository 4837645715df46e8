-- The names of relays and computers, as words are played.
use Rattle.std.proofs.Common.{◌≡◌, ℕ, List, [], refl, sym, ap, ◌∙◌}
use Rattle.std.specs.Prelude.{get_or, slice_set}
use Rattle.std.specs.Map.{keys_of}
use Rattle.std.proofs.lemmas.List.{append-nil}
use Rattle.relay_core.specs.Relays.{RelayState}
use Rattle.office_rules.specs.Offices.{PlayedComputer}
use Rattle.office_play.specs.Kept.{KeptOffice}
use Rattle.office_play.specs.Links.{AddsNames, IsNamed, IsPlaceOf, KeepsNames}
use Rattle.office_play.proofs.Places.{keys_stay, names_stay}

pub keeps_same : (o : KeptOffice) → KeepsNames o o
keeps_same o = record { relays_are = refl; computers_are = refl }

-- one word after another
pub keeps_both : (a b c : KeptOffice) → KeepsNames a b → KeepsNames b c → KeepsNames a c
keeps_both a b c one two =
    record { relays_are = two.relays_are ∙ one.relays_are; computers_are = two.computers_are ∙ one.computers_are }

pub relay_still : (name : List ℕ) (a b : KeptOffice) → KeepsNames a b → IsNamed name a.relays → IsNamed name b.relays
relay_still name a b keeps is = names_stay name a.relays b.relays (sym keeps.relays_are) is

pub computer_still : (name : List ℕ) (a b : KeptOffice) → KeepsNames a b → IsNamed name a.computers → IsNamed name b.computers
computer_still name a b keeps is = names_stay name a.computers b.computers (sym keeps.computers_are) is

-- where no name is added
pub adds_none : (a b : KeptOffice) → KeepsNames a b → AddsNames [] [] a b
adds_none a b keeps = record {
  relays_are = keeps.relays_are ∙ sym (append-nil (keys_of a.relays));
  computers_are = keeps.computers_are ∙ sym (append-nil (keys_of a.computers));
}

-- where a relay or a computer is set at its place
pub keeps_relay : (name : List ℕ) (old new : KeptOffice) (place : ℕ) (entry : List ℕ × RelayState) (w : RelayState)
    → IsPlaceOf name old.relays place → entry ≡ get_or old.relays place entry → new.computers ≡ old.computers
    → new.relays ≡ slice_set old.relays place (entry.0, w) → KeepsNames old new
keeps_relay name old new place entry w at is same set = record {
  relays_are = ap keys_of set ∙ keys_stay name old.relays place entry w at.first is;
  computers_are = ap keys_of same;
}

pub keeps_computer : (name : List ℕ) (old new : KeptOffice) (place : ℕ) (entry : List ℕ × PlayedComputer) (w : PlayedComputer)
    → IsPlaceOf name old.computers place → entry ≡ get_or old.computers place entry → new.relays ≡ old.relays
    → new.computers ≡ slice_set old.computers place (entry.0, w) → KeepsNames old new
keeps_computer name old new place entry w at is same set = record {
  relays_are = ap keys_of same;
  computers_are = ap keys_of set ∙ keys_stay name old.computers place entry w at.first is;
}

pub keeps_relay_set : (name : List ℕ) (old new : KeptOffice) (place : ℕ) (entry : List ℕ × RelayState) (w : RelayState)
    → IsPlaceOf name old.relays place → entry ≡ get_or old.relays place entry
    → new ≡ record old { relays = slice_set old.relays place (entry.0, w) } → KeepsNames old new
keeps_relay_set name old new place entry w at is set =
    keeps_relay name old new place entry w at is (ap (λ (o : KeptOffice). o.computers) set) (ap (λ (o : KeptOffice). o.relays) set)

pub keeps_computer_set : (name : List ℕ) (old new : KeptOffice) (place : ℕ) (entry : List ℕ × PlayedComputer) (w : PlayedComputer)
    → IsPlaceOf name old.computers place → entry ≡ get_or old.computers place entry
    → new ≡ record old { computers = slice_set old.computers place (entry.0, w) } → KeepsNames old new
keeps_computer_set name old new place entry w at is set =
    keeps_computer name old new place entry w at is (ap (λ (o : KeptOffice). o.relays) set) (ap (λ (o : KeptOffice). o.computers) set)

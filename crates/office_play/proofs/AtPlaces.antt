-- Deeds at a relay or at a computer, where it stands in its list.
use Rattle.std.proofs.Common.{◌≡◌, ℕ, List, ◌++◌, sym, ap, subst, ◌∙◌}
use Rattle.std.specs.Prelude.{bytes_eq, get_or, slice_set}
use Rattle.std.specs.Map.{set_value}
use Rattle.relay_core.specs.Relays.{RelayState}
use Rattle.server_text.specs.Entries.{Entry}
use Rattle.office_rules.specs.Deeds.{AtComputer, AtRelay, Deed}
use Rattle.office_rules.specs.Offices.{Office, PlayedComputer}
use Rattle.office_play.specs.Kept.{AreRowsOf, KeptOffice, office_of}
use Rattle.office_play.specs.Links.{IsGoodComputer, IsGoodOffice, IsGoodRelay, IsPlaceOf}
use Rattle.office_play.specs.Played.{Plays}
use Rattle.office_play.proofs.GoodOffices.{computer_set, relay_set}
use Rattle.office_play.proofs.Places.{at_place, changed_to, set_entry}

-- What is done there, where this was accepted, is a deed of the office.
abbrev pub IsDeedAtRelay : Deed → (List Entry → RelayState → List ℕ → RelayState → Type 0) → List ℕ → KeptOffice → Type 0
IsDeedAtRelay Does There name old =
    (accepted : List Entry) (said : List ℕ) (new : Office) → AtRelay name (There accepted) (office_of accepted old) said new
    → Does (office_of accepted old) said new

abbrev pub IsDeedAtComputer : Deed → (List Entry → PlayedComputer → List ℕ → PlayedComputer → Type 0) → List ℕ → KeptOffice → Type 0
IsDeedAtComputer Does There name old =
    (accepted : List Entry) (said : List ℕ) (new : Office) → AtComputer name (There accepted) (office_of accepted old) said new
    → Does (office_of accepted old) said new

pub plays_at_relay : (Does : Deed) (There : List Entry → RelayState → List ℕ → RelayState → Type 0) (name : List ℕ) (old new : KeptOffice)
    (place : ℕ) (entry : List ℕ × RelayState) (then : RelayState) (out written : List ℕ) → IsDeedAtRelay Does There name old
    → IsPlaceOf name old.relays place → entry ≡ get_or old.relays place entry → IsGoodOffice old → IsGoodRelay old.computers then
    → ((accepted : List Entry) → AreRowsOf accepted old.rows
    → (said : List ℕ) × There accepted entry.1 said then × (written ≡ out ++ said))
    → new ≡ record old { relays = slice_set old.relays place (entry.0, then) } → Plays Does old out new written
plays_at_relay Does There name old new place entry then out written is_deed at is good one does new_is accepted rows =
    let found = at_place name old.relays place entry at.first is in
    let set : new ≡ record old { relays = set_value (bytes_eq name) old.relays then } =
    new_is ∙ ap (λ (r : List (List ℕ × RelayState)). record old { relays = r }) (set_entry name old.relays place entry then at.first is) in
    let did = does accepted rows in
    record {
      later = accepted;
      said = did.0;
      does = is_deed accepted did.0 (office_of accepted new) (
        entry.1,
        then,
        found.1,
        did.1,
        ap (office_of accepted) set
            ∙ ap (λ (r : List (List ℕ × RelayState)). record (office_of accepted old) { relays = r }) (sym (changed_to name old.relays entry.1 then found.1)),
      );
      rows = subst (λ (o : KeptOffice). AreRowsOf accepted o.rows) (sym set) rows;
      out_is = did.2;
      good = subst IsGoodOffice (sym set) (relay_set old name place then at.first good one);
    }

pub plays_at_computer : (Does : Deed) (There : List Entry → PlayedComputer → List ℕ → PlayedComputer → Type 0) (name : List ℕ)
    (old new : KeptOffice) (place : ℕ) (entry : List ℕ × PlayedComputer) (then : PlayedComputer) (out written : List ℕ)
    → IsDeedAtComputer Does There name old → IsPlaceOf name old.computers place → entry ≡ get_or old.computers place entry
    → IsGoodOffice old → IsGoodComputer old.relays (name, then)
    → ((accepted : List Entry) → AreRowsOf accepted old.rows
    → (said : List ℕ) × There accepted entry.1 said then × (written ≡ out ++ said))
    → new ≡ record old { computers = slice_set old.computers place (entry.0, then) } → Plays Does old out new written
plays_at_computer Does There name old new place entry then out written is_deed at is good one does new_is accepted rows =
    let found = at_place name old.computers place entry at.first is in
    let set : new ≡ record old { computers = set_value (bytes_eq name) old.computers then } =
    new_is ∙ ap (λ (c : List (List ℕ × PlayedComputer)). record old { computers = c }) (set_entry name old.computers place entry then at.first is) in
    let did = does accepted rows in
    record {
      later = accepted;
      said = did.0;
      does = is_deed accepted did.0 (office_of accepted new) (
        entry.1,
        then,
        found.1,
        did.1,
        ap (office_of accepted) set
            ∙ ap (λ (c : List (List ℕ × PlayedComputer)). record (office_of accepted old) { computers = c }) (sym (changed_to name old.computers entry.1 then found.1)),
      );
      rows = subst (λ (o : KeptOffice). AreRowsOf accepted o.rows) (sym set) rows;
      out_is = did.2;
      good = subst IsGoodOffice (sym set) (computer_set old name place then at.first good one);
    }

-- Relays and what of them matters for the delivery of reports, as one of them changes.
use Rattle.std.proofs.Common.{◌≡◌, ℕ, Bool, true, false, cond, List, [], ◌∷◌, Option, Some, None, refl, sym, ap, ◌∙◌}
use Rattle.std.specs.Prelude.{bytes_eq}
use Rattle.std.specs.Map.{set_value}
use Rattle.fix_site.specs.declared.site.Site.{Site}
use Rattle.relay_core.specs.Relays.{RelayState}
use Rattle.delivery.specs.Messages.{Carrier, carrier_of, changed, named, replaced}
use Rattle.office_rules.specs.MessageWords.{sites_of}
use Rattle.office_rules.specs.Offices.{carriers_of}

abbrev pub Relays : Type 0
Relays = List (List ℕ × RelayState)

-- the carrier under a name is that of the relay under it
pub named_carrier : (name : List ℕ) (relays : Relays) (relay : RelayState) → named name relays ≡ Some relay
    → named name (carriers_of relays) ≡ Some (carrier_of relay)
named_carrier name [] relay h = absurd cc
named_carrier name (x ∷ relays) relay h = by (bytes_eq name x.0) h (named_carrier name relays relay)
  where
    some_is : (r s : RelayState) → Some r ≡ Some s → r ≡ s
    some_is r s e = cc

    by : (b : Bool) → cond b (Some x.1) (named name relays) ≡ Some relay
        → (named name relays ≡ Some relay → named name (carriers_of relays) ≡ Some (carrier_of relay))
        → cond b (Some (carrier_of x.1)) (named name (carriers_of relays)) ≡ Some (carrier_of relay)
    by true found more = ap (λ (r : RelayState). Some (carrier_of r)) (some_is x.1 relay found)
    by false found more = more found

carriers_set : (name : List ℕ) (relays : Relays) (w : RelayState)
    → carriers_of (set_value (bytes_eq name) relays w) ≡ set_value (bytes_eq name) (carriers_of relays) (carrier_of w)
carriers_set name [] w = refl
carriers_set name (x ∷ relays) w = by (bytes_eq name x.0) (carriers_set name relays w)
  where
    by : (b : Bool)
        → carriers_of (set_value (bytes_eq name) relays w) ≡ set_value (bytes_eq name) (carriers_of relays) (carrier_of w)
        → carriers_of (cond b ((x.0, w) ∷ relays) (x ∷ set_value (bytes_eq name) relays w))
        ≡ cond b ((x.0, carrier_of w) ∷ carriers_of relays)
        ((x.0, carrier_of x.1) ∷ set_value (bytes_eq name) (carriers_of relays) (carrier_of w))
    by true more = refl
    by false more = ap (λ l. (x.0, carrier_of x.1) ∷ l) more

-- A relay under a name is changed as its carrier is.
pub carriers_changed : (name : List ℕ) (relays : Relays) (old w : RelayState) (change : Carrier → Carrier) → named name relays ≡ Some old
    → change (carrier_of old) ≡ carrier_of w
    → carriers_of (set_value (bytes_eq name) relays w) ≡ changed name change (carriers_of relays)
carriers_changed name relays old w change found same =
    carriers_set name relays w ∙ ap (λ c. set_value (bytes_eq name) (carriers_of relays) c) (sym same)
    ∙ ap (replaced name change (carriers_of relays)) (sym (named_carrier name relays old found))

-- Relays keep their sites where the changed one does.
pub sites_set : (name : List ℕ) (relays : Relays) (old w : RelayState) → named name relays ≡ Some old → w.sites ≡ old.sites
    → sites_of (set_value (bytes_eq name) relays w) ≡ sites_of relays
sites_set name [] old w found same = refl
sites_set name (x ∷ relays) old w found same = by (bytes_eq name x.0) found (sites_set name relays old w)
  where
    some_is : (r s : RelayState) → Some r ≡ Some s → r ≡ s
    some_is r s e = cc

    by : (b : Bool) → cond b (Some x.1) (named name relays) ≡ Some old
        → (named name relays ≡ Some old → w.sites ≡ old.sites → sites_of (set_value (bytes_eq name) relays w) ≡ sites_of relays)
        → sites_of (cond b ((x.0, w) ∷ relays) (x ∷ set_value (bytes_eq name) relays w)) ≡ x.1.sites ∷ sites_of relays
    by true is more = ap (λ (s : List Site). s ∷ sites_of relays) (same ∙ ap (λ (r : RelayState). r.sites) (sym (some_is x.1 old is)))
    by false is more = ap (λ l. x.1.sites ∷ l) (more is same)

some_carrier : (c d : Carrier) → Some c ≡ Some d → c ≡ d
some_carrier c d e = cc

value_still : (name : List ℕ) (carriers : List (List ℕ × Carrier)) (c : Carrier) → named name carriers ≡ Some c
    → set_value (bytes_eq name) carriers c ≡ carriers
value_still name [] c h = refl
value_still name (x ∷ carriers) c h = at_first (bytes_eq name x.0) h (value_still name carriers c)
  where
    at_first : (b : Bool) → cond b (Some x.1) (named name carriers) ≡ Some c
        → (named name carriers ≡ Some c → set_value (bytes_eq name) carriers c ≡ carriers)
        → cond b ((x.0, c) ∷ carriers) (x ∷ set_value (bytes_eq name) carriers c) ≡ x ∷ carriers
    at_first true is more = ap (λ (d : Carrier). (x.0, d) ∷ carriers) (sym (some_carrier x.1 c is))
    at_first false is more = ap (λ l. x ∷ l) (more is)

-- A change that changes nothing.
pub same_carriers : (name : List ℕ) (carriers : List (List ℕ × Carrier)) → changed name (λ c. c) carriers ≡ carriers
same_carriers name carriers = by (named name carriers) refl
  where
    by : (o : Option Carrier) → named name carriers ≡ o → replaced name (λ c. c) carriers o ≡ carriers
    by None is = refl
    by (Some c) is = value_still name carriers c is

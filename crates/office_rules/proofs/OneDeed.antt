-- Deeds that come to one thing from one office.
use Rattle.std.proofs.Common.{◌≡◌, ℕ, List, [], ◌∷◌, ◌++◌, Option, Some, sym, subst, ap, ◌∙◌}
use Rattle.delivery.specs.Messages.{named}
use Rattle.relay_core.specs.Relays.{RelayState}
use Rattle.office_rules.specs.Deeds.{AtComputer, AtRelay, Deed, DoesBoth, DoesEach, DoesNothing}
use Rattle.office_rules.specs.Offices.{Office, PlayedComputer, with_computer, with_relay}

pub some_is : {X : Type 0} (x y : X) → Some x ≡ Some y → x ≡ y
some_is x y e = cc

-- what stands at one place is one thing
pub found_once : {X : Type 0} (o : Option X) (x y : X) → o ≡ Some x → o ≡ Some y → x ≡ y
found_once o x y p q = some_is x y (sym p ∙ q)

-- from this office it comes to one thing
abbrev pub IsOneFrom : Office → Deed → Type 0
IsOneFrom old D = (said other : List ℕ) (new two : Office) → D old said new → D old other two → (said ≡ other) × (new ≡ two)

abbrev pub IsOne : Deed → Type 0
IsOne D = (old : Office) → IsOneFrom old D

pub nothing_once : IsOne DoesNothing
nothing_once old said other new two p q = (p.0 ∙ sym q.0, p.1 ∙ sym q.1)

pub both_once : (First Second : Deed) (old : Office) → IsOneFrom old First → IsOne Second → IsOneFrom old (DoesBoth First Second)
both_once First Second old one then said other new two (mid, a, b, p, q, is) (far, c, d, p', q', is') =
    let first = one a c mid far p p' in
    let second = then mid b d new two q (subst (λ (o : Office). Second o d two) (sym first.1) q') in
    (is ∙ (λ j. first.0 j ++ second.0 j) ∙ sym is', second.1)

pub each_once : {T : Type 0} (Does : T → Deed) → ((x : T) → IsOne (Does x)) → (xs : List T) → IsOne (DoesEach Does xs)
each_once Does one [] = nothing_once
each_once Does one (x ∷ xs) = λ old. both_once (Does x) (DoesEach Does xs) old (one x old) (each_once Does one xs)

-- what is done at a relay or a computer comes to one thing there
pub at_relay_once : (name : List ℕ) (Does : RelayState → List ℕ → RelayState → Type 0) (old : Office)
    → ((relay : RelayState) (said other : List ℕ) (new two : RelayState) → Does relay said new → Does relay other two → (said ≡ other) × (new ≡ two)) → IsOneFrom old (AtRelay name Does)
at_relay_once name Does old one said other new two (relay, then, here, does, is) (relay', then', here', does', is') =
    let same : relay' ≡ relay = found_once (named name old.relays) relay' relay here' here in
    let done = one relay said other then then' does (subst (λ (r : RelayState). Does r other then') same does') in
    (done.0, is ∙ ap (λ (r : RelayState). with_relay name r old) done.1 ∙ sym is')

pub at_computer_once : (name : List ℕ) (Does : PlayedComputer → List ℕ → PlayedComputer → Type 0) (old : Office)
    → ((computer : PlayedComputer) (said other : List ℕ) (new two : PlayedComputer) → Does computer said new → Does computer other two → (said ≡ other) × (new ≡ two)) → IsOneFrom old (AtComputer name Does)
at_computer_once name Does old one said other new two (computer, then, here, does, is) (computer', then', here', does', is') =
    let same : computer' ≡ computer = found_once (named name old.computers) computer' computer here' here in
    let done = one computer said other then then' does (subst (λ (c : PlayedComputer). Does c other then') same does') in
    (done.0, is ∙ ap (λ (c : PlayedComputer). with_computer name c old) done.1 ∙ sym is')

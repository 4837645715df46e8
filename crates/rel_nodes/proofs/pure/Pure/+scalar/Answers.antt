-- What a pure part of scalars gives.
use Rattle.std.proofs.Common.{◌≡◌, ◌∙◌, ap, refl, sym}
use Rattle.std.proofs.lemmas.Option.{IfSome_then}
use Rattle.rel_trace.specs.Draws.{single}
use Rattle.rel_trace.specs.Scalars.{plain}
use Rattle.rel_trace.specs.Scopes.{with_left}
use Rattle.rel_trace.specs.Trace.{one}
use Rattle.rel_nodes.specs.Core.{core}
use Rattle.rel_nodes.specs.declared.pure.Pure.{Pure}
use Rattle.rel_nodes.specs.Nodes.{pure_shape}
use Rattle.rel_nodes.proofs.Pures.{applied_one, joined_given}
use Rattle.rel_nodes.proofs.pure.Pure.+scalar.Goals as goal

pub returns-in_ok-value-in-Applied : goal.returns-in_ok-value-in-Applied
returns-in_ok-value-in-Applied t c = λ w s a it left.
    let told = λ (p : Pure). core w s (pure_shape p) a in
    let part = ap told (sym c.deref.ensures) ∙ c.in_ok-value-in-Applied.ensures w s a it left in
    IfSome_then c.tell_scalar.result (c.tell_scalar.ensures.told s.offset a.left left)
    (λ x h. ap told c.in-Applied.is ∙ applied_one c.in-Applied.apply a s.offset (plain c.in_ok-value-in-Applied.value) (told c.in-Applied.part.value) part ∙ h)

pub returns-in-Single : goal.returns-in-Single
returns-in-Single t c = λ w s a it left.
    let told = λ (p : Pure). core w s (pure_shape p) a in
    IfSome_then c.scalar-in-Single.result (c.scalar-in-Single.ensures w s a it left)
    (λ x h. ap told c.in-Single.is ∙ ap (single c.in-Single.place) (ap told (sym c.deref-in-Single.ensures) ∙ h))

pub returns-in_ok-value-in-Joined : goal.returns-in_ok-value-in-Joined
returns-in_ok-value-in-Joined t c = λ w s a it left.
    let told = λ (p : Pure). core w s (pure_shape p) a in
    let inner = with_left a (plain c.in_ok-value-in-Joined.value) in
    let first : told c.in-Joined.first.value ≡ one (plain c.in_ok-value-in-Joined.value) = ap told (sym c.deref-in-Joined.ensures) ∙ c.in_ok-value-in-Joined.ensures w s a it left in
    IfSome_then c.scalar-in-Joined-2.result (c.scalar-in-Joined-2.ensures w s inner it refl)
    (λ x h. ap told c.in-Joined.is ∙ joined_given w s (pure_shape c.in-Joined.first.value) (pure_shape c.in-Joined.second.value) a (plain c.in_ok-value-in-Joined.value) first ∙ ap (λ (p : Pure). core w s (pure_shape p) inner) (sym c.deref-in-Joined-2.ensures) ∙ h)

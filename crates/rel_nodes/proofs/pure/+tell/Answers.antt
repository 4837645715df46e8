-- What a pure part tells.
use Rattle.std.proofs.Common.{◌≡◌, ℤ, ap, SFits, w64, rules, refl, subst, sym}
use Rattle.std.proofs.lemmas.Int.{to_z-of_z}
use Rattle.rel_sources.specs.declared.scene.Scene.{Scene}
use Rattle.rel_trace.specs.Draws.{single}
use Rattle.rel_trace.specs.Ones.{applied}
use Rattle.rel_trace.specs.Scopes.{seen, with_left}
use Rattle.rel_trace.specs.Steps.{Goes}
use Rattle.rel_trace.specs.Trace.{Trace, none}
use Rattle.rel_nodes.specs.Core.{core}
use Rattle.rel_nodes.specs.Nodes.{pure_shape}
use Rattle.rel_nodes.proofs.Pures.{applied_given, applied_other, joined_given, joined_other, single_other}
use Rattle.rel_nodes.proofs.pure.+tell.Goals as goal

pub applied-returns-in-Some-clause-goes : goal.applied-returns-in-Some-clause-goes
applied-returns-in-Some-clause-goes t c = λ w l.
    let offset = c.scene.inside.offset in
    let fits : SFits w64 offset = search rules in
    let same : offset ≡ c.args.scene.now.offset = ap (λ (s : Scene). s.offset) c.scene.view_is in
    let Tells : ℤ → Type 0 = λ z. Goes l (applied c.args.apply z (seen c.args.scope.now).left c.in-Some.value.now) c.tell.result l none in
    let known : Tells offset = simp to_z-of_z at (c.tell.ensures.goes l) in
    applied_given c.args.apply (seen c.args.scope.now) c.args.scene.now.offset c.in-Some.value.now c.tell.result l (core w c.args.scene.now (pure_shape c.args.part.now) (seen c.args.scope.now)) (c.in-Some.ensures w c.args.scene.now) (subst Tells same known)

pub applied-returns-in-Given-clause-goes : goal.applied-returns-in-Given-clause-goes
applied-returns-in-Given-clause-goes t c = λ w l.
    let offset = c.scene.inside.offset in
    let fits : SFits w64 offset = search rules in
    let same : offset ≡ c.args.scene.now.offset = ap (λ (s : Scene). s.offset) c.scene.view_is in
    let Tells : ℤ → Type 0 = λ z. Goes l (applied c.args.apply z (seen c.args.scope.now).left c.in-Given.value) c.tell-in-Given.result l none in
    let known : Tells offset = simp to_z-of_z at (c.tell-in-Given.ensures.goes l) in
    applied_given c.args.apply (seen c.args.scope.now) c.args.scene.now.offset c.in-Given.value c.tell-in-Given.result l (core w c.args.scene.now (pure_shape c.args.part.now) (seen c.args.scope.now)) (c.in-Given.ensures.goes w l).0 (subst Tells same known)

pub applied-returns-in_default-tell : goal.applied-returns-in_default-tell
applied-returns-in_default-tell t c = record {
  goes = λ w l.
      applied_other c.args.apply (seen c.args.scope.now) c.args.scene.now.offset c.tell-2.result l (core w c.args.scene.now (pure_shape c.args.part.now) (seen c.args.scope.now)) c.tell-2.ensures.told c.in_default-tell.not-Given (c.tell-2.ensures.goes w l);
  told = c.tell-2.ensures.told;
}

pub single-returns-in-Over-clause-goes : goal.single-returns-in-Over-clause-goes
single-returns-in-Over-clause-goes t c = λ w l. (ap (single c.args.place) (c.in-Over.ensures.goes w l).0, refl)

pub single-returns-in_default : goal.single-returns-in_default
single-returns-in_default t c = record {
  goes = λ w l.
      single_other c.tell.result l (core w c.args.scene.now (pure_shape c.args.part.now) (seen c.args.scope.now)) c.args.place c.tell.ensures.told c.in_default.not-Over (c.tell.ensures.goes w l);
  told = c.tell.ensures.told;
}

pub joined-returns-in-Given-clause-goes : goal.joined-returns-in-Given-clause-goes
joined-returns-in-Given-clause-goes t c = λ w l.
    subst (λ (u : Trace). Goes l u c.tell-in-Given.result l none)
    (sym (joined_given w c.args.scene.now (pure_shape c.args.first.now) (pure_shape c.args.second.now) (seen c.args.scope.now) c.in-Given.value (c.in-Given.ensures.goes w l).0))
    (c.tell-in-Given.ensures.goes w l)

pub joined-returns-in-Some-clause-goes : goal.joined-returns-in-Some-clause-goes
joined-returns-in-Some-clause-goes t c = λ w l.
    subst (λ (u : Trace). Goes l u c.tell.result l none)
    (sym (joined_given w c.args.scene.now (pure_shape c.args.first.now) (pure_shape c.args.second.now) (seen c.args.scope.now) c.in-Some.value.now (c.in-Some.ensures w c.args.scene.now)))
    (c.tell.ensures.goes w l)

pub joined-returns-in_default-tell : goal.joined-returns-in_default-tell
joined-returns-in_default-tell t c = record {
  goes = λ w l.
      joined_other c.tell-2.result l (core w c.args.scene.now (pure_shape c.args.first.now) (seen c.args.scope.now)) (λ v. core w c.args.scene.now (pure_shape c.args.second.now) (with_left (seen c.args.scope.now) v))
      c.tell-2.ensures.told c.in_default-tell.not-Given (c.tell-2.ensures.goes w l);
  told = c.tell-2.ensures.told;
}

use Rattle.std.proofs.Common.{◌≡◌, ◌<◌, ◌⊎◌, inl, inr, ℕ, List, [], ◌∷◌, ◌++◌, All, Some, None, length, set, bytes_eq, sym, ap, subst, ◌∙◌, arith, length-append}
use Rattle.std.specs.List.{IsDistinct}
use Rattle.std.proofs.lemmas.List.{length-set}
use Rattle.std.proofs.lemmas.List.Elements.{All-push, All-set}
use Rattle.group_text.specs.declared.group.Group.{Group}
use Rattle.group_core.specs.declared.kept_group.KeptGroup.{KeptGroup}
use Rattle.group_core.specs.Books.{BookState, HasGroup, HasPlace, with_group}
use Rattle.group_core.specs.Keeping.{IsPlaceOf, fitting_names, groups_of}
use Rattle.group_core.specs.Members.{AreMembers}
use Rattle.group_core.proofs.DefineLemmas.{groups_long}
use Rattle.group_core.proofs.KeepLemmas.{distinct_with, groups_behind, groups_written, kept_members, kept_names, names_set}
use Rattle.group_core.proofs.book.Book.keep.Goals as goal

pub invariant_of-self : goal.invariant_of-self
invariant_of-self c =
    let kept : List KeptGroup = c.self.inside.groups.items in
    let g : Group = c.args.group.now in
    let k : KeptGroup = c.in_ok-kept.kept in
    let place = c.in-Some.place in
    let P : List KeptGroup → Type 0 = λ l. IsPlaceOf l g.name (Some place) in
    let here = subst P c.as_slice-2.ensures.value c.in-Some.ensures in
    let M : KeptGroup → Type 0 = λ x. AreMembers c.self.inside.samples x.group x.members.items in
    let D : List (List ℕ) → Type 0 = IsDistinct bytes_eq in
    let own : M k =
    kept_members c.self.inside.samples c.self.inside.computers.items g k c.self.invariant.computers c.self.invariant.table c.in_ok-kept.ensures.group (c.in_ok-kept.ensures.members ∙ ap (fitting_names g) c.as_slice.ensures.value) in
    record {
      properties = c.self.invariant.properties;
      few_properties = c.self.invariant.few_properties;
      few_groups = omega (arith, length-set kept place k, c.self.invariant.few_groups);
      distinct = subst D (sym (names_set kept place k k here.0 (here.1 k ∙ sym (ap (λ (h : Group). h.name) c.in_ok-kept.ensures.group)))) c.self.invariant.distinct;
      computers = c.self.invariant.computers;
      table = c.self.invariant.table;
      members = All-set M kept place k own c.self.invariant.members;
    }

pub invariant_of-self-in-None : goal.invariant_of-self-in-None
invariant_of-self-in-None c =
    let kept : List KeptGroup = c.self.inside.groups.items in
    let g : Group = c.args.group.now in
    let k : KeptGroup = c.in_ok-kept.kept in
    let P : List KeptGroup → Type 0 = λ l. IsPlaceOf l g.name None in
    let none = subst P c.as_slice-2.ensures.value c.in-None.ensures in
    let M : KeptGroup → Type 0 = λ x. AreMembers c.self.inside.samples x.group x.members.items in
    let A : List KeptGroup → Type 0 = All M in
    let D : List KeptGroup → Type 0 = λ l. IsDistinct bytes_eq (kept_names l) in
    let H : List ℕ → Type 0 = λ name. HasGroup (groups_of kept) name in
    let items = c.in_ok-push-in-None.ensures.items in
    let own : M k =
    kept_members c.self.inside.samples c.self.inside.computers.items g k c.self.invariant.computers c.self.invariant.table c.in_ok-kept.ensures.group (c.in_ok-kept.ensures.members ∙ ap (fitting_names g) c.as_slice.ensures.value) in
    let B : BookState → Type 0 = λ b. HasPlace b g in
    let few : length kept < c.self.inside.limit = few_of kept g c.self.inside.limit none (subst B (sym c.self.view_is) c.requires) in
    let count : length c.push.new.self.items ≡ length (kept ++ k ∷ []) = ap (length {A = KeptGroup}) items in
    record {
      properties = c.self.invariant.properties;
      few_properties = c.self.invariant.few_properties;
      few_groups = omega (arith, few, count, length-append kept (k ∷ []));
      distinct = subst D (sym items) (distinct_with kept k c.self.invariant.distinct (λ has. none (subst H (ap (λ (h : Group). h.name) c.in_ok-kept.ensures.group) has)));
      computers = c.self.invariant.computers;
      table = c.self.invariant.table;
      members = subst A (sym items) (All-push M kept k c.self.invariant.members own);
    }
  where
    few_of : (kept : List KeptGroup) (g : Group) (limit : ℕ) → (HasGroup (groups_of kept) g.name → ⊥) → (HasGroup (groups_of kept) g.name ⊎ (length (groups_of kept) < limit)) → length kept < limit
    few_of kept g limit none (inl has) = absurd (none has)
    few_of kept g limit none (inr few) = omega (arith, few, groups_long kept)

pub returns-in-Some-clause-ok : goal.returns-in-Some-clause-ok
returns-in-Some-clause-ok c =
    let kept : List KeptGroup = c.self.inside.groups.items in
    let g : Group = c.args.group.now in
    let k : KeptGroup = c.in_ok-kept.kept in
    let place = c.in-Some.place in
    let P : List KeptGroup → Type 0 = λ l. IsPlaceOf l g.name (Some place) in
    let here = subst P c.as_slice-2.ensures.value c.in-Some.ensures in
    let groups : groups_of (set kept place k) ≡ with_group g c.args.self.now.groups =
    groups_written kept place k g c.self.invariant.distinct here.0 (here.1 k) c.in_ok-kept.ensures.group ∙ ap (λ (b : BookState). with_group g b.groups) c.self.view_is in
    λ i. record { limit = (c.self.view_is i).limit; properties = (c.self.view_is i).properties; groups = groups i; samples = (c.self.view_is i).samples }

pub returns-in_ok-push-in-None-clause-ok : goal.returns-in_ok-push-in-None-clause-ok
returns-in_ok-push-in-None-clause-ok c =
    let kept : List KeptGroup = c.self.inside.groups.items in
    let g : Group = c.args.group.now in
    let k : KeptGroup = c.in_ok-kept.kept in
    let P : List KeptGroup → Type 0 = λ l. IsPlaceOf l g.name None in
    let none = subst P c.as_slice-2.ensures.value c.in-None.ensures in
    let groups : groups_of c.push.new.self.items ≡ with_group g c.args.self.now.groups =
    ap groups_of c.in_ok-push-in-None.ensures.items ∙ groups_behind kept k g none c.in_ok-kept.ensures.group ∙ ap (λ (b : BookState). with_group g b.groups) c.self.view_is in
    λ i. record { limit = (c.self.view_is i).limit; properties = (c.self.view_is i).properties; groups = groups i; samples = (c.self.view_is i).samples }

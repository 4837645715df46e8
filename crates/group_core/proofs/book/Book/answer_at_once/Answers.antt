use Rattle.std.proofs.Common.{◌≡◌, ◌<◌, ℕ, List, Contains, Some, None, get_or, length, inl, inr, sym, ap, subst, ◌∙◌, arith}
use Rattle.std.specs.List.{IsDistinct}
use Rattle.std.specs.Str.{bytes_eq}
use Rattle.std.proofs.lemmas.Bool.{iff_false}
use Rattle.group_text.specs.declared.group.Group.{Group}
use Rattle.group_core.specs.declared.kept_group.KeptGroup.{KeptGroup}
use Rattle.group_core.specs.Books.{BookState, HasGroup}
use Rattle.group_core.specs.Keeping.{IsPlaceOf, groups_of}
use Rattle.group_core.proofs.DefineLemmas.{groups_at, groups_long, names_at, names_same, not_kept}
use Rattle.group_core.proofs.book.Book.answer_at_once.Goals as goal

pub returns-else-is : goal.returns-else-is
returns-else-is c =
    let kept : List KeptGroup = c.self.inside.groups.items in
    let g : Group = c.args.group.now in
    let k : KeptGroup = c.index.result.now in
    let D : List (List ℕ) → Type 0 = IsDistinct bytes_eq in
    let N : List Group → Type 0 = λ gs. Contains gs g in
    let H : List Group → Type 0 = λ gs. HasGroup gs g.name in
    let groups : groups_of kept ≡ c.args.self.now.groups = ap (λ (b : BookState). b.groups) c.self.view_is in
    let P : List KeptGroup → Type 0 = λ l. IsPlaceOf l g.name (Some c.in-Some.place) in
    let here = subst P c.as_slice.ensures.value c.in-Some.ensures in
    let is : k ≡ get_or kept c.in-Some.place k = c.index.ensures in
    let named : k.group.name ≡ g.name = ap (λ (z : KeptGroup). z.group.name) is ∙ here.1 k in
    let L : List ℕ → Type 0 = λ name. HasGroup (groups_of kept) name in (
      (λ has. not_kept kept c.in-Some.place k g (subst D (names_same kept) c.self.invariant.distinct) here.0 is named (iff_false c.is.ensures c.if-is.false) (subst N (sym groups) has)),
      inl (subst H groups (subst L named (names_at (groups_of kept) k.group (groups_at kept c.in-Some.place k here.0 is)))),
    )

pub returns-else-len-self : goal.returns-else-len-self
returns-else-len-self c =
    let kept : List KeptGroup = c.self.inside.groups.items in
    let g : Group = c.args.group.now in
    let N : List Group → Type 0 = λ gs. Contains gs g in
    let groups : groups_of kept ≡ c.args.self.now.groups = ap (λ (b : BookState). b.groups) c.self.view_is in
    let P : List KeptGroup → Type 0 = λ l. IsPlaceOf l g.name None in
    let none = subst P c.as_slice.ensures.value c.in-None.ensures in
    let F : BookState → Type 0 = λ b. length b.groups < b.limit in
    let few : length (groups_of kept) < c.self.inside.limit = omega (arith, c.if-len-self.false, groups_long kept, c.self.inside.groups.ok.0) in
    ((λ has. none (names_at (groups_of kept) g (subst N (sym groups) has))), inr (subst F c.self.view_is few))

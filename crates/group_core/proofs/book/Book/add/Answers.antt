use Rattle.std.proofs.Common.{◌≡◌, ◌<◌, ◌≤◌, ℕ, List, All, ◌++◌, length, refl, sym, ap, subst, ◌∙◌, arith}
use Rattle.group_text.specs.declared.property.Property.{Property}
use Rattle.group_core.specs.Books.{BookState, IsTaken, new_ones}
use Rattle.group_core.proofs.AddLemmas.{all_kept, not_all_kept}
use Rattle.group_core.proofs.book.Book.add.Goals as goal

-- what was said of the lists that were lent holds of what is kept and of the analysis
free_of : (kept ps lent given : List Property) → lent ≡ kept → given ≡ ps → All (λ p. IsTaken lent p → ⊥) given → All (λ p. IsTaken kept p → ⊥) ps
free_of kept ps lent given k g free =
    let A : List Property → Type 0 = λ l. All (λ p. IsTaken l p → ⊥) ps in
    let B : List Property → Type 0 = All (λ p. IsTaken lent p → ⊥) in
    subst A k (subst B g free)

count_of : (kept ps lent given : List Property) (n : ℕ) → lent ≡ kept → given ≡ ps → n ≡ length (new_ones lent given) → n ≡ length (new_ones kept ps)
count_of kept ps lent given n k g is = is ∙ (λ i. length (new_ones (k i) (g i)))

pub returns-then-new-eq0 : goal.returns-then-new-eq0
returns-then-new-eq0 c =
    let kept : List Property = c.args.self.now.properties in
    let ps : List Property = c.args.analysis.now.properties in
    let lent : c.as_slice-kept.result.now ≡ kept = c.as_slice-kept.ensures.value ∙ ap (λ (b : BookState). b.properties) c.self.view_is in
    let free = free_of kept ps c.as_slice-kept.result.now c.as_slice-properties.result.now lent c.as_slice-properties.ensures c.in_default.ensures in
    let count = count_of kept ps c.as_slice-kept.result.now c.as_slice-properties.result.now c.count_new-new.result lent c.as_slice-properties.ensures c.count_new-new.ensures in
    (all_kept kept ps free (sym count ∙ c.if-new-eq0.true), refl)

pub returns-then-new-self : goal.returns-then-new-self
returns-then-new-self c =
    let kept : List Property = c.args.self.now.properties in
    let ps : List Property = c.args.analysis.now.properties in
    let lent : c.as_slice-kept.result.now ≡ kept = c.as_slice-kept.ensures.value ∙ ap (λ (b : BookState). b.properties) c.self.view_is in
    let free = free_of kept ps c.as_slice-kept.result.now c.as_slice-properties.result.now lent c.as_slice-properties.ensures c.in_default.ensures in
    let count = count_of kept ps c.as_slice-kept.result.now c.as_slice-properties.result.now c.count_new-new.result lent c.as_slice-properties.ensures c.count_new-new.ensures in
    let some : 0 < length (new_ones kept ps) = omega (arith, c.if-new-eq0.false, count) in
    let limit : c.self.inside.limit ≡ c.args.self.now.limit = ap (λ (b : BookState). b.limit) c.self.view_is in
    let long = ap (length {A = Property}) lent in
    (record { free = free; some = not_all_kept kept ps some }, limit, omega (arith, c.if-new-self.true, limit, long, count), refl)

pub returns-in-Ok-append : goal.returns-in-Ok-append
returns-in-Ok-append c =
    let kept : List Property = c.args.self.now.properties in
    let ps : List Property = c.args.analysis.now.properties in
    let lent : c.as_slice-kept.result.now ≡ kept = c.as_slice-kept.ensures.value ∙ ap (λ (b : BookState). b.properties) c.self.view_is in
    let free = free_of kept ps c.as_slice-kept.result.now c.as_slice-properties.result.now lent c.as_slice-properties.ensures c.in_default.ensures in
    let count = count_of kept ps c.as_slice-kept.result.now c.as_slice-properties.result.now c.count_new-new.result lent c.as_slice-properties.ensures c.count_new-new.ensures in
    let some : 0 < length (new_ones kept ps) = omega (arith, c.if-new-eq0.false, count) in
    let limit : c.self.inside.limit ≡ c.args.self.now.limit = ap (λ (b : BookState). b.limit) c.self.view_is in
    let long = ap (length {A = Property}) lent in
    let F : BookState → Type 0 = λ b. length b.properties ≤ b.limit in
    let few = subst F c.self.view_is c.self.invariant.few_properties in
    let given : c.as_slice-properties.result.now ≡ ps = c.as_slice-properties.ensures in (
      record { free = free; some = not_all_kept kept ps some },
      omega (arith, c.if-new-self.false, limit, long, count, few),
      c.in-Ok-append.ensures.ok ∙ ap (λ (l : List Property). let b : BookState = record c.args.self.now { properties = kept ++ new_ones kept l } in b) given,
    )

use Rattle.std.proofs.Common.{List, ℕ, bytes_eq, ap, subst, ◌∙◌}
use Rattle.std.specs.List.{IsDistinct}
use Rattle.group_core.specs.Books.{BookState}
use Rattle.group_core.proofs.DefineLemmas.{group_names, names_same}
use Rattle.group_core.proofs.book.Book.members.Goals as goal

pub returns-in-Some-clause-distinct : goal.returns-in-Some-clause-distinct
returns-in-Some-clause-distinct c =
    let D : List (List ℕ) → Type 0 = IsDistinct bytes_eq in
    subst D (names_same c.self.inside.groups.items ∙ ap (λ (b : BookState). group_names b.groups) c.self.view_is) c.self.invariant.distinct

pub returns-in-None-clause-distinct : goal.returns-in-None-clause-distinct
returns-in-None-clause-distinct c =
    let D : List (List ℕ) → Type 0 = IsDistinct bytes_eq in
    subst D (names_same c.self.inside.groups.items ∙ ap (λ (b : BookState). group_names b.groups) c.self.view_is) c.self.invariant.distinct

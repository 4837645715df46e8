-- A list that grows at its end.
use Rattle.std.proofs.Common.{◌≡◌, List, [], ◌∷◌, ◌++◌, refl}
use Rattle.rel_grammar.specs.Trees.{Plain, Linked, more_links, Parts, more_parts}
use Rattle.rel_grammar.specs.Views.{PlainLink, linked, parted}

pub linked-push : (l : Linked) (xs : List PlainLink) (x : PlainLink) → linked l (xs ++ (x ∷ [])) ≡ more_links (linked l xs) x.0 x.1 x.2
linked-push l [] x = refl
linked-push l (y ∷ ys) x = linked-push (more_links l y.0 y.1 y.2) ys x

pub parted-push : (l : Parts) (xs : List Plain) (x : Plain) → parted l (xs ++ (x ∷ [])) ≡ more_parts (parted l xs) x
parted-push l [] x = refl
parted-push l (y ∷ ys) x = parted-push (more_parts l y) ys x

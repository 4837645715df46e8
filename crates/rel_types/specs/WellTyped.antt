-- What is true of every plan.
use Rattle.std.specs.Prelude.{◌≡◌, None, Ok}
use Rattle.rel_grammar.specs.Trees.{Plain}
use Rattle.rel_types.specs.Plans.{PlainNode}
use Rattle.rel_types.specs.Typing.{typed}

-- it is what checking gives of some tree, around which nothing stands for `it`
abbrev pub IsWellTyped : PlainNode → Type 0
IsWellTyped n = ∥ ((t : Plain) × (typed None t ≡ Ok n)) ∥₁

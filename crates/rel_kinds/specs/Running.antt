-- Aggregates come to a value or a fault with each further value.
use Rattle.std.specs.Prelude.{◌≡◌, true, List, [], ◌∷◌, All, Option, Some}
use Rattle.rel_value.specs.Outcomes.{Outcome, gives, fails, no_row}
use Rattle.rel_value.specs.Plain.{Plain, PlainKind, kind_of}
use Rattle.rel_types.specs.declared.head.Head.{Head}
use Rattle.rel_types.specs.declared.head.Head.TheVariants as head
use Rattle.rel_types.specs.Plans.{HeldNode, held_kind}
use Rattle.rel_types.specs.Rows.{Asked, Row, admits, given_by, given_kind, scalar_kind}
use Rattle.rel_trace.specs.declared.fold.Fold.{Fold}
use Rattle.rel_trace.specs.Folds.{held_first, more}
use Rattle.rel_nodes.specs.Meaning.{fold_of}
use Rattle.rel_kinds.specs.Giving.{IsThere}

-- there is an outcome: a value, from which it goes on, or a fault, which ends all
abbrev pub GoesOn : Outcome → (Plain → Type 0) → Type 0
GoesOn (gives h) next = next h
GoesOn (fails why) next = Unit {0}
GoesOn no_row next = ⊥

-- each of some values in turn has an outcome, from what the aggregate holds on
abbrev pub HaveOutcomes : Fold → Option Plain → Option Plain → List Plain → Type 0
HaveOutcomes f separator held [] = Unit {0}
HaveOutcomes f separator held (v ∷ vs) = GoesOn (more f separator held v) (λ h. HaveOutcomes f separator (Some h) vs)

-- the same of an aggregate that gives this kind, over any values of a kind that its row asks for, with any argument that it asks for
abbrev pub HeadGoesOn : Head → Asked → Asked → PlainKind → Type 0
HeadGoesOn (head.Property id) for_argument for_object k = Unit {0}
HeadGoesOn (head.Aggregate g) for_argument for_object k =
    (argument : HeldNode) (separator : Option Plain) → admits for_argument (given_by (held_kind argument)) ≡ true → IsThere (held_kind argument) separator
    → (l : PlainKind) → admits for_object (given_kind l) ≡ true → (vs : List Plain) → All (λ v. kind_of v ≡ l) vs
    → HaveOutcomes (fold_of g k argument) separator (held_first (fold_of g k argument)) vs

-- the same of what a row of the tables names
abbrev pub RowGoesOn : Row → Type 0
RowGoesOn row = HeadGoesOn row.head row.argument row.object (scalar_kind row.gives)

-- Tuples, from the traces of their parts. No public contract speaks of it.
use Rattle.std.specs.Prelude.{◌≡◌, List, [], ◌∷◌, map}
use Rattle.rel_lexer.specs.declared.place.Place.{Place}
use Rattle.bf_world.specs.Worlds.{WorldState}
use Rattle.rel_value.specs.Plain.{Plain, tuple, Parts, no_parts, more_parts}
use Rattle.rel_sources.specs.declared.scene.Scene.{Scene}
use Rattle.rel_trace.specs.declared.joining.Joining.{Joining}
use Rattle.rel_trace.specs.Trace.{Trace, none, one, each, turned}
use Rattle.rel_trace.specs.Scopes.{Around, with_left}
use Rattle.rel_nodes.specs.declared.tuples.Section.{Section}
use Rattle.rel_nodes.specs.Core.{Core, comma_core, core}
use Rattle.rel_nodes.specs.Nodes.{boxed_shape}

-- what a part gives, and its span
pub record TracedPart : Type 0 where
  pub trace : Trace
  pub span : Place

-- the tuples of some parts with these values before theirs: after each value of a part but the last a turn at the part's span, and then
-- the tuples of the parts behind it
abbrev pub spread : Parts → TracedPart → List TracedPart → Trace
spread before x [] = each x.trace (λ v. one (tuple (more_parts before v)))
spread before x (y ∷ ys) = each x.trace (λ v. turned x.span (spread (more_parts before v) y ys))

-- the tuples of some parts, and the values of one that is alone
abbrev pub tuples : List TracedPart → Trace
tuples [] = none
tuples (x ∷ []) = x.trace
tuples (x ∷ y ∷ ys) = spread no_parts x (y ∷ ys)

abbrev pub traced : WorldState → Scene → Around → Section → TracedPart
traced w s a x = record { trace = core w s (boxed_shape x.node) a; span = x.last }

abbrev pub traces : WorldState → Scene → Around → List Section → List TracedPart
traces w s a xs = map (traced w s a) xs

-- none of them asks for the value to its left
abbrev pub AreLeftless : List Section → Type 0
AreLeftless xs = (w : WorldState) (s : Scene) (a : Around) (v : Plain) → traces w s (with_left a v) xs ≡ traces w s a xs

abbrev pub GivesTuples : Core → List Section → Type 0
GivesTuples c xs = (w : WorldState) (s : Scene) (a : Around) → core w s c a ≡ tuples (traces w s a xs)

-- the last of them has this span
abbrev pub EndsAt : {X : Type 0} → (X → Place) → Place → List X → Type 0
EndsAt span_of p [] = ⊥
EndsAt span_of p (x ∷ []) = p ≡ span_of x
EndsAt span_of p (x ∷ y ∷ ys) = EndsAt span_of p (y ∷ ys)

-- a section that stands for these
pub record IsTupleOf (whole : Section) (parts : List Section) : Type 0 where
  pub gives : GivesTuples (boxed_shape whole.node) parts
  pub ends : EndsAt (λ (x : Section). x.last) whole.last parts

-- a section of two neighbouring ones, with a comma between them
pub record IsCommaOf (joining : Joining) (first second whole : Section) : Type 0 where
  pub made : boxed_shape whole.node ≡ comma_core joining first.last (boxed_shape first.node) (boxed_shape second.node)
  pub last : whole.last ≡ second.last

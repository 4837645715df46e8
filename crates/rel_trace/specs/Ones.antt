-- What the state of a form with one part makes of the trace of its part.
use Rattle.std.specs.Prelude.{ℕ, ◌+◌, ℤ, Bool, true, false, not, Option}
use Rattle.rel_lexer.specs.declared.place.Place.{Place}
use Rattle.rel_lexer.specs.declared.operator.BinarySign.{BinarySign}
use Rattle.rel_value.specs.declared.cast_name.Cast.{Cast}
use Rattle.rel_value.specs.Casts.{cast}
use Rattle.rel_value.specs.Operands.{stance}
use Rattle.rel_value.specs.Outcomes.{Outcome, gives, no_row}
use Rattle.rel_value.specs.Plain.{Plain, boolean}
use Rattle.rel_value.specs.Signs.{negated}
use Rattle.rel_trace.specs.declared.fold.Fold.{Fold}
use Rattle.rel_trace.specs.declared.draw.Draw.{Draw}
use Rattle.rel_trace.specs.declared.draw.Draw.TheVariants.{Single, Exists}
use Rattle.rel_trace.specs.declared.folding.Folding.{Folding}
use Rattle.rel_trace.specs.declared.apply.Apply.{Apply}
use Rattle.rel_trace.specs.declared.apply.Apply.TheVariants.{Negate, Not, Cast as To, Sign, Tuple}
use Rattle.rel_trace.specs.declared.joining.Joining.{Joining}
use Rattle.rel_trace.specs.declared.one.One.{One}
use Rattle.rel_trace.specs.declared.one.One.TheVariants as form
use Rattle.rel_trace.specs.Trace.{Trace, each, none, result_at}
use Rattle.rel_trace.specs.Draws.{any, single, single_from}
use Rattle.rel_trace.specs.Folds.{held_first, folded}
use Rattle.rel_trace.specs.Joins.{op_left, tied_left}
use Rattle.rel_trace.specs.Scopes.{Around}

-- the forms with one part
pub data OneKind : Type 0 where
  single_kind : (place : Place) → OneKind
  exists_kind : OneKind
  fold_kind : (fold : Fold) (place : Place) → OneKind
  negate_kind : (place : Place) → OneKind
  not_kind : (place : Place) → OneKind
  cast_kind : (to : Cast) (place : Place) → OneKind
  sign_kind : (sign : BinarySign) (place : Place) → OneKind
  tuple_kind : (joining : Joining) (span : Place) → OneKind

-- `not` before one operand
abbrev pub inverted : Plain → Outcome
inverted (boolean b) = gives (boolean (not b))
inverted _ = no_row

-- what a form makes of the trace of its part, at an offset in minutes east of UTC; a separator is the argument around it,
-- and a sign and a tuple have the left value around it
abbrev pub one_whole : OneKind → Around → ℤ → Trace → Trace
one_whole (single_kind p) s offset t = single p t
one_whole exists_kind s offset t = any t
one_whole (fold_kind f p) s offset t = folded f s.argument p (held_first f) t
one_whole (negate_kind p) s offset t = each t (λ v. result_at p (negated (stance v)))
one_whole (not_kind p) s offset t = each t (λ v. result_at p (inverted v))
one_whole (cast_kind to p) s offset t = each t (λ v. result_at p (cast to v offset))
one_whole (sign_kind g p) s offset t = each t (λ v. result_at p (op_left g s.left v))
one_whole (tuple_kind j p) s offset t = each t (λ v. result_at p (tied_left j s.left v))

-- nothing, once it is done
abbrev pub unless : Bool → Trace → Trace
unless true t = none
unless false t = t

abbrev pub draw_kind : Draw → OneKind
draw_kind (Single p held done) = single_kind p
draw_kind (Exists done) = exists_kind

abbrev pub draw_left : Draw → Trace → Trace
draw_left (Single p held done) t = unless done (single_from p held t)
draw_left (Exists done) t = unless done (any t)

abbrev pub draw_done : Draw → Bool
draw_done (Single p held done) = done
draw_done (Exists done) = done

abbrev pub fold_left : Folding → Option Plain → Trace → Trace
fold_left f separator t = unless f.done (folded f.fold separator f.place f.held t)

abbrev pub apply_kind : Apply → OneKind
apply_kind (Negate p) = negate_kind p
apply_kind (Not p) = not_kind p
apply_kind (To to p) = cast_kind to p
apply_kind (Sign g p) = sign_kind g p
apply_kind (Tuple j p) = tuple_kind j p

-- what a sign or a cast makes of a value, and of the left one around it
abbrev pub made : Apply → ℤ → Option Plain → Plain → Outcome
made (Negate p) offset left v = negated (stance v)
made (Not p) offset left v = inverted v
made (To to p) offset left v = cast to v offset
made (Sign g p) offset left v = op_left g left v
made (Tuple j p) offset left v = tied_left j left v

-- the place of the sign or of the cast's words, or the span of a tuple's part before
abbrev pub apply_place : Apply → Place
apply_place (Negate p) = p
apply_place (Not p) = p
apply_place (To to p) = p
apply_place (Sign g p) = p
apply_place (Tuple j p) = p

abbrev pub applied : Apply → ℤ → Option Plain → Plain → Trace
applied a offset left v = result_at (apply_place a) (made a offset left v)

abbrev pub one_kind : One → OneKind
one_kind (form.Draw d) = draw_kind d
one_kind (form.Fold f) = fold_kind f.fold f.place
one_kind (form.Apply a) = apply_kind a

-- what is left of a form, where its part has this left
abbrev pub one_left : One → Around → ℤ → Trace → Trace
one_left (form.Draw d) s offset t = draw_left d t
one_left (form.Fold f) s offset t = fold_left f s.argument t
one_left (form.Apply a) s offset t = each t (applied a offset s.left)

-- it has given all that it gives
abbrev pub is_done : One → Bool
is_done (form.Draw d) = draw_done d
is_done (form.Fold f) = f.done
is_done (form.Apply a) = false

-- Nothing is left where its part has nothing left: it has nothing to sum up.
abbrev pub ends_with_part : One → Bool
ends_with_part (form.Apply a) = true
ends_with_part _ = false

abbrev pub zero_if : Bool → ℕ → ℕ
zero_if true n = 0
zero_if false n = n

-- how many quiet steps are left, where the part has q
abbrev pub one_quiet : One → ℕ → ℕ
one_quiet (form.Draw d) q = zero_if (draw_done d) (q + 1)
one_quiet (form.Fold f) q = zero_if f.done (q + 1)
one_quiet (form.Apply a) q = q

-- The casts: their words, and the kind that each gives.
use Rattle.std.specs.Prelude.{ℕ, List, [], ◌∷◌, Option, option_map, option_and_then, find, codes}
use Rattle.std.specs.Str.{bytes_eq}
use Rattle.rel_value.specs.declared.cast_name.Cast.{Cast}
use Rattle.rel_value.specs.declared.cast_name.Cast.TheVariants as to
use Rattle.rel_value.specs.Plain.{PlainKind}
use Rattle.rel_value.specs.Kinds.{cast_kind}

-- the words after `as`
pub record CastRow : Type 0 where
  pub cast : Cast
  pub words : List ℕ

unfoldable pub cast_rows : List CastRow
cast_rows =
    record { cast = to.Str; words = codes "string" } ∷
    record { cast = to.Integer; words = codes "integer" } ∷
    record { cast = to.Version; words = codes "version" } ∷
    record { cast = to.Boolean; words = codes "boolean" } ∷
    record { cast = to.Time; words = codes "time" } ∷
    record { cast = to.Lowercase; words = codes "lowercase" } ∷
    record { cast = to.Uppercase; words = codes "uppercase" } ∷
    record { cast = to.Trimmed; words = codes "trimmed string" } ∷
    []

-- the cast of these words
abbrev pub cast_named : List ℕ → Option Cast
cast_named words = option_map (λ row. row.cast) (find (λ row. bytes_eq row.words words) cast_rows)

-- a cast and the kind that it gives
pub record CastTaken : Type 0 where
  pub cast : Cast
  pub kind : PlainKind

abbrev pub cast_taken : PlainKind → Cast → Option CastTaken
cast_taken from cast = option_map (λ k. record { cast = cast; kind = k }) (cast_kind cast from)

-- what a cast of these words makes of a value of this kind, if it has a row for it
unfoldable pub cast_of : PlainKind → List ℕ → Option CastTaken
cast_of from words = option_and_then (cast_taken from) (cast_named words)

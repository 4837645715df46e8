-- What the rows of the code's tables show. Only private functions cite these definitions.
use Rattle.std.specs.Prelude.{option_map}
use Rattle.rel_types.specs.declared.row.Asked.{Asked}
use Rattle.rel_types.specs.declared.row.Asked.TheVariants.{OneOf, NoneOr, Integers, Anything}
use Rattle.rel_types.specs.declared.row.Row.{Row}
use Rattle.rel_types.specs.declared.cast_words.CastRow.{CastRow}
use Rattle.rel_types.specs.Rows as plain
use Rattle.rel_types.specs.declared.naming.Headed.{Headed}
use Rattle.rel_types.specs.Casts as casts
use Rattle.rel_types.specs.declared.casts.CastTaken.{CastTaken}
use Rattle.rel_types.specs.declared.casts.Casted.{Casted}
use Rattle.rel_types.specs.declared.links.Chained.{Chained}
use Rattle.rel_types.specs.Heads as heads
use Rattle.rel_types.specs.Typing as typing
use Rattle.rel_types.specs.Views.{shown_links}
use Rattle.rel_value.specs.Views.{shown_kind}

abbrev pub shown_asked : Asked → plain.Asked
shown_asked (OneOf kinds) = plain.one_of kinds.now
shown_asked (NoneOr kinds) = plain.none_or kinds.now
shown_asked Integers = plain.two_integers
shown_asked Anything = plain.anything

abbrev pub shown_row : Row → plain.Row
shown_row r = record { head = r.head; singular = r.singular.now; plural = option_map (λ w. w.now) r.plural; argument = shown_asked r.argument; object = shown_asked r.object; gives = r.gives }

abbrev pub shown_cast_row : CastRow → casts.CastRow
shown_cast_row r = record { cast = r.cast; words = r.words.now }

abbrev pub shown_headed : Headed → heads.Headed
shown_headed h = record { head = h.head; plural = h.plural; kind = shown_kind h.kind }

abbrev pub shown_cast_taken : CastTaken → casts.CastTaken
shown_cast_taken t = record { cast = t.cast; kind = shown_kind t.kind }

abbrev pub shown_casted : Casted → typing.Casted
shown_casted c = record { kind = shown_kind c.kind; steps = c.steps }

abbrev pub shown_chained : Chained → typing.Chained
shown_chained c = record { kind = shown_kind c.kind; links = shown_links c.links }

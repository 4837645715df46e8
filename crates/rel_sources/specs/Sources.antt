-- The items that a source of several values has still to give.
use Rattle.std.specs.Prelude.{if◌then◌else◌, List, [], map, drop}
use Rattle.rel_sources.specs.declared.entries.Entries.{Entries}
use Rattle.rel_sources.specs.declared.members.Members.{Members}
use Rattle.rel_sources.specs.declared.lines.Lines.{Lines}
use Rattle.rel_sources.specs.declared.integers.Integers.{Integers}
use Rattle.rel_sources.specs.declared.pieces.Pieces.{Pieces}
use Rattle.rel_sources.specs.declared.source.ItemSource.{ItemSource}
use Rattle.rel_sources.specs.declared.source.ItemSource.TheVariants as source
use Rattle.rel_sources.specs.Traces.{Item}
use Rattle.rel_sources.specs.Words.{text_lines}
use Rattle.rel_sources.specs.Rows.{entry_item, line_item, piece_items, integers, integer_item}
use Rattle.rel_sources.specs.Members.{row_items}

-- the entries of one sort in a folder
abbrev pub entries_left : Entries → List Item
entries_left e = map (entry_item e.folders e.path) (drop e.next e.entries.items)

abbrev pub members_left : Members → List Item
members_left m = drop m.next (row_items m.wanted m.rows)

abbrev pub lines_left : Lines → List Item
lines_left l = map (line_item l.wanted) (text_lines (drop l.from l.content))

abbrev pub integers_left : Integers → List Item
integers_left i = if i.over then [] else map integer_item (integers i.next i.last)

abbrev pub pieces_left : Pieces → List Item
pieces_left p = piece_items p.separator p.text p.from

abbrev pub items_in : ItemSource → List Item
items_in source.Nothing = []
items_in (source.Entries e) = entries_left e
items_in (source.Members m) = members_left m
items_in (source.Lines l) = lines_left l
items_in (source.Integers i) = integers_left i
items_in (source.Pieces p) = pieces_left p

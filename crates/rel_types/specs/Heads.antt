-- What a name asks for, by its words and the kinds of its argument and object.
use Rattle.std.specs.Prelude.{ℕ, ℤ, pos, negsuc, Bool, true, false, if◌then◌else◌, List, ◌++◌, Option, Some, None, option_map, option_and_then, find, slice_get, codes}
use Rattle.std.specs.Str.{bytes_eq}
use Rattle.rel_value.specs.Plain.{PlainKind, tuples}
use Rattle.rel_value.specs.declared.property.PropertyId.TheVariants as id
use Rattle.rel_types.specs.declared.head.Head.{Head}
use Rattle.rel_types.specs.declared.head.Head.TheVariants.{Property}
use Rattle.rel_types.specs.declared.given.Given.{Given}
use Rattle.rel_types.specs.Plans.{form_of, PlainForm, numeral, HeldNode, no_node, a_node, held_kind}
use Rattle.rel_types.specs.Rows.{Row, are_words, fits, given_by, kind_list, scalar_kind}
use Rattle.rel_types.specs.Properties.{property_rows}
use Rattle.rel_types.specs.Aggregates.{aggregate_rows}

-- what a name stands for: whether it may give no value or several, and the kind
pub record Headed : Type 0 where
  pub head : Head
  pub plural : Bool
  pub kind : PlainKind

abbrev pub row_head : List ℕ → Row → Headed
row_head words row = record { head = row.head; plural = are_words words row.plural; kind = scalar_kind row.gives }

-- the first row that fits, of the properties and then of the aggregates
abbrev pub first_row : List ℕ → Given → Given → Option Row
first_row words argument object =
    find (fits words argument object) (property_rows ++ aggregate_rows)

-- an argument that is a number itself
abbrev pub literal_form : PlainForm → Option ℤ
literal_form (numeral p n) = Some n
literal_form _ = None

abbrev pub literal_number : HeldNode → Option ℤ
literal_number no_node = None
literal_number (a_node n) = literal_form (form_of n)

-- the kinds of a tuple's parts
abbrev pub part_kinds : PlainKind → Option (List PlainKind)
part_kinds (tuples ks) = Some (kind_list ks)
part_kinds _ = None

-- the one of this number, counted from 0
abbrev pub kind_at : ℤ → List PlainKind → Option PlainKind
kind_at (pos n) ks = slice_get ks n
kind_at (negsuc n) ks = None

-- the kind of the part of a tuple that a number names
abbrev pub item_kind : Option ℤ → Option PlainKind → Option PlainKind
item_kind number object = option_and_then (λ n. option_and_then (λ k. option_and_then (kind_at n) (part_kinds k)) object) number

abbrev pub item_head : Bool → Option PlainKind → Option Headed
item_head plural kind = option_map (λ k. record { head = Property id.Item; plural = plural; kind = k }) kind

-- what these words stand for with this argument and this object, if they stand for something
unfoldable pub head_of : List ℕ → HeldNode → HeldNode → Option Headed
head_of words argument object =
    if bytes_eq words (codes "item") then item_head false (item_kind (literal_number argument) (held_kind object))
    else (if bytes_eq words (codes "items") then item_head true (item_kind (literal_number argument) (held_kind object))
    else option_map (row_head words) (first_row words (given_by (held_kind argument)) (given_by (held_kind object))))

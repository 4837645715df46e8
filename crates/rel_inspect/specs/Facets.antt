-- What is found once, what is asked of a look's answer, and what is offered.
use Rattle.std.specs.Prelude.{ℕ, List, map, ⊤}
use Rattle.std.specs.declared.option.Option.{Option}
use Rattle.std.specs.declared.option.Option.TheVariants.{Some, None}
use Rattle.std.specs.Option.{option_map, option_copied}
use Rattle.sha1.specs.Sha1.{sha1}
use Rattle.sha2.specs.Sha256.{sha256}
use Rattle.hex.specs.Hex.{encode_lower}
use denote.Ref.{Bor}
use Rattle.bf_world.specs.declared.answer.Answer.{Answer}
use Rattle.rel_value.specs.declared.value.Value.{Value}
use Rattle.rel_value.specs.Operands.{IsSound}
use Rattle.rel_value.specs.Plain.{Plain, integer, time}
use Rattle.rel_value.specs.Views.{shown}
use Rattle.rel_inspect.specs.declared.once.Once.{Once}
use Rattle.rel_inspect.specs.declared.once.Once.TheVariants as once_form
use Rattle.rel_inspect.specs.declared.once.Sought.{Sought}
use Rattle.rel_inspect.specs.declared.once.Sought.TheVariants as sought
use Rattle.rel_inspect.specs.declared.facet.Facet.{Facet}
use Rattle.rel_inspect.specs.declared.facet.Facet.TheVariants as facet
use Rattle.rel_inspect.specs.declared.listing.Listing.{Listing}
use Rattle.rel_inspect.specs.declared.listing.Listing.TheVariants as listing
use Rattle.rel_sources.specs.declared.scene.Scene.{Scene}
use Rattle.rel_sources.specs.Traces.{Item, Present, text_item}
use Rattle.rel_sources.specs.Scenes.{value_of}
use Rattle.rel_sources.specs.Words.{text_lines}
use Rattle.rel_sources.specs.Rows.{item_of, text_item_of, file_item, folder_item, size_item, modified_item, entries_of, entry_items, lines_of, line_item, numbered, digest_item, system_item, name_item, process_items, package_items, setting_items}
use Rattle.rel_sources.specs.Draws.{item_in, IsSoundItem, values_in}

abbrev pub sought_item : Sought → Scene → Item
sought_item sought.Now s = Present (time s.moment)
sought_item (sought.Parameter name) s = text_item_of (value_of name s.parameters)
sought_item sought.ExitCode s = item_of (option_map integer s.exit)
sought_item (sought.LineAt number content) s = text_item_of (numbered number (text_lines content))
sought_item (sought.Sha1 content) s = text_item (encode_lower (sha1 content))
sought_item (sought.Sha256 content) s = text_item (encode_lower (sha256 content))

abbrev pub once_item : Once → Scene → Item
once_item (once_form.Held held) s = item_in held
once_item (once_form.Sought what) s = sought_item what s

-- A value that is held is sound. What is found is so too.
abbrev pub IsSoundOnce : Once → Type 0
IsSoundOnce (once_form.Held held) = IsSoundItem (item_in held)
IsSoundOnce (once_form.Sought what) = ⊤

-- how many values it may still give
abbrev pub once_values : Once → ℕ
once_values (once_form.Held held) = values_in (item_in held)
once_values (once_form.Sought what) = 1

-- what is asked of a look's answer
abbrev pub facet_item : Facet → Answer → Item
facet_item (facet.File path) a = file_item path a
facet_item (facet.Folder path) a = folder_item path a
facet_item facet.Size a = size_item a
facet_item facet.Modified a = modified_item a
facet_item (facet.LineAt number) a = text_item_of (numbered number (lines_of a))
facet_item facet.Sha1 a = digest_item sha1 a
facet_item facet.Sha256 a = digest_item sha256 a
facet_item facet.System a = system_item a
facet_item facet.ComputerName a = name_item a

abbrev pub listed_items : Listing → Answer → List Item
listed_items (listing.Entries folders path) a = entry_items folders path (entries_of a)
listed_items (listing.Lines wanted) a = map (line_item wanted) (lines_of a)
listed_items (listing.Processes wanted) a = process_items wanted a
listed_items (listing.Packages wanted) a = package_items wanted a
listed_items (listing.Settings wanted) a = setting_items wanted a

-- what a reference to a value offers
abbrev pub offered : Option (Bor Value) → Option Plain
offered value = option_map shown (option_copied value)

-- A value that is offered is sound.
abbrev pub IsSoundOffer : Option Plain → Type 0
IsSoundOffer None = ⊤
IsSoundOffer (Some v) = IsSound v

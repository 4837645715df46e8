-- Properties that are given what they ask for take it.
use Rattle.std.proofs.Common.{◌≡◌, ◌≢◌, ℕ, zero, suc, pos, Bool, true, false, List, [], ◌∷◌, length, map, All, Option, Some, None, option_map, refl, sym, ap, ◌∙◌}
use Rattle.std.specs.Prelude.{if◌then◌else◌, nat_le, IsSome}
use Rattle.std.specs.Str.{chars}
use Rattle.sha1.specs.Sha1.{sha1}
use Rattle.sha2.specs.Sha256.{sha256}
use Rattle.bf_world.specs.declared.key.Key.TheVariants as key
use Rattle.bf_world.specs.Worlds.{WorldState}
use Rattle.rel_value.specs.declared.property.PropertyId.TheVariants as id
use Rattle.rel_value.specs.Plain.{Plain, integer, words, time, version, kind_of}
use Rattle.rel_types.specs.Rows.{Asked, two_integers, admits, given_by}
use Rattle.rel_types.specs.Properties.{property_rows}
use Rattle.rel_sources.specs.Traces as walk
use Rattle.rel_sources.specs.Traces.{Present, Unfit, once, turns, text_item}
use Rattle.rel_sources.specs.Rows.{item_of, text_item_of, size_item, modified_item, entries_of, entry_items, lines_of, line_item, numbered, digest_item}
use Rattle.rel_sources.specs.Words.{first_place, cut_pieces, pieces_within, pieces_by}
use Rattle.rel_inspect.specs.Below.{below, descendants}
use Rattle.rel_inspect.specs.Offered.{text_in, integer_in, file_in, folder_in, path_in, name_in, version_in, value_in, date_in, preceding_in, following_in, bounds_in}
use Rattle.rel_inspect.specs.Props.{with, looking, prop}
use Rattle.rel_kinds.specs.Taking.{RowTakes}
use Rattle.rel_kinds.proofs.Basics.{false_true}
use Rattle.rel_kinds.proofs.Asked.{Each, ◌▹◌, each-all, object_at, argument_at}
use Rattle.rel_kinds.proofs.Reading.{Reads, text-reads, integer-reads, file-reads, folder-reads, path-reads, name-reads, version-reads, value-reads, date-reads, preceding-reads, following-reads, bounds-reads}

-- no event and no error
abbrev is_none : walk.Trace → Bool
is_none (walk.Ends walk.Stop) = true
is_none _ = false

abbrev Speaks : walk.Trace → Type 0
Speaks t = is_none t ≡ false

with-speaks : {A : Type 0} (o : Option A) (f : A → walk.Trace) → IsSome o → ((x : A) → Speaks (f x)) → Speaks (with o f)
with-speaks None f h g = absurd (false_true h)
with-speaks (Some x) f h g = g x

fit-speaks : (b : Bool) (t : List ℕ) → Speaks (once (if b then Present (words t) else Unfit))
fit-speaks true t = refl
fit-speaks false t = refl

text-speaks : (o : Option (List ℕ)) → IsSome o → Speaks (once (text_item_of o))
text-speaks None h = absurd (false_true h)
text-speaks (Some t) h = fit-speaks (nat_le (length t) 1048576) t

made-speaks : {A : Type 0} (f : A → Plain) (o : Option A) → IsSome o → Speaks (once (item_of (option_map f o)))
made-speaks f None h = absurd (false_true h)
made-speaks f (Some x) h = refl

below-speaks : (w : WorldState) (n : ℕ) (path : List ℕ) → Speaks (below w (suc n) path)
unfolding below
below-speaks w n path = refl

-- a text has a piece
cut-speaks : (more : List ℕ → List (List ℕ)) (separator text : List ℕ) (place : Option ℕ) → Speaks (turns (map text_item (cut_pieces more separator text place)))
cut-speaks more separator text None = refl
cut-speaks more separator text (Some place) = refl

within-speaks : (n : ℕ) (separator text : List ℕ) → Speaks (turns (map text_item (pieces_within n separator text)))
within-speaks zero separator text = refl
within-speaks (suc n) separator text = cut-speaks (pieces_within n separator) separator text (first_place separator text)

pieces-speak : (separator text : List ℕ) → Speaks (turns (map text_item (pieces_by separator text)))
unfolding pieces_by
pieces-speak [] text = refl
pieces-speak (x ∷ xs) text = within-speaks (length text) (x ∷ xs) text

-- what is asked for is there, and can be read
there : {A : Type 0} (asked : Asked) (read : Option Plain → Option A) → Reads asked read → admits asked (given_by None) ≡ false → (o : Option Plain) → admits asked (given_by (option_map kind_of o)) ≡ true → IsSome (read o)
there asked read reads e None h = absurd (false_true (sym e ∙ h))
there asked read reads e (Some v) h = reads v h

-- ---- each row

taken : (t : walk.Trace) → Speaks t → t ≢ walk.none
taken t h q = false_true (sym h ∙ ap is_none q)

rows-take : Each RowTakes property_rows
unfolding property_rows
rows-take =
    (λ a o ha ho w s. taken (prop id.True a o w s) refl)
    ▹ (λ a o ha ho w s. taken (prop id.False a o w s) refl)
    ▹ (λ a o ha ho w s. taken (prop id.Second a o w s) refl)
    ▹ (λ a o ha ho w s. taken (prop id.Minute a o w s) refl)
    ▹ (λ a o ha ho w s. taken (prop id.Hour a o w s) refl)
    ▹ (λ a o ha ho w s. taken (prop id.Day a o w s) refl)
    ▹ (λ a o ha ho w s. taken (prop id.Now a o w s) refl)
    ▹ (λ a o ha ho w s. there (argument_at 20 property_rows) text_in text-reads refl a ha)
    ▹ (λ a o ha ho w s. there (argument_at 20 property_rows) text_in text-reads refl a ha)
    ▹ (λ a o ha ho w s. (there (argument_at 20 property_rows) text_in text-reads refl a ha, there (object_at 11 property_rows) folder_in folder-reads refl o ho))
    ▹ (λ a o ha ho w s. (there (argument_at 20 property_rows) text_in text-reads refl a ha, there (object_at 11 property_rows) folder_in folder-reads refl o ho))
    ▹ (λ a o ha ho w s. taken (prop id.File a o w s) (with-speaks (folder_in o) (λ path. looking w (key.List path) (λ x. turns (entry_items false path (entries_of x)))) (there (object_at 11 property_rows) folder_in folder-reads refl o ho) (λ path. refl)))
    ▹ (λ a o ha ho w s. taken (prop id.Folder a o w s) (with-speaks (folder_in o) (λ path. looking w (key.List path) (λ x. turns (entry_items true path (entries_of x)))) (there (object_at 11 property_rows) folder_in folder-reads refl o ho) (λ path. refl)))
    ▹ (λ a o ha ho w s. taken (prop id.Descendant a o w s) (with-speaks (folder_in o) (descendants w) (there (object_at 11 property_rows) folder_in folder-reads refl o ho) (below-speaks w 1023)))
    ▹ (λ a o ha ho w s. taken (prop id.Name a o w s) (text-speaks (name_in o) (there (object_at 14 property_rows) name_in name-reads refl o ho)))
    ▹ (λ a o ha ho w s. taken (prop id.Pathname a o w s) (text-speaks (path_in o) (there (object_at 15 property_rows) path_in path-reads refl o ho)))
    ▹ (λ a o ha ho w s. taken (prop id.Size a o w s) (with-speaks (file_in o) (λ path. looking w (key.Stat path) (λ x. once (size_item x))) (there (object_at 16 property_rows) file_in file-reads refl o ho) (λ path. refl)))
    ▹ (λ a o ha ho w s. taken (prop id.ModificationTime a o w s) (with-speaks (file_in o) (λ path. looking w (key.Stat path) (λ x. once (modified_item x))) (there (object_at 16 property_rows) file_in file-reads refl o ho) (λ path. refl)))
    ▹ (λ a o ha ho w s. taken (prop id.Line a o w s) (with-speaks (file_in o) (λ path. looking w (key.Read path) (λ x. turns (map (line_item None) (lines_of x)))) (there (object_at 16 property_rows) file_in file-reads refl o ho) (λ path. refl)))
    ▹ (λ a o ha ho w s. taken (prop id.LineAt a o w s) (with-speaks (integer_in a) (λ n. with (file_in o) (λ path. looking w (key.Read path) (λ x. once (text_item_of (numbered n (lines_of x)))))) (there (argument_at 19 property_rows) integer_in integer-reads refl a ha) (λ n. with-speaks (file_in o) (λ path. looking w (key.Read path) (λ x. once (text_item_of (numbered n (lines_of x))))) (there (object_at 16 property_rows) file_in file-reads refl o ho) (λ path. refl))))
    ▹ (λ a o ha ho w s. taken (prop id.LineContaining a o w s) (with-speaks (text_in a) (λ t. with (file_in o) (λ path. looking w (key.Read path) (λ x. turns (map (line_item (Some t)) (lines_of x))))) (there (argument_at 20 property_rows) text_in text-reads refl a ha) (λ t. with-speaks (file_in o) (λ path. looking w (key.Read path) (λ x. turns (map (line_item (Some t)) (lines_of x)))) (there (object_at 16 property_rows) file_in file-reads refl o ho) (λ path. refl))))
    ▹ (λ a o ha ho w s. taken (prop id.Sha1 a o w s) (with-speaks (file_in o) (λ path. looking w (key.Read path) (λ x. once (digest_item sha1 x))) (there (object_at 16 property_rows) file_in file-reads refl o ho) (λ path. refl)))
    ▹ (λ a o ha ho w s. taken (prop id.Sha256 a o w s) (with-speaks (file_in o) (λ path. looking w (key.Read path) (λ x. once (digest_item sha256 x))) (there (object_at 16 property_rows) file_in file-reads refl o ho) (λ path. refl)))
    ▹ (λ a o ha ho w s. taken (prop id.OperatingSystem a o w s) refl)
    ▹ (λ a o ha ho w s. taken (prop id.ComputerName a o w s) refl)
    ▹ (λ a o ha ho w s. taken (prop id.Process a o w s) refl)
    ▹ (λ a o ha ho w s. taken (prop id.Package a o w s) refl)
    ▹ (λ a o ha ho w s. taken (prop id.Version a o w s) (made-speaks version (version_in o) (there (object_at 27 property_rows) version_in version-reads refl o ho)))
    ▹ (λ a o ha ho w s. taken (prop id.Client a o w s) refl)
    ▹ (λ a o ha ho w s. taken (prop id.Action a o w s) refl)
    ▹ (λ a o ha ho w s. taken (prop id.Setting a o w s) refl)
    ▹ (λ a o ha ho w s. taken (prop id.Value a o w s) (text-speaks (value_in o) (there (object_at 31 property_rows) value_in value-reads refl o ho)))
    ▹ (λ a o ha ho w s. taken (prop id.EffectiveDate a o w s) (made-speaks time (date_in o) (there (object_at 31 property_rows) date_in date-reads refl o ho)))
    ▹ (λ a o ha ho w s. there two_integers bounds_in bounds-reads refl a ha)
    ▹ (λ a o ha ho w s. taken (prop id.Length a o w s) (with-speaks (text_in o) (λ t. walk.one (integer (pos (length (chars t))))) (there (argument_at 20 property_rows) text_in text-reads refl o ho) (λ t. refl)))
    ▹ (λ a o ha ho w s. (there (argument_at 20 property_rows) text_in text-reads refl a ha, there (argument_at 20 property_rows) text_in text-reads refl o ho))
    ▹ (λ a o ha ho w s. (there (argument_at 20 property_rows) text_in text-reads refl a ha, there (argument_at 20 property_rows) text_in text-reads refl o ho))
    ▹ (λ a o ha ho w s. taken (prop id.PrecedingText a o w s) (text-speaks (preceding_in o) (there (object_at 37 property_rows) preceding_in preceding-reads refl o ho)))
    ▹ (λ a o ha ho w s. taken (prop id.FollowingText a o w s) (text-speaks (following_in o) (there (object_at 37 property_rows) following_in following-reads refl o ho)))
    ▹ (λ a o ha ho w s. taken (prop id.SubstringSeparatedBy a o w s) (with-speaks (text_in a) (λ x. with (text_in o) (λ t. turns (map text_item (pieces_by x t)))) (there (argument_at 20 property_rows) text_in text-reads refl a ha) (λ x. with-speaks (text_in o) (λ t. turns (map text_item (pieces_by x t))) (there (argument_at 20 property_rows) text_in text-reads refl o ho) (pieces-speak x))))
    ▹ (λ a o ha ho w s. there (argument_at 20 property_rows) text_in text-reads refl a ha)
    ▹ (λ a o ha ho w s. tt)
    ▹ tt

pub properties-take : All RowTakes property_rows
properties-take = each-all RowTakes RowTakes (λ row h. h) property_rows rows-take

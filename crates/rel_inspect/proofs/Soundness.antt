-- Items are sound.
use Rattle.std.proofs.Common.{◌≡◌, ℕ, ℤ, ◌≤◌, Bool, true, false, cond, nat_le, List, [], ◌∷◌, length, map, filter, All, Some, None, refl, arith}
use Rattle.std.specs.declared.option.Option.{Option}
use Rattle.std.specs.Option.{option_map}
use Rattle.std.proofs.lemmas.Bool.Decides.{nat_tests}
use Rattle.std.proofs.lemmas.List.Elements.{All-head, All-tail, All-nil, All-cons}
use Rattle.desk_base.specs.Moments.{IsMoment}
use Rattle.bf_world.specs.declared.answer.Answer.{Answer}
use Rattle.bf_world.specs.declared.answer.Answer.TheVariants as answer
use Rattle.bf_world.specs.declared.answer.Entry.{Entry}
use Rattle.bf_world.specs.declared.answer.PackageRow.{PackageRow}
use Rattle.bf_world.specs.declared.answer.SettingRow.{SettingRow}
use Rattle.bf_world.specs.Answers.{IsGoodAnswer}
use Rattle.rel_value.specs.Plain.{words, integer, a_package, system}
use Rattle.rel_value.specs.Versions.{version_of}
use Rattle.rel_inspect.specs.declared.listing.Listing.{Listing}
use Rattle.rel_inspect.specs.declared.listing.Listing.TheVariants as listing
use Rattle.rel_sources.specs.Traces.{Item, Absent, Present, Unfit, text_item}
use Rattle.rel_sources.specs.Rows.{text_item_of, item_of, entries_of, is_of_sort, lines_of, entry_item, value_at, kept, line_item, is_asked, is_wanted, process_item, package_item, setting_item, integer_item}
use Rattle.rel_sources.specs.Draws.{IsSoundItem}
use Rattle.rel_inspect.specs.Facets.{listed_items}

limited : (b : Bool) (t : List ℕ) → (b ≡ true → length t ≤ 4294967295) → IsSoundItem (cond b (Present (words t)) Unfit)
limited true t h = h refl
limited false t h = tt

-- a text that is given has at most 1,048,576 bytes
pub text-sound : (t : List ℕ) → IsSoundItem (text_item t)
text-sound t = limited (nat_le (length t) 1048576) t (λ short. grind (arith, nat_tests))

pub text_of-sound : (t : Option (List ℕ)) → IsSoundItem (text_item_of t)
text_of-sound None = tt
text_of-sound (Some t) = text-sound t

pub integer_of-sound : (z : Option ℤ) → IsSoundItem (item_of (option_map integer z))
integer_of-sound None = tt
integer_of-sound (Some z) = tt

kept-sound : (b : Bool) (i : Item) → IsSoundItem i → IsSoundItem (kept b i)
kept-sound true i h = h
kept-sound false Absent h = tt
kept-sound false (Present v) h = tt
kept-sound false Unfit h = tt

chosen-sound : (b : Bool) (i : Item) → IsSoundItem i → IsSoundItem (cond b i Absent)
chosen-sound true i h = h
chosen-sound false i h = tt

-- what holds of each holds of all
all-of : {A : Type 0} (f : A → Item) (xs : List A) → ((x : A) → IsSoundItem (f x)) → All IsSoundItem (map f xs)
all-of f [] h = All-nil IsSoundItem
all-of f (x ∷ xs) h = All-cons IsSoundItem (f x) (map f xs) (h x) (all-of f xs h)

pub texts-sound : (ts : List (List ℕ)) → All IsSoundItem (map text_item ts)
texts-sound ts = all-of text_item ts text-sound

pub lines-sound : (wanted : Option (List ℕ)) (ls : List (List ℕ)) → All IsSoundItem (map (line_item wanted) ls)
lines-sound wanted ls = all-of (line_item wanted) ls (λ l. kept-sound (is_asked wanted l) (text_item l) (text-sound l))

value-sound : (folders : Bool) (path : List ℕ) → IsSoundItem (Present (value_at folders path))
value-sound true path = tt
value-sound false path = tt

pub entries-sound : (folders : Bool) (path : List ℕ) (es : List Entry) → All IsSoundItem (map (entry_item folders path) es)
entries-sound folders path es = all-of (entry_item folders path) es (λ e. value-sound folders _)

pub integers-sound : (zs : List ℤ) → All IsSoundItem (map integer_item zs)
integers-sound zs = all-of integer_item zs (λ z. tt)

pub processes-sound : (wanted : Option (List ℕ)) (ns : List (List ℕ)) → All IsSoundItem (map (process_item wanted) ns)
processes-sound wanted ns = all-of (process_item wanted) ns (λ n. chosen-sound (is_wanted wanted n) _ tt)

package_of-sound : (name : List ℕ) (v : Option (List ℕ)) → IsSoundItem (item_of (option_map (a_package name) v))
package_of-sound name None = tt
package_of-sound name (Some v) = tt

pub packages-sound : (wanted : Option (List ℕ)) (rows : List PackageRow) → All IsSoundItem (map (package_item wanted) rows)
packages-sound wanted rows =
    all-of (package_item wanted) rows (λ row. chosen-sound (is_wanted wanted row.name) (item_of (option_map (a_package row.name) (version_of row.version))) (package_of-sound row.name (version_of row.version)))

pub settings-sound : (wanted : Option (List ℕ)) (rows : List SettingRow) → All (λ row. IsMoment row.date) rows → All IsSoundItem (map (setting_item wanted) rows)
settings-sound wanted [] h = All-nil IsSoundItem
settings-sound wanted (row ∷ rows) h =
    All-cons IsSoundItem (setting_item wanted row) (map (setting_item wanted) rows)
    (chosen-sound (is_wanted wanted row.name) _ (All-head (λ (r : SettingRow). IsMoment r.date) row rows h))
    (settings-sound wanted rows (All-tail (λ (r : SettingRow). IsMoment r.date) row rows h))

pub system_of-sound : (name : List ℕ) (v : Option (List ℕ)) → IsSoundItem (item_of (option_map (system name) v))
system_of-sound name None = tt
system_of-sound name (Some v) = tt

pub listed-sound : (l : Listing) (a : Answer) → IsGoodAnswer a → All IsSoundItem (listed_items l a)
listed-sound (listing.Entries folders path) a good = entries-sound folders path (filter (is_of_sort folders) (entries_of a))
listed-sound (listing.Lines wanted) a good = lines-sound wanted (lines_of a)
listed-sound (listing.Processes wanted) (answer.Names names) good = processes-sound wanted names
listed-sound (listing.Processes wanted) _ good = All-nil IsSoundItem
listed-sound (listing.Packages wanted) (answer.Packages rows) good = packages-sound wanted rows
listed-sound (listing.Packages wanted) _ good = All-nil IsSoundItem
listed-sound (listing.Settings wanted) (answer.Settings rows) good = settings-sound wanted rows good
listed-sound (listing.Settings wanted) _ good = All-nil IsSoundItem

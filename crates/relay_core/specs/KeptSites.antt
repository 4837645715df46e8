-- What a relay does with sites.
use Rattle.std.specs.Prelude.{◌≡◌, ℕ, ◌+◌, ◌<◌, ◌≤◌, List, ◌∷◌, ◌++◌, length, take, drop, map, filter, All, Contains, Ok, Err, Some, None}
use Rattle.std.specs.declared.option.Option.{Option}
use Rattle.std.specs.declared.result.Result.{Result}
use Rattle.std.specs.Ordering.{nat_cmp, is_lt}
use Rattle.std.specs.Cmp.Lexicographic.{slice_cmp}
use Rattle.std.specs.List.Sorted.{IsStrictlySortedBy}
use Rattle.report_text.specs.declared.answer.Gathered.{Gathered}
use Rattle.report_text.specs.declared.answer.Gathered.TheVariants as gathered
use Rattle.fix_site.specs.declared.site.Site.{Site}
use Rattle.fix_site.specs.Sites.{IsSite}
use Rattle.relay_core.specs.Relays.{RelayState}
use Rattle.relay_core.specs.declared.relay.Asked.{Asked}
use Rattle.relay_core.specs.declared.relay.Asked.TheVariants as asked

-- kept sites: each can be spelled, and their names are in strictly ascending byte order
pub record AreKept (sites : List Site) : Type 0 where
  pub good : All IsSite sites
  pub ascending : IsStrictlySortedBy (slice_cmp nat_cmp) (map (λ site. site.name) sites)

-- the kept sites whose names come before this one, and those whose names come after it
abbrev pub sites_before : List ℕ → List Site → List Site
sites_before name sites = filter (λ site. is_lt (slice_cmp nat_cmp site.name name)) sites

abbrev pub sites_after : List ℕ → List Site → List Site
sites_after name sites = filter (λ site. is_lt (slice_cmp nat_cmp name site.name)) sites

-- the sites with this one at its name
abbrev pub with_site : Site → List Site → List Site
with_site site sites = sites_before site.name sites ++ site ∷ sites_after site.name sites

-- the site is kept under this name
abbrev pub IsKept : List Site → List ℕ → Site → Type 0
IsKept sites name site = Contains sites site × (site.name ≡ name)

-- the version of the kept site of the name, if it isn't below this one
abbrev pub FindsNotBelow : List Site → List ℕ → ℕ → Option ℕ → Type 0
FindsNotBelow sites name version None = (kept : Site) → IsKept sites name kept → kept.version < version
FindsNotBelow sites name version (Some other) =
    (kept : Site) × IsKept sites name kept × (other ≡ kept.version) × (version ≤ other)

-- no site of the name is kept whose version is above this one
abbrev pub IsNewest : List Site → List ℕ → ℕ → Type 0
IsNewest sites name version = (kept : Site) → IsKept sites name kept → kept.version ≤ version

-- A site is kept where every kept one of its name has a lower version. Otherwise the kept version is answered, which isn't lower, and
-- nothing changes, as at want of memory.
abbrev pub KeepsSite : RelayState → Site → Gathered → RelayState → Type 0
KeepsSite old site gathered.New new =
    ((kept : Site) → IsKept old.sites site.name kept → kept.version < site.version)
    × (new ≡ record old { sites = with_site site old.sites })
KeepsSite old site (gathered.Older version) new =
    ((kept : Site) × IsKept old.sites site.name kept × (version ≡ kept.version) × (site.version ≤ version)) × (new ≡ old)
KeepsSite old site gathered.Memory new = new ≡ old

-- the kept site of the name, which can be spelled and whose version is above this one, or that there is none
abbrev pub AnswersAsk : List Site → List ℕ → ℕ → Asked → Type 0
AnswersAsk sites name version (asked.New site) = IsKept sites name site.now × IsSite site.now × (version < site.now.version)
AnswersAsk sites name version asked.Same = IsNewest sites name version

-- the place of the kept site of this name, or the one where it would stand
abbrev pub HasPlace : List Site → List ℕ → Result ℕ ℕ → Type 0
HasPlace sites name (Ok place) =
    (place < length sites) × (take place sites ≡ sites_before name sites) × (drop (place + 1) sites ≡ sites_after name sites)
HasPlace sites name (Err place) =
    (place ≤ length sites) × (take place sites ≡ sites_before name sites) × (drop place sites ≡ sites_after name sites)

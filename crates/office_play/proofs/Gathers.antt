-- Sites that a relay gathers from the server, over the rows of its tables.
use Rattle.std.proofs.Common.{◌≡◌, ◌≢◌, ℕ, ◌+◌, ◌<◌, arith, Bool, true, false, cond, Option, Some, None, ◌⊎◌, inl, inr, true≢false, List, [], ◌∷◌, ◌++◌, length, drop, get_or, refl, sym, ap, subst, ◌∙◌}
use Rattle.std.specs.Prelude.{bytes_eq, Contains, Result, Ok, Err}
use Rattle.std.specs.Cmp.Lexicographic.{nat_list_cmp_total}
use Rattle.std.proofs.lemmas.Map.Lookups.{exact_bytes}
use Rattle.std.proofs.lemmas.List.{append_assoc, append-nil, drop_more}
use Rattle.desk_keep.specs.declared.change.Change.{Change}
use Rattle.line_forms.proofs.Sorted.{one_of_key}
use Rattle.fix_site.specs.declared.site.Site.{Site}
use Rattle.fix_site.specs.declared.error.SiteError.{SiteError}
use Rattle.fix_site.specs.declared.error.SiteError.TheVariants as error
use Rattle.fix_site.specs.Answers.{ReadsSite}
use Rattle.relay_core.specs.KeptSites.{AreKept, IsKept, IsNewest}
use Rattle.relay_core.specs.Relays.{RelayState}
use Rattle.agent_attempt.specs.ActionContents.{site_at}
use Rattle.agent_state.specs.Changes.{kept_version}
use Rattle.server_text.specs.declared.site_versions.SiteVersion.{SiteVersion}
use Rattle.office_play.specs.Gathering.{TakesEachOver, TakesOver}
use Rattle.office_play.proofs.Knowing.{first_in, in_rest, later_in}
use Rattle.office_play.proofs.Places.{is_same, none_some, same_name, some_is}

-- no more sites
pub takes_none : (name : List ℕ) (rows : List Change) (relay : RelayState) (out : List ℕ) → TakesEachOver name rows [] relay out relay out
takes_none name rows relay out accepted are = ([], (refl, refl), sym (append-nil out))

-- a site, and then those behind it
pub takes_first : (name : List ℕ) (rows : List Change) (site : SiteVersion) (sites : List SiteVersion) (old mid new : RelayState)
    (out between then : List ℕ) → TakesOver name rows site.name old out mid between → TakesEachOver name rows sites mid between new then
    → TakesEachOver name rows (site ∷ sites) old out new then
takes_first name rows site sites old mid new out between then first rest accepted are =
    let one = first accepted are in
    let more = rest accepted are in (
      one.0 ++ more.0,
      (mid, one.0, more.0, one.1, more.1, refl),
      more.2 ∙ ap (λ t. t ++ more.0) one.2 ∙ append_assoc out one.0 more.0,
    )

-- From here on the rest of the sites is to be taken.
abbrev pub TakesRest : List ℕ → List Change → List SiteVersion → RelayState → List ℕ → List SiteVersion → RelayState → List ℕ → Type 0
TakesRest name rows sites old out left relay now =
    (new : RelayState) (then : List ℕ) → TakesEachOver name rows left relay now new then → TakesEachOver name rows sites old out new then

pub takes_next : (name : List ℕ) (rows : List Change) (sites : List SiteVersion) (old mid relay : RelayState) (out now next : List ℕ)
    (at : ℕ) (site : SiteVersion) → at < length sites → site ≡ get_or sites at site
    → TakesRest name rows sites old out (drop at sites) relay now → TakesOver name rows site.name relay now mid next
    → TakesRest name rows sites old out (drop (at + 1) sites) mid next
takes_next name rows sites old mid relay out now next at site within is rest first new then more =
    let here : drop at sites ≡ site ∷ drop (at + 1) sites =
    drop_more sites at site within ∙ ap (λ s. s ∷ drop (at + 1) sites) (sym is) in
    rest new then (subst (λ l. TakesEachOver name rows l relay now new then) (sym here)
    (takes_first name rows site (drop (at + 1) sites) relay mid new now next then first more))

-- ---- kept sites
-- One site is kept under a name.
one_kept : (sites : List Site) (name : List ℕ) (site kept : Site) → AreKept sites → IsKept sites name site → IsKept sites name kept
    → kept ≡ site
one_kept sites name site kept are first other =
    one_of_key nat_list_cmp_total (λ x y e. exact_bytes x y e) (λ (s : Site). s.name) sites are.ascending name kept site other.0 first.0
    (other.1 ∙ sym first.1)

-- what is found under a name is kept under it, and where nothing is found nothing is
found_kept : (name : List ℕ) (sites : List Site) (site : Site) → site_at name sites ≡ Some site → IsKept sites name site
found_kept name [] site h = absurd cc
found_kept name (first ∷ sites) site h = by (bytes_eq first.name name) refl (found_kept name sites site)
  where
    by : (b : Bool) → bytes_eq first.name name ≡ b → (site_at name sites ≡ Some site → IsKept sites name site)
        → IsKept (first ∷ sites) name site
    by true is more =
        let same : first ≡ site = some_is first site (sym (ap (λ b. cond b (Some first) (site_at name sites)) is) ∙ h) in
        subst (λ (s : Site). IsKept (first ∷ sites) name s) same (first_in first sites, same_name first.name name is)
    by false is more =
        let rest = more (sym (ap (λ b. cond b (Some first) (site_at name sites)) is) ∙ h) in
        (later_in first site sites rest.0, rest.1)

none_kept : (name : List ℕ) (sites : List Site) (kept : Site) → site_at name sites ≡ None → IsKept sites name kept → ⊥
none_kept name [] kept h (there, is) = absurd (omega (arith, there.1))
none_kept name (first ∷ sites) kept h (there, is) =
    by (bytes_eq first.name name) refl (in_rest first kept sites there) (λ none rest. none_kept name sites kept none (rest, is))
  where
    by : (b : Bool) → bytes_eq first.name name ≡ b → (first ≡ kept) ⊎ Contains sites kept
        → (site_at name sites ≡ None → Contains sites kept → ⊥) → ⊥
    by true same other more = absurd (none_some first (sym h ∙ ap (λ b. cond b (Some first) (site_at name sites)) same))
    by false same (inl here) more = true≢false (sym (is_same first.name name (ap (λ (s : Site). s.name) here ∙ is)) ∙ same)
    by false same (inr rest) more = more (sym (ap (λ b. cond b (Some first) (site_at name sites)) same) ∙ h) rest

-- the version of a kept site is the one that is told of its name
pub kept_told : (sites : List Site) (name : List ℕ) (kept : Site) → AreKept sites → IsKept sites name kept
    → kept_version (site_at name sites) ≡ kept.version
kept_told sites name kept are is = by (site_at name sites) refl
  where
    by : (o : Option Site) → site_at name sites ≡ o → kept_version o ≡ kept.version
    by None none = absurd (none_kept name sites kept none is)
    by (Some site) some = ap (λ (s : Site). s.version) (sym (one_kept sites name site kept are (found_kept name sites site some) is))

-- 0 is told where none is kept, since versions are from 1 on
pub none_told : (sites : List Site) (name : List ℕ) → AreKept sites → IsNewest sites name 0 → kept_version (site_at name sites) ≡ 0
none_told sites name are newest = by (site_at name sites) refl
  where
    by : (o : Option Site) → site_at name sites ≡ o → kept_version o ≡ 0
    by None none = refl
    by (Some site) some =
        let is = found_kept name sites site some in
        let low = newest site is in
        omega (arith, low)

-- ---- texts that are answered
-- A text that is one of a site is read as that site.
pub reads_one : ((text : List ℕ) (answer other : Result Site SiteError) → answer ≢ Err error.Memory → other ≢ Err error.Memory
    → ReadsSite text answer → ReadsSite text other → answer ≡ other)
    → (text : List ℕ) (site read : Site) → ReadsSite text (Ok site) → ReadsSite text (Ok read) → site ≡ read
reads_one law text site read one two =
    ok_is (Ok site) (Ok read) site read refl refl (law text (Ok site) (Ok read) (λ e. absurd cc) (λ e. absurd cc) one two)
  where
    ok_is : (r s : Result Site SiteError) (a b : Site) → r ≡ Ok a → s ≡ Ok b → r ≡ s → a ≡ b
    ok_is r s a b p q e = cc

pub never_bad : ((text : List ℕ) (answer other : Result Site SiteError) → answer ≢ Err error.Memory → other ≢ Err error.Memory
    → ReadsSite text answer → ReadsSite text other → answer ≡ other)
    → (text : List ℕ) (site : Site) (bad : SiteError) → bad ≢ error.Memory → ReadsSite text (Ok site) → ReadsSite text (Err bad) → ⊥
never_bad law text site bad ample one two =
    let same = law text (Ok site) (Err bad) (λ e. absurd cc) (λ e. ample (err_is (Err bad) (Err error.Memory) bad error.Memory refl refl e)) one two in absurd cc
  where
    err_is : (r s : Result Site SiteError) (a b : SiteError) → r ≡ Err a → s ≡ Err b → r ≡ s → a ≡ b
    err_is r s a b p q e = cc

-- A site of a greater version than was told of its name is newer than what is kept of it.
pub newer_than_kept : (sites : List Site) (name : List ℕ) (site : Site) → AreKept sites → site.name ≡ name
    → kept_version (site_at name sites) < site.version → (kept : Site) → IsKept sites site.name kept → kept.version < site.version
newer_than_kept sites name site are named greater kept is =
    let told : kept_version (site_at name sites) ≡ kept.version = kept_told sites name kept are (is.0, is.1 ∙ named) in
    omega (arith, told, greater)

-- The kept sites stay in order as one is put at its place.
use Rattle.std.specs.Prelude.{◌≡◌, ℕ, suc, ◌+◌, ◌<◌, List, ◌∷◌, ◌++◌, length, take, drop, Result, Ok, Err}
use Rattle.std.specs.Ordering.{nat_cmp}
use Rattle.std.specs.Cmp.Lexicographic.{slice_cmp, nat_list_cmp_total}
use Rattle.std.specs.List.Sorted.{IsBinarySearchResult, IsSearchInRange}
use Rattle.std.proofs.Common.{set, sym, ap, ◌∙◌, arith}
use Rattle.std.proofs.lemmas.List.{take-set, drop-set-lt, length-set, get_or-set_same}
use Rattle.std.proofs.lemmas.List.Elements.{All-append, All-cons, All-filter}
use Rattle.std.proofs.lemmas.Map.Lookups.{exact_bytes}
use Rattle.line_forms.proofs.Sorted.{sorted_with, has_place, one_of_key}
use Rattle.fix_site.specs.declared.site.Site.{Site}
use Rattle.fix_site.specs.Sites.{IsSite}
use Rattle.relay_core.specs.KeptSites.{AreKept, IsKept, HasPlace, sites_before, sites_after, with_site}
use Rattle.relay_core.proofs.QueueLemmas.{split_at}

-- a search by names ends at the place
pub searched : (sites : List Site) (name : List ℕ) (result : Result ℕ ℕ) → AreKept sites → IsSearchInRange result (length sites)
    → IsBinarySearchResult (λ (site : Site). slice_cmp nat_cmp site.name name) sites result → HasPlace sites name result
searched sites name (Ok place) kept inside found =
    has_place nat_list_cmp_total (λ x y e. exact_bytes x y e) (λ (site : Site). site.name) sites kept.ascending name (Ok place) inside found
searched sites name (Err place) kept inside found =
    has_place nat_list_cmp_total (λ x y e. exact_bytes x y e) (λ (site : Site). site.name) sites kept.ascending name (Err place) inside found

-- a name has one kept site
pub one_kept : (sites : List Site) (name : List ℕ) (site kept : Site) → AreKept sites → IsKept sites name site → IsKept sites name kept → kept ≡ site
one_kept sites name site kept are first other =
    one_of_key nat_list_cmp_total (λ x y e. exact_bytes x y e) (λ (s : Site). s.name) sites are.ascending name kept site other.0 first.0 (other.1 ∙ sym first.1)

pub kept_with : (sites : List Site) (site : Site) → AreKept sites → IsSite site → AreKept (with_site site sites)
kept_with sites site kept good = record {
  good = All-append IsSite (sites_before site.name sites) (site ∷ sites_after site.name sites) (All-filter _ IsSite sites kept.good)
      (All-cons IsSite site (sites_after site.name sites) good (All-filter _ IsSite sites kept.good));
  ascending = sorted_with nat_list_cmp_total (λ (s : Site). s.name) site sites kept.ascending;
}

-- a list with another element at a place
set-around : {X : Type 0} (xs : List X) (i : ℕ) (x : X) → i < length xs → set xs i x ≡ take i xs ++ x ∷ drop (suc i) xs
set-around xs i x inside =
    let long : length (set xs i x) ≡ length xs = length-set xs i x in
    split_at (set xs i x) i x (omega arith) (sym (get_or-set_same xs i x x inside))
    ∙ (λ t. take-set xs i x t ++ x ∷ drop-set-lt (suc i) xs i x (omega arith) t)

-- the site at its place
pub written : (sites : List Site) (name : List ℕ) (place : ℕ) (site : Site) → HasPlace sites name (Ok place) → name ≡ site.name → set sites place site ≡ with_site site sites
written sites name place site here is =
    let next : place + 1 ≡ suc place = omega arith in
    set-around sites place site here.0
    ∙ (λ t. (here.1 ∙ ap (λ n. sites_before n sites) is) t ++ site ∷ (ap (λ n. drop n sites) (sym next) ∙ here.2 ∙ ap (λ n. sites_after n sites) is) t)

pub put_in : (sites : List Site) (name : List ℕ) (place : ℕ) (site : Site) → HasPlace sites name (Err place) → name ≡ site.name
    → take place sites ++ site ∷ drop place sites ≡ with_site site sites
put_in sites name place site here is =
    λ t. (here.1 ∙ ap (λ n. sites_before n sites) is) t ++ site ∷ (here.2 ∙ ap (λ n. sites_after n sites) is) t

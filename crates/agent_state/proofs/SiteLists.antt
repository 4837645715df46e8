-- Lists of gathered sites.
use Rattle.std.proofs.Common.{ℕ, zero, suc, ◌≡◌, ◌+◌, ◌<◌, ◌≤◌, Bool, true, false, cond, List, [], ◌∷◌, ◌++◌, length, get_or, set, refl, sym, ap, ◌∙◌, arith, ltb, Some, None}
use Rattle.std.specs.declared.option.Option.{Option}
use Rattle.std.specs.Prelude.{not}
use Rattle.std.specs.List.{position, position_or_len}
use Rattle.std.specs.Option.{option_map}
use Rattle.std.specs.Str.{bytes_eq}
use Rattle.std.proofs.lemmas.Bool.{ltb-false}
use Rattle.std.proofs.lemmas.List.Quantifiers.{position-Some}
use Rattle.fix_site.specs.declared.site.Site.{Site}
use Rattle.agent_attempt.specs.ActionContents.{site_at}
use Rattle.agent_state.specs.Changes.{with_site}
use Rattle.agent_state.specs.Lookups.{FindsSite}
use denote.Ref.{Bor}

pub finds_site : (name : List ℕ) (sites : List Site) (answer : Option (Bor Site)) → option_map (λ (b : Bor Site). b.now) answer ≡ site_at name sites → FindsSite name sites answer
finds_site name sites None e = sym e
finds_site name sites (Some found) e = sym e

-- ---- a site in its place
pub set_there : (site : Site) (i : ℕ) (sites : List Site) (d : Site) → i < length sites → bytes_eq (get_or sites i d).name site.name ≡ true → ((k : ℕ) → k < i → bytes_eq (get_or sites k d).name site.name ≡ false)
    → set sites i site ≡ with_site site sites
set_there site i [] d inside is before = absurd (omega arith)
set_there site zero (x ∷ sites) d inside is before = sym (ap (λ b. cond b (site ∷ sites) (x ∷ with_site site sites)) is)
set_there site (suc i) (x ∷ sites) d inside is before =
    ap (λ l. x ∷ l) (set_there site i sites d (omega arith) is (λ k lt. before (suc k) (omega arith)))
    ∙ sym (ap (λ b. cond b (site ∷ sites) (x ∷ with_site site sites)) (before 0 (omega arith)))

pub placed_site : (site : Site) (i : ℕ) (sites : List Site) → position (λ (x : Site). bytes_eq x.name site.name) sites ≡ Some i → set sites i site ≡ with_site site sites
placed_site site i sites e =
    let there = position-Some (λ (x : Site). bytes_eq x.name site.name) sites i site e in
    set_there site i sites site there.0 there.1 there.2

isnt_some : {X : Type 0} (b : Bool) (x : X) → cond b (Some x) None ≡ None → b ≡ false
isnt_some true x e = absurd (cc)
isnt_some false x e = refl

pub no_place : (site : Site) (sites : List Site) → position (λ (x : Site). bytes_eq x.name site.name) sites ≡ None → length sites ≤ position_or_len (λ (x : Site). bytes_eq x.name site.name) sites
no_place site sites e =
    let at = position_or_len (λ (x : Site). bytes_eq x.name site.name) sites in
    ltb-false at (length sites) (isnt_some (ltb at (length sites)) at e)

-- without a place it is behind the others
pub pushed_site : (site : Site) (sites : List Site) → length sites ≤ position_or_len (λ (x : Site). bytes_eq x.name site.name) sites → sites ++ site ∷ [] ≡ with_site site sites
pushed_site site [] e = refl
pushed_site site (x ∷ sites) e = by_name (bytes_eq x.name site.name) refl (λ later. pushed_site site sites later)
  where
    by_name : (b : Bool) → bytes_eq x.name site.name ≡ b → (length sites ≤ position_or_len (λ (x : Site). bytes_eq x.name site.name) sites → sites ++ site ∷ [] ≡ with_site site sites)
        → x ∷ (sites ++ site ∷ []) ≡ cond (bytes_eq x.name site.name) (site ∷ sites) (x ∷ with_site site sites)
    by_name true is next =
        let whole : position_or_len (λ (x : Site). bytes_eq x.name site.name) (x ∷ sites) ≡ 0 = ap (λ b. cond (not b) (1 + position_or_len (λ (x : Site). bytes_eq x.name site.name) sites) 0) is in
        absurd (omega (arith, e, whole))
    by_name false is next =
        let whole : position_or_len (λ (x : Site). bytes_eq x.name site.name) (x ∷ sites) ≡ 1 + position_or_len (λ (x : Site). bytes_eq x.name site.name) sites
        = ap (λ b. cond (not b) (1 + position_or_len (λ (x : Site). bytes_eq x.name site.name) sites) 0) is in
        ap (λ l. x ∷ l) (next (omega (arith, e, whole))) ∙ sym (ap (λ b. cond b (site ∷ sites) (x ∷ with_site site sites)) is)

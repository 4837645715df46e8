-- Names and ids as tests, and as the forms that readers know.
use Rattle.std.proofs.Common.{◌≡◌, ◌≢◌, ℕ, ◌+◌, ◌%◌, ◌^◌, ◌<◌, ◌≤◌, true, false, ◌&&◌, not, nat_lt, nat_le, Decides, List, [], ◌∷◌, length, codes, subst, All, arith}
use Rattle.std.specs.Prelude.{decimal}
use Rattle.std.specs.List.{list_all, AllPass}
use Rattle.std.specs.Str.{bytes_eq}
use Rattle.std.proofs.lemmas.Bool.Decides.{nat_tests, Decides-and, Decides-like, Decides-not}
use Rattle.std.proofs.lemmas.Fmt.{decimal_by_steps, decimal_nonempty}
use Rattle.std.proofs.lemmas.List.Sums.{AllPass-from_list_all, list_all-from_AllPass}
use Rattle.std.proofs.lemmas.List.Elements.{All-nil, All-cons, All-append, All-head, All-weaker}
use Rattle.std.proofs.lemmas.Slice.Eq.{bytes_eq-Decides}
use Rattle.line_forms.specs.Cuts.{Lacks}
use Rattle.line_forms.specs.Names.{IsName, is_name_byte}
use Rattle.line_forms.specs.Numbers.{IsId, last_id}
use Rattle.line_forms.specs.Paths.{IsPart}
use Rattle.session_tables.specs.Paths.{actionsite, is_name, is_shown_id, is_shown_name, is_shown_site}

-- ---- names
pub name-Decides : (t : List ℕ) → Decides (is_name t) (IsName t)
unfolding is_name
name-Decides t =
    let some : Decides (nat_lt 0 (length t)) (0 < length t) = (λ h. grind (arith, nat_tests), λ h. grind (arith, nat_tests)) in
    let short : Decides (nat_le (length t) 64) (length t ≤ 64) = (λ h. grind (arith, nat_tests), λ h. grind (arith, nat_tests)) in
    let bytes : Decides (list_all is_name_byte t) (AllPass is_name_byte t) =
    (AllPass-from_list_all is_name_byte t, list_all-from_AllPass is_name_byte t) in
    Decides-like _ (λ h. (h.0.0, h.0.1, h.1)) (λ h. ((h.0, h.1), h.2)) (Decides-and _ _ (Decides-and _ _ some short) bytes)

-- a name that is shown, as a relation
unfoldable pub IsShownName : List ℕ → Type 0
IsShownName t = IsName t × (t ≢ codes ".") × (t ≢ codes "..")

pub shown_name-Decides : (t : List ℕ) → Decides (is_shown_name t) (IsShownName t)
unfolding is_shown_name IsShownName
shown_name-Decides t =
    let one = Decides-not _ (bytes_eq-Decides t (codes ".")) in
    let two = Decides-not _ (bytes_eq-Decides t (codes "..")) in
    Decides-like _ (λ h. (h.0.0, h.0.1, h.1)) (λ h. ((h.0, h.1), h.2)) (Decides-and _ _ (Decides-and _ _ (name-Decides t) one) two)

pub shown_name : (t : List ℕ) → is_shown_name t ≡ true → IsName t × (t ≢ codes ".") × (t ≢ codes "..")
unfolding IsShownName
shown_name t is = (shown_name-Decides t).0 is

part_byte : (byte : ℕ) → is_name_byte byte ≡ true → (32 ≤ byte) × (byte ≢ 47)
part_byte byte h = (grind (arith, nat_tests), λ e. grind (arith, nat_tests))

no_slash : (byte : ℕ) → is_name_byte byte ≡ true → byte ≢ 47
no_slash byte h = (part_byte byte h).1

-- it is one part of a path
pub name-part : (t : List ℕ) → is_shown_name t ≡ true → IsPart t
name-part t is =
    let named = shown_name t is in
    (named.0.0, named.1, named.2, All-weaker (λ x. is_name_byte x ≡ true) (λ x. (32 ≤ x) × (x ≢ 47)) part_byte t named.0.2)

pub name-lacks : (t : List ℕ) → is_shown_name t ≡ true → Lacks 47 t
name-lacks t is = All-weaker (λ x. is_name_byte x ≡ true) (λ x. x ≢ 47) no_slash t (shown_name t is).0.2

-- the site of such a name has such a name
pub site-name : (t : List ℕ) → is_shown_site t ≡ true → is_shown_name t ≡ true
unfolding is_shown_site
site-name t is =
    elim (is_shown_name t) as (λ b. (b && not (bytes_eq t actionsite)) ≡ true → b ≡ true) [
      | true ↦ λ h. let e : true ≡ true = cc in e
      | false ↦ λ h. h
    ] is

-- ---- ids
pub id-Decides : (id : ℕ) → Decides (is_shown_id id) (IsId id)
unfolding is_shown_id
id-Decides id =
    let some : Decides (nat_le 1 id) (1 ≤ id) = (λ h. grind (arith, nat_tests), λ h. grind (arith, nat_tests)) in
    let small : Decides (nat_le id last_id) (id ≤ last_id) = (λ h. grind (arith, nat_tests), λ h. grind (arith, nat_tests)) in
    Decides-and _ _ some small

pub id-small : (id : ℕ) → is_shown_id id ≡ true → id < 2 ^ 64
id-small id is = let small : id ≤ last_id = ((id-Decides id).0 is).1 in omega arith

digits : (id : ℕ) → id < 2 ^ 64 → All (λ x. (48 ≤ x) × (x ≤ 57)) (decimal id)
digits id small =
    let Digit : ℕ → Type 0 = λ x. (48 ≤ x) × (x ≤ 57) in
    let P : ℕ → List ℕ → Type 0 = λ n ds. All Digit ds in
    decimal_by_steps P
    (λ n few. All-cons Digit (48 + n) [] (omega arith, omega arith) (All-nil Digit))
    (λ n ds large front. All-append Digit ds ((48 + n % 10) ∷ []) front (All-cons Digit (48 + n % 10) [] (omega arith, omega arith) (All-nil Digit)))
    id small

digit_byte : (byte : ℕ) → (48 ≤ byte) × (byte ≤ 57) → (32 ≤ byte) × (byte ≢ 47)
digit_byte byte is = (omega (arith, is.0), λ e. absurd (omega (arith, is.0, e)))

no_dot : (id : ℕ) (more : List ℕ) → id < 2 ^ 64 → decimal id ≢ 46 ∷ more
no_dot id more small e =
    let Digit : ℕ → Type 0 = λ x. (48 ≤ x) × (x ≤ 57) in
    let AreDigits : List ℕ → Type 0 = All Digit in
    let first : Digit 46 = All-head Digit 46 more (subst AreDigits e (digits id small)) in
    absurd (omega (arith, first.0))

pub id-lacks : (id : ℕ) → is_shown_id id ≡ true → Lacks 47 (decimal id)
id-lacks id is = All-weaker (λ x. (48 ≤ x) × (x ≤ 57)) (λ x. x ≢ 47) (λ x d. (digit_byte x d).1) (decimal id) (digits id (id-small id is))

pub id-part : (id : ℕ) → is_shown_id id ≡ true → IsPart (decimal id)
id-part id is =
    let small = id-small id is in (
      decimal_nonempty id small,
      no_dot id [] small,
      no_dot id (46 ∷ []) small,
      All-weaker (λ x. (48 ≤ x) × (x ≤ 57)) (λ x. (32 ≤ x) × (x ≢ 47)) digit_byte (decimal id) (digits id small),
    )

-- The tests of paths and parts say what the relations do.
use Rattle.std.proofs.Common.{◌≡◌, ◌≢◌, ◌↔◌, ℕ, ◌<◌, ◌≤◌, ◌&&◌, ◌⊎◌, Bool, All, true, false, not, nat_le, List, [], ◌∷◌, length, codes, Decides, None, Some, is_some, inl, inr, subst, sym, refl, arith}
use Rattle.std.specs.declared.option.Option.{Option}
use Rattle.std.specs.List.{list_all}
use Rattle.std.specs.Str.{IsUtf8, is_utf8}
use Rattle.std.proofs.lemmas.Bool.{cases_eq}
use Rattle.std.proofs.lemmas.Bool.Decides.{nat_tests, Decides-like, Decides-not, Decides-and, Decides-or, Decides-by_and}
use Rattle.std.proofs.lemmas.Slice.Eq.{bytes_eq-Decides}
use Rattle.std.proofs.lemmas.Str.{IsUtf8-from_is_utf8, is_utf8-from_IsUtf8}
use Rattle.line_forms.specs.Cuts.{pieces}
use Rattle.line_forms.specs.Paths.{IsPart, AreParts, HasPathForm, IsPath}
use Rattle.line_forms.specs.Reads.{ReadsText}
use Rattle.bf_world.specs.Paths.{root, is_slash, is_part, unrooted, is_path}
use denote.Ref.{Bor}

-- what line_forms says of a path's parts, in its law on them
abbrev pub ArePieces : Type 0
ArePieces = (text : List ℕ) → AreParts text ↔ All IsPart (pieces 47 text)

abbrev pub AreRootless : Type 0
AreRootless = (rest : List ℕ) → AreParts (47 ∷ rest) → ⊥

some_of : (t : List ℕ) → t ≢ [] → 0 < length t
some_of [] h = absurd (h refl)
some_of (b ∷ bs) h = omega arith

none_of : (t : List ℕ) → 0 < length t → t ≢ []
none_of [] h e = absurd (let k : 0 < 0 = h in omega arith)
none_of (b ∷ bs) h e = absurd (cc)

part_byte : (byte : ℕ) → Decides (nat_le 32 byte && not (is_slash byte)) ((32 ≤ byte) × (byte ≢ 47))
part_byte byte = (λ h. grind (arith, nat_tests), λ h. grind (arith, nat_tests))

pub part-Decides : (t : List ℕ) → Decides (is_part t) (IsPart t)
unfolding is_part
part-Decides t =
    let some = Decides-like _ (some_of t) (none_of t) (Decides-not _ (bytes_eq-Decides t [])) in
    let one = Decides-not _ (bytes_eq-Decides t (codes ".")) in
    let two = Decides-not _ (bytes_eq-Decides t (codes "..")) in
    let test : ℕ → Bool = λ byte. nat_le 32 byte && not (is_slash byte) in
    let bytes = Decides-by_and test (λ byte. (32 ≤ byte) × (byte ≢ 47)) (list_all test) part_byte refl (λ _ _. refl) t in
    Decides-like _ (λ h. (h.0.0.0, h.0.0.1, h.0.1, h.1)) (λ h. (((h.0, h.1), h.2), h.3)) (Decides-and _ _ (Decides-and _ _ (Decides-and _ _ some one) two) bytes)

parts-Decides : ArePieces → (t : List ℕ) → Decides (list_all is_part (pieces 47 t)) (AreParts t)
parts-Decides pieces_are t =
    Decides-like _ (pieces_are t).1 (pieces_are t).0 (Decides-by_and is_part IsPart (list_all is_part) part-Decides refl (λ _ _. refl) (pieces 47 t))

form_to : (t : List ℕ) → (t ≡ root) ⊎ AreParts (unrooted t) → HasPathForm t
form_to t (inl h) = inl h
form_to [] (inr h) = inr (inl h)
form_to (b ∷ bs) (inr h) =
    elim (cases_eq b 47) [
      | inl same ↦
          let P : List ℕ → Type 0 = AreParts in
          let e : unrooted (b ∷ bs) ≡ bs = grind (arith, nat_tests) in
          inr (inr (bs, cc, subst P e h))
      | inr other ↦
          let P : List ℕ → Type 0 = AreParts in
          let e : unrooted (b ∷ bs) ≡ b ∷ bs = grind (arith, nat_tests) in
          inr (inl (subst P e h))
    ]

unrooted-parts : AreRootless → (t : List ℕ) → AreParts t → AreParts (unrooted t)
unrooted-parts rootless [] h = h
unrooted-parts rootless (b ∷ bs) h =
    let P : List ℕ → Type 0 = AreParts in
    elim (cases_eq b 47) [
      | inl same ↦
          let e : b ∷ bs ≡ 47 ∷ bs = cc in
          absurd (rootless bs (subst P e h))
      | inr other ↦
          let e : b ∷ bs ≡ unrooted (b ∷ bs) = grind (arith, nat_tests) in
          subst P e h
    ]

form_from : AreRootless → (t : List ℕ) → HasPathForm t → (t ≡ root) ⊎ AreParts (unrooted t)
form_from rootless t (inl h) = inl h
form_from rootless t (inr (inl h)) = inr (unrooted-parts rootless t h)
form_from rootless [] (inr (inr h)) = absurd (let e : [] ≡ 47 ∷ h.0 = h.1 in cc)
form_from rootless (b ∷ bs) (inr (inr h)) =
    let P : List ℕ → Type 0 = AreParts in
    let same : b ≡ 47 = let e : b ∷ bs ≡ 47 ∷ h.0 = h.1 in cc in
    let rest : h.0 ≡ bs = let e : b ∷ bs ≡ 47 ∷ h.0 = h.1 in cc in
    let e : bs ≡ unrooted (b ∷ bs) = grind (arith, nat_tests) in
    inr (subst P e (subst P rest h.2))

long_Decides : (n : ℕ) → Decides (nat_le n 1024) (n ≤ 1024)
long_Decides n = (λ h. grind (arith, nat_tests), λ h. grind (arith, nat_tests))

pub path-Decides : ArePieces → AreRootless → (t : List ℕ) → Decides (is_path t) (IsPath t)
unfolding is_path
path-Decides pieces_are rootless t =
    let utf8 : Decides (is_utf8 t) (IsUtf8 t) = (IsUtf8-from_is_utf8 t, is_utf8-from_IsUtf8 t) in
    let form = Decides-like _ (form_to t) (form_from rootless t) (Decides-or _ _ (bytes_eq-Decides t root) (parts-Decides pieces_are (unrooted t))) in
    Decides-like _ (λ h. (h.0.0, h.0.1, h.1)) (λ h. ((h.0, h.1), h.2)) (Decides-and _ _ (Decides-and _ _ utf8 (long_Decides (length t))) form)

-- what a reader of texts found is what a test says
pub read-test : (P : List ℕ → Type 0) (b : Bool) (t : List ℕ) (r : Option (Bor (List ℕ))) → Decides b (P t) → ReadsText P t r → is_some r ≡ b
read-test P true t None d h = absurd (h (d.0 refl))
read-test P false t None d h = refl
read-test P b t (Some x) d h = sym (d.1 h.0)

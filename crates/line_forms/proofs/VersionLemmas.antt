-- Versions and their numbers.
use Rattle.std.proofs.Common.{◌≡◌, ◌≢◌, ℕ, ◌+◌, ◌<◌, ◌≤◌, List, [], ◌∷◌, ◌++◌, length, map, All, None, Some, MatchOption, refl, sym, ap, subst, ◌∙◌, arith, append_assoc, length-append}
use Rattle.std.specs.List.{join_with_byte}
use Rattle.std.specs.Char.{digit_value}
use Rattle.std.specs.Str.Parse.{AllDigits, digits_value}
use Rattle.std.proofs.lemmas.Str.Parse.{digit_from_value}
use Rattle.std.proofs.lemmas.List.{length-map, map-append}
use Rattle.std.proofs.lemmas.List.Elements.{All-nil, All-cons, All-head, All-tail, All-push, All-append, All-weaker}
use Rattle.line_forms.specs.Cuts.{Lacks, IsCut, pieces}
use Rattle.line_forms.specs.Versions.{IsVersionNumber, IsVersionOf, IsVersion}
use Rattle.line_forms.specs.Reads.{Reads}
use Rattle.std.specs.declared.option.Option.{Option}
use Rattle.std.specs.Str.{IsUtf8}
use Rattle.std.proofs.lemmas.Str.{IsUtf8-from_ascii}
use Rattle.std.proofs.lemmas.Str.Ascii.{IsAscii-from_all}
use Rattle.line_forms.proofs.Pieces.{pieces-none, pieces-cut, pieces-some, pieces-join, join-pieces}

digit-dot : (digit : ℕ) → digit_value digit < 10 → digit ≡ 46 → ⊥
digit-dot digit small dot = let range = digit_from_value digit small in omega (arith, range.0, range.1, dot)

digits-lack : (digits : List ℕ) → AllDigits 10 digits → Lacks 46 digits
digits-lack [] all = All-nil (λ byte. byte ≢ 46)
digits-lack (digit ∷ digits) all = All-cons (λ byte. byte ≢ 46) digit digits (λ dot. digit-dot digit all.0 dot) (digits-lack digits all.1)

number-lacks : (digits : List ℕ) → IsVersionNumber digits → Lacks 46 digits
number-lacks digits is = digits-lack digits is.0.1

-- a version by its pieces
pub record ByPieces (text numbers : List ℕ) : Type 0 where
  pub few : length (pieces 46 text) ≤ 4
  pub each : All IsVersionNumber (pieces 46 text)
  pub values : numbers ≡ map (digits_value 10) (pieces 46 text)

pub pieces-version : (text numbers : List ℕ) → IsVersionOf text numbers → ByPieces text numbers
pieces-version text numbers (parts, some, few, all, is, values) =
    let e : pieces 46 text ≡ parts = ap (pieces 46) is ∙ pieces-join 46 parts some (All-weaker IsVersionNumber (Lacks 46) number-lacks parts all) in
    let P : List (List ℕ) → Type 0 = All IsVersionNumber in
    record { few = omega (arith, ap (length {A = List ℕ}) e); each = subst P (sym e) all; values = values ∙ ap (map (digits_value 10)) (sym e) }

pub version-pieces : (text numbers : List ℕ) → ByPieces text numbers → IsVersionOf text numbers
version-pieces text numbers by = (pieces 46 text, pieces-some 46 text, by.few, by.each, sym (join-pieces 46 text), by.values)

-- these pieces were read, and these are their values
pub record SoFar (text numbers left : List ℕ) : Type 0 where
  pub done : List (List ℕ)
  pub whole : pieces 46 text ≡ done ++ pieces 46 left
  pub each : All IsVersionNumber done
  pub values : numbers ≡ map (digits_value 10) done

pub start : (text : List ℕ) → SoFar text [] text
start text = record { done = []; whole = refl; each = All-nil IsVersionNumber; values = refl }

pub step : (text numbers left first rest : List ℕ) → SoFar text numbers left → IsCut 46 left first rest → IsVersionNumber first → SoFar text (numbers ++ digits_value 10 first ∷ []) rest
step text numbers left first rest so cut is = record {
  done = so.done ++ first ∷ [];
  whole = so.whole ∙ ap (λ l. so.done ++ l) (pieces-cut 46 left first rest cut) ∙ sym (append_assoc so.done (first ∷ []) (pieces 46 rest));
  each = All-push IsVersionNumber so.done first so.each is;
  values = ap (λ l. l ++ digits_value 10 first ∷ []) so.values ∙ sym (map-append (digits_value 10) so.done (first ∷ []));
}

middle : (first : List ℕ) (more done : List (List ℕ)) → All IsVersionNumber (done ++ first ∷ more) → IsVersionNumber first
middle first more [] each = All-head IsVersionNumber first more each
middle first more (x ∷ xs) each = middle first more xs (All-tail IsVersionNumber x (xs ++ first ∷ more) each)

-- a piece is no number
pub bad : (text numbers left first : List ℕ) (more : List (List ℕ)) → SoFar text numbers left → pieces 46 left ≡ first ∷ more → ¬ IsVersionNumber first → (all : List ℕ) → ¬ IsVersionOf text all
bad text numbers left first more so is none all version =
    let by = pieces-version text all version in
    let P : List (List ℕ) → Type 0 = All IsVersionNumber in
    let each : All IsVersionNumber (so.done ++ first ∷ more) = subst P (so.whole ∙ ap (λ l. so.done ++ l) is) by.each in
    none (middle first more so.done each)

-- there are more than four pieces
pub full : (text numbers left : List ℕ) → SoFar text numbers left → length numbers ≡ 4 → (all : List ℕ) → ¬ IsVersionOf text all
full text numbers left so four all version =
    let by = pieces-version text all version in
    let e : length (pieces 46 text) ≡ length so.done + length (pieces 46 left) = ap (length {A = List ℕ}) so.whole ∙ length-append so.done (pieces 46 left) in
    let n : length numbers ≡ length so.done = ap (length {A = ℕ}) so.values ∙ length-map so.done (digits_value 10) in
    absurd (omega (arith, by.few, pieces-some 46 left))

-- the last piece is read
pub last : (text numbers left : List ℕ) → SoFar text numbers left → Lacks 46 left → IsVersionNumber left → length numbers < 4 → ByPieces text (numbers ++ digits_value 10 left ∷ [])
last text numbers left so lacks is few =
    let e : pieces 46 text ≡ so.done ++ left ∷ [] = so.whole ∙ ap (λ l. so.done ++ l) (pieces-none 46 left lacks) in
    let P : List (List ℕ) → Type 0 = All IsVersionNumber in
    let n : length numbers ≡ length so.done = ap (length {A = ℕ}) so.values ∙ length-map so.done (digits_value 10) in
    let k : length (so.done ++ left ∷ []) ≡ length so.done + 1 = length-append so.done (left ∷ []) in
    record {
      few = omega (arith, ap (length {A = List ℕ}) e);
      each = subst P (sym e) (All-push IsVersionNumber so.done left so.each is);
      values = ap (λ l. l ++ digits_value 10 left ∷ []) so.values ∙ sym (map-append (digits_value 10) so.done (left ∷ [])) ∙ ap (map (digits_value 10)) (sym e);
    }

pub version-one : (text numbers other : List ℕ) → ByPieces text numbers → IsVersionOf text other → other ≡ numbers
version-one text numbers other by version = let also = pieces-version text other version in also.values ∙ sym by.values

pub reads-last : (text numbers left : List ℕ) (n : ℕ) (r : Option (List ℕ)) → SoFar text numbers left → Lacks 46 left → IsVersionNumber left → n ≡ digits_value 10 left → MatchOption r (length numbers ≡ 4) (λ more. (length numbers < 4) × (more ≡ numbers ++ n ∷ [])) → Reads (IsVersionOf text) r
reads-last text numbers left n None so lacks is value four = full text numbers left so four
reads-last text numbers left n (Some more) so lacks is value cases =
    let e : more ≡ numbers ++ digits_value 10 left ∷ [] = cases.1 ∙ ap (λ k. numbers ++ k ∷ []) value in
    let by = last text numbers left so lacks is cases.0 in
    let P : List ℕ → Type 0 = λ m. IsVersionOf text m × ((other : List ℕ) → IsVersionOf text other → other ≡ m) in
    subst P (sym e) (version-pieces text _ by, λ other version. version-one text _ other by version)

-- a version is text
digit-ascii : (digit : ℕ) → digit_value digit < 10 → digit < 128
digit-ascii digit small = let range = digit_from_value digit small in omega (arith, range.1)

digits-ascii : (digits : List ℕ) → AllDigits 10 digits → All (λ byte. byte < 128) digits
digits-ascii [] all = All-nil (λ byte. byte < 128)
digits-ascii (digit ∷ digits) all = All-cons (λ byte. byte < 128) digit digits (digit-ascii digit all.0) (digits-ascii digits all.1)

join-ascii : (parts : List (List ℕ)) → All IsVersionNumber parts → All (λ byte. byte < 128) (join_with_byte 46 parts)
join-ascii [] all = All-nil (λ byte. byte < 128)
join-ascii (x ∷ []) all = let is = All-head IsVersionNumber x [] all in digits-ascii x is.0.1
join-ascii (x ∷ y ∷ xs) all =
    let is = All-head IsVersionNumber x (y ∷ xs) all in
    let dot : 46 < 128 = omega arith in
    All-append (λ byte. byte < 128) x (46 ∷ join_with_byte 46 (y ∷ xs)) (digits-ascii x is.0.1) (All-cons (λ byte. byte < 128) 46 (join_with_byte 46 (y ∷ xs)) dot (join-ascii (y ∷ xs) (All-tail IsVersionNumber x (y ∷ xs) all)))

pub IsUtf8-version : (text : List ℕ) → IsVersion text → IsUtf8 text
IsUtf8-version text (numbers, (parts, some, few, all, is, values)) =
    let P : List ℕ → Type 0 = IsUtf8 in
    subst P (sym is) (IsUtf8-from_ascii (join_with_byte 46 parts) (IsAscii-from_all (join_with_byte 46 parts) (join-ascii parts all)))

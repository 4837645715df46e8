-- Fields stand in one place, and each text is that of one value. Other crates may cite these lemmas.
use Rattle.std.proofs.Common.{◌≡◌, ◌≢◌, ◌++◌, ℕ, ℤ, pos, negsuc, ◌<◌, ◌^◌, List, [], ◌∷◌, ◌==◌, ◌+◌, get_or, if◌then◌else◌, ◌⊎◌, refl, sym, ap, subst, ◌∙◌, arith, inl, inr}
use Rattle.std.specs.Prelude.{codes}
use Rattle.std.proofs.lemmas.Int.{ints}
use Rattle.std.proofs.lemmas.Fmt.{decimal_injective, signed_decimal_injective}
use Rattle.std.proofs.lemmas.List.Elements.{All-head, All-tail}
use Rattle.std.proofs.lemmas.List.{append_cancel_left}
use Rattle.line_forms.specs.Contents.{content_line, IsContentLine}
use Rattle.line_forms.specs.Cuts.{Lacks}
use Rattle.line_forms.specs.Fields.{IsFirstField, field_text}
use Rattle.line_forms.specs.Names.{IsRest}
use Rattle.line_forms.specs.Versions.{IsVersion}
use Rattle.line_forms.specs.Numbers.{IsNumber, IsMomentText, IsOffset, IsOffsetText}
use Rattle.line_forms.proofs.Cutting.{IsCut-one, lacks_by}
use Rattle.line_forms.proofs.PlainLemmas.{moment_mag}
use Rattle.world_text.specs.declared.kind.Kind.{Kind}
use Rattle.world_text.specs.declared.kind.Kind.TheVariants as kind
use Rattle.world_text.specs.Rows.{keyword}
use Rattle.world_text.specs.Texts.{IsSystemLine}
use Rattle.world_text.specs.Readings.{AreThree, IsVersioned}
use lib.Signed.{mag}

-- a fact about two texts, or three, holds of the same texts
pub move2 : (P : List ℕ → List ℕ → Type 0) (a b x y : List ℕ) → a ≡ x → b ≡ y → P a b → P x y
move2 P a b x y e f h = subst (λ t. P x t) f (subst (λ t. P t b) e h)

pub move3 : (P : List ℕ → List ℕ → List ℕ → Type 0) (a b c x y z : List ℕ) → a ≡ x → b ≡ y → c ≡ z → P a b c → P x y z
move3 P a b c x y z e f g h = subst (λ t. P x y t) g (subst (λ t. P x t c) f (subst (λ t. P t b c) e h))

-- a text without spaces has no first field
no_space : (first rest : List ℕ) → Lacks 32 (first ++ 32 ∷ rest) → ⊥
no_space [] rest h = All-head (λ x. x ≢ 32) 32 rest h refl
no_space (x ∷ xs) rest h = no_space xs rest (All-tail (λ y. y ≢ 32) x (xs ++ 32 ∷ rest) h)

pub no_field : (text first rest : List ℕ) → Lacks 32 text → IsFirstField text first rest → ⊥
no_field text first rest lacks cut = no_space first rest (subst (Lacks 32) cut.1 lacks)

-- a version and a name, by the text's first field
pub no_version : (text first rest version name : List ℕ) → IsFirstField text first rest → (IsVersion first → ⊥) → IsVersioned text version name → ⊥
no_version text first rest version name cut none h =
    let same = IsCut-one 32 text first rest version name cut h.0 in
    none (subst IsVersion same.0 h.1)

pub no_name : (text first rest version name : List ℕ) → IsFirstField text first rest → (IsRest rest → ⊥) → IsVersioned text version name → ⊥
no_name text first rest version name cut none h =
    let same = IsCut-one 32 text first rest version name cut h.0 in
    let P : List ℕ → Type 0 = IsRest in
    none (subst P same.1 h.2)

-- what follows the word of the operating system's line
pub system_rest : (line rest version system : List ℕ) → line ≡ field_text (codes "system") ++ rest → IsSystemLine line version system → IsVersioned rest version system
system_rest line rest version system is h =
    let same : h.0 ≡ rest = append_cancel_left (field_text (codes "system")) h.0 rest (sym h.1.1 ∙ is) in
    let P : List ℕ → Type 0 = λ r. IsVersioned r version system in
    subst P same (h.2, h.3, h.4)

pub system_is : (line rest version system : List ℕ) → line ≡ field_text (codes "system") ++ rest → IsVersioned rest version system → IsSystemLine line version system
system_is line rest version system is h = (rest, (lacks_by 32 (codes "system") refl, is), h.0, h.1, h.2)

-- a text has two fields and a rest in one way
pub three_one : (text a b c x y z : List ℕ) → AreThree text a b c → AreThree text x y z → (x ≡ a) × (y ≡ b) × (z ≡ c)
three_one text a b c x y z h k =
    let one = IsCut-one 32 text a h.0 x k.0 h.1 k.1 in
    let P : List ℕ → Type 0 = λ m. IsFirstField m y z in
    let two = IsCut-one 32 h.0 b c y z h.2 (subst P one.1 k.2) in
    (one.0, two.0, two.1)

pub no_second : (text first rest a b c : List ℕ) → IsFirstField text first rest → Lacks 32 rest → AreThree text a b c → ⊥
no_second text first rest a b c cut lacks h =
    let same = IsCut-one 32 text first rest a h.0 cut h.1 in
    let P : List ℕ → Type 0 = λ r. IsFirstField r b c in
    no_field rest b c lacks (subst P same.1 h.2)

pub moment_one : (text : List ℕ) (m n : ℤ) → IsMomentText text m → IsMomentText text n → n ≡ m
moment_one text m n h k = signed_decimal_injective n m (moment_mag n k.0) (moment_mag m h.0) (sym k.1 ∙ h.1)

pub offset_mag : (z : ℤ) → IsOffset z → mag z < 2 ^ 63
offset_mag (pos n) h = omega (arith, ints, h.1)
offset_mag (negsuc n) h = omega (arith, ints, h.0)

pub offset_one : (text : List ℕ) (m n : ℤ) → IsOffsetText text m → IsOffsetText text n → n ≡ m
offset_one text m n h k = signed_decimal_injective n m (offset_mag n k.0) (offset_mag m h.0) (sym k.1 ∙ h.1)

pub number_one : (most : ℕ) (text : List ℕ) (m n : ℕ) → most < 2 ^ 64 → IsNumber most text m → IsNumber most text n → n ≡ m
number_one most text m n small h k = decimal_injective n m (omega (arith, k.0)) (omega (arith, h.0)) (sym k.1 ∙ h.1)

pub content_one : (a b : List ℕ) → content_line a ≡ content_line b → b ≡ a
content_one [] [] e = refl
content_one [] (y ∷ ys) e = absurd (cc)
content_one (x ∷ xs) [] e = absurd (cc)
content_one (x ∷ xs) (y ∷ ys) e = cc

-- the kind whose word has these letters
abbrev letters : List ℕ → ℕ
letters word = get_or word 0 0 + get_or word 3 0

abbrev kind_from : ℕ → Kind
kind_from n =
    if n == 202 then kind.Folder else if n == 203 then kind.File else if n == 219 then kind.Package else if n == 211 then kind.Process
    else if n == 231 then kind.Setting else if n == 215 then kind.Program else kind.Gives

kind_again : (k : Kind) → kind_from (letters (keyword k)) ≡ k
kind_again kind.Folder = refl
kind_again kind.File = refl
kind_again kind.Package = refl
kind_again kind.Process = refl
kind_again kind.Setting = refl
kind_again kind.Program = refl
kind_again kind.Gives = refl

-- the words of the kinds differ
pub keyword_one : (k l : Kind) → keyword l ≡ keyword k → l ≡ k
keyword_one k l e = sym (kind_again l) ∙ ap (λ (w : List ℕ). kind_from (letters w)) e ∙ kind_again k

content_first : (content : List ℕ) → get_or (content_line content) 0 0 ≡ 124
content_first [] = refl
content_first (x ∷ xs) = refl

-- the word of a kind begins with a letter of its own
no_other_first : (k : Kind) (line rest : List ℕ) → line ≡ keyword k ++ 32 ∷ rest → (get_or line 0 0 ≡ 101) ⊎ (get_or line 0 0 ≡ 124) → ⊥
no_other_first k line rest e h = first k (sym (ap (λ (w : List ℕ). get_or w 0 0) e)) h
  where
    first : (k : Kind) → get_or (keyword k ++ 32 ∷ rest) 0 0 ≡ get_or line 0 0 → (get_or line 0 0 ≡ 101) ⊎ (get_or line 0 0 ≡ 124) → ⊥
    first kind.Folder e h = let f : 102 ≡ get_or line 0 0 = e in elim h [ inl a ↦ omega arith | inr a ↦ omega arith ]
    first kind.File e h = let f : 102 ≡ get_or line 0 0 = e in elim h [ inl a ↦ omega arith | inr a ↦ omega arith ]
    first kind.Package e h = let f : 112 ≡ get_or line 0 0 = e in elim h [ inl a ↦ omega arith | inr a ↦ omega arith ]
    first kind.Process e h = let f : 112 ≡ get_or line 0 0 = e in elim h [ inl a ↦ omega arith | inr a ↦ omega arith ]
    first kind.Setting e h = let f : 115 ≡ get_or line 0 0 = e in elim h [ inl a ↦ omega arith | inr a ↦ omega arith ]
    first kind.Program e h = let f : 112 ≡ get_or line 0 0 = e in elim h [ inl a ↦ omega arith | inr a ↦ omega arith ]
    first kind.Gives e h = let f : 103 ≡ get_or line 0 0 = e in elim h [ inl a ↦ omega arith | inr a ↦ omega arith ]

-- a line of content, and the last line, are of no kind
pub content_not_kind : (k : Kind) (line content rest : List ℕ) → IsContentLine line content → IsFirstField line (keyword k) rest → ⊥
content_not_kind k line content rest h f = no_other_first k line rest f.1 (inr (ap (λ (w : List ℕ). get_or w 0 0) h.1 ∙ content_first content))

pub end_not_kind : (k : Kind) (rest : List ℕ) → IsFirstField (codes "end") (keyword k) rest → ⊥
end_not_kind k rest f = no_other_first k (codes "end") rest f.1 (inl refl)

pub end_not_content : (content : List ℕ) → codes "end" ≡ content_line content → ⊥
end_not_content content e = apart (get_or (content_line content) 0 0) (ap (λ (w : List ℕ). get_or w 0 0) e) (content_first content)
  where
    apart : (n : ℕ) → 101 ≡ n → n ≡ 124 → ⊥
    apart n h k = omega arith

-- one line is ahead at most
pub same_line : (P : List ℕ → Type 0) (lines more left : List (List ℕ)) (line other : List ℕ) → lines ≡ line ∷ more → lines ≡ other ∷ left → P other → P line
same_line P lines more left line other h k is = subst P (let e : other ∷ left ≡ line ∷ more = sym k ∙ h in cc) is

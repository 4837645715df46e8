-- A text is read in one way.
use Rattle.std.proofs.Common.{◌≡◌, ◌≢◌, ℕ, ◌^◌, ◌-◌, ◌<◌, min, List, [], length, take, Result, Ok, Err, ◌⊎◌, inl, inr, refl, sym, ap, subst, ◌∙◌, arith, All, append-nil}
use Rattle.std.proofs.lemmas.List.Elements.{All-nil}
use Rattle.line_forms.specs.LineStates.{lines_of, unended_of}
use Rattle.line_forms.specs.Lines.{IsLine, lines_text}
use Rattle.line_forms.specs.BadLines.{IsTextOf}
use Rattle.line_forms.proofs.BadLines.{first_bad_line-none, first_bad_line-one}
use Rattle.fix_site.specs.declared.site.Site.{Site}
use Rattle.fix_site.specs.declared.error.SiteError.{SiteError}
use Rattle.fix_site.specs.declared.error.SiteError.TheVariants.{BadLine, TwiceId, WrongDigest, TooLong, Memory}
use Rattle.fix_site.specs.Sites.{AreSiteLines, EndsInTwiceId, lines_with, site_digest}
use Rattle.fix_site.specs.Answers.{IsShort, AnswersTwiceId, AnswersOtherLine, HasWrongDigest, ReadsSite}
use Rattle.fix_site.proofs.LineTexts.{site_are}
use Rattle.fix_site.proofs.Laws.{ReadAgain, NothingAgain, site_again, site_known}

no_line : IsLine []
no_line = All-nil (λ x. x ≡ 10 → ⊥)

again : ReadAgain → (lines : List (List ℕ)) → All IsLine lines → lines_of (lines_text lines) ≡ lines
again law lines all = ap lines_of (sym (append-nil (lines_text lines))) ∙ law lines [] all no_line

none_again : NothingAgain → (lines : List (List ℕ)) → All IsLine lines → unended_of (lines_text lines) ≡ []
none_again law lines all = ap unended_of (sym (append-nil (lines_text lines))) ∙ law lines [] all no_line

-- a text that states the wrong digest has no bad line
wrong_is_text : ReadAgain → NothingAgain → (text stated found : List ℕ) → HasWrongDigest text stated found → IsTextOf AreSiteLines text
wrong_is_text law rest text stated found h =
    let all = site_are h.site stated h.good h.digest in
    let lines = lines_with h.site stated in
    let P : List ℕ → Type 0 = IsTextOf AreSiteLines in
    subst P (sym h.lines) (none_again rest lines all, (h.site, stated, h.good, h.digest, again law lines all))

-- a text states one wrong digest
one_wrong : ReadAgain → (text stated found other right : List ℕ) → HasWrongDigest text stated found → HasWrongDigest text other right → (stated ≡ other) × (found ≡ right)
one_wrong law text stated found other right h k =
    let mine = lines_with h.site stated in
    let yours = lines_with k.site other in
    let lines : mine ≡ yours =
    sym (again law mine (site_are h.site stated h.good h.digest)) ∙ ap lines_of (sym h.lines ∙ k.lines) ∙ again law yours (site_are k.site other k.good k.digest) in
    let same = site_known h.site k.site stated other h.good k.good h.digest k.digest lines in
    (same.1, h.right ∙ ap site_digest same.0 ∙ sym k.right)

-- a first bad line is one for one reason
one_bad : (text : List ℕ) (line other : ℕ) → AnswersOtherLine text line → AnswersOtherLine text other → line ≡ other
one_bad text line other h k = h.3 ∙ ap (λ n. min n (2 ^ 32 - 1)) (first_bad_line-one AreSiteLines text h.0 k.0 h.1 k.1) ∙ sym k.3

one_twice : (text : List ℕ) (line other : ℕ) → AnswersTwiceId text line → AnswersTwiceId text other → line ≡ other
one_twice text line other h k = h.3 ∙ ap (λ n. min n (2 ^ 32 - 1)) (first_bad_line-one AreSiteLines text h.0 k.0 h.1 k.1) ∙ sym k.3

bad_or_twice : (text : List ℕ) (line other : ℕ) → AnswersOtherLine text line → AnswersTwiceId text other → ⊥
bad_or_twice text line other h k =
    let P : ℕ → Type 0 = λ n. EndsInTwiceId (take n (lines_of text)) in
    h.2 (subst P (first_bad_line-one AreSiteLines text k.0 h.0 k.1 h.1) k.2)

-- want of memory is none of them
abbrev IsSome : SiteError → Type 0
IsSome e = e ≢ Memory

too_long : (text : List ℕ) → IsShort text → 4194304 < length text → ⊥
too_long text short long = omega arith

one_error : ReadAgain → NothingAgain → (text : List ℕ) (x y : SiteError) → IsSome x → IsSome y → ReadsSite text (Err x) → ReadsSite text (Err y) → x ≡ y
one_error law rest text Memory y a b h k = absurd (a refl)
one_error law rest text x Memory a b h k = absurd (b refl)
one_error law rest text TooLong TooLong a b h k = refl
one_error law rest text TooLong (BadLine line) a b h k = absurd (too_long text k.0 h)
one_error law rest text TooLong (TwiceId line) a b h k = absurd (too_long text k.0 h)
one_error law rest text TooLong (WrongDigest stated found) a b h k = absurd (too_long text k.0 h)
one_error law rest text (BadLine line) TooLong a b h k = absurd (too_long text h.0 k)
one_error law rest text (TwiceId line) TooLong a b h k = absurd (too_long text h.0 k)
one_error law rest text (WrongDigest stated found) TooLong a b h k = absurd (too_long text h.0 k)
one_error law rest text (BadLine line) (BadLine other) a b h k = ap (λ n. BadLine n) (one_bad text line other h.1 k.1)
one_error law rest text (BadLine line) (TwiceId other) a b h k = absurd (bad_or_twice text line other h.1 k.1)
one_error law rest text (BadLine line) (WrongDigest stated found) a b h k = absurd (first_bad_line-none AreSiteLines text h.1.0 (wrong_is_text law rest text stated found k.1) h.1.1)
one_error law rest text (TwiceId line) (BadLine other) a b h k = absurd (bad_or_twice text other line k.1 h.1)
one_error law rest text (TwiceId line) (TwiceId other) a b h k = ap (λ n. TwiceId n) (one_twice text line other h.1 k.1)
one_error law rest text (TwiceId line) (WrongDigest stated found) a b h k = absurd (first_bad_line-none AreSiteLines text h.1.0 (wrong_is_text law rest text stated found k.1) h.1.1)
one_error law rest text (WrongDigest stated found) (BadLine line) a b h k = absurd (first_bad_line-none AreSiteLines text k.1.0 (wrong_is_text law rest text stated found h.1) k.1.1)
one_error law rest text (WrongDigest stated found) (TwiceId line) a b h k = absurd (first_bad_line-none AreSiteLines text k.1.0 (wrong_is_text law rest text stated found h.1) k.1.1)
one_error law rest text (WrongDigest stated found) (WrongDigest other right) a b h k =
    let same = one_wrong law text stated found other right h.1 k.1 in
    let one = same.0 in
    let two = same.1 in
    cc

-- the answer is no want of memory
abbrev IsKnown : Result Site SiteError → Type 0
IsKnown (Ok site) = Unit {0}
IsKnown (Err e) = IsSome e

-- the text of a site is read as no other
site_or_other : ReadAgain → NothingAgain → (text : List ℕ) (site : Site) (answer : Result Site SiteError) → ReadsSite text (Ok site) → ReadsSite text answer → IsKnown answer → answer ≡ Ok site
site_or_other law rest text site answer h k known =
    let P : List ℕ → Type 0 = λ t. ReadsSite t answer in
    let again : (answer ≡ Ok site) ⊎ (answer ≡ Err Memory) = site_again law rest site answer h.1 (subst IsShort h.2 h.0) (subst P h.2 k) in
    elim again [ inl same ↦ same | inr memory ↦ absurd (no_memory answer memory known) ]
  where
    no_memory : (answer : Result Site SiteError) → answer ≡ Err Memory → IsKnown answer → ⊥
    no_memory answer is known = subst IsKnown is known refl

one_known : ReadAgain → NothingAgain → (text : List ℕ) (x y : Result Site SiteError) → IsKnown x → IsKnown y → ReadsSite text x → ReadsSite text y → x ≡ y
one_known law rest text (Ok site) y a b h k = sym (site_or_other law rest text site y h k b)
one_known law rest text (Err e) (Ok site) a b h k = site_or_other law rest text site (Err e) k h a
one_known law rest text (Err e) (Err d) a b h k = let same = one_error law rest text e d a b h k in cc

known : (x : Result Site SiteError) → x ≢ Err Memory → IsKnown x
known (Ok site) some = tt
known (Err e) some = λ is. some (ap (λ z. Err z) is)

pub one_reading : ReadAgain → NothingAgain → (text : List ℕ) (x y : Result Site SiteError) → x ≢ Err Memory → y ≢ Err Memory → ReadsSite text x → ReadsSite text y → x ≡ y
one_reading law rest text x y some other = one_known law rest text x y (known x some) (known y other)

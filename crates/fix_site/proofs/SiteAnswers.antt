-- What reading a site answers.
use Rattle.std.proofs.Common.{ℕ, ◌≡◌, ◌+◌, List, [], ◌∷◌, ◌++◌, length, take, refl, sym, ap, subst, ◌∙◌, arith, append-nil, length-append, Err, true, false, nat_eq}
use Rattle.std.specs.Prelude.{codes, Bool, not}
use Rattle.std.specs.Cmp.Lexicographic.{pointwise, bytes_decides}
use Rattle.std.proofs.lemmas.List.{take_at}
use Rattle.hex.specs.Hex.{encode_lower}
use Rattle.sha2.specs.Sha256.{sha256}
use Rattle.line_forms.specs.Names.{IsName}
use Rattle.line_forms.specs.Fields.{field_text}
use Rattle.line_forms.specs.LineStates.{LineState, lines_of, before_lines}
use Rattle.line_forms.specs.Lines.{lines_text, ended_line}
use Rattle.line_forms.specs.Readers.{Passes, StopsAt, IsOver}
use Rattle.line_forms.specs.Numbers.{IsId}
use Rattle.line_forms.proofs.Passing.{stands_behind, stops_first_bad, behind_first_bad}
use Rattle.fix_site.specs.declared.error.SiteError.{SiteError}
use Rattle.fix_site.specs.declared.error.SiteError.TheVariants as error
use Rattle.fix_site.specs.declared.site.Site.{Site}
use Rattle.fix_site.specs.Sites.{IsSite, IsDigestValue, AreSiteLines, EndsInTwiceId, site_line, digest_line, body_lines, lines_with, site_digest}
use Rattle.fix_site.specs.Answers.{IsShort, AnswersOtherLine, ReadsSite}
use Rattle.fix_site.specs.Readings.{IsTwiceAhead, TakesBlocks, ReadsStated}
use Rattle.line_forms.proofs.Parts.{Lines}
use Rattle.line_forms.proofs.LineLemmas.{lines_text-append}
use Rattle.fix_site.proofs.Ends.{first_lines, no_more_lines}
use Rattle.fix_site.proofs.SiteStops.{site_block, site_twice, twice_not_begun, whole_not_twice, site_ends}
use Rattle.fix_site.proofs.LineTexts.{digest_length}

-- the blocks of a site aren't read
pub stated_wrong : (name : List ℕ) (version : ℕ) (old a new : LineState) (e : SiteError) → IsName name → IsId version → Passes old a (site_line name version ∷ []) → TakesBlocks name a new (Err e) → ReadsStated old new (Err e)
stated_wrong name version old a new (error.BadLine line) is good one (blocks, mid, are, two, (number, bad)) = (number, site_block name version blocks old a mid new is good one are two bad)
stated_wrong name version old a new (error.TwiceId line) is good one (blocks, mid, are, two, (number, same, twice)) =
    let P : LineState → Type 0 = λ s. (before : Lines) × Passes old s before × StopsAt AreSiteLines before s × IsTwiceAhead before s in
    (number, subst P (sym same) (site_twice name version blocks old a mid is good one are two twice))
stated_wrong name version old a new (error.WrongDigest stated found) is good one (blocks, mid, are, two, never) = absurd never
stated_wrong name version old a new error.TooLong is good one (blocks, mid, are, two, never) = absurd never
stated_wrong name version old a new error.Memory is good one h = tt

-- no line ahead is one with an id that stood before
never_twice : (text : List ℕ) (before ahead : Lines) (new : LineState) → new.lines ≡ ahead → Passes (before_lines text) new before → (EndsInTwiceId before → ⊥) → ((line : List ℕ) (more : Lines) → new.lines ≡ line ∷ more → ¬ EndsInTwiceId (before ++ line ∷ [])) →
    ¬ EndsInTwiceId (take (length before + 1) (lines_of text))
never_twice text before [] new e passes none next ends = let P : Lines → Type 0 = EndsInTwiceId in none (subst P (no_more_lines text before new passes e) ends)
never_twice text before (line ∷ more) new e passes none next ends =
    let P : Lines → Type 0 = EndsInTwiceId in next line more e (subst P (first_lines text before new line more passes e) ends)

pub site_wrong : (text : List ℕ) (new : LineState) (e : SiteError) → IsShort text → ReadsStated (before_lines text) new (Err e) → ReadsSite text (Err e)
site_wrong text new (error.BadLine line) short (number, (before, passes, stops, not_twice)) = (
  short,
  (
    length before + 1,
    stops_first_bad AreSiteLines text before new.lines new refl (stands_behind text before new passes) stops,
    never_twice text before new.lines new refl passes (λ ends. twice_not_begun before ends stops.begins) (λ next more e ends. not_twice (next, more, e, ends)),
    number ∙ (stands_behind text before new passes).number,
  ),
)
site_wrong text new (error.TwiceId line) short (number, (before, passes, stops, (next, more, e, ends))) =
    let P : Lines → Type 0 = EndsInTwiceId in (
      short,
      (length before + 1, stops_first_bad AreSiteLines text before new.lines new refl (stands_behind text before new passes) stops, subst P (sym (first_lines text before new next more passes e)) ends, number ∙ (stands_behind text before new passes).number),
    )
site_wrong text new (error.WrongDigest stated found) short never = absurd never
site_wrong text new error.TooLong short never = absurd never
site_wrong text new error.Memory short h = tt

-- something stands behind the lines of a site
pub site_left : (text : List ℕ) (new : LineState) (site : Site) (digest : List ℕ) (number : ℕ) → IsSite site → IsDigestValue digest → Passes (before_lines text) new (lines_with site digest) → ¬ IsOver new → number ≡ new.number → AnswersOtherLine text number
site_left text new site digest number is is_digest passes left same =
    let lines = lines_with site digest in (
      length lines + 1,
      behind_first_bad AreSiteLines text lines new.lines new refl (stands_behind text lines new passes) (site, digest, is, is_digest, refl) (site_ends site digest is is_digest) left,
      never_twice text lines new.lines new refl passes (λ ends. twice_not_begun lines ends ([], (site, digest, is, is_digest, append-nil lines))) (λ next more e ends. whole_not_twice site digest next is is_digest ends),
      same ∙ (stands_behind text lines new passes).number,
    )

-- the last line has 72 bytes
abbrev last_of : List ℕ → List ℕ
last_of digest = ended_line (digest_line digest)

last_length : (digest : List ℕ) → IsDigestValue digest → length (last_of digest) ≡ 72
last_length digest is =
    let a = length-append (digest_line digest) (10 ∷ []) in
    let b = length-append (field_text (codes "digest")) (encode_lower digest) in
    let d = digest_length digest is in
    let w : length (field_text (codes "digest")) ≡ 7 = refl in
    omega arith

text_parts : (text : List ℕ) (site : Site) (digest : List ℕ) → text ≡ lines_text (lines_with site digest) → text ≡ lines_text (body_lines site) ++ last_of digest
text_parts text site digest is = is ∙ lines_text-append (body_lines site) (digest_line digest ∷ []) ∙ ap (λ l. lines_text (body_lines site) ++ l) (append-nil (last_of digest))

pub text_length : (text : List ℕ) (site : Site) (digest : List ℕ) → IsDigestValue digest → text ≡ lines_text (lines_with site digest) → length text ≡ length (lines_text (body_lines site)) + 72
text_length text site digest is_digest is =
    let last = last_length digest is_digest in
    let a : length text ≡ length (lines_text (body_lines site) ++ last_of digest) = ap length (text_parts text site digest is) in
    let b = length-append (lines_text (body_lines site)) (last_of digest) in
    omega arith

pub found_digest : (text : List ℕ) (site : Site) (digest : List ℕ) (count : ℕ) → IsDigestValue digest → text ≡ lines_text (lines_with site digest) → count + 72 ≡ length text → sha256 (take count text) ≡ site_digest site
found_digest text site digest count is_digest is sized =
    let body = lines_text (body_lines site) in
    let all = text_length text site digest is_digest is in
    let at : count ≡ length body = omega arith in
    let front : take count text ≡ body = ap (take count) (text_parts text site digest is) ∙ take_at body (last_of digest) count (sym at) in
    ap sha256 front

-- the same, where the cursor began before the first line
pub site_refused : (text : List ℕ) (start new : LineState) (e : SiteError) → start ≡ before_lines text → IsShort text → ReadsStated start new (Err e) → ReadsSite text (Err e)
site_refused text start new e begins short read = let P : LineState → Type 0 = λ s. ReadsStated s new (Err e) in site_wrong text new e short (subst P begins read)

-- whether two digests are the same
not_both : (b : Bool) → not b ≡ true → b ≡ true → ⊥
not_both true h k = cc
not_both false h k = cc

holds : (b : Bool) → not b ≡ false → b ≡ true
holds true h = refl
holds false h = cc

pub digests_differ : (a b : List ℕ) (differ : Bool) → differ ≡ not (pointwise nat_eq a b) → differ ≡ true → a ≡ b → ⊥
digests_differ a b differ is so same = not_both (pointwise nat_eq a b) (sym is ∙ so) ((bytes_decides a b).1 same)

pub digests_same : (a b : List ℕ) (differ : Bool) → differ ≡ not (pointwise nat_eq a b) → differ ≡ false → a ≡ b
digests_same a b differ is so = (bytes_decides a b).0 (holds (pointwise nat_eq a b) (sym is ∙ so))

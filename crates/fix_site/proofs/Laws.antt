-- A text is that of one site or action, and is read again.
use Rattle.std.proofs.Common.{ℕ, zero, suc, ◌≡◌, ◌<◌, ◌/◌, ◌%◌, ◌^◌, List, [], ◌∷◌, ◌++◌, refl, sym, ap, subst, ◌∙◌, arith, All, append-nil, ◌⊎◌, inl, inr, Ok, Err}
use Rattle.std.specs.declared.result.Result.{Result}
use Rattle.std.specs.Prelude.{slice_index, flat_map}
use Rattle.std.specs.Int.{w32, to_be_bytes}
use Rattle.std.proofs.lemmas.List.Elements.{All-nil, All-cons, All-append, All-head, All-tail}
use Rattle.sha2.specs.Sha256.{sha256, digest_bytes, final_hash, initial_hash_256}
use Rattle.sha2.proofs.Facts256.{length-sha256}
use Rattle.line_forms.specs.LineStates.{lines_of, unended_of}
use Rattle.line_forms.specs.Lines.{IsLine, lines_text}
use Rattle.line_forms.specs.BadLines.{IsTextOf}
use Rattle.line_forms.proofs.BadLines.{first_bad_line-none}
use Rattle.line_forms.proofs.Passing.{cons_head, cons_tail}
use Rattle.fix_site.specs.declared.action.Action.{Action}
use Rattle.fix_site.specs.declared.block.Block.{Block}
use Rattle.fix_site.specs.declared.site.Site.{Site}
use Rattle.fix_site.specs.declared.error.SiteError.{SiteError}
use Rattle.fix_site.specs.declared.error.SiteError.TheVariants as error
use Rattle.fix_site.specs.Actions.{IsAction, AreActionLines, action_lines, action_text}
use Rattle.fix_site.specs.Blocks.{AreBlocks, CanFollow, id_line, block_rest, block_lines}
use Rattle.fix_site.specs.Sites.{IsSite, IsDigestValue, AreSiteLines, site_line, digest_line, site_digest, body_lines, lines_with, site_lines, site_text}
use Rattle.fix_site.specs.Answers.{IsShort, ReadsAction, ReadsSite}
use Rattle.line_forms.proofs.Parts.{Lines}
use Rattle.line_forms.proofs.Sequences.{Compares, compare}
use Rattle.fix_site.proofs.Actions.{action_lines_one}
use Rattle.fix_site.proofs.BlockLines.{block_one}
use Rattle.fix_site.proofs.SiteParts.{Head, head_one, digest_not_id, digest_same}
use Rattle.fix_site.proofs.LineTexts.{whole_action_are, site_are}

-- lines, and what stands behind them, are read again from their text
abbrev pub ReadAgain : Type 0
ReadAgain = (lines : Lines) (unended : List ℕ) → All IsLine lines → IsLine unended → lines_of (lines_text lines ++ unended) ≡ lines

abbrev pub NothingAgain : Type 0
NothingAgain = (lines : Lines) (unended : List ℕ) → All IsLine lines → IsLine unended → unended_of (lines_text lines ++ unended) ≡ unended

no_line : IsLine []
no_line = All-nil (λ x. x ≡ 10 → ⊥)

again : ReadAgain → (lines : Lines) → All IsLine lines → lines_of (lines_text lines) ≡ lines
again law lines all = ap lines_of (sym (append-nil (lines_text lines))) ∙ law lines [] all no_line

none_again : NothingAgain → (lines : Lines) → All IsLine lines → unended_of (lines_text lines) ≡ []
none_again law lines all = ap unended_of (sym (append-nil (lines_text lines))) ∙ law lines [] all no_line

same_lines : ReadAgain → (xs ys : Lines) → All IsLine xs → All IsLine ys → lines_text xs ≡ lines_text ys → xs ≡ ys
same_lines law xs ys all every e = sym (again law xs all) ∙ ap lines_of e ∙ again law ys every

-- actions
pub action_known : ReadAgain → (action other : Action) → IsAction action → IsAction other → action_text action ≡ action_text other → action ≡ other
action_known law action other is fine e =
    let lines = same_lines law (action_lines action) (action_lines other) (whole_action_are action is) (whole_action_are other fine) e in
    action_lines_one action other [] [] is fine (append-nil (action_lines action) ∙ lines ∙ sym (append-nil (action_lines other)))

pub action_again : ReadAgain → NothingAgain → (action : Action) (answer : Result Action SiteError) → IsAction action → IsShort (action_text action) → ReadsAction (action_text action) answer →
    (answer ≡ Ok action) ⊎ (answer ≡ Err error.Memory)
action_again law rest action (Ok read) is short h = inl (ap (λ (a : Action). Ok a) (action_known law read action h.1 is (sym h.2)))
action_again law rest action (Err (error.BadLine line)) is short h =
    absurd (first_bad_line-none AreActionLines (action_text action) h.1.0
    (none_again rest (action_lines action) (whole_action_are action is), (action, is, again law (action_lines action) (whole_action_are action is))) h.1.1)
action_again law rest action (Err (error.TwiceId line)) is short h = absurd h
action_again law rest action (Err (error.WrongDigest stated found)) is short h = absurd h
action_again law rest action (Err error.TooLong) is short h = absurd (omega (arith, short, h))
action_again law rest action (Err error.Memory) is short h = inr refl

-- a digest is 32 bytes
low : (n : ℕ) → n % 256 < 256
low n = omega arith

word_bytes : (n : ℕ) → All (λ byte. byte < 256) (to_be_bytes w32 n)
word_bytes n =
    let P : ℕ → Type 0 = λ byte. byte < 256 in
    let last = n % 256 ∷ [] in
    let third = n / 256 % 256 ∷ last in
    let second = n / 256 ^ 2 % 256 ∷ third in
    All-cons P (n / 256 ^ 3 % 256) second (low (n / 256 ^ 3)) (All-cons P (n / 256 ^ 2 % 256) third (low (n / 256 ^ 2)) (All-cons P (n / 256 % 256) last (low (n / 256)) (All-cons P (n % 256) [] (low n) (All-nil P))))

words_bytes : (h : List ℕ) (n : ℕ) → All (λ byte. byte < 256) (digest_bytes h n)
unfolding digest_bytes
words_bytes h zero = All-nil (λ byte. byte < 256)
words_bytes h (suc n) = All-append (λ byte. byte < 256) (digest_bytes h n) (to_be_bytes w32 (slice_index h n)) (words_bytes h n) (word_bytes (slice_index h n))

bytes_at : (bytes : List ℕ) → All (λ byte. byte < 256) bytes → (i : ℕ) → slice_index bytes i < 256
bytes_at [] all zero = omega arith
bytes_at [] all (suc i) = omega arith
bytes_at (x ∷ bytes) all zero = All-head (λ byte. byte < 256) x bytes all
bytes_at (x ∷ bytes) all (suc i) = bytes_at bytes (All-tail (λ byte. byte < 256) x bytes all) i

sha_bytes : (text : List ℕ) → All (λ byte. byte < 256) (sha256 text)
unfolding sha256
sha_bytes text = words_bytes (final_hash initial_hash_256 text) 8

pub is_digest : (site : Site) → IsDigestValue (site_digest site)
is_digest site = let text = lines_text (body_lines site) in (length-sha256 text, bytes_at (sha256 text) (sha_bytes text))

-- sites
abbrev SitesAre : Site → Site → List ℕ → List ℕ → Type 0
SitesAre site other digest found = (site ≡ other) × (digest ≡ found)

pub site_known : (site other : Site) (digest found : List ℕ) → IsSite site → IsSite other → IsDigestValue digest → IsDigestValue found → lines_with site digest ≡ lines_with other found → SitesAre site other digest found
site_known site other digest found is fine is_digest is_found e =
    let head = head_one (site.name, site.version) (other.name, other.version) (flat_map block_lines site.blocks ++ digest_line digest ∷ []) (flat_map block_lines other.blocks ++ digest_line found ∷ [])
    (is.name, is.version) (fine.name, fine.version) e in
    let N : List ℕ → Type 0 = λ n. AreBlocks n other.blocks in
    let names : site.name ≡ other.name = ap (λ (h : Head). h.0) head in
    let good : AreBlocks site.name other.blocks = subst N (sym names) fine.blocks in
    let rest = cons_tail (site_line site.name site.version) (site_line other.name other.version) (flat_map block_lines site.blocks ++ digest_line digest ∷ []) (flat_map block_lines other.blocks ++ digest_line found ∷ []) e in
    let parts = same (compare (CanFollow site.name) id_line block_rest site.blocks other.blocks (digest_line digest ∷ []) (digest_line found ∷ []) (block_one site.name) is.blocks good rest) in (
      ap (λ (n : List ℕ). site_of n site.version site.blocks) names ∙ ap (λ (h : Head). site_of other.name h.1 site.blocks) head ∙ ap (λ (l : List Block). site_of other.name other.version l) parts.0,
      digest_same digest found is_digest is_found (cons_head (digest_line digest) (digest_line found) [] [] parts.1),
    )
  where
    site_of : List ℕ → ℕ → List Block → Site
    site_of name version blocks = record { name = name; version = version; blocks = blocks }

    same : Compares block_lines site.blocks other.blocks (digest_line digest ∷ []) (digest_line found ∷ []) → (site.blocks ≡ other.blocks) × (digest_line digest ∷ [] ≡ digest_line found ∷ [])
    same (inl h) = h
    same (inr (inl (w, us, others_is, x_is))) = absurd (digest_not_id digest w (cons_head (digest_line digest) (id_line w) [] _ x_is))
    same (inr (inr (v, us, mine_is, y_is))) = absurd (digest_not_id found v (cons_head (digest_line found) (id_line v) [] _ y_is))

texts_known : ReadAgain → (site other : Site) (digest found : List ℕ) → IsSite site → IsSite other → IsDigestValue digest → IsDigestValue found → lines_text (lines_with site digest) ≡ lines_text (lines_with other found) →
    SitesAre site other digest found
texts_known law site other digest found is fine is_digest is_found e =
    site_known site other digest found is fine is_digest is_found (same_lines law (lines_with site digest) (lines_with other found) (site_are site digest is is_digest) (site_are other found fine is_found) e)

pub site_text_known : ReadAgain → (site other : Site) → IsSite site → IsSite other → site_text site ≡ site_text other → site ≡ other
site_text_known law site other is fine e = (texts_known law site other (site_digest site) (site_digest other) is fine (is_digest site) (is_digest other) e).0

site_is_text : ReadAgain → NothingAgain → (site : Site) → IsSite site → IsTextOf AreSiteLines (site_text site)
site_is_text law rest site is =
    let all = site_are site (site_digest site) is (is_digest site) in
    (none_again rest (site_lines site) all, (site, site_digest site, is, is_digest site, again law (site_lines site) all))

pub site_again : ReadAgain → NothingAgain → (site : Site) (answer : Result Site SiteError) → IsSite site → IsShort (site_text site) → ReadsSite (site_text site) answer → (answer ≡ Ok site) ⊎ (answer ≡ Err error.Memory)
site_again law rest site (Ok read) is short h = inl (ap (λ (s : Site). Ok s) (site_text_known law read site h.1 is (sym h.2)))
site_again law rest site (Err (error.BadLine line)) is short h = absurd (first_bad_line-none AreSiteLines (site_text site) h.1.0 (site_is_text law rest site is) h.1.1)
site_again law rest site (Err (error.TwiceId line)) is short h = absurd (first_bad_line-none AreSiteLines (site_text site) h.1.0 (site_is_text law rest site is) h.1.1)
site_again law rest site (Err (error.WrongDigest stated found)) is short (fits, h) =
    let same = texts_known law site h.site (site_digest site) stated is h.good (is_digest site) h.digest h.lines in
    absurd (h.wrong (sym same.1 ∙ ap site_digest same.0 ∙ sym h.right))
site_again law rest site (Err error.TooLong) is short h = absurd (omega (arith, short, h))
site_again law rest site (Err error.Memory) is short h = inr refl

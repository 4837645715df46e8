-- The lines of a site, part by part: its first line, its blocks and its digest.
use Rattle.std.proofs.Common.{ℕ, ◌≡◌, List, [], ◌∷◌, ◌++◌, refl, sym, ap, ◌∙◌, Ok}
use Rattle.std.specs.Prelude.{codes, flat_map}
use Rattle.std.proofs.lemmas.List.{append_cancel_left}
use Rattle.hex.specs.Hex.{encode_lower, decode_sized}
use Rattle.line_forms.specs.Names.{IsName}
use Rattle.line_forms.specs.Fields.{field_text}
use Rattle.line_forms.specs.FieldLists.{line_of}
use Rattle.hex.proofs.HexLemmas.{decode_sized-encode_lower}
use Rattle.line_forms.specs.Readers.{AreLinesOf}
use Rattle.line_forms.specs.Numbers.{IsId}
use Rattle.line_forms.proofs.Passing.{cons_head, cons_tail}
use Rattle.fix_site.specs.declared.block.Block.{Block}
use Rattle.fix_site.specs.declared.block.Block.TheVariants.{Fixlet as fixlet_block, Baseline as baseline_block, Action as action_block}
use Rattle.fix_site.specs.Blocks.{CanFollow, id_line, block_rest, block_lines}
use Rattle.fix_site.specs.Sites.{IsDigestValue, AreSiteLines, site_line, digest_line}
use Rattle.fix_site.specs.Readings.{named_fields}
use Rattle.line_forms.proofs.Parts.{IsOneWay, Lines, Then, one_way-line, single}
use Rattle.line_forms.proofs.Sequences.{EndsForeign, Many}
use Rattle.fix_site.proofs.ContentLines.{apart}
use Rattle.fix_site.proofs.FieldLemmas.{named_one}

-- the name and the version of a site
abbrev pub Head : Type 0
Head = List ℕ × ℕ

abbrev pub IsHead : Head → Type 0
IsHead head = IsName head.0 × IsId head.1

abbrev pub head_line : Head → List ℕ
head_line head = site_line head.0 head.1

pub head_one : IsOneWay IsHead (single head_line)
head_one = one_way-line IsHead head_line (λ v w is fine e.
    let same = named_one v.0 w.0 v.1 w.1 is.0 fine.0 is.1 fine.1 (append_cancel_left (field_text (codes "site")) (line_of (named_fields v.0 v.1)) (line_of (named_fields w.0 w.1)) e) in
    ap (λ (n : List ℕ). let h : Head = (n, v.1) in h) same.0 ∙ ap (λ (n : ℕ). let h : Head = (w.0, n) in h) same.1)

-- what follows the blocks and the first line
abbrev pub Last : List Block → Lines → Type 0
Last blocks = AreLinesOf IsDigestValue (single digest_line)

abbrev pub Rest : Head → Lines → Type 0
Rest head = Many (CanFollow head.0) id_line block_rest Last

abbrev pub Parts : Lines → Type 0
Parts = Then IsHead (single head_line) Rest

-- the parts are those of a site
pub there : (lines : Lines) → Parts lines → AreSiteLines lines
there lines (head, rest1, is_head, (blocks, rest2, each, (digest, is_digest, e3), e2), e1) = (
  record { name = head.0; version = head.1; blocks = blocks },
  digest,
  record { name = is_head.0; version = is_head.1; blocks = each },
  is_digest,
  e1 ∙ ap (λ l. head_line head ∷ l) (e2 ∙ ap (λ l. flat_map block_lines blocks ++ l) e3),
)

pub back : (lines : Lines) → AreSiteLines lines → Parts lines
back lines (site, digest, is, is_digest, e) = (
  (site.name, site.version),
  flat_map block_lines site.blocks ++ digest_line digest ∷ [],
  (is.name, is.version),
  (site.blocks, digest_line digest ∷ [], is.blocks, (digest, is_digest, refl), refl),
  e,
)

-- the last line begins as no block does
pub digest_not_id : (digest : List ℕ) (block : Block) → digest_line digest ≡ id_line block → ⊥
digest_not_id digest (fixlet_block f) e = apart 0 100 (digest_line digest) (id_line (fixlet_block f)) refl refl e
digest_not_id digest (baseline_block b) e = apart 0 100 (digest_line digest) (id_line (baseline_block b)) refl refl e
digest_not_id digest (action_block a) e = apart 0 100 (digest_line digest) (id_line (action_block a)) refl refl e

pub foreign : (name : List ℕ) → EndsForeign (CanFollow name) id_line Last
foreign name blocks rest (digest, is, e) before block more can h = digest_not_id digest block (cons_head (digest_line digest) (id_line block) [] more (sym e ∙ h))

pub digest_same : (d e : List ℕ) → IsDigestValue d → IsDigestValue e → digest_line d ≡ digest_line e → d ≡ e
digest_same d e is fine h =
    let same : encode_lower d ≡ encode_lower e = append_cancel_left (field_text (codes "digest")) (encode_lower d) (encode_lower e) h in
    let one : decode_sized (encode_lower d) 32 ≡ Ok d = decode_sized-encode_lower d 32 is.0 is.1 in
    let two : decode_sized (encode_lower e) 32 ≡ Ok e = decode_sized-encode_lower e 32 fine.0 fine.1 in
    cc

-- lines with one more behind them
pub snoc_front : (xs ys : Lines) (x y : List ℕ) → xs ++ x ∷ [] ≡ ys ++ y ∷ [] → (xs ≡ ys) × (x ≡ y)
snoc_front [] [] x y e = (refl, cons_head x y [] [] e)
snoc_front [] (b ∷ ys) x y e = absurd (long ys x y b e)
  where
    long : (ys : Lines) (x y b : List ℕ) → x ∷ [] ≡ b ∷ (ys ++ y ∷ []) → ⊥
    long [] x y b e = cc
    long (c ∷ ys) x y b e = cc
snoc_front (a ∷ xs) [] x y e = absurd (long xs x y a e)
  where
    long : (xs : Lines) (x y a : List ℕ) → a ∷ (xs ++ x ∷ []) ≡ y ∷ [] → ⊥
    long [] x y a e = cc
    long (c ∷ xs) x y a e = cc
snoc_front (a ∷ xs) (b ∷ ys) x y e =
    let same = cons_head a b (xs ++ x ∷ []) (ys ++ y ∷ []) e in
    let behind = snoc_front xs ys x y (cons_tail a b (xs ++ x ∷ []) (ys ++ y ∷ []) e) in
    (ap (λ z. z ∷ xs) same ∙ ap (λ l. b ∷ l) behind.0, behind.1)

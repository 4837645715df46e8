-- Where the lines of a site stop: at its first line, in a block, at an id that stood before, or at the last line.
use Rattle.std.proofs.Common.{ℕ, zero, suc, ◌≡◌, ◌<◌, List, [], ◌∷◌, ◌++◌, length, refl, sym, ap, subst, ◌∙◌, arith, append_assoc, append-nil, inl, inr}
use Rattle.std.specs.Prelude.{flat_map, codes, slice_index}
use Rattle.line_forms.specs.Names.{IsName}
use Rattle.line_forms.specs.LineStates.{LineState}
use Rattle.line_forms.specs.BadLines.{Begins}
use Rattle.line_forms.specs.Readers.{Passes, AreLinesOf, StopsAt, IsNotAhead}
use Rattle.line_forms.specs.Numbers.{IsId}
use Rattle.line_forms.proofs.Passing.{cons_head, cons_tail, passes_none, passes_then}
use Rattle.fix_site.specs.declared.block.Block.{Block}
use Rattle.fix_site.specs.declared.site.Site.{Site}
use Rattle.fix_site.specs.Blocks.{AreBlocks, CanFollow, IsKindOf, HasId, block_id, id_line, block_rest, block_lines}
use Rattle.fix_site.specs.Sites.{IsSite, IsDigestValue, AreSiteLines, EndsInTwiceId, site_line, digest_line, body_lines, lines_with}
use Rattle.fix_site.specs.Readings.{IsTwice, IsTwiceAhead}
use Rattle.line_forms.proofs.Parts.{HasSome, Lines, Then, covers, holds_none, single, stops_behind, stops_first, stops_line, stops_same}
use Rattle.line_forms.proofs.Sequences.{Compares, compare, each_none, known, stops_inside, stops_many}
use Rattle.fix_site.proofs.Actions.{a_named}
use Rattle.fix_site.proofs.BlockLines.{IsBadBlock, IsTwiceLine, block_one, twice_cannot}
use Rattle.fix_site.proofs.SiteParts.{Head, IsHead, head_line, head_one, Last, Rest, there, back, digest_not_id, foreign, snoc_front}

nothing : (line : List ℕ) (more : Lines) → [] ≡ line ∷ more → ⊥
nothing line more e = cc

something : (line : List ℕ) (more : Lines) → line ∷ more ≡ [] → ⊥
something line more e = cc

-- a digest and a head
abbrev zeros : ℕ → List ℕ
zeros zero = []
zeros (suc n) = 0 ∷ zeros n

zeros_length : (n : ℕ) → length (zeros n) ≡ n
zeros_length zero = refl
zeros_length (suc n) = ap suc (zeros_length n)

zeros_bytes : (n i : ℕ) → slice_index (zeros n) i < 256
zeros_bytes zero zero = omega arith
zeros_bytes zero (suc i) = omega arith
zeros_bytes (suc n) zero = omega arith
zeros_bytes (suc n) (suc i) = zeros_bytes n i

abbrev SomeDigest : Type 0
SomeDigest = (digest : List ℕ) × IsDigestValue digest

pub some_digest : SomeDigest
some_digest = (zeros 32, (zeros_length 32, zeros_bytes 32))

a_head : Head
a_head = (codes "a", 1)

is_head : IsHead a_head
unfolding a_head
is_head = a_named

some_last : (blocks : List Block) → HasSome (Last blocks)
some_last blocks = (digest_line some_digest.0 ∷ [], (some_digest.0, some_digest.1, refl))

some_rest : (head : Head) → HasSome (Rest head)
some_rest head = let s = some_last [] in (s.0, ([], s.0, each_none (CanFollow head.0), s.1, refl))

-- the lines of some blocks, and of those that begin them
abbrev front : Head → List Block → Lines
front head blocks = head_line head ∷ flat_map block_lines blocks

-- in lines that end in an id that stood before, no site goes on
pub twice_not_begun : (lines : Lines) → EndsInTwiceId lines → Begins AreSiteLines lines → ⊥
twice_not_begun lines ends (more, (site, digest, is, is_digest, e)) =
    let t = ends.site in
    let long : front (t.name, t.version) t.blocks ++ (id_line ends.block ∷ more) ≡ front (site.name, site.version) site.blocks ++ (digest_line digest ∷ []) =
    sym (append_assoc (body_lines t) (id_line ends.block ∷ []) more) ∙ ap (λ l. l ++ more) (sym ends.are) ∙ e in
    let head = head_one (t.name, t.version) (site.name, site.version) (flat_map block_lines t.blocks ++ (id_line ends.block ∷ more)) (flat_map block_lines site.blocks ++ (digest_line digest ∷ []))
    (ends.good.name, ends.good.version) (is.name, is.version) long in
    let N : List ℕ → Type 0 = λ n. AreBlocks n site.blocks in
    let fine : AreBlocks t.name site.blocks = subst N (sym (ap (λ (h : Head). h.0) head)) is.blocks in
    never (t.name) t.blocks site.blocks ends.block digest more ends.good.blocks fine ends.twice
    (compare (CanFollow t.name) id_line block_rest t.blocks site.blocks (id_line ends.block ∷ more) (digest_line digest ∷ []) (block_one t.name) ends.good.blocks fine
    (cons_tail (site_line t.name t.version) (site_line site.name site.version) _ _ long))
  where
    never : (name : List ℕ) (mine others : List Block) (block : Block) (digest : List ℕ) (more : Lines) → AreBlocks name mine → AreBlocks name others → HasId mine (block_id block) → Compares block_lines mine others (id_line block ∷ more) (digest_line digest ∷ []) → ⊥
    never name mine others block digest more are fine twice (inl h) = digest_not_id digest block (sym (cons_head (id_line block) (digest_line digest) more [] h.1))
    never name mine others block digest more are fine twice (inr (inl (w, us, others_is, x_is))) =
        twice_cannot name mine block w are twice (fine mine us w others_is) (sym (cons_head (id_line block) (id_line w) more _ x_is))
    never name mine others block digest more are fine twice (inr (inr (v, us, mine_is, y_is))) = digest_not_id digest v (cons_head (digest_line digest) (id_line v) [] _ y_is)

-- the first line isn't ahead
pub site_first : (old new : LineState) → (new ≡ old) × ((name : List ℕ) (version : ℕ) (more : Lines) → IsName name → IsId version → ¬ (old.lines ≡ site_line name version ∷ more)) →
    (before : Lines) × Passes old new before × StopsAt AreSiteLines before new × ¬ IsTwiceAhead before new
site_first old new none =
    let P : LineState → Type 0 = λ s. (before : Lines) × Passes old s before × StopsAt AreSiteLines before s × ¬ IsTwiceAhead before s in
    let away : IsNotAhead IsHead head_line old = λ v more is e. none.1 v.0 v.1 more is.0 is.1 e in
    subst P (sym none.0) (
      [],
      passes_none old,
      stops_same (Then IsHead (single head_line) Rest) AreSiteLines [] old there back
          (stops_first IsHead (single head_line) Rest [] old head_one (λ v is. some_rest v) (stops_line IsHead head_line a_head old is_head away)),
      λ (line, more, e, ends). short line (flat_map block_lines ends.site.blocks) (id_line ends.block) (site_line ends.site.name ends.site.version) ends.are,
    )
  where
    short : (line : List ℕ) (flat : Lines) (x y : List ℕ) → line ∷ [] ≡ y ∷ (flat ++ x ∷ []) → ⊥
    short line [] x y e = cc
    short line (z ∷ flat) x y e = cc

-- the lines of a site whose first is that of this head
behind_head : (head : Head) (before : Lines) (state : LineState) → IsHead head → StopsAt (Rest head) before state → StopsAt AreSiteLines (head_line head ∷ before) state
behind_head head before state is stops =
    stops_same (Then IsHead (single head_line) Rest) AreSiteLines (head_line head ∷ before) state there back (stops_behind IsHead (single head_line) Rest head before state head_one is stops)

-- the lines of the last block don't go on
block_stops : (head : Head) (blocks : List Block) (before : Lines) (state : LineState) → IsHead head → AreBlocks head.0 blocks → 0 < length before → StopsAt (AreLinesOf (CanFollow head.0 blocks) block_lines) before state →
    StopsAt AreSiteLines (front head blocks ++ before) state
block_stops head blocks [] state is are some stops = absurd (omega (arith, some))
block_stops head blocks (start ∷ begun) state is are some stops =
    behind_head head (flat_map block_lines blocks ++ start ∷ begun) state is
    (stops_inside (known (CanFollow head.0) id_line block_rest Last (block_one head.0) (foreign head.0)) blocks start begun state are (λ v can. some_last (blocks ++ v ∷ []))
    (holds_none (CanFollow head.0 blocks) block_lines (start ∷ begun) state (block_one head.0 blocks) stops) stops)

-- and they end in no id that stood before
block_not_twice : (head : Head) (blocks : List Block) (before : Lines) (state : LineState) → IsHead head → AreBlocks head.0 blocks → 0 < length before → StopsAt (AreLinesOf (CanFollow head.0 blocks) block_lines) before state →
    ¬ IsTwiceAhead (front head blocks ++ before) state
block_not_twice head blocks before state is are some stops (line, more, e, ends) =
    let t = ends.site in
    let parts = snoc_front (front head blocks ++ before) (body_lines t) line (id_line ends.block) ends.are in
    let same = head_one head (t.name, t.version) (flat_map block_lines blocks ++ before) (flat_map block_lines t.blocks) is (ends.good.name, ends.good.version) parts.0 in
    let N : List ℕ → Type 0 = λ n. AreBlocks n t.blocks in
    let fine : AreBlocks head.0 t.blocks = subst N (sym (ap (λ (h : Head). h.0) same)) ends.good.blocks in
    let rest : flat_map block_lines blocks ++ before ≡ flat_map block_lines t.blocks ++ [] =
    cons_tail (head_line head) (site_line t.name t.version) (flat_map block_lines blocks ++ before) (flat_map block_lines t.blocks) parts.0 ∙ sym (append-nil (flat_map block_lines t.blocks)) in
    never before t.blocks some stops fine (compare (CanFollow head.0) id_line block_rest blocks t.blocks before [] (block_one head.0) are fine rest)
  where
    never : (before : Lines) (others : List Block) → 0 < length before → StopsAt (AreLinesOf (CanFollow head.0 blocks) block_lines) before state → AreBlocks head.0 others → Compares block_lines blocks others before [] → ⊥
    never [] others some stops fine c = omega (arith, some)
    never (x ∷ before) others some stops fine (inl h) = something x before h.1
    never (x ∷ before) others some stops fine (inr (inl (w, us, others_is, x_is))) =
        stops.unfinished (covers (CanFollow head.0 blocks) block_lines (x ∷ before) (flat_map block_lines us ++ []) w (block_one head.0 blocks) stops.begins (fine blocks us w others_is) x_is)
    never (x ∷ before) others some stops fine (inr (inr (v, us, mine_is, y_is))) = nothing (id_line v) _ y_is

-- a block's lines don't go on
pub site_block : (name : List ℕ) (version : ℕ) (blocks : List Block) (old a mid new : LineState) → IsName name → IsId version → Passes old a (site_line name version ∷ []) → AreBlocks name blocks → Passes a mid (flat_map block_lines blocks) →
    IsBadBlock name blocks mid new → (before : Lines) × Passes old new before × StopsAt AreSiteLines before new × ¬ IsTwiceAhead before new
site_block name version blocks old a mid new is_name is_version one are two (before, some, passes, stops) = (
  front (name, version) blocks ++ before,
  passes_then old mid new (front (name, version) blocks) before (passes_then old a mid (site_line name version ∷ []) (flat_map block_lines blocks) one two) passes,
  block_stops (name, version) blocks before new (is_name, is_version) are some stops,
  block_not_twice (name, version) blocks before new (is_name, is_version) are some stops,
)

-- no block and no digest is ahead
last_stops : (head : Head) (blocks : List Block) (state : LineState) → IsHead head → AreBlocks head.0 blocks → IsNotAhead (CanFollow head.0 blocks) id_line state → IsNotAhead IsDigestValue digest_line state →
    StopsAt AreSiteLines (front head blocks ++ []) state
last_stops head blocks state is are none no_digest =
    behind_head head (flat_map block_lines blocks ++ []) state is
    (stops_many (known (CanFollow head.0) id_line block_rest Last (block_one head.0) (foreign head.0)) blocks [] state state are none (λ front v e goes. goes.3) refl
    (stops_line IsDigestValue digest_line some_digest.0 state some_digest.1 no_digest))

-- an id that stood before is ahead
pub site_twice : (name : List ℕ) (version : ℕ) (blocks : List Block) (old a mid : LineState) → IsName name → IsId version → Passes old a (site_line name version ∷ []) → AreBlocks name blocks → Passes a mid (flat_map block_lines blocks) →
    IsTwiceLine name blocks mid → (before : Lines) × Passes old mid before × StopsAt AreSiteLines before mid × IsTwiceAhead before mid
site_twice name version blocks old a mid is_name is_version one are two (block, more, twice, e) =
    let P : Lines → Type 0 = λ l. StopsAt AreSiteLines l mid in (
      front (name, version) blocks,
      passes_then old a mid (site_line name version ∷ []) (flat_map block_lines blocks) one two,
      subst P (append-nil (front (name, version) blocks)) (last_stops (name, version) blocks mid (is_name, is_version) are
          (λ other rest can h. twice_cannot name blocks block other are twice.1 can (cons_head (id_line other) (id_line block) rest more (sym h ∙ e)))
          (λ digest rest is h. digest_not_id digest block (cons_head (digest_line digest) (id_line block) rest more (sym h ∙ e)))),
      (
        id_line block,
        more,
        e,
        record {
          site = record { name = name; version = version; blocks = blocks };
          block = block;
          good = record { name = is_name; version = is_version; blocks = are };
          kind = twice.0;
          twice = twice.1;
          are = refl;
        },
      ),
    )

-- the last line isn't ahead
pub site_last : (name : List ℕ) (version : ℕ) (blocks : List Block) (old a mid new : LineState) → IsName name → IsId version → Passes old a (site_line name version ∷ []) → AreBlocks name blocks → Passes a mid (flat_map block_lines blocks) →
    IsNotAhead (CanFollow name blocks) id_line mid → IsNotAhead (IsTwice name blocks) id_line mid → (new ≡ mid) × IsNotAhead IsDigestValue digest_line mid →
    (before : Lines) × Passes old new before × StopsAt AreSiteLines before new × ¬ IsTwiceAhead before new
site_last name version blocks old a mid new is_name is_version one are two none no_twice no_digest =
    let P : LineState → Type 0 = λ s. (before : Lines) × Passes old s before × StopsAt AreSiteLines before s × ¬ IsTwiceAhead before s in
    let Q : Lines → Type 0 = λ l. StopsAt AreSiteLines l mid in
    subst P (sym no_digest.0) (
      front (name, version) blocks,
      passes_then old a mid (site_line name version ∷ []) (flat_map block_lines blocks) one two,
      subst Q (append-nil (front (name, version) blocks)) (last_stops (name, version) blocks mid (is_name, is_version) are none no_digest.1),
      not_twice,
    )
  where
    never : (others : List Block) (block : Block) (line : List ℕ) (more : Lines) → mid.lines ≡ line ∷ more → line ≡ id_line block → IsKindOf name block → HasId others (block_id block) → Compares block_lines blocks others [] [] → ⊥
    never others block line more e same kind twice (inl h) =
        let H : List Block → Type 0 = λ l. HasId l (block_id block) in
        no_twice block more (kind, subst H (sym h.0) twice) (e ∙ ap (λ l. l ∷ more) same)
    never others block line more e same kind twice (inr (inl (w, us, others_is, x_is))) = nothing (id_line w) _ x_is
    never others block line more e same kind twice (inr (inr (v, us, mine_is, y_is))) = nothing (id_line v) _ y_is

    not_twice : ¬ IsTwiceAhead (front (name, version) blocks) mid
    not_twice (line, more, e, ends) =
        let t = ends.site in
        let parts = snoc_front (front (name, version) blocks) (body_lines t) line (id_line ends.block) ends.are in
        let same = head_one (name, version) (t.name, t.version) (flat_map block_lines blocks) (flat_map block_lines t.blocks) (is_name, is_version) (ends.good.name, ends.good.version) parts.0 in
        let N : List ℕ → Type 0 = λ n. AreBlocks n t.blocks in
        let K : List ℕ → Type 0 = λ n. IsKindOf n ends.block in
        let names : name ≡ t.name = ap (λ (h : Head). h.0) same in
        let fine : AreBlocks name t.blocks = subst N (sym names) ends.good.blocks in
        let rest : flat_map block_lines blocks ++ [] ≡ flat_map block_lines t.blocks ++ [] =
        append-nil (flat_map block_lines blocks) ∙ cons_tail (site_line name version) (site_line t.name t.version) (flat_map block_lines blocks) (flat_map block_lines t.blocks) parts.0 ∙ sym (append-nil (flat_map block_lines t.blocks)) in
        never t.blocks ends.block line more e parts.1 (subst K (sym names) ends.kind) ends.twice (compare (CanFollow name) id_line block_rest blocks t.blocks [] [] (block_one name) are fine rest)

-- a site and its digest were taken
pub site_whole : (name : List ℕ) (version : ℕ) (blocks : List Block) (digest : List ℕ) (old a mid new : LineState) → Passes old a (site_line name version ∷ []) → Passes a mid (flat_map block_lines blocks) → Passes mid new (digest_line digest ∷ []) →
    Passes old new (lines_with (record { name = name; version = version; blocks = blocks }) digest)
site_whole name version blocks digest old a mid new one two three =
    passes_then old mid new (front (name, version) blocks) (digest_line digest ∷ []) (passes_then old a mid (site_line name version ∷ []) (flat_map block_lines blocks) one two) three

-- lines of a whole site end in no id that stood before, with one more line or none
pub whole_not_twice : (site : Site) (digest line : List ℕ) → IsSite site → IsDigestValue digest → EndsInTwiceId (lines_with site digest ++ line ∷ []) → ⊥
whole_not_twice site digest line is is_digest ends =
    let t = ends.site in
    let parts = snoc_front (lines_with site digest) (body_lines t) line (id_line ends.block) ends.are in
    let same = head_one (site.name, site.version) (t.name, t.version) (flat_map block_lines site.blocks ++ digest_line digest ∷ []) (flat_map block_lines t.blocks) (is.name, is.version) (ends.good.name, ends.good.version) parts.0 in
    let N : List ℕ → Type 0 = λ n. AreBlocks n t.blocks in
    let fine : AreBlocks site.name t.blocks = subst N (sym (ap (λ (h : Head). h.0) same)) ends.good.blocks in
    let rest : flat_map block_lines site.blocks ++ (digest_line digest ∷ []) ≡ flat_map block_lines t.blocks ++ [] =
    cons_tail (site_line site.name site.version) (site_line t.name t.version) (flat_map block_lines site.blocks ++ digest_line digest ∷ []) (flat_map block_lines t.blocks) parts.0 ∙ sym (append-nil (flat_map block_lines t.blocks)) in
    never t.blocks (compare (CanFollow site.name) id_line block_rest site.blocks t.blocks (digest_line digest ∷ []) [] (block_one site.name) is.blocks fine rest)
  where
    never : (others : List Block) → Compares block_lines site.blocks others (digest_line digest ∷ []) [] → ⊥
    never others (inl h) = something (digest_line digest) [] h.1
    never others (inr (inl (w, us, others_is, x_is))) = digest_not_id digest w (cons_head (digest_line digest) (id_line w) [] _ x_is)
    never others (inr (inr (v, us, mine_is, y_is))) = nothing (id_line v) _ y_is

-- no line stands behind the last one of a site
pub site_ends : (site : Site) (digest : List ℕ) → IsSite site → IsDigestValue digest → (line : List ℕ) (more : Lines) → AreSiteLines (lines_with site digest ++ line ∷ more) → ⊥
site_ends site digest is is_digest line more (other, found, fine, is_found, e) =
    let long : front (site.name, site.version) site.blocks ++ (digest_line digest ∷ (line ∷ more)) ≡ front (other.name, other.version) other.blocks ++ (digest_line found ∷ []) =
    sym (append_assoc (body_lines site) (digest_line digest ∷ []) (line ∷ more)) ∙ e in
    let same = head_one (site.name, site.version) (other.name, other.version) _ _ (is.name, is.version) (fine.name, fine.version) long in
    let N : List ℕ → Type 0 = λ n. AreBlocks n other.blocks in
    let good : AreBlocks site.name other.blocks = subst N (sym (ap (λ (h : Head). h.0) same)) fine.blocks in
    never other.blocks found (compare (CanFollow site.name) id_line block_rest site.blocks other.blocks (digest_line digest ∷ (line ∷ more)) (digest_line found ∷ []) (block_one site.name) is.blocks good
    (cons_tail (site_line site.name site.version) (site_line other.name other.version) _ _ long))
  where
    never : (others : List Block) (found : List ℕ) → Compares block_lines site.blocks others (digest_line digest ∷ (line ∷ more)) (digest_line found ∷ []) → ⊥
    never others found (inl h) = something line more (cons_tail (digest_line digest) (digest_line found) (line ∷ more) [] h.1)
    never others found (inr (inl (w, us, others_is, x_is))) = digest_not_id digest w (cons_head (digest_line digest) (id_line w) _ _ x_is)
    never others found (inr (inr (v, us, mine_is, y_is))) = digest_not_id found v (cons_head (digest_line found) (id_line v) [] _ y_is)

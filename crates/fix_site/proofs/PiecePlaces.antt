-- The pieces of a site, and the lines at which they stand.
use Rattle.std.proofs.Common.{ℕ, suc, ◌≡◌, ◌+◌, ◌<◌, List, [], ◌∷◌, ◌++◌, length, refl, sym, ap, subst, ◌∙◌, arith, All, map, inl, inr, append_assoc, append-nil, length-append, length-take-le, get_or, take}
use Rattle.std.specs.Prelude.{flat_map, codes}
use Rattle.std.proofs.lemmas.List.{length-map, take_more}
use Rattle.std.proofs.lemmas.List.Elements.{All-nil, All-cons, All-append}
use Rattle.line_forms.specs.Contents as held
use Rattle.fix_site.specs.declared.baseline.Baseline.{Baseline}
use Rattle.fix_site.specs.declared.block.Block.{Block}
use Rattle.fix_site.specs.declared.block.Block.TheVariants.{Fixlet as fixlet_block, Baseline as baseline_block, Action as action_block}
use Rattle.fix_site.specs.declared.fixlet.Fixlet.{Fixlet}
use Rattle.fix_site.specs.declared.fixlet.Success.{Success}
use Rattle.fix_site.specs.declared.fixlet.Success.TheVariants as success
use Rattle.fix_site.specs.declared.piece.Piece.{Piece}
use Rattle.fix_site.specs.declared.piece.Piece.TheVariants as piece
use Rattle.fix_site.specs.declared.site.Site.{Site}
use Rattle.fix_site.specs.Actions.{end_line}
use Rattle.fix_site.specs.Contents.{fixlet_line, baseline_line, title_line, relevance_line, success_line, component_line, fixlet_rest, baseline_rest}
use Rattle.fix_site.specs.Blocks.{IsKindOf, block_lines}
use Rattle.fix_site.specs.Sites.{IsSite, site_line, digest_line, site_digest, site_lines}
use Rattle.fix_site.specs.Pieces.{relevance_pieces, success_pieces, script_pieces, fixlet_pieces, block_pieces, blocks_pieces, pieces_of, IsPieceOf}
use Rattle.line_forms.proofs.Parts.{Lines}

-- a list of lines with a part in it
abbrev IsAround : Lines → Lines → Lines → Lines → Type 0
IsAround all before part after = all ≡ before ++ (part ++ after)

-- the part behind the first lines of it
inside : (all before first rest after : Lines) → IsAround all before (first ++ rest) after → IsAround all (before ++ first) rest after
inside all before first rest after e = e ∙ ap (λ l. before ++ l) (append_assoc first rest after) ∙ sym (append_assoc before first (rest ++ after))

-- and the first lines
front : (all before first rest after : Lines) → IsAround all before (first ++ rest) after → IsAround all before first (rest ++ after)
front all before first rest after e = e ∙ ap (λ l. before ++ l) (append_assoc first rest after)

relevance_stand : (all before after : Lines) (questions : List (List ℕ)) (line : ℕ) → IsAround all before (map relevance_line questions) after → line ≡ length before + 1 → All (IsPieceOf all) (relevance_pieces line questions)
relevance_stand all before after [] line e at = All-nil (IsPieceOf all)
relevance_stand all before after (q ∷ questions) line e at =
    let count : length (before ++ relevance_line q ∷ []) ≡ length before + 1 = length-append before (relevance_line q ∷ []) in
    let next : line + 1 ≡ length (before ++ relevance_line q ∷ []) + 1 = omega arith in
    All-cons (IsPieceOf all) (piece.Relevance line q) (relevance_pieces (line + 1) questions)
    (inl (before, map relevance_line questions ++ after, e, at))
    (relevance_stand all (before ++ relevance_line q ∷ []) after questions (line + 1) (inside all before (relevance_line q ∷ []) (map relevance_line questions) after e) next)

success_stand : (all before after : Lines) (s : Success) (line : ℕ) → IsAround all before (success_line s ∷ []) after → line ≡ length before + 1 → All (IsPieceOf all) (success_pieces line s)
success_stand all before after success.Lines line e at = All-nil (IsPieceOf all)
success_stand all before after success.Relevance line e at = All-nil (IsPieceOf all)
success_stand all before after (success.Clause q) line e at = All-cons (IsPieceOf all) (piece.Relevance line q) [] (inr (before, after, e, at)) (All-nil (IsPieceOf all))

script_stand : (all before after : Lines) (script : List (List ℕ)) (line : ℕ) → IsAround all before (map held.content_line script) after → line ≡ length before + 1 → All (IsPieceOf all) (script_pieces line script)
script_stand all before after [] line e at = All-nil (IsPieceOf all)
script_stand all before after (first ∷ rest) line e at =
    All-cons (IsPieceOf all) (piece.Script line (first ∷ rest)) [] (omega arith, (before, after, e, at)) (All-nil (IsPieceOf all))

fixlet_stand : (all before after : Lines) (f : Fixlet) (line : ℕ) → IsAround all before (fixlet_line f.id ∷ fixlet_rest f) after → line ≡ length before + 1 → All (IsPieceOf all) (fixlet_pieces line f)
fixlet_stand all before after f line e at =
    let head = fixlet_line f.id ∷ title_line f.title ∷ [] in
    let asked = map relevance_line f.relevance in
    let script = map held.content_line f.script in
    let rest1 = success_line f.success ∷ (script ++ end_line ∷ []) in
    let before1 = before ++ head in
    let e1 : IsAround all before1 (asked ++ rest1) after = inside all before head (asked ++ rest1) after e in
    let n1 : length before1 ≡ length before + 2 = length-append before head in
    let before2 = before1 ++ asked in
    let e2 : IsAround all before2 rest1 after = inside all before1 asked rest1 after e1 in
    let n2 : length before2 ≡ length before1 + length f.relevance = length-append before1 asked ∙ ap (λ n. length before1 + n) (length-map f.relevance relevance_line) in
    let before3 = before2 ++ success_line f.success ∷ [] in
    let e3 : IsAround all before3 (script ++ end_line ∷ []) after = inside all before2 (success_line f.success ∷ []) (script ++ end_line ∷ []) after e2 in
    let n3 : length before3 ≡ length before2 + 1 = length-append before2 (success_line f.success ∷ []) in
    let asked_at : line + 2 ≡ length before1 + 1 = omega arith in
    let success_at : line + 2 + length f.relevance ≡ length before2 + 1 = omega arith in
    let script_at : line + 2 + length f.relevance + 1 ≡ length before3 + 1 = omega arith in
    All-append (IsPieceOf all) (relevance_pieces (line + 2) f.relevance) _
    (relevance_stand all before1 (rest1 ++ after) f.relevance (line + 2) (front all before1 asked rest1 after e1) asked_at)
    (All-append (IsPieceOf all) (success_pieces (line + 2 + length f.relevance) f.success) (script_pieces (line + 2 + length f.relevance + 1) f.script)
    (success_stand all before2 ((script ++ end_line ∷ []) ++ after) f.success (line + 2 + length f.relevance) (front all before2 (success_line f.success ∷ []) (script ++ end_line ∷ []) after e2) success_at)
    (script_stand all before3 ((end_line ∷ []) ++ after) f.script (line + 2 + length f.relevance + 1) (front all before3 script (end_line ∷ []) after e3) script_at))

baseline_stand : (all before after : Lines) (b : Baseline) (line : ℕ) → IsAround all before (baseline_line b.id ∷ baseline_rest b) after → line ≡ length before + 1 → All (IsPieceOf all) (relevance_pieces (line + 2) b.relevance)
baseline_stand all before after b line e at =
    let head = baseline_line b.id ∷ title_line b.title ∷ [] in
    let asked = map relevance_line b.relevance in
    let rest1 = map component_line b.components ++ end_line ∷ [] in
    let e1 : IsAround all (before ++ head) (asked ++ rest1) after = inside all before head (asked ++ rest1) after e in
    let n1 : length (before ++ head) ≡ length before + 2 = length-append before head in
    let asked_at : line + 2 ≡ length (before ++ head) + 1 = omega arith in
    relevance_stand all (before ++ head) (rest1 ++ after) b.relevance (line + 2) (front all (before ++ head) asked rest1 after e1) asked_at

block_stand : (all before after : Lines) (block : Block) (line : ℕ) → IsAround all before (block_lines block) after → line ≡ length before + 1 → All (IsPieceOf all) (block_pieces line block)
block_stand all before after (fixlet_block f) line e at = fixlet_stand all before after f line e at
block_stand all before after (baseline_block b) line e at = baseline_stand all before after b line e at
block_stand all before after (action_block a) line e at = All-nil (IsPieceOf all)

blocks_stand : (all before after : Lines) (blocks : List Block) (line : ℕ) → IsAround all before (flat_map block_lines blocks) after → line ≡ length before + 1 → All (IsPieceOf all) (blocks_pieces line blocks)
blocks_stand all before after [] line e at = All-nil (IsPieceOf all)
blocks_stand all before after (block ∷ blocks) line e at =
    let count : length (before ++ block_lines block) ≡ length before + length (block_lines block) = length-append before (block_lines block) in
    let next : line + length (block_lines block) ≡ length (before ++ block_lines block) + 1 = omega arith in
    All-append (IsPieceOf all) (block_pieces line block) (blocks_pieces (line + length (block_lines block)) blocks)
    (block_stand all before (flat_map block_lines blocks ++ after) block line (front all before (block_lines block) (flat_map block_lines blocks) after e) at)
    (blocks_stand all (before ++ block_lines block) after blocks (line + length (block_lines block)) (inside all before (block_lines block) (flat_map block_lines blocks) after e) next)

pub pieces_stand : (site : Site) → All (IsPieceOf (site_lines site)) (pieces_of site)
pieces_stand site = blocks_stand (site_lines site) (site_line site.name site.version ∷ []) (digest_line (site_digest site) ∷ []) site.blocks 2 refl refl

-- actions have no pieces
actions_only : (line : ℕ) (blocks : List Block) → ((before after : List Block) (block : Block) → blocks ≡ before ++ block ∷ after → IsKindOf (codes "actionsite") block) → blocks_pieces line blocks ≡ []
actions_only line [] kinds = refl
actions_only line (fixlet_block f ∷ blocks) kinds = absurd (kinds [] blocks (fixlet_block f) refl refl)
actions_only line (baseline_block b ∷ blocks) kinds = absurd (kinds [] blocks (baseline_block b) refl refl)
actions_only line (action_block a ∷ blocks) kinds =
    actions_only (line + length (block_lines (action_block a))) blocks (λ before after block e. kinds (action_block a ∷ before) after block (ap (λ l. action_block a ∷ l) e))

pub no_pieces : (site : Site) → IsSite site → site.name ≡ codes "actionsite" → pieces_of site ≡ []
no_pieces site is actions =
    let K : List ℕ → Type 0 = λ n. (before after : List Block) (block : Block) → site.blocks ≡ before ++ block ∷ after → IsKindOf n block in
    let kinds : K site.name = λ before after block e. (is.blocks before after block e).kind in
    actions_only 2 site.blocks (subst K actions kinds)

-- how many lines a block has
pub fixlet_length : (f : Fixlet) → length (fixlet_rest f) ≡ length f.relevance + length f.script + 3
fixlet_length f =
    let script = map held.content_line f.script in
    let a = length-append (map relevance_line f.relevance) (success_line f.success ∷ (script ++ end_line ∷ [])) in
    let b = length-append script (end_line ∷ []) in
    let d = length-map f.relevance relevance_line in
    let e = length-map f.script held.content_line in
    omega arith

-- the pieces of a fixlet, added one after another
pub fixlet_added : (f : Fixlet) (p q r s t : List Piece) (line a b c : ℕ) → q ≡ p → a ≡ line + 2 → r ≡ q ++ relevance_pieces a f.relevance → b ≡ a + length f.relevance → s ≡ r ++ success_pieces b f.success → c ≡ b + 1 →
    t ≡ s ++ script_pieces c f.script → t ≡ p ++ fixlet_pieces line f
fixlet_added f p q r s t line a b c q_is a_is r_is b_is s_is c_is t_is =
    let b_at : b ≡ line + 2 + length f.relevance = omega arith in
    let c_at : c ≡ line + 2 + length f.relevance + 1 = omega arith in
    let asked = relevance_pieces (line + 2) f.relevance in
    let success = success_pieces (line + 2 + length f.relevance) f.success in
    let r2 : r ≡ p ++ asked = r_is ∙ ap (λ l. l ++ relevance_pieces a f.relevance) q_is ∙ ap (λ n. p ++ relevance_pieces n f.relevance) a_is in
    let s2 : s ≡ (p ++ asked) ++ success = s_is ∙ ap (λ l. l ++ success_pieces b f.success) r2 ∙ ap (λ n. (p ++ asked) ++ success_pieces n f.success) b_at in
    let t2 : t ≡ ((p ++ asked) ++ success) ++ script_pieces (line + 2 + length f.relevance + 1) f.script = t_is ∙ ap (λ l. l ++ script_pieces c f.script) s2 ∙ ap (λ n. ((p ++ asked) ++ success) ++ script_pieces n f.script) c_at in
    t2 ∙ append_assoc (p ++ asked) success (script_pieces (line + 2 + length f.relevance + 1) f.script) ∙ append_assoc p asked (success ++ script_pieces (line + 2 + length f.relevance + 1) f.script)

-- one more question, and one more block
pub relevance_more : (line : ℕ) (questions : List (List ℕ)) (question : List ℕ) → relevance_pieces line (questions ++ question ∷ []) ≡ relevance_pieces line questions ++ piece.Relevance (line + length questions) question ∷ []
relevance_more line [] question = let at : line ≡ line + 0 = omega arith in ap (λ (n : ℕ). piece.Relevance n question ∷ []) at
relevance_more line (q ∷ questions) question =
    let at : line + 1 + length questions ≡ line + suc (length questions) = omega arith in
    ap (λ l. piece.Relevance line q ∷ l) (relevance_more (line + 1) questions question ∙ ap (λ (n : ℕ). relevance_pieces (line + 1) questions ++ piece.Relevance n question ∷ []) at)

pub blocks_more : (line : ℕ) (blocks : List Block) (block : Block) → blocks_pieces line (blocks ++ block ∷ []) ≡ blocks_pieces line blocks ++ block_pieces (line + length (flat_map block_lines blocks)) block
blocks_more line [] block = let at : line ≡ line + 0 = omega arith in append-nil (block_pieces line block) ∙ ap (λ n. block_pieces n block) at
blocks_more line (b ∷ blocks) block =
    let next = line + length (block_lines b) in
    let count : length (block_lines b ++ flat_map block_lines blocks) ≡ length (block_lines b) + length (flat_map block_lines blocks) = length-append (block_lines b) (flat_map block_lines blocks) in
    let at : next + length (flat_map block_lines blocks) ≡ line + length (block_lines b ++ flat_map block_lines blocks) = omega arith in
    ap (λ l. block_pieces line b ++ l) (blocks_more next blocks block ∙ ap (λ n. blocks_pieces next blocks ++ block_pieces n block) at)
    ∙ sym (append_assoc (block_pieces line b) (blocks_pieces next blocks) (block_pieces (line + length (block_lines b ++ flat_map block_lines blocks)) block))

pub lines_more : (blocks : List Block) (block : Block) → length (flat_map block_lines (blocks ++ block ∷ [])) ≡ length (flat_map block_lines blocks) + length (block_lines block)
lines_more [] block = let e : length (block_lines block ++ []) ≡ length (block_lines block) = ap (length {A = List ℕ}) (append-nil (block_lines block)) in omega arith
lines_more (b ∷ blocks) block =
    let rest = lines_more blocks block in
    let one = length-append (block_lines b) (flat_map block_lines (blocks ++ block ∷ [])) in
    let two = length-append (block_lines b) (flat_map block_lines blocks) in
    omega arith

-- one more question was added
pub relevance_step : (p q r : List Piece) (line at i : ℕ) (items : List (List ℕ)) (d : List ℕ) → i < length items → q ≡ p ++ relevance_pieces line (take i items) → at ≡ line + i → r ≡ q ++ piece.Relevance at (get_or items i d) ∷ [] →
    r ≡ p ++ relevance_pieces line (take (i + 1) items)
relevance_step p q r line at i items d inside q_is at_is r_is =
    let taken = take i items in
    let question = get_or items i d in
    let count : length taken ≡ i = length-take-le i items (omega arith) in
    let place : at ≡ line + length taken = omega arith in
    r_is ∙ ap (λ l. l ++ piece.Relevance at question ∷ []) q_is ∙ append_assoc p (relevance_pieces line taken) (piece.Relevance at question ∷ [])
    ∙ ap (λ (n : ℕ). p ++ (relevance_pieces line taken ++ piece.Relevance n question ∷ [])) place
    ∙ ap (λ l. p ++ l) (sym (relevance_more line taken question) ∙ ap (relevance_pieces line) (sym (take_more items i d inside)))

-- one more block was gone over
pub blocks_step : (q r : List Piece) (line at i : ℕ) (items : List Block) (d : Block) → i < length items → q ≡ blocks_pieces line (take i items) → at ≡ line + length (flat_map block_lines (take i items)) → r ≡ q ++ block_pieces at (get_or items i d) →
    r ≡ blocks_pieces line (take (i + 1) items)
blocks_step q r line at i items d inside q_is at_is r_is =
    let block = get_or items i d in
    r_is ∙ ap (λ l. l ++ block_pieces at block) q_is ∙ ap (λ n. blocks_pieces line (take i items) ++ block_pieces n block) at_is
    ∙ sym (blocks_more line (take i items) block) ∙ ap (blocks_pieces line) (sym (take_more items i d inside))

pub lines_step : (i : ℕ) (items : List Block) (d : Block) → i < length items → length (flat_map block_lines (take (i + 1) items)) ≡ length (flat_map block_lines (take i items)) + length (block_lines (get_or items i d))
lines_step i items d inside = ap (λ l. length (flat_map block_lines l)) (take_more items i d inside) ∙ lines_more (take i items) (get_or items i d)

pub site_length : (site : Site) → length (site_lines site) ≡ length (flat_map block_lines site.blocks) + 2
site_length site = let e = length-append (flat_map block_lines site.blocks) (digest_line (site_digest site) ∷ []) in omega arith

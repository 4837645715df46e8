-- The text of `actionsite` is that of a site.
use Rattle.std.proofs.Common.{◌≡◌, ℕ, ◌+◌, ◌≤◌, List, [], ◌∷◌, ◌++◌, Bool, true, false, length, codes, decimal, map, refl, sym, ap, ◌∙◌, arith, length-append}
use Rattle.std.specs.Prelude.{Ok, flat_map}
use Rattle.std.specs.List.{concat}
use Rattle.std.proofs.lemmas.Fmt.{length-decimal-le}
use Rattle.sha2.specs.Sha256.{sha256}
use Rattle.sha2.proofs.Facts256.{length-sha256}
use Rattle.line_forms.specs.Lines.{ended_line, lines_text}
use Rattle.line_forms.specs.Numbers.{IsId}
use Rattle.line_forms.proofs.LineLemmas.{lines_text-append, lines_text-snoc}
use Rattle.fix_site.specs.declared.action.Action.{Action}
use Rattle.fix_site.specs.declared.block.Block.{Block}
use Rattle.fix_site.specs.declared.block.Block.TheVariants.{Action as action_block}
use Rattle.fix_site.specs.Actions.{action_text}
use Rattle.fix_site.specs.Answers.{IsShort, ReadsSite}
use Rattle.fix_site.specs.Blocks.{block_lines}
use Rattle.fix_site.specs.Sites.{IsSite, body_lines, digest_line, site_line, site_text}
use Rattle.server_text.specs.ActionStates.{state_end, stopped_text}
use Rattle.server_text.specs.Actionsite.{actionsite_body, actionsite_of, actionsite_text, longest_actionsite}
use Rattle.server_text.specs.TextParts.{most_bytes}
use Rattle.server_text.proofs.ActionTexts.{head_text, parted, stops_text}
use Rattle.server_text.proofs.ActionsiteBytes.{digest_length, longest}

abbrev actionsite : List ℕ
actionsite = codes "actionsite"

abbrev blocks : List Action → List Block
blocks actions = map (λ action. action_block action) actions

blocks_text : (actions : List Action) → lines_text (flat_map block_lines (blocks actions)) ≡ concat (map action_text actions)
blocks_text [] = refl
blocks_text (action ∷ actions) =
    lines_text-append (block_lines (action_block action)) (flat_map block_lines (blocks actions)) ∙ ap (λ l. action_text action ++ l) (blocks_text actions)

body_same : (version : ℕ) (actions : List Action) → lines_text (body_lines (actionsite_of version actions)) ≡ actionsite_body version (map action_text actions)
unfolding actionsite_body
body_same version actions = ap (λ l. ended_line (site_line actionsite version) ++ l) (blocks_text actions)

text_same : (version : ℕ) (actions : List Action) → site_text (actionsite_of version actions) ≡ actionsite_text version (map action_text actions)
unfolding actionsite_text
text_same version actions =
    let lines = body_lines (actionsite_of version actions) in
    lines_text-snoc lines (digest_line (sha256 (lines_text lines))) ∙ ap (λ b. b ++ ended_line (digest_line (sha256 b))) (body_same version actions)

state_short : (stopped : Bool) → length (state_end stopped) ≤ 18
state_short true = let e : length (state_end true) ≡ 18 = refl in omega (arith, e)
state_short false = let e : length (state_end false) ≡ 15 = refl in omega (arith, e)

longer_stopped : (action : Action) → length (action_text action) ≤ length (stopped_text (action_text action))
longer_stopped action =
    let a : length (action_text action) ≡ length (head_text action) + length (state_end action.stopped) = ap length (parted action) ∙ length-append (head_text action) (state_end action.stopped) in
    let b : length (stopped_text (action_text action)) ≡ length (head_text action) + 18 = ap length (stops_text action ∙ parted (record action { stopped = true })) ∙ length-append (head_text action) (state_end true) in
    let c = state_short action.stopped in
    omega (arith, a, b, c)

texts_short : (actions : List Action) → length (concat (map action_text actions)) ≤ most_bytes (map action_text actions)
texts_short [] = omega arith
texts_short (action ∷ actions) =
    let a : length (action_text action ++ concat (map action_text actions)) ≡ length (action_text action) + length (concat (map action_text actions)) = length-append (action_text action) (concat (map action_text actions)) in
    let b = longer_stopped action in
    let c = texts_short actions in
    omega (arith, a, b, c)

head_short : (version : ℕ) → IsId version → length (ended_line (site_line actionsite version)) ≤ 33
head_short version is =
    let one : ended_line (site_line actionsite version) ≡ codes "site actionsite " ++ (decimal version ++ 10 ∷ []) = refl in
    let a : length (ended_line (site_line actionsite version)) ≡ 16 + length (decimal version ++ 10 ∷ []) = ap length one ∙ length-append (codes "site actionsite ") (decimal version ++ 10 ∷ []) in
    let b : length (decimal version ++ 10 ∷ []) ≡ length (decimal version) + 1 = length-append (decimal version) (10 ∷ []) in
    let c = length-decimal-le 16 version (omega arith) (omega (arith, is.1)) (omega (arith, is.1)) in
    omega (arith, a, b, c)

made_short : (version : ℕ) (actions : List Action) → IsId version → longest_actionsite (map action_text actions) ≤ 4194304 → IsShort (actionsite_text version (map action_text actions))
unfolding actionsite_text actionsite_body
made_short version actions is short =
    let head = ended_line (site_line actionsite version) in
    let held = concat (map action_text actions) in
    let last = ended_line (digest_line (sha256 (head ++ held))) in
    let a : length ((head ++ held) ++ last) ≡ length (head ++ held) + length last = length-append (head ++ held) last in
    let b : length (head ++ held) ≡ length head + length held = length-append head held in
    let d : length last ≡ 72 = digest_length (sha256 (head ++ held)) (length-sha256 (head ++ held)) in
    let t : length held ≤ most_bytes (map action_text actions) = texts_short actions in
    let f : length head ≤ 33 = head_short version is in
    let most = longest (map action_text actions) in
    omega (arith, a, b, d, t, f, most, short)

pub made_reads : (version : ℕ) (actions : List Action) → IsSite (actionsite_of version actions) → longest_actionsite (map action_text actions) ≤ 4194304 → ReadsSite (actionsite_text version (map action_text actions)) (Ok (actionsite_of version actions))
made_reads version actions is short = (made_short version actions is.version short, is, sym (text_same version actions))

-- Lines that are written one after another.
use Rattle.std.proofs.Common.{ℕ, ◌≡◌, ◌+◌, ◌<◌, List, [], ◌∷◌, ◌++◌, length, take, get_or, sym, ap, ◌∙◌, append_assoc, append-nil}
use Rattle.std.specs.Prelude.{map, flat_map}
use Rattle.std.proofs.lemmas.List.{take_more}
use Rattle.line_forms.specs.Lines.{lines_text, ended_line}
use Rattle.act_rules.specs.declared.rule.Rules.{Rules}
use Rattle.fix_site.specs.declared.action.Action.{Action}
use Rattle.fix_site.specs.declared.block.Block.{Block}
use Rattle.fix_site.specs.RuleLines.{start_line, until_line, client_lines, hours_line, days_line, retries_line, reapply_line, rules_lines}
use Rattle.fix_site.specs.Actions.{action_line, issued_line, content_line, members_line, target_lines, state_line, end_line, action_lines}
use Rattle.fix_site.specs.Blocks.{block_lines}
use Rattle.fix_site.specs.Sites.{site_line}
use Rattle.fix_site.specs.Readings.{first_lines}
use Rattle.line_forms.proofs.LineLemmas.{lines_text-append}

-- one text behind another
pub and_then : (x y new a b : List ℕ) → y ≡ x ++ a → new ≡ y ++ b → new ≡ x ++ (a ++ b)
and_then x y new a b h k = k ∙ ap (λ l. l ++ b) h ∙ append_assoc x a b

-- the lines of the rules
pub rules_written : (rules : Rules) (o p q r s t u new : List ℕ) → p ≡ o ++ ended_line (start_line rules.start) → q ≡ p ++ ended_line (until_line rules.until) → r ≡ q ++ lines_text (client_lines rules.client) →
    s ≡ r ++ ended_line (hours_line rules.hours) → t ≡ s ++ ended_line (days_line rules.days) → u ≡ t ++ ended_line (retries_line rules.retries rules.wait) → new ≡ u ++ ended_line (reapply_line rules.reapply) → new ≡ o ++ lines_text (rules_lines rules)
rules_written rules o p q r s t u new a b c d e f g =
    let first = ended_line (start_line rules.start) in
    let second = ended_line (until_line rules.until) in
    let client = lines_text (client_lines rules.client) in
    let hours = ended_line (hours_line rules.hours) in
    let days = ended_line (days_line rules.days) in
    let retries = ended_line (retries_line rules.retries rules.wait) in
    let reapply = ended_line (reapply_line rules.reapply) in
    let last : new ≡ u ++ (reapply ++ []) = g ∙ ap (λ l. u ++ l) (sym (append-nil reapply)) in
    let whole : first ++ (second ++ (client ++ (hours ++ (days ++ (retries ++ (reapply ++ [])))))) ≡ lines_text (rules_lines rules) =
    ap (λ l. first ++ (second ++ l)) (sym (lines_text-append (client_lines rules.client) (hours_line rules.hours ∷ days_line rules.days ∷ retries_line rules.retries rules.wait ∷ reapply_line rules.reapply ∷ []))) in
    and_then o p new first (second ++ (client ++ (hours ++ (days ++ (retries ++ (reapply ++ [])))))) a
    (and_then p q new second (client ++ (hours ++ (days ++ (retries ++ (reapply ++ []))))) b
    (and_then q r new client (hours ++ (days ++ (retries ++ (reapply ++ [])))) c
    (and_then r s new hours (days ++ (retries ++ (reapply ++ []))) d
    (and_then s t new days (retries ++ (reapply ++ [])) e
    (and_then t u new retries (reapply ++ []) f last)))))
    ∙ ap (λ l. o ++ l) whole

-- the first lines of an action
pub head_written : (action : Action) (o p q r new : List ℕ) → p ≡ o ++ ended_line (action_line action.id) → q ≡ p ++ ended_line (issued_line action.issued) → r ≡ q ++ ended_line (content_line action.site action.content) →
    new ≡ r ++ ended_line (members_line action.all_members) → new ≡ o ++ lines_text (first_lines action)
head_written action o p q r new a b c d =
    let id = ended_line (action_line action.id) in
    let issued = ended_line (issued_line action.issued) in
    let content = ended_line (content_line action.site action.content) in
    let members = ended_line (members_line action.all_members) in
    let last : new ≡ r ++ (members ++ []) = d ∙ ap (λ l. r ++ l) (sym (append-nil members)) in
    and_then o p new id (issued ++ (content ++ (members ++ []))) a (and_then p q new issued (content ++ (members ++ [])) b (and_then q r new content (members ++ []) c last))

-- the lines of an action
pub action_written : (action : Action) (o p q r s new : List ℕ) → p ≡ o ++ lines_text (first_lines action) → q ≡ p ++ lines_text (target_lines action.target) → r ≡ q ++ lines_text (rules_lines action.rules) →
    s ≡ r ++ ended_line (state_line action.stopped) → new ≡ s ++ ended_line end_line → new ≡ o ++ lines_text (action_lines action)
action_written action o p q r s new a b c d e =
    let first = lines_text (first_lines action) in
    let aim = lines_text (target_lines action.target) in
    let rules = lines_text (rules_lines action.rules) in
    let state = ended_line (state_line action.stopped) in
    let last : new ≡ s ++ (ended_line end_line ++ []) = e ∙ ap (λ l. s ++ l) (sym (append-nil (ended_line end_line))) in
    let rest = state_line action.stopped ∷ end_line ∷ [] in
    let whole : first ++ (aim ++ (rules ++ (state ++ (ended_line end_line ++ [])))) ≡ lines_text (action_lines action) =
    sym (lines_text-append (first_lines action) (target_lines action.target ++ (rules_lines action.rules ++ rest))
    ∙ ap (λ l. first ++ l) (lines_text-append (target_lines action.target) (rules_lines action.rules ++ rest) ∙ ap (λ l. aim ++ l) (lines_text-append (rules_lines action.rules) rest))) in
    and_then o p new first (aim ++ (rules ++ (state ++ (ended_line end_line ++ [])))) a
    (and_then p q new aim (rules ++ (state ++ (ended_line end_line ++ []))) b
    (and_then q r new rules (state ++ (ended_line end_line ++ [])) c (and_then r s new state (ended_line end_line ++ []) d last)))
    ∙ ap (λ l. o ++ l) whole

map_more : (first : List ℕ → List ℕ) (xs : List (List ℕ)) (x : List ℕ) → lines_text (map first (xs ++ x ∷ [])) ≡ lines_text (map first xs) ++ ended_line (first x)
map_more first [] x = append-nil (ended_line (first x))
map_more first (y ∷ xs) x = ap (λ l. ended_line (first y) ++ l) (map_more first xs x) ∙ sym (append_assoc (ended_line (first y)) (lines_text (map first xs)) (ended_line (first x)))

-- one more line of a list
pub line_written : (first : List ℕ → List ℕ) (items : List (List ℕ)) (i : ℕ) (d o p new : List ℕ) → i < length items → p ≡ o ++ lines_text (map first (take i items)) → new ≡ p ++ ended_line (first (get_or items i d)) → new ≡ o ++ lines_text (map first (take (i + 1) items))
line_written first items i d o p new inside h k =
    let line = ended_line (first (get_or items i d)) in
    and_then o p new (lines_text (map first (take i items))) line h k
    ∙ ap (λ l. o ++ l) (sym (map_more first (take i items) (get_or items i d)) ∙ ap (λ l. lines_text (map first l)) (sym (take_more items i d inside)))

-- one more block of a site
blocks_written : (blocks : List Block) (block : Block) → lines_text (flat_map block_lines (blocks ++ block ∷ [])) ≡ lines_text (flat_map block_lines blocks) ++ lines_text (block_lines block)
blocks_written [] block = ap lines_text (append-nil (block_lines block))
blocks_written (b ∷ blocks) block =
    lines_text-append (block_lines b) (flat_map block_lines (blocks ++ block ∷ [])) ∙ ap (λ l. lines_text (block_lines b) ++ l) (blocks_written blocks block)
    ∙ sym (append_assoc (lines_text (block_lines b)) (lines_text (flat_map block_lines blocks)) (lines_text (block_lines block)))
    ∙ ap (λ l. l ++ lines_text (block_lines block)) (sym (lines_text-append (block_lines b) (flat_map block_lines blocks)))

abbrev pub body_so_far : List ℕ → ℕ → List Block → List ℕ
body_so_far name version blocks = lines_text (site_line name version ∷ flat_map block_lines blocks)

pub block_written : (name : List ℕ) (version : ℕ) (items : List Block) (i : ℕ) (d : Block) (p new : List ℕ) → i < length items → p ≡ body_so_far name version (take i items) → new ≡ p ++ lines_text (block_lines (get_or items i d)) →
    new ≡ body_so_far name version (take (i + 1) items)
block_written name version items i d p new inside h k =
    let block = get_or items i d in
    k ∙ ap (λ l. l ++ lines_text (block_lines block)) h ∙ append_assoc (ended_line (site_line name version)) (lines_text (flat_map block_lines (take i items))) (lines_text (block_lines block))
    ∙ ap (λ l. ended_line (site_line name version) ++ l) (sym (blocks_written (take i items) block) ∙ ap (λ l. lines_text (flat_map block_lines l)) (sym (take_more items i d inside)))

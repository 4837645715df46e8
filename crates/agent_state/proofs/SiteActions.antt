-- Gathered sites and their actions. Other crates may cite these lemmas.
use Rattle.std.proofs.Common.{ℕ, ◌≡◌, ◌+◌, ◌<◌, Bool, true, false, cond, List, [], ◌∷◌, ◌++◌, length, get_or, take, map, append-nil, refl, sym, ap, subst, ◌∙◌, arith, Some, None}
use Rattle.std.specs.Prelude.{All, ◌≢◌, codes}
use Rattle.std.specs.List.{cons_option, filter_map}
use Rattle.std.specs.List.Sorted.{IsStrictlyIncreasing}
use Rattle.std.specs.Str.{bytes_eq}
use Rattle.std.proofs.lemmas.Bool.{cond-false, cond-true}
use Rattle.std.proofs.lemmas.List.{map-append, take_more}
use Rattle.std.proofs.lemmas.List.Elements.{All-cons, All-head, All-nil, All-tail, filter_map-append}
use Rattle.std.proofs.lemmas.List.Kept.{AllPairs-cons}
use Rattle.std.proofs.lemmas.Slice.Eq.{bytes_eq-Decides}
use Rattle.fix_site.specs.declared.action.Action.{Action}
use Rattle.fix_site.specs.declared.block.Block.{Block}
use Rattle.fix_site.specs.declared.block.Block.TheVariants as block
use Rattle.fix_site.specs.declared.site.Site.{Site}
use Rattle.fix_site.specs.Blocks.{block_id}
use Rattle.fix_site.specs.Sites.{IsSite}
use Rattle.agent_attempt.specs.declared.read_block.ReadBlock.{ReadBlock}
use Rattle.agent_attempt.specs.declared.read_block.ReadBlock.TheVariants as read
use Rattle.agent_attempt.specs.ReadBlocks.{shown_block}
use Rattle.agent_attempt.specs.ActionContents.{actions_of, as_action, site_actions, site_at}
use Rattle.agent_state.specs.Changes.{with_site}
use Rattle.agent_state.specs.States.{AreGathered}
use Rattle.line_forms.proofs.Rising.{Rises, increasing_from_rises}

abbrev pub action_id : Action → ℕ
action_id action = action.id

-- the actions of one block more
pub actions_more : (blocks : List ReadBlock) (i : ℕ) (b : ReadBlock) → i < length blocks → b ≡ get_or blocks i b
    → filter_map as_action (map shown_block (take (i + 1) blocks)) ≡ filter_map as_action (map shown_block (take i blocks)) ++ cons_option (as_action (shown_block b)) []
actions_more blocks i b inside at =
    ap (λ l. filter_map as_action (map shown_block l)) (take_more blocks i b inside)
    ∙ ap (filter_map as_action) (map-append shown_block (take i blocks) (get_or blocks i b ∷ []))
    ∙ filter_map-append as_action (map shown_block (take i blocks)) (shown_block (get_or blocks i b) ∷ [])
    ∙ ap (λ x. filter_map as_action (map shown_block (take i blocks)) ++ cons_option (as_action (shown_block x)) []) (sym at)

-- a block that is no action adds none
pub actions_same : (blocks : List ReadBlock) (i : ℕ) (b : ReadBlock) → i < length blocks → b ≡ get_or blocks i b → ((action : Action) → b ≡ read.Action action → ⊥)
    → filter_map as_action (map shown_block (take (i + 1) blocks)) ≡ filter_map as_action (map shown_block (take i blocks))
actions_same blocks i b inside at other =
    let so_far = filter_map as_action (map shown_block (take i blocks)) in
    actions_more blocks i b inside at ∙ ap (λ l. so_far ++ l) (none b other) ∙ append-nil so_far
  where
    none : (b : ReadBlock) → ((action : Action) → b ≡ read.Action action → ⊥) → cons_option (as_action (shown_block b)) [] ≡ []
    none (read.Fixlet fixlet) other = refl
    none (read.Baseline baseline) other = refl
    none (read.Action action) other = absurd (other action refl)

-- ---- in ascending order of ids
-- before each action stand blocks of smaller ids
abbrev ActionsAscend : List Block → Type 0
ActionsAscend blocks = (before after : List Block) (action : Action) → blocks ≡ before ++ block.Action action ∷ after → All (λ other. block_id other < action.id) before

ascend_tail : (b : Block) (blocks : List Block) → ActionsAscend (b ∷ blocks) → ActionsAscend blocks
ascend_tail b blocks up before after action e = All-tail (λ other. block_id other < action.id) b before (up (b ∷ before) after action (ap (λ l. b ∷ l) e))

-- what holds of each action that is a block holds of all actions
pub all_actions : (P : Action → Type 0) (blocks : List Block) → ((before after : List Block) (action : Action) → blocks ≡ before ++ block.Action action ∷ after → P action)
    → All P (filter_map as_action blocks)
all_actions P [] each = All-nil P
all_actions P (block.Fixlet fixlet ∷ blocks) each = all_actions P blocks (λ before after action e. each (block.Fixlet fixlet ∷ before) after action (ap (λ l. block.Fixlet fixlet ∷ l) e))
all_actions P (block.Baseline baseline ∷ blocks) each = all_actions P blocks (λ before after action e. each (block.Baseline baseline ∷ before) after action (ap (λ l. block.Baseline baseline ∷ l) e))
all_actions P (block.Action a ∷ blocks) each =
    All-cons P a (filter_map as_action blocks) (each [] blocks a refl) (all_actions P blocks (λ before after action e. each (block.Action a ∷ before) after action (ap (λ l. block.Action a ∷ l) e)))

actions_rise : (blocks : List Block) → ActionsAscend blocks → Rises action_id (filter_map as_action blocks)
actions_rise [] up = λ i j d lt inside. absurd (omega arith)
actions_rise (block.Fixlet fixlet ∷ blocks) up = actions_rise blocks (ascend_tail (block.Fixlet fixlet) blocks up)
actions_rise (block.Baseline baseline ∷ blocks) up = actions_rise blocks (ascend_tail (block.Baseline baseline) blocks up)
actions_rise (block.Action a ∷ blocks) up =
    AllPairs-cons (λ x y. action_id x < action_id y) a (filter_map as_action blocks)
    (all_actions (λ action. a.id < action.id) blocks (λ before after action e. All-head (λ other. block_id other < action.id) (block.Action a) before
    (up (block.Action a ∷ before) after action (ap (λ l. block.Action a ∷ l) e))))
    (actions_rise blocks (ascend_tail (block.Action a) blocks up))

pub ids_increase : (site : Site) → IsSite site → IsStrictlyIncreasing (map action_id (filter_map as_action site.blocks))
ids_increase site is = increasing_from_rises action_id (filter_map as_action site.blocks) (actions_rise site.blocks (λ before after action e. (is.blocks before after (block.Action action) e).id))

-- ---- with a site at its name
pub site_at_own : (site : Site) (sites : List Site) → site_at site.name (with_site site sites) ≡ Some site
site_at_own site [] = cond-true (bytes_eq site.name site.name) (Some site) None ((bytes_eq-Decides site.name site.name).1 refl)
site_at_own site (x ∷ sites) = by_name (bytes_eq x.name site.name) refl (site_at_own site sites)
  where
    by_name : (b : Bool) → bytes_eq x.name site.name ≡ b → site_at site.name (with_site site sites) ≡ Some site → site_at site.name (cond b (site ∷ sites) (x ∷ with_site site sites)) ≡ Some site
    by_name true is next = cond-true (bytes_eq site.name site.name) (Some site) (site_at site.name sites) ((bytes_eq-Decides site.name site.name).1 refl)
    by_name false is next = cond-false (bytes_eq x.name site.name) (Some x) (site_at site.name (with_site site sites)) is ∙ next

-- another name has the site that it had
pub site_at_other : (name : List ℕ) (site : Site) (sites : List Site) → bytes_eq site.name name ≡ false → site_at name (with_site site sites) ≡ site_at name sites
site_at_other name site [] other = cond-false (bytes_eq site.name name) (Some site) None other
site_at_other name site (x ∷ sites) other = by_name (bytes_eq x.name site.name) refl (site_at_other name site sites other)
  where
    by_name : (b : Bool) → bytes_eq x.name site.name ≡ b → site_at name (with_site site sites) ≡ site_at name sites
        → site_at name (cond b (site ∷ sites) (x ∷ with_site site sites)) ≡ cond (bytes_eq x.name name) (Some x) (site_at name sites)
    by_name true is next =
        let same : x.name ≡ site.name = (bytes_eq-Decides x.name site.name).0 is in
        cond-false (bytes_eq site.name name) (Some site) (site_at name sites) other
        ∙ sym (cond-false (bytes_eq x.name name) (Some x) (site_at name sites) (ap (λ n. bytes_eq n name) same ∙ other))
    by_name false is next = ap (cond (bytes_eq x.name name) (Some x)) next

pub actions_of_own : (site : Site) (sites : List Site) → site.name ≡ codes "actionsite" → actions_of (with_site site sites) ≡ filter_map as_action site.blocks
actions_of_own site sites is = ap (λ name. site_actions (site_at name (with_site site sites))) (sym is) ∙ ap site_actions (site_at_own site sites)

pub actions_of_other : (site : Site) (sites : List Site) → bytes_eq site.name (codes "actionsite") ≡ false → actions_of (with_site site sites) ≡ actions_of sites
actions_of_other site sites other = ap site_actions (site_at_other (codes "actionsite") site sites other)

-- ---- what is gathered
same_name : (a b : List ℕ) → bytes_eq a b ≡ true → a ≡ b
same_name a b e = (bytes_eq-Decides a b).0 e

other_name : (a b : List ℕ) → bytes_eq a b ≡ false → b ≢ a
other_name a b e = λ is. let so : bytes_eq a b ≡ true = (bytes_eq-Decides a b).1 (sym is) in absurd (cc)

all_with : (P : Site → Type 0) (site : Site) (sites : List Site) → P site → All P sites → All P (with_site site sites)
all_with P site [] p all = All-cons P site [] p (All-nil P)
all_with P site (x ∷ sites) p all = by_name (bytes_eq x.name site.name) (all_with P site sites p (All-tail P x sites all))
  where
    by_name : (b : Bool) → All P (with_site site sites) → All P (cond b (site ∷ sites) (x ∷ with_site site sites))
    by_name true next = All-cons P site sites p (All-tail P x sites all)
    by_name false next = All-cons P x (with_site site sites) (All-head P x sites all) next

pub gathered_with : (site : Site) (sites : List Site) → IsSite site → AreGathered sites → AreGathered (with_site site sites)
gathered_with site [] good are = (good, All-nil (λ (other : Site). other.name ≢ site.name), tt)
gathered_with site (x ∷ sites) good are = by_name (bytes_eq x.name site.name) refl (gathered_with site sites good are.2)
  where
    by_name : (b : Bool) → bytes_eq x.name site.name ≡ b → AreGathered (with_site site sites) → AreGathered (cond b (site ∷ sites) (x ∷ with_site site sites))
    by_name true is next = (good, subst (λ name. All (λ (other : Site). other.name ≢ name) sites) (same_name x.name site.name is) are.1, are.2)
    by_name false is next = (are.0, all_with (λ (other : Site). other.name ≢ x.name) site sites (other_name x.name site.name is) are.1, next)

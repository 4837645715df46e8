-- Blocks gone over, one after another, for their pieces.
use Rattle.std.proofs.Common.{ℕ, ◌≡◌, ◌+◌, ◌-◌, ◌^◌, ◌≤◌, ◌<◌, List, length, get_or, take, ap, subst, arith, All, sym}
use Rattle.std.specs.Prelude.{flat_map, codes}
use Rattle.std.proofs.lemmas.List.Elements.{All-get_or}
use Rattle.std.proofs.lemmas.List.Folds.{length-flat_map-take}
use Rattle.fix_site.specs.declared.block.Block.{Block}
use Rattle.fix_site.specs.declared.block.Block.TheVariants.{Fixlet as fixlet_block, Baseline as baseline_block, Action as action_block}
use Rattle.fix_site.specs.declared.site.Site.{Site}
use Rattle.fix_site.specs.Blocks.{CanFollow, IsKindOf, block_lines}
use Rattle.fix_site.specs.Sites.{IsSite, site_lines}
use Rattle.fix_site.specs.Readings.{IsContent}
use Rattle.line_forms.proofs.Lasts.{each_all}
use Rattle.fix_site.proofs.PiecePlaces.{lines_step, site_length}

-- a block of a site that has no actions
content_of : (name : List ℕ) (block : Block) → ¬ (name ≡ codes "actionsite") → IsKindOf name block → IsContent block
content_of name (fixlet_block f) other kind = tt
content_of name (baseline_block b) other kind = tt
content_of name (action_block a) other kind = other kind

pub content_at : (site : Site) (items : List Block) (i : ℕ) (d : Block) → IsSite site → items ≡ site.blocks → i < length items → ¬ (site.name ≡ codes "actionsite") → d ≡ get_or items i d → IsContent d
content_at site items i d is same inside other here =
    let kinds = each_all (λ b. IsKindOf site.name b) (CanFollow site.name) (λ before v can. can.kind) site.blocks is.blocks in
    let K : List Block → Type 0 = All (λ b. IsKindOf site.name b) in
    let C : Block → Type 0 = IsContent in
    let kind = All-get_or (λ b. IsKindOf site.name b) items i d inside (subst K (sym same) kinds) in
    subst C (sym here) (content_of site.name (get_or items i d) other kind)

-- its lines have numbers of 32 bits
pub block_fits : (site : Site) (items : List Block) (i line : ℕ) (d : Block) → items ≡ site.blocks → i < length items → line ≡ 2 + length (flat_map block_lines (take i items)) → d ≡ get_or items i d → length (site_lines site) ≤ 2 ^ 32 - 1 →
    line + length (block_lines d) ≤ 2 ^ 32 - 1
block_fits site items i line d same inside at here most =
    let part = length-flat_map-take block_lines items i d inside in
    let all : length (flat_map block_lines items) ≡ length (flat_map block_lines site.blocks) = ap (λ (l : List Block). length (flat_map block_lines l)) same in
    let total = site_length site in
    let size : length (block_lines d) ≡ length (block_lines (get_or items i d)) = ap (λ (b : Block). length (block_lines b)) here in
    omega arith

pub line_behind : (items : List Block) (i at next : ℕ) (d : Block) → i < length items → at ≡ 2 + length (flat_map block_lines (take i items)) → d ≡ get_or items i d → next ≡ at + length (block_lines d) →
    next ≡ 2 + length (flat_map block_lines (take (i + 1) items))
line_behind items i at next d inside at_is here next_is =
    let step = lines_step i items d inside in
    let size : length (block_lines d) ≡ length (block_lines (get_or items i d)) = ap (λ (b : Block). length (block_lines b)) here in
    omega arith

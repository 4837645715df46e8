-- What actions run: fixlets and baselines of gathered sites.
use Rattle.std.specs.Prelude.{ℕ, ◌==◌, List, [], codes, Option, Some, None}
use Rattle.std.specs.List.{find, filter_map}
use Rattle.std.specs.Option.{option_and_then}
use Rattle.std.specs.Str.{bytes_eq}
use Rattle.fix_site.specs.declared.action.Action.{Action}
use Rattle.fix_site.specs.declared.fixlet.Fixlet.{Fixlet}
use Rattle.fix_site.specs.declared.block.Block.{Block}
use Rattle.fix_site.specs.declared.block.Block.TheVariants as block
use Rattle.fix_site.specs.declared.site.Site.{Site}
use Rattle.fix_site.specs.Blocks.{block_id}

-- a fixlet by itself, or a baseline: its own clauses, and the fixlets that are its components, in order
pub data Content : Type 0 where
  single : (fixlet : Fixlet) → Content
  group : (relevance : List (List ℕ)) (components : List Fixlet) → Content

-- the gathered site of a name
abbrev pub site_at : List ℕ → List Site → Option Site
site_at name sites = find (λ (site : Site). bytes_eq site.name name) sites

-- the block of an id
abbrev pub block_at : ℕ → List Block → Option Block
block_at id blocks = find (λ b. block_id b == id) blocks

-- a block that is a fixlet
abbrev pub as_fixlet : Block → Option Fixlet
as_fixlet (block.Fixlet fixlet) = Some fixlet
as_fixlet b = None

-- the fixlets of these ids
abbrev pub fixlets_at : List ℕ → List Block → List Fixlet
fixlets_at ids blocks = filter_map (λ id. option_and_then as_fixlet (block_at id blocks)) ids

-- what a block is to run, among the blocks of its site
abbrev pub block_content : List Block → Block → Option Content
block_content blocks (block.Fixlet fixlet) = Some (single fixlet)
block_content blocks (block.Baseline baseline) = Some (group baseline.relevance (fixlets_at baseline.components blocks))
block_content blocks (block.Action action) = None

-- the content of an id
abbrev pub content_at : ℕ → List Block → Option Content
content_at id blocks = option_and_then (block_content blocks) (block_at id blocks)

-- the content of an action, if it is gathered
abbrev pub content_of : Action → List Site → Option Content
content_of action sites = option_and_then (λ (site : Site). content_at action.content site.blocks) (site_at action.site sites)

-- a block that is an action
abbrev pub as_action : Block → Option Action
as_action (block.Action action) = Some action
as_action b = None

-- the actions of a site, if there is one
abbrev pub site_actions : Option Site → List Action
site_actions None = []
site_actions (Some site) = filter_map as_action site.blocks

-- the actions of the gathered site `actionsite`, in ascending order of ids
abbrev pub actions_of : List Site → List Action
actions_of sites = site_actions (site_at (codes "actionsite") sites)

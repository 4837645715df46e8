-- What lookups in a site answer whose texts were read, and the content that they find.
use Rattle.std.specs.Prelude.{◌≡◌, ℕ, List, MatchOption, Some, None}
use Rattle.std.specs.declared.option.Option.{Option}
use Rattle.std.specs.Option.{option_and_then}
use Rattle.fix_site.specs.declared.block.Block.{Block}
use Rattle.agent_attempt.specs.declared.read_block.ReadBlock.{ReadBlock}
use Rattle.fix_site.specs.declared.fixlet.Fixlet.{Fixlet}
use Rattle.agent_attempt.specs.declared.read_site.Content.{Content as ReadContent}
use Rattle.agent_attempt.specs.declared.read_site.Content.TheVariants as read
use Rattle.agent_attempt.specs.ReadBlocks.{shown_block}
use Rattle.agent_attempt.specs.ActionContents.{Content, single, group, as_fixlet, block_at, content_at, fixlets_at}
use denote.Ref.{Bor}

abbrev pub FindsBlock : ℕ → List Block → Option (Bor ReadBlock) → Type 0
FindsBlock id blocks answer = MatchOption answer (block_at id blocks ≡ None) (λ found. block_at id blocks ≡ Some (shown_block found.now))

abbrev pub FindsFixlet : ℕ → List Block → Option (Bor Fixlet) → Type 0
FindsFixlet id blocks answer =
    MatchOption answer (option_and_then as_fixlet (block_at id blocks) ≡ None)
    (λ found. option_and_then as_fixlet (block_at id blocks) ≡ Some found.now)

abbrev pub IsFixletOf : Block → Option (Bor Fixlet) → Type 0
IsFixletOf block answer = MatchOption answer (as_fixlet block ≡ None) (λ found. as_fixlet block ≡ Some found.now)

-- what a content of the code shows
abbrev pub shown_content : ReadContent → Content
shown_content (read.Fixlet fixlet) = single fixlet.now
shown_content (read.Baseline of_site) =
    group of_site.baseline.now.relevance (fixlets_at of_site.baseline.now.components of_site.site.now.blocks)

abbrev pub shown_if : Option ReadContent → Option Content
shown_if None = None
shown_if (Some content) = Some (shown_content content)

abbrev pub FindsContent : ℕ → List Block → Option ReadContent → Type 0
FindsContent id blocks answer = shown_if answer ≡ content_at id blocks

-- The pieces of a site: what is asked and what is run, each with the number of the line on which it begins.
use Rattle.std.specs.Prelude.{◌≡◌, ℕ, ◌+◌, ◌<◌, List, [], ◌∷◌, ◌++◌, length, map, ◌⊎◌}
use Rattle.line_forms.specs.Contents as held
use Rattle.fix_site.specs.declared.fixlet.Fixlet.{Fixlet}
use Rattle.fix_site.specs.declared.fixlet.Success.{Success}
use Rattle.fix_site.specs.declared.fixlet.Success.TheVariants as success
use Rattle.fix_site.specs.declared.block.Block.{Block}
use Rattle.fix_site.specs.declared.block.Block.TheVariants.{Fixlet as fixlet_block, Baseline as baseline_block, Action as action_block}
use Rattle.fix_site.specs.declared.piece.Piece.{Piece}
use Rattle.fix_site.specs.declared.piece.Piece.TheVariants as piece
use Rattle.fix_site.specs.declared.site.Site.{Site}
use Rattle.fix_site.specs.Contents.{relevance_line, success_line}
use Rattle.fix_site.specs.Blocks.{block_lines}

-- the questions of `relevance` lines, the first of which has this number
abbrev pub relevance_pieces : ℕ → List (List ℕ) → List Piece
relevance_pieces line [] = []
relevance_pieces line (question ∷ questions) = piece.Relevance line question ∷ relevance_pieces (line + 1) questions

-- the question of a `success clause`
abbrev pub success_pieces : ℕ → Success → List Piece
success_pieces line (success.Clause question) = piece.Relevance line question ∷ []
success_pieces line other = []

-- a script of one line or more
abbrev pub script_pieces : ℕ → List (List ℕ) → List Piece
script_pieces line [] = []
script_pieces line (first ∷ rest) = piece.Script line (first ∷ rest) ∷ []

-- the pieces of a fixlet whose first line has this number: its questions, `success`, its script
abbrev pub fixlet_pieces : ℕ → Fixlet → List Piece
fixlet_pieces line fixlet =
    let asked = line + 2 in
    let success = asked + length fixlet.relevance in
    relevance_pieces asked fixlet.relevance
    ++ (success_pieces success fixlet.success ++ script_pieces (success + 1) fixlet.script)

-- the pieces of a block whose first line has this number; an action has none
abbrev pub block_pieces : ℕ → Block → List Piece
block_pieces line (fixlet_block fixlet) = fixlet_pieces line fixlet
block_pieces line (baseline_block baseline) = relevance_pieces (line + 2) baseline.relevance
block_pieces line (action_block action) = []

-- the pieces of these blocks, the first line of which has this number
abbrev pub blocks_pieces : ℕ → List Block → List Piece
blocks_pieces line [] = []
blocks_pieces line (block ∷ blocks) =
    block_pieces line block ++ blocks_pieces (line + length (block_lines block)) blocks

-- the pieces of a site, whose blocks begin on its second line
abbrev pub pieces_of : Site → List Piece
pieces_of site = blocks_pieces 2 site.blocks

-- these lines, from line `number` on, are those of the piece
abbrev pub StandsAt : List (List ℕ) → ℕ → List (List ℕ) → Type 0
StandsAt lines number part =
    (before after : List (List ℕ)) × (lines ≡ before ++ (part ++ after)) × (number ≡ length before + 1)

-- the piece stands in the lines, where it says
abbrev pub IsPieceOf : List (List ℕ) → Piece → Type 0
IsPieceOf lines (piece.Relevance line question) =
    StandsAt lines line (relevance_line question ∷ [])
    ⊎ StandsAt lines line (success_line (success.Clause question) ∷ [])
IsPieceOf lines (piece.Script line script) =
    (0 < length script) × StandsAt lines line (map held.content_line script)

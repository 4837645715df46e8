-- The first lines of blocks, as the reader of blocks takes them. Only private functions cite these definitions.
use Rattle.std.specs.Prelude.{◌≡◌, ℕ, ◌<◌, List, ◌∷◌, ◌++◌, All, Contains, codes, decimal, MatchOption, ⊤}
use Rattle.std.specs.declared.option.Option.{Option}
use Rattle.line_forms.specs.Fields.{field_text}
use Rattle.line_forms.specs.LineStates.{LineState}
use Rattle.line_forms.specs.Numbers.{IsId}
use Rattle.fix_site.specs.declared.block.Block.{Block}
use Rattle.fix_site.specs.declared.block.Block.TheVariants.{Fixlet as fixlet_block, Baseline as baseline_block, Action as action_block}
use Rattle.fix_site.specs.declared.fixlet.Fixlet.{Fixlet}
use Rattle.fix_site.specs.declared.block_reader.Head.{Head}
use Rattle.fix_site.specs.declared.block_reader.Kind.{Kind}
use Rattle.fix_site.specs.declared.block_reader.Kind.TheVariants as kind
use Rattle.fix_site.specs.Actions.{action_line}
use Rattle.fix_site.specs.Contents.{fixlet_line, baseline_line}
use Rattle.fix_site.specs.Blocks.{block_id}
use Rattle.fix_site.specs.Readings.{IsFixletOf, IsBaselineOf, IsActionOf}

-- a site of this name has actions
abbrev pub IsActions : List ℕ → Type 0
IsActions name = name ≡ codes "actionsite"

-- a line of this word and an id is ahead, and the answer is its id and this kind
abbrev pub IsHeadAhead : Kind → List ℕ → LineState → Option Head → Type 0
IsHeadAhead kind word state answer =
    MatchOption answer
    ((id : ℕ) (more : List (List ℕ)) → IsId id → ¬ (state.lines ≡ (field_text word ++ decimal id) ∷ more))
    (λ head. (head.kind ≡ kind) × IsId head.id
    × ((more : List (List ℕ)) × (state.lines ≡ (field_text word ++ decimal head.id) ∷ more)))

-- the first line of a block with this head
abbrev pub head_line : Kind → ℕ → List ℕ
head_line kind.Fixlet id = fixlet_line id
head_line kind.Baseline id = baseline_line id
head_line kind.Action id = action_line id

-- a site of this name can have blocks of this kind
abbrev pub IsKindFor : List ℕ → Kind → Type 0
IsKindFor name kind.Action = IsActions name
IsKindFor name other = ¬ IsActions name

-- the first line of such a block is ahead, and the answer is its kind and id; or that of none is
abbrev pub FindsHead : List ℕ → LineState → Option Head → Type 0
FindsHead name state answer =
    MatchOption answer
    ((kind : Kind) (id : ℕ) (more : List (List ℕ)) → IsKindFor name kind → IsId id → ¬ (state.lines ≡ head_line kind id ∷ more))
    (λ head. IsKindFor name head.kind × IsId head.id
    × ((more : List (List ℕ)) × (state.lines ≡ head_line head.kind head.id ∷ more)))

-- behind these blocks there can be one of this kind and id, where the id is new
abbrev pub CanBegin : List Block → Kind → ℕ → Type 0
CanBegin blocks kind.Fixlet id = ⊤
CanBegin blocks kind.Baseline id = (fixlet : Fixlet) × Contains blocks (fixlet_block fixlet)
CanBegin blocks kind.Action id = All (λ other. block_id other < id) blocks

abbrev pub CanStand : List Block → Head → Type 0
CanStand blocks head = CanBegin blocks head.kind head.id

-- a block of this head that can stand behind these
abbrev pub IsBlockOf : List Block → Head → Block → Type 0
IsBlockOf blocks head (fixlet_block fixlet) = (head.kind ≡ kind.Fixlet) × IsFixletOf head.id fixlet
IsBlockOf blocks head (baseline_block baseline) = (head.kind ≡ kind.Baseline) × IsBaselineOf blocks head.id baseline
IsBlockOf blocks head (action_block action) = (head.kind ≡ kind.Action) × IsActionOf head.id action

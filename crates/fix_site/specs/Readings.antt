-- What the readers of lines and parts do. Only private functions cite these definitions.
use Rattle.std.specs.Prelude.{◌≡◌, ℕ, ◌+◌, ◌≤◌, ◌<◌, ℤ, List, [], ◌∷◌, ◌++◌, length, flat_map, All, decimal, IfSome, MatchOption, Bool, true, false, ⊤, None, Some, Ok, Err}
use Rattle.std.specs.declared.option.Option.{Option}
use Rattle.std.specs.declared.result.Result.{Result}
use Rattle.std.specs.Fmt.{signed_decimal}
use Rattle.desk_base.specs.Moments.{IsMoment}
use Rattle.line_forms.specs.LineStates.{LineState}
use Rattle.line_forms.specs.Lines.{lines_text}
use Rattle.line_forms.specs.Names.{IsName, IsLineText}
use Rattle.line_forms.specs.Numbers.{IsId}
use Rattle.line_forms.specs.Readers.{AreLinesOf, IsNotAhead, IsStuck, Passes, StopsAt}
use Rattle.fix_site.specs.declared.action.Action.{Action}
use Rattle.fix_site.specs.declared.action.Target.{Target}
use Rattle.fix_site.specs.declared.action_reader.ActionHead.{ActionHead}
use Rattle.fix_site.specs.declared.action_reader.ActionEnd.{ActionEnd}
use Rattle.fix_site.specs.declared.action.Target.TheVariants as target
use Rattle.fix_site.specs.declared.baseline.Baseline.{Baseline}
use Rattle.fix_site.specs.declared.block.Block.{Block}
use Rattle.fix_site.specs.declared.block.Block.TheVariants.{Action as action_block}
use Rattle.fix_site.specs.declared.error.SiteError.{SiteError}
use Rattle.fix_site.specs.declared.error.SiteError.TheVariants as error
use Rattle.fix_site.specs.declared.fixlet.Fixlet.{Fixlet}
use Rattle.fix_site.specs.declared.site_reader.Stated.{Stated}
use Rattle.fix_site.specs.RuleLines.{IsRules, rules_lines}
use Rattle.fix_site.specs.Actions.{IsAction, IsTarget, action_line, issued_line, content_line, members_line, computer_line, target_lines, state_line, end_line}
use Rattle.fix_site.specs.Contents.{IsFixlet, IsBaseline}
use Rattle.fix_site.specs.Blocks.{HasFixlet, IsKindOf, CanFollow, AreBlocks, HasId, block_id, id_line, block_lines}
use Rattle.fix_site.specs.Sites.{IsSite, IsDigestValue, AreSiteLines, EndsInTwiceId, lines_with}

-- such a value behind any others
abbrev pub Anywhere : {V : Type 0} → (V → Type 0) → List V → V → Type 0
Anywhere Is before value = Is value

-- a line of a script that has room behind these
pub record FitsScript (before : List (List ℕ)) (line : List ℕ) : Type 0 where
  pub good : IsLineText line
  pub few : length before < 10000
  pub short : length (lines_text before) + length line + 1 ≤ 262144

-- a line of a script where there are so many before it, which leave so many bytes
pub record FitsRoom (count room : ℕ) (line : List ℕ) : Type 0 where
  pub good : IsLineText line
  pub few : count < 10000
  pub short : length line < room

-- a moment or none
abbrev pub IsMaybeMoment : Option ℤ → Type 0
IsMaybeMoment moment = IfSome moment IsMoment

-- the fields of a name and an id, and of a count and a wait
abbrev pub named_fields : List ℕ → ℕ → List (List ℕ)
named_fields name id = name ∷ decimal id ∷ []

abbrev pub counted_fields : ℕ → ℤ → List (List ℕ)
counted_fields count wait = decimal count ∷ signed_decimal wait ∷ []

-- one of two lines
abbrev pub choice_line : List ℕ → List ℕ → Bool → List ℕ
choice_line first second true = second
choice_line first second false = first

-- what stands in an action's lines between its id and its target
pub record HeadValue : Type 0 where
  pub issued : ℤ
  pub site : List ℕ
  pub content : ℕ
  pub all_members : Bool

-- the values of a head, whose name is borrowed
abbrev pub head_value : ActionHead → HeadValue
head_value head =
    record { issued = head.issued; site = head.content.name.now; content = head.content.id; all_members = head.all_members }

-- values that can be spelled
pub record IsHead (head : HeadValue) : Type 0 where
  pub issued : IsMoment head.issued
  pub site : IsName head.site
  pub content : IsId head.content

-- the lines of an action between its id and its target
abbrev pub head_lines : HeadValue → List (List ℕ)
head_lines head =
    issued_line head.issued ∷ content_line head.site head.content ∷ members_line head.all_members ∷ []

-- The lines of the head were taken, or the cursor went on as far as those of a head go.
abbrev pub ReadsHead : LineState → LineState → Option ActionHead → Type 0
ReadsHead old new answer =
    MatchOption answer (IsStuck (AreLinesOf IsHead head_lines) old new)
    (λ head. IsHead (head_value head) × Passes old new (head_lines (head_value head)))

-- the lines behind its target
abbrev pub IsEnd : ActionEnd → Type 0
IsEnd end = IsRules end.rules

abbrev pub end_lines : ActionEnd → List (List ℕ)
end_lines end = rules_lines end.rules ++ state_line end.stopped ∷ end_line ∷ []

-- the lines of an action before its target
abbrev pub first_lines : Action → List (List ℕ)
first_lines action =
    action_line action.id ∷ issued_line action.issued ∷ content_line action.site action.content
    ∷ members_line action.all_members ∷ []

-- the target doesn't go on with the line ahead
abbrev pub IsTargetOver : Target → LineState → Type 0
IsTargetOver (target.Computers names) state = IsNotAhead IsName computer_line state
IsTargetOver other state = ⊤

-- The lines of the target were taken, and it doesn't go on; or those of no target are ahead.
abbrev pub TakesTarget : LineState → LineState → Option Target → Type 0
TakesTarget old new answer =
    MatchOption answer
    (Passes old new []
    × ((target : Target) (more : List (List ℕ)) → IsTarget target → ¬ (old.lines ≡ target_lines target ++ more)))
    (λ target. IsTarget target × Passes old new (target_lines target) × IsTargetOver target new)

-- contents and actions with this id, and baselines of fixlets among these blocks
abbrev pub IsFixletOf : ℕ → Fixlet → Type 0
IsFixletOf id fixlet = IsFixlet fixlet × (fixlet.id ≡ id)

abbrev pub IsBaselineOf : List Block → ℕ → Baseline → Type 0
IsBaselineOf before id baseline =
    IsBaseline baseline × All (HasFixlet before) baseline.components × (baseline.id ≡ id)

abbrev pub IsActionOf : ℕ → Action → Type 0
IsActionOf id action = IsAction action × (action.id ≡ id)

-- the id of a component that can stand in a baseline behind these blocks
abbrev pub IsComponent : List Block → ℕ → Type 0
IsComponent blocks id = IsId id × HasFixlet blocks id

-- a block that a site of this name can have, whose id stood before
abbrev pub IsTwice : List ℕ → List Block → Block → Type 0
IsTwice name blocks block = IsKindOf name block × HasId blocks (block_id block)

-- A block that can follow was taken, or the first line of none is ahead; a block's lines don't go on; the id stood before.
abbrev pub TakesBlock : List ℕ → List Block → LineState → LineState → Result (Option Block) SiteError → Type 0
TakesBlock name blocks old new (Ok (Some block)) = CanFollow name blocks block × Passes old new (block_lines block)
TakesBlock name blocks old new (Ok None) =
    (new ≡ old) × IsNotAhead (CanFollow name blocks) id_line old × IsNotAhead (IsTwice name blocks) id_line old
TakesBlock name blocks old new (Err (error.BadLine line)) =
    (line ≡ new.number)
    × ((before : List (List ℕ)) × (0 < length before) × Passes old new before
    × StopsAt (AreLinesOf (CanFollow name blocks) block_lines) before new)
TakesBlock name blocks old new (Err (error.TwiceId line)) =
    (line ≡ new.number) × (new ≡ old)
    × ((block : Block) × (more : List (List ℕ)) × IsTwice name blocks block × (old.lines ≡ id_line block ∷ more))
TakesBlock name blocks old new (Err error.Memory) = ⊤
TakesBlock name blocks old new (Err other) = ⊥

-- the line ahead has an id that stood before
abbrev pub IsTwiceAhead : List (List ℕ) → LineState → Type 0
IsTwiceAhead before state =
    (line : List ℕ) × (more : List (List ℕ)) × (state.lines ≡ line ∷ more) × EndsInTwiceId (before ++ line ∷ [])

-- The blocks were taken, and no other one is ahead; or the lines of a block don't go on, or its id stood before.
abbrev pub TakesBlocks : List ℕ → LineState → LineState → Result (List Block) SiteError → Type 0
TakesBlocks name old new (Ok blocks) =
    AreBlocks name blocks × Passes old new (flat_map block_lines blocks)
    × IsNotAhead (CanFollow name blocks) id_line new × IsNotAhead (IsTwice name blocks) id_line new
TakesBlocks name old new (Err error) =
    (blocks : List Block) × (mid : LineState)
    × AreBlocks name blocks × Passes old mid (flat_map block_lines blocks) × TakesBlock name blocks mid new (Err error)

-- A site and its digest were taken, or the cursor stands at the first line where no site goes on.
abbrev pub ReadsStated : LineState → LineState → Result Stated SiteError → Type 0
ReadsStated old new (Ok stated) =
    IsSite stated.site × IsDigestValue stated.digest × Passes old new (lines_with stated.site stated.digest)
ReadsStated old new (Err (error.BadLine line)) =
    (line ≡ new.number)
    × ((before : List (List ℕ)) × Passes old new before × StopsAt AreSiteLines before new × ¬ IsTwiceAhead before new)
ReadsStated old new (Err (error.TwiceId line)) =
    (line ≡ new.number)
    × ((before : List (List ℕ)) × Passes old new before × StopsAt AreSiteLines before new × IsTwiceAhead before new)
ReadsStated old new (Err error.Memory) = ⊤
ReadsStated old new (Err other) = ⊥

-- a fixlet or a baseline
abbrev pub IsContent : Block → Type 0
IsContent (action_block action) = ⊥
IsContent other = ⊤

-- How a round is made of parts, and a part of items.
use Rattle.std.specs.Prelude.{◌≡◌, ◌⊎◌, ℕ, List, [], ◌∷◌, ◌++◌, ⊤}
use Rattle.desk_rounds.specs.declared.asking.Miss.{Miss}
use Rattle.desk_rounds.specs.declared.asking.Miss.TheVariants as miss
use Rattle.desk_rounds.specs.declared.part.Next.{Next}
use Rattle.desk_rounds.specs.declared.part.Next.TheVariants as next
use Rattle.desk_rounds.specs.Lines.{Line, lines_text, miss_lines}

-- from what a round goes on to what comes next, the lines that are printed, and what it goes on then
abbrev pub Part : Type 0 → Type 1
Part S = S → Next → List Line → S → Type 0

-- the text of the lines was appended, unless memory ran out: then what was appended is of no use
abbrev pub Prints : Next → List Line → List ℕ → List ℕ → Type 0
Prints next.Memory lines before after = ⊤
Prints then lines before after = after ≡ before ++ lines_text lines

-- ---- items
-- what comes next where nothing came of a request: after an exchange that failed the next part, after a bad reply the next item
abbrev pub next_after : Miss → Next
next_after miss.NoAnswer = next.Part
next_after miss.BadAnswer = next.Item
next_after miss.Memory = next.Memory

-- Nothing came of a request. For its line there may be no memory.
abbrev pub MissedBy : Miss → Next → List Line → Type 0
MissedBy miss then lines = ((then ≡ next_after miss) × (lines ≡ miss_lines miss)) ⊎ ((then ≡ next.Memory) × (lines ≡ []))

-- a line was appended, and this comes next, or there was no memory for it. Only a private function cites this.
abbrev pub SaysLine : List ℕ → Next → Next → List ℕ → List ℕ → Type 0
SaysLine line wanted then before after = ((then ≡ wanted) × (after ≡ before ++ line)) ⊎ (then ≡ next.Memory)

-- this comes next, without a line
pub record GoesTo (wanted then : Next) (lines : List Line) : Type 0 where
  pub then_is : then ≡ wanted
  pub quiet : lines ≡ []

module _ {S : Type 0} where
  -- one item was done and printed, and then, unless the part or the round ended with it, the others are
  abbrev pub AfterItem : Next → List Line → Part S → Part S
  AfterItem next.Item said rest between then lines new = (more : List Line) × rest between then more new × (lines ≡ said ++ more)
  AfterItem one said rest between then lines new = (then ≡ one) × (lines ≡ said) × (new ≡ between)

  -- Items are done one after another, until one ends the part or the round.
  abbrev pub DoesEach : {T : Type 0} → (T → Part S) → List T → Part S
  DoesEach does [] old then lines new = (then ≡ next.Item) × (lines ≡ []) × (new ≡ old)
  DoesEach does (item ∷ items) old then lines new =
      (one : Next) × (said : List Line) × (between : S) × does item old one said between
      × AfterItem one said (DoesEach does items) between then lines new

  -- ---- parts
  -- one part was done and printed, and then, unless the round ended with it, another is
  abbrev pub AfterPart : Next → List Line → Part S → Part S
  AfterPart next.Memory said rest between then lines new = (then ≡ next.Memory) × (lines ≡ said) × (new ≡ between)
  AfterPart one said rest between then lines new = (more : List Line) × rest between then more new × (lines ≡ said ++ more)

  -- One part is done, and then another, whatever came of the first but for want of memory.
  abbrev pub DoesBoth : Part S → Part S → Part S
  DoesBoth First Second old then lines new =
      (one : Next) × (said : List Line) × (between : S) × First old one said between × AfterPart one said Second between then lines new

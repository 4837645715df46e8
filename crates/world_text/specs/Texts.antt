-- World texts.
use Rattle.std.specs.Prelude.{◌≡◌, ℕ, ℤ, List, [], ◌∷◌, ◌++◌, codes, ⊤}
use Rattle.std.specs.declared.result.Result.{Result}
use Rattle.std.specs.declared.result.Result.TheVariants.{Ok, Err}
use Rattle.line_forms.specs.BadLines.{AnswersBadLine}
use Rattle.line_forms.specs.Fields.{IsFirstField}
use Rattle.line_forms.specs.Names.{IsName, IsRest}
use Rattle.line_forms.specs.Numbers.{IsMomentText, IsOffsetText}
use Rattle.line_forms.specs.Versions.{IsVersion}
use Rattle.bf_world.specs.Worlds.{WorldState}
use Rattle.line_forms.specs.LineStates.{lines_of, unended_of}
use Rattle.world_text.specs.declared.draft.Draft.{Draft}
use Rattle.world_text.specs.declared.error.WorldError.{WorldError}
use Rattle.world_text.specs.declared.error.WorldError.TheVariants.{BadLine, Memory}
use Rattle.world_text.specs.Drafts.{world_of, just}
use Rattle.world_text.specs.Rows.{AddsAll}

-- what the head of a world text says
pub record Head : Type 0 where
  pub name : List ℕ
  pub version : List ℕ
  pub system : List ℕ
  pub offset : ℤ
  pub moment : ℤ

-- a world with nothing on it but its head
abbrev pub bare : Head → WorldState
bare head = record {
  name = head.name;
  system = head.system;
  version = head.version;
  offset = head.offset;
  moment = head.moment;
  paths = [];
  packages = [];
  processes = [];
  settings = [];
  programs = [];
  started = [];
}

-- `name NAME`
abbrev pub IsNameLine : List ℕ → List ℕ → Type 0
IsNameLine line name = IsName name × IsFirstField line (codes "name") name

-- `system VERSION REST`
abbrev pub IsSystemLine : List ℕ → List ℕ → List ℕ → Type 0
IsSystemLine line version system =
    (rest : List ℕ) × IsFirstField line (codes "system") rest × IsFirstField rest version system
    × IsVersion version × IsRest system

-- `offset N`
abbrev pub IsOffsetLine : List ℕ → ℤ → Type 0
IsOffsetLine line offset = (field : List ℕ) × IsFirstField line (codes "offset") field × IsOffsetText field offset

-- `moment N`
abbrev pub IsMomentLine : List ℕ → ℤ → Type 0
IsMomentLine line moment = (field : List ℕ) × IsFirstField line (codes "moment") field × IsMomentText field moment

-- the lines of a head
pub record IsHead (lines : List (List ℕ)) (head : Head) : Type 0 where
  pub name : List ℕ
  pub system : List ℕ
  pub offset : List ℕ
  pub moment : List ℕ
  pub lines_are : lines ≡ codes "world" ∷ name ∷ system ∷ offset ∷ moment ∷ []
  pub name_is : IsNameLine name head.name
  pub system_is : IsSystemLine system head.version head.system
  pub offset_is : IsOffsetLine offset head.offset
  pub moment_is : IsMomentLine moment head.moment

-- The lines describe the world: a head, lines that each add something, and `end`.
pub record Describes (lines : List (List ℕ)) (w : WorldState) : Type 0 where
  pub first : List (List ℕ)
  pub rows : List (List ℕ)
  pub head : Head
  pub last : Draft
  pub lines_are : lines ≡ first ++ rows ++ codes "end" ∷ []
  pub head_is : IsHead first head
  pub adds : AddsAll (just (bare head)) rows last
  pub world_is : w ≡ world_of last

-- the lines describe some world
abbrev pub AreWorldLines : List (List ℕ) → Type 0
AreWorldLines lines = (w : WorldState) × Describes lines w

-- The answer is the one world that the text describes, or else the number of its first bad line.
abbrev pub ReadsWorld : List ℕ → Result WorldState WorldError → Type 0
ReadsWorld text (Ok w) =
    (unended_of text ≡ []) × Describes (lines_of text) w × ((other : WorldState) → Describes (lines_of text) other → other ≡ w)
ReadsWorld text (Err (BadLine n)) = AnswersBadLine AreWorldLines text n
ReadsWorld text (Err Memory) = ⊤

-- the lines describe a world of this name
abbrev pub AreNamedLines : List ℕ → List (List ℕ) → Type 0
AreNamedLines name lines = (w : WorldState) × Describes lines w × (w.name ≡ name)

-- The same answer, where the world is to have this name: the line of another name is bad.
abbrev pub ReadsNamedWorld : List ℕ → List ℕ → Result WorldState WorldError → Type 0
ReadsNamedWorld name text (Ok w) = ReadsWorld text (Ok w) × (w.name ≡ name)
ReadsNamedWorld name text (Err (BadLine n)) = AnswersBadLine (AreNamedLines name) text n
ReadsNamedWorld name text (Err Memory) = ⊤

-- The lines between a world's head and its `end`, and what each adds to the world.
use Rattle.std.specs.Prelude.{◌≡◌, ℕ, ℤ, IsTrue, ◌⊎◌, List, [], ◌∷◌, ◌++◌, codes, None}
use Rattle.line_forms.specs.Contents.{IsContentLine}
use Rattle.line_forms.specs.Fields.{IsFirstField}
use Rattle.line_forms.specs.Lines.{ended_line}
use Rattle.line_forms.specs.Names.{IsName, IsRest}
use Rattle.line_forms.specs.Numbers.{IsNumber, IsMomentText}
use Rattle.line_forms.specs.Paths.{IsPath}
use Rattle.line_forms.specs.Versions.{IsVersion}
use Rattle.bf_world.specs.declared.parts.Node.TheVariants as node
use Rattle.bf_world.specs.declared.parts.Program.{Program}
use Rattle.bf_world.specs.Maps.{at, put}
use Rattle.bf_world.specs.Places.{node_at, has_parent, with_node}
use Rattle.bf_world.specs.Worlds.{WorldState}
use Rattle.world_text.specs.declared.draft.Draft.{Draft}
use Rattle.world_text.specs.declared.draft.Pending.TheVariants as pending
use Rattle.world_text.specs.declared.kind.Kind.{Kind}
use Rattle.world_text.specs.declared.kind.Kind.TheVariants as kind
use Rattle.world_text.specs.Drafts.{world_of, just}

-- the word with which a line begins, before a space and its fields
abbrev pub keyword : Kind → List ℕ
keyword kind.Folder = codes "folder"
keyword kind.File = codes "file"
keyword kind.Package = codes "package"
keyword kind.Process = codes "process"
keyword kind.Setting = codes "setting"
keyword kind.Program = codes "program"
keyword kind.Gives = codes "gives"

-- a path at which nothing is, and whose folder is there
pub record IsNewPath (w : WorldState) (path : List ℕ) : Type 0 where
  pub form : IsPath path
  pub absent : node_at w path ≡ None
  pub parent : IsTrue (has_parent w path)

-- `folder PATH`
pub record AddsFolder (w : WorldState) (rest : List ℕ) (new : Draft) : Type 0 where
  pub path : IsNewPath w rest
  pub new_is : new ≡ just (with_node rest node.Folder w)

-- `file MOMENT PATH`
pub record AddsFile (w : WorldState) (rest : List ℕ) (new : Draft) : Type 0 where
  pub field : List ℕ
  pub path : List ℕ
  pub moment : ℤ
  pub fields : IsFirstField rest field path
  pub moment_is : IsMomentText field moment
  pub path_is : IsNewPath w path
  pub new_is : new ≡ record { world = w; pending = pending.File path [] moment }

-- `package VERSION REST`
pub record AddsPackage (w : WorldState) (rest : List ℕ) (new : Draft) : Type 0 where
  pub version : List ℕ
  pub name : List ℕ
  pub fields : IsFirstField rest version name
  pub version_is : IsVersion version
  pub name_is : IsRest name
  pub absent : at name w.packages ≡ None
  pub new_is : new ≡ just (record w { packages = put name version w.packages })

-- `process REST`
pub record AddsProcess (w : WorldState) (rest : List ℕ) (new : Draft) : Type 0 where
  pub name_is : IsRest rest
  pub absent : at rest w.processes ≡ None
  pub new_is : new ≡ just (record w { processes = put rest tt w.processes })

-- `setting MOMENT NAME REST`
pub record AddsSetting (w : WorldState) (rest : List ℕ) (new : Draft) : Type 0 where
  pub field : List ℕ
  pub more : List ℕ
  pub name : List ℕ
  pub value : List ℕ
  pub date : ℤ
  pub first : IsFirstField rest field more
  pub fields : IsFirstField more name value
  pub date_is : IsMomentText field date
  pub name_is : IsName name
  pub value_is : IsRest value
  pub absent : at name w.settings ≡ None
  pub new_is : new ≡ just (record w { settings = put name (record { value = value; date = date }) w.settings })

-- `program POLLS EXIT REST`
pub record AddsProgram (w : WorldState) (rest : List ℕ) (new : Draft) : Type 0 where
  pub field : List ℕ
  pub more : List ℕ
  pub code : List ℕ
  pub line : List ℕ
  pub polls : ℕ
  pub exit : ℕ
  pub first : IsFirstField rest field more
  pub fields : IsFirstField more code line
  pub polls_is : IsNumber 1000000 field polls
  pub exit_is : IsNumber 255 code exit
  pub line_is : IsRest line
  pub absent : at line w.programs ≡ None
  pub new_is : new ≡ record { world = w; pending = pending.Program line (record { polls = polls; exit = exit; gives = [] }) }

-- `gives VERSION REST`, behind the line of a program or another such line
pub record AddsGives (d : Draft) (rest : List ℕ) (new : Draft) : Type 0 where
  pub line : List ℕ
  pub program : Program
  pub version : List ℕ
  pub name : List ℕ
  pub pending_is : d.pending ≡ pending.Program line program
  pub fields : IsFirstField rest version name
  pub version_is : IsVersion version
  pub name_is : IsRest name
  pub new_is : new ≡ record d { pending = pending.Program line (record program { gives = program.gives ++ record { name = name; version = version } ∷ [] }) }

-- a content line, behind the line of a file or another such line
pub record AddsContent (d : Draft) (line : List ℕ) (new : Draft) : Type 0 where
  pub path : List ℕ
  pub before : List ℕ
  pub modified : ℤ
  pub content : List ℕ
  pub pending_is : d.pending ≡ pending.File path before modified
  pub content_is : IsContentLine line content
  pub new_is : new ≡ record d { pending = pending.File path (before ++ ended_line content) modified }

-- what a line adds by its fields, which follow its word
abbrev pub AddsFields : Kind → Draft → List ℕ → Draft → Type 0
AddsFields kind.Folder d rest new = AddsFolder (world_of d) rest new
AddsFields kind.File d rest new = AddsFile (world_of d) rest new
AddsFields kind.Package d rest new = AddsPackage (world_of d) rest new
AddsFields kind.Process d rest new = AddsProcess (world_of d) rest new
AddsFields kind.Setting d rest new = AddsSetting (world_of d) rest new
AddsFields kind.Program d rest new = AddsProgram (world_of d) rest new
AddsFields kind.Gives d rest new = AddsGives d rest new

-- a line of a kind: its word, a space and its fields
pub record AddsRow (d : Draft) (line : List ℕ) (new : Draft) : Type 0 where
  pub kind : Kind
  pub rest : List ℕ
  pub fields : IsFirstField line (keyword kind) rest
  pub adds : AddsFields kind d rest new

-- what a line adds
abbrev pub Adds : Draft → List ℕ → Draft → Type 0
Adds d line new = AddsContent d line new ⊎ AddsRow d line new

-- what some lines add, one after another
abbrev pub AddsAll : Draft → List (List ℕ) → Draft → Type 0
AddsAll d [] new = new ≡ d
AddsAll d (line ∷ lines) new = (next : Draft) × Adds d line next × AddsAll next lines new

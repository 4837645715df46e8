-- What the readers of lines and fields do. Only private functions cite these definitions.
use Rattle.std.specs.Prelude.{◌≡◌, ◌≢◌, ℕ, ℤ, List, [], ◌∷◌, ◌++◌, codes, MatchOption, Bool, true, false, ⊤, None, Some}
use Rattle.std.specs.declared.option.Option.{Option}
use Rattle.std.specs.declared.result.Result.{Result}
use Rattle.std.specs.declared.result.Result.TheVariants.{Ok, Err}
use Rattle.std.specs.Fmt.{signed_decimal}
use Rattle.line_forms.specs.Fields.{field_text, IsFirstField}
use Rattle.line_forms.specs.Lines.{ended_line}
use Rattle.line_forms.specs.LineStates.{LineState}
use Rattle.line_forms.specs.Names.{IsName, IsRest}
use Rattle.line_forms.specs.Readers.{IsStuck, Passes}
use Rattle.line_forms.specs.Versions.{IsVersion}
use Rattle.bf_world.specs.declared.answer.PackageRow.{PackageRow}
use Rattle.bf_world.specs.declared.parts.Program.{Program}
use Rattle.bf_world.specs.Worlds.{WorldState}
use Rattle.world_text.specs.declared.draft.Draft.{Draft}
use Rattle.world_text.specs.declared.draft.Pending.{Pending}
use Rattle.world_text.specs.declared.draft.Pending.TheVariants as pending
use Rattle.world_text.specs.declared.fault.Fault.{Fault}
use Rattle.world_text.specs.declared.fault.Fault.TheVariants.{Bad, Memory}
use Rattle.world_text.specs.declared.head.HeadText.{HeadText}
use Rattle.world_text.specs.declared.fields.Versioned.{Versioned}
use Rattle.world_text.specs.Drafts.{world_of, just, IsSoundPending}
use Rattle.world_text.specs.Rows.{Adds, AddsAll}
use Rattle.world_text.specs.Texts.{Head, IsHead, IsSystemLine, AreWorldLines, Describes}

-- the lines of a head that are its word, a space and one field
abbrev pub name_line : List ℕ → List ℕ
name_line name = field_text (codes "name") ++ name

abbrev pub offset_line : ℤ → List ℕ
offset_line offset = field_text (codes "offset") ++ signed_decimal offset

abbrev pub moment_line : ℤ → List ℕ
moment_line moment = field_text (codes "moment") ++ signed_decimal moment

-- the first line and the last
abbrev pub world_line : List ℕ
world_line = codes "world"

abbrev pub end_line : List ℕ
end_line = codes "end"

-- the line ahead, if there is one other than the last
abbrev pub IsRowAhead : LineState → Option (List ℕ) → Type 0
IsRowAhead state answer =
    MatchOption answer ((line : List ℕ) (more : List (List ℕ)) → state.lines ≡ line ∷ more → line ≡ end_line)
    (λ line. (more : List (List ℕ)) × (state.lines ≡ line ∷ more) × (line ≢ end_line))

-- The line of the operating system was ahead and was taken, or it isn't ahead.
abbrev pub TakesSystem : LineState → LineState → Option Versioned → Type 0
TakesSystem old new answer =
    MatchOption answer
    ((new ≡ old) × ((line version system : List ℕ) (more : List (List ℕ)) → old.lines ≡ line ∷ more → ¬ IsSystemLine line version system))
    (λ s. (line : List ℕ) × IsSystemLine line s.version.now s.name.now × Passes old new (line ∷ []))

-- what the head's texts say
abbrev pub head_of : HeadText → Head
head_of h = record { name = h.name.now; version = h.version.now; system = h.system.now; offset = h.offset; moment = h.moment }

-- The lines of a head were taken, or the cursor went on as far as those of a world go.
abbrev pub ReadsHead : LineState → LineState → Option HeadText → Type 0
ReadsHead old new None = IsStuck AreWorldLines old new
ReadsHead old new (Some h) = (first : List (List ℕ)) × IsHead first (head_of h) × Passes old new first

-- a line or its fields were added; or nothing can be
abbrev pub Takes : (Draft → Type 0) → Draft → Result (Unit {0}) Fault → Type 0
Takes Is new (Ok done) = Is new
Takes Is new (Err Bad) = (other : Draft) → ¬ Is other
Takes Is new (Err Memory) = ⊤

-- the same of a world, with what is pending behind it
abbrev pub TakesPending : (Draft → Type 0) → WorldState → Result Pending Fault → Type 0
TakesPending Is new (Ok p) = Is (record { world = new; pending = p })
TakesPending Is new (Err Bad) = (other : Draft) → ¬ Is other
TakesPending Is new (Err Memory) = ⊤

-- a line of content is added to the file that is pending
abbrev pub ContentAt : Draft → List ℕ → Draft → Type 0
ContentAt d content new =
    (path : List ℕ) × (before : List ℕ) × (modified : ℤ) × (d.pending ≡ pending.File path before modified)
    × (new ≡ record d { pending = pending.File path (before ++ ended_line content) modified })

-- the texts are two fields of the text, and what follows them
abbrev pub AreThree : List ℕ → List ℕ → List ℕ → List ℕ → Type 0
AreThree text first second rest = (more : List ℕ) × IsFirstField text first more × IsFirstField more second rest

-- a version, and a name behind it, as of a package
abbrev pub IsVersioned : List ℕ → List ℕ → List ℕ → Type 0
IsVersioned text version name = IsFirstField text version name × IsVersion version × IsRest name

-- the program gives one package more
abbrev pub Gives : Program → PackageRow → Program → Result (Unit {0}) Fault → Type 0
Gives old row new (Ok done) = new ≡ record old { gives = old.gives ++ row ∷ [] }
Gives old row new (Err Bad) = ⊥
Gives old row new (Err Memory) = ⊤

-- lines were taken that were added one after another
pub record HasRows (first : Draft) (old : LineState) (new : LineState) (last : Draft) : Type 0 where
  pub rows : List (List ℕ)
  pub passes : Passes old new rows
  pub adds : AddsAll first rows last

-- what is added can't go on with the line ahead: it isn't the last one, and adds nothing
abbrev pub IsBadRow : Draft → LineState → Type 0
IsBadRow d state =
    (line : List ℕ) (more : List (List ℕ)) → state.lines ≡ line ∷ more → (line ≢ end_line) × ((next : Draft) → ¬ Adds d line next)

-- Lines were added up to the last one. Or some were added, and the next one is bad.
abbrev pub ReadsRows : Draft → LineState → LineState → Draft → Result (Unit {0}) Fault → Type 0
ReadsRows first old new last (Ok done) =
    HasRows first old new last × IsSoundPending last.pending
    × ((line : List ℕ) (more : List (List ℕ)) → new.lines ≡ line ∷ more → line ≡ end_line)
ReadsRows first old new last (Err Bad) = (d : Draft) × HasRows first old new d × IsBadRow d new
ReadsRows first old new last (Err Memory) = ⊤

-- Lines were added, and the last one was taken. Or some were added, and no world goes on there.
abbrev pub ReadsBody : Draft → LineState → LineState → Draft → Result (Unit {0}) Fault → Type 0
ReadsBody first old new last (Ok done) =
    (d : Draft) × (mid : LineState) × HasRows first old mid d × Passes mid new (end_line ∷ []) × (last ≡ just (world_of d))
ReadsBody first old new last (Err fault) = ReadsRows first old new last (Err fault)

-- The lines of the world that is answered were taken, or the cursor went on as far as those of a world go.
abbrev pub ReadsLines : LineState → LineState → Result WorldState Fault → Type 0
ReadsLines old new (Ok w) = (lines : List (List ℕ)) × Describes lines w × Passes old new lines
ReadsLines old new (Err Bad) = IsStuck AreWorldLines old new
ReadsLines old new (Err Memory) = ⊤

-- The line of another name is ahead, behind the first line. Or no line of another name stands there.
abbrev pub HasOtherName : List ℕ → LineState → LineState → Bool → Type 0
HasOtherName name old new true =
    Passes old new (world_line ∷ [])
    × ((other : List ℕ) × (more : List (List ℕ)) × IsName other × (other ≢ name) × (new.lines ≡ name_line other ∷ more))
HasOtherName name old new false =
    (other : List ℕ) (more : List (List ℕ)) → IsName other → old.lines ≡ world_line ∷ name_line other ∷ more → other ≡ name

-- The words `analysis`, `group`, `measure`, `members` and `target`.
use Rattle.std.specs.Prelude.{◌≡◌, ◌≢◌, ◌⊎◌, ℕ, ℤ, if◌then◌else◌, List, [], ◌∷◌, ◌++◌, length, map, flat_map, codes, decimal, Some}
use Rattle.std.specs.Fmt.{signed_decimal}
use Rattle.std.specs.Str.{bytes_eq}
use Rattle.line_forms.specs.Lines.{lines_text}
use Rattle.line_forms.specs.LineStates.{lines_of}
use Rattle.bf_machine.specs.Views.{MachineView}
use Rattle.fix_site.specs.Actions as action
use Rattle.group_text.specs.declared.analysis.Analysis.{Analysis}
use Rattle.group_text.specs.declared.group.Group.{Group}
use Rattle.group_text.specs.declared.property.Property.{Property}
use Rattle.group_text.specs.Properties.{AreProperties}
use Rattle.group_sample.specs.declared.analyst.Taken.{Taken}
use Rattle.group_sample.specs.declared.analyst.Taken.TheVariants as taken
use Rattle.group_sample.specs.Due.{AnalystState}
use Rattle.group_sample.specs.Samples.{Takes}
use Rattle.group_core.specs.declared.book.Added.{Added}
use Rattle.group_core.specs.declared.book.Added.TheVariants as added
use Rattle.group_core.specs.declared.book.Defined.{Defined}
use Rattle.group_core.specs.declared.book.Defined.TheVariants as defined
use Rattle.group_core.specs.declared.book.PutAnswer.TheVariants as put
use Rattle.group_core.specs.Books.{AddsAnalysis, BookState, DefinesGroup, HasGroup, HasMembers, PutsSample}
use Rattle.server_text.specs.declared.request.Request.TheVariants as request
use Rattle.delivery.specs.Messages.{named}
use Rattle.office_rules.specs.ComputerWords.{devices_of}
use Rattle.office_rules.specs.Deeds.{Deed}
use Rattle.office_rules.specs.Offices.{Office, PlayedComputer, with_computer}
use Rattle.office_rules.specs.OfficeLines.{about_line, nothing_line, words_line}
use Rattle.office_rules.specs.ServerWords.{AsksServer}

-- ---- analysis, group
-- the words for what became of an analysis, where memory wasn't wanting
abbrev pub added_words : Added → List (List ℕ)
added_words added.Ok = codes "ok" ∷ []
added_words added.Again = codes "again" ∷ []
added_words (added.Taken name) = codes "taken" ∷ name ∷ []
added_words (added.Full limit) = codes "full" ∷ decimal limit ∷ []
added_words added.Memory = []

-- the same of a group
abbrev pub defined_words : Defined → List (List ℕ)
defined_words defined.Ok = codes "ok" ∷ []
defined_words defined.Again = codes "again" ∷ []
defined_words (defined.Full limit) = codes "full" ∷ decimal limit ∷ []
defined_words defined.Memory = []

-- The book gets an analysis, whose properties have distinct names and each a question; memory isn't wanting, and what became of it is
-- printed.
pub record KeepsAnalysis (analysis : Analysis) (old : Office) (said : List ℕ) (new : Office) : Type 0 where
  pub good : AreProperties analysis.properties
  pub answer : Added
  pub book : BookState
  pub adds : AddsAnalysis old.book analysis answer book
  pub memory : answer ≢ added.Memory
  pub said_is : said ≡ about_line (codes "analysis" ∷ []) (added_words answer)
  pub new_is : new ≡ record old { book = book }

-- The book gets a group.
pub record KeepsGroup (group : Group) (old : Office) (said : List ℕ) (new : Office) : Type 0 where
  pub answer : Defined
  pub book : BookState
  pub defines : DefinesGroup old.book group answer book
  pub memory : answer ≢ defined.Memory
  pub said_is : said ≡ about_line (codes "group" ∷ []) (defined_words answer)
  pub new_is : new ≡ record old { book = book }

-- ---- measure
-- how many rows were taken, none where there is no sample
abbrev pub rows_taken : Taken → ℕ
rows_taken (taken.Sample sample) = length sample.rows
rows_taken taken.Nothing = 0
rows_taken taken.Memory = 0

-- what was taken is put into the book
abbrev pub PutsTaken : BookState → Taken → BookState → Type 0
PutsTaken old (taken.Sample sample) new = (count : ℕ) × PutsSample old sample (put.Changed count) new
PutsTaken old taken.Nothing new = new ≡ old
PutsTaken old taken.Memory new = ⊥

-- The analyst of a computer measures these properties on its machine, at a moment and the offset of its world. No look fails.
pub record MeasuresComputer (moment : ℤ) (properties : List Property) (old : PlayedComputer) (answer : Taken) (new : PlayedComputer)
    : Type 0 where
  pub told : MachineView
  pub analyst : AnalystState
  pub takes : Takes (devices_of old).machine old.analyst properties moment old.world.offset answer told analyst
  pub faults : told.faults ≡ 0
  pub new_is : new ≡ record old { analyst = analyst }

-- A computer is measured, and what was taken is put into the book. Printed is how many rows that has.
pub record Measures (name : List ℕ) (moment : ℤ) (old : Office) (said : List ℕ) (new : Office) : Type 0 where
  pub computer : PlayedComputer
  pub measured : PlayedComputer
  pub answer : Taken
  pub book : BookState
  pub here : named name old.computers ≡ Some computer
  pub measures : MeasuresComputer moment old.book.properties computer answer measured
  pub puts : PutsTaken old.book answer book
  pub said_is : said ≡ about_line (codes "measure" ∷ name ∷ signed_decimal moment ∷ [])
      (decimal (rows_taken answer) ∷ codes "rows" ∷ [])
  pub new_is : new ≡ record (with_computer name measured old) { book = book }

-- ---- members
-- a member of a group
abbrev pub member_line : List ℕ → List ℕ → List ℕ
member_line group computer = words_line (codes "member" ∷ group ∷ computer ∷ [])

-- the members of a group, and how many there are
abbrev pub members_lines : List ℕ → List (List ℕ) → List ℕ
members_lines group members =
    flat_map (member_line group) members ++ about_line (codes "members" ∷ group ∷ []) (decimal (length members) ∷ [])

-- The members of the group of this name are printed, or that none has it.
abbrev pub SaysMembers : List ℕ → Deed
SaysMembers name old said new =
    (new ≡ old)
    × (((members : List (List ℕ)) × HasMembers old.book name members × (said ≡ members_lines name members))
    ⊎ ((¬ HasGroup old.book.groups name) × (said ≡ nothing_line (codes "members" ∷ name ∷ []))))

-- ---- target
-- the line of an action for all computers
abbrev pub all_line : List ℕ
all_line = codes "target all"

-- lines of an action, of which the first that is for all computers has become one for each of these
abbrev pub aimed_lines : List (List ℕ) → List (List ℕ) → List (List ℕ)
aimed_lines computers [] = []
aimed_lines computers (line ∷ lines) =
    if bytes_eq line all_line then map action.computer_line computers ++ lines else line ∷ aimed_lines computers lines

-- the text of an action that is aimed at these computers
abbrev pub aimed : List (List ℕ) → List ℕ → List ℕ
aimed computers text = lines_text (aimed_lines computers (lines_of text))

-- no group has the name, or the one that has it has no member
abbrev pub HasNoMember : BookState → List ℕ → Type 0
HasNoMember book name = (¬ HasGroup book.groups name) ⊎ HasMembers book name []

-- The server is asked to act on the members of the group of this name; where it has none, nothing is done.
abbrev pub TargetsGroup : List ℕ → List ℕ → Deed
TargetsGroup name text old said new =
    (HasNoMember old.book name × (said ≡ nothing_line (codes "target" ∷ [])) × (new ≡ old))
    ⊎ ((first : List ℕ) × (more : List (List ℕ)) × HasMembers old.book name (first ∷ more)
    × AsksServer (codes "target") (request.Act (aimed (first ∷ more) text)) old said new)

-- The lines of an order: the first one, which has its word, and those behind it.
use Rattle.std.specs.Prelude.{◌≡◌, ℕ, List, [], ◌∷◌, ◌++◌, map, All, Contains, codes, decimal}
use Rattle.std.specs.Fmt.{signed_decimal}
use Rattle.line_forms.specs.Contents.{content_line}
use Rattle.line_forms.specs.FieldLists.{line_of}
use Rattle.line_forms.specs.Fields.{field_text}
use Rattle.line_forms.specs.Lines.{lines_text}
use Rattle.line_forms.specs.Names.{IsLineText}
use Rattle.world_text.specs.Texts.{Describes}
use Rattle.group_text.specs.Analyses.{IsAnalysis}
use Rattle.group_text.specs.Groups.{IsGroup, group_line}
use Rattle.office_text.specs.declared.order.Order.{Order}
use Rattle.office_text.specs.declared.order.Order.TheVariants as order

-- the fields of the first line: the word, and what it is about
abbrev pub first_fields : Order → List (List ℕ)
first_fields (order.Publish text) = codes "publish" ∷ []
first_fields (order.Act text) = codes "act" ∷ []
first_fields (order.Stop id) = codes "stop" ∷ decimal id ∷ []
first_fields (order.File bytes) = codes "file" ∷ []
first_fields (order.Relay name) = codes "relay" ∷ name ∷ []
first_fields (order.Computer name relay world) = codes "computer" ∷ name ∷ relay ∷ []
first_fields (order.Gather relay) = codes "gather" ∷ relay ∷ []
first_fields (order.Turn name moment) = codes "turn" ∷ name ∷ signed_decimal moment ∷ []
first_fields (order.Restart name) = codes "restart" ∷ name ∷ []
first_fields (order.Send name seq) = codes "send" ∷ name ∷ decimal seq ∷ []
first_fields (order.Push relay) = codes "push" ∷ relay ∷ []
first_fields (order.Deliver message) = codes "deliver" ∷ decimal message ∷ []
first_fields (order.Report name) = codes "report" ∷ name ∷ []
first_fields (order.Forward relay) = codes "forward" ∷ relay ∷ []
first_fields (order.Forget relay) = codes "forget" ∷ relay ∷ []
first_fields (order.Analysis analysis) = codes "analysis" ∷ []
first_fields (order.Group group) = codes "group" ∷ group.name ∷ []
first_fields (order.Measure name moment) = codes "measure" ∷ name ∷ signed_decimal moment ∷ []
first_fields (order.Members group) = codes "members" ∷ group ∷ []
first_fields (order.Target group text) = codes "target" ∷ group ∷ []

-- the first line
abbrev pub first_line : Order → List ℕ
first_line order = line_of (first_fields order)

-- the last line of a site begins with its word, whatever follows
abbrev pub IsSiteEnd : List ℕ → Type 0
IsSiteEnd line = (rest : List ℕ) × (line ≡ field_text (codes "digest") ++ rest)

-- the last line of an action, of a file, of a world and of the office
abbrev pub IsEnd : List ℕ → Type 0
IsEnd line = line ≡ codes "end"

-- the last of these lines is such a line, and no other is
pub record EndsAt (IsLast : List ℕ → Type 0) (lines : List (List ℕ)) : Type 0 where
  pub others : List (List ℕ)
  pub last : List ℕ
  pub lines_are : lines ≡ others ++ last ∷ []
  pub last_is : IsLast last
  pub others_are : All (λ line. ¬ IsLast line) others

-- these lines are the text, up to its last line
abbrev pub AreTextTo : (List ℕ → Type 0) → List ℕ → List (List ℕ) → Type 0
AreTextTo IsLast text lines = EndsAt IsLast lines × (text ≡ lines_text lines)

-- each of these lines holds a line of the content, but for the last
abbrev pub HoldContent : List ℕ → List (List ℕ) → Type 0
HoldContent bytes lines =
    (contents : List (List ℕ)) × All IsLineText contents × (bytes ≡ lines_text contents)
    × (lines ≡ map content_line contents ++ codes "end" ∷ [])

-- these lines are the text of an action up to its `end`, and before that the line for all computers stands
abbrev pub AreTargetLines : List ℕ → List (List ℕ) → Type 0
AreTargetLines text lines = AreTextTo IsEnd text lines × Contains lines (codes "target all")

-- The lines behind the first one. Those of an analysis, and of a group, are its text with that line.
abbrev pub IsBody : Order → List (List ℕ) → Type 0
IsBody (order.Publish text) lines = AreTextTo IsSiteEnd text lines
IsBody (order.Act text) lines = AreTextTo IsEnd text lines
IsBody (order.File bytes) lines = HoldContent bytes lines
IsBody (order.Computer name relay world) lines = Describes lines world × (world.name ≡ name)
IsBody (order.Analysis analysis) lines = IsAnalysis analysis (codes "analysis" ∷ lines)
IsBody (order.Group group) lines = IsGroup group (group_line group.name ∷ lines)
IsBody (order.Target group text) lines = AreTargetLines text lines
IsBody other lines = lines ≡ []

-- the lines of these orders, one order after another
abbrev pub AreLinesOf : List Order → List (List ℕ) → Type 0
AreLinesOf [] lines = lines ≡ []
AreLinesOf (order ∷ orders) lines =
    (body : List (List ℕ)) × (more : List (List ℕ)) × IsBody order body × AreLinesOf orders more
    × (lines ≡ first_line order ∷ body ++ more)

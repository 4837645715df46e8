-- What the readers of orders do. Only private functions cite these definitions.
use Rattle.std.specs.Prelude.{◌≡◌, ℕ, ◌<◌, List, [], ◌∷◌, ◌++◌, length, map, All, MatchOption, codes, ⊤, Some, None, Bool, true, false}
use Rattle.std.specs.declared.option.Option.{Option}
use Rattle.std.specs.declared.result.Result.{Result}
use Rattle.std.specs.Prelude.{Ok, Err}
use Rattle.line_forms.specs.Contents.{content_line}
use Rattle.line_forms.specs.FieldLists.{line_of}
use Rattle.line_forms.specs.LineStates.{LineState, lines_of}
use Rattle.line_forms.specs.BadLines.{AnswersBadLine}
use Rattle.line_forms.specs.Fields.{field_text}
use Rattle.line_forms.specs.Lines.{StandsBehind, lines_text}
use Rattle.line_forms.specs.Names.{IsName, IsLineText}
use Rattle.line_forms.specs.Readers.{IsAny, IsNotAhead, IsStuck, Passes, StopsAt, EachCan}
use Rattle.group_text.specs.declared.error.GroupError.{GroupError}
use Rattle.group_text.specs.declared.error.GroupError.TheVariants as refused
use Rattle.group_text.specs.Analyses.{AreAnalysisLines, IsAnalysis}
use Rattle.group_text.specs.Groups.{AreGroupLines, IsGroup, group_line}
use Rattle.group_text.specs.Properties.{AreProperties}
use Rattle.office_text.specs.declared.order.Order.{Order}
use Rattle.office_text.specs.declared.order.Order.TheVariants as order
use Rattle.office_text.specs.declared.error.OfficeError.{OfficeError}
use Rattle.office_text.specs.declared.error.OfficeError.TheVariants.{BadLine, Memory}
use Rattle.office_text.specs.declared.word.Word.{Word}
use Rattle.office_text.specs.declared.word.Word.TheVariants as word
use Rattle.office_text.specs.declared.text_reader.Last.{Last}
use Rattle.office_text.specs.declared.text_reader.Last.TheVariants as last
use Rattle.office_text.specs.declared.text_reader.Taken.{Taken}
use Rattle.office_text.specs.declared.computer_reader.Names.{Names}
use Rattle.office_text.specs.declared.book_reader.Entry.{Entry}
use Rattle.office_text.specs.declared.book_reader.Entry.TheVariants as entry
use Rattle.office_text.specs.Orders.{CanFollow, HasRelay, HasComputer}
use Rattle.office_text.specs.OrderLines.{first_fields, first_line, IsBody, AreLinesOf, IsSiteEnd, IsEnd, EndsAt}

-- the cursor stands in some text
abbrev pub IsInText : LineState → Type 0
IsInText state = (text : List ℕ) × (before : List (List ℕ)) × StandsBehind text before state

-- the word of an order that is one line
abbrev pub keyword : Word → List ℕ
keyword word.Stop = codes "stop"
keyword word.Relay = codes "relay"
keyword word.Gather = codes "gather"
keyword word.Turn = codes "turn"
keyword word.Restart = codes "restart"
keyword word.Send = codes "send"
keyword word.Push = codes "push"
keyword word.Deliver = codes "deliver"
keyword word.Report = codes "report"
keyword word.Forward = codes "forward"
keyword word.Forget = codes "forget"
keyword word.Measure = codes "measure"
keyword word.Members = codes "members"

-- an order of one line that can follow these
abbrev pub IsShort : List Order → Order → Type 0
IsShort before order = CanFollow before order × IsBody order []

-- The field ahead was taken, and it is that of the answer; or it is that of no such value.
abbrev pub TakesField : {V : Type 0} → (V → Type 0) → (V → List ℕ) → List (List ℕ) → List (List ℕ) → Option V → Type 0
TakesField {V} Is text_of old new answer =
    MatchOption answer ((value : V) (more : List (List ℕ)) → Is value → ¬ (old ≡ text_of value ∷ more))
    (λ value. Is value × (old ≡ text_of value ∷ new))

-- a name as it stands in a field
abbrev pub itself : List ℕ → List ℕ
itself name = name

-- names that can stand in the orders behind these
abbrev pub IsNewRelay : List Order → List ℕ → Type 0
IsNewRelay before name = IsName name × (¬ HasRelay before name)

abbrev pub IsRelay : List Order → List ℕ → Type 0
IsRelay before name = IsName name × HasRelay before name

abbrev pub IsNewComputer : List Order → List ℕ → Type 0
IsNewComputer before name = IsName name × (¬ HasComputer before name)

abbrev pub IsComputer : List Order → List ℕ → Type 0
IsComputer before name = IsName name × HasComputer before name

-- The fields behind a word were taken, and with it they are those of the order; or they begin those of no such order.
abbrev pub TakesArguments : List Order → Word → List (List ℕ) → List (List ℕ) → Option Order → Type 0
TakesArguments before word old new answer =
    MatchOption answer
    ((order : Order) (more : List (List ℕ)) → IsShort before order → ¬ (keyword word ∷ old ≡ first_fields order ++ more))
    (λ order. IsShort before order × (keyword word ∷ old ≡ first_fields order ++ new))

-- the last line of a text
abbrev pub IsLast : Last → List ℕ → Type 0
IsLast last.Digest line = IsSiteEnd line
IsLast last.End line = IsEnd line

-- lines up to the last one of their text; or none of them is that, and no line is left
abbrev pub HaveEnded : Last → LineState → List (List ℕ) → Bool → Type 0
HaveEnded last new lines true = EndsAt (IsLast last) lines
HaveEnded last new lines false = All (λ line. ¬ IsLast last line) lines × (new.lines ≡ [])

-- These lines were taken as one text.
abbrev pub TakesTo : Last → LineState → LineState → Taken → Type 0
TakesTo last old new taken =
    (lines : List (List ℕ)) × Passes old new lines × (taken.text ≡ lines_text lines) × HaveEnded last new lines taken.ended

-- The lines of the answer were taken, or the cursor went on as far as those of such a text go.
abbrev pub TakesBody : (List ℕ → List (List ℕ) → Type 0) → LineState → LineState → Option (List ℕ) → Type 0
TakesBody AreOf old new answer =
    MatchOption answer (IsStuck (λ lines. (text : List ℕ) × AreOf text lines) old new)
    (λ text. (lines : List (List ℕ)) × AreOf text lines × Passes old new lines)

-- content that was taken as far as it goes
abbrev pub TakesContent : LineState → LineState → List ℕ → Type 0
TakesContent old new bytes =
    (contents : List (List ℕ)) × All IsLineText contents × (bytes ≡ lines_text contents)
    × Passes old new (map content_line contents) × IsNotAhead IsLineText content_line new

-- the lines of an order that can follow these
abbrev pub AreNextLines : List Order → List (List ℕ) → Type 0
AreNextLines before lines =
    (order : Order) × (body : List (List ℕ)) × CanFollow before order × IsBody order body × (lines ≡ first_line order ∷ body)

-- Of the lines ahead some begin one of the set, and with the line of this number they begin none.
abbrev pub IsBadAt : (List (List ℕ) → Type 0) → LineState → ℕ → Type 0
IsBadAt AreGood old number =
    (bad : LineState) × (before : List (List ℕ)) × (0 < length before) × Passes old bad before × StopsAt AreGood before bad
    × (number ≡ bad.number)

-- The lines of an order were taken; or this is so of the line ahead, and nothing was taken; or its lines go on to this line.
abbrev pub TakesOr : Type 0 → List Order → LineState → LineState → Result (Option Order) OfficeError → Type 0
TakesOr IsNone before old new (Ok (Some order)) =
    (body : List (List ℕ)) × CanFollow before order × IsBody order body × Passes old new (first_line order ∷ body)
TakesOr IsNone before old new (Ok None) = (new ≡ old) × IsNone
TakesOr IsNone before old new (Err (BadLine number)) = IsBadAt (AreNextLines before) old number
TakesOr IsNone before old new (Err Memory) = ⊤

-- an order that is one of these, can follow those before, and has lines
pub record IsNext (Is : Order → Type 0) (before : List Order) (order : Order) : Type 0 where
  pub is : Is order
  pub can : CanFollow before order
  pub body : List (List ℕ)
  pub body_is : IsBody order body

-- The lines of such an order were taken, or the first line of none is ahead, or its lines go on to this line.
abbrev pub TakesOneOf : (Order → Type 0) → List Order → LineState → LineState → Result (Option Order) OfficeError → Type 0
TakesOneOf Is before old new answer = TakesOr (IsNotAhead (IsNext Is before) first_line old) before old new answer

-- the same of any order
abbrev pub TakesOrder : List Order → LineState → LineState → Result (Option Order) OfficeError → Type 0
TakesOrder before old new answer = TakesOneOf IsAny before old new answer

-- the same of a site, an action and a file
abbrev pub HasText : Order → Type 0
HasText (order.Publish text) = ⊤
HasText (order.Act text) = ⊤
HasText (order.File bytes) = ⊤
HasText other = ⊥

abbrev pub TakesWithText : List Order → LineState → LineState → Result (Option Order) OfficeError → Type 0
TakesWithText before old new answer = TakesOneOf HasText before old new answer

-- the same of an analysis and a group
abbrev pub IsEntry : Order → Type 0
IsEntry (order.Analysis analysis) = ⊤
IsEntry (order.Group group) = ⊤
IsEntry other = ⊥

abbrev pub TakesEntry : List Order → LineState → LineState → Result (Option Order) OfficeError → Type 0
TakesEntry before old new answer = TakesOneOf IsEntry before old new answer

-- the first line of an entry
abbrev pub IsFirstLine : Entry → List ℕ → Type 0
IsFirstLine entry.Analysis line = line ≡ codes "analysis"
IsFirstLine entry.Group line = (name : List ℕ) × IsName name × (line ≡ group_line name)

-- what is given by the lines ahead, if the first of them is that of an analysis or of a group
abbrev pub FindsEntry : LineState → Option Entry → Type 0
FindsEntry state answer =
    MatchOption answer (((more : List (List ℕ)) → ¬ (state.lines ≡ codes "analysis" ∷ more)) × IsNotAhead IsName group_line state)
    (λ entry. (line : List ℕ) × (more : List (List ℕ)) × IsFirstLine entry line × (state.lines ≡ line ∷ more))

-- the lines are those of some entry of this sort
abbrev pub AreEntryLines : Entry → List (List ℕ) → Type 0
AreEntryLines entry.Analysis lines = AreAnalysisLines lines
AreEntryLines entry.Group lines = AreGroupLines lines

-- they are those of this entry
abbrev pub IsEntryOf : Entry → Order → List (List ℕ) → Type 0
IsEntryOf entry.Analysis (order.Analysis analysis) lines = IsAnalysis analysis lines × AreProperties analysis.properties
IsEntryOf entry.Group (order.Group group) lines = IsGroup group lines
IsEntryOf sort other lines = ⊥

-- The answer is the entry whose text this is, or else the number of its first bad line.
abbrev pub ReadsEntry : Entry → List ℕ → Result Order GroupError → Type 0
ReadsEntry sort text (Ok order) = IsEntryOf sort order (lines_of text)
ReadsEntry sort text (Err (refused.BadAnalysis line)) = AnswersBadLine (AreEntryLines sort) text line
ReadsEntry sort text (Err (refused.BadGroup line)) = AnswersBadLine (AreEntryLines sort) text line
ReadsEntry sort text (Err refused.Memory) = ⊤

-- the same as of any order, of an action for the members of a group
abbrev pub IsTarget : Order → Type 0
IsTarget (order.Target group text) = ⊤
IsTarget other = ⊥

abbrev pub TakesTarget : List Order → LineState → LineState → Result (Option Order) OfficeError → Type 0
TakesTarget before old new answer = TakesOneOf IsTarget before old new answer

-- a word and a name
abbrev pub named_line : List ℕ → List ℕ → List ℕ
named_line word name = field_text word ++ name

-- the name behind the word on the line ahead, which has nothing else
abbrev pub FindsName : List ℕ → LineState → Option (List ℕ) → Type 0
FindsName word state answer =
    MatchOption answer (IsNotAhead IsName (named_line word) state)
    (λ name. IsName name × ((more : List (List ℕ)) × (state.lines ≡ named_line word name ∷ more)))

-- the same of a computer
abbrev pub computer_line : List ℕ × List ℕ → List ℕ
computer_line names = line_of (codes "computer" ∷ names.0 ∷ names.1 ∷ [])

abbrev pub AreNewNames : List Order → List ℕ × List ℕ → Type 0
AreNewNames before names = IsNewComputer before names.0 × IsRelay before names.1

abbrev pub TakesComputer : List Order → LineState → LineState → Result (Option Order) OfficeError → Type 0
TakesComputer before old new answer = TakesOr (IsNotAhead (AreNewNames before) computer_line old) before old new answer

-- orders whose lines were taken
pub record HasOrders (old : LineState) (new : LineState) (orders : List Order) : Type 0 where
  pub lines : List (List ℕ)
  pub each : EachCan CanFollow orders
  pub are : AreLinesOf orders lines
  pub passes : Passes old new lines

-- The orders were taken, and the first line of no other is ahead; or the lines of an order go on to this line.
abbrev pub TakesOrders : LineState → LineState → Result (List Order) OfficeError → Type 0
TakesOrders old new (Ok orders) = HasOrders old new orders × IsNotAhead (IsNext IsAny orders) first_line new
TakesOrders old new (Err (BadLine number)) =
    (orders : List Order) × (mid : LineState) × HasOrders old mid orders × IsBadAt (AreNextLines orders) mid number
TakesOrders old new (Err Memory) = ⊤

-- the names on the line ahead, if it is that of a computer that can follow these orders
abbrev pub FindsNames : List Order → LineState → Option Names → Type 0
FindsNames before state answer =
    MatchOption answer (IsNotAhead (AreNewNames before) computer_line state)
    (λ names. AreNewNames before (names.computer.now, names.relay.now)
    × ((more : List (List ℕ)) × (state.lines ≡ computer_line (names.computer.now, names.relay.now) ∷ more)))

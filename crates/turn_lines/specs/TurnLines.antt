-- What is written of a turn.
use Rattle.std.specs.Prelude.{ℕ, ◌==◌, ℤ, Bool, true, false, if◌then◌else◌, List, [], ◌++◌, codes, decimal, Option, Some, None}
use Rattle.std.specs.Fmt.{signed_decimal}
use Rattle.hex.specs.Hex.{encode_lower}
use Rattle.line_forms.specs.Lines.{ended_line}
use Rattle.rel_lexer.specs.declared.place.Place.{Place}
use Rattle.bf_world.specs.Reasons.{reason_name}
use Rattle.rel_trace.specs.Kinds.{number_of}
use Rattle.script_run.specs.declared.cause.Cause.{Cause}
use Rattle.script_run.specs.declared.cause.Cause.TheVariants.{Relevance, Refused, WrongSize, WrongDigest, NotServed}
use Rattle.script_run.specs.Causes.{cause_number}
use Rattle.agent_attempt.specs.declared.went.Fail.{Fail}
use Rattle.agent_core.specs.declared.turned.Turned.{Turned}
use Rattle.agent_core.specs.declared.turned.Turned.TheVariants.{Idle, Interrupted, Held, Wants, Ended, MachineFault, PocketFault, Memory}
use Rattle.turn_lines.specs.DoLines.{spaced}

-- where an attempt is held or failed: the component of a baseline, which a fixlet by itself hasn't, and the line, also where that is 0
unfoldable pub in_component : ℕ → List ℕ
in_component component = codes " in component " ++ decimal component

abbrev pub component_text : ℕ → List ℕ
component_text component = if component == 0 then [] else in_component component

unfoldable pub place_text : ℕ → ℕ → List ℕ
place_text component line = component_text component ++ codes " at line " ++ decimal line

-- a place in the text between the braces, without brackets
unfoldable pub span_text : Place → List ℕ
span_text place = decimal place.from ++ codes ".." ++ decimal place.to

-- what is known beside the number of a cause: the kind of an error and its place, a reason, what is stated and what was found, a digest.
-- Of the others nothing is, and then no space stands there.
abbrev pub detail_text : Cause → List ℕ
detail_text (Relevance kind place) = spaced (decimal (number_of kind)) ++ spaced (span_text place)
detail_text (Refused reason) = spaced (reason_name reason)
detail_text (WrongSize stated found) = spaced (decimal stated) ++ spaced (decimal found)
detail_text (WrongDigest stated found) = spaced stated ++ spaced found
detail_text (NotServed digest) = spaced (encode_lower digest)
detail_text cause = []

-- the number of a cause, and what is known beside it
unfoldable pub cause_text : Cause → List ℕ
cause_text cause = codes " cause " ++ decimal (cause_number cause) ++ detail_text cause

-- whether the attempt began in this turn, and its action
abbrev pub begun_text : Bool → List ℕ
begun_text true = codes "began "
begun_text false = codes "went on "

unfoldable pub attempt_text : Bool → ℕ → List ℕ
attempt_text began id = begun_text began ++ decimal id

-- the last attempt of this action ended, which had been broken off
unfoldable pub interrupted_text : ℕ → List ℕ
interrupted_text id = codes "interrupted " ++ decimal id

-- the attempt is held, and where
unfoldable pub held_text : Bool → ℕ → ℕ → ℕ → List ℕ
held_text began id component line = attempt_text began id ++ codes ", held" ++ place_text component line

-- it wants a file, and which
unfoldable pub wants_text : Bool → ℕ → List ℕ → List ℕ
wants_text began id digest = attempt_text began id ++ codes ", wants " ++ encode_lower digest

-- it ended, and where and why it failed
unfoldable pub failed_text : Fail → List ℕ
failed_text fail = codes ", failed" ++ place_text fail.component fail.line ++ cause_text fail.cause

-- it ended, as fixed where nothing failed
abbrev pub end_text : Option Fail → List ℕ
end_text None = codes ", fixed"
end_text (Some fail) = failed_text fail

unfoldable pub ended_text : Bool → ℕ → Option Fail → List ℕ
ended_text began id fail = attempt_text began id ++ end_text fail

-- what a turn came to. A fault of the pocket and want of memory have no line.
abbrev pub turn_text : Turned → List ℕ
turn_text Idle = codes "idle"
turn_text (Interrupted id) = interrupted_text id
turn_text (Held id began component line) = held_text began id component line
turn_text (Wants id began digest) = wants_text began id digest
turn_text (Ended id began outcome fail) = ended_text began id fail
turn_text MachineFault = codes "machine fault"
turn_text PocketFault = []
turn_text Memory = []

abbrev pub has_line : Turned → Bool
has_line PocketFault = false
has_line Memory = false
has_line answer = true

-- whose turn it was, and at which moment
unfoldable pub head_text : List ℕ → ℤ → List ℕ
head_text computer moment = codes "turn " ++ computer ++ spaced (signed_decimal moment) ++ codes ": "

-- the line of a turn of this computer at this moment, where it has one
abbrev pub turn_line : List ℕ → ℤ → Turned → List ℕ
turn_line computer moment answer =
    if has_line answer then ended_line (head_text computer moment ++ turn_text answer) else []

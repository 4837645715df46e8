-- What is good in a piece of a site, and what it is refused for.
use Rattle.std.specs.Prelude.{◌≡◌, ◌⊎◌, ℕ, ◌+◌, ◌-◌, true, false, List, Option, Some, None, Ok, Err}
use Rattle.rel_lexer.specs.declared.place.Place.{Place}
use Rattle.rel_value.specs.Plain.{booleans}
use Rattle.rel_types.specs.Plans.{PlainNode, is_plural, kind_of}
use Rattle.rel_types.specs.Alike.{same_kind}
use Rattle.rel_trace.specs.declared.kind.RelKind.{RelKind}
use Rattle.rel_trace.specs.declared.kind.RelKind.TheVariants.{NotDefined, NotSingular, Incompatible}
use Rattle.rel_nodes.specs.Spans.{span_of_node}
use Rattle.rel_eval.specs.Questions.{Reading, question, refused, undefined, Reads}
use Rattle.script_text.specs.declared.error.ScriptError.{ScriptError}
use Rattle.script_text.specs.declared.error.ScriptError.TheVariants as error
use Rattle.script_text.specs.Scripts.{PlainScript, IsVerdict}
use Rattle.fix_site.specs.declared.piece.Piece.{Piece}
use Rattle.fix_site.specs.declared.piece.Piece.TheVariants as piece
use Rattle.site_check.specs.declared.refusal.PieceRefusal.{PieceRefusal}
use Rattle.site_check.specs.declared.refusal.PieceRefusal.TheVariants as refusal
use Rattle.site_check.specs.declared.refusal.QuestionFault.{QuestionFault}
use Rattle.site_check.specs.declared.refusal.ScriptFault.{ScriptFault}
use Rattle.site_check.specs.declared.refusal.ScriptFault.TheVariants as script

-- a plan that gives one value, a truth
pub record IsTruth (plan : PlainNode) : Type 0 where
  pub singular : is_plural plan ≡ false
  pub boolean : same_kind (kind_of plan) booleans ≡ true

-- a plan that may give several values, or one of another kind, and the fault that this is
abbrev pub IsNoTruth : PlainNode → RelKind → Type 0
IsNoTruth plan kind =
    ((is_plural plan ≡ true) × (kind ≡ NotSingular))
    ⊎ ((is_plural plan ≡ false) × (same_kind (kind_of plan) booleans ≡ false) × (kind ≡ Incompatible))

-- the text is a question, which is singular and Boolean
abbrev pub AsksTruth : List ℕ → Type 0
AsksTruth text = (plan : PlainNode) × Reads text (question plan) × IsTruth plan

-- what was read is refused for this, at this place: as it was read, or at the whole of a question that asks for no truth
abbrev pub IsWrongReading : Reading → RelKind → Place → Type 0
IsWrongReading (question plan) kind place = IsNoTruth plan kind × (place ≡ span_of_node plan)
IsWrongReading (refused fault at) kind place = (kind ≡ fault) × (place ≡ at)
IsWrongReading (undefined at words) kind place = (kind ≡ NotDefined) × (place ≡ at)

-- the text asks for no truth, for this fault at this place
abbrev pub IsWrongQuestion : List ℕ → RelKind → Place → Type 0
IsWrongQuestion text kind place = (reading : Reading) × Reads text reading × IsWrongReading reading kind place

-- the text asks for one truth where nothing is wrong with it, and otherwise is wrong so
abbrev pub JudgesQuestion : List ℕ → Option QuestionFault → Type 0
JudgesQuestion text None = AsksTruth text
JudgesQuestion text (Some fault) = IsWrongQuestion text fault.kind fault.place

-- a line of a script in the text that holds it, where its first line has this number
abbrev pub line_in_text : ℕ → ℕ → ℕ
line_in_text first line = first - 1 + line

-- the error of a script with this fault, at this line of it
abbrev pub script_error : ScriptFault → ℕ → ScriptError
script_error script.NoCommand line = error.NoCommand line
script_error script.IfNotClosed line = error.IfNotClosed line
script_error script.StrayElse line = error.StrayElse line
script_error script.BraceNotClosed line = error.BraceNotClosed line
script_error script.CreateNotClosed line = error.CreateNotClosed line

-- a question that is singular and Boolean, or a script
abbrev pub IsGoodPiece : Piece → Type 0
IsGoodPiece (piece.Relevance line text) = AsksTruth text
IsGoodPiece (piece.Script line lines) = (script : PlainScript) × IsVerdict lines (Ok script)

-- the piece is refused so: its question, or its script at this line of the site
abbrev pub IsRefusedPiece : Piece → PieceRefusal → Type 0
IsRefusedPiece (piece.Relevance line text) (refusal.Question at fault) = (at ≡ line) × IsWrongQuestion text fault.kind fault.place
IsRefusedPiece (piece.Script line lines) (refusal.Script at fault) =
    (own : ℕ) × IsVerdict lines (Err (script_error fault own)) × (at ≡ line_in_text line own)
IsRefusedPiece piece refusal = ⊥

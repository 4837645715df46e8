-- What the functions do that read lines.
use Rattle.std.specs.Prelude.{◌≡◌, ℕ, Bool, not, ◌||◌, ◌==◌, List, [], ◌∷◌, ◌++◌, reverse, Option, Some, None, Result, Ok, Err, ⊤}
use Rattle.script_text.specs.declared.kind.Kind.{Kind}
use Rattle.script_text.specs.declared.kind.Kind.TheVariants as kind
use Rattle.script_text.specs.declared.piece.Ending.{Ending}
use Rattle.script_text.specs.declared.piece.Ending.TheVariants as ending
use Rattle.script_text.specs.declared.template.Part2.{Part2}
use Rattle.script_text.specs.Bytes.{Each, is_blank, StopsAt}
use Rattle.script_text.specs.Templates.{AreParts, IsOpened, IsAtEnd, HasNoEnd, HasOpenBrace}
use Rattle.script_text.specs.declared.error.Refusal.{Refusal}
use Rattle.script_text.specs.declared.error.Refusal.TheVariants as refusal
use Rattle.script_text.specs.declared.error.ScriptError.{ScriptError}
use Rattle.script_text.specs.declared.error.ScriptError.TheVariants as error
use Rattle.script_text.specs.declared.script.Script.{Script}
use Rattle.script_text.specs.Items.{Item, brace_open, absent, IsTaken}
use Rattle.script_text.specs.Forms.{Form, Words, one, two, no_command, brace_not_closed}
use Rattle.script_text.specs.Views.{shown_statements}
use Rattle.script_text.specs.Scripts.{PlainScript, IsVerdict}

-- why an item isn't taken, or want of memory
abbrev pub NotTaken : {V : Type 0} → Item V → List ℕ → Refusal → Type 0
NotTaken item text refusal.NoCommand = IsTaken item text absent
NotTaken item text refusal.BraceNotClosed = IsTaken item text brace_open
NotTaken item text refusal.Memory = ⊤

-- why a text is none of this form, or want of memory
unfoldable pub NotOfForm : Form → List ℕ → Refusal → Type 0
NotOfForm form text refusal.NoCommand = form text no_command
NotOfForm form text refusal.BraceNotClosed = form text brace_not_closed
NotOfForm form text refusal.Memory = ⊤

-- what a script of the code shows
abbrev pub shown_script : Script → PlainScript
shown_script s = record { prefetches = s.prefetches; statements = shown_statements s.statements }

-- what reading a script answers: the verdict on its lines, or want of memory
abbrev pub ReadsScript : List (List ℕ) → Result Script ScriptError → Type 0
ReadsScript lines (Ok script) = IsVerdict lines (Ok (shown_script script))
ReadsScript lines (Err error.Memory) = ⊤
ReadsScript lines (Err e) = IsVerdict lines (Err e)

-- what stands before the blanks at the end
abbrev pub DropsBlanks : List ℕ → List ℕ → Type 0
DropsBlanks text kept = (behind : List ℕ) × (text ≡ kept ++ behind) × Each is_blank behind
    × StopsAt is_blank (reverse kept)

abbrev pub BeginsDoubled : List ℕ → Type 0
BeginsDoubled text = (rest : List ℕ) × (text ≡ 123 ∷ 123 ∷ rest)

-- the bytes that stand for themselves, and no braces
abbrev pub is_verbatim : Ending → ℕ → Bool
is_verbatim ending.Text b = not (b == 123)
is_verbatim ending.Quote b = not (b == 123 || b == 34)

-- why no part begins here
abbrev pub NoPart : List ℕ → Refusal → Type 0
NoPart text refusal.NoCommand = text ≡ []
NoPart text refusal.BraceNotClosed = (inner : List ℕ) × IsOpened text inner × HasNoEnd inner
NoPart text refusal.Memory = ⊤

-- the text begins with parts, and then ends before the template does
abbrev pub EndsEarly : Ending → List ℕ → Type 0
EndsEarly ending text = (parts : List Part2) × AreParts ending text parts [] × ¬ IsAtEnd ending []

-- why no template begins here
abbrev pub NoTemplate : Ending → List ℕ → Refusal → Type 0
NoTemplate ending text refusal.NoCommand = EndsEarly ending text
NoTemplate ending text refusal.BraceNotClosed = HasOpenBrace ending text
NoTemplate ending text refusal.Memory = ⊤

-- lines with one test, one rest or two templates
abbrev pub IsSimple : Kind → Type 0
IsSimple kind.Parameter = ⊥
IsSimple kind.If = ⊥
IsSimple kind.ElseIf = ⊥
IsSimple kind.Else = ⊥
IsSimple kind.EndIf = ⊥
IsSimple kind.Create = ⊥
IsSimple kind.Setting = ⊥
IsSimple kind.SettingDelete = ⊥
IsSimple kind.Prefetch = ⊥
IsSimple _ = ⊤

abbrev pub first_word : Words → List ℕ
first_word (one first) = first
first_word (two first second) = first

abbrev pub second_word : Words → Option (List ℕ)
second_word (one first) = None
second_word (two first second) = Some second

-- why a whole text is no template
abbrev pub NotWhole : List ℕ → Refusal → Type 0
NotWhole text refusal.NoCommand = ⊥
NotWhole text refusal.BraceNotClosed = HasOpenBrace ending.Text text
NotWhole text refusal.Memory = ⊤

-- A run of question lines that are read in some way, on a machine whose world is told or isn't.
use Rattle.std.specs.Prelude.{◌≡◌, ◌⊎◌, ⊤, ◌==◌, ◌+◌, ◌-◌, ◌≤◌, ℕ, ℤ, Bool, true, false, List, [], ◌∷◌, ◌++◌, length, drop, codes, decimal, Option, None, Some}
use Rattle.desk_base.specs.Flow.{IsFront}
use Rattle.rel_lexer.specs.declared.place.Place.{Place}
use Rattle.bf_world.specs.declared.key.Key.{Key}
use Rattle.bf_world.specs.Worlds.{WorldState}
use Rattle.rel_sources.specs.declared.scene.Scene.{Scene}
use Rattle.rel_trace.specs.Trace.{Trace}
use Rattle.rel_nodes.specs.Spans.{span_of_node}
use Rattle.rel_eval.specs.Questions.{Reading, question, refused, undefined}
use Rattle.rel_session.specs.Readings.{Readings}
use Rattle.rel_eval.specs.Cuts.{meaning}
use Rattle.rel_session.specs.declared.line.Line.{Line}
use Rattle.rel_session.specs.declared.line.Line.TheVariants.{Question, Page, More, NoCommand}
use Rattle.rel_session.specs.Printed.{said_question, said_error, said_undefined, said_no_command, said_nothing_paused}
use Rattle.rel_session.specs.Tellings.{Telling, TellsSome, room_of}

-- a question that is paused: what it has still to give, where the world is told, and its span
pub record Paused : Type 0 where
  pub rest : Trace
  pub span : Place

-- how many values are told at a time, 0 for all, and the paused questions, the latest one last
pub record Session : Type 0 where
  pub page : ℕ
  pub paused : List Paused

-- all values at a time, and no question is paused
abbrev pub fresh : Session
fresh = record { page = 0; paused = [] }

-- the last sixteen
abbrev pub last_sixteen : List Paused → List Paused
last_sixteen all = drop (length all - 16) all

-- the question is paused with what is left of it, if something is; of seventeen the oldest is dropped
abbrev pub pausing : Session → Option Trace → Place → Session
pausing session None span = session
pausing session (Some rest) span = record session { paused = last_sixteen (session.paused ++ record { rest = rest; span = span } ∷ []) }

abbrev pub begins_with_colon : List ℕ → Bool
begins_with_colon [] = false
begins_with_colon (byte ∷ bytes) = byte == 58

-- `:more`
abbrev pub more_line : List ℕ
more_line = codes ":more"

-- `:page`, a space and a number from 0 to 1,000,000
abbrev pub IsPageLine : List ℕ → ℕ → Type 0
IsPageLine line size = (size ≤ 1000000) × (line ≡ codes ":page " ++ decimal size)

-- The line asks for this.
abbrev pub Asks : List ℕ → Line → Type 0
Asks line Question = begins_with_colon line ≡ false
Asks line (Page size) = IsPageLine line size
Asks line More = line ≡ more_line
Asks line NoCommand = (begins_with_colon line ≡ true) × ¬ (line ≡ more_line) × ((size : ℕ) → ¬ IsPageLine line size)

-- what the lines so far wrote, looked up, and how many looks failed
pub record Run : Type 0 where
  pub bytes : List ℕ
  pub looks : List Key
  pub faults : ℕ

-- nothing
abbrev pub nothing : Run
nothing = record { bytes = []; looks = []; faults = 0 }

-- these bytes, and no look
abbrev pub saying : List ℕ → Run
saying bytes = record { bytes = bytes; looks = []; faults = 0 }

-- one run after another
abbrev pub after : Run → Run → Run
after a b = record { bytes = a.bytes ++ b.bytes; looks = a.looks ++ b.looks; faults = a.faults + b.faults }

-- what was told, as a run
abbrev pub told_run : Telling → Run
told_run u = record { bytes = u.bytes; looks = u.looks; faults = u.faults }

-- what a question knows beside the machine: a moment and an offset, no parameters and no exit code
abbrev pub scene_at : ℤ → ℤ → Scene
scene_at moment offset = record { moment = moment; offset = offset; parameters = []; exit = None }

-- The trace is what the world gives, where one is told, and else it is any.
abbrev pub IsGiven : Option WorldState → (WorldState → Trace) → Trace → Type 0
IsGiven None given t = ⊤
IsGiven (Some w) given t = t ≡ given w

-- What is told of a trace, of which P holds, goes on from a session to the next.
abbrev pub TellsOf : ℤ → Session → (Trace → Type 0) → Place → Run → Session → Type 0
TellsOf offset s P span run s' =
    (told : Telling) × TellsSome offset span (room_of s.page) P told × (run ≡ told_run told) × (s' ≡ pausing s told.rest span)

-- What a text is, is answered at a moment: a question by what it means, and else the refusal.
abbrev pub AnswersReading : Option WorldState → ℤ → ℤ → Session → Reading → Run → Session → Type 0
AnswersReading world moment offset s (question plan) run s' =
    TellsOf offset s (IsGiven world (λ w. meaning w (scene_at moment offset) plan)) (span_of_node plan) run s'
AnswersReading world moment offset s (refused kind place) run s' = (run ≡ saying (said_error kind place)) × (s' ≡ s)
AnswersReading world moment offset s (undefined place words) run s' = (run ≡ saying (said_undefined place words)) × (s' ≡ s)

-- A text is answered at a moment, as what it is read as.
unfoldable pub AnswersText : Readings → Option WorldState → ℤ → ℤ → Session → List ℕ → Run → Session → Type 0
AnswersText reads world moment offset s text run s' =
    (reading : Reading) × reads text reading × AnswersReading world moment offset s reading run s'

-- The question that was paused last goes on; the first list is of those that were paused before it.
abbrev pub GoesOnWith : Option WorldState → ℤ → Session → List Paused → Run → Session → Type 0
GoesOnWith world offset s [] run s' = (run ≡ saying said_nothing_paused) × (s' ≡ s)
GoesOnWith world offset s (first ∷ rest) run s' = (before : List Paused) × (latest : Paused) × (s.paused ≡ before ++ latest ∷ [])
    × TellsOf offset (record s { paused = before }) (IsGiven world (λ w. latest.rest)) latest.span run s'

-- A line that asks for this is answered, with the moments that it uses.
abbrev pub Answers : Readings → Option WorldState → ℤ → Session → List ℕ → Line → List ℤ → Run → Session → Type 0
Answers reads world offset s line Question moments run s' = (moment : ℤ) × (moments ≡ moment ∷ []) × AnswersText reads world moment offset s line run s'
Answers reads world offset s line (Page size) moments run s' = (moments ≡ []) × (run ≡ nothing) × (s' ≡ record s { page = size })
Answers reads world offset s line More moments run s' = (moments ≡ []) × GoesOnWith world offset s s.paused run s'
Answers reads world offset s line NoCommand moments run s' = (moments ≡ []) × (run ≡ saying said_no_command) × (s' ≡ s)

-- A line is echoed and answered.
abbrev pub RunsLine : Readings → Option WorldState → ℤ → Session → List ℕ → List ℤ → Run → Session → Type 0
RunsLine reads world offset s line moments run s' = (what : Line) × Asks line what
    × ((answer : Run) × Answers reads world offset s line what moments answer s' × (run ≡ after (saying (said_question line)) answer))

-- Lines are answered in order, with the moments that they use.
abbrev pub Runs : Readings → Option WorldState → ℤ → Session → List (List ℕ) → List ℤ → Run → Type 0
Runs reads world offset s [] moments run = (moments ≡ []) × (run ≡ nothing)
Runs reads world offset s (line ∷ lines) moments run =
    (now : List ℤ) × (later : List ℤ) × (moments ≡ now ++ later)
    × ((first : Run) × (s' : Session) × RunsLine reads world offset s line now first s'
    × ((rest : Run) × Runs reads world offset s' lines later rest × (run ≡ after first rest)))

-- These are a front of the bytes that a run wrote and a front of the keys that it looked up, and as many looks failed.
pub record IsFrontOf (run front : Run) : Type 0 where
  pub written : IsFront run.bytes front.bytes
  pub unlooked : List Key
  pub looked : run.looks ≡ front.looks ++ unlooked
  pub faults : front.faults ≡ run.faults

-- This is a front of what a line does with these moments; or nothing of it was done so far, and it has used no moment or one.
abbrev pub IsFrontOfLine : Readings → Option WorldState → ℤ → Session → List ℕ → List ℤ → Run → Type 0
IsFrontOfLine reads world offset s line moments front =
    ((length moments ≤ 1) × (front ≡ nothing))
    ⊎ ((run : Run) × (s' : Session) × RunsLine reads world offset s line moments run s' × IsFrontOf run front)

-- This is a front of what lines do with the moments had so far: all that some first lines do, and a front of what the next does.
abbrev pub IsFrontOfRun : Readings → Option WorldState → ℤ → Session → List (List ℕ) → List ℤ → Run → Type 0
IsFrontOfRun reads world offset s [] moments front = (moments ≡ []) × (front ≡ nothing)
IsFrontOfRun reads world offset s (line ∷ lines) moments front =
    IsFrontOfLine reads world offset s line moments front
    ⊎ ((now : List ℤ) × (later : List ℤ) × (moments ≡ now ++ later)
    × ((first : Run) × (s' : Session) × RunsLine reads world offset s line now first s'
    × ((rest : Run) × IsFrontOfRun reads world offset s' lines later rest × (front ≡ after first rest))))

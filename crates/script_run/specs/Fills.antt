-- What the private functions do that ask the expressions and the test of a line. No public contract speaks of it.
use Rattle.std.specs.Prelude.{◌≡◌, ⊤, ℕ, ℤ, pos, Bool, true, false, List, [], ◌∷◌, ◌++◌, Option, Some, None, Result, Ok, Err}
use Rattle.std.specs.declared.alloc.AllocError.{AllocError}
use Rattle.desk_base.specs.Moments.{IsMoment}
use Rattle.rel_value.specs.TimesRead.{time_of}
use Rattle.bf_world.specs.Answers.{HasMoment}
use Rattle.bf_world.specs.declared.key.Key.{Key}
use Rattle.bf_world.specs.Worlds.{WorldState}
use Rattle.bf_machine.specs.Views.{MachineView, OnlyLooks}
use Rattle.rel_sources.specs.declared.scene.Scene.{Scene}
use Rattle.rel_eval.specs.declared.told.OneText.{OneText}
use Rattle.rel_eval.specs.declared.told.Truth.{Truth}
use Rattle.script_text.specs.declared.line.Line.{Line}
use Rattle.script_text.specs.declared.line.Line.TheVariants as line
use Rattle.script_text.specs.declared.template.Part2.{Part2}
use Rattle.script_text.specs.declared.template.Part2.TheVariants.{Plain, Expression}
use Rattle.script_text.specs.declared.template.Template.{Template}
use Rattle.script_run.specs.declared.broken.Broken.{Broken}
use Rattle.script_run.specs.declared.broken.Broken.TheVariants as broken
use Rattle.script_run.specs.declared.cause.Cause.TheVariants.{BadDate}
use Rattle.script_run.specs.declared.filling.Both.{Both}
use Rattle.script_run.specs.declared.lines.Prepared.{Prepared}
use Rattle.script_run.specs.declared.lines.Prepared.TheVariants.{Passes, Held, Sets, Undated, Does, Awaits}
use Rattle.script_run.specs.Walks.{Known, Settled, Next, Walk, Rest, failing, saying, doing, awaiting}
use Rattle.script_run.specs.LineWalks.{filling, filled, lining, setting, line_walk}
use Rattle.script_run.specs.Asking.{When, when_of, known_in, SaysText, JudgesText}
use Rattle.script_run.specs.RunSteps.{Comes, Any, IsTextOf, Starves, Holds}

-- From a walk on results came, and this is left of it.
pub record Reaches (P : Next → Settled → Type 0) (at : When) (old : MachineView) (walk : Walk) (new : MachineView) (left : Walk)
    : Type 0 where
  pub results : List Settled
  pub comes : Comes P at old walk results new
  pub same : (more : List Settled) → walk (results ++ more) ≡ left more

-- A line isn't gone through: it failed for what it was answered, or memory ran out.
abbrev pub Breaks : When → ℕ → Known → MachineView → Walk → Broken → MachineView → Type 0
Breaks at line known old walk (broken.Failed cause) new = Reaches Any at old walk new (failing line true cause known)
Breaks at line known old walk broken.Memory new = Starves at line old walk new

-- ---- templates
-- Expressions of a line were asked, and of what is left the value is known, and whether the line is midway then; or the line isn't gone
-- through.
abbrev pub Fills : {V : Type 0} → When → ℕ → Known → MachineView → Walk → Result V Broken → MachineView → (Bool → V → Walk) → Type 0
Fills at line known old walk (Ok value) new left = (midway : Bool) × Reaches (IsTextOf line) at old walk new (left midway value)
Fills at line known old walk (Err broken) new left = Breaks at line known old walk broken new

-- So it is in each line, whatever is behind these expressions; and only looks were made.
pub record Asks {V R : Type 0} (scene : Scene) (walk : ℕ → Bool → R → Rest) (old : MachineView) (result : Result V Broken)
    (new : MachineView)
    (left : ℕ → Bool → V → R → Rest) : Type 0 where
  pub fills : (line : ℕ) (midway : Bool) (behind : R) →
      Fills (when_of scene) line (known_in scene) old (walk line midway behind (known_in scene)) result new
      (λ later value. left line later value behind (known_in scene))
  pub only : OnlyLooks old new

-- An expression was asked for its text.
abbrev pub AsksText : Scene → List ℕ → MachineView → Result (List ℕ) Broken → MachineView → Type 0
AsksText scene expression old result new =
    Asks {V = List ℕ} {R = List ℕ → Rest} scene (λ line midway behind. saying line midway expression behind)
    old result new (λ line midway text behind. behind text)

-- Behind this text come those of the parts up to those that are left.
abbrev pub FillsParts : Scene → List Part2 → List Part2 → List ℕ → MachineView → Result (Unit {0}) Broken → MachineView → List ℕ → Type 0
FillsParts scene parts left text old result new more =
    Asks {V = Unit {0}} {R = Bool → List ℕ → Rest} scene (λ line midway behind. filling line midway parts text behind)
    old result new (λ line midway done behind. filling line midway left more behind)

-- A template was asked for its text, and two for theirs.
abbrev pub FillsTemplate : Scene → Template → MachineView → Result (List ℕ) Broken → MachineView → Type 0
FillsTemplate scene template old result new =
    Asks {V = List ℕ} {R = Bool → List ℕ → Rest} scene (λ line midway behind. filled line midway template behind)
    old result new (λ line midway text behind. behind midway text)

abbrev pub FillsTwo : Scene → Template → Template → MachineView → Result Both Broken → MachineView → Type 0
FillsTwo scene first second old result new =
    Asks {V = Both} {R = Bool → List ℕ → List ℕ → Rest} scene
    (λ line midway behind. filled line midway first (λ later one. filled line later second (λ last. behind last one))) old result new
    (λ line midway both behind. behind midway both.first both.second)

-- Behind this text come the lines of templates up to those that are left, and so the lines of a file.
abbrev pub FillsLines : Scene → List Template → List Template → List ℕ → MachineView → Result (Unit {0}) Broken → MachineView → List ℕ
    → Type 0
FillsLines scene templates left text old result new more =
    Asks {V = Unit {0}} {R = Bool → List ℕ → Rest} scene (λ line midway behind. lining line midway templates text behind)
    old result new (λ line midway done behind. lining line midway left more behind)

abbrev pub FillsFile : Scene → List Template → MachineView → Result (List ℕ) Broken → MachineView → Type 0
FillsFile scene templates old result new =
    Asks {V = List ℕ} {R = Bool → List ℕ → Rest} scene (λ line midway behind. lining line midway templates [] behind)
    old result new (λ line midway text behind. behind midway text)

-- What a time is read as is this moment, in seconds, or none.
abbrev pub ReadsMoment : Option ℕ → Result (Option ℤ) AllocError → Type 0
ReadsMoment read (Ok (Some moment)) = (seconds : ℕ) × (read ≡ Some seconds) × (moment ≡ pos seconds)
ReadsMoment read (Ok None) = read ≡ None
ReadsMoment read (Err error) = ⊤

-- The text is the time text of a moment, or of none.
abbrev pub ReadsTime : List ℕ → Result (Option ℤ) AllocError → Type 0
ReadsTime text (Ok (Some moment)) = IsMoment moment × ((seconds : ℕ) × (time_of text ≡ Some seconds) × (moment ≡ pos seconds))
ReadsTime text (Ok None) = time_of text ≡ None
ReadsTime text (Err error) = ⊤

-- Whether an expression is settled behind these parts of a template, where one was before them or not.
abbrev pub asks_after : Bool → List Part2 → Bool
asks_after midway [] = midway
asks_after midway (Plain plain ∷ parts) = asks_after midway parts
asks_after midway (Expression expression ∷ parts) = asks_after true parts

-- The answer is that of a text that isn't asked, whatever the machine tells.
abbrev pub Unread : List ℕ → OneText → Type 0
Unread text answer =
    (world : Option WorldState) (scene : Scene) (looked : Option (List Key)) → SaysText world scene text looked answer looked

abbrev pub UnreadTest : List ℕ → Truth → Type 0
UnreadTest text answer =
    (world : Option WorldState) (scene : Scene) (looked : Option (List Key)) → JudgesText world scene text looked answer looked

-- ---- lines
-- A line's expressions were asked, or its test, and this is left to do.
abbrev pub Prepares : When → ℕ → Known → Rest → MachineView → Walk → Result Prepared Broken → MachineView → Type 0
Prepares at line known rest old walk (Ok Passes) new = Reaches Any at old walk new (rest known)
Prepares at line known rest old walk (Ok Held) new = Holds at (walk []).known (walk []).next line old new
Prepares at line known rest old walk (Ok (Sets midway name value)) new =
    Reaches (IsTextOf line) at old walk new (setting line midway name value rest known)
Prepares at line known rest old walk (Ok (Undated midway)) new = Reaches (IsTextOf line) at old walk new (failing line midway BadDate known)
Prepares at line known rest old walk (Ok (Does command)) new =
    (midway : Bool) × Reaches (IsTextOf line) at old walk new (doing line midway command rest known)
Prepares at line known rest old walk (Ok (Awaits command)) new =
    (midway : Bool) × Reaches (IsTextOf line) at old walk new (awaiting line midway command rest known)
Prepares at line known rest old walk (Err broken) new = Breaks at line known old walk broken new

-- The date of a command that is left to do is a moment.
abbrev pub IsDated : Result Prepared Broken → Type 0
IsDated (Ok (Does command)) = HasMoment command
IsDated (Ok (Awaits command)) = HasMoment command
IsDated _ = ⊤

-- So a line was prepared, whatever its number and what is behind it; and only looks were made.
pub record PreparesLine (scene : Scene) (what : Line) (old : MachineView) (result : Result Prepared Broken) (new : MachineView)
    : Type 0 where
  pub prepares : (line : ℕ) (rest : Rest) →
      Prepares (when_of scene) line (known_in scene) rest old (line_walk line what rest (known_in scene)) result new
  pub date : IsDated result
  pub only : OnlyLooks old new

-- the line that starts a program, hidden or not, and the one that waits for it too
abbrev pub start_line : Bool → Template → Line
start_line false command = line.Run command
start_line true command = line.RunHidden command

abbrev pub await_line : Bool → Template → Line
await_line false command = line.Wait command
await_line true command = line.WaitHidden command

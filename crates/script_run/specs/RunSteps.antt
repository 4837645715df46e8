-- How what comes next comes to results on a machine, one after another, and how it stops.
use Rattle.std.specs.Prelude.{◌≡◌, ◌≢◌, ◌⊎◌, ⊤, ℕ, Bool, List, [], ◌∷◌}
use Rattle.bf_world.specs.declared.command.Acted.TheVariants as of_act
use Rattle.bf_world.specs.declared.command.Polled.TheVariants as of_poll
use Rattle.bf_machine.specs.Views.{MachineView}
use Rattle.bf_machine.specs.Acts.{ActsOn}
use Rattle.bf_machine.specs.Polls.{PollsOn}
use Rattle.rel_eval.specs.declared.told.OneText.TheVariants as one_text
use Rattle.rel_eval.specs.declared.told.Truth.TheVariants as truth
use Rattle.script_run.specs.declared.ran.Ran.{Ran}
use Rattle.script_run.specs.declared.ran.Ran.TheVariants as ran
use Rattle.script_run.specs.Walks.{Known, Settled, said, judged, acted, polled, Next, Wants, Says, Tests, Pauses, Does, Polls, Ends, Fails, Walk}
use Rattle.script_run.specs.Asking.{When, scene_of, SaysOn, JudgesOn}

-- What comes next came to a result on a machine: a question was asked, a command done or a program polled, once.
abbrev pub Settles : When → Known → Next → MachineView → Settled → MachineView → Type 0
Settles at known (Says line midway text) old (said answer) new = (answer ≢ one_text.Memory) × SaysOn (scene_of at known) text old answer new
Settles at known (Tests line text) old (judged answer) new = (answer ≢ truth.Memory) × JudgesOn (scene_of at known) text old answer new
Settles at known (Pauses line text) old (judged answer) new =
    (answer ≢ truth.Memory) × (answer ≢ truth.True) × JudgesOn (scene_of at known) text old answer new
Settles at known (Does line midway command) old (acted answer) new = (answer ≢ of_act.Memory) × ActsOn at.moment command old answer new
Settles at known (Polls line process) old (polled answer) new = (answer ≢ of_poll.Running) × PollsOn process old answer new
Settles at known _ old _ new = ⊥

-- From a walk on these results came, one after another, each as P says of what came next. In the public contract P is `Any`.
abbrev pub Comes : (Next → Settled → Type 0) → When → MachineView → Walk → List Settled → MachineView → Type 0
Comes P at old walk [] new = new ≡ old
Comes P at old walk (result ∷ results) new =
    P (walk []).next result
    × ((between : MachineView) × Settles at (walk []).known (walk []).next old result between
    × Comes P at between (λ more. walk (result ∷ more)) results new)

-- any results
abbrev pub Any : Next → Settled → Type 0
Any next result = ⊤

-- texts of expressions of one line
abbrev pub IsTextOf : ℕ → Next → Settled → Type 0
IsTextOf line (Says at midway text) (said (one_text.Text words)) = at ≡ line
IsTextOf line _ _ = ⊥

-- In the midst of a question of this line memory ran out.
abbrev pub StarvesAsking : When → ℕ → Known → Next → MachineView → MachineView → Type 0
StarvesAsking at line known (Says own midway text) old new = (own ≡ line) × SaysOn (scene_of at known) text old one_text.Memory new
StarvesAsking at line known (Tests own text) old new = (own ≡ line) × JudgesOn (scene_of at known) text old truth.Memory new
StarvesAsking at line known (Pauses own text) old new = (own ≡ line) × JudgesOn (scene_of at known) text old truth.Memory new
StarvesAsking at line known _ old new = ⊥

-- Memory ran out in a line: expressions of it were asked, whose texts are no results; then nothing more was done, or a question was
-- begun.
pub record Starves (at : When) (line : ℕ) (old : MachineView) (walk : Walk) (new : MachineView) : Type 0 where
  pub texts : List Settled
  pub between : MachineView
  pub comes : Comes (IsTextOf line) at old walk texts between
  pub breaks : (new ≡ between) ⊎ StarvesAsking at line (walk texts).known (walk texts).next between new

-- The line is held: its test is true, or its program runs.
abbrev pub Holds : When → Known → Next → ℕ → MachineView → MachineView → Type 0
Holds at known (Pauses own text) line old new = (line ≡ own) × JudgesOn (scene_of at known) text old truth.True new
Holds at known (Polls own process) line old new = (line ≡ own) × PollsOn process old of_poll.Running new
Holds at known _ line old new = ⊥

-- An advance that has come so far stops with this answer.
abbrev pub Stops : When → MachineView → Walk → Ran → MachineView → Type 0
Stops at old walk (ran.Held line) new = Holds at (walk []).known (walk []).next line old new
Stops at old walk (ran.Wants line digest) new = ((walk []).next ≡ Wants line digest) × (new ≡ old)
Stops at old walk ran.Done new = ((walk []).next ≡ Ends) × (new ≡ old)
Stops at old walk (ran.Failed line cause) new = (midway : Bool) × ((walk []).next ≡ Fails line midway cause) × (new ≡ old)
Stops at old walk ran.Memory new = (line : ℕ) × Starves at line old walk new

-- What lines of a script came to, and what comes next after that.
use Rattle.std.specs.Prelude.{ℕ, ◌+◌, ℤ, Bool, true, false, List, [], ◌∷◌, Option, Some}
use Rattle.bf_world.specs.declared.command.Command.{Command}
use Rattle.bf_world.specs.declared.command.Acted.{Acted}
use Rattle.bf_world.specs.declared.command.Acted.TheVariants as of_act
use Rattle.bf_world.specs.declared.command.Polled.{Polled}
use Rattle.bf_world.specs.declared.command.Polled.TheVariants as of_poll
use Rattle.rel_sources.specs.declared.pair.Pair.{Pair}
use Rattle.rel_eval.specs.declared.told.OneText.{OneText}
use Rattle.rel_eval.specs.declared.told.OneText.TheVariants as one_text
use Rattle.rel_eval.specs.declared.told.Truth.{Truth}
use Rattle.rel_eval.specs.declared.told.Truth.TheVariants as truth
use Rattle.script_run.specs.declared.cause.Cause.{Cause}
use Rattle.script_run.specs.declared.cause.Cause.TheVariants.{Relevance, Refused, MachineFault, WrongDigest}

-- the parameters so far, and the exit code of the last program that was waited for
pub record Known : Type 0 where
  pub parameters : List Pair
  pub exit : Option ℤ

-- what something came to: the bytes of a file, or that it isn't served; what an expression and what a test were answered; what a
-- command and what a poll were answered
pub data Settled : Type 0 where
  supplied : Option (List ℕ) → Settled
  said : OneText → Settled
  judged : Truth → Settled
  acted : Acted → Settled
  polled : Polled → Settled

-- how many faults a result is: one for a look, a command or a poll that failed
abbrev pub fault_in : Settled → ℕ
fault_in (said (one_text.Failed place)) = 1
fault_in (judged (truth.Failed place)) = 1
fault_in (acted of_act.Failed) = 1
fault_in (polled of_poll.Failed) = 1
fault_in _ = 0

abbrev pub faults_in : List Settled → ℕ
faults_in [] = 0
faults_in (result ∷ results) = fault_in result + faults_in results

-- What comes next, at the line of this number. A text and a command stand midway where an expression of their line is settled already,
-- and a line has failed midway where anything of it is.
pub data Next : Type 0 where
  -- the file of this SHA-256 is wanted
  Wants : (line : ℕ) (digest : List ℕ) → Next
  -- an expression is asked for its text
  Says : (line : ℕ) (midway : Bool) (expression : List ℕ) → Next
  -- a test is asked for its truth
  Tests : (line : ℕ) (expression : List ℕ) → Next
  -- a test is asked, which holds the line while it is true
  Pauses : (line : ℕ) (expression : List ℕ) → Next
  -- a command is done
  Does : (line : ℕ) (midway : Bool) (command : Command) → Next
  -- the program of this number is polled, which holds the line while it runs
  Polls : (line : ℕ) (process : ℕ) → Next
  -- nothing, since all lines are done
  Ends : Next
  -- nothing, since the line failed
  Fails : (line : ℕ) (midway : Bool) (cause : Cause) → Next

-- Whether something of its line is settled already. A wrong digest counts as if nothing were: it is told in texts, which take memory, and
-- what is settled of its line was supplied between two advances.
abbrev pub is_midway : Next → Bool
is_midway (Says line midway expression) = midway
is_midway (Does line midway command) = midway
is_midway (Polls line process) = true
is_midway (Fails line midway (WrongDigest stated found)) = false
is_midway (Fails line midway cause) = midway
is_midway _ = false

-- where a script stands: what is known there, and what comes next
pub record Stop : Type 0 where
  pub known : Known
  pub next : Next

abbrev pub stop : Known → Next → Stop
stop known next = record { known = known; next = next }

-- where a script stands after further results
abbrev pub Walk : Type 0
Walk = List Settled → Stop

-- the rest of a script: where it stands after further results, with what is known before it
abbrev pub Rest : Type 0
Rest = Known → Walk

-- all lines are done
abbrev pub ending : Rest
ending known results = stop known Ends

-- the line has failed, midway or not
abbrev pub failing : ℕ → Bool → Cause → Rest
failing line midway cause known results = stop known (Fails line midway cause)

-- What never comes: a result of another sort than what came next, or no answer for want of memory, which is no result.
abbrev pub never : ℕ → Rest
never line = failing line true MachineFault

-- what comes after an expression's answer
abbrev pub after_text : ℕ → (List ℕ → Rest) → OneText → Rest
after_text line rest (one_text.Text text) = rest text
after_text line rest (one_text.Error kind place) = failing line true (Relevance kind place)
after_text line rest (one_text.Failed place) = failing line true MachineFault
after_text line rest one_text.Memory = never line

-- an expression is asked, and the rest has its text
abbrev pub saying : ℕ → Bool → List ℕ → (List ℕ → Rest) → Rest
saying line midway expression rest known [] = stop known (Says line midway expression)
saying line midway expression rest known (said answer ∷ more) = after_text line rest answer known more
saying line midway expression rest known (_ ∷ more) = never line known more

-- what comes after a test's answer, where it is true and where it is false
abbrev pub after_truth : ℕ → Rest → Rest → Truth → Rest
after_truth line met unmet truth.True = met
after_truth line met unmet truth.False = unmet
after_truth line met unmet (truth.Error kind place) = failing line true (Relevance kind place)
after_truth line met unmet (truth.Failed place) = failing line true MachineFault
after_truth line met unmet truth.Memory = never line

-- a test is asked
abbrev pub testing : ℕ → List ℕ → Rest → Rest → Rest
testing line test met unmet known [] = stop known (Tests line test)
testing line test met unmet known (judged answer ∷ more) = after_truth line met unmet answer known more
testing line test met unmet known (_ ∷ more) = never line known more

-- A test is asked until it is false. That it is true is no result.
abbrev pub pausing : ℕ → List ℕ → Rest → Rest
pausing line test rest known [] = stop known (Pauses line test)
pausing line test rest known (judged answer ∷ more) = after_truth line (never line) rest answer known more
pausing line test rest known (_ ∷ more) = never line known more

-- what comes after a command's answer, where it is done and where it started a program
abbrev pub after_act : ℕ → Rest → (ℕ → Rest) → Acted → Rest
after_act line rest started of_act.Done = rest
after_act line rest started (of_act.Started process) = started process.0
after_act line rest started (of_act.Refused reason) = failing line true (Refused reason)
after_act line rest started of_act.Failed = failing line true MachineFault
after_act line rest started of_act.Memory = never line

-- a command is done
abbrev pub acting : ℕ → Bool → Command → Rest → (ℕ → Rest) → Rest
acting line midway command rest started known [] = stop known (Does line midway command)
acting line midway command rest started known (acted answer ∷ more) = after_act line rest started answer known more
acting line midway command rest started known (_ ∷ more) = never line known more

-- a command is done, and nothing is waited for
abbrev pub doing : ℕ → Bool → Command → Rest → Rest
doing line midway command rest = acting line midway command rest (λ process. rest)

-- the exit code of a program is known from then on
abbrev pub with_exit : ℤ → Known → Known
with_exit code known = record known { exit = Some code }

-- What comes after a poll's answer. That the program runs is no result.
abbrev pub after_poll : ℕ → Rest → Polled → Rest
after_poll line rest (of_poll.Exited code) known = rest (with_exit code known)
after_poll line rest of_poll.Failed known = failing line true MachineFault known
after_poll line rest of_poll.Running known = never line known

-- a program is waited for
abbrev pub polling : ℕ → ℕ → Rest → Rest
polling line process rest known [] = stop known (Polls line process)
polling line process rest known (polled answer ∷ more) = after_poll line rest answer known more
polling line process rest known (_ ∷ more) = never line known more

-- a program is started and waited for
abbrev pub awaiting : ℕ → Bool → Command → Rest → Rest
awaiting line midway command rest = acting line midway command rest (λ process. polling line process rest)

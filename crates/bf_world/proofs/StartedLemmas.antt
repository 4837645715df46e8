-- How many programs were started, after a command that is done.
use Rattle.std.proofs.Common.{◌≡◌, ◌≢◌, ℕ, ℤ, Bool, true, false, cond, List, length, Some, None, refl, ap, arith}
use Rattle.std.specs.declared.option.Option.{Option}
use Rattle.std.proofs.lemmas.Grind.{common_steps}
use Rattle.bf_world.specs.declared.command.Acted.TheVariants as acted
use Rattle.bf_world.specs.declared.command.Acted.{Acted}
use Rattle.bf_world.specs.declared.command.ProcessNo.{ProcessNo}
use Rattle.bf_world.specs.declared.command.Command.{Command}
use Rattle.bf_world.specs.declared.command.Command.TheVariants as command
use Rattle.bf_world.specs.declared.parts.Node.TheVariants.{Folder}
use Rattle.bf_world.specs.declared.parts.Program.{Program}
use Rattle.bf_world.specs.Done.{CountsStarted, FitsCommand, StartsByStart, refusal, checks, start_checks, answer_of, after, with_started, with_folder, is_older, download}
use Rattle.bf_world.specs.Maps.{at, put, without}
use Rattle.bf_world.specs.Places.{is_folder, with_node}
use Rattle.bf_world.specs.Worlds.{WorldState}

folder-started : (w : WorldState) (path : List ℕ) → (with_folder path w).started ≡ w.started
folder-started w path = elim (is_folder w path) as (λ b. (cond b w (with_node path Folder w)).started ≡ w.started) [ true ↦ refl | false ↦ refl ]

chosen-started : (b : Bool) (v w : WorldState) → v.started ≡ w.started → (cond b v w).started ≡ w.started
chosen-started true v w same = same
chosen-started false v w same = refl

program-started : (w : WorldState) (program : Option Program) → refusal (start_checks w program) ≡ None → CountsStarted (length w.started) (length (with_started program w).started) (acted.Started (record { 0 = length w.started }))
program-started w None free = absurd (cc)
program-started w (Some program) free = (refl, grind (arith, common_steps))

pub counted : (w : WorldState) (c : Command) (moment : ℤ) → refusal (checks w c) ≡ None → CountsStarted (length w.started) (length (after w c moment).started) (answer_of w c)
counted w (command.Write path content) moment free = refl
counted w (command.Append path content) moment free = refl
counted w (command.Delete path) moment free = refl
counted w (command.Copy from to) moment free = refl
counted w (command.Move from to) moment free = refl
counted w (command.MakeFolder path) moment free = ap length (folder-started w path)
counted w (command.DropFolder path) moment free = refl
counted w (command.Start line hidden) moment free = program-started w (at line w.programs) free
counted w (command.Put name value date) moment free =
    ap length (chosen-started (is_older (at name w.settings) date) (record w { settings = put name (record { value = value; date = date }) w.settings }) w refl)
counted w (command.Drop name date) moment free =
    ap length (chosen-started (is_older (at name w.settings) date) (record w { settings = without name w.settings }) w refl)
counted w (command.Place name content) moment free = ap length (folder-started w download)

-- an answer other than Started leaves the number
unless_started : (old new : ℕ) (answer : Acted) → ((process : ProcessNo) → answer ≢ acted.Started process) → CountsStarted old new answer → new ≡ old
unless_started old new acted.Done other counts = counts
unless_started old new (acted.Started process) other counts = absurd (other process refl)
unless_started old new (acted.Refused reason) other counts = counts
unless_started old new acted.Failed other counts = counts
unless_started old new acted.Memory other counts = counts

-- so only a Start raises it
pub by_start : (c : Command) (old new : ℕ) (answer : Acted) → FitsCommand c answer → CountsStarted old new answer → StartsByStart c old new
by_start (command.Write path content) old new answer fits counts = unless_started old new answer fits counts
by_start (command.Append path content) old new answer fits counts = unless_started old new answer fits counts
by_start (command.Delete path) old new answer fits counts = unless_started old new answer fits counts
by_start (command.Copy from to) old new answer fits counts = unless_started old new answer fits counts
by_start (command.Move from to) old new answer fits counts = unless_started old new answer fits counts
by_start (command.MakeFolder path) old new answer fits counts = unless_started old new answer fits counts
by_start (command.DropFolder path) old new answer fits counts = unless_started old new answer fits counts
by_start (command.Start line hidden) old new answer fits counts = tt
by_start (command.Put name value date) old new answer fits counts = unless_started old new answer fits counts
by_start (command.Drop name date) old new answer fits counts = unless_started old new answer fits counts
by_start (command.Place name content) old new answer fits counts = unless_started old new answer fits counts

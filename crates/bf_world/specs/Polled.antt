-- What a poll of a started program does to a world.
use Rattle.std.specs.Prelude.{ℕ, ◌-◌, pos, if◌then◌else◌, nat_lt, set}
use Rattle.std.specs.declared.option.Option.{Option}
use Rattle.std.specs.Option.{option_map}
use Rattle.std.specs.List.{slice_get}
use Rattle.bf_world.specs.declared.parts.Run.{Run}
use Rattle.bf_world.specs.declared.command.Polled.{Polled}
use Rattle.bf_world.specs.declared.command.Polled.TheVariants.{Running, Exited}
use Rattle.bf_world.specs.Worlds.{WorldState}

-- an answer, and the world after it
pub record PollOutcome : Type 0 where
  pub answer : Polled
  pub after : WorldState

-- the program runs where polls are left, and has exited where none are
abbrev pub poll_answer : Run → Polled
poll_answer run = if nat_lt 0 run.left then Running else Exited (pos run.exit)

-- one poll fewer is left, or still none
abbrev pub one_polled : Run → Run
one_polled run = record run { left = run.left - 1 }

-- what a poll of the program of this number answers, and the world after it; None where no program has the number
abbrev pub polled : WorldState → ℕ → Option PollOutcome
polled w number =
    option_map (λ run. record { answer = poll_answer run; after = record w { started = set w.started number (one_polled run) } })
    (slice_get w.started number)

-- The machine over a described world, as contracts see it, and what a call does to it beyond what its trait says.
use Rattle.std.specs.Prelude.{◌≡◌, ℕ, ◌+◌, List, [], length, Some}
use Rattle.desk_base.specs.CallStates.{CallState, IsListed, no_calls}
use Rattle.desk_base.specs.MemoryStates.{Succeeds, Fails}
use Rattle.bf_world.specs.declared.key.Key.{Key}
use Rattle.bf_world.specs.declared.command.Command.{Command}
use Rattle.bf_world.specs.declared.command.Acted.{Acted}
use Rattle.bf_world.specs.declared.command.Acted.TheVariants as acted
use Rattle.bf_world.specs.declared.command.Polled.{Polled}
use Rattle.bf_world.specs.declared.command.Polled.TheVariants as polled
use Rattle.bf_world.specs.Worlds.{WorldState}
use Rattle.bf_machine.specs.Views.{MachineView}
use Rattle.bf_machine.specs.declared.machine.Looked.{Looked}
use Rattle.bf_machine.specs.declared.machine.Looked.TheVariants as looked

-- the world, the keys looked up, the commands done and the numbers polled, and the calls of each sort
pub record PlainState : Type 0 where
  pub world : WorldState
  pub looked : List Key
  pub acted : List Command
  pub polled : List ℕ
  pub looks : CallState
  pub acts : CallState
  pub polls : CallState

-- a machine that nothing was asked yet; the calls with these numbers are to fail
abbrev pub unasked : WorldState → List ℕ → List ℕ → List ℕ → PlainState
unasked world looks acts polls = record {
  world = world;
  looked = [];
  acted = [];
  polled = [];
  looks = no_calls looks;
  acts = no_calls acts;
  polls = no_calls polls;
}

-- how many calls have failed
abbrev pub faults_of : PlainState → ℕ
faults_of m = m.looks.faults + m.acts.faults + m.polls.faults

-- what it tells
abbrev pub plain_view : PlainState → MachineView
plain_view m = record {
  world = Some m.world;
  looked = Some m.looked;
  acted = Some m.acted;
  polled = Some m.polled;
  started = length m.world.started;
  faults = faults_of m;
  holds = [];
}

-- A look fails exactly where it is listed.
abbrev pub LooksPlain : PlainState → PlainState → Looked → Type 0
LooksPlain old new looked.Failed = Fails old.looks new.looks × IsListed new.looks
LooksPlain old new answer = Succeeds old.looks new.looks

-- An act fails exactly where it is listed, and then leaves the world.
abbrev pub ActsPlain : PlainState → PlainState → Acted → Type 0
ActsPlain old new acted.Failed = Fails old.acts new.acts × IsListed new.acts × (new.world ≡ old.world)
ActsPlain old new answer = Succeeds old.acts new.acts

-- A poll fails exactly where it is listed.
abbrev pub PollsPlain : PlainState → PlainState → Polled → Type 0
PollsPlain old new polled.Failed = Fails old.polls new.polls × IsListed new.polls
PollsPlain old new answer = Succeeds old.polls new.polls

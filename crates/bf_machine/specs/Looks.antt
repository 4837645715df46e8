-- What a look does.
use Rattle.std.specs.Prelude.{◌≡◌, List, [], ◌∷◌, ⊤, None, Some}
use Rattle.std.specs.declared.option.Option.{Option}
use Rattle.desk_base.specs.Counts.{CountsFaults}
use Rattle.bf_world.specs.declared.key.Key.{Key}
use Rattle.bf_world.specs.Answers.{IsGoodAnswer, HasAscendingNames}
use Rattle.bf_world.specs.Shown.{shown}
use Rattle.bf_world.specs.Worlds.{WorldState}
use Rattle.bf_machine.specs.Told.{Grows}
use Rattle.bf_machine.specs.Views.{MachineView, OnlyLooks}
use Rattle.bf_machine.specs.declared.machine.Looked.{Looked}
use Rattle.bf_machine.specs.declared.machine.Looked.TheVariants as of_look

-- An answer is what is shown of the told world.
abbrev pub Shows : Option WorldState → Key → Looked → Type 0
Shows world key (of_look.Answer answer) = (w : WorldState) → world ≡ Some w → answer ≡ shown w key
Shows world key _ = ⊤

-- the keys that a look adds: its own where it answers
abbrev pub keys_added : Key → Looked → List Key
keys_added key (of_look.Answer answer) = key ∷ []
keys_added key _ = []

-- An answer is a good one, whether the world is told or not.
abbrev pub IsGood : Looked → Type 0
IsGood (of_look.Answer answer) = IsGoodAnswer answer
IsGood _ = ⊤

-- The names in an answer ascend strictly in byte order, whether the world is told or not.
abbrev pub Ascends : Looked → Type 0
Ascends (of_look.Answer answer) = HasAscendingNames answer
Ascends _ = ⊤

-- A key was looked up and answered so.
pub record LooksOn (key : Key) (old : MachineView) (answer : Looked) (new : MachineView) : Type 0 where
  pub shows : Shows old.world key answer
  pub good : IsGood answer
  pub ascending : Ascends answer
  pub looked : Grows old.looked new.looked (keys_added key answer)
  pub only : OnlyLooks old new
  pub counts : CountsFaults (answer ≡ of_look.Failed) old.faults new.faults

-- The keys that a machine tells grow by these, where it tells its world.
abbrev pub LooksUp : Option WorldState → Option (List Key) → Option (List Key) → List Key → Type 0
LooksUp None old new keys = ⊤
LooksUp (Some w) old new keys = Grows old new keys

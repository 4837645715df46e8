-- What is done on a machine that tells its world, step by step, where no call fails. Other crates may cite these lemmas.
use Rattle.std.proofs.Common.{◌≡◌, ◌≢◌, ℕ, ◌-◌, ◌^◌, ◌<◌, ◌≤◌, ℤ, List, [], ◌∷◌, ◌++◌, map, Some, None, refl, sym, ap, ◌∙◌, subst, arith}
use Rattle.std.specs.declared.option.Option.{Option}
use Rattle.std.proofs.lemmas.List.{map-append}
use Rattle.desk_base.specs.Counts.{Rose}
use Rattle.bf_world.specs.declared.command.Command.{Command}
use Rattle.bf_world.specs.declared.command.Acted.{Acted}
use Rattle.bf_world.specs.declared.command.Acted.TheVariants as of_act
use Rattle.bf_world.specs.declared.command.Polled.{Polled}
use Rattle.bf_world.specs.declared.command.Polled.TheVariants as of_poll
use Rattle.bf_world.specs.Done.{Outcome, done}
use Rattle.bf_world.specs.Polled.{PollOutcome, polled}
use Rattle.bf_world.specs.Worlds.{WorldState}
use Rattle.bf_machine.specs.Told.{Told, Grows}
use Rattle.bf_machine.specs.Views.{MachineView}
use Rattle.bf_machine.specs.Acts.{Acts, ActsOn}
use Rattle.bf_machine.specs.Polls.{Polls, PollsOn}
use Rattle.bf_machine.specs.Steps.{Step, Looking, Acting, Polling, Takes, TakesAll, Steady, Answered, answered, answered_by, answered_in, commands_of, answers_from, world_after, SameButPolls, AnswersAs}
use Rattle.bf_machine.proofs.Telling.{Grows-nil, Grows-trans}
use Rattle.bf_machine.proofs.Alike.{AreAlike, SameButPolls-trans, done-alike, polled-alike}

-- ---- lists of commands
answers-append : (moment : ℤ) (w : WorldState) (cs ds : List Command)
    → answers_from moment w (cs ++ ds) ≡ answers_from moment w cs ++ answers_from moment (world_after moment w cs) ds
answers-append moment w [] ds = refl
answers-append moment w (c ∷ cs) ds =
    ap (λ (l : List Answered). answered c (done w c moment).answer ∷ l) (answers-append moment (done w c moment).after cs ds)

after-append : (moment : ℤ) (w : WorldState) (cs ds : List Command)
    → world_after moment w (cs ++ ds) ≡ world_after moment (world_after moment w cs) ds
after-append moment w [] ds = refl
after-append moment w (c ∷ cs) ds = after-append moment (done w c moment).after cs ds

commands-append : (xs ys : List Answered) → commands_of (xs ++ ys) ≡ commands_of xs ++ commands_of ys
commands-append xs ys = map-append (λ (a : Answered). a.command) xs ys

-- ---- stretches
-- nothing was done
pub AnswersAs-none : (moment : ℤ) (old new : MachineView) (w world : WorldState) → new.acted ≡ old.acted → new.world ≡ Some world
    → SameButPolls world w → AnswersAs moment old [] new w
AnswersAs-none moment old new w world acted told same = record {
  acted = subst (λ (now : Option (List Command)). Grows old.acted now []) (sym acted) (Grows-nil old.acted);
  answers = refl;
  world = world;
  told = told;
  same = same;
}

-- one stretch after another
pub AnswersAs-trans : (moment : ℤ) (old between new : MachineView) (did more : List Answered) (w : WorldState)
    → AnswersAs moment old did between w → AnswersAs moment between more new (world_after moment w (commands_of did))
    → AnswersAs moment old (did ++ more) new w
AnswersAs-trans moment old between new did more w p q =
    let all : commands_of did ++ commands_of more ≡ commands_of (did ++ more) = sym (commands-append did more) in
    record {
      acted = subst (λ (cs : List Command). Grows old.acted new.acted cs) all
          (Grows-trans old.acted between.acted new.acted (commands_of did) (commands_of more) p.acted q.acted);
      answers =
          (λ t. p.answers t ++ q.answers t)
          ∙ sym (answers-append moment w (commands_of did) (commands_of more))
          ∙ ap (λ (cs : List Command). answers_from moment w cs) all;
      world = q.world;
      told = q.told;
      same = subst (λ (x : WorldState). SameButPolls q.world x)
          (sym (after-append moment w (commands_of did) (commands_of more)) ∙ ap (λ (cs : List Command). world_after moment w cs) all) q.same;
    }

-- ---- one step
-- a count that stands still below its last value didn't rise
no_rise : (before now : ℕ) → before < 2 ^ 64 - 1 → now ≡ before → Rose before now → ⊥
no_rise before now low still rose = omega (arith, low, still, rose)

told_from : (u new : Option WorldState) (w : WorldState) (P : WorldState → WorldState → Type 0) → u ≡ Some w → Told u new P
    → (v : WorldState) × (new ≡ Some v) × P w v
told_from None new w P is h = absurd (cc)
told_from (Some x) None w P is h = absurd h
told_from (Some x) (Some v) w P is h = let same : x ≡ w = cc in let Q : WorldState → Type 0 = λ y. P y v in (v, refl, subst Q same h)

-- a command that was answered
answered_once : (moment : ℤ) (old new : MachineView) (w v other : WorldState) (command : Command) (answer : Acted)
    → Grows old.acted new.acted (command ∷ []) → new.world ≡ Some v → done w command moment ≡ record { answer = answer; after = v }
    → SameButPolls w other → AnswersAs moment old (answered command answer ∷ []) new other
answered_once moment old new w v other command answer acted told is p =
    let alike : AreAlike (done w command moment) (done other command moment) = done-alike w other command moment p in
    record {
      acted = acted;
      answers = ap (λ (a : Acted). answered command a ∷ []) (sym (alike.answer ∙ ap (λ (o : Outcome). o.answer) is));
      world = v;
      told = told;
      same = subst (λ (u : WorldState). SameButPolls u (done other command moment).after) (ap (λ (o : Outcome). o.after) is) alike.same;
    }

act-alike : (moment : ℤ) (old new : MachineView) (w other : WorldState) (command : Command) (answer : Acted) → old.world ≡ Some w
    → SameButPolls w other → Steady old new → ActsOn moment command old answer new
    → AnswersAs moment old (answered_by (Acting command answer)) new other
act-alike moment old new w other command of_act.Done is p steady act =
    let v = told_from old.world new.world w (λ before now. Acts before now command moment of_act.Done) is act.world in
    answered_once moment old new w v.0 other command of_act.Done act.acted v.1 v.2 p
act-alike moment old new w other command (of_act.Started process) is p steady act =
    let v = told_from old.world new.world w (λ before now. Acts before now command moment (of_act.Started process)) is act.world in
    answered_once moment old new w v.0 other command (of_act.Started process) act.acted v.1 v.2 p
act-alike moment old new w other command (of_act.Refused reason) is p steady act =
    let v = told_from old.world new.world w (λ before now. Acts before now command moment (of_act.Refused reason)) is act.world in
    answered_once moment old new w v.0 other command (of_act.Refused reason) act.acted v.1 v.2 p
act-alike moment old new w other command of_act.Failed is p steady act =
    absurd (no_rise old.faults new.faults steady.below steady.still (act.counts.rose refl))
act-alike moment old new w other command of_act.Memory is p steady act =
    let v = told_from old.world new.world w (λ before now. Acts before now command moment of_act.Memory) is act.world in
    record {
      acted = act.acted;
      answers = refl;
      world = v.0;
      told = v.1;
      same = subst (λ (u : WorldState). SameButPolls u other) (sym v.2) p;
    }

-- a poll that was answered
polled_once : (moment : ℤ) (old new : MachineView) (w v other : WorldState) (number : ℕ) (answer : Polled) → new.acted ≡ old.acted
    → new.world ≡ Some v → polled w number ≡ Some (record { answer = answer; after = v }) → SameButPolls w other
    → AnswersAs moment old [] new other
polled_once moment old new w v other number answer acted told is p =
    AnswersAs-none moment old new other v acted told (SameButPolls-trans (polled-alike w number (record { answer = answer; after = v }) is) p)

poll-alike : (moment : ℤ) (old new : MachineView) (w other : WorldState) (number : ℕ) (answer : Polled) → old.world ≡ Some w
    → SameButPolls w other → Steady old new → PollsOn number old answer new → AnswersAs moment old [] new other
poll-alike moment old new w other number of_poll.Running is p steady poll =
    let v = told_from old.world new.world w (λ before now. Polls before now number of_poll.Running) is poll.world in
    polled_once moment old new w v.0 other number of_poll.Running poll.acted v.1 v.2 p
poll-alike moment old new w other number (of_poll.Exited code) is p steady poll =
    let v = told_from old.world new.world w (λ before now. Polls before now number (of_poll.Exited code)) is poll.world in
    polled_once moment old new w v.0 other number (of_poll.Exited code) poll.acted v.1 v.2 p
poll-alike moment old new w other number of_poll.Failed is p steady poll =
    absurd (no_rise old.faults new.faults steady.below steady.still (poll.counts.rose refl))

step-alike : (moment : ℤ) (old new : MachineView) (w other : WorldState) (step : Step) → old.world ≡ Some w → SameButPolls w other
    → Steady old new → Takes moment old step new → AnswersAs moment old (answered_by step) new other
step-alike moment old new w other Looking is p steady only = AnswersAs-none moment old new other w only.acted (only.world ∙ is) p
step-alike moment old new w other (Acting command answer) is p steady act = act-alike moment old new w other command answer is p steady act
step-alike moment old new w other (Polling number answer) is p steady poll = poll-alike moment old new w other number answer is p steady poll

-- ---- steps one after another
-- counts never fall
step-later : (moment : ℤ) (old new : MachineView) (step : Step) → Takes moment old step new → old.faults ≤ new.faults
step-later moment old new Looking only = only.later
step-later moment old new (Acting command answer) act = act.counts.later
step-later moment old new (Polling number answer) poll = poll.counts.later

steps-later : (moment : ℤ) (old new : MachineView) (steps : List Step) → TakesAll moment old steps new → old.faults ≤ new.faults
steps-later moment old new [] is = let e : new.faults ≡ old.faults = ap (λ (v : MachineView). v.faults) is in omega (arith, e)
steps-later moment old new (step ∷ steps) (between, first, rest) =
    let one = step-later moment old between step first in
    let more = steps-later moment between new steps rest in
    omega (arith, one, more)

pub steps-alike : (moment : ℤ) (old new : MachineView) (steps : List Step) (w other : WorldState) → old.world ≡ Some w
    → SameButPolls w other → Steady old new → TakesAll moment old steps new → AnswersAs moment old (answered_in steps) new other
steps-alike moment old new [] w other is p steady same =
    AnswersAs-none moment old new other w (ap (λ (v : MachineView). v.acted) same) (ap (λ (v : MachineView). v.world) same ∙ is) p
steps-alike moment old new (step ∷ steps) w other is p steady (between, first, rest) =
    let one = step-later moment old between step first in
    let more = steps-later moment between new steps rest in
    let still : between.faults ≡ old.faults = omega (arith, one, more, steady.still) in
    let before : Steady old between = record { below = steady.below; still = still } in
    let behind : Steady between new = record {
      below = subst (λ (n : ℕ). n < 2 ^ 64 - 1) (sym still) steady.below;
      still = steady.still ∙ sym still;
    } in
    let did = step-alike moment old between w other step is p before first in
    AnswersAs-trans moment old between new (answered_by step) (answered_in steps) other did
    (steps-alike moment between new steps did.world (world_after moment other (commands_of (answered_by step))) did.told did.same behind rest)

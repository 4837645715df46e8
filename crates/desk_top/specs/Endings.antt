-- How a run ends: what was done, by its status; which status must come; and which counts of faults rose.
use Rattle.std.specs.Prelude.{◌≡◌, ◌≢◌, ◌⊎◌, ◌≤◌, ◌<◌, ⊤, ℕ, List, length, IsSomeAnd}
use Rattle.std.specs.declared.option.Option.{Option}
use Rattle.std.specs.declared.result.Result.TheVariants.{Err}
use Rattle.std.specs.Io.KnownBytes.{Appends}
use Rattle.desk_base.specs.Counts.{CountsFaults}
use Rattle.desk_base.specs.Flow.{AppendsFront}
use Rattle.desk_base.specs.declared.sink.Put.TheVariants as put
use Rattle.desk_keep.specs.Calls.{Opens}
use Rattle.desk_keep.specs.declared.answer.Applied.TheVariants as applied
use Rattle.agent_core.specs.declared.opening.Opened.TheVariants as opened
use Rattle.desk_serve.specs.declared.step.Stop.TheVariants as stop
use Rattle.desk_runs.specs.declared.rounding.AgentStop.TheVariants as cut
use Rattle.desk_top.specs.declared.command.DeskCommand.{DeskCommand}
use Rattle.desk_top.specs.declared.command.DeskCommand.TheVariants.{Serve, Relay, Agent, Session}
use Rattle.desk_top.specs.declared.status.Status.{Status}
use Rattle.desk_top.specs.declared.status.Status.TheVariants.{Done, Usage, Refused, Source, Sink, Clock, Pocket, Keeper, Door, Memory, InputTooLong}
use Rattle.desk_top.specs.AllDevices.{AllDevices, relaying, rounding, serving}
use Rattle.desk_top.specs.Commands.{Asks, AsksAgent, AsksRelay, AsksServe, AsksSome, IsAgents, IsNoCommand, ReadsSource, UsesKeeper, usage_line}
use Rattle.desk_top.specs.Counted.{CountsMore}
use Rattle.desk_top.specs.Runs.{input_limit, TookInput, TookPart, TookTooMuch}
use Rattle.desk_top.specs.Said.{AsksClock, Began, Did, IsGoodInput, IsRefused}
use Rattle.desk_top.specs.Relayed.{OpensRelay, RelaysAt}
use Rattle.desk_top.specs.Rounded.{IsBadPocket, OpensNone, OpensRounds, RefusesPocket, RoundsAt}
use Rattle.desk_top.specs.Served.{OpensBoth, ServesAt}

-- For each of these devices, that it is as it was. This says so of a device that tells nothing too.
pub record Untouched : Type 1 where
  pub sink : Type 0
  pub machine : Type 0
  pub clock : Type 0
  pub door : Type 0

-- nothing was written, looked up or asked
abbrev pub Unasked : Untouched → Type 0
Unasked same = same.sink × same.machine × same.clock

-- nothing was written, and no moment was taken
abbrev pub Untimed : Untouched → Type 0
Untimed same = same.sink × same.clock

-- The words ask for a command that took its whole input, and P holds of the two.
abbrev pub TakesInput : List (List ℕ) → AllDevices → AllDevices → (DeskCommand → List ℕ → Type 0) → Type 0
TakesInput words old new P = AsksSome words (λ command. TookInput command old.source.left new.source.left (P command))

-- A front of what a command does with its whole input was done, before what this status tells ended it.
abbrev pub BeganSome : Status → List (List ℕ) → AllDevices → AllDevices → Type 0
BeganSome status words old new = TakesInput words old new (λ command input. Began status command input old new)

-- Memory ran out before anything else was done than to read the source, to open what is kept, or to name an upstream, a pocket and a work
-- folder.
abbrev pub OpensFirst : DeskCommand → AllDevices → AllDevices → Untouched → Type 0
OpensFirst (Serve asked) old new same = Opens old.keeper applied.Memory new.keeper × Unasked same
OpensFirst (Relay asked) old new same = (new.link ≡ old.link) × Unasked same
OpensFirst (Agent asked) old new same = OpensNone asked (rounding old) (rounding new) × Untimed same
OpensFirst (Session asked) old new same =
    (Opens old.keeper applied.Memory new.keeper ⊎ (new.keeper ≡ old.keeper)) × Unasked same
OpensFirst _ old new same = (new.keeper ≡ old.keeper) × Unasked same

-- What was done where a run of these words ended so.
abbrev pub Ended : Status → List (List ℕ) → AllDevices → AllDevices → Untouched → Type 0
-- the command took its whole input, and did exactly what it does with it
Ended Done words old new same = TakesInput words old new (λ command input. Did command input old new)
-- the words are those of no command, and the usage line was written
Ended Usage words old new same = IsNoCommand words × Appends old.sink.held new.sink.held usage_line
-- the command refuses its input, or an agent its pocket, and what is said of that was written alone
Ended Refused words old new same =
    TakesInput words old new (λ command input. IsRefused command input (Appends old.sink.held new.sink.held))
    ⊎ AsksAgent words (λ asked. (line : ℕ) × RefusesPocket asked line (rounding old) put.Done (rounding new))
-- the source failed while it was read
Ended Source words old new same = AsksSome words ReadsSource × TookPart old.source.left new.source.left × Unasked same
-- a write failed, and a front of what is said was written
Ended Sink words old new same =
    (IsNoCommand words × AppendsFront old.sink.held new.sink.held usage_line) ⊎ BeganSome Sink words old new
-- the clock failed behind such a front
Ended Clock words old new same =
    TakesInput words old new (λ command input. AsksClock command × Began Clock command input old new)
-- what is kept couldn't be opened, and nothing was done before that but to read the source
Ended Keeper words old new same =
    TakesInput words old new (λ command input. UsesKeeper command × Opens old.keeper applied.Failed new.keeper × Unasked same × same.door)
-- the door couldn't be opened, and nothing was written; or it had no next conversation, behind a front of what is said
Ended Door words old new same =
    AsksServe words (λ asked. (OpensBoth asked (serving old) put.Failed (serving new) × Unasked same)
    ⊎ ServesAt asked (serving old) (Err stop.Door) (serving new))
    ⊎ AsksRelay words (λ asked. (OpensRelay asked (relaying old) put.Failed (relaying new) × Unasked same)
    ⊎ RelaysAt asked (relaying old) (Err stop.Door) (relaying new))
-- memory ran out before anything was written or asked, or behind such a front
Ended Memory words old new same =
    (AsksSome words (λ command. OpensFirst command old new same) × TookPart old.source.left new.source.left × same.door)
    ⊎ BeganSome Memory words old new
-- the source gave more than it may
Ended InputTooLong words old new same = AsksSome words ReadsSource × TookTooMuch old.source.left new.source.left × Unasked same
-- the pocket's text couldn't be loaded, and nothing was written or asked; or a save failed, behind whole rounds
Ended Pocket words old new same =
    AsksAgent words (λ asked. (OpensRounds asked (rounding old) opened.PocketFault (rounding new) × Untimed same)
    ⊎ RoundsAt asked (rounding old) (Err cut.Pocket) (rounding new))

-- The source has no more left than it may give, and P holds of that.
abbrev pub HasInput : Option (List ℕ) → (List ℕ → Type 0) → Type 0
HasInput left P = IsSomeAnd left (λ input. (length input ≤ input_limit) × P input)

-- Which status must come for these words, what the source had left and what the pocket had saved, unless memory ran out or a device failed.
pub record Comes (words : List (List ℕ)) (left : Option (List ℕ)) (saved : Option (Option (List ℕ))) (result : Status) : Type 0 where
  pub usage : IsNoCommand words → result ≢ Sink → result ≡ Usage
  pub too_long : AsksSome words ReadsSource → IsSomeAnd left (λ input. input_limit < length input)
      → result ≢ Source → (result ≡ InputTooLong) ⊎ (result ≡ Memory)
  pub done : (command : DeskCommand) → Asks words command → ¬ IsAgents command → HasInput left (IsGoodInput command)
      → result ≢ Source → result ≢ Sink → result ≢ Clock → result ≢ Keeper → result ≢ Door → (result ≡ Done) ⊎ (result ≡ Memory)
  pub served : AsksServe words (λ asked. ⊤) → result ≢ Sink → result ≢ Keeper → result ≢ Door → (result ≡ Done) ⊎ (result ≡ Memory)
  pub refused : (command : DeskCommand) → Asks words command → HasInput left (λ input. ¬ IsGoodInput command input)
      → result ≢ Source → result ≢ Sink → (result ≡ Refused) ⊎ (result ≡ Memory)
  pub relayed : AsksRelay words (λ asked. ⊤) → result ≢ Sink → result ≢ Door → (result ≡ Done) ⊎ (result ≡ Memory)
  pub rounded : AsksAgent words (λ asked. IsSomeAnd saved (λ now. ¬ IsBadPocket asked.name.now now))
      → result ≢ Sink → result ≢ Clock → result ≢ Pocket → (result ≡ Done) ⊎ (result ≡ Memory)
  pub bad_pocket : AsksAgent words (λ asked. IsSomeAnd saved (IsBadPocket asked.name.now))
      → result ≢ Sink → result ≢ Pocket → (result ≡ Refused) ⊎ (result ≡ Memory)

-- The count of the device that ended the run rose. Those of the source, the sink, the clock and the pocket stayed otherwise; the keeper's,
-- the door's, the link's and the machine's never fell, and what theirs tell of conversations, rounds, looks and turns is told by `Did` and
-- `Began`.
pub record CountsByStatus (result : Status) (old new : AllDevices) : Type 0 where
  pub source : CountsFaults (result ≡ Source) old.source.faults new.source.faults
  pub sink : CountsFaults (result ≡ Sink) old.sink.faults new.sink.faults
  pub clock : CountsFaults (result ≡ Clock) old.clock.faults new.clock.faults
  pub keeper : CountsMore (result ≡ Keeper) old.keeper.faults new.keeper.faults
  pub door : CountsMore (result ≡ Door) old.door.faults new.door.faults
  pub pocket : CountsFaults (result ≡ Pocket) old.pocket.faults new.pocket.faults
  pub link : old.link.faults ≤ new.link.faults
  pub machine : old.machine.faults ≤ new.machine.faults

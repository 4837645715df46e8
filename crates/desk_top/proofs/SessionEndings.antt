-- How `session` ends the run of its words: what was done, which status comes, and which counts rose.
use Rattle.std.proofs.Common.{◌≡◌, ◌≢◌, ◌⊎◌, ℕ, List, length, None, Some, inl, inr, refl, sym, ap, ◌∙◌, subst, arith}
use Rattle.std.specs.declared.option.Option.{Option}
use Rattle.bf_machine.specs.Views.{MachineView}
use Rattle.agent_text.specs.Pockets.{PocketView}
use Rattle.desk_door.specs.Doors.{DoorView}
use Rattle.desk_door.specs.Links.{LinkView}
use Rattle.desk_keep.specs.Calls.{Opens}
use Rattle.desk_keep.specs.declared.answer.Applied.TheVariants as applied
use Rattle.session_view.specs.Asking.{TableDevices}
use Rattle.desk_top.specs.declared.command.DeskCommand.{DeskCommand}
use Rattle.desk_top.specs.declared.command.DeskCommand.TheVariants.{Qna, QnaWorld, Check, Office, Make, Serve, Relay, Agent, Session, Help}
use Rattle.desk_top.specs.declared.command.AgentWords.{AgentWords}
use Rattle.desk_top.specs.declared.command.RelayWords.{RelayWords}
use Rattle.desk_top.specs.declared.command.ServeWords.{ServeWords}
use Rattle.desk_top.specs.declared.command.SessionWords.{SessionWords}
use Rattle.desk_top.specs.declared.status.Status.{Status}
use Rattle.desk_top.specs.declared.status.Status.TheVariants.{Done, Usage, Refused, Source, Sink, Clock, Pocket, Keeper, Door, Memory, InputTooLong}
use Rattle.desk_top.specs.AllDevices.{AllDevices, tables}
use Rattle.desk_top.specs.Commands.{Asks, UsesKeeper}
use Rattle.desk_top.specs.Endings.{Comes, CountsByStatus, Ended, HasInput, Unasked, Untouched}
use Rattle.desk_top.specs.Questioned.{CountsSession, SessionEnds}
use Rattle.desk_top.specs.Runs.{TookInput}
use Rattle.desk_top.specs.Said.{AsksClock, Began, Did, IsGoodInput}
use Rattle.desk_top.proofs.Endings.{TakesAll, not_long}
use Rattle.desk_top.proofs.FirstLetters.{first_letters}
use Rattle.desk_top.proofs.Serving.{same_count, same_more}

-- What it answered, of the input that it took.
pub record Asked (asked : SessionWords) (words : List (List ℕ)) (left left' : Option (List ℕ)) (input : List ℕ) (status : Status) (old new : TableDevices) (Unwritten : Type 0) : Type 0 where
  pub asks : Asks words (Session asked)
  pub taken : List ℕ
  pub is : input ≡ taken
  pub all : TakesAll left left' taken
  pub ends : SessionEnds status input old new Unwritten

took : (asked : SessionWords) (old new : Option (List ℕ)) (taken input : List ℕ) (P : List ℕ → Type 0) → input ≡ taken → TakesAll old new taken → P input
    → TookInput (Session asked) old new P
took asked old new taken input P is all holds = (taken, all.takes, all.ends, (all.short, subst P is holds))

pub session_ended : (words : List (List ℕ)) (asked : SessionWords) (status : Status) (old new : AllDevices) (input : List ℕ) (Unwritten : Type 0) (same : Untouched)
    → (Unwritten → Unasked same) → same.door → Asked asked words old.source.left new.source.left input status (tables old) (tables new) Unwritten
    → Ended status words old new same
session_ended words asked Done old new input Unwritten same unasked unopened a =
    (Session asked, a.asks, took asked old.source.left new.source.left a.taken input (λ i. Did (Session asked) i old new) a.is a.all a.ends)
session_ended words asked Usage old new input Unwritten same unasked unopened a = absurd a.ends
session_ended words asked Refused old new input Unwritten same unasked unopened a = absurd a.ends
session_ended words asked Source old new input Unwritten same unasked unopened a = absurd a.ends
session_ended words asked Sink old new input Unwritten same unasked unopened a =
    inr (Session asked, a.asks, took asked old.source.left new.source.left a.taken input (λ i. Began Sink (Session asked) i old new) a.is a.all a.ends)
session_ended words asked Clock old new input Unwritten same unasked unopened a =
    (Session asked, a.asks, took asked old.source.left new.source.left a.taken input (λ i. AsksClock (Session asked) × Began Clock (Session asked) i old new) a.is a.all (tt, a.ends))
session_ended words asked Pocket old new input Unwritten same unasked unopened a = absurd a.ends
session_ended words asked Keeper old new input Unwritten same unasked unopened a = (
  Session asked,
  a.asks,
  took asked old.source.left new.source.left a.taken input
      (λ i. UsesKeeper (Session asked) × Opens old.keeper applied.Failed new.keeper × Unasked same × same.door) a.is a.all
      (tt, a.ends.0, unasked a.ends.1, unopened),
)
session_ended words asked Door old new input Unwritten same unasked unopened a = absurd a.ends
session_ended words asked Memory old new input Unwritten same unasked unopened a = by a.ends
  where
    by : (Opens old.keeper applied.Memory new.keeper × Unwritten) ⊎ Began Memory (Session asked) input old new → Ended Memory words old new same
    by (inl none) = inl ((Session asked, a.asks, (inl none.0, unasked none.1)), (a.taken, a.all.takes, a.all.short), unopened)
    by (inr began) = inr (Session asked, a.asks, took asked old.source.left new.source.left a.taken input (λ i. Began Memory (Session asked) i old new) a.is a.all began)
session_ended words asked InputTooLong old new input Unwritten same unasked unopened a = absurd a.ends

-- the statuses with which `session` ends
abbrev OneOfSession : Status → Type 0
OneOfSession status = (status ≡ Done) ⊎ (status ≡ Sink) ⊎ (status ≡ Clock) ⊎ (status ≡ Keeper) ⊎ (status ≡ Memory)

one_of_session : (status : Status) (input : List ℕ) (old new : TableDevices) (Unwritten : Type 0) → SessionEnds status input old new Unwritten → OneOfSession status
one_of_session Done input old new Unwritten ends = inl refl
one_of_session Usage input old new Unwritten ends = absurd ends
one_of_session Refused input old new Unwritten ends = absurd ends
one_of_session Source input old new Unwritten ends = absurd ends
one_of_session Sink input old new Unwritten ends = inr (inl refl)
one_of_session Clock input old new Unwritten ends = inr (inr (inl refl))
one_of_session Pocket input old new Unwritten ends = absurd ends
one_of_session Keeper input old new Unwritten ends = inr (inr (inr (inl refl)))
one_of_session Door input old new Unwritten ends = absurd ends
one_of_session Memory input old new Unwritten ends = inr (inr (inr (inr refl)))
one_of_session InputTooLong input old new Unwritten ends = absurd ends

done_or_memory : (status : Status) → OneOfSession status → status ≢ Sink → status ≢ Clock → status ≢ Keeper → (status ≡ Done) ⊎ (status ≡ Memory)
done_or_memory status (inl done) no_sink no_clock no_keeper = inl done
done_or_memory status (inr (inl sink)) no_sink no_clock no_keeper = absurd (no_sink sink)
done_or_memory status (inr (inr (inl clock))) no_sink no_clock no_keeper = absurd (no_clock clock)
done_or_memory status (inr (inr (inr (inl keeper)))) no_sink no_clock no_keeper = absurd (no_keeper keeper)
done_or_memory status (inr (inr (inr (inr memory)))) no_sink no_clock no_keeper = inr memory

-- the words of `session` are those of no server, no relay and no agent, and no input of it is refused
no_serve : (words : List (List ℕ)) (asked : SessionWords) (other : ServeWords) → Asks words (Session asked) → Asks words (Serve other) → ⊥
no_serve words asked other p q = let e : ◌≡◌ {A = ℕ} 2 4 = ap (length {A = List ℕ}) (sym p.1 ∙ q.1) in omega (arith, e)

no_relay : (words : List (List ℕ)) (asked : SessionWords) (other : RelayWords) → Asks words (Session asked) → Asks words (Relay other) → ⊥
no_relay words asked other p q = let e : ◌≡◌ {A = ℕ} 115 114 = first_letters words (Session asked) (Relay other) p q in omega (arith, e)

no_agent : (words : List (List ℕ)) (asked : SessionWords) (other : AgentWords) → Asks words (Session asked) → Asks words (Agent other) → ⊥
no_agent words asked other p q = let e : ◌≡◌ {A = ℕ} 115 97 = first_letters words (Session asked) (Agent other) p q in omega (arith, e)

always_good : (words : List (List ℕ)) (asked : SessionWords) (command : DeskCommand) (input : List ℕ) → Asks words (Session asked) → Asks words command → IsGoodInput command input
always_good words asked Qna input p q = tt
always_good words asked QnaWorld input p q = let e : ◌≡◌ {A = ℕ} 115 113 = first_letters words (Session asked) QnaWorld p q in absurd (omega (arith, e))
always_good words asked Check input p q = let e : ◌≡◌ {A = ℕ} 115 99 = first_letters words (Session asked) Check p q in absurd (omega (arith, e))
always_good words asked Office input p q = let e : ◌≡◌ {A = ℕ} 115 111 = first_letters words (Session asked) Office p q in absurd (omega (arith, e))
always_good words asked (Make number) input p q = tt
always_good words asked (Serve other) input p q = tt
always_good words asked (Relay other) input p q = tt
always_good words asked (Agent other) input p q = tt
always_good words asked (Session other) input p q = tt
always_good words asked Help input p q = tt

never_bad : (left : Option (List ℕ)) (command : DeskCommand) → ((input : List ℕ) → IsGoodInput command input) → HasInput left (λ input. IsGoodInput command input → ⊥) → ⊥
never_bad None command good has = has
never_bad (Some input) command good has = has.1 (good input)

pub session_comes : (words : List (List ℕ)) (asked : SessionWords) (status : Status) (left left' : Option (List ℕ)) (saved : Option (Option (List ℕ))) (input : List ℕ) (old new : TableDevices)
    (Unwritten : Type 0) → Asked asked words left left' input status old new Unwritten → Comes words left saved status
session_comes words asked status left left' saved input old new Unwritten a =
    let one = one_of_session status input old new Unwritten a.ends in record {
      usage = λ none. absurd (none (Session asked) a.asks);
      too_long = λ reads long. absurd (not_long left left' a.taken a.all long);
      done = λ command other no_agents has no_source no_sink no_clock no_keeper no_door. done_or_memory status one no_sink no_clock no_keeper;
      served = λ serves. absurd (no_serve words asked serves.0 a.asks serves.1);
      refused = λ command other has no_source no_sink. absurd (never_bad left command (λ i. always_good words asked command i a.asks other) has);
      relayed = λ relays. absurd (no_relay words asked relays.0 a.asks relays.1);
      rounded = λ rounds. absurd (no_agent words asked rounds.0 a.asks rounds.1);
      bad_pocket = λ rounds. absurd (no_agent words asked rounds.0 a.asks rounds.1);
    }

-- ---- counts of faults
never_source : (status : Status) → OneOfSession status → status ≡ Source → ⊥
never_source status (inl is) e = cc
never_source status (inr (inl is)) e = cc
never_source status (inr (inr (inl is))) e = cc
never_source status (inr (inr (inr (inl is)))) e = cc
never_source status (inr (inr (inr (inr is)))) e = cc

never_door : (status : Status) → OneOfSession status → status ≡ Door → ⊥
never_door status (inl is) e = cc
never_door status (inr (inl is)) e = cc
never_door status (inr (inr (inl is))) e = cc
never_door status (inr (inr (inr (inl is)))) e = cc
never_door status (inr (inr (inr (inr is)))) e = cc

never_pocket : (status : Status) → OneOfSession status → status ≡ Pocket → ⊥
never_pocket status (inl is) e = cc
never_pocket status (inr (inl is)) e = cc
never_pocket status (inr (inr (inl is))) e = cc
never_pocket status (inr (inr (inr (inl is)))) e = cc
never_pocket status (inr (inr (inr (inr is)))) e = cc

pub session_counts : (status : Status) (old new : AllDevices) (input : List ℕ) (Unwritten : Type 0) → SessionEnds status input (tables old) (tables new) Unwritten
    → new.source.faults ≡ old.source.faults → new.pocket ≡ old.pocket → new.door ≡ old.door → new.link ≡ old.link → new.machine ≡ old.machine
    → CountsSession status (tables old) (tables new) → CountsByStatus status old new
session_counts status old new input Unwritten ends source pocket door link machine counts =
    let link_is = ap (λ (l : LinkView). l.faults) link in
    let machine_is = ap (λ (m : MachineView). m.faults) machine in
    let door_is = ap (λ (d : DoorView). d.faults) door in
    let one = one_of_session status input (tables old) (tables new) Unwritten ends in record {
      source = same_count old.source.faults new.source.faults (status ≡ Source) (never_source status one) source;
      sink = counts.sink;
      clock = counts.clock;
      keeper = counts.keeper;
      door = same_more old.door.faults new.door.faults (status ≡ Door) (never_door status one) (omega (arith, door_is));
      pocket = same_count old.pocket.faults new.pocket.faults (status ≡ Pocket) (never_pocket status one) (ap (λ (p : PocketView). p.faults) pocket);
      link = omega (arith, link_is);
      machine = omega (arith, machine_is);
    }

-- How `serve` ends the run of its words: what was done, which status comes, and which counts rose.
use Rattle.std.proofs.Common.{◌≡◌, ◌≢◌, ◌⊎◌, ◌≤◌, ℕ, List, [], length, None, Some, Result, Err, inl, inr, refl, sym, ap, ◌∙◌, subst, arith}
use Rattle.std.proofs.KnownBytes.{Consumes-nil, Keeps-refl}
use Rattle.std.specs.Io.KnownBytes.{Keeps}
use Rattle.std.specs.declared.option.Option.{Option}
use Rattle.desk_base.specs.Counts.{CountsFaults, Rose}
use Rattle.desk_base.specs.Views.{SourceView, SinkView, ClockView}
use Rattle.desk_base.specs.declared.sink.Put.TheVariants as put
use Rattle.bf_machine.proofs.Telling.{RoseBy-later}
use Rattle.bf_machine.specs.Views.{MachineView}
use Rattle.agent_text.specs.Pockets.{PocketView}
use Rattle.desk_door.specs.Links.{LinkView}
use Rattle.desk_serve.specs.declared.step.Stop.{Stop}
use Rattle.desk_serve.specs.declared.step.Stop.TheVariants as stop
use Rattle.desk_serve.specs.ServeCounts.{CountsServed}
use Rattle.desk_serve.specs.ServeSteps.{Scene}
use Rattle.desk_top.specs.declared.command.DeskCommand.{DeskCommand}
use Rattle.desk_top.specs.declared.command.DeskCommand.TheVariants.{Qna, QnaWorld, Check, Office, Make, Serve, Relay, Agent, Session, Help}
use Rattle.desk_top.specs.declared.command.AgentWords.{AgentWords}
use Rattle.desk_top.specs.declared.command.RelayWords.{RelayWords}
use Rattle.desk_top.specs.declared.command.ServeWords.{ServeWords}
use Rattle.desk_top.specs.declared.status.Status.{Status}
use Rattle.desk_top.specs.declared.status.Status.TheVariants.{Done, Usage, Refused, Source, Sink, Clock, Pocket, Keeper, Door, Memory, InputTooLong}
use Rattle.desk_top.specs.AllDevices.{AllDevices, serving}
use Rattle.desk_top.specs.Commands.{Asks, ReadsSource}
use Rattle.desk_top.specs.Counted.{CountsMore}
use Rattle.desk_top.specs.Endings.{Comes, CountsByStatus, Ended, HasInput, Unasked, Untouched}
use Rattle.desk_top.specs.Runs.{TookPart}
use Rattle.desk_top.specs.Said.{IsGoodInput}
use Rattle.desk_top.specs.Served.{CountsServe, OpensBoth, ServeEnds, ServesAt, status_of_stop}
use Rattle.desk_top.proofs.FirstLetters.{first_letters}

-- a run that was cut ends with the status of what cut it
pub cut_ends : (asked : ServeWords) (why : Stop) (status : Status) (old new : Scene) (Unwritten Unopened : Type 0) → status ≡ status_of_stop why → ServesAt asked old (Err why) new
    → ServeEnds asked status old new Unwritten Unopened
cut_ends asked stop.Door status old new Unwritten Unopened is serves =
    let Ends : Status → Type 0 = λ s. ServeEnds asked s old new Unwritten Unopened in subst Ends (sym is) (inr serves)
cut_ends asked stop.Sink status old new Unwritten Unopened is serves =
    let Ends : Status → Type 0 = λ s. ServeEnds asked s old new Unwritten Unopened in subst Ends (sym is) serves
cut_ends asked stop.Memory status old new Unwritten Unopened is serves =
    let Ends : Status → Type 0 = λ s. ServeEnds asked s old new Unwritten Unopened in subst Ends (sym is) (inr serves)

-- the source is as it was
pub keeps_source : (old new : AllDevices) → new.source ≡ old.source → Keeps old.source.left new.source.left
keeps_source old new same = let P : SourceView → Type 0 = λ s. Keeps old.source.left s.left in subst P (sym same) (Keeps-refl old.source.left)

pub took_none : (old new : AllDevices) → new.source ≡ old.source → TookPart old.source.left new.source.left
took_none old new same =
    let P : SourceView → Type 0 = λ s. TookPart old.source.left s.left in
    subst P (sym same) ([], Consumes-nil old.source.left, omega arith)

-- so `serve` ends the run of its words
pub serve_ended : (words : List (List ℕ)) (asked : ServeWords) (status : Status) (old new : AllDevices) (Unwritten : Type 0) (same : Untouched) → Asks words (Serve asked)
    → new.source ≡ old.source → (Unwritten → Unasked same) → ServeEnds asked status (serving old) (serving new) Unwritten same.door → Ended status words old new same
serve_ended words asked Done old new Unwritten same asks source unasked ends = (Serve asked, asks, (keeps_source old new source, ends))
serve_ended words asked Usage old new Unwritten same asks source unasked ends = absurd ends
serve_ended words asked Refused old new Unwritten same asks source unasked ends = absurd ends
serve_ended words asked Source old new Unwritten same asks source unasked ends = absurd ends
serve_ended words asked Sink old new Unwritten same asks source unasked ends = inr (Serve asked, asks, (keeps_source old new source, (stop.Sink, refl, ends)))
serve_ended words asked Clock old new Unwritten same asks source unasked ends = absurd ends
serve_ended words asked Pocket old new Unwritten same asks source unasked ends = absurd ends
serve_ended words asked Keeper old new Unwritten same asks source unasked (opens, unwritten, unopened) =
    (Serve asked, asks, (keeps_source old new source, (tt, opens, unasked unwritten, unopened)))
serve_ended words asked Door old new Unwritten same asks source unasked (inl (both, unwritten)) = inl (asked, asks, inl (both, unasked unwritten))
serve_ended words asked Door old new Unwritten same asks source unasked (inr serves) = inl (asked, asks, inr serves)
serve_ended words asked Memory old new Unwritten same asks source unasked (inl (opens, unwritten, unopened)) =
    inl ((Serve asked, asks, (opens, unasked unwritten)), took_none old new source, unopened)
serve_ended words asked Memory old new Unwritten same asks source unasked (inr serves) = inr (Serve asked, asks, (keeps_source old new source, (stop.Memory, refl, serves)))
serve_ended words asked InputTooLong old new Unwritten same asks source unasked ends = absurd ends

-- the statuses with which `serve` ends
abbrev OneOfServe : Status → Type 0
OneOfServe status = (status ≡ Done) ⊎ (status ≡ Sink) ⊎ (status ≡ Keeper) ⊎ (status ≡ Door) ⊎ (status ≡ Memory)

one_of_serve : (asked : ServeWords) (status : Status) (old new : Scene) (Unwritten Unopened : Type 0) → ServeEnds asked status old new Unwritten Unopened → OneOfServe status
one_of_serve asked Done old new Unwritten Unopened ends = inl refl
one_of_serve asked Usage old new Unwritten Unopened ends = absurd ends
one_of_serve asked Refused old new Unwritten Unopened ends = absurd ends
one_of_serve asked Source old new Unwritten Unopened ends = absurd ends
one_of_serve asked Sink old new Unwritten Unopened ends = inr (inl refl)
one_of_serve asked Clock old new Unwritten Unopened ends = absurd ends
one_of_serve asked Pocket old new Unwritten Unopened ends = absurd ends
one_of_serve asked Keeper old new Unwritten Unopened ends = inr (inr (inl refl))
one_of_serve asked Door old new Unwritten Unopened ends = inr (inr (inr (inl refl)))
one_of_serve asked Memory old new Unwritten Unopened ends = inr (inr (inr (inr refl)))
one_of_serve asked InputTooLong old new Unwritten Unopened ends = absurd ends

done_or_memory : (status : Status) → OneOfServe status → status ≢ Sink → status ≢ Keeper → status ≢ Door → (status ≡ Done) ⊎ (status ≡ Memory)
done_or_memory status (inl done) no_sink no_keeper no_door = inl done
done_or_memory status (inr (inl sink)) no_sink no_keeper no_door = absurd (no_sink sink)
done_or_memory status (inr (inr (inl keeper))) no_sink no_keeper no_door = absurd (no_keeper keeper)
done_or_memory status (inr (inr (inr (inl door)))) no_sink no_keeper no_door = absurd (no_door door)
done_or_memory status (inr (inr (inr (inr memory)))) no_sink no_keeper no_door = inr memory

-- the words of `serve` are those of no command that reads the source, and nothing is refused of it
reads_none : (words : List (List ℕ)) (asked : ServeWords) (command : DeskCommand) → Asks words (Serve asked) → Asks words command → ReadsSource command → ⊥
reads_none words asked Qna asks other reads = let h = asks.1 in let k = other.1 in cc
reads_none words asked QnaWorld asks other reads = let h = asks.1 in let k = other.1 in cc
reads_none words asked Check asks other reads = let h = asks.1 in let k = other.1 in cc
reads_none words asked Office asks other reads = let h = asks.1 in let k = other.1 in cc
reads_none words asked (Make number) asks other reads = reads
reads_none words asked (Serve again) asks other reads = reads
reads_none words asked (Relay again) asks other reads = reads
reads_none words asked (Agent again) asks other reads = reads
reads_none words asked (Session again) asks other reads =
    let e : ◌≡◌ {A = ℕ} 4 2 = ap (length {A = List ℕ}) (sym asks.1 ∙ other.1) in omega (arith, e)
reads_none words asked Help asks other reads = reads

pub good_unless_read : (command : DeskCommand) (input : List ℕ) → (ReadsSource command → ⊥) → IsGoodInput command input
good_unless_read Qna input unread = tt
good_unless_read QnaWorld input unread = absurd (unread tt)
good_unless_read Check input unread = absurd (unread tt)
good_unless_read Office input unread = absurd (unread tt)
good_unless_read (Make number) input unread = tt
good_unless_read (Serve asked) input unread = tt
good_unless_read (Relay asked) input unread = tt
good_unless_read (Agent asked) input unread = tt
good_unless_read (Session asked) input unread = absurd (unread tt)
good_unless_read Help input unread = tt

pub never_bad : (left : Option (List ℕ)) (command : DeskCommand) → (ReadsSource command → ⊥) → HasInput left (λ input. IsGoodInput command input → ⊥) → ⊥
never_bad None command unread has = has
never_bad (Some input) command unread has = has.1 (good_unless_read command input unread)

no_relay : (words : List (List ℕ)) (asked : ServeWords) (other : RelayWords) → Asks words (Serve asked) → Asks words (Relay other) → ⊥
no_relay words asked other p q = let e : ◌≡◌ {A = ℕ} 115 114 = first_letters words (Serve asked) (Relay other) p q in omega (arith, e)

no_agent : (words : List (List ℕ)) (asked : ServeWords) (other : AgentWords) → Asks words (Serve asked) → Asks words (Agent other) → ⊥
no_agent words asked other p q = let e : ◌≡◌ {A = ℕ} 115 97 = first_letters words (Serve asked) (Agent other) p q in omega (arith, e)

pub serve_comes : (words : List (List ℕ)) (asked : ServeWords) (status : Status) (left : Option (List ℕ)) (saved : Option (Option (List ℕ))) (old new : Scene) (Unwritten Unopened : Type 0) → Asks words (Serve asked)
    → ServeEnds asked status old new Unwritten Unopened → Comes words left saved status
serve_comes words asked status left saved old new Unwritten Unopened asks ends =
    let one = one_of_serve asked status old new Unwritten Unopened ends in record {
      usage = λ none. absurd (none (Serve asked) asks);
      too_long = λ reads. absurd (reads_none words asked reads.0 asks reads.1 reads.2);
      done = λ command other no_agents has no_source no_sink no_clock no_keeper no_door. done_or_memory status one no_sink no_keeper no_door;
      served = λ serves no_sink no_keeper no_door. done_or_memory status one no_sink no_keeper no_door;
      refused = λ command other has no_source no_sink. absurd (never_bad left command (λ reads. reads_none words asked command asks other reads) has);
      relayed = λ relays. absurd (no_relay words asked relays.0 asks relays.1);
      rounded = λ rounds. absurd (no_agent words asked rounds.0 asks rounds.1);
      bad_pocket = λ rounds. absurd (no_agent words asked rounds.0 asks rounds.1);
    }

-- ---- counts of faults

pub same_count : (a b : ℕ) (F : Type 0) → (F → ⊥) → b ≡ a → CountsFaults F a b
same_count a b F never same = record { rose = λ f. absurd (never f); steady = λ none. same; later = omega (arith, same) }

pub same_more : (a b : ℕ) (F : Type 0) → (F → ⊥) → a ≤ b → CountsMore F a b
same_more a b F never later = record { rose = λ f. absurd (never f); later = later }

-- nothing but the keeper, or then the door, was opened
pub unopened_counts : (status : Status) (old new : Scene) → status ≢ Sink → status ≢ Door → (status ≡ Keeper → Rose old.keeper.faults new.keeper.faults)
    → old.keeper.faults ≤ new.keeper.faults → new.door.faults ≡ old.door.faults → new.sink.faults ≡ old.sink.faults → CountsServe status old new
unopened_counts status old new no_sink no_door rose later door sink = record {
  sink = same_count old.sink.faults new.sink.faults (status ≡ Sink) no_sink sink;
  keeper = record { rose = rose; later = later };
  door = same_more old.door.faults new.door.faults (status ≡ Door) no_door (omega (arith, door));
}

-- both were opened, and conversations were served
pub opened_counts : (asked : ServeWords) (old opened new : Scene) (result : Result Unit Stop) (status : Status) → OpensBoth asked old put.Done opened → CountsServed result opened new
    → (status ≡ Sink → result ≡ Err stop.Sink) → (result ≡ Err stop.Sink → status ≡ Sink) → (status ≡ Door → result ≡ Err stop.Door) → status ≢ Keeper → CountsServe status old new
opened_counts asked old opened new result status both counts sink_is is_sink door_is no_keeper =
    let keeper_opened = both.keeper.only.counts.later in
    let keeper_served = counts.keeper in
    let door_opened = both.door.counts.later in
    let door_served = counts.door in
    let sink_opened = ap (λ (s : SinkView). s.faults) both.sink in
    let sink_served = counts.sink.later in
    let Rises : ℕ → Type 0 = λ n. Rose n new.sink.faults in record {
      sink = record {
        rose = λ is. subst Rises sink_opened (counts.sink.rose (sink_is is));
        steady = λ none. counts.sink.steady (λ is. none (is_sink is)) ∙ sink_opened;
        later = omega (arith, sink_opened, sink_served);
      };
      keeper = same_more old.keeper.faults new.keeper.faults (status ≡ Keeper) no_keeper (omega (arith, keeper_opened, keeper_served));
      door = record {
        rose = λ is. RoseBy-later 1 old.door.faults opened.door.faults new.door.faults door_opened (counts.rose (door_is is));
        later = omega (arith, door_opened, door_served);
      };
    }

-- no other device failed
never_source : (status : Status) → OneOfServe status → status ≡ Source → ⊥
never_source status (inl is) e = cc
never_source status (inr (inl is)) e = cc
never_source status (inr (inr (inl is))) e = cc
never_source status (inr (inr (inr (inl is)))) e = cc
never_source status (inr (inr (inr (inr is)))) e = cc

never_clock : (status : Status) → OneOfServe status → status ≡ Clock → ⊥
never_clock status (inl is) e = cc
never_clock status (inr (inl is)) e = cc
never_clock status (inr (inr (inl is))) e = cc
never_clock status (inr (inr (inr (inl is)))) e = cc
never_clock status (inr (inr (inr (inr is)))) e = cc

never_pocket : (status : Status) → OneOfServe status → status ≡ Pocket → ⊥
never_pocket status (inl is) e = cc
never_pocket status (inr (inl is)) e = cc
never_pocket status (inr (inr (inl is))) e = cc
never_pocket status (inr (inr (inr (inl is)))) e = cc
never_pocket status (inr (inr (inr (inr is)))) e = cc

pub serve_counts : (asked : ServeWords) (status : Status) (old new : AllDevices) (Unwritten Unopened : Type 0) → ServeEnds asked status (serving old) (serving new) Unwritten Unopened
    → new.source ≡ old.source → new.clock ≡ old.clock → new.pocket ≡ old.pocket → new.link ≡ old.link → new.machine ≡ old.machine
    → CountsServe status (serving old) (serving new) → CountsByStatus status old new
serve_counts asked status old new Unwritten Unopened ends source clock pocket link machine counts =
    let link_is = ap (λ (l : LinkView). l.faults) link in
    let machine_is = ap (λ (m : MachineView). m.faults) machine in
    let one = one_of_serve asked status (serving old) (serving new) Unwritten Unopened ends in record {
      source = same_count old.source.faults new.source.faults (status ≡ Source) (never_source status one) (ap (λ (s : SourceView). s.faults) source);
      sink = counts.sink;
      clock = same_count old.clock.faults new.clock.faults (status ≡ Clock) (never_clock status one) (ap (λ (s : ClockView). s.faults) clock);
      keeper = counts.keeper;
      door = counts.door;
      pocket = same_count old.pocket.faults new.pocket.faults (status ≡ Pocket) (never_pocket status one) (ap (λ (p : PocketView). p.faults) pocket);
      link = omega (arith, link_is);
      machine = omega (arith, machine_is);
    }

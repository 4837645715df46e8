-- How `relay` ends the run of its words: what was done, which status comes, and which counts rose.
use Rattle.std.proofs.Common.{◌≡◌, ◌≢◌, ◌⊎◌, ◌≤◌, ℕ, List, Result, Err, inl, inr, refl, sym, ap, ◌∙◌, subst, arith}
use Rattle.std.specs.declared.option.Option.{Option}
use Rattle.desk_base.specs.Counts.{Rose}
use Rattle.desk_base.specs.Views.{SourceView, SinkView, ClockView}
use Rattle.desk_base.specs.declared.sink.Put.TheVariants as put
use Rattle.bf_machine.specs.Views.{MachineView}
use Rattle.bf_machine.proofs.Telling.{RoseBy-later}
use Rattle.agent_text.specs.Pockets.{PocketView}
use Rattle.desk_door.specs.Links.{LinkView}
use Rattle.desk_keep.specs.Views.{KeeperView}
use Rattle.desk_serve.specs.declared.step.Stop.{Stop}
use Rattle.desk_serve.specs.declared.step.Stop.TheVariants as stop
use Rattle.relay_cache.specs.CachedFiles.{CacheState}
use Rattle.relay_core.specs.Relays.{RelayState}
use Rattle.desk_runs.specs.Counting.{CountsRelayed}
use Rattle.desk_top.specs.declared.command.DeskCommand.{DeskCommand}
use Rattle.desk_top.specs.declared.command.DeskCommand.TheVariants.{Qna, QnaWorld, Check, Office, Make, Serve, Relay, Agent, Session, Help}
use Rattle.desk_top.specs.declared.command.AgentWords.{AgentWords}
use Rattle.desk_top.specs.declared.command.RelayWords.{RelayWords}
use Rattle.desk_top.specs.declared.status.Status.{Status}
use Rattle.desk_top.specs.declared.status.Status.TheVariants.{Done, Usage, Refused, Source, Sink, Clock, Pocket, Keeper, Door, Memory, InputTooLong}
use Rattle.desk_top.specs.AllDevices.{AllDevices, relaying}
use Rattle.desk_top.specs.Commands.{Asks, ReadsSource}
use Rattle.desk_top.specs.Endings.{Comes, CountsByStatus, Ended, Unasked, Untouched}
use Rattle.desk_top.specs.Relayed.{CountsRelay, OpensRelay, RelayEnds, Relaying, RelaysAt, relay_at}
use Rattle.desk_top.specs.Served.{status_of_stop}
use Rattle.desk_top.proofs.FirstLetters.{first_letters}
use Rattle.desk_top.proofs.Serving.{keeps_source, never_bad, same_count, same_more, took_none}

-- a run that was cut ends with the status of what cut it
pub relay_cut_ends : (asked : RelayWords) (why : Stop) (status : Status) (old new : Relaying) (Unwritten Unopened : Type 0) → status ≡ status_of_stop why → RelaysAt asked old (Err why) new
    → RelayEnds asked status old new Unwritten Unopened
relay_cut_ends asked stop.Door status old new Unwritten Unopened is relays =
    let Ends : Status → Type 0 = λ s. RelayEnds asked s old new Unwritten Unopened in subst Ends (sym is) (inr relays)
relay_cut_ends asked stop.Sink status old new Unwritten Unopened is relays =
    let Ends : Status → Type 0 = λ s. RelayEnds asked s old new Unwritten Unopened in subst Ends (sym is) relays
relay_cut_ends asked stop.Memory status old new Unwritten Unopened is relays =
    let Ends : Status → Type 0 = λ s. RelayEnds asked s old new Unwritten Unopened in subst Ends (sym is) (inr relays)

-- so `relay` ends the run of its words
pub relay_ended : (words : List (List ℕ)) (asked : RelayWords) (status : Status) (old new : AllDevices) (Unwritten : Type 0) (same : Untouched) → Asks words (Relay asked)
    → new.source ≡ old.source → (Unwritten → Unasked same) → RelayEnds asked status (relaying old) (relaying new) Unwritten same.door → Ended status words old new same
relay_ended words asked Done old new Unwritten same asks source unasked ends = (Relay asked, asks, (keeps_source old new source, ends))
relay_ended words asked Usage old new Unwritten same asks source unasked ends = absurd ends
relay_ended words asked Refused old new Unwritten same asks source unasked ends = absurd ends
relay_ended words asked Source old new Unwritten same asks source unasked ends = absurd ends
relay_ended words asked Sink old new Unwritten same asks source unasked ends = inr (Relay asked, asks, (keeps_source old new source, (stop.Sink, refl, ends)))
relay_ended words asked Clock old new Unwritten same asks source unasked ends = absurd ends
relay_ended words asked Pocket old new Unwritten same asks source unasked ends = absurd ends
relay_ended words asked Keeper old new Unwritten same asks source unasked ends = absurd ends
relay_ended words asked Door old new Unwritten same asks source unasked (inl (both, unwritten)) = inr (asked, asks, inl (both, unasked unwritten))
relay_ended words asked Door old new Unwritten same asks source unasked (inr relays) = inr (asked, asks, inr relays)
relay_ended words asked Memory old new Unwritten same asks source unasked (inl (link, unwritten, unopened)) =
    inl ((Relay asked, asks, (link, unasked unwritten)), took_none old new source, unopened)
relay_ended words asked Memory old new Unwritten same asks source unasked (inr relays) = inr (Relay asked, asks, (keeps_source old new source, (stop.Memory, refl, relays)))
relay_ended words asked InputTooLong old new Unwritten same asks source unasked ends = absurd ends

-- the statuses with which `relay` ends
abbrev OneOfRelay : Status → Type 0
OneOfRelay status = (status ≡ Done) ⊎ (status ≡ Sink) ⊎ (status ≡ Door) ⊎ (status ≡ Memory)

one_of_relay : (asked : RelayWords) (status : Status) (old new : Relaying) (Unwritten Unopened : Type 0) → RelayEnds asked status old new Unwritten Unopened → OneOfRelay status
one_of_relay asked Done old new Unwritten Unopened ends = inl refl
one_of_relay asked Usage old new Unwritten Unopened ends = absurd ends
one_of_relay asked Refused old new Unwritten Unopened ends = absurd ends
one_of_relay asked Source old new Unwritten Unopened ends = absurd ends
one_of_relay asked Sink old new Unwritten Unopened ends = inr (inl refl)
one_of_relay asked Clock old new Unwritten Unopened ends = absurd ends
one_of_relay asked Pocket old new Unwritten Unopened ends = absurd ends
one_of_relay asked Keeper old new Unwritten Unopened ends = absurd ends
one_of_relay asked Door old new Unwritten Unopened ends = inr (inr (inl refl))
one_of_relay asked Memory old new Unwritten Unopened ends = inr (inr (inr refl))
one_of_relay asked InputTooLong old new Unwritten Unopened ends = absurd ends

done_or_memory : (status : Status) → OneOfRelay status → status ≢ Sink → status ≢ Door → (status ≡ Done) ⊎ (status ≡ Memory)
done_or_memory status (inl done) no_sink no_door = inl done
done_or_memory status (inr (inl sink)) no_sink no_door = absurd (no_sink sink)
done_or_memory status (inr (inr (inl door))) no_sink no_door = absurd (no_door door)
done_or_memory status (inr (inr (inr memory))) no_sink no_door = inr memory

-- the words of `relay` are those of no command that reads the source, and of no server and no agent
reads_none : (words : List (List ℕ)) (asked : RelayWords) (command : DeskCommand) → Asks words (Relay asked) → Asks words command → ReadsSource command → ⊥
reads_none words asked Qna asks other reads = let e : ◌≡◌ {A = ℕ} 114 113 = first_letters words (Relay asked) Qna asks other in omega (arith, e)
reads_none words asked QnaWorld asks other reads = let e : ◌≡◌ {A = ℕ} 114 113 = first_letters words (Relay asked) QnaWorld asks other in omega (arith, e)
reads_none words asked Check asks other reads = let e : ◌≡◌ {A = ℕ} 114 99 = first_letters words (Relay asked) Check asks other in omega (arith, e)
reads_none words asked Office asks other reads = let e : ◌≡◌ {A = ℕ} 114 111 = first_letters words (Relay asked) Office asks other in omega (arith, e)
reads_none words asked (Make number) asks other reads = reads
reads_none words asked (Serve again) asks other reads = reads
reads_none words asked (Relay again) asks other reads = reads
reads_none words asked (Agent again) asks other reads = reads
reads_none words asked (Session again) asks other reads = let e : ◌≡◌ {A = ℕ} 114 115 = first_letters words (Relay asked) (Session again) asks other in omega (arith, e)
reads_none words asked Help asks other reads = reads

no_agent : (words : List (List ℕ)) (asked : RelayWords) (other : AgentWords) → Asks words (Relay asked) → Asks words (Agent other) → ⊥
no_agent words asked other p q = let e : ◌≡◌ {A = ℕ} 114 97 = first_letters words (Relay asked) (Agent other) p q in omega (arith, e)

pub relay_comes : (words : List (List ℕ)) (asked : RelayWords) (status : Status) (left : Option (List ℕ)) (saved : Option (Option (List ℕ))) (old new : Relaying) (Unwritten Unopened : Type 0)
    → Asks words (Relay asked) → RelayEnds asked status old new Unwritten Unopened → Comes words left saved status
relay_comes words asked status left saved old new Unwritten Unopened asks ends =
    let one = one_of_relay asked status old new Unwritten Unopened ends in record {
      usage = λ none. absurd (none (Relay asked) asks);
      too_long = λ reads. absurd (reads_none words asked reads.0 asks reads.1 reads.2);
      done = λ command other no_agents has no_source no_sink no_clock no_keeper no_door. done_or_memory status one no_sink no_door;
      served = λ serves no_sink no_keeper no_door. done_or_memory status one no_sink no_door;
      refused = λ command other has no_source no_sink. absurd (never_bad left command (λ reads. reads_none words asked command asks other reads) has);
      relayed = λ relays no_sink no_door. done_or_memory status one no_sink no_door;
      rounded = λ rounds. absurd (no_agent words asked rounds.0 asks rounds.1);
      bad_pocket = λ rounds. absurd (no_agent words asked rounds.0 asks rounds.1);
    }

-- ---- counts of faults
-- the door couldn't be opened, or nothing was
pub relay_unopened : (status : Status) (old new : Relaying) → status ≢ Sink → (status ≡ Door → Rose old.door.faults new.door.faults) → old.door.faults ≤ new.door.faults
    → new.link.faults ≡ old.link.faults → new.sink.faults ≡ old.sink.faults → CountsRelay status old new
relay_unopened status old new no_sink rose later link sink = record {
  sink = same_count old.sink.faults new.sink.faults (status ≡ Sink) no_sink sink;
  door = record { rose = rose; later = later };
  link = omega (arith, link);
}

-- it was opened, and a relay was at work
pub relay_opened : (asked : RelayWords) (old opened new : Relaying) (first last : RelayState) (cache kept : Option CacheState) (result : Result Unit Stop) (status : Status) → OpensRelay asked old put.Done opened
    → CountsRelayed result (relay_at first cache opened) (relay_at last kept new)
    → (status ≡ Sink → result ≡ Err stop.Sink) → (result ≡ Err stop.Sink → status ≡ Sink) → (status ≡ Door → result ≡ Err stop.Door) → CountsRelay status old new
relay_opened asked old opened new first last cache kept result status opens counts sink_is is_sink door_is =
    let door_opened = opens.door.counts.later in
    let door_relayed = counts.door in
    let link_opened = ap (λ (l : LinkView). l.faults) opens.link in
    let link_relayed = counts.link in
    let sink_opened = ap (λ (s : SinkView). s.faults) opens.sink in
    let sink_relayed = counts.sink.later in
    let Rises : ℕ → Type 0 = λ n. Rose n new.sink.faults in record {
      sink = record {
        rose = λ is. subst Rises sink_opened (counts.sink.rose (sink_is is));
        steady = λ none. counts.sink.steady (λ is. none (is_sink is)) ∙ sink_opened;
        later = omega (arith, sink_opened, sink_relayed);
      };
      door = record {
        rose = λ is. RoseBy-later 1 old.door.faults opened.door.faults new.door.faults door_opened (counts.rose (door_is is));
        later = omega (arith, door_opened, door_relayed);
      };
      link = omega (arith, link_opened, link_relayed);
    }

-- no other device failed
never : (status other : Status) → OneOfRelay status → (OneOfRelay other → ⊥) → status ≡ other → ⊥
never status other one none e = let One : Status → Type 0 = OneOfRelay in none (subst One e one)

not_source : OneOfRelay Source → ⊥
not_source (inl e) = cc
not_source (inr (inl e)) = cc
not_source (inr (inr (inl e))) = cc
not_source (inr (inr (inr e))) = cc

not_clock : OneOfRelay Clock → ⊥
not_clock (inl e) = cc
not_clock (inr (inl e)) = cc
not_clock (inr (inr (inl e))) = cc
not_clock (inr (inr (inr e))) = cc

not_keeper : OneOfRelay Keeper → ⊥
not_keeper (inl e) = cc
not_keeper (inr (inl e)) = cc
not_keeper (inr (inr (inl e))) = cc
not_keeper (inr (inr (inr e))) = cc

not_pocket : OneOfRelay Pocket → ⊥
not_pocket (inl e) = cc
not_pocket (inr (inl e)) = cc
not_pocket (inr (inr (inl e))) = cc
not_pocket (inr (inr (inr e))) = cc

pub relay_counts : (asked : RelayWords) (status : Status) (old new : AllDevices) (Unwritten Unopened : Type 0) → RelayEnds asked status (relaying old) (relaying new) Unwritten Unopened
    → new.source ≡ old.source → new.clock ≡ old.clock → new.keeper ≡ old.keeper → new.pocket ≡ old.pocket → new.machine ≡ old.machine
    → CountsRelay status (relaying old) (relaying new) → CountsByStatus status old new
relay_counts asked status old new Unwritten Unopened ends source clock keeper pocket machine counts =
    let one = one_of_relay asked status (relaying old) (relaying new) Unwritten Unopened ends in
    let keeper_is = ap (λ (k : KeeperView). k.faults) keeper in
    let machine_is = ap (λ (m : MachineView). m.faults) machine in record {
      source = same_count old.source.faults new.source.faults (status ≡ Source) (never status Source one not_source) (ap (λ (s : SourceView). s.faults) source);
      sink = counts.sink;
      clock = same_count old.clock.faults new.clock.faults (status ≡ Clock) (never status Clock one not_clock) (ap (λ (s : ClockView). s.faults) clock);
      keeper = same_more old.keeper.faults new.keeper.faults (status ≡ Keeper) (never status Keeper one not_keeper) (omega (arith, keeper_is));
      door = counts.door;
      pocket = same_count old.pocket.faults new.pocket.faults (status ≡ Pocket) (never status Pocket one not_pocket) (ap (λ (p : PocketView). p.faults) pocket);
      link = counts.link;
      machine = omega (arith, machine_is);
    }

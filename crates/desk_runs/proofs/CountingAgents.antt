-- What an agent's rounds do to the counts of faults.
use Rattle.std.proofs.Common.{◌≡◌, ◌⊎◌, ◌≤◌, ℕ, ◌+◌, ℤ, Bool, List, [], ◌∷◌, ◌++◌, map, None, Some, Result, Ok, Err, inl, inr, refl, sym, ap, ◌∙◌, subst, arith}
use Rattle.std.specs.Prelude.{is_some}
use Rattle.std.specs.declared.option.Option.{Option}
use Rattle.desk_base.specs.Counts.{CountsFaults}
use Rattle.desk_base.specs.Views.{ClockView}
use Rattle.desk_base.specs.declared.clock.Told.TheVariants as told
use Rattle.bf_machine.specs.Rises.{RoseBy}
use Rattle.bf_machine.proofs.Telling.{RoseBy-later, RoseBy-more, RoseBy-none}
use Rattle.script_run.specs.Asking.{When}
use Rattle.agent_state.specs.States.{State}
use Rattle.agent_core.specs.Devices.{Devices}
use Rattle.agent_core.specs.Stops.{MachineHasCause}
use Rattle.agent_core.specs.declared.turned.Turned.{Turned}
use Rattle.agent_core.specs.declared.turned.Turned.TheVariants as of_turn
use Rattle.turn_lines.specs.declared.giver.FileAsked.{FileAsked}
use Rattle.turn_lines.specs.declared.giver.Given.{Given}
use Rattle.turn_lines.specs.declared.giver.Given.TheVariants as given
use Rattle.turn_lines.specs.Givers.{GivesAll, GiverView}
use Rattle.turn_lines.specs.TurnsWithFiles.{Closes, TurnsWithFiles, any_begun, asked_by, with_begun}
use Rattle.desk_rounds.specs.declared.agent_rounds.Rounder.{Rounder}
use Rattle.desk_rounds.specs.declared.agent_rounds.RoundEnd.{RoundEnd}
use Rattle.desk_rounds.specs.declared.agent_rounds.RoundEnd.TheVariants as end
use Rattle.desk_rounds.specs.declared.asking.Miss.{Miss}
use Rattle.desk_rounds.specs.declared.asking.Miss.TheVariants as miss
use Rattle.desk_rounds.specs.declared.part.Next.{Next}
use Rattle.desk_rounds.specs.declared.part.Next.TheVariants as next
use Rattle.desk_rounds.specs.AgentRounds.{AgentPoint, AgentRound, Ending, EndsQuietly, GathersFirst, IsPrinted, OpensFirst, PrintsTurns, RestOfRound, SaysBefore, TakesTurn, Then, TurnsAt, WholeRound, Within, end_of, lines_of_turns, missed_lines, short_end}
use Rattle.desk_rounds.specs.Asking.{AsksFor}
use Rattle.desk_rounds.specs.Clients.{At, agent_client, at}
use Rattle.desk_rounds.specs.Files.{FileSource, GivesFromLink, unasked}
use Rattle.desk_rounds.specs.Gathering.{GathersAll}
use Rattle.desk_rounds.specs.Lines.{Line, turned}
use Rattle.desk_rounds.specs.Parts.{Part}
use Rattle.desk_rounds.specs.Posting.{PostsAll}
use Rattle.desk_rounds.specs.Replies.{TellsFile}
use Rattle.desk_rounds.specs.Requests.{file_request}
use Rattle.desk_rounds.specs.Ways.{Way, switched, switched_now, way}
use Rattle.desk_rounds.specs.declared.way.Upstreams.{Upstreams}
use Rattle.desk_runs.proofs.CountingRounds.{Counts, asked_counts, fault_count, fewer, gathering_counts, gathering_quiet, missed_of, missed_one, no_count, none_rises, none_switched, of_link, posting_counts, posting_quiet, switched_silent, told_append, unanswered}
use Rattle.desk_runs.specs.Counting.{machine_fault_told, no_answer_told, told_in}

-- how many lines say that a look failed before an attempt began
abbrev pub unlooked : List Line → ℕ
unlooked lines = told_in machine_fault_told lines

-- what a part of a round does to the counts: the clock's and the pocket's rise where it ends by their fault alone
pub record CountsPart (old : AgentPoint) (ended : RoundEnd) (lines : List Line) (new : AgentPoint) : Type 0 where
  pub link : RoseBy (unanswered lines) old.at.way.link.faults new.at.way.link.faults
  pub clock : CountsFaults (ended ≡ end.ClockFault) old.clock.faults new.clock.faults
  pub pocket : CountsFaults (ended ≡ end.PocketFault) old.devices.pocket.faults new.devices.pocket.faults
  pub machine : RoseBy (unlooked lines) old.devices.machine.faults new.devices.machine.faults

abbrev pub AreCounted : Ending → Type 0
AreCounted part = (old : AgentPoint) (ended : RoundEnd) (lines : List Line) (new : AgentPoint) → part old ended lines new → CountsPart old ended lines new

-- ---- counts
-- one that stayed, as nothing failed
stayed : (a b : ℕ) (F : Type 0) → (F → ⊥) → b ≡ a → CountsFaults F a b
stayed a b F never same = record { rose = λ f. absurd (never f); steady = λ none. same; later = omega (arith, same) }

-- one that stayed before it was counted
counts_after : (a b c : ℕ) (F : Type 0) → b ≡ a → CountsFaults F b c → CountsFaults F a c
counts_after a b c F same counts = let Counted : ℕ → Type 0 = λ n. CountsFaults F n c in subst Counted same counts

-- the same by another cause
counts_by : (a b : ℕ) (F G : Type 0) → (F → G) → (G → F) → CountsFaults F a b → CountsFaults G a b
counts_by a b F G to from counts = record { rose = λ g. counts.rose (from g); steady = λ none. counts.steady (λ f. none (to f)); later = counts.later }

-- ---- parts of the agent and its link
not_clock : (then : Next) → end_of then ≡ end.ClockFault → ⊥
not_clock next.Item e = cc
not_clock next.Part e = cc
not_clock next.Memory e = cc

not_pocket : (then : Next) → end_of then ≡ end.PocketFault → ⊥
not_pocket next.Item e = cc
not_pocket next.Part e = cc
not_pocket next.Memory e = cc

within : (part : Part (At State)) → Counts no_answer_told (of_link fault_count) part → Counts machine_fault_told (of_link no_count) part → AreCounted (Within part)
within part counts quiet old ended lines new (then, after, did, ended_is, new_is) =
    let clock_is = ap (λ (p : AgentPoint). p.clock.faults) new_is in
    let pocket_is = ap (λ (p : AgentPoint). p.devices.pocket.faults) new_is in
    let machine_is = ap (λ (p : AgentPoint). p.devices.machine.faults) new_is in
    let Rose1 : AgentPoint → Type 0 = λ p. RoseBy (unanswered lines) old.at.way.link.faults p.at.way.link.faults in
    record {
      link = subst Rose1 (sym new_is) (counts old.at then lines after did);
      clock = stayed old.clock.faults new.clock.faults (ended ≡ end.ClockFault) (λ e. not_clock then (sym ended_is ∙ e)) clock_is;
      pocket = stayed old.devices.pocket.faults new.devices.pocket.faults (ended ≡ end.PocketFault) (λ e. not_pocket then (sym ended_is ∙ e)) pocket_is;
      machine = fewer (unlooked lines) 0 old.devices.machine.faults new.devices.machine.faults (omega (arith, none_rises (unlooked lines) (quiet old.at then lines after did)))
          (RoseBy-none old.devices.machine.faults new.devices.machine.faults (omega (arith, machine_is)));
    }

-- ---- one part after another
done_clock : end.Done ≡ end.ClockFault → ⊥
done_clock e = cc

done_pocket : end.Done ≡ end.PocketFault → ⊥
done_pocket e = cc

both : (old between new : AgentPoint) (ended : RoundEnd) (said more lines : List Line) → lines ≡ said ++ more → CountsPart old end.Done said between
    → CountsPart between ended more new → CountsPart old ended lines new
both old between new ended said more lines is p q =
    let told = ap unanswered is ∙ told_append no_answer_told said more in
    let looked = ap unlooked is ∙ told_append machine_fault_told said more in
    record {
      link = fewer (unanswered lines) (unanswered said + unanswered more) old.at.way.link.faults new.at.way.link.faults (omega (arith, told))
          (RoseBy-more (unanswered said) (unanswered more) old.at.way.link.faults between.at.way.link.faults new.at.way.link.faults p.link q.link);
      clock = counts_after old.clock.faults between.clock.faults new.clock.faults (ended ≡ end.ClockFault) (p.clock.steady done_clock) q.clock;
      pocket = counts_after old.devices.pocket.faults between.devices.pocket.faults new.devices.pocket.faults (ended ≡ end.PocketFault) (p.pocket.steady done_pocket) q.pocket;
      machine = fewer (unlooked lines) (unlooked said + unlooked more) old.devices.machine.faults new.devices.machine.faults (omega (arith, looked))
          (RoseBy-more (unlooked said) (unlooked more) old.devices.machine.faults between.devices.machine.faults new.devices.machine.faults p.machine q.machine);
    }

-- a part with which the round ends
ended_so : (old between new : AgentPoint) (one ended : RoundEnd) (said lines : List Line) → ended ≡ one → lines ≡ said → new ≡ between → CountsPart old one said between
    → CountsPart old ended lines new
ended_so old between new one ended said lines a b c counts =
    let P : RoundEnd → Type 0 = λ e. CountsPart old e said between in
    let Q : List Line → Type 0 = λ l. CountsPart old ended l between in
    let R : AgentPoint → Type 0 = λ p. CountsPart old ended lines p in
    subst R (sym c) (subst Q (sym b) (subst P (sym a) counts))

then_counts : (First Second : Ending) → AreCounted First → AreCounted Second → AreCounted (Then First Second)
then_counts First Second f s old ended lines new (end.Done, said, between, first, (more, second, is)) =
    both old between new ended said more lines is (f old end.Done said between first) (s between ended more new second)
then_counts First Second f s old ended lines new (end.ClockFault, said, between, first, (a, b, c)) =
    ended_so old between new end.ClockFault ended said lines a b c (f old end.ClockFault said between first)
then_counts First Second f s old ended lines new (end.PocketFault, said, between, first, (a, b, c)) =
    ended_so old between new end.PocketFault ended said lines a b c (f old end.PocketFault said between first)
then_counts First Second f s old ended lines new (end.Memory, said, between, first, (a, b, c)) =
    ended_so old between new end.Memory ended said lines a b c (f old end.Memory said between first)

-- ---- files from the link
-- one where the file that was asked for last didn't come as its exchange failed
abbrev pub missed_in : Option Miss → ℕ
missed_in None = 0
missed_in (Some why) = missed_one why

-- since it stood so the link's count rose by that, and by the line of the second upstream, where a file turned to it
abbrev pub MissedSince : Way → FileSource → Type 0
MissedSince before s = RoseBy (unanswered (switched before s.way) + missed_in s.missed) before.link.faults s.way.link.faults

-- a second upstream that was turned to in two stretches was turned to in one of them
turned_in : (x y z : Option (List ℕ)) → unanswered (switched_now (is_some x) z) ≤ unanswered (switched_now (is_some x) y) + unanswered (switched_now (is_some y) z)
turned_in None y z = omega arith
turned_in (Some a) None None = omega arith
turned_in (Some a) None (Some c) = omega arith
turned_in (Some a) (Some b) None = omega arith
turned_in (Some a) (Some b) (Some c) = omega arith

-- one more file was asked for, and this is told of it
rose_on : (before : Way) (n : ℕ) (old new : FileSource) → missed_in new.missed ≤ missed_in old.missed + n → MissedSince before old
    → RoseBy (unanswered (switched old.way new.way) + n) old.way.link.faults new.way.link.faults → MissedSince before new
rose_on before n old new few since rose =
    let first = unanswered (switched before old.way) + missed_in old.missed in
    let more = unanswered (switched old.way new.way) + n in
    let turned = turned_in before.second old.way.second new.way.second in
    fewer (unanswered (switched before new.way) + missed_in new.missed) (first + more) before.link.faults new.way.link.faults (omega (arith, few, turned))
    (RoseBy-more first more before.link.faults old.way.link.faults new.way.link.faults since rose)

asked_rose : (digest : List ℕ) (old new : Way) (came : Result (Option (List ℕ)) Miss) → AsksFor (file_request digest) TellsFile old came new
    → RoseBy (unanswered (switched old new) + missed_of missed_one came) old.link.faults new.link.faults
asked_rose digest old new came asks = asked_counts (Option (List ℕ)) (file_request digest) TellsFile old came new asks

as_before : (old new : Option Miss) → new ≡ old → missed_in new ≤ missed_in old + 0
as_before old new same = let e = ap missed_in same in omega (arith, e)

as_now : (why : Miss) (old new : Option Miss) → new ≡ Some why → missed_in new ≤ missed_in old + missed_one why
as_now why old new is = let e = ap missed_in is in omega (arith, e)

gives_one : (before : Way) (digest : List ℕ) (old : FileSource) (answer : Given) (new : FileSource) → GivesFromLink old digest answer new → MissedSince before old → MissedSince before new
gives_one before digest old answer new (Ok came, asks, by) since = rose_on before 0 old new (as_before old.missed new.missed by.1) since (asked_rose digest old.way new.way (Ok came) asks)
gives_one before digest old answer new (Err miss.Memory, asks, by) since =
    rose_on before 0 old new (as_before old.missed new.missed by.1) since (asked_rose digest old.way new.way (Err miss.Memory) asks)
gives_one before digest old answer new (Err miss.NoAnswer, asks, by) since =
    rose_on before 1 old new (as_now miss.NoAnswer old.missed new.missed by.1) since (asked_rose digest old.way new.way (Err miss.NoAnswer) asks)
gives_one before digest old answer new (Err miss.BadAnswer, asks, by) since =
    rose_on before 0 old new (as_now miss.BadAnswer old.missed new.missed by.1) since (asked_rose digest old.way new.way (Err miss.BadAnswer) asks)

same_since : (before : Way) (old new : GiverView FileSource) → new ≡ old → MissedSince before old.source → MissedSince before new.source
same_since before old new same since = let P : GiverView FileSource → Type 0 = λ g. MissedSince before g.source in subst P (sym same) since

gives_all : (before : Way) (old : GiverView FileSource) (files : List FileAsked) (new : GiverView FileSource) → GivesAll GivesFromLink old files new → MissedSince before old.source
    → MissedSince before new.source
gives_all before old [] new same since = same_since before old new same since
gives_all before old (asked ∷ files) new (between, gives, more) since =
    gives_all before between files new more (gives_one before asked.digest old.source asked.answer between.source gives.source since)

closed : (before : Way) (last : Turned) (g : GiverView FileSource) (answer : Turned) (g2 : GiverView FileSource) → Closes GivesFromLink last g answer g2 → MissedSince before g.source
    → MissedSince before g2.source
closed before of_turn.Idle g answer g2 (same, is) since = same_since before g g2 same since
closed before (of_turn.Interrupted id) g answer g2 (same, is) since = same_since before g g2 same since
closed before (of_turn.Held id began component line) g answer g2 (same, is) since = same_since before g g2 same since
closed before (of_turn.Wants id began digest) g answer g2 (inl (gives, is)) since = gives_one before digest g.source given.NotGot g2.source gives.source since
closed before (of_turn.Wants id began digest) g answer g2 (inr (gives, is)) since = gives_one before digest g.source given.Memory g2.source gives.source since
closed before (of_turn.Ended id began outcome fail) g answer g2 (same, is) since = same_since before g g2 same since
closed before of_turn.MachineFault g answer g2 (same, is) since = same_since before g g2 same since
closed before of_turn.PocketFault g answer g2 (same, is) since = same_since before g g2 same since
closed before of_turn.Memory g answer g2 (same, is) since = same_since before g g2 same since

-- what turns with files leave
pub turns_since : (at : When) (s : State) (d : Devices) (before : Way) (answer : Turned) (s2 : State) (d2 : Devices) (files : GiverView FileSource)
    → TurnsWithFiles GivesFromLink at s d (unasked before) answer s2 d2 files → MissedSince before files.source
turns_since at s d before answer s2 d2 files turns =
    let here = before.link.faults in
    let none = none_switched before.second in
    let unasked_yet = fewer (unanswered (switched before before) + 0) 0 here here (omega (arith, none)) (RoseBy-none here here (omega arith)) in
    let asked = gives_all before (unasked before) (map asked_by turns.turns.fetches) turns.told turns.turns.asked unasked_yet in
    closed before turns.last turns.told answer files turns.closes asked

-- ---- how turns end
-- an answer is a fault of the pocket exactly where another one is
pub record FaultAlike (answer other : Turned) : Type 0 where
  pub to : answer ≡ of_turn.PocketFault → other ≡ of_turn.PocketFault
  pub from : other ≡ of_turn.PocketFault → answer ≡ of_turn.PocketFault

alike : (answer other : Turned) → answer ≡ other → FaultAlike answer other
alike answer other is = record { to = λ e. sym is ∙ e; from = λ e. is ∙ e }

neither : (answer other : Turned) → (answer ≡ of_turn.PocketFault → ⊥) → (other ≡ of_turn.PocketFault → ⊥) → FaultAlike answer other
neither answer other a b = record { to = λ e. absurd (a e); from = λ e. absurd (b e) }

wants_no_fault : (id : ℕ) (began : Bool) (digest : List ℕ) → of_turn.Wants id began digest ≡ of_turn.PocketFault → ⊥
wants_no_fault id began digest e = cc

memory_no_fault : of_turn.Memory ≡ of_turn.PocketFault → ⊥
memory_no_fault e = cc

closes_alike : (last : Turned) (g : GiverView FileSource) (answer : Turned) (g2 : GiverView FileSource) → Closes GivesFromLink last g answer g2 → FaultAlike answer last
closes_alike of_turn.Idle g answer g2 (same, is) = alike answer of_turn.Idle is
closes_alike (of_turn.Interrupted id) g answer g2 (same, is) = alike answer (of_turn.Interrupted id) is
closes_alike (of_turn.Held id began component line) g answer g2 (same, is) = alike answer (of_turn.Held id began component line) is
closes_alike (of_turn.Wants id began digest) g answer g2 (inl (gives, is)) = alike answer (of_turn.Wants id began digest) is
closes_alike (of_turn.Wants id began digest) g answer g2 (inr (gives, is)) =
    neither answer (of_turn.Wants id began digest) (λ e. memory_no_fault (sym is ∙ e)) (wants_no_fault id began digest)
closes_alike (of_turn.Ended id began outcome fail) g answer g2 (same, is) = alike answer (of_turn.Ended id began outcome fail) is
closes_alike of_turn.MachineFault g answer g2 (same, is) = alike answer of_turn.MachineFault is
closes_alike of_turn.PocketFault g answer g2 (same, is) = alike answer of_turn.PocketFault is
closes_alike of_turn.Memory g answer g2 (same, is) = alike answer of_turn.Memory is

begun_alike : (begun : Bool) (last : Turned) → FaultAlike (with_begun begun last) last
begun_alike begun of_turn.Idle = alike of_turn.Idle of_turn.Idle refl
begun_alike begun (of_turn.Interrupted id) = alike (of_turn.Interrupted id) (of_turn.Interrupted id) refl
begun_alike begun (of_turn.Held id began component line) = neither (with_begun begun (of_turn.Held id began component line)) (of_turn.Held id began component line) (λ e. cc) (λ e. cc)
begun_alike begun (of_turn.Wants id began digest) = neither (with_begun begun (of_turn.Wants id began digest)) (of_turn.Wants id began digest) (λ e. cc) (λ e. cc)
begun_alike begun (of_turn.Ended id began outcome fail) = neither (with_begun begun (of_turn.Ended id began outcome fail)) (of_turn.Ended id began outcome fail) (λ e. cc) (λ e. cc)
begun_alike begun of_turn.MachineFault = alike of_turn.MachineFault of_turn.MachineFault refl
begun_alike begun of_turn.PocketFault = alike of_turn.PocketFault of_turn.PocketFault refl
begun_alike begun of_turn.Memory = alike of_turn.Memory of_turn.Memory refl

-- how the round ends by the answer of its turns
pub record EndsBy (answer : Turned) (ended : RoundEnd) : Type 0 where
  pub to : answer ≡ of_turn.PocketFault → ended ≡ end.PocketFault
  pub from : ended ≡ end.PocketFault → answer ≡ of_turn.PocketFault
  pub clock : ended ≡ end.ClockFault → ⊥

memory_clock : end.Memory ≡ end.ClockFault → ⊥
memory_clock e = cc

memory_pocket : end.Memory ≡ end.PocketFault → ⊥
memory_pocket e = cc

pocket_clock : end.PocketFault ≡ end.ClockFault → ⊥
pocket_clock e = cc

clock_pocket : end.ClockFault ≡ end.PocketFault → ⊥
clock_pocket e = cc

-- by an answer that is no fault of the pocket's it ends whole, or by want of memory
whole_or_memory : (answer : Turned) (said : List Line) (ended : RoundEnd) (lines : List Line) → (answer ≡ of_turn.PocketFault → ⊥)
    → IsPrinted said ended lines ⊎ EndsQuietly end.Memory ended lines → EndsBy answer ended
whole_or_memory answer said ended lines none (inl printed) = record {
  to = λ e. absurd (none e);
  from = λ e. absurd (done_pocket (sym printed.ended_is ∙ e));
  clock = λ e. done_clock (sym printed.ended_is ∙ e);
}
whole_or_memory answer said ended lines none (inr quiet) = record {
  to = λ e. absurd (none e);
  from = λ e. absurd (memory_pocket (sym quiet.ended_is ∙ e));
  clock = λ e. memory_clock (sym quiet.ended_is ∙ e);
}

memory_ends : (answer : Turned) (ended : RoundEnd) → ended ≡ end.Memory → (answer ≡ of_turn.PocketFault → ⊥) → EndsBy answer ended
memory_ends answer ended is none = record {
  to = λ e. absurd (none e);
  from = λ e. absurd (memory_pocket (sym is ∙ e));
  clock = λ e. memory_clock (sym is ∙ e);
}

-- the lines of turns tell no more than that a file didn't come
whole_told : (missed : Option Miss) (name : List ℕ) (moment : ℤ) (answer : Turned) → unanswered (missed_lines missed ++ turned name moment answer ∷ []) ≡ missed_in missed
whole_told None name moment answer = refl
whole_told (Some miss.NoAnswer) name moment answer = refl
whole_told (Some miss.BadAnswer) name moment answer = refl
whole_told (Some miss.Memory) name moment answer = refl

either_told : (rounder : Rounder) (moment : ℤ) (answer : Turned) (missed : Option Miss) (ended : RoundEnd) (lines : List Line)
    → IsPrinted (lines_of_turns rounder moment answer missed) ended lines ⊎ EndsQuietly end.Memory ended lines → unanswered lines ≤ missed_in missed
either_told rounder moment answer missed ended lines (inl printed) =
    let e = ap unanswered printed.lines_are ∙ whole_told missed rounder.name moment answer in omega (arith, e)
either_told rounder moment answer missed ended lines (inr quiet) = let e = ap unanswered quiet.quiet in omega (arith, e)

-- ---- looks that failed before an attempt began
-- one where the answer is that
abbrev pub look_fault : Turned → ℕ
look_fault of_turn.MachineFault = 1
look_fault answer = 0

machine_rise : (a b : ℕ) (answer : Turned) → MachineHasCause a b answer → RoseBy (look_fault answer) a b
machine_rise a b of_turn.Idle same = RoseBy-none a b (omega (arith, same))
machine_rise a b (of_turn.Interrupted id) same = RoseBy-none a b (omega (arith, same))
machine_rise a b (of_turn.Held id began component line) later = RoseBy-none a b later
machine_rise a b (of_turn.Wants id began digest) later = RoseBy-none a b later
machine_rise a b (of_turn.Ended id began outcome fail) later = RoseBy-none a b later
machine_rise a b of_turn.MachineFault rose = rose
machine_rise a b of_turn.PocketFault later = RoseBy-none a b later
machine_rise a b of_turn.Memory later = RoseBy-none a b later

begun_fault : (begun : Bool) (last : Turned) → look_fault (with_begun begun last) ≡ look_fault last
begun_fault begun of_turn.Idle = refl
begun_fault begun (of_turn.Interrupted id) = refl
begun_fault begun (of_turn.Held id began component line) = refl
begun_fault begun (of_turn.Wants id began digest) = refl
begun_fault begun (of_turn.Ended id began outcome fail) = refl
begun_fault begun of_turn.MachineFault = refl
begun_fault begun of_turn.PocketFault = refl
begun_fault begun of_turn.Memory = refl

same_fault : (answer other : Turned) → answer ≡ other → look_fault answer ≤ look_fault other
same_fault answer other is = let e = ap look_fault is in omega (arith, e)

closes_fault : (last : Turned) (g : GiverView FileSource) (answer : Turned) (g2 : GiverView FileSource) → Closes GivesFromLink last g answer g2 → look_fault answer ≤ look_fault last
closes_fault of_turn.Idle g answer g2 (same, is) = same_fault answer of_turn.Idle is
closes_fault (of_turn.Interrupted id) g answer g2 (same, is) = same_fault answer (of_turn.Interrupted id) is
closes_fault (of_turn.Held id began component line) g answer g2 (same, is) = same_fault answer (of_turn.Held id began component line) is
closes_fault (of_turn.Wants id began digest) g answer g2 (inl (gives, is)) = same_fault answer (of_turn.Wants id began digest) is
closes_fault (of_turn.Wants id began digest) g answer g2 (inr (gives, is)) = same_fault answer of_turn.Memory is
closes_fault (of_turn.Ended id began outcome fail) g answer g2 (same, is) = same_fault answer (of_turn.Ended id began outcome fail) is
closes_fault of_turn.MachineFault g answer g2 (same, is) = same_fault answer of_turn.MachineFault is
closes_fault of_turn.PocketFault g answer g2 (same, is) = same_fault answer of_turn.PocketFault is
closes_fault of_turn.Memory g answer g2 (same, is) = same_fault answer of_turn.Memory is

-- the lines of turns tell no more than their answer
line_fault : (name : List ℕ) (moment : ℤ) (answer : Turned) → machine_fault_told (turned name moment answer) ≡ look_fault answer
line_fault name moment of_turn.Idle = refl
line_fault name moment (of_turn.Interrupted id) = refl
line_fault name moment (of_turn.Held id began component line) = refl
line_fault name moment (of_turn.Wants id began digest) = refl
line_fault name moment (of_turn.Ended id began outcome fail) = refl
line_fault name moment of_turn.MachineFault = refl
line_fault name moment of_turn.PocketFault = refl
line_fault name moment of_turn.Memory = refl

missed_looks : (missed : Option Miss) → unlooked (missed_lines missed) ≡ 0
missed_looks None = refl
missed_looks (Some miss.NoAnswer) = omega arith
missed_looks (Some miss.BadAnswer) = omega arith
missed_looks (Some miss.Memory) = refl

whole_looks : (missed : Option Miss) (name : List ℕ) (moment : ℤ) (answer : Turned) → unlooked (missed_lines missed ++ turned name moment answer ∷ []) ≡ look_fault answer
whole_looks missed name moment answer =
    let front = missed_looks missed in
    let joined = told_append machine_fault_told (missed_lines missed) (turned name moment answer ∷ []) in
    let line = line_fault name moment answer in
    omega (arith, front, joined, line)

either_looks : (rounder : Rounder) (moment : ℤ) (answer : Turned) (missed : Option Miss) (ended : RoundEnd) (lines : List Line)
    → IsPrinted (lines_of_turns rounder moment answer missed) ended lines ⊎ EndsQuietly end.Memory ended lines → unlooked lines ≤ look_fault answer
either_looks rounder moment answer missed ended lines (inl printed) =
    let e = ap unlooked printed.lines_are ∙ whole_looks missed rounder.name moment answer in omega (arith, e)
either_looks rounder moment answer missed ended lines (inr quiet) = let e = ap unlooked quiet.quiet in omega (arith, e)

-- what is printed of turns tells how the round ends, and no more misses than there were
pub record PrintsSo (answer : Turned) (missed : Option Miss) (ended : RoundEnd) (lines : List Line) : Type 0 where
  pub ends : EndsBy answer ended
  pub told : unanswered lines ≤ missed_in missed
  pub looks : unlooked lines ≤ look_fault answer

either_so : (rounder : Rounder) (moment : ℤ) (answer : Turned) (missed : Option Miss) (ended : RoundEnd) (lines : List Line) → (answer ≡ of_turn.PocketFault → ⊥)
    → IsPrinted (lines_of_turns rounder moment answer missed) ended lines ⊎ EndsQuietly end.Memory ended lines → PrintsSo answer missed ended lines
either_so rounder moment answer missed ended lines none it = record {
  ends = whole_or_memory answer (lines_of_turns rounder moment answer missed) ended lines none it;
  told = either_told rounder moment answer missed ended lines it;
  looks = either_looks rounder moment answer missed ended lines it;
}

prints_so : (rounder : Rounder) (moment : ℤ) (answer : Turned) (missed : Option Miss) (ended : RoundEnd) (lines : List Line) → PrintsTurns rounder moment answer missed ended lines
    → PrintsSo answer missed ended lines
prints_so rounder moment of_turn.Idle missed ended lines it = either_so rounder moment of_turn.Idle missed ended lines (λ e. cc) it
prints_so rounder moment (of_turn.Interrupted id) missed ended lines it = either_so rounder moment (of_turn.Interrupted id) missed ended lines (λ e. cc) it
prints_so rounder moment (of_turn.Held id began component line) missed ended lines it =
    either_so rounder moment (of_turn.Held id began component line) missed ended lines (λ e. cc) it
prints_so rounder moment (of_turn.Wants id began digest) missed ended lines it = either_so rounder moment (of_turn.Wants id began digest) missed ended lines (λ e. cc) it
prints_so rounder moment (of_turn.Ended id began outcome fail) missed ended lines it =
    either_so rounder moment (of_turn.Ended id began outcome fail) missed ended lines (λ e. cc) it
prints_so rounder moment of_turn.MachineFault missed ended lines it = either_so rounder moment of_turn.MachineFault missed ended lines (λ e. cc) it
prints_so rounder moment of_turn.Memory missed ended lines quiet = either_so rounder moment of_turn.Memory missed ended lines (λ e. cc) (inr quiet)
prints_so rounder moment of_turn.PocketFault missed ended lines quiet =
    let none = ap unanswered quiet.quiet in
    let dark = ap unlooked quiet.quiet in record {
      ends = record { to = λ e. quiet.ended_is; from = λ e. refl; clock = λ e. pocket_clock (sym quiet.ended_is ∙ e) };
      told = omega (arith, none);
      looks = omega (arith, dark);
    }

-- what is said before is told too, and how the round ends stays what it is
record SaysSo (said : List Line) (answer : Turned) (missed : Option Miss) (ended : RoundEnd) (lines : List Line) : Type 0 where
  ends : EndsBy answer ended
  told : unanswered lines ≤ unanswered said + missed_in missed
  looks : unlooked lines ≤ look_fault answer

-- an end for want of memory for that
short_ends : (answer : Turned) (ended : RoundEnd) → ended ≡ short_end answer → EndsBy answer ended
short_ends of_turn.PocketFault ended is = record { to = λ e. is; from = λ e. refl; clock = λ e. pocket_clock (sym is ∙ e) }
short_ends of_turn.Idle ended is = memory_ends of_turn.Idle ended is (λ e. cc)
short_ends (of_turn.Interrupted id) ended is = memory_ends (of_turn.Interrupted id) ended is (λ e. cc)
short_ends (of_turn.Held id began component line) ended is = memory_ends (of_turn.Held id began component line) ended is (λ e. cc)
short_ends (of_turn.Wants id began digest) ended is = memory_ends (of_turn.Wants id began digest) ended is (λ e. cc)
short_ends (of_turn.Ended id began outcome fail) ended is = memory_ends (of_turn.Ended id began outcome fail) ended is (λ e. cc)
short_ends of_turn.MachineFault ended is = memory_ends of_turn.MachineFault ended is (λ e. cc)
short_ends of_turn.Memory ended is = memory_ends of_turn.Memory ended is (λ e. cc)

says_so : (rounder : Rounder) (moment : ℤ) (said : List Line) (answer : Turned) (missed : Option Miss) (ended : RoundEnd) (lines : List Line) → unlooked said ≡ 0
    → SaysBefore said answer (PrintsTurns rounder moment answer missed) ended lines → SaysSo said answer missed ended lines
says_so rounder moment [] answer missed ended lines dark prints =
    let so = prints_so rounder moment answer missed ended lines prints in
    let told = so.told in
    record { ends = so.ends; told = omega (arith, told); looks = so.looks }
says_so rounder moment (line ∷ said) answer missed ended lines dark (inl (more, prints, is)) =
    let so = prints_so rounder moment answer missed ended more prints in
    let told = ap unanswered is ∙ told_append no_answer_told (line ∷ said) more in
    let told_more = so.told in
    let looks = ap unlooked is ∙ told_append machine_fault_told (line ∷ said) more in
    let looks_more = so.looks in
    record { ends = so.ends; told = omega (arith, told, told_more); looks = omega (arith, looks, looks_more, dark) }
says_so rounder moment (line ∷ said) answer missed ended lines dark (inr quiet) =
    let none = ap unanswered quiet.quiet in
    let unlit = ap unlooked quiet.quiet in
    record { ends = short_ends answer ended quiet.ended_is; told = omega (arith, none); looks = omega (arith, unlit) }

-- ---- the turn of a round
turns_counted : (rounder : Rounder) (moment : ℤ) → AreCounted (TurnsAt rounder moment)
turns_counted rounder moment old ended lines new (answer, agent, after, files, turns, prints, new_is) =
    let made = turns.turns in
    let said = switched old.at.way files.source.way in
    let dark = switched_silent machine_fault_told refl (is_some old.at.way.second) files.source.way.second in
    let so = says_so rounder moment said answer files.source.missed ended lines dark prints in
    let by = so.ends in
    let closes = closes_alike turns.last turns.told answer files turns.closes in
    let begun = begun_alike (any_begun made.fetches) made.last in
    let here = old.at.way.link.faults in
    let since = turns_since (record { moment = moment; offset = rounder.offset }) old.at.client old.devices old.at.way answer agent after files turns in
    let machine_last = RoseBy-later (look_fault made.last) old.devices.machine.faults made.devices.machine.faults after.machine.faults made.machine
    (machine_rise made.devices.machine.faults after.machine.faults made.last made.cause.machine) in
    let told_last = closes_fault turns.last turns.told answer files turns.closes in
    let told_first = ap look_fault made.answers ∙ begun_fault (any_begun made.fetches) made.last in
    let told_looks = so.looks in
    let pocket_last = counts_after old.devices.pocket.faults made.devices.pocket.faults after.pocket.faults (made.last ≡ of_turn.PocketFault) made.pocket made.cause.pocket in
    let pocket_ended = counts_by old.devices.pocket.faults after.pocket.faults (made.last ≡ of_turn.PocketFault) (ended ≡ end.PocketFault)
    (λ e. by.to (closes.from (made.answers ∙ begun.from e))) (λ e. begun.to (sym made.answers ∙ closes.to (by.from e))) pocket_last in
    let Counted : AgentPoint → Type 0 = λ p. CountsPart old ended lines p in
    subst Counted (sym new_is) (record {
      link = fewer (unanswered lines) (unanswered said + missed_in files.source.missed) here files.source.way.link.faults so.told since;
      clock = stayed old.clock.faults old.clock.faults (ended ≡ end.ClockFault) by.clock refl;
      pocket = pocket_ended;
      machine = fewer (unlooked lines) (look_fault made.last) old.devices.machine.faults after.machine.faults (omega (arith, told_looks, told_last, told_first)) machine_last;
    })

moment_told : (moment : ℤ) → told.Moment moment ≡ told.Failed → ⊥
moment_told moment e = cc

turn_counted : (rounder : Rounder) → AreCounted (TakesTurn rounder)
turn_counted rounder old ended lines new (told.Moment moment, clock, asks, turns) =
    let counts = turns_counted rounder moment (record old { clock = clock }) ended lines new turns in
    record {
      link = counts.link;
      clock = counts_after old.clock.faults clock.faults new.clock.faults (ended ≡ end.ClockFault) (asks.counts.steady (moment_told moment)) counts.clock;
      pocket = counts.pocket;
      machine = counts.machine;
    }
turn_counted rounder old ended lines new (told.Failed, clock, asks, (quiet, new_is)) =
    let none = ap unanswered quiet.quiet in
    let dark = ap unlooked quiet.quiet in
    let here = old.at.way.link.faults in
    let Counted : AgentPoint → Type 0 = λ p. CountsPart old ended lines p in
    subst Counted (sym new_is) (record {
      link = fewer (unanswered lines) 0 here here (omega (arith, none)) (RoseBy-none here here (omega arith));
      clock = counts_by old.clock.faults clock.faults (told.Failed ≡ told.Failed) (ended ≡ end.ClockFault) (λ e. quiet.ended_is) (λ e. refl) asks.counts;
      pocket = stayed old.devices.pocket.faults old.devices.pocket.faults (ended ≡ end.PocketFault) (λ e. clock_pocket (sym quiet.ended_is ∙ e)) refl;
      machine = fewer (unlooked lines) 0 old.devices.machine.faults old.devices.machine.faults (omega (arith, dark)) (RoseBy-none old.devices.machine.faults old.devices.machine.faults (omega arith));
    })

-- ---- the round
-- a part that changes no count and prints nothing
quiet_counts : (old between new : AgentPoint) (wanted ended : RoundEnd) (lines : List Line) → (wanted ≡ end.ClockFault → ⊥) → (wanted ≡ end.PocketFault → ⊥) → EndsQuietly wanted ended lines → new ≡ between
    → between.at.way.link.faults ≡ old.at.way.link.faults → between.clock ≡ old.clock → between.devices ≡ old.devices → CountsPart old ended lines new
quiet_counts old between new wanted ended lines no_clock no_pocket quiet same link clock devices =
    let none = ap unanswered quiet.quiet in
    let dark = ap unlooked quiet.quiet in
    let machine_is = ap (λ (d : Devices). d.machine.faults) devices in
    let Counted : AgentPoint → Type 0 = λ p. CountsPart old ended lines p in
    subst Counted (sym same) (record {
      link = fewer (unanswered lines) 0 old.at.way.link.faults between.at.way.link.faults (omega (arith, none)) (RoseBy-none old.at.way.link.faults between.at.way.link.faults (omega (arith, link)));
      clock = stayed old.clock.faults between.clock.faults (ended ≡ end.ClockFault) (λ e. no_clock (sym quiet.ended_is ∙ e)) (ap (λ (c : ClockView). c.faults) clock);
      pocket = stayed old.devices.pocket.faults between.devices.pocket.faults (ended ≡ end.PocketFault) (λ e. no_pocket (sym quiet.ended_is ∙ e)) (ap (λ (d : Devices). d.pocket.faults) devices);
      machine = fewer (unlooked lines) 0 old.devices.machine.faults between.devices.machine.faults (omega (arith, dark))
          (RoseBy-none old.devices.machine.faults between.devices.machine.faults (omega (arith, machine_is)));
    })

-- the link is opened to the first of two upstreams, which changes no count and prints nothing
opens_counted : (upstreams : Option Upstreams) → AreCounted (OpensFirst upstreams)
opens_counted None old ended lines new (quiet, same) = quiet_counts old old new end.Done ended lines done_clock done_pocket quiet same refl refl refl
opens_counted (Some two) old ended lines new (inl (quiet, same)) =
    let opened : AgentPoint = record old { at = at old.at.client (way (record old.at.way.link { upstream = Some two.first }) (Some two.second)) } in
    quiet_counts old opened new end.Done ended lines done_clock done_pocket quiet same refl refl refl
opens_counted (Some two) old ended lines new (inr (quiet, same)) = quiet_counts old old new end.Memory ended lines memory_clock memory_pocket quiet same refl refl refl

whole_counts : (rounder : Rounder) → AreCounted (WholeRound rounder)
whole_counts rounder =
    then_counts (OpensFirst rounder.upstreams) (GathersFirst rounder) (opens_counted rounder.upstreams)
    (then_counts (Within (GathersAll agent_client)) (RestOfRound rounder) (within (GathersAll agent_client) (gathering_counts agent_client) (gathering_quiet agent_client))
    (then_counts (TakesTurn rounder) (Within (PostsAll agent_client)) (turn_counted rounder) (within (PostsAll agent_client) (posting_counts agent_client) (posting_quiet agent_client))))

pub round_counted : (rounder : Rounder) → AreCounted (AgentRound rounder)
round_counted rounder old ended lines new (last, did, is) =
    let counts = whole_counts rounder old ended lines last did in
    let Counted : AgentPoint → Type 0 = λ p. CountsPart old ended lines p in
    subst Counted (sym is) (record { link = counts.link; clock = counts.clock; pocket = counts.pocket; machine = counts.machine })

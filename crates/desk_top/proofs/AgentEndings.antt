-- How `agent` ends the run of its words: what was done, which status comes, and which counts rose.
use Rattle.std.proofs.Common.{◌≡◌, ◌≢◌, ◌⊎◌, ℕ, List, [], ◌++◌, All, get_or, None, Some, Result, Ok, Err, inl, inr, refl, sym, ap, ◌∙◌, subst, arith, append-nil}
use Rattle.std.proofs.lemmas.List.Elements.{All-nil}
use Rattle.std.specs.Prelude.{IsSomeAnd}
use Rattle.std.specs.declared.option.Option.{Option}
use Rattle.desk_base.specs.Counts.{CountsFaults}
use Rattle.desk_base.specs.Views.{SourceView, SinkView, ClockView}
use Rattle.line_forms.specs.LineStates.{lines_of, unended_of}
use Rattle.line_forms.specs.Lines.{IsLine, lines_text}
use Rattle.line_forms.specs.Numbers.{IsOffset}
use Rattle.line_forms.proofs.BadLines.{first_bad_line-none}
use Rattle.bf_machine.specs.Views.{MachineView}
use Rattle.agent_text.specs.Pockets.{Holds, PocketView}
use Rattle.agent_text.specs.SavedTexts.{AreSavedLines, ReadsSaved, saved_lines}
use Rattle.agent_text.specs.declared.error.SavedError.TheVariants as error
use Rattle.agent_text.specs.declared.saved.Saved.{Saved}
use Rattle.agent_text.proofs.SavedBytes.{saved_are}
use Rattle.agent_state.specs.States.{State}
use Rattle.agent_core.specs.Agents.{AgentState, shown_state}
use Rattle.agent_core.specs.Opens.{IsAgentOf, OpensFrom}
use Rattle.agent_core.specs.Stops.{HeldWaitsBelow}
use Rattle.agent_attempt.specs.Attempts.{PlainAttempt}
use Rattle.agent_core.specs.declared.opening.Opened.{Opened}
use Rattle.agent_core.specs.declared.opening.Opened.TheVariants as opened
use Rattle.desk_door.specs.Doors.{DoorView}
use Rattle.desk_door.specs.Links.{LinkView}
use Rattle.desk_keep.specs.Views.{KeeperView}
use Rattle.desk_rounds.specs.declared.agent_rounds.Rounder.{Rounder}
use Rattle.desk_runs.specs.declared.rounding.AgentStop.{AgentStop}
use Rattle.desk_runs.specs.declared.rounding.AgentStop.TheVariants as cut
use Rattle.desk_runs.specs.AgentRuns.{MakesAll}
use Rattle.desk_runs.specs.AgentSteps.{AgentScene}
use Rattle.desk_runs.specs.Counting.{CountsRounds}
use Rattle.desk_top.specs.declared.command.AgentWords.{AgentWords}
use Rattle.desk_top.specs.declared.command.DeskCommand.{DeskCommand}
use Rattle.desk_top.specs.declared.command.DeskCommand.TheVariants.{Qna, QnaWorld, Check, Office, Make, Serve, Relay, Agent, Session, Help}
use Rattle.desk_top.specs.declared.command.RelayWords.{RelayWords}
use Rattle.desk_top.specs.declared.command.ServeWords.{ServeWords}
use Rattle.desk_top.specs.declared.status.Status.{Status}
use Rattle.desk_top.specs.declared.status.Status.TheVariants.{Done, Usage, Refused, Source, Sink, Clock, Pocket, Keeper, Door, Memory, InputTooLong}
use Rattle.desk_top.specs.AllDevices.{AllDevices, rounding}
use Rattle.desk_top.specs.Commands.{Asks, IsAgents, ReadsSource}
use Rattle.desk_top.specs.Endings.{Comes, CountsByStatus, Ended, Untouched}
use Rattle.desk_top.specs.Relayed.{with_upstream}
use Rattle.desk_top.specs.Rounded.{AgentEnds, CountsAgent, EndsRounds, IsBadPocket, OpensNone, OpensRounds, Rounding, RoundsAt, SaysBadPocket, agent_at, rounder_of, status_of_rounds}
use Rattle.desk_top.proofs.FirstLetters.{first_letters}
use Rattle.desk_top.proofs.Serving.{keeps_source, never_bad, same_count, same_more, took_none}

-- ---- what is done inside
-- rounds that were cut end with the status of what cut them
pub agent_cut_ends : (asked : AgentWords) (why : AgentStop) (status : Status) (old new : Rounding) (Unwritten Untimed : Type 0) → status ≡ status_of_rounds why → RoundsAt asked old (Err why) new
    → AgentEnds asked status old new Unwritten Untimed
agent_cut_ends asked cut.Clock status old new Unwritten Untimed is rounds =
    let Ends : Status → Type 0 = λ s. AgentEnds asked s old new Unwritten Untimed in subst Ends (sym is) rounds
agent_cut_ends asked cut.Pocket status old new Unwritten Untimed is rounds =
    let Ends : Status → Type 0 = λ s. AgentEnds asked s old new Unwritten Untimed in subst Ends (sym is) (inr rounds)
agent_cut_ends asked cut.Sink status old new Unwritten Untimed is rounds =
    let Ends : Status → Type 0 = λ s. AgentEnds asked s old new Unwritten Untimed in subst Ends (sym is) (inr rounds)
agent_cut_ends asked cut.Memory status old new Unwritten Untimed is rounds =
    let Ends : Status → Type 0 = λ s. AgentEnds asked s old new Unwritten Untimed in subst Ends (sym is) (inr rounds)

-- where all places were named, nothing else is done
abbrev pub named : AgentWords → Rounding → Rounding
named asked old = record old { link = with_upstream asked.upstream.now old.link }

pub named_none : (asked : AgentWords) (old new : Rounding) → new ≡ named asked old → OpensNone asked old new
named_none asked old new is = record {
  link = inr (ap (λ (d : Rounding). d.link) is);
  pocket = ap (λ (d : Rounding). d.pocket) is;
  machine = ap (λ (d : Rounding). d.machine) is;
}

-- and then an agent was to be opened
pub opens_rounds : (asked : AgentWords) (old mid : Rounding) (answer : Opened) (pocket : PocketView) → mid ≡ named asked old → OpensFrom asked.name.now mid.pocket answer pocket
    → OpensRounds asked old answer (record mid { pocket = pocket })
opens_rounds asked old mid answer pocket is opens =
    let From : PocketView → Type 0 = λ p. OpensFrom asked.name.now p answer pocket in record {
      link = ap (λ (d : Rounding). d.link) is;
      pocket = subst From (ap (λ (d : Rounding). d.pocket) is) opens;
      machine = ap (λ (d : Rounding). d.machine) is;
      clock = ap (λ (d : Rounding). d.clock) is;
      sink = ap (λ (d : Rounding). d.sink) is;
    }

same_pocket : (name : List ℕ) (old new : PocketView) (answer : Opened) → answer ≢ opened.PocketFault → OpensFrom name old answer new → new ≡ old
same_pocket name old new answer known opens =
    let saved = opens.saved in
    let faults = opens.counts.steady known in
    λ i. record { saved = saved i; faults = faults i }

pub opened_none : (asked : AgentWords) (old new : Rounding) (answer : Opened) → answer ≢ opened.PocketFault → OpensRounds asked old answer new → OpensNone asked old new
opened_none asked old new answer known opens = record {
  link = inr opens.link;
  pocket = same_pocket asked.name.now old.pocket new.pocket answer known opens.pocket;
  machine = opens.machine;
}

-- its text was refused
pub refusal_ends : (asked : AgentWords) (line : ℕ) (status : Status) (old mid : Rounding) (sink : SinkView) (Unwritten Untimed : Type 0) → OpensRounds asked old (opened.BadPocket line) mid
    → SaysBadPocket status line mid.sink sink Unwritten → Untimed → AgentEnds asked status old (record mid { sink = sink }) Unwritten Untimed
refusal_ends asked line Done old mid sink Unwritten Untimed opens says untimed = absurd says
refusal_ends asked line Usage old mid sink Unwritten Untimed opens says untimed = absurd says
refusal_ends asked line Refused old mid sink Unwritten Untimed opens says untimed = (line, record { before = mid; opens = opens; writes = says; rest = refl })
refusal_ends asked line Source old mid sink Unwritten Untimed opens says untimed = absurd says
refusal_ends asked line Sink old mid sink Unwritten Untimed opens says untimed = inl (line, record { before = mid; opens = opens; writes = says; rest = refl })
refusal_ends asked line Clock old mid sink Unwritten Untimed opens says untimed = absurd says
refusal_ends asked line Pocket old mid sink Unwritten Untimed opens says untimed = absurd says
refusal_ends asked line Keeper old mid sink Unwritten Untimed opens says untimed = absurd says
refusal_ends asked line Door old mid sink Unwritten Untimed opens says untimed = absurd says
refusal_ends asked line Memory old mid sink Unwritten Untimed opens says untimed =
    let none = opened_none asked old mid (opened.BadPocket line) (λ e. cc) opens in
    inl (record { link = none.link; pocket = none.pocket; machine = none.machine }, says, untimed)
refusal_ends asked line InputTooLong old mid sink Unwritten Untimed opens says untimed = absurd says

-- the same of what says more of the sink
pub says_as : (status : Status) (line : ℕ) (old new : SinkView) (Unwritten Same : Type 0) → (Unwritten → Same) → SaysBadPocket status line old new Unwritten → SaysBadPocket status line old new Same
says_as Done line old new Unwritten Same to says = absurd says
says_as Usage line old new Unwritten Same to says = absurd says
says_as Refused line old new Unwritten Same to says = says
says_as Source line old new Unwritten Same to says = absurd says
says_as Sink line old new Unwritten Same to says = says
says_as Clock line old new Unwritten Same to says = absurd says
says_as Pocket line old new Unwritten Same to says = absurd says
says_as Keeper line old new Unwritten Same to says = absurd says
says_as Door line old new Unwritten Same to says = absurd says
says_as Memory line old new Unwritten Same to says = to says
says_as InputTooLong line old new Unwritten Same to says = absurd says

-- an agent that was opened holds no attempt
held_none : (name : List ℕ) (saved : Option (List ℕ)) (s : State) → IsAgentOf name saved s → s.held ≡ None
held_none name None s is = ap (λ (t : State). t.held) is
held_none name (Some text) s (saved, reads, is) = ap (λ (t : State). t.held) is

pub opened_waits : (name : List ℕ) (old new : PocketView) (agent : AgentState) (started : ℕ) → OpensFrom name old (opened.Agent agent) new → HeldWaitsBelow started (shown_state agent).held
opened_waits name old new agent started opens =
    let Waits : Option PlainAttempt → Type 0 = HeldWaitsBelow started in
    let found = opens.opens in
    subst Waits (sym (held_none name found.0 (shown_state agent) found.2)) tt

-- a name that was copied is the name
pub opened_by : (name copied : List ℕ) (old new : PocketView) (answer : Opened) → copied ≡ name → OpensFrom copied old answer new → OpensFrom name old answer new
opened_by name copied old new answer same opens = let From : List ℕ → Type 0 = λ n. OpensFrom n old answer new in subst From same opens

-- ---- rounds
pub made_ends : (rounder : Rounder) (count : ℕ) (begun : AgentScene) (new : Rounding) (last : State) (why : AgentStop) (status : Status) → status ≡ status_of_rounds why
    → MakesAll rounder begun count (Err why) (agent_at last new) → EndsRounds rounder count status begun new
made_ends rounder count begun new last cut.Clock status is makes =
    let Ends : Status → Type 0 = λ s. EndsRounds rounder count s begun new in subst Ends (sym is) (last, makes)
made_ends rounder count begun new last cut.Pocket status is makes =
    let Ends : Status → Type 0 = λ s. EndsRounds rounder count s begun new in subst Ends (sym is) (last, makes)
made_ends rounder count begun new last cut.Sink status is makes =
    let Ends : Status → Type 0 = λ s. EndsRounds rounder count s begun new in subst Ends (sym is) (last, makes)
made_ends rounder count begun new last cut.Memory status is makes =
    let Ends : Status → Type 0 = λ s. EndsRounds rounder count s begun new in subst Ends (sym is) (last, makes)

-- the same where the words were copied
pub ends_by : (asked : AgentWords) (copied : Rounder) (count : ℕ) (status : Status) (begun : AgentScene) (new : Rounding) → copied ≡ rounder_of asked
    → EndsRounds copied count status begun new → EndsRounds (rounder_of asked) count status begun new
ends_by asked copied count status begun new same ends =
    let Ends : Rounder → Type 0 = λ r. EndsRounds r count status begun new in subst Ends same ends

pub copied_offset : (asked : AgentWords) (copied : Rounder) → copied ≡ rounder_of asked → IsOffset asked.offset → IsOffset copied.offset
copied_offset asked copied same is = let At : Rounder → Type 0 = λ r. IsOffset r.offset in subst At (sym same) is

pub rounds_end : (asked : AgentWords) (status : Status) (old begun new : Rounding) (agent : AgentState) (Unwritten Untimed : Type 0) → OpensRounds asked old (opened.Agent agent) begun
    → EndsRounds (rounder_of asked) asked.count status (agent_at (shown_state agent) begun) new → AgentEnds asked status old new Unwritten Untimed
rounds_end asked Done old begun new agent Unwritten Untimed opens (last, makes) = (begun, agent, last, opens, makes)
rounds_end asked Usage old begun new agent Unwritten Untimed opens ends = absurd ends
rounds_end asked Refused old begun new agent Unwritten Untimed opens ends = absurd ends
rounds_end asked Source old begun new agent Unwritten Untimed opens ends = absurd ends
rounds_end asked Sink old begun new agent Unwritten Untimed opens (last, makes) = inr (begun, agent, last, opens, makes)
rounds_end asked Clock old begun new agent Unwritten Untimed opens (last, makes) = (begun, agent, last, opens, makes)
rounds_end asked Pocket old begun new agent Unwritten Untimed opens (last, makes) = inr (begun, agent, last, opens, makes)
rounds_end asked Keeper old begun new agent Unwritten Untimed opens ends = absurd ends
rounds_end asked Door old begun new agent Unwritten Untimed opens ends = absurd ends
rounds_end asked Memory old begun new agent Unwritten Untimed opens (last, makes) = inr (begun, agent, last, opens, makes)
rounds_end asked InputTooLong old begun new agent Unwritten Untimed opens ends = absurd ends

-- ---- the run of the words
pub agent_ended : (words : List (List ℕ)) (asked : AgentWords) (status : Status) (old new : AllDevices) (same : Untouched) → Asks words (Agent asked)
    → new.source ≡ old.source → same.door → AgentEnds asked status (rounding old) (rounding new) same.sink same.clock → Ended status words old new same
agent_ended words asked Done old new same asks source door ends = (Agent asked, asks, (keeps_source old new source, ends))
agent_ended words asked Usage old new same asks source door ends = absurd ends
agent_ended words asked Refused old new same asks source door ends = inr (asked, asks, ends)
agent_ended words asked Source old new same asks source door ends = absurd ends
agent_ended words asked Sink old new same asks source door (inl (line, refuses)) = inr (Agent asked, asks, (keeps_source old new source, inl (refl, line, refuses)))
agent_ended words asked Sink old new same asks source door (inr rounds) = inr (Agent asked, asks, (keeps_source old new source, inr (cut.Sink, refl, rounds)))
agent_ended words asked Clock old new same asks source door ends = (Agent asked, asks, (keeps_source old new source, (tt, inr (cut.Clock, refl, ends))))
agent_ended words asked Pocket old new same asks source door (inl (opens, unwritten, untimed)) = (asked, asks, inl (opens, (unwritten, untimed)))
agent_ended words asked Pocket old new same asks source door (inr rounds) = (asked, asks, inr rounds)
agent_ended words asked Keeper old new same asks source door ends = absurd ends
agent_ended words asked Door old new same asks source door ends = absurd ends
agent_ended words asked Memory old new same asks source door (inl (none, unwritten, untimed)) = inl ((Agent asked, asks, (none, (unwritten, untimed))), took_none old new source, door)
agent_ended words asked Memory old new same asks source door (inr rounds) = inr (Agent asked, asks, (keeps_source old new source, inr (cut.Memory, refl, rounds)))
agent_ended words asked InputTooLong old new same asks source door ends = absurd ends

-- ---- which status comes
-- the lines of a text are read again
abbrev LinesAgain : Type 0
LinesAgain = (lines : List (List ℕ)) (unended : List ℕ) → All IsLine lines → IsLine unended → lines_of (lines_text lines ++ unended) ≡ lines

abbrev UnendedAgain : Type 0
UnendedAgain = (lines : List (List ℕ)) (unended : List ℕ) → All IsLine lines → IsLine unended → unended_of (lines_text lines ++ unended) ≡ unended

-- what was saved has no bad line
not_both : LinesAgain → UnendedAgain → (name text : List ℕ) (saved : Saved) (line : ℕ) → ReadsSaved name text (Ok saved) → ReadsSaved name text (Err (error.BadLine line)) → ⊥
not_both again rest name text saved line (form, by, is) (n, bad, e) =
    let are = saved_are form saved by.0 by.1 in
    let no_line : IsLine [] = All-nil (λ x. x ≢ 10) in
    let joined : text ≡ lines_text (saved_lines form saved) ++ [] = is ∙ sym (append-nil (lines_text (saved_lines form saved))) in
    let lines : lines_of text ≡ saved_lines form saved = ap lines_of joined ∙ again (saved_lines form saved) [] are no_line in
    let unended : unended_of text ≡ [] = ap unended_of joined ∙ rest (saved_lines form saved) [] are no_line in
    first_bad_line-none (AreSavedLines name) text n (unended, (form, saved, by, lines)) bad

-- an agent that was opened refused nothing
opened_good : LinesAgain → UnendedAgain → (name : List ℕ) (saved : Option (List ℕ)) (s : State) → IsAgentOf name saved s → IsBadPocket name saved → ⊥
opened_good again rest name None s is bad = bad
opened_good again rest name (Some text) s (saved, reads, is) (line, bad) = not_both again rest name text saved line reads bad

never_opened : LinesAgain → UnendedAgain → (name : List ℕ) (told : Option (Option (List ℕ))) (s : State) (saved : Option (List ℕ)) → Holds told (λ now. now ≡ saved) → IsAgentOf name saved s
    → IsSomeAnd told (IsBadPocket name) → ⊥
never_opened again rest name None s saved holds is bad = bad
never_opened again rest name (Some now) s saved holds is bad =
    let Bad : Option (List ℕ) → Type 0 = IsBadPocket name in
    opened_good again rest name saved s is (subst Bad holds bad)

never_rounds : LinesAgain → UnendedAgain → (asked : AgentWords) (old new : Rounding) (result : Result Unit AgentStop) → RoundsAt asked old result new → IsSomeAnd old.pocket.saved (IsBadPocket asked.name.now) → ⊥
never_rounds again rest asked old new result (begun, agent, last, opens, makes) bad =
    let found = opens.pocket.opens in
    never_opened again rest asked.name.now old.pocket.saved (shown_state agent) found.0 found.1 found.2 bad

-- a pocket that was refused is a bad one
refused_bad : (name : List ℕ) (told : Option (Option (List ℕ))) (text : List ℕ) (line : ℕ) → Holds told (λ now. now ≡ Some text) → ReadsSaved name text (Err (error.BadLine line))
    → IsSomeAnd told (λ now. IsBadPocket name now → ⊥) → ⊥
refused_bad name None text line holds reads good = good
refused_bad name (Some now) text line holds reads good =
    let Bad : Option (List ℕ) → Type 0 = IsBadPocket name in
    good (subst Bad (sym holds) (line, reads))

never_refused : (asked : AgentWords) (line : ℕ) (old new : Rounding) → OpensRounds asked old (opened.BadPocket line) new → IsSomeAnd old.pocket.saved (λ now. IsBadPocket asked.name.now now → ⊥) → ⊥
never_refused asked line old new opens good =
    let found = opens.pocket.opens in
    refused_bad asked.name.now old.pocket.saved found.0 line found.1 found.2 good

abbrev OrMemory : Status → Status → Type 0
OrMemory status wanted = (status ≡ wanted) ⊎ (status ≡ Memory)

good_is_done : (asked : AgentWords) (status : Status) (old new : Rounding) (Unwritten Untimed : Type 0) → AgentEnds asked status old new Unwritten Untimed
    → IsSomeAnd old.pocket.saved (λ now. IsBadPocket asked.name.now now → ⊥) → status ≢ Sink → status ≢ Clock → status ≢ Pocket → OrMemory status Done
good_is_done asked Done old new Unwritten Untimed ends good no_sink no_clock no_pocket = inl refl
good_is_done asked Usage old new Unwritten Untimed ends good no_sink no_clock no_pocket = absurd ends
good_is_done asked Refused old new Unwritten Untimed (line, refuses) good no_sink no_clock no_pocket = absurd (never_refused asked line old refuses.before refuses.opens good)
good_is_done asked Source old new Unwritten Untimed ends good no_sink no_clock no_pocket = absurd ends
good_is_done asked Sink old new Unwritten Untimed ends good no_sink no_clock no_pocket = absurd (no_sink refl)
good_is_done asked Clock old new Unwritten Untimed ends good no_sink no_clock no_pocket = absurd (no_clock refl)
good_is_done asked Pocket old new Unwritten Untimed ends good no_sink no_clock no_pocket = absurd (no_pocket refl)
good_is_done asked Keeper old new Unwritten Untimed ends good no_sink no_clock no_pocket = absurd ends
good_is_done asked Door old new Unwritten Untimed ends good no_sink no_clock no_pocket = absurd ends
good_is_done asked Memory old new Unwritten Untimed ends good no_sink no_clock no_pocket = inr refl
good_is_done asked InputTooLong old new Unwritten Untimed ends good no_sink no_clock no_pocket = absurd ends

bad_is_refused : LinesAgain → UnendedAgain → (asked : AgentWords) (status : Status) (old new : Rounding) (Unwritten Untimed : Type 0) → AgentEnds asked status old new Unwritten Untimed
    → IsSomeAnd old.pocket.saved (IsBadPocket asked.name.now) → status ≢ Sink → status ≢ Pocket → OrMemory status Refused
bad_is_refused again rest asked Done old new Unwritten Untimed ends bad no_sink no_pocket = absurd (never_rounds again rest asked old new (Ok tt) ends bad)
bad_is_refused again rest asked Usage old new Unwritten Untimed ends bad no_sink no_pocket = absurd ends
bad_is_refused again rest asked Refused old new Unwritten Untimed ends bad no_sink no_pocket = inl refl
bad_is_refused again rest asked Source old new Unwritten Untimed ends bad no_sink no_pocket = absurd ends
bad_is_refused again rest asked Sink old new Unwritten Untimed ends bad no_sink no_pocket = absurd (no_sink refl)
bad_is_refused again rest asked Clock old new Unwritten Untimed ends bad no_sink no_pocket = absurd (never_rounds again rest asked old new (Err cut.Clock) ends bad)
bad_is_refused again rest asked Pocket old new Unwritten Untimed ends bad no_sink no_pocket = absurd (no_pocket refl)
bad_is_refused again rest asked Keeper old new Unwritten Untimed ends bad no_sink no_pocket = absurd ends
bad_is_refused again rest asked Door old new Unwritten Untimed ends bad no_sink no_pocket = absurd ends
bad_is_refused again rest asked Memory old new Unwritten Untimed ends bad no_sink no_pocket = inr refl
bad_is_refused again rest asked InputTooLong old new Unwritten Untimed ends bad no_sink no_pocket = absurd ends

-- words ask for one agent, and for no other command
reads_none : (words : List (List ℕ)) (asked : AgentWords) (command : DeskCommand) → Asks words (Agent asked) → Asks words command → ReadsSource command → ⊥
reads_none words asked Qna asks other reads = let e : ◌≡◌ {A = ℕ} 97 113 = first_letters words (Agent asked) Qna asks other in omega (arith, e)
reads_none words asked QnaWorld asks other reads = let e : ◌≡◌ {A = ℕ} 97 113 = first_letters words (Agent asked) QnaWorld asks other in omega (arith, e)
reads_none words asked Check asks other reads = let e : ◌≡◌ {A = ℕ} 97 99 = first_letters words (Agent asked) Check asks other in omega (arith, e)
reads_none words asked Office asks other reads = let e : ◌≡◌ {A = ℕ} 97 111 = first_letters words (Agent asked) Office asks other in omega (arith, e)
reads_none words asked (Make number) asks other reads = reads
reads_none words asked (Serve again) asks other reads = reads
reads_none words asked (Relay again) asks other reads = reads
reads_none words asked (Agent again) asks other reads = reads
reads_none words asked (Session again) asks other reads = let e : ◌≡◌ {A = ℕ} 97 115 = first_letters words (Agent asked) (Session again) asks other in omega (arith, e)
reads_none words asked Help asks other reads = reads

is_agents : (words : List (List ℕ)) (asked : AgentWords) (command : DeskCommand) → Asks words (Agent asked) → Asks words command → (IsAgents command → ⊥) → ⊥
is_agents words asked Qna asks other none = let e : ◌≡◌ {A = ℕ} 97 113 = first_letters words (Agent asked) Qna asks other in omega (arith, e)
is_agents words asked QnaWorld asks other none = let e : ◌≡◌ {A = ℕ} 97 113 = first_letters words (Agent asked) QnaWorld asks other in omega (arith, e)
is_agents words asked Check asks other none = let e : ◌≡◌ {A = ℕ} 97 99 = first_letters words (Agent asked) Check asks other in omega (arith, e)
is_agents words asked Office asks other none = let e : ◌≡◌ {A = ℕ} 97 111 = first_letters words (Agent asked) Office asks other in omega (arith, e)
is_agents words asked (Make number) asks other none = let e : ◌≡◌ {A = ℕ} 97 109 = first_letters words (Agent asked) (Make number) asks other in omega (arith, e)
is_agents words asked (Serve again) asks other none = let e : ◌≡◌ {A = ℕ} 97 115 = first_letters words (Agent asked) (Serve again) asks other in omega (arith, e)
is_agents words asked (Relay again) asks other none = let e : ◌≡◌ {A = ℕ} 97 114 = first_letters words (Agent asked) (Relay again) asks other in omega (arith, e)
is_agents words asked (Agent again) asks other none = none tt
is_agents words asked (Session again) asks other none = let e : ◌≡◌ {A = ℕ} 97 115 = first_letters words (Agent asked) (Session again) asks other in omega (arith, e)
is_agents words asked Help asks other none = let e : ◌≡◌ {A = ℕ} 97 45 = first_letters words (Agent asked) Help asks other in omega (arith, e)

no_serve : (words : List (List ℕ)) (asked : AgentWords) (other : ServeWords) → Asks words (Agent asked) → Asks words (Serve other) → ⊥
no_serve words asked other p q = let e : ◌≡◌ {A = ℕ} 97 115 = first_letters words (Agent asked) (Serve other) p q in omega (arith, e)

no_relay : (words : List (List ℕ)) (asked : AgentWords) (other : RelayWords) → Asks words (Agent asked) → Asks words (Relay other) → ⊥
no_relay words asked other p q = let e : ◌≡◌ {A = ℕ} 97 114 = first_letters words (Agent asked) (Relay other) p q in omega (arith, e)

-- the name is one
one_name : (words : List (List ℕ)) (asked other : AgentWords) → Asks words (Agent asked) → Asks words (Agent other) → other.name.now ≡ asked.name.now
one_name words asked other p q = ap (λ w. get_or w 4 []) (sym q.1 ∙ p.1)

pub agent_comes : LinesAgain → UnendedAgain → (words : List (List ℕ)) (asked : AgentWords) (status : Status) (left : Option (List ℕ)) (old new : Rounding) (Unwritten Untimed : Type 0)
    → Asks words (Agent asked) → AgentEnds asked status old new Unwritten Untimed → Comes words left old.pocket.saved status
agent_comes again rest words asked status left old new Unwritten Untimed asks ends =
    let told = old.pocket.saved in
    let Good : List ℕ → Type 0 = λ n. IsSomeAnd told (λ now. IsBadPocket n now → ⊥) in
    let Bad : List ℕ → Type 0 = λ n. IsSomeAnd told (IsBadPocket n) in record {
      usage = λ none. absurd (none (Agent asked) asks);
      too_long = λ reads. absurd (reads_none words asked reads.0 asks reads.1 reads.2);
      done = λ command other no_agents. absurd (is_agents words asked command asks other no_agents);
      served = λ serves. absurd (no_serve words asked serves.0 asks serves.1);
      refused = λ command other has no_source no_sink. absurd (never_bad left command (λ reads. reads_none words asked command asks other reads) has);
      relayed = λ relays. absurd (no_relay words asked relays.0 asks relays.1);
      rounded = λ rounds no_sink no_clock no_pocket.
          good_is_done asked status old new Unwritten Untimed ends (subst Good (one_name words asked rounds.0 asks rounds.1) rounds.2) no_sink no_clock no_pocket;
      bad_pocket = λ rounds no_sink no_pocket.
          bad_is_refused again rest asked status old new Unwritten Untimed ends (subst Bad (one_name words asked rounds.0 asks rounds.1) rounds.2) no_sink no_pocket;
    }

-- ---- counts of faults
-- no count changed
pub record SameCounts (old new : Rounding) : Type 0 where
  pub sink : new.sink.faults ≡ old.sink.faults
  pub clock : new.clock.faults ≡ old.clock.faults
  pub pocket : new.pocket.faults ≡ old.pocket.faults
  pub machine : new.machine.faults ≡ old.machine.faults
  pub link : new.link.faults ≡ old.link.faults

pub named_counts : (asked : AgentWords) (old new : Rounding) → new ≡ named asked old → SameCounts old new
named_counts asked old new is = record {
  sink = ap (λ (d : Rounding). d.sink.faults) is;
  clock = ap (λ (d : Rounding). d.clock.faults) is;
  pocket = ap (λ (d : Rounding). d.pocket.faults) is;
  machine = ap (λ (d : Rounding). d.machine.faults) is;
  link = ap (λ (d : Rounding). d.link.faults) is;
}

link_counts : (upstream : List ℕ) (old new : LinkView) → (new ≡ old) ⊎ (new ≡ with_upstream upstream old) → new.faults ≡ old.faults
link_counts upstream old new (inl same) = ap (λ (l : LinkView). l.faults) same
link_counts upstream old new (inr is) = ap (λ (l : LinkView). l.faults) is

pub none_counts : (asked : AgentWords) (old new : Rounding) → OpensNone asked old new → new.sink ≡ old.sink → new.clock ≡ old.clock → SameCounts old new
none_counts asked old new none sink clock = record {
  sink = ap (λ (s : SinkView). s.faults) sink;
  clock = ap (λ (c : ClockView). c.faults) clock;
  pocket = ap (λ (p : PocketView). p.faults) none.pocket;
  machine = ap (λ (m : MachineView). m.faults) none.machine;
  link = link_counts asked.upstream.now old.link new.link none.link;
}

pub opened_counts : (asked : AgentWords) (old new : Rounding) (answer : Opened) → answer ≢ opened.PocketFault → OpensRounds asked old answer new → SameCounts old new
opened_counts asked old new answer known opens = none_counts asked old new (opened_none asked old new answer known opens) opens.sink opens.clock

-- it ended without a fault
pub same_counted : (status : Status) (old new : Rounding) → status ≢ Sink → status ≢ Clock → status ≢ Pocket → SameCounts old new → CountsAgent status old new
same_counted status old new no_sink no_clock no_pocket same =
    let machine_is = same.machine in
    let link_is = same.link in record {
      sink = same_count old.sink.faults new.sink.faults (status ≡ Sink) no_sink same.sink;
      clock = same_count old.clock.faults new.clock.faults (status ≡ Clock) no_clock same.clock;
      pocket = same_count old.pocket.faults new.pocket.faults (status ≡ Pocket) no_pocket same.pocket;
      machine = omega (arith, machine_is);
      link = omega (arith, link_is);
    }

-- its text couldn't be loaded
pub fault_counted : (asked : AgentWords) (old new : Rounding) → OpensRounds asked old opened.PocketFault new → CountsAgent Pocket old new
fault_counted asked old new opens =
    let link_is = ap (λ (l : LinkView). l.faults) opens.link in
    let machine_is = ap (λ (m : MachineView). m.faults) opens.machine in record {
      sink = same_count old.sink.faults new.sink.faults (Pocket ≡ Sink) (λ e. cc) (ap (λ (s : SinkView). s.faults) opens.sink);
      clock = same_count old.clock.faults new.clock.faults (Pocket ≡ Clock) (λ e. cc) (ap (λ (c : ClockView). c.faults) opens.clock);
      pocket = record { rose = λ e. opens.pocket.counts.rose refl; steady = λ none. absurd (none refl); later = opens.pocket.counts.later };
      machine = omega (arith, machine_is);
      link = omega (arith, link_is);
    }

-- its text was refused, and that was to be written
with_sink : (status : Status) (old mid : Rounding) (sink : SinkView) → status ≢ Clock → status ≢ Pocket → SameCounts old mid → CountsFaults (status ≡ Sink) mid.sink.faults sink.faults
    → CountsAgent status old (record mid { sink = sink })
with_sink status old mid sink no_clock no_pocket same counts =
    let machine_is = same.machine in
    let link_is = same.link in
    let Counted : ℕ → Type 0 = λ n. CountsFaults (status ≡ Sink) n sink.faults in record {
      sink = subst Counted same.sink counts;
      clock = same_count old.clock.faults mid.clock.faults (status ≡ Clock) no_clock same.clock;
      pocket = same_count old.pocket.faults mid.pocket.faults (status ≡ Pocket) no_pocket same.pocket;
      machine = omega (arith, machine_is);
      link = omega (arith, link_is);
    }

pub refusal_counted : (asked : AgentWords) (line : ℕ) (status : Status) (old mid : Rounding) (sink : SinkView) → OpensRounds asked old (opened.BadPocket line) mid
    → SaysBadPocket status line mid.sink sink (sink ≡ mid.sink) → CountsAgent status old (record mid { sink = sink })
refusal_counted asked line Done old mid sink opens says = absurd says
refusal_counted asked line Usage old mid sink opens says = absurd says
refusal_counted asked line Refused old mid sink opens says =
    with_sink Refused old mid sink (λ e. cc) (λ e. cc) (opened_counts asked old mid (opened.BadPocket line) (λ e. cc) opens)
    (same_count mid.sink.faults sink.faults (Refused ≡ Sink) (λ e. cc) (says.counts.steady (λ e. cc)))
refusal_counted asked line Source old mid sink opens says = absurd says
refusal_counted asked line Sink old mid sink opens says =
    with_sink Sink old mid sink (λ e. cc) (λ e. cc) (opened_counts asked old mid (opened.BadPocket line) (λ e. cc) opens)
    (record { rose = λ e. says.counts.rose refl; steady = λ none. absurd (none refl); later = says.counts.later })
refusal_counted asked line Clock old mid sink opens says = absurd says
refusal_counted asked line Pocket old mid sink opens says = absurd says
refusal_counted asked line Keeper old mid sink opens says = absurd says
refusal_counted asked line Door old mid sink opens says = absurd says
refusal_counted asked line Memory old mid sink opens says =
    with_sink Memory old mid sink (λ e. cc) (λ e. cc) (opened_counts asked old mid (opened.BadPocket line) (λ e. cc) opens)
    (same_count mid.sink.faults sink.faults (Memory ≡ Sink) (λ e. cc) (ap (λ (s : SinkView). s.faults) says))
refusal_counted asked line InputTooLong old mid sink opens says = absurd says

-- rounds were made
-- what ended them tells the status
pub record EndsAs (result : Result Unit AgentStop) (status : Status) : Type 0 where
  pub sink : (status ≡ Sink → result ≡ Err cut.Sink) × (result ≡ Err cut.Sink → status ≡ Sink)
  pub clock : (status ≡ Clock → result ≡ Err cut.Clock) × (result ≡ Err cut.Clock → status ≡ Clock)
  pub pocket : (status ≡ Pocket → result ≡ Err cut.Pocket) × (result ≡ Err cut.Pocket → status ≡ Pocket)

ends_done : (u : Unit) → EndsAs (Ok u) Done
ends_done u = record { sink = (λ e. cc, λ e. cc); clock = (λ e. cc, λ e. cc); pocket = (λ e. cc, λ e. cc) }

ends_cut : (why : AgentStop) → EndsAs (Err why) (status_of_rounds why)
ends_cut cut.Clock = record { sink = (λ e. cc, λ e. cc); clock = (λ e. refl, λ e. refl); pocket = (λ e. cc, λ e. cc) }
ends_cut cut.Pocket = record { sink = (λ e. cc, λ e. cc); clock = (λ e. cc, λ e. cc); pocket = (λ e. refl, λ e. refl) }
ends_cut cut.Sink = record { sink = (λ e. refl, λ e. refl); clock = (λ e. cc, λ e. cc); pocket = (λ e. cc, λ e. cc) }
ends_cut cut.Memory = record { sink = (λ e. cc, λ e. cc); clock = (λ e. cc, λ e. cc); pocket = (λ e. cc, λ e. cc) }

-- the same count by another cause
by_status : (a b : ℕ) (F G : Type 0) → (G → F) × (F → G) → CountsFaults F a b → CountsFaults G a b
by_status a b F G by counts = record { rose = λ g. counts.rose (by.0 g); steady = λ none. counts.steady (λ f. none (by.1 f)); later = counts.later }

-- the counts of rounds that began in these devices
made_counted : (result : Result Unit AgentStop) (status : Status) (begun new : Rounding) (agent last : State) → EndsAs result status
    → CountsRounds result (agent_at agent begun) (agent_at last new) → CountsAgent status begun new
made_counted result status begun new agent last ends counts = record {
  sink = by_status begun.sink.faults new.sink.faults (result ≡ Err cut.Sink) (status ≡ Sink) ends.sink counts.sink;
  clock = by_status begun.clock.faults new.clock.faults (result ≡ Err cut.Clock) (status ≡ Clock) ends.clock counts.clock;
  pocket = by_status begun.pocket.faults new.pocket.faults (result ≡ Err cut.Pocket) (status ≡ Pocket) ends.pocket counts.pocket;
  machine = counts.machine;
  link = counts.link;
}

pub whole_counted : (begun new : Rounding) (agent last : State) (u : Unit) → CountsRounds (Ok u) (agent_at agent begun) (agent_at last new) → CountsAgent Done begun new
whole_counted begun new agent last u counts = made_counted (Ok u) Done begun new agent last (ends_done u) counts

pub cut_counted : (begun new : Rounding) (agent last : State) (why : AgentStop) (status : Status) → status ≡ status_of_rounds why
    → CountsRounds (Err why) (agent_at agent begun) (agent_at last new) → CountsAgent status begun new
cut_counted begun new agent last why status is counts =
    let As : Status → Type 0 = EndsAs (Err why) in made_counted (Err why) status begun new agent last (subst As (sym is) (ends_cut why)) counts

-- no count changed before them
pub counted_later : (status : Status) (old begun new : Rounding) → SameCounts old begun → CountsAgent status begun new → CountsAgent status old new
counted_later status old begun new same counts =
    let machine_is = same.machine in
    let machine_later = counts.machine in
    let link_is = same.link in
    let link_later = counts.link in
    let InSink : ℕ → Type 0 = λ n. CountsFaults (status ≡ Sink) n new.sink.faults in
    let InClock : ℕ → Type 0 = λ n. CountsFaults (status ≡ Clock) n new.clock.faults in
    let InPocket : ℕ → Type 0 = λ n. CountsFaults (status ≡ Pocket) n new.pocket.faults in record {
      sink = subst InSink same.sink counts.sink;
      clock = subst InClock same.clock counts.clock;
      pocket = subst InPocket same.pocket counts.pocket;
      machine = omega (arith, machine_is, machine_later);
      link = omega (arith, link_is, link_later);
    }

-- ---- no other device failed
abbrev OneOfAgent : Status → Type 0
OneOfAgent status = (status ≡ Done) ⊎ (status ≡ Refused) ⊎ (status ≡ Sink) ⊎ (status ≡ Clock) ⊎ (status ≡ Pocket) ⊎ (status ≡ Memory)

one_of_agent : (asked : AgentWords) (status : Status) (old new : Rounding) (Unwritten Untimed : Type 0) → AgentEnds asked status old new Unwritten Untimed → OneOfAgent status
one_of_agent asked Done old new Unwritten Untimed ends = inl refl
one_of_agent asked Usage old new Unwritten Untimed ends = absurd ends
one_of_agent asked Refused old new Unwritten Untimed ends = inr (inl refl)
one_of_agent asked Source old new Unwritten Untimed ends = absurd ends
one_of_agent asked Sink old new Unwritten Untimed ends = inr (inr (inl refl))
one_of_agent asked Clock old new Unwritten Untimed ends = inr (inr (inr (inl refl)))
one_of_agent asked Pocket old new Unwritten Untimed ends = inr (inr (inr (inr (inl refl))))
one_of_agent asked Keeper old new Unwritten Untimed ends = absurd ends
one_of_agent asked Door old new Unwritten Untimed ends = absurd ends
one_of_agent asked Memory old new Unwritten Untimed ends = inr (inr (inr (inr (inr refl))))
one_of_agent asked InputTooLong old new Unwritten Untimed ends = absurd ends

never : (status other : Status) → OneOfAgent status → (OneOfAgent other → ⊥) → status ≡ other → ⊥
never status other one none e = let One : Status → Type 0 = OneOfAgent in none (subst One e one)

not_source : OneOfAgent Source → ⊥
not_source (inl e) = cc
not_source (inr (inl e)) = cc
not_source (inr (inr (inl e))) = cc
not_source (inr (inr (inr (inl e)))) = cc
not_source (inr (inr (inr (inr (inl e))))) = cc
not_source (inr (inr (inr (inr (inr e))))) = cc

not_keeper : OneOfAgent Keeper → ⊥
not_keeper (inl e) = cc
not_keeper (inr (inl e)) = cc
not_keeper (inr (inr (inl e))) = cc
not_keeper (inr (inr (inr (inl e)))) = cc
not_keeper (inr (inr (inr (inr (inl e))))) = cc
not_keeper (inr (inr (inr (inr (inr e))))) = cc

not_door : OneOfAgent Door → ⊥
not_door (inl e) = cc
not_door (inr (inl e)) = cc
not_door (inr (inr (inl e))) = cc
not_door (inr (inr (inr (inl e)))) = cc
not_door (inr (inr (inr (inr (inl e))))) = cc
not_door (inr (inr (inr (inr (inr e))))) = cc

pub agent_counts : (asked : AgentWords) (status : Status) (old new : AllDevices) (Unwritten Untimed : Type 0) → AgentEnds asked status (rounding old) (rounding new) Unwritten Untimed
    → new.source ≡ old.source → new.keeper ≡ old.keeper → new.door ≡ old.door → CountsAgent status (rounding old) (rounding new) → CountsByStatus status old new
agent_counts asked status old new Unwritten Untimed ends source keeper door counts =
    let one = one_of_agent asked status (rounding old) (rounding new) Unwritten Untimed ends in
    let keeper_is = ap (λ (k : KeeperView). k.faults) keeper in
    let door_is = ap (λ (d : DoorView). d.faults) door in record {
      source = same_count old.source.faults new.source.faults (status ≡ Source) (never status Source one not_source) (ap (λ (s : SourceView). s.faults) source);
      sink = counts.sink;
      clock = counts.clock;
      keeper = same_more old.keeper.faults new.keeper.faults (status ≡ Keeper) (never status Keeper one not_keeper) (omega (arith, keeper_is));
      door = same_more old.door.faults new.door.faults (status ≡ Door) (never status Door one not_door) (omega (arith, door_is));
      pocket = counts.pocket;
      link = counts.link;
      machine = counts.machine;
    }

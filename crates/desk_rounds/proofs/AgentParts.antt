-- The parts of an agent's round, one after another, and what is printed of each.
use Rattle.std.proofs.Common.{◌≡◌, ◌≢◌, ◌⊎◌, inl, inr, ℕ, ℤ, FitsSigned, of_z, to_z, w64, List, [], ◌∷◌, ◌++◌, Option, Some, None, Ok, Err, refl, sym, ap, ◌∙◌, subst}
use Rattle.std.specs.declared.result.Result.{Result}
use Rattle.std.specs.declared.alloc.AllocError.{AllocError}
use Rattle.std.proofs.lemmas.Int.{to_z-of_z}
use Rattle.desk_base.specs.Moments.{AsksMoment}
use Rattle.desk_base.specs.Views.{ClockView}
use Rattle.desk_base.specs.declared.clock.Told.TheVariants as told
use Rattle.desk_door.specs.Links.{LinkView}
use Rattle.desk_rounds.specs.Ways.{OpensLink, Way, switched, way}
use Rattle.desk_rounds.specs.declared.way.Upstreams.{Upstreams}
use Rattle.agent_state.specs.States.{State}
use Rattle.agent_core.specs.Devices.{Devices}
use Rattle.agent_core.specs.declared.turned.Turned.{Turned}
use Rattle.agent_core.specs.declared.turned.Turned.TheVariants as of_turn
use Rattle.turn_lines.specs.TurnLines.{turn_line}
use Rattle.turn_lines.specs.TurnsWithFiles.{TurnsWithFiles}
use Rattle.turn_lines.specs.declared.giver.FileAsked.{FileAsked}
use Rattle.desk_rounds.specs.declared.agent_rounds.RoundEnd.{RoundEnd}
use Rattle.desk_rounds.specs.declared.agent_rounds.RoundEnd.TheVariants as end
use Rattle.desk_rounds.specs.declared.agent_rounds.Rounder.{Rounder}
use Rattle.desk_rounds.specs.declared.asking.Miss.{Miss}
use Rattle.desk_rounds.specs.declared.asking.Miss.TheVariants as miss
use Rattle.desk_rounds.specs.declared.part.Next.{Next}
use Rattle.desk_rounds.specs.declared.part.Next.TheVariants as next
use Rattle.desk_rounds.specs.AgentRounds.{AgentPoint, AgentRound, EndsQuietly, Ending, IsPrinted, Makes, OpensFirst, PrintsRound, PrintsTurns, SaysBefore, SaysLines, SaysMissed, TakesTurn, Then, TurnsAt, WholeRound, Within, agent_point, end_of, lines_of_turns, missed_lines, point, short_end}
use Rattle.desk_rounds.specs.Clients.{At, at, at_rest}
use Rattle.desk_rounds.specs.Files.{GivenBy, GivesFromLink, files_at, unasked}
use Rattle.desk_rounds.specs.Lines.{Line, lines_text, turned}
use Rattle.desk_rounds.specs.Parts.{Part, Prints}
use Rattle.turn_lines.specs.declared.giver.Given.TheVariants as given
use Rattle.desk_rounds.proofs.Parting.{printed_first, printed_more}
use Rattle.desk_rounds.proofs.Rounding.{SaysMiss, one_line}

-- ---- parts, one after another
prints_end : (then : Next) (lines : List Line) (before after : List ℕ) → Prints then lines before after → PrintsRound (end_of then) lines before after
prints_end next.Item lines before after prints = prints
prints_end next.Part lines before after prints = prints
prints_end next.Memory lines before after prints = tt

-- a part of the agent and its link
pub makes_within : (part : Part (At State)) (old : AgentPoint) (new : At State) (then : Next) (before after : List ℕ)
    → ((lines : List Line) × part old.at then lines new × Prints then lines before after)
    → Makes (Within part) old before (end_of then) (record old { at = new }) after
makes_within part old new then before after it = record {
  lines = it.0;
  does = (then, new, it.1, refl, refl);
  printed = prints_end then it.0 before after it.2;
}

prints_both : (ended : RoundEnd) (said more : List Line) (before mid after : List ℕ) → mid ≡ before ++ lines_text said
    → PrintsRound ended more mid after → PrintsRound ended (said ++ more) before after
prints_both end.Done said more before mid after first second = printed_more before mid after said more first second
prints_both end.ClockFault said more before mid after first second = printed_more before mid after said more first second
prints_both end.PocketFault said more before mid after first second = printed_more before mid after said more first second
prints_both end.Memory said more before mid after first second = tt

module _ (First Second : Ending) where
  -- a whole part, and then the next
  pub makes_both : (old mid new : AgentPoint) (before between after : List ℕ) (one ended : RoundEnd) → one ≡ end.Done
      → Makes First old before one mid between → Makes Second mid between ended new after → Makes (Then First Second) old before ended new after
  makes_both old mid new before between after one ended whole first second =
      let a = subst (λ e. Makes First old before e mid between) whole first in
      record {
        lines = a.lines ++ second.lines;
        does = (end.Done, a.lines, mid, a.does, (second.lines, second.does, refl));
        printed = prints_both ended a.lines second.lines before between after a.printed second.printed;
      }

  -- a part with which the round ends
  pub makes_first : (old mid : AgentPoint) (before between : List ℕ) (ended : RoundEnd) → ended ≢ end.Done
      → Makes First old before ended mid between → Makes (Then First Second) old before ended mid between
  makes_first old mid before between end.Done other first = absurd (other refl)
  makes_first old mid before between end.ClockFault other first =
      record { lines = first.lines; does = (end.ClockFault, first.lines, mid, first.does, (refl, refl, refl)); printed = first.printed }
  makes_first old mid before between end.PocketFault other first =
      record { lines = first.lines; does = (end.PocketFault, first.lines, mid, first.does, (refl, refl, refl)); printed = first.printed }
  makes_first old mid before between end.Memory other first =
      record { lines = first.lines; does = (end.Memory, first.lines, mid, first.does, (refl, refl, refl)); printed = first.printed }

-- ---- why a file didn't come
pub given_missed : (why : Miss) (old new : Option Miss) → why ≢ miss.Memory → new ≡ Some why → GivenBy (Err why) old given.NotGot new
given_missed miss.NoAnswer old new known is = (refl, is)
given_missed miss.BadAnswer old new known is = (refl, is)
given_missed miss.Memory old new known is = absurd (known refl)

-- what was printed of that
item_memory : next.Item ≡ next.Memory → ⊥
item_memory e = cc

part_memory : next.Part ≡ next.Memory → ⊥
part_memory e = cc

pub said_missed : (why : Miss) (then : Next) (before after : List ℕ) → SaysMiss why then before after → SaysMissed (Some why) then before after
said_missed why next.Memory before after says = tt
said_missed why next.Item before after says = elim says.1 [
  | inl by ↦ says.2 ∙ ap (λ l. before ++ lines_text l) by.1
  | inr none ↦ absurd (item_memory none.0)
]
said_missed why next.Part before after says = elim says.1 [
  | inl by ↦ says.2 ∙ ap (λ l. before ++ lines_text l) by.1
  | inr none ↦ absurd (part_memory none.0)
]

-- ---- what is printed of turns
pub said_lines : (rounder : Rounder) (moment : ℤ) (answer : Turned) (missed : Option Miss) (then : Next) (before mid after : List ℕ)
    → then ≢ next.Memory → SaysMissed missed then before mid → after ≡ mid ++ turn_line rounder.name moment answer
    → SaysLines (lines_of_turns rounder moment answer missed) end.Done before after
said_lines rounder moment answer missed next.Memory before mid after known says line = absurd (known refl)
said_lines rounder moment answer missed next.Item before mid after known says line =
    inl (
      refl,
      printed_more before mid after (missed_lines missed) (turned rounder.name moment answer ∷ []) says
          (one_line (turned rounder.name moment answer) mid after line),
    )
said_lines rounder moment answer missed next.Part before mid after known says line =
    inl (
      refl,
      printed_more before mid after (missed_lines missed) (turned rounder.name moment answer ∷ []) says
          (one_line (turned rounder.name moment answer) mid after line),
    )

abbrev pub PrintedTurns : Rounder → ℤ → Turned → Option Miss → RoundEnd → List ℕ → List ℕ → Type 0
PrintedTurns rounder moment answer missed ended before after =
    (lines : List Line) × PrintsTurns rounder moment answer missed ended lines × PrintsRound ended lines before after

either : (said : List Line) (ended : RoundEnd) (before after : List ℕ) → SaysLines said ended before after
    → (lines : List Line) × (IsPrinted said ended lines ⊎ EndsQuietly end.Memory ended lines) × PrintsRound ended lines before after
either said ended before after says = elim says [
  | inl whole ↦ (said, inl (record { ended_is = whole.0; lines_are = refl }), subst (λ e. PrintsRound e said before after) (sym whole.0) whole.1)
  | inr none ↦ ([], inr (record { ended_is = none; quiet = refl }), subst (λ e. PrintsRound e [] before after) (sym none) tt)
]

pub printed_turns : (rounder : Rounder) (moment : ℤ) (answer : Turned) (missed : Option Miss) (ended : RoundEnd) (before after : List ℕ)
    → answer ≢ of_turn.PocketFault → answer ≢ of_turn.Memory → SaysLines (lines_of_turns rounder moment answer missed) ended before after
    → PrintedTurns rounder moment answer missed ended before after
printed_turns rounder moment of_turn.PocketFault missed ended before after pocket memory says = absurd (pocket refl)
printed_turns rounder moment of_turn.Memory missed ended before after pocket memory says = absurd (memory refl)
printed_turns rounder moment of_turn.Idle missed ended before after pocket memory says =
    either (lines_of_turns rounder moment of_turn.Idle missed) ended before after says
printed_turns rounder moment (of_turn.Interrupted id) missed ended before after pocket memory says =
    either (lines_of_turns rounder moment (of_turn.Interrupted id) missed) ended before after says
printed_turns rounder moment (of_turn.Held id began component line) missed ended before after pocket memory says =
    either (lines_of_turns rounder moment (of_turn.Held id began component line) missed) ended before after says
printed_turns rounder moment (of_turn.Wants id began digest) missed ended before after pocket memory says =
    either (lines_of_turns rounder moment (of_turn.Wants id began digest) missed) ended before after says
printed_turns rounder moment (of_turn.Ended id began outcome fail) missed ended before after pocket memory says =
    either (lines_of_turns rounder moment (of_turn.Ended id began outcome fail) missed) ended before after says
printed_turns rounder moment of_turn.MachineFault missed ended before after pocket memory says =
    either (lines_of_turns rounder moment of_turn.MachineFault missed) ended before after says

pub quiet_pocket : (rounder : Rounder) (moment : ℤ) (answer : Turned) (missed : Option Miss) (out : List ℕ) → answer ≡ of_turn.PocketFault
    → PrintedTurns rounder moment answer missed end.PocketFault out out
quiet_pocket rounder moment answer missed out is =
    subst (λ a. PrintedTurns rounder moment a missed end.PocketFault out out) (sym is)
    ([], record { ended_is = refl; quiet = refl }, printed_first out)

pub quiet_memory : (rounder : Rounder) (moment : ℤ) (answer : Turned) (missed : Option Miss) (out : List ℕ) → answer ≡ of_turn.Memory
    → PrintedTurns rounder moment answer missed end.Memory out out
quiet_memory rounder moment answer missed out is =
    subst (λ a. PrintedTurns rounder moment a missed end.Memory out out) (sym is) ([], record { ended_is = refl; quiet = refl }, tt)

-- ---- turns
said_before : (said : List Line) (answer : Turned) (prints : RoundEnd → List Line → Type 0) (ended : RoundEnd) (more : List Line) → prints ended more
    → SaysBefore said answer prints ended (said ++ more)
said_before [] answer prints ended more is = is
said_before (line ∷ said) answer prints ended more is = inl (more, is, refl)

short_before : (said : List Line) (answer : Turned) (prints : RoundEnd → List Line → Type 0) (ended : RoundEnd) → said ≢ [] → ended ≡ short_end answer
    → SaysBefore said answer prints ended []
short_before [] answer prints ended some is = absurd (some refl)
short_before (line ∷ said) answer prints ended some is = inr (record { ended_is = is; quiet = refl })

prints_nothing : (ended : RoundEnd) (before after : List ℕ) → after ≡ before → PrintsRound ended [] before after
prints_nothing end.Done before after same = same ∙ printed_first before
prints_nothing end.ClockFault before after same = same ∙ printed_first before
prints_nothing end.PocketFault before after same = same ∙ printed_first before
prints_nothing end.Memory before after same = tt

-- the line of the second upstream was said, where a file turned to it, and then what is printed of the turns
pub turns_made : (rounder : Rounder) (moment : ℤ) (old : AgentPoint) (answer : Turned) (agent : State) (devices : Devices) (asked : List FileAsked)
    (by : Way) (missed : Option Miss) (ended : RoundEnd) (before mid after : List ℕ)
    → TurnsWithFiles GivesFromLink (record { moment = moment; offset = rounder.offset }) old.at.client old.devices (unasked old.at.way) answer agent
    devices (files_at asked by missed)
    → mid ≡ before ++ lines_text (switched old.at.way by) → PrintedTurns rounder moment answer missed ended mid after
    → Makes (TurnsAt rounder moment) old before ended (record old { at = at agent by; devices = devices }) after
turns_made rounder moment old answer agent devices asked by missed ended before mid after turns said printed = record {
  lines = switched old.at.way by ++ printed.0;
  does = (
    answer,
    agent,
    devices,
    files_at asked by missed,
    turns,
    said_before (switched old.at.way by) answer (PrintsTurns rounder moment answer missed) ended printed.0 printed.1,
    refl,
  );
  printed = prints_both ended (switched old.at.way by) printed.0 before mid after said printed.2;
}

-- for that line there was no memory
pub turns_short : (rounder : Rounder) (moment : ℤ) (old : AgentPoint) (answer : Turned) (agent : State) (devices : Devices) (asked : List FileAsked)
    (by : Way) (missed : Option Miss) (ended : RoundEnd) (before after : List ℕ)
    → TurnsWithFiles GivesFromLink (record { moment = moment; offset = rounder.offset }) old.at.client old.devices (unasked old.at.way) answer agent
    devices (files_at asked by missed)
    → switched old.at.way by ≢ [] → ended ≡ short_end answer → after ≡ before
    → Makes (TurnsAt rounder moment) old before ended (record old { at = at agent by; devices = devices }) after
turns_short rounder moment old answer agent devices asked by missed ended before after turns some is same = record {
  lines = [];
  does = (
    answer,
    agent,
    devices,
    files_at asked by missed,
    turns,
    short_before (switched old.at.way by) answer (PrintsTurns rounder moment answer missed) ended some is,
    refl,
  );
  printed = prints_nothing ended before after same;
}

pub clock_made : (rounder : Rounder) (moment : ℤ) (old new : AgentPoint) (clock : ClockView) (ended : RoundEnd) (before after : List ℕ)
    → AsksMoment old.clock (told.Moment moment) clock → Makes (TurnsAt rounder moment) (record old { clock = clock }) before ended new after
    → Makes (TakesTurn rounder) old before ended new after
clock_made rounder moment old new clock ended before after asks made =
    record { lines = made.lines; does = (told.Moment moment, clock, asks, made.does); printed = made.printed }

pub clock_failed : (rounder : Rounder) (old : AgentPoint) (clock : ClockView) (out : List ℕ) → AsksMoment old.clock told.Failed clock
    → Makes (TakesTurn rounder) old out end.ClockFault (record old { clock = clock }) out
clock_failed rounder old clock out asks = record {
  lines = [];
  does = (told.Failed, clock, asks, (record { ended_is = refl; quiet = refl }, refl));
  printed = printed_first out;
}

-- the line of a turn at a moment that was handed over in 64 bits
pub line_at : (name : List ℕ) (moment : ℤ) (answer : Turned) (before after : List ℕ) → FitsSigned w64 moment
    → after ≡ before ++ turn_line name (to_z w64 (of_z w64 moment)) answer → after ≡ before ++ turn_line name moment answer
line_at name moment answer before after fits is = is ∙ ap (λ m. before ++ turn_line name m answer) (to_z-of_z w64 moment fits)

-- ---- the beginning and the end
ok_ok : (second other : Option (List ℕ)) → ◌≡◌ {A = Result (Option (List ℕ)) AllocError} (Ok second) (Ok other) → second ≡ other
ok_ok second other e = cc

err_ok : (error : AllocError) (other : Option (List ℕ)) → ◌≡◌ {A = Result (Option (List ℕ)) AllocError} (Err error) (Ok other) → ⊥
err_ok error other e = cc

pub opened_first : (upstreams : Option Upstreams) (agent : State) (devices : Devices) (clock : ClockView) (old new : LinkView)
    (second : Option (List ℕ)) (out : List ℕ) → OpensLink upstreams old (Ok second) new
    → Makes (OpensFirst upstreams) (agent_point agent old devices clock) out end.Done (point agent (way new second) devices clock) out
opened_first None agent devices clock old new second out opens = record {
  lines = [];
  does = (
    record { ended_is = refl; quiet = refl },
    ap (λ (l : LinkView). point agent (way l second) devices clock) opens.1
        ∙ ap (λ (s : Option (List ℕ)). point agent (way old s) devices clock) (ok_ok second None opens.0),
  );
  printed = printed_first out;
}
opened_first (Some two) agent devices clock old new second out opens = record {
  lines = [];
  does = inl (
    record { ended_is = refl; quiet = refl },
    ap (λ (l : LinkView). point agent (way l second) devices clock) opens.1
        ∙ ap (λ (s : Option (List ℕ)). point agent (way (record old { upstream = Some two.first }) s) devices clock) opens.0,
  );
  printed = printed_first out;
}

not_opened : (upstreams : Option Upstreams) (agent : State) (devices : Devices) (clock : ClockView) (old new : LinkView) (error : AllocError)
    (out : List ℕ) → OpensLink upstreams old (Err error) new
    → Makes (OpensFirst upstreams) (agent_point agent old devices clock) out end.Memory (agent_point agent new devices clock) out
not_opened None agent devices clock old new error out opens = absurd (err_ok error None opens.0)
not_opened (Some two) agent devices clock old new error out opens = record {
  lines = [];
  does = inr (record { ended_is = refl; quiet = refl }, ap (λ (l : LinkView). agent_point agent l devices clock) opens);
  printed = tt;
}

pub unopened : (upstreams : Option Upstreams) (agent : State) (devices : Devices) (clock : ClockView) (old new : LinkView)
    (result : Result (Option (List ℕ)) AllocError) (out : List ℕ) → ((second : Option (List ℕ)) → result ≢ Ok second)
    → OpensLink upstreams old result new
    → Makes (OpensFirst upstreams) (agent_point agent old devices clock) out end.Memory (agent_point agent new devices clock) out
unopened upstreams agent devices clock old new (Ok second) out never opens = absurd (never second refl)
unopened upstreams agent devices clock old new (Err error) out never opens = not_opened upstreams agent devices clock old new error out opens

pub memory_done : end.Memory ≢ end.Done
memory_done e = cc

-- the next round begins with the first upstream
pub makes_round : (rounder : Rounder) (old last : AgentPoint) (before after : List ℕ) (ended : RoundEnd)
    → Makes (WholeRound rounder) old before ended last after
    → Makes (AgentRound rounder) old before ended (record last { at = at_rest last.at }) after
makes_round rounder old last before after ended made =
    record { lines = made.lines; does = (last, made.does, refl); printed = made.printed }

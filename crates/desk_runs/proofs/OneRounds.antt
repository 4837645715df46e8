-- What an agent does is one thing, where its devices tell one thing and don't fail, and memory suffices.
use Rattle.std.proofs.Common.{◌≡◌, ◌≢◌, ◌⊎◌, ◌≤◌, ◌<◌, ◌^◌, ◌-◌, ℕ, ◌+◌, ℤ, Bool, List, [], ◌∷◌, ◌++◌, length, IsSome, None, Some, inl, inr, refl, sym, ap, ◌∙◌, subst, arith, length-append}
use Rattle.std.specs.Prelude.{⊤, is_some}
use Rattle.std.specs.declared.option.Option.{Option}
use Rattle.desk_base.specs.Moments.{AppendsMoments, AsksMoment}
use Rattle.desk_base.specs.Views.{ClockView}
use Rattle.desk_base.specs.declared.clock.Told.TheVariants as told
use Rattle.desk_base.specs.declared.sink.Put.TheVariants as put
use Rattle.bf_machine.specs.Rises.{RoseBy}
use Rattle.bf_machine.proofs.Telling.{later-RoseBy}
use Rattle.fix_site.specs.declared.site.Site.{Site}
use Rattle.report_text.specs.declared.answer.Gathered.{Gathered}
use Rattle.report_text.specs.declared.answer.Gathered.TheVariants as gathered
use Rattle.report_text.specs.declared.answer.Verdict.{Verdict}
use Rattle.line_forms.proofs.Passing.{cons_head, cons_tail}
use Rattle.script_run.specs.Asking.{When}
use Rattle.agent_state.specs.Changes.{GathersSite, SettlesState}
use Rattle.agent_state.specs.States.{State}
use Rattle.agent_core.specs.Devices.{Devices}
use Rattle.agent_core.specs.declared.turned.Turned.{Turned}
use Rattle.agent_core.specs.declared.turned.Turned.TheVariants as of_turn
use Rattle.turn_lines.specs.Givers.{GiverView}
use Rattle.turn_lines.specs.TurnsWithFiles.{TurnsWithFiles}
use Rattle.desk_rounds.specs.declared.agent_rounds.Rounder.{Rounder}
use Rattle.desk_rounds.specs.declared.agent_rounds.RoundEnd.TheVariants as end
use Rattle.desk_rounds.specs.declared.asking.Miss.{Miss}
use Rattle.desk_rounds.specs.declared.part.Next.{Next}
use Rattle.desk_rounds.specs.declared.part.Next.TheVariants as next
use Rattle.desk_rounds.specs.AgentRounds.{AgentPoint, AgentRound, Ending, EndsQuietly, GathersFirst, IsPrinted, OpensFirst, PrintsTurns, RestOfRound, SaysBefore, TakesTurn, Then as ThenPart, Within, after_turns, end_of, lines_of_turns, short_end}
use Rattle.desk_rounds.specs.Clients.{At, agent_client, at, at_rest, verdict_of}
use Rattle.desk_rounds.specs.Files.{FileSource, GivesFromLink, unasked}
use Rattle.desk_rounds.specs.Gathering.{GathersAll}
use Rattle.desk_rounds.specs.Lines.{Line}
use Rattle.desk_rounds.specs.Parts.{Part}
use Rattle.desk_rounds.specs.Posting.{PostsAll}
use Rattle.desk_rounds.specs.Ways.{Way, switched, switched_now, way}
use Rattle.desk_rounds.specs.declared.way.Upstreams.{Upstreams}
use Rattle.desk_runs.specs.AgentRuns.{AgentRun, Begun, Runs, Then, round_count}
use Rattle.desk_runs.specs.AgentSteps.{AgentScene, TellsRound}
use Rattle.desk_runs.specs.Counting.{no_answer_told}
use Rattle.desk_runs.specs.OneExchanges.{LinkTold, TellsLink}
use Rattle.desk_runs.specs.OneRounding.{AgentTold, AgentsAlike, IsSteadyAgent, TellsAgent, TellsDevices}
use Rattle.desk_runs.proofs.CountingAgents.{missed_in, round_counted, turns_since, unlooked}
use Rattle.desk_runs.proofs.CountingRounds.{Counts, fault_count, gathering_counts, of_link, posting_counts, unanswered}
use Rattle.desk_runs.proofs.CountingRuns.{whole_counted}
use Rattle.desk_runs.proofs.OneParts.{OneClient, RoundLaws, gathering_once, posting_once}
use Rattle.desk_runs.proofs.OneTurns.{AreSteady, IsPlain, TurnLaws, files_later, turns_once}

-- the laws that this stands on
pub record AgentLaws : Type 0 where
  pub round : RoundLaws
  pub turn : TurnLaws
  pub gathered : (site : Site) (s s2 s3 : State) (answer other : Gathered) → GathersSite s site answer s2 → GathersSite s site other s3 → answer ≢ gathered.Memory → other ≢ gathered.Memory → (answer ≡ other) × (s2 ≡ s3)
  pub settled : (seq : ℕ) (verdict : Verdict) (s s2 s3 : State) (answer other : Bool) → SettlesState seq verdict s answer s2 → SettlesState seq verdict s other s3 → (answer ≡ other) × (s2 ≡ s3)

-- ---- the agent as a client
abbrev Any : State → Type 0
Any s = ⊤

one_agent : AgentLaws → OneClient agent_client Any
one_agent laws = record {
  keeps = λ old new other site a b good p q ample ample'. laws.gathered site old new other a b p q ample ample';
  kept = λ old new site a good is p. tt;
  settles = λ old new other report said p q. (laws.settled report.seq (verdict_of said) old new other p.0 q.0 p.1 q.1).1;
  settled = λ old new report said good p. tt;
}

-- ---- a whole round
done_clock : end.Done ≡ end.ClockFault → ⊥
done_clock e = cc

done_pocket : end.Done ≡ end.PocketFault → ⊥
done_pocket e = cc

done_memory : end.Done ≡ end.Memory → ⊥
done_memory e = cc

-- two parts that are whole
record Whole (First Second : Ending) (old : AgentPoint) (lines : List Line) (new : AgentPoint) : Type 0 where
  said : List Line
  between : AgentPoint
  more : List Line
  first : First old end.Done said between
  second : Second between end.Done more new
  is : lines ≡ said ++ more

whole : (First Second : Ending) (old : AgentPoint) (lines : List Line) (new : AgentPoint) → ThenPart First Second old end.Done lines new → Whole First Second old lines new
whole First Second old lines new (end.Done, said, between, first, (more, second, is)) = record { said = said; between = between; more = more; first = first; second = second; is = is }
whole First Second old lines new (end.ClockFault, said, between, first, after) = absurd (done_clock after.0)
whole First Second old lines new (end.PocketFault, said, between, first, after) = absurd (done_pocket after.0)
whole First Second old lines new (end.Memory, said, between, first, after) = absurd (done_memory after.0)

-- a part of the agent and its link
record InPart (part : Part (At State)) (old : AgentPoint) (lines : List Line) (new : AgentPoint) : Type 0 where
  then : Next
  after : At State
  did : part old.at then lines after
  some : then ≢ next.Memory
  is : new ≡ record old { at = after }

in_part : (part : Part (At State)) (old : AgentPoint) (lines : List Line) (new : AgentPoint) → Within part old end.Done lines new → InPart part old lines new
in_part part old lines new (then, after, did, ended, is) = record { then = then; after = after; did = did; some = λ e. done_memory (ended ∙ ap end_of e); is = is }

-- the turn
record Printed (rounder : Rounder) (moment : ℤ) (answer : Turned) (missed : Option Miss) (lines : List Line) : Type 0 where
  plain : IsPlain answer
  lines_are : lines ≡ lines_of_turns rounder moment answer missed

either_printed : (rounder : Rounder) (moment : ℤ) (answer : Turned) (missed : Option Miss) (lines : List Line) → IsPlain answer
    → IsPrinted (lines_of_turns rounder moment answer missed) end.Done lines ⊎ EndsQuietly end.Memory end.Done lines → Printed rounder moment answer missed lines
either_printed rounder moment answer missed lines plain (inl it) = record { plain = plain; lines_are = it.lines_are }
either_printed rounder moment answer missed lines plain (inr quiet) = absurd (done_memory quiet.ended_is)

printed : (rounder : Rounder) (moment : ℤ) (answer : Turned) (missed : Option Miss) (lines : List Line) → PrintsTurns rounder moment answer missed end.Done lines → Printed rounder moment answer missed lines
printed rounder moment of_turn.Idle missed lines it = either_printed rounder moment of_turn.Idle missed lines (record { pocket = λ e. cc; memory = λ e. cc }) it
printed rounder moment (of_turn.Interrupted id) missed lines it = either_printed rounder moment (of_turn.Interrupted id) missed lines (record { pocket = λ e. cc; memory = λ e. cc }) it
printed rounder moment (of_turn.Held id began component line) missed lines it =
    either_printed rounder moment (of_turn.Held id began component line) missed lines (record { pocket = λ e. cc; memory = λ e. cc }) it
printed rounder moment (of_turn.Wants id began digest) missed lines it = either_printed rounder moment (of_turn.Wants id began digest) missed lines (record { pocket = λ e. cc; memory = λ e. cc }) it
printed rounder moment (of_turn.Ended id began outcome fail) missed lines it =
    either_printed rounder moment (of_turn.Ended id began outcome fail) missed lines (record { pocket = λ e. cc; memory = λ e. cc }) it
printed rounder moment of_turn.MachineFault missed lines it = either_printed rounder moment of_turn.MachineFault missed lines (record { pocket = λ e. cc; memory = λ e. cc }) it
printed rounder moment of_turn.PocketFault missed lines quiet = absurd (done_pocket quiet.ended_is)
printed rounder moment of_turn.Memory missed lines quiet = absurd (done_memory quiet.ended_is)

-- behind the line of the second upstream, where there is one
record SaidPrinted (rounder : Rounder) (moment : ℤ) (said : List Line) (answer : Turned) (missed : Option Miss) (lines : List Line) : Type 0 where
  more : List Line
  prints : Printed rounder moment answer missed more
  is : lines ≡ said ++ more

done_short : (answer : Turned) → end.Done ≡ short_end answer → ⊥
done_short of_turn.PocketFault e = done_pocket e
done_short of_turn.Idle e = done_memory e
done_short (of_turn.Interrupted id) e = done_memory e
done_short (of_turn.Held id began component line) e = done_memory e
done_short (of_turn.Wants id began digest) e = done_memory e
done_short (of_turn.Ended id began outcome fail) e = done_memory e
done_short of_turn.MachineFault e = done_memory e
done_short of_turn.Memory e = done_memory e

said_printed : (rounder : Rounder) (moment : ℤ) (said : List Line) (answer : Turned) (missed : Option Miss) (lines : List Line) → SaysBefore said answer (PrintsTurns rounder moment answer missed) end.Done lines
    → SaidPrinted rounder moment said answer missed lines
said_printed rounder moment [] answer missed lines it = record { more = lines; prints = printed rounder moment answer missed lines it; is = refl }
said_printed rounder moment (line ∷ said) answer missed lines (inl (more, it, is)) = record { more = more; prints = printed rounder moment answer missed more it; is = is }
said_printed rounder moment (line ∷ said) answer missed lines (inr quiet) = absurd (done_short answer quiet.ended_is)

record InTurn (rounder : Rounder) (old : AgentPoint) (lines : List Line) (new : AgentPoint) : Type 0 where
  moment : ℤ
  clock : ClockView
  asks : AsksMoment old.clock (told.Moment moment) clock
  answer : Turned
  agent : State
  devices : Devices
  files : GiverView FileSource
  turns : TurnsWithFiles GivesFromLink (record { moment = moment; offset = rounder.offset }) old.at.client old.devices (unasked old.at.way) answer agent devices files
  prints : SaidPrinted rounder moment (switched old.at.way files.source.way) answer files.source.missed lines
  is : new ≡ after_turns (record old { clock = clock }) agent devices files

in_turn : (rounder : Rounder) (old : AgentPoint) (lines : List Line) (new : AgentPoint) → TakesTurn rounder old end.Done lines new → InTurn rounder old lines new
in_turn rounder old lines new (told.Moment moment, clock, asks, (answer, agent, devices, files, turns, prints, is)) = record {
  moment = moment;
  clock = clock;
  asks = asks;
  answer = answer;
  agent = agent;
  devices = devices;
  files = files;
  turns = turns;
  prints = said_printed rounder moment (switched old.at.way files.source.way) answer files.source.missed lines prints;
  is = is;
}
in_turn rounder old lines new (told.Failed, clock, asks, (quiet, is)) = absurd (done_clock quiet.ended_is)

-- ---- the beginning of a round
-- the link is open to the first of two upstreams, or as it was
abbrev pub opened_way : Option Upstreams → Way → Way
opened_way None by = by
opened_way (Some two) by = way (record by.link { upstream = Some two.first }) (Some two.second)

abbrev opened : Option Upstreams → AgentPoint → AgentPoint
opened upstreams old = record old { at = at old.at.client (opened_way upstreams old.at.way) }

record InOpening (upstreams : Option Upstreams) (old : AgentPoint) (lines : List Line) (new : AgentPoint) : Type 0 where
  quiet : lines ≡ []
  is : new ≡ opened upstreams old

in_opening : (upstreams : Option Upstreams) (old : AgentPoint) (lines : List Line) (new : AgentPoint) → OpensFirst upstreams old end.Done lines new → InOpening upstreams old lines new
in_opening None old lines new (quiet, same) = record { quiet = quiet.quiet; is = same }
in_opening (Some two) old lines new (inl (quiet, same)) = record { quiet = quiet.quiet; is = same }
in_opening (Some two) old lines new (inr (quiet, same)) = absurd (done_memory quiet.ended_is)

opened_faults : (upstreams : Option Upstreams) (by : Way) → (opened_way upstreams by).link.faults ≡ by.link.faults
opened_faults None by = refl
opened_faults (Some two) by = refl

-- what a link tells then
abbrev opened_told : Option Upstreams → LinkTold → LinkTold
opened_told None told = told
opened_told (Some two) told = record { upstream = Some two.first; asked = told.asked; replies = told.replies }

opened_tells : (upstreams : Option Upstreams) (told : LinkTold) (by : Way) → TellsLink told by.link → TellsLink (opened_told upstreams told) (opened_way upstreams by).link
opened_tells None told by tells = tells
opened_tells (Some two) told by tells = record { upstream = refl; asked = tells.asked; replies = tells.replies; rises = tells.rises }

-- ---- the three parts of a whole round
pub record InRound (rounder : Rounder) (old : AgentPoint) (lines : List Line) (new : AgentPoint) : Type 0 where
  pub gone : Next
  pub said : List Line
  pub gathers : At State
  pub gathering : GathersAll agent_client (at old.at.client (opened_way rounder.upstreams old.at.way)) gone said gathers
  pub gone_on : gone ≢ next.Memory
  pub moment : ℤ
  pub clock : ClockView
  pub asks : AsksMoment old.clock (told.Moment moment) clock
  pub answer : Turned
  pub agent : State
  pub devices : Devices
  pub files : GiverView FileSource
  pub turns : TurnsWithFiles GivesFromLink (record { moment = moment; offset = rounder.offset }) gathers.client old.devices (unasked gathers.way) answer agent devices files
  pub plain : IsPlain answer
  pub went : Next
  pub more : List Line
  pub posts : At State
  pub posting : PostsAll agent_client (at agent files.source.way) went more posts
  pub went_on : went ≢ next.Memory
  pub lines_are : lines ≡ said ++ ((switched gathers.way files.source.way ++ lines_of_turns rounder moment answer files.source.missed) ++ more)
  pub is : new ≡ record { at = at_rest posts; devices = devices; clock = clock }

joined : (lines said rest first more before behind printed : List Line) → lines ≡ said ++ rest → rest ≡ first ++ more → first ≡ before ++ behind → behind ≡ printed → lines ≡ said ++ ((before ++ printed) ++ more)
joined lines said rest first more before behind printed all inner turn line = all ∙ ap (λ (l : List Line). said ++ l) (inner ∙ ap (λ (l : List Line). l ++ more) (turn ∙ ap (λ (l : List Line). before ++ l) line))

rested : (there last new : AgentPoint) (posts : At State) → last ≡ record there { at = posts } → new ≡ record last { at = at_rest last.at } → new ≡ record { at = at_rest posts; devices = there.devices; clock = there.clock }
rested there last new posts is rests = rests ∙ ap (λ (p : AgentPoint). record p { at = at_rest p.at }) is

-- behind the beginning
in_parts : (rounder : Rounder) (old : AgentPoint) (lines : List Line) (last new : AgentPoint) → GathersFirst rounder (opened rounder.upstreams old) end.Done lines last → new ≡ record last { at = at_rest last.at }
    → InRound rounder old lines new
in_parts rounder old lines last new round rests =
    let from : AgentPoint = opened rounder.upstreams old in
    let outer = whole (Within (GathersAll agent_client)) (RestOfRound rounder) from lines last round in
    let gathering = in_part (GathersAll agent_client) from outer.said outer.between outer.first in
    let R : AgentPoint → Type 0 = λ p. RestOfRound rounder p end.Done outer.more last in
    let here : AgentPoint = record from { at = gathering.after } in
    let inner = whole (TakesTurn rounder) (Within (PostsAll agent_client)) here outer.more last (subst R gathering.is outer.second) in
    let turn = in_turn rounder here inner.said inner.between inner.first in
    let P : AgentPoint → Type 0 = λ p. Within (PostsAll agent_client) p end.Done inner.more last in
    let there : AgentPoint = after_turns (record here { clock = turn.clock }) turn.agent turn.devices turn.files in
    let posting = in_part (PostsAll agent_client) there inner.more last (subst P turn.is inner.second) in
    let before = switched gathering.after.way turn.files.source.way in
    record {
      gone = gathering.then;
      said = outer.said;
      gathers = gathering.after;
      gathering = gathering.did;
      gone_on = gathering.some;
      moment = turn.moment;
      clock = turn.clock;
      asks = turn.asks;
      answer = turn.answer;
      agent = turn.agent;
      devices = turn.devices;
      files = turn.files;
      turns = turn.turns;
      plain = turn.prints.prints.plain;
      went = posting.then;
      more = inner.more;
      posts = posting.after;
      posting = posting.did;
      went_on = posting.some;
      lines_are = joined lines outer.said outer.more inner.said inner.more before turn.prints.more (lines_of_turns rounder turn.moment turn.answer turn.files.source.missed) outer.is inner.is turn.prints.is
          turn.prints.prints.lines_are;
      is = rested there last new posting.after posting.is rests;
    }

pub in_round : (rounder : Rounder) (old : AgentPoint) (lines : List Line) (new : AgentPoint) → AgentRound rounder old end.Done lines new → InRound rounder old lines new
in_round rounder old lines new (last, round, rests) =
    let both = whole (OpensFirst rounder.upstreams) (GathersFirst rounder) old lines last round in
    let opening = in_opening rounder.upstreams old both.said both.between both.first in
    let G : AgentPoint → Type 0 = λ p. GathersFirst rounder p end.Done both.more last in
    let L : List Line → Type 0 = λ l. InRound rounder old l new in
    let same : lines ≡ both.more = both.is ∙ ap (λ (l : List Line). l ++ both.more) opening.quiet in
    subst L (sym same) (in_parts rounder old both.more last new (subst G opening.is both.second) rests)

-- ---- two whole rounds
-- what a round goes on is told
record TellsPoint (t : AgentTold) (p : AgentPoint) : Type 0 where
  link : TellsLink t.link p.at.way.link
  agent : p.at.client ≡ t.agent
  devices : p.devices ≡ t.devices
  all : TellsDevices t.devices

-- the link, the machine and the pocket didn't fail
record IsSteadyPoint (old new : AgentPoint) : Type 0 where
  link : new.at.way.link.faults ≡ old.at.way.link.faults
  devices : AreSteady old.devices new.devices

record SameRounds (lines lines' : List Line) (new new' : AgentPoint) : Type 0 where
  same : lines ≡ lines'
  t : AgentTold
  one : TellsPoint t new
  other : TellsPoint t new'

part_later : (part : Part (At State)) (old : At State) (then : Next) (lines : List Line) (new : At State) → Counts no_answer_told (of_link fault_count) part → part old then lines new → old.way.link.faults ≤ new.way.link.faults
part_later part old then lines new rises did = later-RoseBy (unanswered lines) old.way.link.faults new.way.link.faults (rises old then lines new did)

-- what a round begins with
abbrev pub first_of : Rounder → AgentPoint → At State
first_of rounder old = at old.at.client (opened_way rounder.upstreams old.at.way)

-- the stretches of a round in which its link didn't fail
record LinkSteady (rounder : Rounder) (old : AgentPoint) (lines : List Line) (new : AgentPoint) (r : InRound rounder old lines new) : Type 0 where
  gathering : r.gathers.way.link.faults ≡ (opened_way rounder.upstreams old.at.way).link.faults
  turns : r.files.source.way.link.faults ≡ r.gathers.way.link.faults
  posting : r.posts.way.link.faults ≡ r.files.source.way.link.faults
  low : (opened_way rounder.upstreams old.at.way).link.faults ≡ old.at.way.link.faults

link_steady : (rounder : Rounder) (old : AgentPoint) (lines : List Line) (new : AgentPoint) (r : InRound rounder old lines new) → new.at.way.link.faults ≡ old.at.way.link.faults → LinkSteady rounder old lines new r
link_steady rounder old lines new r steady =
    let first = part_later (GathersAll agent_client) (first_of rounder old) r.gone r.said r.gathers (gathering_counts agent_client) r.gathering in
    let then = files_later (record { moment = r.moment; offset = rounder.offset }) r.gathers.client old.devices (unasked r.gathers.way) r.answer r.agent r.devices r.files r.turns in
    let last = part_later (PostsAll agent_client) (at r.agent r.files.source.way) r.went r.more r.posts (posting_counts agent_client) r.posting in
    let end = ap (λ (p : AgentPoint). p.at.way.link.faults) r.is in
    let begin = opened_faults rounder.upstreams old.at.way in
    record {
      gathering = omega (arith, steady, first, then, last, end, begin);
      turns = omega (arith, steady, first, then, last, end, begin);
      posting = omega (arith, steady, first, then, last, end, begin);
      low = begin;
    }

-- no file turned to a second upstream then
none_told : (o p : Option (List ℕ)) → unanswered (switched_now (is_some o) p) ≡ 0 → switched_now (is_some o) p ≡ []
none_told None p none = refl
none_told (Some upstream) (Some same) none = refl
none_told (Some upstream) None none = absurd (omega (arith, none))

not_counted : (n m a b : ℕ) → RoseBy (n + m) a b → a < 2 ^ 64 - 1 → b ≡ a → n ≡ 0
not_counted n m a b rose below same = grind arith

nothing_said : (rounder : Rounder) (old : AgentPoint) (lines : List Line) (new : AgentPoint) (r : InRound rounder old lines new) → LinkSteady rounder old lines new r → old.at.way.link.faults < 2 ^ 64 - 1
    → switched r.gathers.way r.files.source.way ≡ []
nothing_said rounder old lines new r steady below =
    let since = turns_since (record { moment = r.moment; offset = rounder.offset }) r.gathers.client old.devices r.gathers.way r.answer r.agent r.devices r.files r.turns in
    let gathering = steady.gathering in
    let low = steady.low in
    none_told r.gathers.way.second r.files.source.way.second
    (not_counted (unanswered (switched r.gathers.way r.files.source.way)) (missed_in r.files.source.missed) r.gathers.way.link.faults r.files.source.way.link.faults since (omega (arith, gathering, low, below)) steady.turns)

devices_steady : (rounder : Rounder) (old : AgentPoint) (lines : List Line) (new : AgentPoint) (r : InRound rounder old lines new) → AreSteady old.devices new.devices → AreSteady old.devices r.devices
devices_steady rounder old lines new r steady = let P : AgentPoint → Type 0 = λ p. AreSteady old.devices p.devices in subst P r.is steady

points_once : AgentLaws → (rounder : Rounder) (t : AgentTold) (old old' new new' : AgentPoint) (lines lines' : List Line) → TellsPoint t old → TellsPoint t old' → IsSteadyPoint old new → IsSteadyPoint old' new'
    → (r : InRound rounder old lines new) (r' : InRound rounder old' lines' new') → r.moment ≡ r'.moment → SameRounds lines lines' new new'
points_once laws rounder t old old' new new' lines lines' tells tells' steady steady' r r' moments =
    let link = link_steady rounder old lines new r steady.link in
    let link' = link_steady rounder old' lines' new' r' steady'.link in
    let client = one_agent laws in
    let gathered = gathering_once laws.round agent_client Any client t.agent (opened_told rounder.upstreams t.link) (first_of rounder old) (first_of rounder old') r.gone r'.gone r.said r'.said r.gathers r'.gathers
    (record { client = tells.agent; good = tt; link = opened_tells rounder.upstreams t.link old.at.way tells.link })
    (record { client = tells'.agent; good = tt; link = opened_tells rounder.upstreams t.link old'.at.way tells'.link }) r.gone_on r'.gone_on link.gathering link'.gathering r.gathering r'.gathering in
    let here : When = record { moment = r.moment; offset = rounder.offset } in
    let A : State → Type 0 = λ s. TurnsWithFiles GivesFromLink here s old.devices (unasked r.gathers.way) r.answer r.agent r.devices r.files in
    let B : Devices → Type 0 = λ d. TurnsWithFiles GivesFromLink here gathered.k d (unasked r.gathers.way) r.answer r.agent r.devices r.files in
    let M : ℤ → Type 0 = λ m. TurnsWithFiles GivesFromLink (record { moment = m; offset = rounder.offset }) r'.gathers.client old'.devices (unasked r'.gathers.way) r'.answer r'.agent r'.devices r'.files in
    let A' : State → Type 0 = λ s. TurnsWithFiles GivesFromLink here s old'.devices (unasked r'.gathers.way) r'.answer r'.agent r'.devices r'.files in
    let B' : Devices → Type 0 = λ d. TurnsWithFiles GivesFromLink here gathered.k d (unasked r'.gathers.way) r'.answer r'.agent r'.devices r'.files in
    let S : Devices → Type 0 = λ d. AreSteady d r.devices in
    let S' : Devices → Type 0 = λ d. AreSteady d r'.devices in
    let turned = turns_once laws.turn here gathered.k t.devices (unasked r.gathers.way) (unasked r'.gathers.way) r.answer r'.answer r.agent r'.agent r.devices r'.devices r.files r'.files tells.all
    (record { told = gathered.told; first = gathered.one.link; second = gathered.other.link; missed = refl }) r.plain r'.plain (subst S tells.devices (devices_steady rounder old lines new r steady.devices))
    (subst S' tells'.devices (devices_steady rounder old' lines' new' r' steady'.devices)) link.turns link'.turns (subst B tells.devices (subst A gathered.one.client r.turns))
    (subst B' tells'.devices (subst A' gathered.other.client (subst M (sym moments) r'.turns))) in
    let posted = posting_once laws.round agent_client Any client r.agent turned.files.told (at r.agent r.files.source.way) (at r'.agent r'.files.source.way) r.went r'.went r.more r'.more r.posts r'.posts
    (record { client = refl; good = tt; link = turned.files.first }) (record { client = sym turned.state; good = tt; link = turned.files.second }) r.went_on r'.went_on link.posting link'.posting r.posting r'.posting in
    let then : AgentTold = record { link = posted.told; agent = posted.k; devices = r.devices } in
    let one : TellsPoint then (record { at = at_rest r.posts; devices = r.devices; clock = r.clock }) = record { link = posted.one.link; agent = posted.one.client; devices = refl; all = turned.tells } in
    let other : TellsPoint then (record { at = at_rest r'.posts; devices = r'.devices; clock = r'.clock }) = record { link = posted.other.link; agent = posted.other.client; devices = sym turned.devices; all = turned.tells } in
    let T : AgentPoint → Type 0 = λ p. TellsPoint then p in
    let turn_lines : lines_of_turns rounder r.moment r.answer r.files.source.missed ≡ lines_of_turns rounder r'.moment r'.answer r'.files.source.missed =
    λ i. lines_of_turns rounder (moments i) (turned.answer_is i) (turned.files.missed i) in
    let quiet = nothing_said rounder old lines new r link tells.link.rises in
    let quiet' = nothing_said rounder old' lines' new' r' link' tells'.link.rises in
    let said : switched r.gathers.way r.files.source.way ≡ switched r'.gathers.way r'.files.source.way = quiet ∙ sym quiet' in
    record {
      same = r.lines_are ∙ (λ i. gathered.lines_are i ++ ((said i ++ turn_lines i) ++ posted.lines_are i)) ∙ sym r'.lines_are;
      t = then;
      one = subst T (sym r.is) one;
      other = subst T (sym r'.is) other;
    }

-- ---- moments
-- lists that end with one more each
last_same : (xs ys : List ℤ) (m n : ℤ) → xs ++ m ∷ [] ≡ ys ++ n ∷ [] → (xs ≡ ys) × (m ≡ n)
last_same [] [] m n e = (refl, cons_head m n [] [] e)
last_same [] (y ∷ ys) m n e =
    let count : 1 ≡ length (y ∷ (ys ++ n ∷ [])) = ap (length {A = ℤ}) e in
    let sum = length-append ys (n ∷ []) in
    absurd (omega (arith, count, sum))
last_same (x ∷ xs) [] m n e =
    let count : length (x ∷ (xs ++ m ∷ [])) ≡ 1 = ap (length {A = ℤ}) e in
    let sum = length-append xs (m ∷ []) in
    absurd (omega (arith, count, sum))
last_same (x ∷ xs) (y ∷ ys) m n e =
    let more = last_same xs ys m n (cons_tail x y (xs ++ m ∷ []) (ys ++ n ∷ []) e) in
    let first = cons_head x y (xs ++ m ∷ []) (ys ++ n ∷ []) e in
    (λ i. first i ∷ more.0 i, more.1)

moment_more : (old new : Option (List ℤ)) (xs : List ℤ) (m : ℤ) → old ≡ Some xs → AppendsMoments old new (m ∷ []) → new ≡ Some (xs ++ m ∷ [])
moment_more None new xs m is it = absurd (cc)
moment_more (Some ys) None xs m is it = absurd it
moment_more (Some ys) (Some zs) xs m is it =
    let same : ys ≡ xs = cc in
    ap (λ (l : List ℤ). Some l) (it ∙ ap (λ l. l ++ m ∷ []) same)

some_same : (xs ys : List ℤ) → ◌≡◌ {A = Option (List ℤ)} (Some xs) (Some ys) → xs ≡ ys
some_same xs ys e = cc

-- the moments that a clock gave are told
abbrev pub GivesMoments : AgentScene → Type 0
GivesMoments scene = (given : List ℤ) × (scene.point.clock.given ≡ Some given)

given_told : (given : Option (List ℤ)) → IsSome given → (moments : List ℤ) × (given ≡ Some moments)
given_told None is = absurd (cc)
given_told (Some moments) is = (moments, refl)

pub moments_told : (scene : AgentScene) → IsSome scene.point.clock.given → GivesMoments scene
moments_told scene is = given_told scene.point.clock.given is

-- one round more
clock_more : (rounder : Rounder) (mid new : AgentScene) (lines : List Line) (r : InRound rounder mid.point lines new.point) (xs : List ℤ) → mid.point.clock.given ≡ Some xs
    → new.point.clock.given ≡ Some (xs ++ r.moment ∷ [])
clock_more rounder mid new lines r xs gives =
    ap (λ (p : AgentPoint). p.clock.given) r.is ∙ moment_more mid.point.clock.given r.clock.given xs r.moment gives r.asks.tells.1

runs_give : (rounder : Rounder) (old new : AgentScene) (run : AgentRun) → Runs rounder old run new → GivesMoments old → GivesMoments new
runs_give rounder old new Begun same (given, is) = (given, ap (λ (s : AgentScene). s.point.clock.given) same ∙ is)
runs_give rounder old new (Then run lines) (mid, runs, tells) gives =
    let before = runs_give rounder old mid run runs gives in
    let r = in_round rounder mid.point lines new.point tells.round in
    (before.0 ++ r.moment ∷ [], clock_more rounder mid new lines r before.0 before.1)

-- ---- runs
pub record OneAgentRun (run again : AgentRun) (one other : AgentScene) : Type 0 where
  pub same : run ≡ again
  pub alike : AgentsAlike one other

-- a run that didn't fail didn't on its way
record OnTheWay (old mid new : AgentScene) : Type 0 where
  first : IsSteadyAgent old mid
  then : IsSteadyPoint mid.point new.point

on_the_way : (rounder : Rounder) (old mid new : AgentScene) (run : AgentRun) (lines : List Line) → Runs rounder old run mid → TellsRound rounder mid put.Done lines new → IsSteadyAgent old new → OnTheWay old mid new
on_the_way rounder old mid new run lines runs tells steady =
    let before = whole_counted rounder old mid run runs in
    let last = round_counted rounder mid.point end.Done lines new.point tells.round in
    let link = steady.link in
    let machine = steady.machine in
    let pocket = steady.pocket in
    let link_before = before.link in
    let link_last = later-RoseBy (unanswered lines) mid.point.at.way.link.faults new.point.at.way.link.faults last.link in
    let machine_before = before.machine in
    let machine_last = later-RoseBy (unlooked lines) mid.point.devices.machine.faults new.point.devices.machine.faults last.machine in
    let pocket_before = before.pocket in
    let pocket_last = last.pocket.steady done_pocket in
    record {
      first = record { link = omega (arith, link, link_before, link_last); machine = omega (arith, machine, machine_before, machine_last); pocket = pocket_before };
      then = record {
        link = omega (arith, link, link_before, link_last);
        devices = record { machine = omega (arith, machine, machine_before, machine_last); pocket = pocket_last };
      };
    }

scene_point : (t : AgentTold) (scene : AgentScene) → TellsAgent t scene → TellsPoint t scene.point
scene_point t scene tells = record { link = tells.link; agent = tells.agent; devices = tells.devices; all = tells.all }

point_scene : (t : AgentTold) (scene : AgentScene) → TellsPoint t scene.point → TellsAgent t scene
point_scene t scene tells = record { link = tells.link; agent = tells.agent; devices = tells.devices; all = tells.all }

pub rounded_once : AgentLaws → (rounder : Rounder) (t : AgentTold) (old start one other : AgentScene) (run again : AgentRun) → TellsAgent t old → TellsAgent t start → GivesMoments old → GivesMoments start
    → Runs rounder old run one → Runs rounder start again other → round_count run ≡ round_count again → IsSteadyAgent old one → IsSteadyAgent start other
    → one.point.clock.given ≡ other.point.clock.given → OneAgentRun run again one other
rounded_once laws rounder t old start one other Begun Begun tells tells' gives gives' same same' count steady steady' moments =
    let P : AgentScene → Type 0 = λ s. TellsAgent t s in
    record { same = refl; alike = (t, subst P (sym same) tells, subst P (sym same') tells') }
rounded_once laws rounder t old start one other Begun (Then again lines') tells tells' gives gives' same runs' count steady steady' moments = absurd (omega (arith, count))
rounded_once laws rounder t old start one other (Then run lines) Begun tells tells' gives gives' runs same' count steady steady' moments = absurd (omega (arith, count))
rounded_once laws rounder t old start one other (Then run lines) (Then again lines') tells tells' gives gives' (mid, runs, round) (mid', runs', round') count steady steady' moments =
    let stretch = on_the_way rounder old mid one run lines runs round steady in
    let stretch' = on_the_way rounder start mid' other again lines' runs' round' steady' in
    let r = in_round rounder mid.point lines one.point round.round in
    let r' = in_round rounder mid'.point lines' other.point round'.round in
    let given = runs_give rounder old mid run runs gives in
    let given' = runs_give rounder start mid' again runs' gives' in
    let clock = clock_more rounder mid one lines r given.0 given.1 in
    let clock' = clock_more rounder mid' other lines' r' given'.0 given'.1 in
    let split = last_same given.0 given'.0 r.moment r'.moment (some_same (given.0 ++ r.moment ∷ []) (given'.0 ++ r'.moment ∷ []) (sym clock ∙ moments ∙ clock')) in
    let mids : mid.point.clock.given ≡ mid'.point.clock.given = given.1 ∙ ap (λ (l : List ℤ). Some l) split.0 ∙ sym given'.1 in
    let before = rounded_once laws rounder t old start mid mid' run again tells tells' gives gives' runs runs' (omega (arith, count)) stretch.first stretch'.first mids in
    let here = before.alike.0 in
    let last = points_once laws rounder here mid.point mid'.point one.point other.point lines lines' (scene_point here mid before.alike.1) (scene_point here mid' before.alike.2) stretch.then stretch'.then r r' split.1 in
    record { same = λ i. Then (before.same i) (last.same i); alike = (last.t, point_scene last.t one last.one, point_scene last.t other last.other) }

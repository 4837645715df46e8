-- A round of an agent.
use Rattle.std.specs.Prelude.{◌≡◌, ◌⊎◌, ℕ, ℤ, List, [], ◌∷◌, ◌++◌, Option, Some, None, ⊤}
use Rattle.desk_base.specs.Moments.{AsksMoment}
use Rattle.desk_base.specs.Views.{ClockView}
use Rattle.desk_base.specs.declared.clock.Told.{Told}
use Rattle.desk_base.specs.declared.clock.Told.TheVariants as told
use Rattle.desk_door.specs.Links.{LinkView}
use Rattle.agent_state.specs.States.{State}
use Rattle.agent_core.specs.Devices.{Devices}
use Rattle.agent_core.specs.declared.turned.Turned.{Turned}
use Rattle.agent_core.specs.declared.turned.Turned.TheVariants as of_turn
use Rattle.turn_lines.specs.Givers.{GiverView}
use Rattle.turn_lines.specs.TurnsWithFiles.{TurnsWithFiles}
use Rattle.desk_rounds.specs.declared.agent_rounds.Rounder.{Rounder}
use Rattle.desk_rounds.specs.declared.way.Upstreams.{Upstreams}
use Rattle.desk_rounds.specs.declared.agent_rounds.RoundEnd.{RoundEnd}
use Rattle.desk_rounds.specs.declared.agent_rounds.RoundEnd.TheVariants as end
use Rattle.desk_rounds.specs.declared.asking.Miss.{Miss}
use Rattle.desk_rounds.specs.declared.part.Next.{Next}
use Rattle.desk_rounds.specs.declared.part.Next.TheVariants as next
use Rattle.desk_rounds.specs.Clients.{At, agent_client, at, at_rest}
use Rattle.desk_rounds.specs.Files.{FileSource, GivesFromLink, unasked}
use Rattle.desk_rounds.specs.Gathering.{GathersAll}
use Rattle.desk_rounds.specs.Lines.{Line, lines_text, miss_lines, turned}
use Rattle.desk_rounds.specs.Parts.{Part}
use Rattle.desk_rounds.specs.Posting.{PostsAll}
use Rattle.desk_rounds.specs.Ways.{Way, switched, way}

-- what an agent's round goes on: the agent and what it asks, what its machine and its pocket tell, and what its clock tells
pub record AgentPoint : Type 0 where
  pub at : At State
  pub devices : Devices
  pub clock : ClockView

abbrev pub point : State → Way → Devices → ClockView → AgentPoint
point agent by devices clock = record { at = at agent by; devices = devices; clock = clock }

-- between two rounds
abbrev pub agent_point : State → LinkView → Devices → ClockView → AgentPoint
agent_point agent link devices clock = point agent (way link None) devices clock

-- From what a round goes on to how it ends, the lines that are printed, and what it goes on then. Of a part it is whole where the round
-- goes on with the next one.
abbrev pub Ending : Type 1
Ending = AgentPoint → RoundEnd → List Line → AgentPoint → Type 0

-- ---- parts, one after another
-- one part was done and printed, and then, where it is whole, the next is
abbrev pub AfterWhole : RoundEnd → List Line → Ending → Ending
AfterWhole end.Done said rest between ended lines new = (more : List Line) × rest between ended more new × (lines ≡ said ++ more)
AfterWhole one said rest between ended lines new = (ended ≡ one) × (lines ≡ said) × (new ≡ between)

abbrev pub Then : Ending → Ending → Ending
Then First Second old ended lines new =
    (one : RoundEnd) × (said : List Line) × (between : AgentPoint) × First old one said between
    × AfterWhole one said Second between ended lines new

-- ---- the first part and the third
-- how it ends by what would come next in it
abbrev pub end_of : Next → RoundEnd
end_of next.Memory = end.Memory
end_of other = end.Done

-- a part of the agent and its link, beside which nothing changes
abbrev pub Within : Part (At State) → Ending
Within part old ended lines new =
    (then : Next) × (after : At State) × part old.at then lines after × (ended ≡ end_of then) × (new ≡ record old { at = after })

-- it ends so, and no line of it is printed
pub record EndsQuietly (wanted ended : RoundEnd) (lines : List Line) : Type 0 where
  pub ended_is : ended ≡ wanted
  pub quiet : lines ≡ []

-- ---- the beginning
-- Where there are two upstreams the link is opened to the first. Before that there may be no memory.
abbrev pub OpensFirst : Option Upstreams → Ending
OpensFirst None old ended lines new = EndsQuietly end.Done ended lines × (new ≡ old)
OpensFirst (Some two) old ended lines new =
    (EndsQuietly end.Done ended lines
    × (new ≡ record old { at = at old.at.client (way (record old.at.way.link { upstream = Some two.first }) (Some two.second)) }))
    ⊎ (EndsQuietly end.Memory ended lines × (new ≡ old))

-- ---- the second part
-- why a wanted file didn't come, where one didn't, and the turn
abbrev pub missed_lines : Option Miss → List Line
missed_lines None = []
missed_lines (Some miss) = miss_lines miss

-- they were appended, or there was no memory. Only a private function cites this.
abbrev pub SaysMissed : Option Miss → Next → List ℕ → List ℕ → Type 0
SaysMissed missed next.Memory before after = ⊤
SaysMissed missed then before after = after ≡ before ++ lines_text (missed_lines missed)

abbrev pub lines_of_turns : Rounder → ℤ → Turned → Option Miss → List Line
lines_of_turns rounder moment answer missed = missed_lines missed ++ turned rounder.name moment answer ∷ []

-- they were appended, or there was no memory. Only a private function cites this.
abbrev pub SaysLines : List Line → RoundEnd → List ℕ → List ℕ → Type 0
SaysLines lines ended before after = ((ended ≡ end.Done) × (after ≡ before ++ lines_text lines)) ⊎ (ended ≡ end.Memory)

-- it is whole, and this is printed of it
pub record IsPrinted (said : List Line) (ended : RoundEnd) (lines : List Line) : Type 0 where
  pub ended_is : ended ≡ end.Done
  pub lines_are : lines ≡ said

-- What is printed of turns that answered so. For their lines there may be no memory.
abbrev pub PrintsTurns : Rounder → ℤ → Turned → Option Miss → RoundEnd → List Line → Type 0
PrintsTurns rounder moment of_turn.PocketFault missed ended lines = EndsQuietly end.PocketFault ended lines
PrintsTurns rounder moment of_turn.Memory missed ended lines = EndsQuietly end.Memory ended lines
PrintsTurns rounder moment answer missed ended lines =
    IsPrinted (lines_of_turns rounder moment answer missed) ended lines ⊎ EndsQuietly end.Memory ended lines

-- how it ends where there is no memory for a line of it: a fault of the pocket is told all the same
abbrev pub short_end : Turned → RoundEnd
short_end of_turn.PocketFault = end.PocketFault
short_end answer = end.Memory

-- Before that stands the line of the second upstream, where a file turned to it. For that there may be no memory either.
abbrev pub SaysBefore : List Line → Turned → (RoundEnd → List Line → Type 0) → RoundEnd → List Line → Type 0
SaysBefore [] answer prints ended lines = prints ended lines
SaysBefore (line ∷ said) answer prints ended lines =
    ((more : List Line) × prints ended more × (lines ≡ line ∷ said ++ more)) ⊎ EndsQuietly (short_end answer) ended lines

-- what is left after turns, by what the giver of files told
abbrev pub after_turns : AgentPoint → State → Devices → GiverView FileSource → AgentPoint
after_turns old agent devices files = record old { at = at agent files.source.way; devices = devices }

-- Turns are made at the moment, with files from the link, while one is wanted.
abbrev pub TurnsAt : Rounder → ℤ → Ending
TurnsAt rounder moment old ended lines new =
    (answer : Turned) × (agent : State) × (devices : Devices) × (files : GiverView FileSource)
    × TurnsWithFiles GivesFromLink (record { moment = moment; offset = rounder.offset }) old.at.client old.devices (unasked old.at.way)
    answer agent devices files
    × SaysBefore (switched old.at.way files.source.way) answer (PrintsTurns rounder moment answer files.source.missed) ended lines
    × (new ≡ after_turns old agent devices files)

-- what comes after the clock was asked
abbrev pub AfterClock : Rounder → Told → Ending
AfterClock rounder (told.Moment moment) = TurnsAt rounder moment
AfterClock rounder told.Failed = λ old ended lines new. EndsQuietly end.ClockFault ended lines × (new ≡ old)

-- One moment is taken from the clock, and the agent makes its turn at it.
abbrev pub TakesTurn : Rounder → Ending
TakesTurn rounder old ended lines new =
    (answer : Told) × (clock : ClockView) × AsksMoment old.clock answer clock
    × AfterClock rounder answer (record old { clock = clock }) ended lines new

-- ---- the round
-- the agent makes its turn at one moment, and then the reports are posted that it has then
abbrev pub RestOfRound : Rounder → Ending
RestOfRound rounder = Then (TakesTurn rounder) (Within (PostsAll agent_client))

-- The newer sites are gathered, and then that.
abbrev pub GathersFirst : Rounder → Ending
GathersFirst rounder = Then (Within (GathersAll agent_client)) (RestOfRound rounder)

-- The link is opened to the first upstream, where there are two, and then that. Where the round ends by a fault of the clock or the pocket,
-- or by want of memory, this is how far it came.
abbrev pub WholeRound : Rounder → Ending
WholeRound rounder = Then (OpensFirst rounder.upstreams) (GathersFirst rounder)

-- A round, after which the next one begins with the first upstream.
abbrev pub AgentRound : Rounder → Ending
AgentRound rounder old ended lines new =
    (last : AgentPoint) × WholeRound rounder old ended lines last × (new ≡ record last { at = at_rest last.at })

-- the text of the lines was appended, unless memory ran out: then what was appended is of no use
abbrev pub PrintsRound : RoundEnd → List Line → List ℕ → List ℕ → Type 0
PrintsRound end.Memory lines before after = ⊤
PrintsRound ended lines before after = after ≡ before ++ lines_text lines

-- Such a part was done, and its lines were appended.
pub record Makes (part : Ending) (old : AgentPoint) (before : List ℕ) (ended : RoundEnd) (new : AgentPoint) (after : List ℕ)
    : Type 0 where
  pub lines : List Line
  pub does : part old ended lines new
  pub printed : PrintsRound ended lines before after

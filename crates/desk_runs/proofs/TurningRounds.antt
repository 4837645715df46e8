-- The files of an agent's turns, and its whole rounds, by which of two upstreams was asked.
use Rattle.std.proofs.Common.{◌≡◌, ◌≢◌, ℕ, List, [], ◌∷◌, map, Some, Result, Ok, Err, inl, inr, refl, sym, subst}
use Rattle.std.specs.declared.option.Option.{Option}
use Rattle.desk_door.specs.Links.{LinkView}
use Rattle.script_run.specs.Asking.{When}
use Rattle.agent_state.specs.States.{State}
use Rattle.agent_core.specs.Devices.{Devices}
use Rattle.agent_core.specs.declared.turned.Turned.{Turned}
use Rattle.agent_core.specs.declared.turned.Turned.TheVariants as of_turn
use Rattle.turn_lines.specs.declared.giver.Given.{Given}
use Rattle.turn_lines.specs.declared.giver.Given.TheVariants as given
use Rattle.turn_lines.specs.Givers.{GivesAll, GiverView}
use Rattle.turn_lines.specs.TurnsWithFiles.{Closes, Fetch, TurnsWithFiles, asked_by, given_of}
use Rattle.desk_rounds.specs.declared.agent_rounds.Rounder.{Rounder}
use Rattle.desk_rounds.specs.declared.agent_rounds.RoundEnd.TheVariants as end
use Rattle.desk_rounds.specs.declared.asking.Miss.{Miss}
use Rattle.desk_rounds.specs.declared.asking.Miss.TheVariants as miss
use Rattle.desk_rounds.specs.declared.way.Upstreams.{Upstreams}
use Rattle.desk_rounds.specs.AgentRounds.{AgentPoint, AgentRound}
use Rattle.desk_rounds.specs.Clients.{agent_client, at}
use Rattle.desk_rounds.specs.Files.{FileSource, GivenBy, GivesFromLink, unasked}
use Rattle.desk_rounds.specs.Lines.{Line}
use Rattle.desk_rounds.specs.Replies.{TellsFile}
use Rattle.desk_rounds.specs.Requests.{file_request}
use Rattle.desk_rounds.specs.Ways.{Way}
use Rattle.desk_runs.specs.AskedUpstreams.{AsksEither}
use Rattle.desk_runs.proofs.OneRounds.{first_of, in_round, opened_way}
use Rattle.desk_runs.proofs.OneTurns.{IsPlain, not_memory}
use Rattle.desk_runs.proofs.Turning.{Stands, asked_for, first_stands, gathering_keeps, posting_keeps}

-- an answer without want of memory
given_ample : (came : Result (Option (List ℕ)) Miss) (old : Option Miss) (answer : Given) (new : Option Miss) → answer ≢ given.Memory → GivenBy came old answer new → came ≢ Err miss.Memory
given_ample (Ok bytes) old answer new ample by e = cc
given_ample (Err miss.NoAnswer) old answer new ample by e = cc
given_ample (Err miss.BadAnswer) old answer new ample by e = cc
given_ample (Err miss.Memory) old answer new ample by e = ample by.0

module _ (two : Upstreams) (old : LinkView) where
  gives_keeps : (digest : List ℕ) (from : FileSource) (answer : Given) (new : FileSource) → answer ≢ given.Memory → GivesFromLink from digest answer new → Stands two old from.way → Stands two old new.way
  gives_keeps digest from answer new ample (came, asks, by) st =
      asked_for two old (file_request digest) TellsFile from.way came new.way (given_ample came from.missed answer new.missed ample by) asks st

  same_source : (from new : GiverView FileSource) → new ≡ from → Stands two old from.source.way → Stands two old new.source.way
  same_source from new same st = let To : GiverView FileSource → Type 0 = λ g. Stands two old g.source.way in subst To (sym same) st

  all_keep : (from : GiverView FileSource) (fetches : List Fetch) (new : GiverView FileSource) → GivesAll GivesFromLink from (map asked_by fetches) new → Stands two old from.source.way → Stands two old new.source.way
  all_keep from [] new same st = same_source from new same st
  all_keep from (fetch ∷ fetches) new (between, gives, more) st =
      all_keep between fetches new more (gives_keeps fetch.digest from.source (given_of fetch.bytes) between.source (not_memory fetch.bytes) gives.source st)

  closes_keep : (last : Turned) (told : GiverView FileSource) (answer : Turned) (new : GiverView FileSource) → IsPlain answer → Closes GivesFromLink last told answer new → Stands two old told.source.way → Stands two old new.source.way
  closes_keep of_turn.Idle told answer new plain (same, is) st = same_source told new same st
  closes_keep (of_turn.Interrupted id) told answer new plain (same, is) st = same_source told new same st
  closes_keep (of_turn.Held id began component line) told answer new plain (same, is) st = same_source told new same st
  closes_keep (of_turn.Wants id began digest) told answer new plain (inl (gives, is)) st = gives_keeps digest told.source given.NotGot new.source (λ e. cc) gives.source st
  closes_keep (of_turn.Wants id began digest) told answer new plain (inr (gives, is)) st = absurd (plain.memory is)
  closes_keep (of_turn.Ended id began outcome fail) told answer new plain (same, is) st = same_source told new same st
  closes_keep of_turn.MachineFault told answer new plain (same, is) st = same_source told new same st
  closes_keep of_turn.PocketFault told answer new plain (same, is) st = same_source told new same st
  closes_keep of_turn.Memory told answer new plain (same, is) st = same_source told new same st

  turns_keep : (time : When) (s : State) (d : Devices) (from : GiverView FileSource) (answer : Turned) (s2 : State) (d2 : Devices) (new : GiverView FileSource) → IsPlain answer
      → TurnsWithFiles GivesFromLink time s d from answer s2 d2 new → Stands two old from.source.way → Stands two old new.source.way
  turns_keep time s d from answer s2 d2 new plain turns st =
      closes_keep turns.last turns.told answer new plain turns.closes (all_keep from turns.turns.fetches turns.told turns.turns.asked st)

  either_told : (w : Way) → Stands two old w → AsksEither two old w.link
  either_told w (inl st) = inl (record { requests = st.requests; asked = st.asked; steady = st.steady })
  either_told w (inr st) = inr (record { firsts = st.firsts; failed = st.failed; seconds = st.seconds; asked = st.asked; rose = st.rose })

pub round_turns_once : (rounder : Rounder) (two : Upstreams) (old new : AgentPoint) (lines : List Line) → rounder.upstreams ≡ Some two → AgentRound rounder old end.Done lines new → AsksEither two old.at.way.link new.at.way.link
round_turns_once rounder two old new lines has round =
    let link = old.at.way.link in
    let r = in_round rounder old lines new round in
    let From : Option Upstreams → Type 0 = λ u. Stands two link (opened_way u old.at.way) in
    let begins : Stands two link (opened_way (Some two) old.at.way) = first_stands two link link refl refl in
    let first = gathering_keeps two link agent_client (first_of rounder old) r.gone r.said r.gathers r.gone_on r.gathering (subst From (sym has) begins) in
    let files = turns_keep two link (record { moment = r.moment; offset = rounder.offset }) r.gathers.client old.devices (unasked r.gathers.way) r.answer r.agent r.devices r.files r.plain r.turns first in
    let last = posting_keeps two link agent_client (at r.agent r.files.source.way) r.went r.more r.posts r.went_on r.posting files in
    let To : AgentPoint → Type 0 = λ p. AsksEither two link p.at.way.link in
    subst To (sym r.is) (either_told two link r.posts.way last)

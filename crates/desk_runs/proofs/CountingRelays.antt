-- What runs of relays do to the counts of faults.
use Rattle.std.proofs.Common.{◌≡◌, ◌≤◌, ℕ, Bool, List, Option, None, Some, Result, Ok, Err, inl, inr, refl, ap, ◌∙◌, subst, arith}
use Rattle.desk_base.specs.Counts.{Rose}
use Rattle.desk_base.specs.Views.{SinkView}
use Rattle.desk_base.specs.declared.sink.Put.{Put}
use Rattle.desk_base.specs.declared.sink.Put.TheVariants as put
use Rattle.bf_machine.specs.Rises.{RoseBy}
use Rattle.bf_machine.proofs.Telling.{RoseBy-later, later-RoseBy}
use Rattle.desk_door.specs.Doors.{DoorView}
use Rattle.desk_door.specs.Links.{LinkView}
use Rattle.desk_hosts.specs.declared.file.Came.{Came}
use Rattle.desk_hosts.specs.RelayCalls.{RelayCalls, RelayTells}
use Rattle.desk_hosts.specs.RelayFiles.{AsksFile, FilesTell, TellsBy, TellsLooked}
use Rattle.http_replies.specs.declared.answer.Answer.{Answer}
use Rattle.relay_cache.specs.CachedFiles.{CacheState, cached}
use Rattle.route_rules.specs.declared.method.Asking.{Asking}
use Rattle.route_rules.specs.declared.route.Route.TheVariants as of_route
use Rattle.route_rules.specs.declared.route.Routes.TheVariants as of_routes
use Rattle.desk_http.specs.declared.host.Called.{Called}
use Rattle.desk_http.specs.declared.host.Called.TheVariants as called
use Rattle.desk_http.specs.declared.talk.Met.{Met}
use Rattle.desk_http.specs.declared.talk.Met.TheVariants as met
use Rattle.desk_http.specs.Conversing.{Converses, Responds}
use Rattle.desk_http.specs.Heard.{Heard, Call, Refused}
use Rattle.desk_rounds.specs.declared.part.Next.{Next}
use Rattle.desk_rounds.specs.declared.part.Next.TheVariants as next
use Rattle.desk_rounds.specs.Lines.{Line}
use Rattle.desk_rounds.specs.RelayRounds.{RelayRound}
use Rattle.desk_serve.specs.declared.step.Stop.{Stop}
use Rattle.desk_serve.specs.declared.step.Stop.TheVariants as stop
use Rattle.desk_runs.specs.Counting.{CountsRelayed}
use Rattle.desk_runs.specs.RelayRuns.{Begun, BreaksNext, RelayRun, RelaysAll, Runs, Then}
use Rattle.desk_runs.specs.RelaySteps.{BreaksRound, BreaksTalk, RelayScene, Talks, TellsRound, TellsTalk, host_of, upstream_of}
use Rattle.desk_runs.proofs.CountingRounds.{relay_round_counts, unanswered}

-- ---- the link, where a file is asked for
asks_later : (old new : LinkView) (digest : List ℕ) (gave : Came) → AsksFile old digest gave new → old.faults ≤ new.faults
asks_later old new digest gave (inl (memory, same)) = let e = ap (λ (l : LinkView). l.faults) same in omega (arith, e)
asks_later old new digest gave (inr (exchanged, asks, comes)) = asks.counts.later

looked_later : (digest : List ℕ) (o : Option (List ℕ)) (old new : LinkView) (cache after : CacheState) (it : Answer)
    → TellsLooked digest o old cache it new after → old.faults ≤ new.faults
looked_later digest (Some bytes) old new cache after it tells = let e = ap (λ (l : LinkView). l.faults) tells.1 in omega (arith, e)
looked_later digest None old new cache after it tells = asks_later old new digest tells.gave tells.asks

file_later : (digest : List ℕ) (cache : Option CacheState) (old : LinkView) (it : Answer) (new : FilesTell) → TellsBy digest cache old it new → old.faults ≤ new.link.faults
file_later digest None old it new tells = asks_later old new.link digest tells.0.gave tells.0.asks
file_later digest (Some cache) old it new (after, tells, kept) = looked_later digest (cached digest cache.files) old new.link cache after it tells

-- ---- and in a conversation
same_later : (old new : RelayTells) → new ≡ old → old.files.link.faults ≤ new.files.link.faults
same_later old new same = let e = ap (λ (t : RelayTells). t.files.link.faults) same in omega (arith, e)

call_later : (old new : RelayTells) (asking : Asking) (path body : List ℕ) (it : Called) → RelayCalls old asking path body it new → old.files.link.faults ≤ new.files.link.faults
call_later old new asking path body it (inl short) = same_later old new short.1
call_later old new asking path body it (inr (None, given, finds, answers, is)) = same_later old new answers.1
call_later old new asking path body it (inr (Some of_route.Publish, given, finds, answers, is)) = same_later old new answers.1
call_later old new asking path body it (inr (Some of_route.Act, given, finds, answers, is)) = same_later old new answers.1
call_later old new asking path body it (inr (Some (of_route.Stop id), given, finds, answers, is)) = same_later old new answers.1
call_later old new asking path body it (inr (Some of_route.File, given, finds, answers, is)) = same_later old new answers.1
call_later old new asking path body it (inr (Some of_route.AskSites, given, finds, answers, is)) = same_later old new answers.1
call_later old new asking path body it (inr (Some (of_route.AskSite name version), given, finds, answers, is)) = same_later old new answers.1
call_later old new asking path body it (inr (Some (of_route.AskFile digest), given, finds, (tells, stays), is)) =
    file_later digest old.files.cache old.files.link given new.files tells
call_later old new asking path body it (inr (Some of_route.Report, given, finds, answers, is)) =
    let e = ap (λ (f : FilesTell). f.link.faults) answers.1 in omega (arith, e)
call_later old new asking path body it (inr (Some (of_route.Results name), given, finds, answers, is)) = same_later old new answers.1

answer_later : (host host' : RelayTells) (heard : Heard) (whole : Bool) (status : ℕ) (text : List ℕ) → Responds RelayCalls host heard whole status text host' → host.files.link.faults ≤ host'.files.link.faults
answer_later host host' (Call asking path body) whole status text responds = call_later host host' asking path body (called.Answer status text) responds.1
answer_later host host' (Refused it) whole status text responds = same_later host host' responds.2

-- what a conversation leaves of the counts, none of which falls
pub record IsLater (old new : DoorView) (host host' : RelayTells) : Type 0 where
  pub door : old.faults ≤ new.faults
  pub link : host.files.link.faults ≤ host'.files.link.faults

pub talk_later : (old new : DoorView) (host host' : RelayTells) (ended : Met) → Converses RelayCalls of_routes.Relay old host ended new host' → IsLater old new host host'
talk_later old new host host' (met.Answered status) (text, due, writes) =
    record { door = writes.counts.later; link = answer_later host host' due.heard due.whole status text due.responds }
talk_later old new host host' met.Closed (closes, same) = let e = closes.faults in record { door = omega (arith, e); link = same_later host host' same }
talk_later old new host host' met.DoorFault (inl (breaks, same)) = record { door = later-RoseBy 1 old.faults new.faults breaks.rose; link = same_later host host' same }
talk_later old new host host' met.DoorFault (inr (status, was)) =
    record { door = was.2.counts.later; link = answer_later host host' was.1.heard was.1.whole status was.0 was.1.responds }
talk_later old new host host' met.Memory (inl (out, same), last, writes) = record { door = writes.counts.later; link = same_later host host' same }
talk_later old new host host' met.Memory (inr was, last, writes) =
    record { door = writes.counts.later; link = call_later host host' was.asking was.path was.body was.called was.answers }

pub door_fault : (old new : DoorView) (host host' : RelayTells) → Converses RelayCalls of_routes.Relay old host met.DoorFault new host' → RoseBy 1 old.faults new.faults
door_fault old new host host' (inl (breaks, same)) = breaks.rose
door_fault old new host host' (inr (status, was)) = was.2.counts.rose refl

-- ---- steps
-- no count of the door and the link falls
pub record NoneFalls (old new : RelayScene) : Type 0 where
  pub door : old.door.faults ≤ new.door.faults
  pub link : old.link.faults ≤ new.link.faults

pub none_fall : (a b c : RelayScene) → NoneFalls a b → NoneFalls b c → NoneFalls a c
none_fall a b c p q =
    let door_first = p.door in
    let door_then = q.door in
    let link_first = p.link in
    let link_then = q.link in
    record { door = omega (arith, door_first, door_then); link = omega (arith, link_first, link_then) }

pub talk_falls : (old new : RelayScene) (ended : Met) → Talks old ended new → NoneFalls old new
talk_falls old new ended talks =
    let later = talk_later talks.begun new.door (host_of old) (host_of new) ended talks.talks in
    let begun = talks.begins.counts.later in
    let door_then = later.door in
    record { door = omega (arith, begun, door_then); link = later.link }

round_falls : (old new : RelayScene) (then : Next) (lines : List Line) → RelayRound (upstream_of old) then lines (upstream_of new) → new.door ≡ old.door → NoneFalls old new
round_falls old new then lines round same =
    let e = ap (λ (d : DoorView). d.faults) same in
    record {
      door = omega (arith, e);
      link = later-RoseBy (unanswered lines) old.link.faults new.link.faults (relay_round_counts (upstream_of old) then lines (upstream_of new) round);
    }

-- the link's count rose by as many as the lines of a round tell
pub lines_rise : (old new : RelayScene) (answer : Put) (lines : List Line) → TellsRound old answer lines new → RoseBy (unanswered lines) old.link.faults new.link.faults
lines_rise old new answer lines tells = relay_round_counts (upstream_of old) tells.then lines (upstream_of new) tells.round

pub told_falls : (old new : RelayScene) (answer : Put) (lines : List Line) → TellsRound old answer lines new → NoneFalls old new
told_falls old new answer lines tells = round_falls old new tells.then lines tells.round tells.door

failed_not_done : put.Done ≡ put.Failed → ⊥
failed_not_done e = cc

-- ---- whole steps
pub record CountsWhole (old new : RelayScene) : Type 0 where
  pub falls : NoneFalls old new
  pub sink : new.sink.faults ≡ old.sink.faults

whole_both : (a b c : RelayScene) → CountsWhole a b → CountsWhole b c → CountsWhole a c
whole_both a b c p q = record { falls = none_fall a b c p.falls q.falls; sink = q.sink ∙ p.sink }

round_whole : (old new : RelayScene) (lines : List Line) → TellsRound old put.Done lines new → CountsWhole old new
round_whole old new lines tells = record { falls = round_falls old new tells.then lines tells.round tells.door; sink = tells.writes.counts.steady failed_not_done }

talk_whole : (old new : RelayScene) (ended : Met) → TellsTalk old put.Done ended new → CountsWhole old new
talk_whole old new ended tells = record { falls = talk_falls old new ended tells.talks; sink = tells.writes.counts.steady failed_not_done }

pub runs_whole : (old new : RelayScene) (run : RelayRun) → Runs old run new → CountsWhole old new
runs_whole old new (Begun lines) tells = round_whole old new lines tells
runs_whole old new (Then run ended lines) (mid, runs, (between, talk, round)) =
    whole_both old mid new (runs_whole old mid run runs) (whole_both mid between new (talk_whole mid between ended talk) (round_whole between new lines round))

-- what ended a run is this
abbrev IsCut : Result Unit Stop → Stop → Type 0
IsCut result why = result ≡ Err why

-- ---- the broken step
-- what it did, behind whole steps, where it isn't the sink's
left_counted : (old mid new : RelayScene) (why : Stop) → CountsWhole old mid → NoneFalls mid new → new.sink ≡ mid.sink → (IsCut (Err why) stop.Sink → ⊥)
    → (IsCut (Err why) stop.Door → Rose mid.door.faults new.door.faults) → CountsRelayed (Err why) old new
left_counted old mid new why before falls same no_sink rose =
    let sink_is = ap (λ (s : SinkView). s.faults) same ∙ before.sink in
    let all = none_fall old mid new before.falls falls in
    let door_before = before.falls.door in record {
      sink = record { rose = λ e. absurd (no_sink e); steady = λ none. sink_is; later = omega (arith, sink_is) };
      door = all.door;
      rose = λ e. RoseBy-later 1 old.door.faults mid.door.faults new.door.faults door_before (rose e);
      link = all.link;
    }

unsaid_counted : (old mid new : RelayScene) → CountsWhole old mid → NoneFalls mid new → Rose mid.sink.faults new.sink.faults → CountsRelayed (Err stop.Sink) old new
unsaid_counted old mid new before falls rose =
    let Rises : ℕ → Type 0 = λ n. Rose n new.sink.faults in
    let risen = subst Rises before.sink rose in
    let all = none_fall old mid new before.falls falls in record {
      sink = record { rose = λ e. risen; steady = λ none. absurd (none refl); later = later-RoseBy 1 old.sink.faults new.sink.faults risen };
      door = all.door;
      rose = λ e. absurd (cc);
      link = all.link;
    }

round_broken : (old mid new : RelayScene) (why : Stop) → CountsWhole old mid → BreaksRound mid why new → CountsRelayed (Err why) old new
round_broken old mid new stop.Door before breaks = absurd breaks
round_broken old mid new stop.Memory before left =
    left_counted old mid new stop.Memory before (round_falls mid new next.Memory left.lines left.round left.door) left.sink (λ e. cc) (λ e. absurd (cc))
round_broken old mid new stop.Sink before (lines, tells) =
    unsaid_counted old mid new before (round_falls mid new tells.then lines tells.round tells.door) (tells.writes.counts.rose refl)

talk_broken : (old mid new : RelayScene) (why : Stop) → CountsWhole old mid → BreaksTalk mid why new → CountsRelayed (Err why) old new
talk_broken old mid new stop.Door before none =
    let link_is = ap (λ (l : LinkView). l.faults) none.link in
    left_counted old mid new stop.Door before (record { door = none.begins.counts.later; link = omega (arith, link_is) }) none.sink (λ e. cc) (λ e. none.begins.counts.rose refl)
talk_broken old mid new stop.Memory before left =
    left_counted old mid new stop.Memory before (talk_falls mid new met.Memory left.talks) left.sink (λ e. cc) (λ e. absurd (cc))
talk_broken old mid new stop.Sink before (ended, tells) = unsaid_counted old mid new before (talk_falls mid new ended tells.talks) (tells.writes.counts.rose refl)

next_broken : (old mid new : RelayScene) (why : Stop) → CountsWhole old mid → BreaksNext mid why new → CountsRelayed (Err why) old new
next_broken old mid new why before (inl breaks) = talk_broken old mid new why before breaks
next_broken old mid new why before (inr (ended, between, tells, breaks)) =
    round_broken old between new why (whole_both old mid between before (talk_whole mid between ended tells)) breaks

-- nothing was done yet
begun_whole : (old : RelayScene) → CountsWhole old old
begun_whole old = record { falls = record { door = omega arith; link = omega arith }; sink = refl }

pub relayed_counted : (old new : RelayScene) (count : ℕ) (result : Result Unit Stop) → RelaysAll old count result new → CountsRelayed result old new
relayed_counted old new count (Ok u) (run, is, goes) =
    let whole = runs_whole old new run goes.runs in
    let sink_is = whole.sink in record {
      sink = record { rose = λ e. absurd (cc); steady = λ none. sink_is; later = omega (arith, sink_is) };
      door = whole.falls.door;
      rose = λ e. absurd (cc);
      link = whole.falls.link;
    }
relayed_counted old new count (Err why) (inl breaks) = round_broken old old new why (begun_whole old) breaks
relayed_counted old new count (Err why) (inr (done, below, mid, (run, is, goes), breaks)) =
    next_broken old mid new why (runs_whole old mid run goes.runs) breaks

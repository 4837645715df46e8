-- What conversations do to the counts of faults.
use Rattle.std.proofs.Common.{◌≡◌, ◌≤◌, ℕ, ◌+◌, List, Bool, true, false, None, Some, Result, Ok, Err, inl, inr, refl, ap, ◌∙◌, subst, arith}
use Rattle.std.specs.Prelude.{◌==◌, if◌then◌else◌}
use Rattle.std.proofs.lemmas.Bool.Decides.{Decides-eqb}
use Rattle.desk_base.specs.Counts.{Rose}
use Rattle.desk_base.specs.Views.{SinkView}
use Rattle.desk_keep.specs.Views.{KeeperView}
use Rattle.bf_machine.specs.Rises.{RoseBy}
use Rattle.bf_machine.proofs.Telling.{RoseBy-later, RoseBy-more, RoseBy-none, later-RoseBy}
use Rattle.desk_door.specs.Doors.{DoorView}
use Rattle.route_rules.specs.declared.method.Asking.{Asking}
use Rattle.route_rules.specs.declared.route.Routes.TheVariants as of_routes
use Rattle.desk_http.specs.declared.host.Called.{Called}
use Rattle.desk_http.specs.declared.host.Called.TheVariants as called
use Rattle.desk_http.specs.declared.request.Refusal.{Refusal}
use Rattle.desk_http.specs.declared.request.Refusal.TheVariants as refusal
use Rattle.desk_http.specs.declared.talk.Met.{Met}
use Rattle.desk_http.specs.declared.talk.Met.TheVariants as met
use Rattle.desk_http.specs.Conversing.{Converses, Responds}
use Rattle.desk_http.specs.Heard.{Heard, Call, Refused}
use Rattle.desk_http.specs.Spoken.{status_of}
use Rattle.server_text.specs.declared.reply.Reply.{Reply}
use Rattle.server_text.specs.declared.reply.Reply.TheVariants as reply
use Rattle.http_replies.specs.declared.answer.Answer.TheVariants as answer
use Rattle.http_replies.specs.Statuses.{answer_status, reply_status}
use Rattle.server_core.specs.declared.limits.Limits.{Limits}
use Rattle.desk_hosts.specs.ServerCalls.{ServerCalls, ServerTells}
use Rattle.desk_serve.specs.declared.step.Stop.{Stop}
use Rattle.desk_serve.specs.declared.step.Stop.TheVariants as stop
use Rattle.desk_serve.specs.ServeCounts.{CountsServed, CountsTalks, ended_so, is_answered, is_door_fault}
use Rattle.desk_serve.specs.ServeRuns.{Run, Begun, Then, Runs, ServesAll}
use Rattle.desk_serve.specs.ServeSteps.{Scene, Breaks, Serves, Talks, server_of}

-- what desk_hosts says of every call that is answered 500
abbrev pub KeeperCounted : Type 0
KeeperCounted = (old new : ServerTells) (asking : Asking) (path body text : List ℕ) → ServerCalls old asking path body (called.Answer 500 text) new → Rose old.keeper.faults new.keeper.faults

-- a conversation with a server, by what door and server tell
abbrev pub ServerTalks : DoorView → ServerTells → Met → DoorView → ServerTells → Type 0
ServerTalks = Converses ServerCalls of_routes.Server

-- ---- the keeper

same_later : (old new : ServerTells) → new ≡ old → old.keeper.faults ≤ new.keeper.faults
same_later old new same = let e = ap (λ (t : ServerTells). t.keeper.faults) same in omega (arith, e)

call_later : (old new : ServerTells) (asking : Asking) (path body : List ℕ) (it : Called) → ServerCalls old asking path body it new → old.keeper.faults ≤ new.keeper.faults
call_later old new asking path body it (inl short) = same_later old new short.1
call_later old new asking path body it (inr (None, given, finds, answers, is)) = same_later old new answers.1
call_later old new asking path body it (inr (Some route, given, finds, answers, is)) = answers.2.counts.later

answer_later : (host host' : ServerTells) (heard : Heard) (whole : Bool) (status : ℕ) (text : List ℕ) → Responds ServerCalls host heard whole status text host' → host.keeper.faults ≤ host'.keeper.faults
answer_later host host' (Call asking path body) whole status text responds = call_later host host' asking path body (called.Answer status text) responds.1
answer_later host host' (Refused it) whole status text responds = same_later host host' responds.2

keeper_later : (old new : DoorView) (host host' : ServerTells) (ended : Met) → ServerTalks old host ended new host' → host.keeper.faults ≤ host'.keeper.faults
keeper_later old new host host' (met.Answered status) (text, due, writes) = answer_later host host' due.heard due.whole status text due.responds
keeper_later old new host host' met.Closed (closes, same) = same_later host host' same
keeper_later old new host host' met.DoorFault (inl (breaks, same)) = same_later host host' same
keeper_later old new host host' met.DoorFault (inr (status, was)) = answer_later host host' was.1.heard was.1.whole status was.0 was.1.responds
keeper_later old new host host' met.Memory (inl (out, same), last, writes) = same_later host host' same
keeper_later old new host host' met.Memory (inr was, last, writes) = call_later host host' was.asking was.path was.body was.called was.answers

keeper_400 : ◌≡◌ {A = ℕ} 500 400 → ⊥
keeper_400 h = omega (arith, h)

keeper_404 : ◌≡◌ {A = ℕ} 500 404 → ⊥
keeper_404 h = omega (arith, h)

keeper_413 : ◌≡◌ {A = ℕ} 500 413 → ⊥
keeper_413 h = omega (arith, h)

refused_500 : (it : Refusal) → 500 ≡ status_of it → ⊥
refused_500 refusal.BadRequest h = keeper_400 h
refused_500 refusal.NoSuch h = keeper_404 h
refused_500 refusal.TooLong h = keeper_413 h

answered_500 : KeeperCounted → (host host' : ServerTells) (heard : Heard) (whole : Bool) (text : List ℕ) → Responds ServerCalls host heard whole 500 text host' → Rose host.keeper.faults host'.keeper.faults
answered_500 counted host host' (Call asking path body) whole text responds = counted host host' asking path body text responds.1
answered_500 counted host host' (Refused it) whole text responds = absurd (refused_500 it responds.0)

rose_if : (b : Bool) (x y : ℕ) → (b ≡ true → Rose x y) → x ≤ y → RoseBy (if b then 1 else 0) x y
rose_if true x y rose later = rose refl
rose_if false x y rose later = RoseBy-none x y later

keeper_step : KeeperCounted → (old new : DoorView) (host host' : ServerTells) (ended : Met) → ServerTalks old host ended new host' → RoseBy (if is_answered 500 ended then 1 else 0) host.keeper.faults host'.keeper.faults
keeper_step counted old new host host' (met.Answered status) (text, due, writes) =
    let P : ℕ → Type 0 = λ n. Responds ServerCalls host due.heard due.whole n text host' in
    rose_if (status == 500) host.keeper.faults host'.keeper.faults
    (λ is. answered_500 counted host host' due.heard due.whole text (subst P ((Decides-eqb status 500).0 is) due.responds))
    (answer_later host host' due.heard due.whole status text due.responds)
keeper_step counted old new host host' met.Closed talks = RoseBy-none host.keeper.faults host'.keeper.faults (keeper_later old new host host' met.Closed talks)
keeper_step counted old new host host' met.DoorFault talks = RoseBy-none host.keeper.faults host'.keeper.faults (keeper_later old new host host' met.DoorFault talks)
keeper_step counted old new host host' met.Memory talks = RoseBy-none host.keeper.faults host'.keeper.faults (keeper_later old new host host' met.Memory talks)

-- ---- the door

door_later : (old new : DoorView) (host host' : ServerTells) (ended : Met) → ServerTalks old host ended new host' → old.faults ≤ new.faults
door_later old new host host' (met.Answered status) (text, due, writes) = writes.counts.later
door_later old new host host' met.Closed (closes, same) = let e = closes.faults in omega (arith, e)
door_later old new host host' met.DoorFault (inl (breaks, same)) = later-RoseBy 1 old.faults new.faults breaks.rose
door_later old new host host' met.DoorFault (inr (status, was)) = was.2.counts.later
door_later old new host host' met.Memory (before, last, writes) = writes.counts.later

door_step : (old new : DoorView) (host host' : ServerTells) (ended : Met) → ServerTalks old host ended new host' → RoseBy (if is_door_fault ended then 1 else 0) old.faults new.faults
door_step old new host host' (met.Answered status) talks = RoseBy-none old.faults new.faults (door_later old new host host' (met.Answered status) talks)
door_step old new host host' met.Closed talks = RoseBy-none old.faults new.faults (door_later old new host host' met.Closed talks)
door_step old new host host' met.DoorFault (inl (breaks, same)) = breaks.rose
door_step old new host host' met.DoorFault (inr (status, was)) = was.2.counts.rose refl
door_step old new host host' met.Memory talks = RoseBy-none old.faults new.faults (door_later old new host host' met.Memory talks)

-- ---- one conversation with its beginning

pub talk_keeper : (limits : Limits) (old new : Scene) (ended : Met) → Talks limits old ended new → old.keeper.faults ≤ new.keeper.faults
talk_keeper limits old new ended talks = keeper_later talks.begun new.door (server_of limits old) (server_of limits new) ended talks.talks

talk_door : (limits : Limits) (old new : Scene) (ended : Met) → Talks limits old ended new → RoseBy (if is_door_fault ended then 1 else 0) old.door.faults new.door.faults
talk_door limits old new ended talks =
    let begun : DoorView = talks.begun in
    RoseBy-later (if is_door_fault ended then 1 else 0) old.door.faults begun.faults new.door.faults talks.begins.counts.later
    (door_step begun new.door (server_of limits old) (server_of limits new) ended talks.talks)

pub talk_door_later : (limits : Limits) (old new : Scene) (ended : Met) → Talks limits old ended new → old.door.faults ≤ new.door.faults
talk_door_later limits old new ended talks = later-RoseBy (if is_door_fault ended then 1 else 0) old.door.faults new.door.faults (talk_door limits old new ended talks)

-- ---- runs

pub talks_counted : KeeperCounted → (limits : Limits) (old new : Scene) (run : Run) → Runs limits old run new → CountsTalks old run new
talks_counted counted limits old new Begun same =
    let kept_count = ap (λ (s : Scene). s.keeper.faults) same in
    let door_count = ap (λ (s : Scene). s.door.faults) same in record {
      keeper = RoseBy-none old.keeper.faults new.keeper.faults (omega (arith, kept_count));
      door = RoseBy-none old.door.faults new.door.faults (omega (arith, door_count));
      sink = ap (λ (s : Scene). s.sink.faults) same;
    }
talks_counted counted limits old new (Then run ended) (mid, runs, serves) =
    let before = talks_counted counted limits old mid run runs in
    let talks = serves.talks in record {
      keeper = RoseBy-more (ended_so (is_answered 500) run) (if is_answered 500 ended then 1 else 0) old.keeper.faults mid.keeper.faults new.keeper.faults before.keeper
          (keeper_step counted talks.begun new.door (server_of limits mid) (server_of limits new) ended talks.talks);
      door = RoseBy-more (ended_so is_door_fault run) (if is_door_fault ended then 1 else 0) old.door.faults mid.door.faults new.door.faults before.door (talk_door limits mid new ended talks);
      sink = serves.faults ∙ before.sink;
    }

-- and the door fails once more where it ends the run
pub door_broke : KeeperCounted → (limits : Limits) (old mid new : Scene) (run : Run) → Runs limits old run mid → Breaks limits mid stop.Door new → RoseBy (ended_so is_door_fault run + 1) old.door.faults new.door.faults
door_broke counted limits old mid new run runs (begins, kept, unsaid) =
    RoseBy-more (ended_so is_door_fault run) 1 old.door.faults mid.door.faults new.door.faults (talks_counted counted limits old mid run runs).door (begins.counts.rose refl)

-- the broken step leaves the counts of the keeper and the door no lower, and raises that of the device that ended the run
broken_counted : (limits : Limits) (old mid new : Scene) (run : Run) (why : Stop) → CountsTalks old run mid → Breaks limits mid why new → CountsServed (Err why) old new
broken_counted limits old mid new run stop.Door before (begins, kept, unsaid) =
    let kept_count = ap (λ (k : KeeperView). k.faults) kept in
    let sink_count = ap (λ (s : SinkView). s.faults) unsaid ∙ before.sink in
    let keeper_rose = later-RoseBy (ended_so (is_answered 500) run) old.keeper.faults mid.keeper.faults before.keeper in
    let door_rose = later-RoseBy (ended_so is_door_fault run) old.door.faults mid.door.faults before.door in
    let begun = begins.counts.later in record {
      sink = record { rose = λ e. absurd (cc); steady = λ none. sink_count; later = omega (arith, sink_count) };
      keeper = omega (arith, kept_count, keeper_rose);
      door = omega (arith, door_rose, begun);
      rose = λ e. RoseBy-later 1 old.door.faults mid.door.faults new.door.faults door_rose (begins.counts.rose refl);
    }
broken_counted limits old mid new run stop.Memory before (talks, unsaid) =
    let sink_count = ap (λ (s : SinkView). s.faults) unsaid ∙ before.sink in
    let keeper_rose = later-RoseBy (ended_so (is_answered 500) run) old.keeper.faults mid.keeper.faults before.keeper in
    let door_rose = later-RoseBy (ended_so is_door_fault run) old.door.faults mid.door.faults before.door in
    let keeper_last = talk_keeper limits mid new met.Memory talks in
    let door_last = talk_door_later limits mid new met.Memory talks in record {
      sink = record { rose = λ e. absurd (cc); steady = λ none. sink_count; later = omega (arith, sink_count) };
      keeper = omega (arith, keeper_rose, keeper_last);
      door = omega (arith, door_rose, door_last);
      rose = λ e. absurd (cc);
    }
broken_counted limits old mid new run stop.Sink before unsaid =
    let keeper_rose = later-RoseBy (ended_so (is_answered 500) run) old.keeper.faults mid.keeper.faults before.keeper in
    let door_rose = later-RoseBy (ended_so is_door_fault run) old.door.faults mid.door.faults before.door in
    let keeper_last = talk_keeper limits mid new unsaid.ended unsaid.talks in
    let door_last = talk_door_later limits mid new unsaid.ended unsaid.talks in
    let Rises : ℕ → Type 0 = λ n. Rose n new.sink.faults in
    let sink_rose = subst Rises before.sink unsaid.faults in record {
      sink = record { rose = λ e. sink_rose; steady = λ none. absurd (none refl); later = later-RoseBy 1 old.sink.faults new.sink.faults sink_rose };
      keeper = omega (arith, keeper_rose, keeper_last);
      door = omega (arith, door_rose, door_last);
      rose = λ e. absurd (cc);
    }

pub served_counted : KeeperCounted → (limits : Limits) (old new : Scene) (count : ℕ) (result : Result Unit Stop) → ServesAll limits old count result new → CountsServed result old new
served_counted counted limits old new count (Ok u) (run, is, goes) =
    let talks = talks_counted counted limits old new run goes.runs in
    let sink_count = talks.sink in record {
      sink = record { rose = λ e. absurd (cc); steady = λ none. sink_count; later = omega (arith, sink_count) };
      keeper = later-RoseBy (ended_so (is_answered 500) run) old.keeper.faults new.keeper.faults talks.keeper;
      door = later-RoseBy (ended_so is_door_fault run) old.door.faults new.door.faults talks.door;
      rose = λ e. absurd (cc);
    }
served_counted counted limits old new count (Err why) (done, below, mid, (run, is, goes), breaks) =
    broken_counted limits old mid new run why (talks_counted counted limits old mid run goes.runs) breaks

-- ---- want of memory

not_200 : ◌≡◌ {A = ℕ} 503 200 → ⊥
not_200 h = omega (arith, h)

not_400 : ◌≡◌ {A = ℕ} 503 400 → ⊥
not_400 h = omega (arith, h)

not_404 : ◌≡◌ {A = ℕ} 503 404 → ⊥
not_404 h = omega (arith, h)

not_409 : ◌≡◌ {A = ℕ} 503 409 → ⊥
not_409 h = omega (arith, h)

not_500 : ◌≡◌ {A = ℕ} 503 500 → ⊥
not_500 h = omega (arith, h)

not_507 : ◌≡◌ {A = ℕ} 503 507 → ⊥
not_507 h = omega (arith, h)

only_memory : (replied : Reply) → 503 ≡ reply_status replied → replied ≡ reply.Memory
only_memory reply.Ok h = absurd (not_200 h)
only_memory reply.Again h = absurd (not_200 h)
only_memory (reply.Digest digest) h = absurd (not_200 h)
only_memory (reply.Sites sites) h = absurd (not_200 h)
only_memory (reply.Site text) h = absurd (not_200 h)
only_memory reply.Same h = absurd (not_200 h)
only_memory (reply.Content bytes) h = absurd (not_200 h)
only_memory (reply.Rows rows) h = absurd (not_200 h)
only_memory (reply.BadText line) h = absurd (not_400 h)
only_memory (reply.Conflict digest) h = absurd (not_409 h)
only_memory reply.NoSuch h = absurd (not_404 h)
only_memory (reply.Older version) h = absurd (not_409 h)
only_memory (reply.Full limit) h = absurd (not_507 h)
only_memory reply.KeeperFault h = absurd (not_500 h)
only_memory reply.Memory h = refl

call_not_503 : (old new : ServerTells) (asking : Asking) (path body text : List ℕ) → ServerCalls old asking path body (called.Answer 503 text) new → ⊥
call_not_503 old new asking path body text (inl short) = let e = short.0 in cc
call_not_503 old new asking path body text (inr (None, it, finds, answers, is)) = not_404 (is.1 ∙ ap answer_status answers.0)
call_not_503 old new asking path body text (inr (Some route, it, finds, answers, is)) =
    let memory = only_memory answers.0 (is.1 ∙ ap answer_status answers.1) in
    is.0 (answers.1 ∙ ap (λ r. answer.Reply r) memory)

not_413 : ◌≡◌ {A = ℕ} 503 413 → ⊥
not_413 h = omega (arith, h)

refused_503 : (it : Refusal) → 503 ≡ status_of it → ⊥
refused_503 refusal.BadRequest h = not_400 h
refused_503 refusal.NoSuch h = not_404 h
refused_503 refusal.TooLong h = not_413 h

answered_503 : (host host' : ServerTells) (heard : Heard) (whole : Bool) (text : List ℕ) → Responds ServerCalls host heard whole 503 text host' → ⊥
answered_503 host host' (Call asking path body) whole text responds = call_not_503 host host' asking path body text responds.1
answered_503 host host' (Refused it) whole text responds = refused_503 it responds.0

pub never_503 : (limits : Limits) (old new : Scene) → Serves limits old (met.Answered 503) new → ⊥
never_503 limits old new serves =
    let talked = serves.talks.talks in
    answered_503 (server_of limits old) (server_of limits new) talked.1.heard talked.1.whole talked.0 talked.1.responds

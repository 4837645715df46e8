-- What a relay with a cache keeps and answers in a run.
use Rattle.std.proofs.Common.{◌≡◌, ◌≢◌, ◌⊎◌, inl, inr, ℕ, List, [], ◌∷◌, Option, None, Some, All, refl, sym, ap, ◌∙◌, subst}
use Rattle.std.specs.Prelude.{map}
use Rattle.std.proofs.lemmas.List.Elements.{All-cons, All-head, All-nil, All-tail}
use Rattle.desk_base.specs.declared.sink.Put.{Put}
use Rattle.desk_base.specs.declared.sink.Put.TheVariants as put
use Rattle.desk_door.specs.Doors.{BeginsNext, DoorView}
use Rattle.desk_door.specs.Links.{LinkView}
use Rattle.relay_cache.specs.CachedFiles.{CacheState, after_look, cached, with_files}
use Rattle.relay_cache.specs.FileRequests.{FileRequest, IsGivenBy, files_after}
use Rattle.route_rules.specs.declared.method.Asking.{Asking}
use Rattle.route_rules.specs.declared.route.Route.TheVariants as of_route
use Rattle.route_rules.specs.declared.route.Routes.TheVariants as of_routes
use Rattle.route_rules.specs.Routes.{FindsRoute, method_word}
use Rattle.desk_http.specs.declared.host.Called.TheVariants as of_call
use Rattle.desk_http.specs.declared.talk.Met.{Met}
use Rattle.desk_http.specs.declared.talk.Met.TheVariants as met
use Rattle.desk_http.specs.Conversing.{Answers, Converses, Responds}
use Rattle.desk_http.specs.Heard.{Heard, Call, Refused}
use Rattle.server_text.specs.declared.reply.Reply.TheVariants as reply
use Rattle.http_replies.specs.declared.answer.Answer.{Answer}
use Rattle.http_replies.specs.declared.answer.Answer.TheVariants as answer
use Rattle.http_replies.specs.Statuses.{IsCalled}
use Rattle.desk_hosts.specs.declared.file.Came.{Came}
use Rattle.desk_hosts.specs.HostCalls.{no_memory}
use Rattle.desk_hosts.specs.RelayCalls.{RelayCalls, RelayTells}
use Rattle.desk_hosts.specs.RelayFiles.{AsksFile, AsksUpstream, FilesTell, KeepsGiven, TellsBy, TellsBytes, TellsLooked, given, given_or, no_file, passed_on}
use Rattle.desk_runs.specs.KeptFiles.{AnswersFile, AsksForFile, AsksForFiles, FileCall, IsSteady, KeepsFiles, cache_after, given_of, kept_after, request_of}
use Rattle.desk_runs.specs.RelayRuns.{Begun, RelayRun, Runs, Then}
use Rattle.desk_runs.specs.RelaySteps.{RelayScene, host_of}

-- ---- one request for a file
-- what came, what was answered, and what is then kept
record Brings (room : ℕ) (earlier : List FileCall) (digest : List ℕ) (old : LinkView) (it : Answer) (new : LinkView) (after : CacheState) : Type 0 where
  gave : Option Came
  answers : AnswersFile digest (cached digest (kept_after room earlier)) old gave it new
  keeps : after ≡ record { room = room; files = kept_after room (record { digest = digest; came = gave } ∷ earlier) }

bytes_told : (bytes : List ℕ) (it : Answer) → it ≢ no_memory → TellsBytes bytes it → it ≡ answer.Reply (reply.Content bytes)
bytes_told bytes it ample (inl is) = is
bytes_told bytes it ample (inr short) = absurd (ample short)

module _ (room : ℕ) (earlier : List FileCall) (digest : List ℕ) (old new : LinkView) (after : CacheState) (it : Answer) (ample : it ≢ no_memory) where
  -- the cache before it
  abbrev before : CacheState
  before = record { room = room; files = kept_after room earlier }

  -- the upstream was asked
  asked : (gave : Came) → AsksFile old digest gave new → KeepsGiven before digest (no_file gave) (given digest gave) it after → AsksUpstream old digest gave new
  asked gave (inl (memory, same)) keeps =
      let K : Came → Type 0 = λ g. KeepsGiven before digest (no_file g) (given digest g) it after in
      absurd (ample (subst K memory keeps).0)
  asked gave (inr up) keeps = up

  -- by the bytes that were given
  kept : (otherwise : Answer) (o : Option (List ℕ)) → cached digest (kept_after room earlier) ≡ None → KeepsGiven before digest otherwise o it after
      → (it ≡ given_or otherwise o) × (after ≡ with_files before (after_look before digest o (cached digest (kept_after room earlier))))
  kept otherwise None missing (is, stays) =
      (is, stays ∙ ap (λ (k : Option (List ℕ)). with_files before (after_look before digest None k)) (sym missing))
  kept otherwise (Some bytes) missing (inl (is, goes)) = (is, goes)
  kept otherwise (Some bytes) missing (inr (short, stays)) = absurd (ample short)

  -- by what is kept of the file
  looked : (o : Option (List ℕ)) → cached digest (kept_after room earlier) ≡ o → TellsLooked digest o old before it new after → Brings room earlier digest old it new after
  looked (Some bytes) is (tells, same) =
      let A : Option (List ℕ) → Type 0 = λ k. AnswersFile digest k old None it new in
      record { gave = None; answers = subst A (sym is) (refl, bytes_told bytes it ample tells.answers, same); keeps = tells.first }
  looked None is tells =
      let A : Option (List ℕ) → Type 0 = λ k. AnswersFile digest k old (Some tells.gave) it new in
      let both = kept (no_file tells.gave) (given digest tells.gave) is tells.keeps in
      record {
        gave = Some tells.gave;
        answers = subst A (sym is) (tells.gave, refl, asked tells.gave tells.asks tells.keeps, both.0);
        keeps = both.1;
      }

-- what a request brought a relay that has a cache
record BringsFiles (room : ℕ) (earlier : List FileCall) (digest : List ℕ) (it : Answer) (old new : FilesTell) : Type 0 where
  gave : Option Came
  answers : AnswersFile digest (cached digest (kept_after room earlier)) old.link gave it new.link
  keeps : new.cache ≡ cache_after room (record { digest = digest; came = gave } ∷ earlier)

file_told : (room : ℕ) (earlier : List FileCall) (digest : List ℕ) (old new : FilesTell) (it : Answer) → it ≢ no_memory
    → TellsBy digest (cache_after room earlier) old.link it new → BringsFiles room earlier digest it old new
file_told room earlier digest old new it ample (after, tells, is) =
    let brings = looked room earlier digest old.link new.link after it ample (cached digest (kept_after room earlier)) refl tells in
    record { gave = brings.gave; answers = brings.answers; keeps = is ∙ ap (λ (c : CacheState). Some c) brings.keeps }

file_brings : (room : ℕ) (earlier : List FileCall) (digest : List ℕ) (old new : FilesTell) (it : Answer) → it ≢ no_memory → old.cache ≡ cache_after room earlier
    → TellsBy digest old.cache old.link it new → BringsFiles room earlier digest it old new
file_brings room earlier digest old new it ample has tells =
    let T : Option CacheState → Type 0 = λ c. TellsBy digest c old.link it new in
    file_told room earlier digest old new it ample (subst T has tells)

-- ---- one call
-- it asked for a file
record CallsFile (room : ℕ) (earlier : List FileCall) (asking : Asking) (path : List ℕ) (status : ℕ) (text : List ℕ) (old new : FilesTell) : Type 0 where
  digest : List ℕ
  it : Answer
  finds : FindsRoute of_routes.Relay (method_word asking) path (Some (of_route.AskFile digest))
  called : IsCalled it (of_call.Answer status text)
  brings : BringsFiles room earlier digest it old new

-- or for none, and what the link tells and what is kept stay
abbrev CallsFiles : ℕ → List FileCall → Asking → List ℕ → ℕ → List ℕ → FilesTell → FilesTell → Type 0
CallsFiles room earlier asking path status text old new = (new ≡ old) ⊎ CallsFile room earlier asking path status text old new

same_files : (old new : RelayTells) → new ≡ old → new.files ≡ old.files
same_files old new same = ap (λ (t : RelayTells). t.files) same

module _ (room : ℕ) (earlier : List FileCall) where
  call_brings : (old new : RelayTells) (asking : Asking) (path body : List ℕ) (status : ℕ) (text : List ℕ) → old.files.cache ≡ cache_after room earlier
      → RelayCalls old asking path body (of_call.Answer status text) new → CallsFiles room earlier asking path status text old.files new.files
  call_brings old new asking path body status text has (inl short) = let e = short.0 in absurd (cc)
  call_brings old new asking path body status text has (inr (None, it, finds, answers, is)) = inl (same_files old new answers.1)
  call_brings old new asking path body status text has (inr (Some of_route.Publish, it, finds, answers, is)) = inl (same_files old new answers.1)
  call_brings old new asking path body status text has (inr (Some of_route.Act, it, finds, answers, is)) = inl (same_files old new answers.1)
  call_brings old new asking path body status text has (inr (Some (of_route.Stop id), it, finds, answers, is)) = inl (same_files old new answers.1)
  call_brings old new asking path body status text has (inr (Some of_route.File, it, finds, answers, is)) = inl (same_files old new answers.1)
  call_brings old new asking path body status text has (inr (Some of_route.AskSites, it, finds, answers, is)) = inl (same_files old new answers.1)
  call_brings old new asking path body status text has (inr (Some (of_route.AskSite name version), it, finds, answers, is)) = inl (same_files old new answers.1)
  call_brings old new asking path body status text has (inr (Some (of_route.AskFile digest), it, finds, (tells, same), is)) =
      inr (record { digest = digest; it = it; finds = finds; called = is; brings = file_brings room earlier digest old.files new.files it is.0 has tells })
  call_brings old new asking path body status text has (inr (Some of_route.Report, it, finds, answers, is)) = inl answers.1
  call_brings old new asking path body status text has (inr (Some (of_route.Results name), it, finds, answers, is)) = inl (same_files old new answers.1)

-- ---- one conversation
-- it added a request, or none, and this is then kept
abbrev Adds : ℕ → List FileCall → RelayScene → RelayScene → Type 0
Adds room earlier old new = (calls : List FileCall) × AsksForFiles room earlier old calls new × (new.cache ≡ cache_after room calls)

adds_none : (room : ℕ) (earlier : List FileCall) (old new : RelayScene) → old.cache ≡ cache_after room earlier → (host_of new).files ≡ (host_of old).files → Adds room earlier old new
adds_none room earlier old new has same = (earlier, inl (refl, ap (λ (f : FilesTell). f.link) same), ap (λ (f : FilesTell). f.cache) same ∙ has)

module _ (room : ℕ) (earlier : List FileCall) (old new : RelayScene) (has : old.cache ≡ cache_after room earlier) (begun : DoorView) (begins : BeginsNext old.door put.Done begun) where
  heard_adds : (status : ℕ) (written : Put) (answers : Answers RelayCalls of_routes.Relay begun (host_of old) status written new.door (host_of new))
      (asking : Asking) (path body : List ℕ) → answers.1.heard ≡ Call asking path body → CallsFiles room earlier asking path status answers.0 (host_of old).files (host_of new).files → Adds room earlier old new
  heard_adds status written answers asking path body is (inl same) = adds_none room earlier old new has same
  heard_adds status written answers asking path body is (inr asks) = (
    record { digest = asks.digest; came = asks.brings.gave } ∷ earlier,
    inr (record {
      digest = asks.digest;
      came = asks.brings.gave;
      it = asks.it;
      hears = record {
        begun = begun;
        begins = begins;
        status = status;
        written = written;
        answers = answers;
        asking = asking;
        path = path;
        body = body;
        is = is;
        finds = asks.finds;
        called = asks.called;
      };
      answers = asks.brings.answers;
      added = refl;
    }),
    asks.brings.keeps,
  )

  answer_adds : (status : ℕ) (written : Put) (answers : Answers RelayCalls of_routes.Relay begun (host_of old) status written new.door (host_of new))
      (heard : Heard) → answers.1.heard ≡ heard → Adds room earlier old new
  answer_adds status written answers (Call asking path body) is =
      let R : Heard → Type 0 = λ h. Responds RelayCalls (host_of old) h answers.1.whole status answers.0 (host_of new) in
      heard_adds status written answers asking path body is
      (call_brings room earlier (host_of old) (host_of new) asking path body status answers.0 has (subst R is answers.1.responds).1)
  answer_adds status written answers (Refused it) is =
      let R : Heard → Type 0 = λ h. Responds RelayCalls (host_of old) h answers.1.whole status answers.0 (host_of new) in
      adds_none room earlier old new has (same_files (host_of old) (host_of new) (subst R is answers.1.responds).2)

  talk_adds : (ended : Met) → ended ≢ met.Memory → Converses RelayCalls of_routes.Relay begun (host_of old) ended new.door (host_of new) → Adds room earlier old new
  talk_adds (met.Answered status) whole answers = answer_adds status put.Done answers answers.1.heard refl
  talk_adds met.Closed whole (closes, same) = adds_none room earlier old new has (same_files (host_of old) (host_of new) same)
  talk_adds met.DoorFault whole (inl (breaks, same)) = adds_none room earlier old new has (same_files (host_of old) (host_of new) same)
  talk_adds met.DoorFault whole (inr (status, answers)) = answer_adds status put.Failed answers answers.1.heard refl
  talk_adds met.Memory whole talks = absurd (whole refl)

-- ---- whole steps
pub keeps_files : (room : ℕ) (old new : RelayScene) (run : RelayRun) → old.cache ≡ cache_after room [] → Runs old run new
    → (calls : List FileCall) × KeepsFiles room old run calls new × (new.cache ≡ cache_after room calls)
keeps_files room old new (Begun lines) has tells = let is = tells.cache ∙ has in ([], (tells, refl, is), is)
keeps_files room old new (Then run ended lines) has (mid, runs, (between, talk, round)) =
    let whole = keeps_files room old mid run has runs in
    let asks = talk_adds room whole.0 mid between whole.2 talk.talks.begun talk.talks.begins ended talk.whole talk.talks.talks in
    let is = round.cache ∙ asks.2 in
    (asks.0, (whole.0, mid, between, whole.1, talk, asks.1, round, is), is)

-- ---- an upstream that gives each file always the same
-- the law that the kept bytes are then what it gives
abbrev pub GivesAgain : Type 0
GivesAgain = (upstream : List ℕ → Option (List ℕ)) (room : ℕ) (requests : List FileRequest) (digest bytes : List ℕ)
    → All (IsGivenBy upstream) requests → cached digest (files_after room requests) ≡ Some bytes → upstream digest ≡ Some bytes

module _ (upstream : List ℕ → Came) where
  -- the bytes of it that have their digest
  abbrev gives : List ℕ → Option (List ℕ)
  gives digest = given digest (upstream digest)

  steady_given : (call : FileCall) → IsSteady upstream call → IsGivenBy gives (request_of call)
  steady_given call (inl none) = inl (ap (given_of call.digest) none)
  steady_given call (inr is) = inr (ap (given_of call.digest) is)

  all_given : (calls : List FileCall) → All (IsSteady upstream) calls → All (IsGivenBy gives) (map request_of calls)
  all_given [] all = All-nil (IsGivenBy gives)
  all_given (call ∷ calls) all =
      All-cons (IsGivenBy gives) (request_of call) (map request_of calls) (steady_given call (All-head (IsSteady upstream) call calls all))
      (all_given calls (All-tail (IsSteady upstream) call calls all))

  -- by what is kept of the file
  alike_by : (digest : List ℕ) (o : Option (List ℕ)) (old new : LinkView) (gave : Option Came) (it : Answer)
      → ((bytes : List ℕ) → o ≡ Some bytes → gives digest ≡ Some bytes) → IsSteady upstream (record { digest = digest; came = gave })
      → AnswersFile digest o old gave it new → it ≡ passed_on digest (upstream digest)
  alike_by digest (Some bytes) old new gave it again steady (none, is, same) =
      is ∙ ap (given_or (no_file (upstream digest))) (sym (again bytes refl))
  alike_by digest None old new gave it again (inl none) (came, some, asks, is) = let e : ◌≡◌ {A = Option Came} None (Some came) = sym none ∙ some in absurd (cc)
  alike_by digest None old new gave it again (inr same) (came, some, asks, is) =
      let e : ◌≡◌ {A = Option Came} (Some came) (Some (upstream digest)) = sym some ∙ same in
      let gives_it : came ≡ upstream digest = cc in
      is ∙ ap (passed_on digest) gives_it

  pub answers_alike : GivesAgain → (room : ℕ) (earlier calls : List FileCall) (old new : RelayScene) (asks : AsksForFile room earlier old calls new)
      → All (IsSteady upstream) calls → asks.it ≡ passed_on asks.digest (upstream asks.digest)
  answers_alike law room earlier calls old new asks all =
      let A : List FileCall → Type 0 = λ l. All (IsSteady upstream) l in
      let last : FileCall = record { digest = asks.digest; came = asks.came } in
      let steady = subst A asks.added all in
      alike_by asks.digest (cached asks.digest (kept_after room earlier)) old.link new.link asks.came asks.it
      (λ bytes is. law gives room (map request_of earlier) asks.digest bytes (all_given earlier (All-tail (IsSteady upstream) last earlier steady)) is)
      (All-head (IsSteady upstream) last earlier steady) asks.answers

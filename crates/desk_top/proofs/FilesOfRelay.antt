-- What a relay with a cache does with files in the run of its words.
use Rattle.std.proofs.Common.{◌≡◌, ◌<◌, ℕ, List, [], ◌∷◌, All, Contains, Option, None, Some, Ok, Err, refl, sym, ap, subst, inl, inr, ◌∙◌}
use Rattle.std.specs.Prelude.{◌==◌, bytes_eq, if◌then◌else◌, Bool, true, false, IfSome, map}
use Rattle.std.proofs.lemmas.List.Elements.{All-cons, All-contains, All-nil}
use Rattle.std.proofs.lemmas.Slice.Eq.{bytes_eq-Decides}
use Rattle.sha2.specs.Sha256.{sha256}
use Rattle.desk_base.specs.declared.sink.Put.TheVariants as put
use Rattle.relay_cache.specs.CachedFiles.{cached}
use Rattle.relay_cache.specs.FileRequests.{FileRequest, GivesGenuine, files_after}
use Rattle.relay_core.specs.Relays.{desk_queue, empty_relay}
use Rattle.server_text.specs.declared.reply.Reply.TheVariants as reply
use Rattle.http_replies.specs.declared.answer.Answer.{Answer}
use Rattle.http_replies.specs.declared.answer.Answer.TheVariants as answer
use Rattle.desk_door.specs.Links.{LinkView}
use Rattle.desk_hosts.specs.declared.file.Came.{Came}
use Rattle.desk_hosts.specs.declared.file.Came.TheVariants as came
use Rattle.desk_door.specs.declared.link.Exchanged.{Exchanged}
use Rattle.desk_door.specs.declared.link.Exchanged.TheVariants as of_exchange
use Rattle.desk_hosts.specs.RelayFiles.{ComesOf, given, given_or, no_file}
use Rattle.desk_hosts.specs.HostCalls.{no_such}
use Rattle.desk_serve.specs.declared.step.Stop.{Stop}
use Rattle.desk_runs.specs.KeptFiles.{AnswersFile, AsksForFile, FileCall, KeepsFiles, cache_after, given_of, kept_after, request_of}
use Rattle.desk_runs.specs.RelayRuns.{RelayRun, Runs, WasCut, talk_count}
use Rattle.desk_runs.specs.RelaySteps.{BreaksRound, RelayScene}
use Rattle.desk_top.specs.declared.command.RelayWords.{RelayWords}
use Rattle.desk_top.specs.Relayed.{OpensRelay, Relaying, RelaysAt, empty_cache, relay_at}
use Rattle.desk_top.specs.RelayedFiles.{AsksFiles, BreaksFiles, LeavesRelay, RelaysFiles, begins_at}

-- what the law on runs says
abbrev pub KeepsWhatWasAsked : Type 0
KeepsWhatWasAsked = (room : ℕ) (old new : RelayScene) (run : RelayRun) → old.cache ≡ cache_after room [] → Runs old run new
    → (calls : List FileCall) × KeepsFiles room old run calls new

asks_files : KeepsWhatWasAsked → (asked : RelayWords) (room : ℕ) (old opened : Relaying) (run : RelayRun) (left : RelayScene) → asked.room ≡ Some room
    → OpensRelay asked old put.Done opened → Runs (relay_at (empty_relay desk_queue) (empty_cache asked.room) opened) run left
    → (calls : List FileCall) × AsksFiles asked room old run calls left
asks_files law asked room old opened run left has opens runs =
    let Begins : Option ℕ → Type 0 = λ r. Runs (relay_at (empty_relay desk_queue) (empty_cache r) opened) run left in
    let found = law room (begins_at room opened) left run refl (subst Begins has runs) in
    (found.0, record { opened = opened; opens = opens; keeps = found.1 })

pub relays_files : KeepsWhatWasAsked → (asked : RelayWords) (room : ℕ) (old new : Relaying) → asked.room ≡ Some room → RelaysAt asked old (Ok tt) new
    → RelaysFiles asked room old new
relays_files law asked room old new has (opened, last, kept, opens, (run, count, goes)) =
    let left = relay_at last kept new in
    let asks = asks_files law asked room old opened run left has opens goes.runs in
    (run, asks.0, left, asks.1, (count, (last, kept, refl)))

cut_files : KeepsWhatWasAsked → (asked : RelayWords) (room : ℕ) (old opened : Relaying) (why : Stop) (new : Relaying) (broken : RelayScene) → asked.room ≡ Some room
    → OpensRelay asked old put.Done opened → LeavesRelay broken new
    → WasCut (relay_at (empty_relay desk_queue) (empty_cache asked.room) opened) asked.count why broken → BreaksFiles asked room old why new
cut_files law asked room old opened why new broken has opens leaves (inl breaks) =
    let Breaks : Option ℕ → Type 0 = λ r. BreaksRound (relay_at (empty_relay desk_queue) (empty_cache r) opened) why broken in
    inl (opened, broken, opens, subst Breaks has breaks, leaves)
cut_files law asked room old opened why new broken has opens leaves (inr (done, fewer, mid, (run, count, goes), breaks)) =
    let asks = asks_files law asked room old opened run mid has opens goes.runs in
    let less : talk_count run < asked.count = subst (λ (n : ℕ). n < asked.count) (sym count) fewer in
    inr (run, asks.0, mid, asks.1, (less, broken, breaks, leaves))

pub breaks_files : KeepsWhatWasAsked → (asked : RelayWords) (room : ℕ) (old : Relaying) (why : Stop) (new : Relaying) → asked.room ≡ Some room
    → RelaysAt asked old (Err why) new → BreaksFiles asked room old why new
breaks_files law asked room old why new has (opened, last, kept, opens, cut) =
    cut_files law asked room old opened why new (relay_at last kept new) has opens (last, kept, refl) cut

-- ---- the bytes that are answered
-- what is given has the digest
chosen : (digest bytes : List ℕ) (same : Bool) → (same ≡ true → sha256 bytes ≡ digest) → IfSome (if same then Some bytes else None) (λ b. sha256 b ≡ digest)
chosen digest bytes true so = so refl
chosen digest bytes false so = tt

given_genuine : (digest : List ℕ) (gave : Came) → IfSome (given digest gave) (λ bytes. sha256 bytes ≡ digest)
given_genuine digest (came.File bytes) = chosen digest bytes (bytes_eq (sha256 bytes) digest) (bytes_eq-Decides (sha256 bytes) digest).0
given_genuine digest (came.Nothing it) = tt

came_genuine : (digest : List ℕ) (gave : Option Came) → IfSome (given_of digest gave) (λ bytes. sha256 bytes ≡ digest)
came_genuine digest None = tt
came_genuine digest (Some gave) = given_genuine digest gave

all_genuine : (calls : List FileCall) → All GivesGenuine (map request_of calls)
all_genuine [] = All-nil GivesGenuine
all_genuine (call ∷ calls) = All-cons GivesGenuine (request_of call) (map request_of calls) (came_genuine call.digest call.came) (all_genuine calls)

-- an answer without the bytes of a file
abbrev NoContent : Answer → Type 0
NoContent it = (text : List ℕ) → it ≡ answer.Reply (reply.Content text) → ⊥

-- what comes from upstream is the bytes of a file, or none
of_status : (body : List ℕ) (missing there : Bool) → NoContent (no_file (if missing then came.Nothing no_such else (if there then came.File body else came.Nothing answer.BadAnswer)))
of_status body true there text e = cc
of_status body false true text e = cc
of_status body false false text e = cc

no_content : (exchanged : Exchanged) (gave : Came) → ComesOf exchanged gave → NoContent (no_file gave)
no_content of_exchange.Failed gave comes text e = let h = sym (ap no_file comes) ∙ e in cc
no_content of_exchange.Memory gave comes text e = let h = sym (ap no_file comes) ∙ e in cc
no_content (of_exchange.Reply bytes) gave (inl comes) text e = let h = sym (ap no_file comes) ∙ e in cc
no_content (of_exchange.Reply bytes) gave (inr (inl (none, comes))) text e = let h = sym (ap no_file comes) ∙ e in cc
no_content (of_exchange.Reply bytes) gave (inr (inr (status, body, is, comes))) text e =
    of_status body (status == 404) (status == 200) text (sym (ap no_file comes) ∙ e)

of_given : (digest : List ℕ) (o : Option (List ℕ)) (other : Answer) → IfSome o (λ bytes. sha256 bytes ≡ digest) → NoContent other → (text : List ℕ)
    → given_or other o ≡ answer.Reply (reply.Content text) → sha256 text ≡ digest
of_given digest None other has none text e = absurd (none text e)
of_given digest (Some bytes) other has none text e = let same : bytes ≡ text = cc in subst (λ (b : List ℕ). sha256 b ≡ digest) same has

-- what the law on kept files says
abbrev pub KeptWasGiven : Type 0
KeptWasGiven = (room : ℕ) (requests : List FileRequest) (digest bytes : List ℕ) → cached digest (files_after room requests) ≡ Some bytes
    → Contains requests (record { digest = digest; given = Some bytes })

answered_by : KeptWasGiven → (room : ℕ) (earlier : List FileCall) (digest : List ℕ) (gave : Option Came) (it : Answer) (old new : LinkView) (o : Option (List ℕ))
    → cached digest (kept_after room earlier) ≡ o → AnswersFile digest o old gave it new → (text : List ℕ) → it ≡ answer.Reply (reply.Content text) → sha256 text ≡ digest
answered_by law room earlier digest gave it old new None e (from, is, asks, answered) text content =
    of_given digest (given digest from) (no_file from) (given_genuine digest from) (no_content asks.0 from asks.2) text (sym answered ∙ content)
answered_by law room earlier digest gave it old new (Some bytes) e (none, answered, alike) text content =
    let both : answer.Reply (reply.Content bytes) ≡ answer.Reply (reply.Content text) = sym answered ∙ content in
    let same : bytes ≡ text = cc in
    let request : FileRequest = record { digest = digest; given = Some bytes } in
    let has = All-contains GivesGenuine (map request_of earlier) request (all_genuine earlier) (law room (map request_of earlier) digest bytes e) in
    subst (λ (b : List ℕ). sha256 b ≡ digest) same has

pub files_have_their_digest : KeptWasGiven → (room : ℕ) (earlier calls : List FileCall) (old new : RelayScene) (asks : AsksForFile room earlier old calls new) (text : List ℕ)
    → asks.it ≡ answer.Reply (reply.Content text) → sha256 text ≡ asks.digest
files_have_their_digest law room earlier calls old new asks text content =
    answered_by law room earlier asks.digest asks.came asks.it old.link new.link (cached asks.digest (kept_after room earlier)) refl asks.answers text content

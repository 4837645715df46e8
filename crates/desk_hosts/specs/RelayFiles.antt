-- What is answered to one who asks a relay for a file.
use Rattle.std.specs.Prelude.{◌≡◌, ◌⊎◌, ◌==◌, bytes_eq, if◌then◌else◌, ℕ, List, [], None, Some}
use Rattle.std.specs.declared.option.Option.{Option}
use Rattle.sha2.specs.Sha256.{sha256}
use Rattle.desk_door.specs.declared.link.Exchanged.{Exchanged}
use Rattle.desk_door.specs.declared.link.Exchanged.TheVariants as of_exchange
use Rattle.desk_door.specs.Links.{LinkView, AsksOnce}
use Rattle.relay_cache.specs.CachedFiles.{CacheState, after_ask, cached, with_files}
use Rattle.route_rules.specs.declared.method.Asking.TheVariants.{Get}
use Rattle.route_rules.specs.Routes.{file_path}
use Rattle.desk_http.specs.Asked.{ask_text}
use Rattle.desk_http.specs.Replied.{IsReply, IsNoReply}
use Rattle.server_text.specs.declared.reply.Reply.TheVariants as reply
use Rattle.http_replies.specs.declared.answer.Answer.{Answer}
use Rattle.http_replies.specs.declared.answer.Answer.TheVariants as answer
use Rattle.desk_hosts.specs.declared.file.Came.{Came}
use Rattle.desk_hosts.specs.declared.file.Came.TheVariants as came
use Rattle.desk_hosts.specs.HostCalls.{no_such, no_memory}

-- what the link of a relay tells, and what is kept of files, where the relay has a cache
pub record FilesTell : Type 0 where
  pub link : LinkView
  pub cache : Option CacheState

-- ---- what the upstream gives
-- the status and the body of its reply: the bytes of a 200, and no file at another status
abbrev pub came_of : ℕ → List ℕ → Came
came_of status body =
    if status == 404 then came.Nothing no_such else (if status == 200 then came.File body else came.Nothing answer.BadAnswer)

-- the bytes of its reply, which may be no reply
abbrev pub ReadsCame : List ℕ → Came → Type 0
ReadsCame bytes it =
    (IsNoReply bytes × (it ≡ came.Nothing answer.BadAnswer))
    ⊎ ((status : ℕ) × (body : List ℕ) × IsReply bytes status body × (it ≡ came_of status body))

-- what the exchange answered
abbrev pub ComesOf : Exchanged → Came → Type 0
ComesOf (of_exchange.Reply bytes) it = (it ≡ came.Nothing no_memory) ⊎ ReadsCame bytes it
ComesOf of_exchange.Failed it = it ≡ came.Nothing answer.LinkFault
ComesOf of_exchange.Memory it = it ≡ came.Nothing no_memory

-- the upstream was asked once for the file of this digest
abbrev pub AsksUpstream : LinkView → List ℕ → Came → LinkView → Type 0
AsksUpstream old digest it new =
    (exchanged : Exchanged) × AsksOnce (ask_text Get (file_path digest) []) old exchanged new × ComesOf exchanged it

-- The file of this digest is asked for upstream, by one exchange. Want of memory may come before it.
abbrev pub AsksFile : LinkView → List ℕ → Came → LinkView → Type 0
AsksFile old digest it new = ((it ≡ came.Nothing no_memory) × (new ≡ old)) ⊎ AsksUpstream old digest it new

-- ---- what is answered then
-- the bytes that came, where they have the digest that was asked for
abbrev pub given : List ℕ → Came → Option (List ℕ)
given digest (came.File bytes) = if bytes_eq (sha256 bytes) digest then Some bytes else None
given digest (came.Nothing it) = None

abbrev pub no_file : Came → Answer
no_file (came.File bytes) = answer.BadAnswer
no_file (came.Nothing it) = it

abbrev pub given_or : Answer → Option (List ℕ) → Answer
given_or otherwise (Some bytes) = answer.Reply (reply.Content bytes)
given_or otherwise None = otherwise

-- a file of another digest isn't passed on
abbrev pub passed_on : List ℕ → Came → Answer
passed_on digest it = given_or (no_file it) (given digest it)

-- the bytes were given and are kept, for which there may be no memory; where none were given the kept ones stay
abbrev pub KeepsGiven : CacheState → List ℕ → Answer → Option (List ℕ) → Answer → CacheState → Type 0
KeepsGiven old digest otherwise (Some bytes) it new =
    ((it ≡ answer.Reply (reply.Content bytes)) × (new ≡ with_files old (after_ask old digest (Some bytes))))
    ⊎ ((it ≡ no_memory) × (new ≡ old))
KeepsGiven old digest otherwise None it new = (it ≡ otherwise) × (new ≡ old)

abbrev pub KeepsCame : CacheState → List ℕ → Came → Answer → CacheState → Type 0
KeepsCame old digest gave it new = KeepsGiven old digest (no_file gave) (given digest gave) it new

-- ---- what is answered to one who asks for the file of this digest
-- without a cache: by what the upstream gives
pub record PassesFile (digest : List ℕ) (old : LinkView) (it : Answer) (new : LinkView) : Type 0 where
  pub gave : Came
  pub asks : AsksFile old digest gave new
  pub answers : it ≡ passed_on digest gave

-- with a cache that doesn't keep it: by what the upstream gives, which is then kept
pub record FetchesFile (digest : List ℕ) (old : LinkView) (cache : CacheState) (it : Answer) (new : LinkView) (after : CacheState)
    : Type 0 where
  pub gave : Came
  pub asks : AsksFile old digest gave new
  pub keeps : KeepsCame cache digest gave it after

-- these bytes are answered, for which there may be no memory
abbrev pub TellsBytes : List ℕ → Answer → Type 0
TellsBytes bytes it = (it ≡ answer.Reply (reply.Content bytes)) ⊎ (it ≡ no_memory)

-- with one that keeps it: by the kept bytes, and the file goes first
pub record TellsKept (digest bytes : List ℕ) (cache : CacheState) (it : Answer) (after : CacheState) : Type 0 where
  pub genuine : sha256 bytes ≡ digest
  pub answers : TellsBytes bytes it
  pub first : after ≡ with_files cache (after_ask cache digest None)

abbrev pub TellsLooked : List ℕ → Option (List ℕ) → LinkView → CacheState → Answer → LinkView → CacheState → Type 0
TellsLooked digest (Some bytes) old cache it new after = TellsKept digest bytes cache it after × (new ≡ old)
TellsLooked digest None old cache it new after = FetchesFile digest old cache it new after

abbrev pub TellsCached : List ℕ → LinkView → CacheState → Answer → LinkView → CacheState → Type 0
TellsCached digest old cache it new after = TellsLooked digest (cached digest cache.files) old cache it new after

abbrev pub TellsBy : List ℕ → Option CacheState → LinkView → Answer → FilesTell → Type 0
TellsBy digest None old it new = PassesFile digest old it new.link × (new.cache ≡ None)
TellsBy digest (Some cache) old it new =
    (after : CacheState) × TellsCached digest old cache it new.link after × (new.cache ≡ Some after)

-- The upstream is asked exactly where there is no cache, or one that doesn't keep the file.
abbrev pub TellsFile : List ℕ → FilesTell → Answer → FilesTell → Type 0
TellsFile digest old it new = TellsBy digest old.cache old.link it new

-- ---- Only private functions cite this.
-- what a cache answers of the file, or None where it doesn't keep it
abbrev pub AnswersKept : List ℕ → CacheState → Option Answer → CacheState → Type 0
AnswersKept digest old (Some it) new =
    (bytes : List ℕ) × (cached digest old.files ≡ Some bytes) × TellsKept digest bytes old it new
AnswersKept digest old None new = (cached digest old.files ≡ None) × (new ≡ old)

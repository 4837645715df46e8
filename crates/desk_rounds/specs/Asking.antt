-- What comes of a request that a link is asked.
use Rattle.std.specs.Prelude.{◌≡◌, ◌⊎◌, ◌++◌, ℕ, Bool, List, Option, Ok, Err, ⊤}
use Rattle.std.specs.declared.result.Result.{Result}
use Rattle.desk_door.specs.declared.link.Exchanged.{Exchanged}
use Rattle.desk_door.specs.declared.link.Exchanged.TheVariants as of_exchange
use Rattle.desk_http.specs.Replied.{IsNoReply, IsReply}
use Rattle.desk_rounds.specs.declared.asking.Miss.{Miss}
use Rattle.desk_rounds.specs.declared.asking.Reply.{Reply}
use Rattle.desk_rounds.specs.declared.asking.Miss.TheVariants.{NoAnswer, BadAnswer, Memory}
use Rattle.desk_rounds.specs.Lines.{lines_text}
use Rattle.desk_rounds.specs.Ways.{Exchanges, Way, switched_now}

-- which replies mean a value, by their status and their body: a row of the table
abbrev pub Means : Type 0 → Type 1
Means V = ℕ → List ℕ → V → Type 0

-- the bytes are a reply that means this value
abbrev pub IsGood : {V : Type 0} → Means V → List ℕ → V → Type 0
IsGood means bytes value = (status : ℕ) × (body : List ℕ) × IsReply bytes status body × means status body value

-- the reply means no value
abbrev pub MeansNothing : {V : Type 0} → Means V → ℕ → List ℕ → Type 0
MeansNothing {V} means status body = (value : V) → ¬ means status body value

-- the bytes are no reply, or one that isn't in the row
abbrev pub IsBad : {V : Type 0} → Means V → List ℕ → Type 0
IsBad means bytes = IsNoReply bytes ⊎ ((status : ℕ) × (body : List ℕ) × IsReply bytes status body × MeansNothing means status body)

-- want of memory: the request was asked, whatever was answered, or it wasn't
abbrev pub AsksInVain : List ℕ → Way → Way → Type 0
AsksInVain request old new = ((answer : Exchanged) × Exchanges request old answer new) ⊎ (new ≡ old)

-- A request was asked, and this came of it: the value that the reply means; that there is no reply, as the exchange failed;
-- that it is none of those which may be; or want of memory.
abbrev pub AsksFor : {V : Type 0} → List ℕ → Means V → Way → Result V Miss → Way → Type 0
AsksFor request means old (Ok value) new =
    (bytes : List ℕ) × Exchanges request old (of_exchange.Reply bytes) new × IsGood means bytes value
AsksFor request means old (Err NoAnswer) new = Exchanges request old of_exchange.Failed new
AsksFor request means old (Err BadAnswer) new =
    (bytes : List ℕ) × Exchanges request old (of_exchange.Reply bytes) new × IsBad means bytes
AsksFor request means old (Err Memory) new = AsksInVain request old new

-- what came of a request stays, and the line of the second upstream was appended, where that was turned to; or there was no memory for it.
-- Only a private function cites this.
abbrev pub Said : {V : Type 0} → Bool → Option (List ℕ) → Result V Miss → Result V Miss → List ℕ → List ℕ → Type 0
Said before second came result old new =
    ((result ≡ came) × (new ≡ old ++ lines_text (switched_now before second))) ⊎ (result ≡ Err Memory)

-- the bytes of a reply were read as a value
abbrev pub ReadsBytes : {V : Type 0} → Means V → List ℕ → Result V Miss → Type 0
ReadsBytes means bytes (Ok value) = IsGood means bytes value
ReadsBytes means bytes (Err NoAnswer) = ⊥
ReadsBytes means bytes (Err BadAnswer) = IsBad means bytes
ReadsBytes means bytes (Err Memory) = ⊤

-- a reply means itself
abbrev pub IsThat : Means Reply
IsThat status body reply = (reply.status ≡ status) × (reply.body ≡ body)

-- A reply with this status and body was read by a row of the table.
abbrev pub ReadsAs : {V : Type 0} → Means V → ℕ → List ℕ → Result V Miss → Type 0
ReadsAs means status body (Ok value) = means status body value
ReadsAs means status body (Err NoAnswer) = ⊥
ReadsAs means status body (Err BadAnswer) = MeansNothing means status body
ReadsAs means status body (Err Memory) = ⊤

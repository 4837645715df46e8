-- What calls answer, and what is accepted after them.
use Rattle.std.specs.Prelude.{◌≡◌, ℕ, Bool, true, false, if◌then◌else◌, List, [], ◌∷◌, Some, is_none}
use Rattle.std.specs.declared.option.Option.{Option}
use Rattle.desk_base.specs.Counts.{CountsFaults}
use Rattle.desk_keep.specs.declared.change.Change.{Change}
use Rattle.server_core.specs.declared.limits.Limits.{Limits}
use Rattle.server_text.specs.declared.request.Request.{Request}
use Rattle.server_text.specs.declared.reply.Reply.{Reply}
use Rattle.server_text.specs.declared.reply.Reply.TheVariants.{BadText, KeeperFault, Memory}
use Rattle.server_text.specs.Entries.{Entry, Asked, Enters, Bad}
use Rattle.server_text.specs.RequestTexts.{Asks}
use Rattle.server_core.specs.Replies.{reply, reply_to}
use Rattle.server_core.specs.AcceptedTables.{view}

-- a reply that tells of a fault or of want of memory
abbrev pub is_fault : Reply → Bool
is_fault KeeperFault = true
is_fault Memory = true
is_fault other = false

-- Where the reply tells of a bad text, the request's text is refused at that line, whatever is kept.
abbrev pub TellsBad : Request → Reply → Type 0
TellsBad request (BadText line) = Asks request (Bad line)
TellsBad request answered = Unit {0}

-- whether this is accepted after what was accepted before
abbrev pub is_accepted : List Entry → Limits → Entry → Bool
is_accepted accepted limits entry = is_none (reply_to limits (view accepted) entry)

-- what is accepted, the latest first, once this was asked
abbrev pub after : List Entry → Limits → Asked → List Entry
after accepted limits (Enters entry) = if is_accepted accepted limits entry then entry ∷ accepted else accepted
after accepted limits other = accepted

-- The reply is that to what the request asks, and `later` is what is accepted then. A fault and want of memory leave what is accepted.
abbrev pub Answers : Limits → List Entry → Request → Reply → List Entry → Type 0
Answers limits accepted request KeeperFault later = later ≡ accepted
Answers limits accepted request Memory later = later ≡ accepted
Answers limits accepted request answered later =
    (asked : Asked) × Asks request asked × (answered ≡ reply accepted limits asked) × (later ≡ after accepted limits asked)

-- The replies are those to the requests in their order, and `last` is what is accepted in the end.
abbrev pub AnswersAll : Limits → List Entry → List Request → List Reply → List Entry → Type 0
AnswersAll limits accepted [] [] last = last ≡ accepted
AnswersAll limits accepted (request ∷ requests) (answered ∷ replies) last =
    (later : List Entry) × Answers limits accepted request answered later × AnswersAll limits later requests replies last
AnswersAll limits accepted requests replies last = ⊥

-- The count of faults over these replies in their order: it rose at each KeeperFault, and stayed at any other.
abbrev pub CountsReplies : List Reply → ℕ → ℕ → Type 0
CountsReplies [] old new = new ≡ old
CountsReplies (answered ∷ replies) old new =
    (mid : ℕ) × CountsFaults (answered ≡ KeeperFault) old mid × CountsReplies replies mid new

-- the rows that are told are the tables of what is accepted
abbrev pub AreTables : Option (List Change) → List Entry → Type 0
AreTables told accepted = told ≡ Some (view accepted)

-- each was asked for by a request, and was accepted, under some limits, after those before it
abbrev pub AreAccepted : List Entry → Type 0
AreAccepted [] = Unit {0}
AreAccepted (entry ∷ before) =
    ((request : Request) × Asks request (Enters entry)) × ((limits : Limits) × (is_accepted before limits entry ≡ true))
    × AreAccepted before

-- What an upstream says of a report that was posted to it.
use Rattle.std.specs.Prelude.{◌^◌, ◌<◌, Bool, true, false, ⊤}
use Rattle.route_rules.specs.Routes.{IsDigestValue}
use Rattle.server_text.specs.declared.reply.Reply.TheVariants as reply
use Rattle.http_replies.specs.declared.answer.Answer.{Answer}
use Rattle.http_replies.specs.declared.answer.Answer.TheVariants as answer
use Rattle.desk_rounds.specs.declared.judged.Judged.{Judged}
use Rattle.desk_rounds.specs.declared.judged.Judged.TheVariants.{Ok, Again, Stored, Carried, Conflict, Full}
use Rattle.desk_rounds.specs.declared.judged.Asker.{Asker}
use Rattle.desk_rounds.specs.declared.judged.Asker.TheVariants.{Relay}

-- the answer by which it says so: the first two, a conflict and a limit are those of a server, and a relay says the others
abbrev pub answer_of : Judged → Answer
answer_of Ok = answer.Reply reply.Ok
answer_of Again = answer.Reply reply.Again
answer_of Stored = answer.Stored
answer_of Carried = answer.Carried
answer_of (Conflict digest) = answer.Reply (reply.Conflict digest)
answer_of (Full limit) = answer.Reply (reply.Full limit)

-- a digest has 32 bytes, and a limit is a number of 64 bits
abbrev pub HasForm : Judged → Type 0
HasForm (Conflict digest) = IsDigestValue digest
HasForm (Full limit) = limit < 2 ^ 64
HasForm other = ⊤

-- Whether an agent, or a relay, may be told so: a relay posts to a server alone.
abbrev pub may_hear : Asker → Judged → Bool
may_hear Relay Stored = false
may_hear Relay Carried = false
may_hear asker judged = true

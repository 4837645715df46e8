-- The statuses of replies over HTTP, and the bodies of those that a server doesn't give.
use Rattle.std.specs.Prelude.{◌≡◌, ◌≢◌, ℕ, List, codes, ⊤}
use Rattle.desk_http.specs.declared.host.Called.{Called}
use Rattle.desk_http.specs.declared.host.Called.TheVariants as called
use Rattle.server_text.specs.declared.reply.Reply.{Reply}
use Rattle.server_text.specs.declared.reply.Reply.TheVariants as reply
use Rattle.server_text.specs.Bodies.{body_of}
use Rattle.http_replies.specs.declared.answer.Answer.{Answer}
use Rattle.http_replies.specs.declared.answer.Answer.TheVariants as answer

-- the status of each reply
abbrev pub reply_status : Reply → ℕ
reply_status reply.Ok = 200
reply_status reply.Again = 200
reply_status (reply.Digest digest) = 200
reply_status (reply.Sites sites) = 200
reply_status (reply.Site text) = 200
reply_status reply.Same = 200
reply_status (reply.Content bytes) = 200
reply_status (reply.Rows rows) = 200
reply_status (reply.BadText line) = 400
reply_status (reply.Conflict digest) = 409
reply_status reply.NoSuch = 404
reply_status (reply.Older version) = 409
reply_status (reply.Full limit) = 507
reply_status reply.KeeperFault = 500
reply_status reply.Memory = 503

-- the status of an answer
abbrev pub answer_status : Answer → ℕ
answer_status (answer.Reply it) = reply_status it
answer_status answer.Stored = 200
answer_status answer.Carried = 200
answer_status answer.LinkFault = 502
answer_status answer.BadAnswer = 502

-- the body of an answer
abbrev pub answer_body : Answer → List ℕ
answer_body (answer.Reply it) = body_of it
answer_body answer.Stored = codes "stored\n"
answer_body answer.Carried = codes "carried\n"
answer_body answer.LinkFault = codes "link fault\n"
answer_body answer.BadAnswer = codes "bad answer\n"

-- What a host gives of an answer: its status and its body, or want of memory, which alone comes of a reply that tells of it.
abbrev pub IsCalled : Answer → Called → Type 0
IsCalled it (called.Answer status body) = (it ≢ answer.Reply reply.Memory) × (status ≡ answer_status it) × (body ≡ answer_body it)
IsCalled it called.Memory = ⊤

-- The words for what becomes of a report.
use Rattle.std.specs.Prelude.{ℕ, List, codes, Option, Some, None}
use Rattle.report_text.specs.declared.answer.Verdict.{Verdict}
use Rattle.report_text.specs.declared.answer.Verdict.TheVariants.{Stored, Carried, Conflict, Full}
use Rattle.server_text.specs.declared.reply.Reply.{Reply}
use Rattle.server_text.specs.declared.reply.Reply.TheVariants as reply

-- at a relay
abbrev pub verdict_word : Verdict → List ℕ
verdict_word Stored = codes "stored"
verdict_word Carried = codes "carried"
verdict_word (Conflict digest) = codes "conflict"
verdict_word (Full limit) = codes "full"

-- at the server, which judges a report that it can read by one of these replies, unless its keeper fails or memory runs out
abbrev pub reply_word : Reply → Option (List ℕ)
reply_word reply.Ok = Some (codes "ok")
reply_word reply.Again = Some (codes "again")
reply_word (reply.Conflict digest) = Some (codes "conflict")
reply_word (reply.Full limit) = Some (codes "full")
reply_word answer = None

-- What a relay answers to a report, and what becomes of its queue and of the keys that it knows.
use Rattle.std.specs.Prelude.{◌≡◌, ℕ, nat_eq, nat_lt, Bool, ◌&&◌, not, List, [], ◌∷◌, ◌++◌, length, filter, take, if◌then◌else◌}
use Rattle.std.specs.declared.option.Option.{Option}
use Rattle.std.specs.Prelude.{Some, None, is_none, is_some}
use Rattle.std.specs.Cmp.Lexicographic.{pointwise}
use Rattle.report_text.specs.declared.report.Report.{Report}
use Rattle.report_text.specs.declared.answer.Verdict.{Verdict}
use Rattle.report_text.specs.declared.answer.Verdict.TheVariants.{Stored, Carried, Conflict, Full}
use Rattle.relay_core.specs.ReportKeys.{ReportKey, key_of, same_key, report_digest, held_digest, queued_digest}
use Rattle.relay_core.specs.Relays.{RelayState}
use Rattle.relay_core.specs.declared.relay.RelayAnswer.{RelayAnswer}
use Rattle.relay_core.specs.declared.relay.RelayAnswer.TheVariants.{Told, Memory}

-- the verdict on a report with this digest, whose key stands with that one already
abbrev pub compared : Verdict → List ℕ → List ℕ → Verdict
compared same there digest = if pointwise nat_eq there digest then same else Conflict there

-- the verdict on a report whose key is neither known nor queued
abbrev pub limited : RelayState → Verdict
limited relay = if nat_lt (length relay.queue) relay.limit then Carried else Full relay.limit

-- the verdict on a report whose key isn't known
abbrev pub queue_verdict : Option (List ℕ) → RelayState → Report → Verdict
queue_verdict (Some queued) relay report = compared Carried queued (report_digest report)
queue_verdict None relay report = limited relay

-- the verdict on a report, where this is held of its key
abbrev pub held_verdict : Option (List ℕ) → RelayState → Report → Verdict
held_verdict (Some held) relay report = compared Stored held (report_digest report)
held_verdict None relay report = queue_verdict (queued_digest relay.queue (key_of report)) relay report

-- The verdict on a report that comes up. Its key is looked for among the known ones first, then in the queue, and then the limit
-- is tried.
abbrev pub up_verdict : RelayState → Report → Verdict
up_verdict relay report = held_verdict (held_digest relay.held (key_of report)) relay report

-- whether a report of this key would be queued
abbrev pub has_place : RelayState → ReportKey → Bool
has_place relay key =
    is_none (held_digest relay.held key) && (is_none (queued_digest relay.queue key) && nat_lt (length relay.queue) relay.limit)

-- the relay after a report came up
abbrev pub after_up : RelayState → Report → RelayState
after_up relay report =
    if has_place relay (key_of report) then record relay { queue = relay.queue ++ report ∷ [] } else relay

-- A report that comes up has its verdict and is queued where it has a place, or want of memory leaves the relay as it was.
abbrev pub AnswersUp : RelayState → Report → RelayAnswer → RelayState → Type 0
AnswersUp old report (Told verdict) new = (verdict ≡ up_verdict old report) × (new ≡ after_up old report)
AnswersUp old report Memory new = new ≡ old

-- whether a report of this key is queued
abbrev pub is_queued : RelayState → ReportKey → Bool
is_queued relay key = is_some (queued_digest relay.queue key)

-- the queue without the report of this key
abbrev pub without : ReportKey → List Report → List Report
without key queue = filter (λ report. not (same_key key (key_of report))) queue

-- the known keys after this one, with the digest that the server holds of it: the latest 10,000
abbrev pub with_held : ReportKey → List ℕ → List (ReportKey × List ℕ) → List (ReportKey × List ℕ)
with_held key digest held = take 10000 ((key, digest) ∷ held)

-- The relay after it was told that the server holds a report of this key with this digest: a queued report of the key leaves the
-- queue, and the key is known. Without such a report nothing changes.
abbrev pub after_sent : RelayState → ReportKey → List ℕ → RelayState
after_sent relay key digest =
    if is_queued relay key
    then record relay { queue = without key relay.queue; held = with_held key digest relay.held }
    else relay

-- A relay that answers a link fault asked its upstream, which failed.
use Rattle.std.proofs.Common.{◌≡◌, ℕ, Bool, true, false, List, [], ◌∷◌, Option, None, Some, inl, inr, refl, sym, ap, ◌∙◌, subst, arith}
use Rattle.std.specs.Prelude.{codes, ◌==◌, if◌then◌else◌}
use Rattle.desk_base.specs.Counts.{Rose}
use Rattle.desk_door.specs.Links.{LinkView}
use Rattle.desk_door.specs.declared.link.Exchanged.TheVariants as of_exchange
use Rattle.route_rules.specs.declared.method.Asking.{Asking}
use Rattle.route_rules.specs.declared.route.Route.{Route}
use Rattle.route_rules.specs.declared.route.Route.TheVariants as of_route
use Rattle.desk_http.specs.declared.host.Called.TheVariants as called
use Rattle.report_text.specs.declared.answer.Verdict.{Verdict}
use Rattle.report_text.specs.declared.answer.Verdict.TheVariants as verdict
use Rattle.server_text.specs.declared.reply.Reply.{Reply}
use Rattle.server_text.specs.declared.reply.Reply.TheVariants as reply
use Rattle.http_replies.specs.declared.answer.Answer.{Answer}
use Rattle.http_replies.specs.declared.answer.Answer.TheVariants as answer
use Rattle.http_replies.specs.Statuses.{answer_body, answer_status, reply_status}
use Rattle.relay_core.specs.ReportsUp.{up_verdict}
use Rattle.relay_cache.specs.CachedFiles.{CacheState, cached}
use Rattle.desk_hosts.specs.declared.file.Came.{Came}
use Rattle.desk_hosts.specs.declared.file.Came.TheVariants as came
use Rattle.desk_hosts.specs.HostCalls.{no_such, no_memory}
use Rattle.desk_hosts.specs.RelayFiles.{AsksFile, FilesTell, KeepsGiven, TellsBy, TellsBytes, TellsLooked, given, given_or, no_file}
use Rattle.desk_hosts.specs.RelayCalls.{RelayAnswers, RelayCalls, RelayTells, verdict_answer}

-- ---- which answer it is
not_200 : ◌≡◌ {A = ℕ} 502 200 → ⊥
not_200 h = omega (arith, h)

pub not_400 : ◌≡◌ {A = ℕ} 502 400 → ⊥
not_400 h = omega (arith, h)

pub not_404 : ◌≡◌ {A = ℕ} 502 404 → ⊥
not_404 h = omega (arith, h)

not_409 : ◌≡◌ {A = ℕ} 502 409 → ⊥
not_409 h = omega (arith, h)

not_500 : ◌≡◌ {A = ℕ} 502 500 → ⊥
not_500 h = omega (arith, h)

not_503 : ◌≡◌ {A = ℕ} 502 503 → ⊥
not_503 h = omega (arith, h)

not_507 : ◌≡◌ {A = ℕ} 502 507 → ⊥
not_507 h = omega (arith, h)

no_reply : (it : Reply) → 502 ≡ reply_status it → ⊥
no_reply reply.Ok h = not_200 h
no_reply reply.Again h = not_200 h
no_reply (reply.Digest digest) h = not_200 h
no_reply (reply.Sites sites) h = not_200 h
no_reply (reply.Site text) h = not_200 h
no_reply reply.Same h = not_200 h
no_reply (reply.Content bytes) h = not_200 h
no_reply (reply.Rows rows) h = not_200 h
no_reply (reply.BadText line) h = not_400 h
no_reply (reply.Conflict digest) h = not_409 h
no_reply reply.NoSuch h = not_404 h
no_reply (reply.Older version) h = not_409 h
no_reply (reply.Full limit) h = not_507 h
no_reply reply.KeeperFault h = not_500 h
no_reply reply.Memory h = not_503 h

abbrev letter : List ℕ → ℕ
letter [] = 0
letter (first ∷ more) = first

-- the letters of `link fault` and `bad answer`
not_bad : ◌≡◌ {A = ℕ} 108 98 → ⊥
not_bad h = omega (arith, h)

is_link_fault : (it : Answer) → 502 ≡ answer_status it → codes "link fault\n" ≡ answer_body it → it ≡ answer.LinkFault
is_link_fault (answer.Reply it) status body = absurd (no_reply it status)
is_link_fault answer.Stored status body = absurd (not_200 status)
is_link_fault answer.Carried status body = absurd (not_200 status)
is_link_fault answer.LinkFault status body = refl
is_link_fault answer.BadAnswer status body = absurd (not_bad (ap letter body))

-- ---- what gives no such answer
reply_not : (it : Reply) → answer.Reply it ≡ answer.LinkFault → ⊥
reply_not it e = cc

bad_not : answer.BadAnswer ≡ answer.LinkFault → ⊥
bad_not e = cc

verdict_not : (it : Verdict) → verdict_answer it ≡ answer.LinkFault → ⊥
verdict_not verdict.Stored e = cc
verdict_not verdict.Carried e = cc
verdict_not (verdict.Conflict digest) e = cc
verdict_not (verdict.Full limit) e = cc

-- ---- an exchange
of_status_not : (body : List ℕ) (missing good : Bool)
    → no_file (if missing then came.Nothing no_such else (if good then came.File body else came.Nothing answer.BadAnswer)) ≡ answer.LinkFault → ⊥
of_status_not body true good e = reply_not reply.NoSuch e
of_status_not body false true e = bad_not e
of_status_not body false false e = bad_not e

no_memory_not : (gave : Came) → gave ≡ came.Nothing no_memory → no_file gave ≡ answer.LinkFault → ⊥
no_memory_not gave same e = reply_not reply.Memory (sym (ap no_file same) ∙ e)

asked_rose : (old new : LinkView) (digest : List ℕ) (gave : Came) → AsksFile old digest gave new → no_file gave ≡ answer.LinkFault → Rose old.faults new.faults
asked_rose old new digest gave (inl (memory, same)) e = absurd (no_memory_not gave memory e)
asked_rose old new digest gave (inr (of_exchange.Reply bytes, asks, inl memory)) e = absurd (no_memory_not gave memory e)
asked_rose old new digest gave (inr (of_exchange.Reply bytes, asks, inr (inl (none, bad)))) e = absurd (bad_not (sym (ap no_file bad) ∙ e))
asked_rose old new digest gave (inr (of_exchange.Reply bytes, asks, inr (inr (status, body, is, same)))) e =
    absurd (of_status_not body (status == 404) (status == 200) (sym (ap no_file same) ∙ e))
asked_rose old new digest gave (inr (of_exchange.Failed, asks, failed)) e = asks.counts.rose refl
asked_rose old new digest gave (inr (of_exchange.Memory, asks, memory)) e = absurd (no_memory_not gave memory e)

-- ---- a file
-- without a cache
passed_rose : (old new : LinkView) (digest : List ℕ) (gave : Came) (o : Option (List ℕ)) → AsksFile old digest gave new
    → answer.LinkFault ≡ given_or (no_file gave) o → Rose old.faults new.faults
passed_rose old new digest gave None asks is = asked_rose old new digest gave asks (sym is)
passed_rose old new digest gave (Some bytes) asks is = absurd (reply_not (reply.Content bytes) (sym is))

-- with one that doesn't keep it
kept_rose : (old new : LinkView) (digest : List ℕ) (gave : Came) (o : Option (List ℕ)) (cache after : CacheState) → AsksFile old digest gave new
    → KeepsGiven cache digest (no_file gave) o answer.LinkFault after → Rose old.faults new.faults
kept_rose old new digest gave None cache after asks (is, stays) = asked_rose old new digest gave asks (sym is)
kept_rose old new digest gave (Some bytes) cache after asks (inl (is, kept)) = absurd (reply_not (reply.Content bytes) (sym is))
kept_rose old new digest gave (Some bytes) cache after asks (inr (is, stays)) = absurd (reply_not reply.Memory (sym is))

bytes_not : (bytes : List ℕ) → TellsBytes bytes answer.LinkFault → ⊥
bytes_not bytes (inl is) = reply_not (reply.Content bytes) (sym is)
bytes_not bytes (inr is) = reply_not reply.Memory (sym is)

looked_rose : (digest : List ℕ) (o : Option (List ℕ)) (old new : LinkView) (cache after : CacheState)
    → TellsLooked digest o old cache answer.LinkFault new after → Rose old.faults new.faults
looked_rose digest (Some bytes) old new cache after tells = absurd (bytes_not bytes tells.0.answers)
looked_rose digest None old new cache after tells = kept_rose old new digest tells.gave (given digest tells.gave) cache after tells.asks tells.keeps

file_rose : (digest : List ℕ) (cache : Option CacheState) (old : LinkView) (new : FilesTell) → TellsBy digest cache old answer.LinkFault new → Rose old.faults new.link.faults
file_rose digest None old new (passes, none) = passed_rose old new.link digest passes.gave (given digest passes.gave) passes.asks passes.answers
file_rose digest (Some cache) old new (after, tells, kept) = looked_rose digest (cached digest cache.files) old new.link cache after tells

answered_rose : (old new : RelayTells) (route : Route) (body : List ℕ) → RelayAnswers old (Some route) body answer.LinkFault new → Rose old.files.link.faults new.files.link.faults
answered_rose old new of_route.Publish body (is, same) = absurd (reply_not reply.NoSuch (sym is))
answered_rose old new of_route.Act body (is, same) = absurd (reply_not reply.NoSuch (sym is))
answered_rose old new (of_route.Stop id) body (is, same) = absurd (reply_not reply.NoSuch (sym is))
answered_rose old new of_route.File body (is, same) = absurd (reply_not reply.NoSuch (sym is))
answered_rose old new of_route.AskSites body (inl memory, same) = absurd (reply_not reply.Memory (sym memory))
answered_rose old new of_route.AskSites body (inr told, same) = absurd (reply_not _ (sym told))
answered_rose old new (of_route.AskSite name version) body (inl memory, same) = absurd (reply_not reply.Memory (sym memory))
answered_rose old new (of_route.AskSite name version) body (inr (inl (site, kept, above, told)), same) = absurd (reply_not _ (sym told))
answered_rose old new (of_route.AskSite name version) body (inr (inr (newest, told)), same) = absurd (reply_not reply.Same (sym told))
answered_rose old new (of_route.AskFile digest) body (tells, stays) = file_rose digest old.files.cache old.files.link new.files tells
answered_rose old new of_route.Report body (inl (inl memory, same), kept) = absurd (reply_not reply.Memory (sym memory))
answered_rose old new of_route.Report body (inl (inr (line, reads, told), same), kept) = absurd (reply_not (reply.BadText line) (sym told))
answered_rose old new of_route.Report body (inr (report, reads, told, after), kept) = absurd (verdict_not (up_verdict old.relay report) (sym told))
answered_rose old new (of_route.Results name) body (is, same) = absurd (reply_not reply.NoSuch (sym is))

pub link_fault_counted : (old new : RelayTells) (asking : Asking) (path body : List ℕ) → RelayCalls old asking path body (called.Answer 502 (codes "link fault\n")) new
    → Rose old.files.link.faults new.files.link.faults
link_fault_counted old new asking path body (inl short) = let e = short.0 in absurd (cc)
link_fault_counted old new asking path body (inr (None, it, finds, answers, is)) = absurd (not_404 (is.1 ∙ ap answer_status answers.0))
link_fault_counted old new asking path body (inr (Some route, it, finds, answers, is)) =
    let Answered : Answer → Type 0 = λ a. RelayAnswers old (Some route) body a new in
    answered_rose old new route body (subst Answered (is_link_fault it is.1 is.2) answers)

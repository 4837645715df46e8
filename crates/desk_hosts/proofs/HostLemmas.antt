-- What holds of every call of a host.
use Rattle.std.proofs.Common.{◌≡◌, ℕ, List, Bool, true, false, refl, ap, ◌∙◌, subst, inl, inr, arith}
use Rattle.std.specs.Prelude.{◌==◌, bytes_eq, if◌then◌else◌, None, Some, codes}
use Rattle.std.specs.declared.option.Option.{Option}
use Rattle.std.proofs.lemmas.Slice.Eq.{bytes_eq-Decides}
use Rattle.sha2.specs.Sha256.{sha256}
use Rattle.desk_base.specs.Counts.{Rose}
use Rattle.desk_door.specs.declared.link.Exchanged.{Exchanged}
use Rattle.desk_door.specs.declared.link.Exchanged.TheVariants as of_exchange
use Rattle.desk_door.specs.Links.{LinkView}
use Rattle.route_rules.specs.declared.method.Asking.{Asking}
use Rattle.route_rules.specs.declared.method.Asking.TheVariants.{Get}
use Rattle.route_rules.specs.declared.route.Route.{Route}
use Rattle.route_rules.specs.declared.route.Route.TheVariants as of_route
use Rattle.route_rules.specs.declared.route.Routes.{Routes}
use Rattle.route_rules.specs.declared.route.Routes.TheVariants as of_routes
use Rattle.route_rules.specs.Routes.{FindsRoute, IsDigestValue, IsRoute, file_path, method_word}
use Rattle.desk_http.specs.declared.host.Called.TheVariants as called
use Rattle.server_text.specs.declared.reply.Reply.{Reply}
use Rattle.server_text.specs.declared.reply.Reply.TheVariants as reply
use Rattle.http_replies.specs.declared.answer.Answer.{Answer}
use Rattle.http_replies.specs.declared.answer.Answer.TheVariants as answer
use Rattle.http_replies.specs.Statuses.{IsCalled, answer_status, reply_status}
use Rattle.relay_cache.specs.CachedFiles.{CacheState, cached}
use Rattle.desk_hosts.specs.declared.file.Came.{Came}
use Rattle.desk_hosts.specs.declared.file.Came.TheVariants as came
use Rattle.desk_hosts.specs.HostCalls.{no_such, no_memory}
use Rattle.desk_hosts.specs.RelayFiles.{AsksFile, ComesOf, FilesTell, KeepsGiven, TellsBy, TellsBytes, TellsLooked, given, given_or, no_file}
use Rattle.desk_hosts.specs.ServerCalls.{ServerCalls, ServerTells, ServerAnswers}
use Rattle.desk_hosts.specs.RelayCalls.{RelayCalls, RelayTells, RelayAnswers}

-- ---- a fault of the keeper

not_200 : ◌≡◌ {A = ℕ} 500 200 → ⊥
not_200 h = omega (arith, h)

not_400 : ◌≡◌ {A = ℕ} 500 400 → ⊥
not_400 h = omega (arith, h)

not_404 : ◌≡◌ {A = ℕ} 500 404 → ⊥
not_404 h = omega (arith, h)

not_409 : ◌≡◌ {A = ℕ} 500 409 → ⊥
not_409 h = omega (arith, h)

not_503 : ◌≡◌ {A = ℕ} 500 503 → ⊥
not_503 h = omega (arith, h)

not_507 : ◌≡◌ {A = ℕ} 500 507 → ⊥
not_507 h = omega (arith, h)

only_fault : (replied : Reply) → 500 ≡ reply_status replied → replied ≡ reply.KeeperFault
only_fault reply.Ok h = absurd (not_200 h)
only_fault reply.Again h = absurd (not_200 h)
only_fault (reply.Digest digest) h = absurd (not_200 h)
only_fault (reply.Sites sites) h = absurd (not_200 h)
only_fault (reply.Site text) h = absurd (not_200 h)
only_fault reply.Same h = absurd (not_200 h)
only_fault (reply.Content bytes) h = absurd (not_200 h)
only_fault (reply.Rows rows) h = absurd (not_200 h)
only_fault (reply.BadText line) h = absurd (not_400 h)
only_fault (reply.Conflict digest) h = absurd (not_409 h)
only_fault reply.NoSuch h = absurd (not_404 h)
only_fault (reply.Older version) h = absurd (not_409 h)
only_fault (reply.Full limit) h = absurd (not_507 h)
only_fault reply.KeeperFault h = refl
only_fault reply.Memory h = absurd (not_503 h)

pub fault_counted : (old new : ServerTells) (asking : Asking) (path body text : List ℕ) → ServerCalls old asking path body (called.Answer 500 text) new → Rose old.keeper.faults new.keeper.faults
fault_counted old new asking path body text (inl short) = let e = short.0 in cc
fault_counted old new asking path body text (inr (None, it, finds, answers, is)) =
    absurd (not_404 (is.1 ∙ ap answer_status answers.0))
fault_counted old new asking path body text (inr (Some route, it, finds, answers, is)) =
    answers.2.counts.rose (only_fault answers.0 (is.1 ∙ ap answer_status answers.1))

-- ---- no route

-- there is one route
abbrev OneRoute : Type 0
OneRoute = (routes : Routes) (method path : List ℕ) (found other : Option Route) → FindsRoute routes method path found → FindsRoute routes method path other → found ≡ other

no_such_called : (status : ℕ) (text : List ℕ) (it : Answer) → it ≡ no_such → IsCalled it (called.Answer status text) → (status ≡ 404) × (text ≡ codes "no such\n")
no_such_called status text it same is =
    let P : Answer → Type 0 = λ a. IsCalled a (called.Answer status text) in
    let h = subst P same is in (h.1, h.2)

pub server_none_found : OneRoute → (old new : ServerTells) (asking : Asking) (path body text : List ℕ) (status : ℕ) → FindsRoute of_routes.Server (method_word asking) path None
    → ServerCalls old asking path body (called.Answer status text) new → (status ≡ 404) × (text ≡ codes "no such\n") × (new ≡ old)
server_none_found one old new asking path body text status finds (inl short) = let e = short.0 in cc
server_none_found one old new asking path body text status finds (inr (route, it, found, answered, is)) =
    let P : Option Route → Type 0 = λ r. ServerAnswers old r body it new in
    let h = subst P (one of_routes.Server (method_word asking) path route None found finds) answered in
    let s = no_such_called status text it h.0 is in (s.0, s.1, h.1)

pub relay_none_found : OneRoute → (old new : RelayTells) (asking : Asking) (path body text : List ℕ) (status : ℕ) → FindsRoute of_routes.Relay (method_word asking) path None
    → RelayCalls old asking path body (called.Answer status text) new → (status ≡ 404) × (text ≡ codes "no such\n") × (new ≡ old)
relay_none_found one old new asking path body text status finds (inl short) = let e = short.0 in cc
relay_none_found one old new asking path body text status finds (inr (route, it, found, answered, is)) =
    let P : Option Route → Type 0 = λ r. RelayAnswers old r body it new in
    let h = subst P (one of_routes.Relay (method_word asking) path route None found finds) answered in
    let s = no_such_called status text it h.0 is in (s.0, s.1, h.1)

-- ---- a file's digest

ok_404 : ◌≡◌ {A = ℕ} 200 404 → ⊥
ok_404 h = omega (arith, h)

ok_502 : ◌≡◌ {A = ℕ} 200 502 → ⊥
ok_502 h = omega (arith, h)

module _ (text : List ℕ) where
  abbrev Is200 : Answer → Type 0
  Is200 it = IsCalled it (called.Answer 200 text)

  -- where no file comes the status is none of a file's
  no_memory_200 : (it : Answer) → it ≡ no_memory → Is200 it → ⊥
  no_memory_200 it same is = is.0 same

  bad_answer_200 : (it : Answer) → it ≡ answer.BadAnswer → Is200 it → ⊥
  bad_answer_200 it same is = ok_502 (is.1 ∙ ap answer_status same)

  of_status_200 : (body : List ℕ) (missing good : Bool)
      → Is200 (no_file (if missing then came.Nothing no_such else (if good then came.File body else came.Nothing answer.BadAnswer))) → ⊥
  of_status_200 body true good is = ok_404 is.1
  of_status_200 body false true is = ok_502 is.1
  of_status_200 body false false is = ok_502 is.1

  comes_200 : (exchanged : Exchanged) (gave : Came) → ComesOf exchanged gave → Is200 (no_file gave) → ⊥
  comes_200 of_exchange.Failed gave same is = ok_502 (is.1 ∙ ap (λ (g : Came). answer_status (no_file g)) same)
  comes_200 of_exchange.Memory gave same is = no_memory_200 (no_file gave) (ap no_file same) is
  comes_200 (of_exchange.Reply bytes) gave (inl same) is = no_memory_200 (no_file gave) (ap no_file same) is
  comes_200 (of_exchange.Reply bytes) gave (inr (inl (none, same))) is = bad_answer_200 (no_file gave) (ap no_file same) is
  comes_200 (of_exchange.Reply bytes) gave (inr (inr (status, body, reply, same))) is =
      of_status_200 body (status == 404) (status == 200) (subst (λ (g : Came). Is200 (no_file g)) same is)

  asks_200 : (old new : LinkView) (digest : List ℕ) (gave : Came) → AsksFile old digest gave new → Is200 (no_file gave) → ⊥
  asks_200 old new digest gave (inl short) is = no_memory_200 (no_file gave) (ap no_file short.0) is
  asks_200 old new digest gave (inr (exchanged, asks, comes)) is = comes_200 exchanged gave comes is

chosen : (digest bytes other : List ℕ) (same : Bool) → (same ≡ true → sha256 bytes ≡ digest) → ◌≡◌ {A = Option (List ℕ)} (if same then Some bytes else None) (Some other) → sha256 other ≡ digest
chosen digest bytes other true so e = let h : bytes ≡ other = cc in subst (λ (b : List ℕ). sha256 b ≡ digest) h (so refl)
chosen digest bytes other false so e = cc

-- what is given has the digest
given_digest : (digest bytes : List ℕ) (gave : Came) → given digest gave ≡ Some bytes → sha256 bytes ≡ digest
given_digest digest bytes (came.File others) e = chosen digest others bytes (bytes_eq (sha256 others) digest) (bytes_eq-Decides (sha256 others) digest).0 e
given_digest digest bytes (came.Nothing it) e = cc

module _ (digest text : List ℕ) where
  content_200 : (bytes : List ℕ) (it : Answer) → sha256 bytes ≡ digest → it ≡ answer.Reply (reply.Content bytes) → Is200 text it → sha256 text ≡ digest
  content_200 bytes it has same is = let h = subst (Is200 text) same is in ap sha256 h.2 ∙ has

  given_200 : (gave : Came) (it : Answer) (o : Option (List ℕ)) → given digest gave ≡ o → (Is200 text (no_file gave) → ⊥) → it ≡ given_or (no_file gave) o
      → Is200 text it → sha256 text ≡ digest
  given_200 gave it None e never same is = absurd (never (subst (Is200 text) same is))
  given_200 gave it (Some bytes) e never same is = content_200 bytes it (given_digest digest bytes gave e) same is

  kept_200 : (gave : Came) (it : Answer) (old new : CacheState) (o : Option (List ℕ)) → given digest gave ≡ o → (Is200 text (no_file gave) → ⊥)
      → KeepsGiven old digest (no_file gave) o it new → Is200 text it → sha256 text ≡ digest
  kept_200 gave it old new None e never (same, stays) is = absurd (never (subst (Is200 text) same is))
  kept_200 gave it old new (Some bytes) e never (inl (same, after)) is = content_200 bytes it (given_digest digest bytes gave e) same is
  kept_200 gave it old new (Some bytes) e never (inr (short, stays)) is = absurd (no_memory_200 text it short is)

  told_200 : (bytes : List ℕ) (it : Answer) → sha256 bytes ≡ digest → TellsBytes bytes it → Is200 text it → sha256 text ≡ digest
  told_200 bytes it has (inl same) is = content_200 bytes it has same is
  told_200 bytes it has (inr short) is = absurd (no_memory_200 text it short is)

  looked_200 : (o : Option (List ℕ)) (old new : LinkView) (cache after : CacheState) (it : Answer) → TellsLooked digest o old cache it new after → Is200 text it
      → sha256 text ≡ digest
  looked_200 (Some bytes) old new cache after it tells is = told_200 bytes it tells.0.genuine tells.0.answers is
  looked_200 None old new cache after it tells is =
      kept_200 tells.gave it cache after (given digest tells.gave) refl (asks_200 text old new digest tells.gave tells.asks) tells.keeps is

  file_200 : (cache : Option CacheState) (old : LinkView) (it : Answer) (new : FilesTell) → TellsBy digest cache old it new → Is200 text it → sha256 text ≡ digest
  file_200 None old it new (passes, none) is =
      given_200 passes.gave it (given digest passes.gave) refl (asks_200 text old new.link digest passes.gave passes.asks) passes.answers is
  file_200 (Some cache) old it new (after, tells, kept) is = looked_200 (cached digest cache.files) old new.link cache after it tells is

pub file_digest : OneRoute → (old new : RelayTells) (digest body text : List ℕ) → IsDigestValue digest → RelayCalls old Get (file_path digest) body (called.Answer 200 text) new → sha256 text ≡ digest
file_digest one old new digest body text forms (inl short) = let e = short.0 in cc
file_digest one old new digest body text forms (inr (route, it, found, answered, is)) =
    let mine : IsRoute of_routes.Relay (method_word Get) (file_path digest) (of_route.AskFile digest) = record { asked = refl; named = refl; forms = forms; here = refl } in
    let same = one of_routes.Relay (method_word Get) (file_path digest) route (Some (of_route.AskFile digest)) found mine in
    let P : Option Route → Type 0 = λ r. RelayAnswers old r body it new in
    file_200 digest text old.files.cache old.files.link it new.files (subst P same answered).0 is

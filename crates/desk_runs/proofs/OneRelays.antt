-- What a relay does is one thing, where its devices tell one thing and don't fail, and memory suffices.
use Rattle.std.proofs.Common.{◌≡◌, ◌≢◌, ◌≤◌, ◌<◌, ◌-◌, ◌^◌, ℕ, List, [], ◌∷◌, ◌++◌, length, Bool, true, false, None, Some, Result, Ok, Err, inl, inr, refl, sym, ap, ◌∙◌, subst, arith, length-append}
use Rattle.std.specs.Prelude.{if◌then◌else◌}
use Rattle.std.specs.Cmp.Lexicographic.{nat_list_cmp_total}
use Rattle.std.proofs.lemmas.Map.Lookups.{exact_bytes}
use Rattle.std.specs.declared.option.Option.{Option}
use Rattle.std.specs.Io.KnownBytes.{Appends, IsAtEnd}
use Rattle.desk_door.specs.Doors.{DoorView, earlier, here}
use Rattle.fix_site.specs.Sites.{IsSite, site_text}
use Rattle.fix_site.specs.declared.site.Site.{Site}
use Rattle.report_text.specs.declared.report.Report.{Report}
use Rattle.relay_core.specs.KeptSites.{AreKept, IsKept, KeepsSite}
use Rattle.relay_core.specs.ReportKeys.{ReportKey, key_of}
use Rattle.relay_core.specs.ReportsUp.{after_sent, after_up, has_place, is_queued, up_verdict, with_held, without}
use Rattle.relay_core.specs.Relays.{RelayState}
use Rattle.report_text.specs.declared.answer.Gathered.{Gathered}
use Rattle.report_text.specs.declared.answer.Gathered.TheVariants as gathered
use Rattle.line_forms.proofs.Sorted.{one_of_key}
use Rattle.route_rules.specs.declared.method.Asking.{Asking}
use Rattle.route_rules.specs.declared.route.Route.{Route}
use Rattle.route_rules.specs.declared.route.Route.TheVariants as of_route
use Rattle.route_rules.specs.declared.route.Routes.{Routes}
use Rattle.route_rules.specs.declared.route.Routes.TheVariants as of_routes
use Rattle.route_rules.specs.Routes.{FindsRoute, method_word}
use Rattle.desk_http.specs.declared.host.Called.TheVariants as called
use Rattle.desk_http.specs.declared.talk.Met.{Met}
use Rattle.desk_http.specs.declared.talk.Met.TheVariants as met
use Rattle.desk_http.specs.Conversing.{Converses, IsHeard, OnlyTalks, Responds, Says}
use Rattle.desk_http.specs.Heard.{Heard, Hears, Call, Refused}
use Rattle.desk_http.specs.Spoken.{spoken}
use Rattle.server_text.specs.declared.reply.Reply.TheVariants as of_reply
use Rattle.server_text.specs.declared.request.Request.{Request}
use Rattle.server_text.specs.declared.request.Request.TheVariants as of_request
use Rattle.server_text.specs.Entries.{Asked, Enters, Reported, Bad}
use Rattle.server_text.specs.RequestTexts.{Asks, ReadsReported, asked_of}
use Rattle.http_replies.specs.declared.answer.Answer.{Answer}
use Rattle.http_replies.specs.declared.answer.Answer.TheVariants as answer
use Rattle.http_replies.specs.Statuses.{answer_body, answer_status}
use Rattle.desk_hosts.specs.HostCalls.{no_memory, no_such}
use Rattle.desk_hosts.specs.RelayCalls.{CarriesReport, RelayAnswers, RelayCalls, RelayTells, TellsSite, TellsSites, verdict_answer}
use Rattle.desk_hosts.specs.RelayFiles.{FilesTell}
use Rattle.desk_rounds.specs.Clients.{At, at_rest, held_of, relay_client, relay_told}
use Rattle.desk_rounds.specs.Gathering.{GathersAll}
use Rattle.desk_rounds.specs.Parts.{DoesBoth}
use Rattle.desk_rounds.specs.Posting.{PostsAll}
use Rattle.desk_rounds.specs.RelayRounds.{RelayRound}
use Rattle.desk_runs.specs.OneExchanges.{LinkTold}
use Rattle.desk_runs.proofs.CountingRounds.{gathering_counts, posting_counts}
use Rattle.desk_runs.proofs.OneExchanges.{not_risen}
use Rattle.desk_runs.proofs.OneFiles.{FilesStand, FilesTold, file_once}
use Rattle.desk_runs.proofs.OneParts.{IsOne, OneClient, RoundLaws, Stands, both_once, gathering_once, posting_once}

-- the laws that this stands on
pub record KeepingLaws : Type 0 where
  pub one : (old new other : RelayState) (site : Site) (answer otherwise : Gathered) → AreKept old.sites → KeepsSite old site answer new → KeepsSite old site otherwise other → answer ≢ gathered.Memory → otherwise ≢ gathered.Memory
      → (answer ≡ otherwise) × (new ≡ other)
  pub kept : (old new : RelayState) (site : Site) (answer : Gathered) → AreKept old.sites → IsSite site → KeepsSite old site answer new → AreKept new.sites

pub record RelayLaws : Type 0 where
  pub round : RoundLaws
  pub keeping : KeepingLaws
  pub route : (routes : Routes) (method path : List ℕ) (found other : Option Route) → FindsRoute routes method path found → FindsRoute routes method path other → found ≡ other
  pub heard : (routes : Routes) (bytes : List ℕ) (heard other : Heard) (most least : ℕ) → Hears routes bytes heard most → Hears routes bytes other least → (heard ≡ other) × (most ≡ least)
  pub meaning : (request : Request) (asked other : Asked) → Asks request asked → Asks request other → asked ≡ other

-- ---- the relay as a client
abbrev pub Good : RelayState → Type 0
Good relay = AreKept relay.sites

sent_sites : (relay : RelayState) (key : ReportKey) (digest : List ℕ) → (after_sent relay key digest).sites ≡ relay.sites
sent_sites relay key digest = by_queue (is_queued relay key)
  where
    by_queue : (queued : Bool) → (if queued then record relay { queue = without key relay.queue; held = with_held key digest relay.held } else relay).sites ≡ relay.sites
    by_queue true = refl
    by_queue false = refl

told_sites : (relay : RelayState) (report : Report) (digest : Option (List ℕ)) → (relay_told relay report digest).sites ≡ relay.sites
told_sites relay report None = refl
told_sites relay report (Some digest) = sent_sites relay (key_of report) digest

up_sites : (relay : RelayState) (report : Report) → (after_up relay report).sites ≡ relay.sites
up_sites relay report = by_place (has_place relay (key_of report))
  where
    by_place : (place : Bool) → (if place then record relay { queue = relay.queue ++ report ∷ [] } else relay).sites ≡ relay.sites
    by_place true = refl
    by_place false = refl

same_good : (old new : RelayState) → new.sites ≡ old.sites → Good old → Good new
same_good old new same good = subst AreKept (sym same) good

one_relay : KeepingLaws → OneClient relay_client Good
one_relay laws = record {
  keeps = λ old new other site a b good p q ample ample'. laws.one old new other site a b good p q ample ample';
  kept = λ old new site a good is p. laws.kept old new site a good is p;
  settles = λ old new other report said p q. p ∙ sym q;
  settled = λ old new report said good p.
      same_good old new (ap (λ (r : RelayState). r.sites) p ∙ told_sites old report (held_of said report)) good;
}

-- ---- a round
last_steady : (a : ℕ) (last new : At RelayState) → new ≡ at_rest last → new.way.link.faults ≡ a → last.way.link.faults ≡ a
last_steady a last new is steady = sym (ap (λ (s : At RelayState). s.way.link.faults) is) ∙ steady

rests : (k : RelayState) (told : LinkTold) (last new : At RelayState) → new ≡ at_rest last → Stands Good k told last → Stands Good k told new
rests k told last new is stands =
    let P : At RelayState → Type 0 = λ s. Stands Good k told s in
    subst P (sym is) (record { client = stands.client; good = stands.good; link = stands.link })

pub round_once : RelayLaws → IsOne Good RelayRound
round_once laws k told old old' next next' lines lines' new new' stands stands' ample ample' steady steady' (last, did, is) (last', did', is') =
    let client = one_relay laws.keeping in
    let one : IsOne Good (DoesBoth (GathersAll relay_client) (PostsAll relay_client)) =
    both_once Good (GathersAll relay_client) (PostsAll relay_client) (gathering_once laws.round relay_client Good client) (posting_once laws.round relay_client Good client) (gathering_counts relay_client)
    (posting_counts relay_client) in
    let once = one k told old old' next next' lines lines' last last' stands stands' ample ample' (last_steady old.way.link.faults last new is steady) (last_steady old'.way.link.faults last' new' is' steady') did did' in
    record { then_is = once.then_is; lines_are = once.lines_are; k = once.k; told = once.told; one = rests once.k once.told last new is once.one; other = rests once.k once.told last' new' is' once.other }

-- ---- one answer to a call
-- the host keeps this relay and these files, and its link tells this
pub record HostStands (k : RelayState) (told : FilesTold) (host : RelayTells) : Type 0 where
  pub relay : host.relay ≡ k
  pub good : Good k
  pub files : FilesStand told host.files

-- both keep one thing, and their links tell one thing
pub record SameHosts (one other : RelayTells) : Type 0 where
  pub k : RelayState
  pub told : FilesTold
  pub first : HostStands k told one
  pub second : HostStands k told other

stays_so : (k : RelayState) (told : FilesTold) (old new : RelayTells) → new ≡ old → HostStands k told old → HostStands k told new
stays_so k told old new same stands = let P : RelayTells → Type 0 = λ t. HostStands k told t in subst P (sym same) stands

stay_so : (k : RelayState) (told : FilesTold) (old old' new new' : RelayTells) → new ≡ old → new' ≡ old' → HostStands k told old → HostStands k told old' → SameHosts new new'
stay_so k told old old' new new' same same' stands stands' =
    record { k = k; told = told; first = stays_so k told old new same stands; second = stays_so k told old' new' same' stands' }

record SameAnswers (it it' : Answer) (new new' : RelayTells) : Type 0 where
  same : it ≡ it'
  hosts : SameHosts new new'

-- a name has one kept site
one_kept : (sites : List Site) (name : List ℕ) (site kept : Site) → AreKept sites → IsKept sites name site → IsKept sites name kept → kept ≡ site
one_kept sites name site kept are first other =
    one_of_key nat_list_cmp_total (λ x y e. exact_bytes x y e) (λ (s : Site). s.name) sites are.ascending name kept site other.0 first.0 (other.1 ∙ sym first.1)

not_newest : (version n : ℕ) → version < n → n ≤ version → ⊥
not_newest version n low high = omega (arith, low, high)

sites_once : (sites : List Site) (it it' : Answer) → it ≢ no_memory → it' ≢ no_memory → TellsSites sites it → TellsSites sites it' → it ≡ it'
sites_once sites it it' ample ample' (inl memory) again = absurd (ample memory)
sites_once sites it it' ample ample' (inr tells) (inl memory) = absurd (ample' memory)
sites_once sites it it' ample ample' (inr tells) (inr tells') = tells ∙ sym tells'

site_once : (sites : List Site) (name : List ℕ) (version : ℕ) (it it' : Answer) → AreKept sites → it ≢ no_memory → it' ≢ no_memory → TellsSite sites name version it → TellsSite sites name version it' → it ≡ it'
site_once sites name version it it' are ample ample' (inl memory) again = absurd (ample memory)
site_once sites name version it it' are ample ample' (inr tells) (inl memory) = absurd (ample' memory)
site_once sites name version it it' are ample ample' (inr (inl (site, kept, above, is))) (inr (inl (site', kept', above', is'))) =
    is ∙ ap (λ (s : Site). answer.Reply (of_reply.Site (site_text s))) (sym (one_kept sites name site site' are kept kept')) ∙ sym is'
site_once sites name version it it' are ample ample' (inr (inl (site, kept, above, is))) (inr (inr (newest, is'))) = absurd (not_newest version site.version above (newest site kept))
site_once sites name version it it' are ample ample' (inr (inr (newest, is))) (inr (inl (site', kept', above', is'))) = absurd (not_newest version site'.version above' (newest site' kept'))
site_once sites name version it it' are ample ample' (inr (inr (newest, is))) (inr (inr (newest', is'))) = is ∙ sym is'

-- ---- a report
reads_once : RelayLaws → (text : List ℕ) (one other : Result Report ℕ) → ReadsReported text one → ReadsReported text other → asked_of Reported one ≡ asked_of Reported other
reads_once laws text one other reads reads' = laws.meaning (of_request.Report text) (asked_of Reported one) (asked_of Reported other) (one, reads, refl) (other, reads', refl)

report_same : (report other : Report) → ◌≡◌ {A = Asked} (Enters (Reported report)) (Enters (Reported other)) → report ≡ other
report_same report other e = cc

line_same : (line other : ℕ) → ◌≡◌ {A = Asked} (Bad line) (Bad other) → line ≡ other
line_same line other e = cc

not_read : (report : Report) (line : ℕ) → ◌≡◌ {A = Asked} (Enters (Reported report)) (Bad line) → ⊥
not_read report line e = cc

record SameRelays (it it' : Answer) (new new' : RelayState) : Type 0 where
  same : it ≡ it'
  relay : new ≡ new'
  good : Good new

carried_once : RelayLaws → (k : RelayState) (text : List ℕ) (it it' : Answer) (new new' : RelayState) → Good k → it ≢ no_memory → it' ≢ no_memory → CarriesReport k text it new → CarriesReport k text it' new'
    → SameRelays it it' new new'
carried_once laws k text it it' new new' good ample ample' (inl (inl memory, same)) again = absurd (ample memory)
carried_once laws k text it it' new new' good ample ample' (inl (inr refused, same)) (inl (inl memory, same')) = absurd (ample' memory)
carried_once laws k text it it' new new' good ample ample' (inl (inr (line, reads, is), same)) (inl (inr (line', reads', is'), same')) =
    let lines = line_same line line' (reads_once laws text (Err line) (Err line') reads reads') in
    record { same = is ∙ ap (λ n. answer.Reply (of_reply.BadText n)) lines ∙ sym is'; relay = same ∙ sym same'; good = subst Good (sym same) good }
carried_once laws k text it it' new new' good ample ample' (inl (inr (line, reads, is), same)) (inr (report', reads', is', after')) =
    absurd (not_read report' line (reads_once laws text (Ok report') (Err line) reads' reads))
carried_once laws k text it it' new new' good ample ample' (inr takes) (inl (inl memory, same')) = absurd (ample' memory)
carried_once laws k text it it' new new' good ample ample' (inr (report, reads, is, after)) (inl (inr (line', reads', is'), same')) =
    absurd (not_read report line' (reads_once laws text (Ok report) (Err line') reads reads'))
carried_once laws k text it it' new new' good ample ample' (inr (report, reads, is, after)) (inr (report', reads', is', after')) =
    let reports = report_same report report' (reads_once laws text (Ok report) (Ok report') reads reads') in
    record {
      same = is ∙ ap (λ r. verdict_answer (up_verdict k r)) reports ∙ sym is';
      relay = after ∙ ap (λ r. after_up k r) reports ∙ sym after';
      good = same_good k new (ap (λ (r : RelayState). r.sites) after ∙ up_sites k report) good;
    }

-- ---- by the route
none_such : (k : RelayState) (told : FilesTold) (old old' new new' : RelayTells) (it it' : Answer) → HostStands k told old → HostStands k told old' → (it ≡ no_such) × (new ≡ old) → (it' ≡ no_such) × (new' ≡ old')
    → SameAnswers it it' new new'
none_such k told old old' new new' it it' stands stands' (is, same) (is', same') = record { same = is ∙ sym is'; hosts = stay_so k told old old' new new' same same' stands stands' }

answered_once : RelayLaws → (k : RelayState) (told : FilesTold) (old old' new new' : RelayTells) (route : Option Route) (body : List ℕ) (it it' : Answer) → HostStands k told old → HostStands k told old' → it ≢ no_memory → it' ≢ no_memory
    → new.files.link.faults ≡ old.files.link.faults → new'.files.link.faults ≡ old'.files.link.faults → RelayAnswers old route body it new → RelayAnswers old' route body it' new' → SameAnswers it it' new new'
answered_once laws k told old old' new new' None body it it' stands stands' ample ample' steady steady' did did' = none_such k told old old' new new' it it' stands stands' did did'
answered_once laws k told old old' new new' (Some of_route.Publish) body it it' stands stands' ample ample' steady steady' did did' = none_such k told old old' new new' it it' stands stands' did did'
answered_once laws k told old old' new new' (Some of_route.Act) body it it' stands stands' ample ample' steady steady' did did' = none_such k told old old' new new' it it' stands stands' did did'
answered_once laws k told old old' new new' (Some (of_route.Stop id)) body it it' stands stands' ample ample' steady steady' did did' = none_such k told old old' new new' it it' stands stands' did did'
answered_once laws k told old old' new new' (Some of_route.File) body it it' stands stands' ample ample' steady steady' did did' = none_such k told old old' new new' it it' stands stands' did did'
answered_once laws k told old old' new new' (Some (of_route.Results name)) body it it' stands stands' ample ample' steady steady' did did' = none_such k told old old' new new' it it' stands stands' did did'
answered_once laws k told old old' new new' (Some of_route.AskSites) body it it' stands stands' ample ample' steady steady' (tells, same) (tells', same') =
    let P : RelayState → Type 0 = λ r. TellsSites r.sites it in
    let Q : RelayState → Type 0 = λ r. TellsSites r.sites it' in
    record { same = sites_once k.sites it it' ample ample' (subst P stands.relay tells) (subst Q stands'.relay tells'); hosts = stay_so k told old old' new new' same same' stands stands' }
answered_once laws k told old old' new new' (Some (of_route.AskSite name version)) body it it' stands stands' ample ample' steady steady' (tells, same) (tells', same') =
    let P : RelayState → Type 0 = λ r. TellsSite r.sites name version it in
    let Q : RelayState → Type 0 = λ r. TellsSite r.sites name version it' in
    record {
      same = site_once k.sites name version it it' stands.good ample ample' (subst P stands.relay tells) (subst Q stands'.relay tells');
      hosts = stay_so k told old old' new new' same same' stands stands';
    }
answered_once laws k told old old' new new' (Some (of_route.AskFile digest)) body it it' stands stands' ample ample' steady steady' (tells, kept) (tells', kept') =
    let once = file_once laws.round.reply digest told old.files old'.files new.files new'.files it it' stands.files stands'.files ample ample' steady steady' tells tells' in
    record {
      same = once.same;
      hosts = record {
        k = k;
        told = once.told;
        first = record { relay = kept ∙ stands.relay; good = stands.good; files = once.first };
        second = record { relay = kept' ∙ stands'.relay; good = stands'.good; files = once.second };
      };
    }
answered_once laws k told old old' new new' (Some of_route.Report) body it it' stands stands' ample ample' steady steady' (carries, same) (carries', same') =
    let P : RelayState → Type 0 = λ r. CarriesReport r body it new.relay in
    let Q : RelayState → Type 0 = λ r. CarriesReport r body it' new'.relay in
    let once = carried_once laws k body it it' new.relay new'.relay stands.good ample ample' (subst P stands.relay carries) (subst Q stands'.relay carries') in
    let T : FilesTell → Type 0 = λ f. FilesStand told f in
    record {
      same = once.same;
      hosts = record {
        k = new.relay;
        told = told;
        first = record { relay = refl; good = once.good; files = subst T (sym same) stands.files };
        second = record { relay = sym once.relay; good = once.good; files = subst T (sym same') stands'.files };
      };
    }

-- ---- one response
record SameResponse (status status' : ℕ) (text text' : List ℕ) (new new' : RelayTells) : Type 0 where
  status_is : status ≡ status'
  text_is : text ≡ text'
  hosts : SameHosts new new'

called_once : RelayLaws → (k : RelayState) (told : FilesTold) (old old' new new' : RelayTells) (asking : Asking) (path body : List ℕ) (status status' : ℕ) (text text' : List ℕ) → HostStands k told old → HostStands k told old'
    → new.files.link.faults ≡ old.files.link.faults → new'.files.link.faults ≡ old'.files.link.faults → RelayCalls old asking path body (called.Answer status text) new → RelayCalls old' asking path body (called.Answer status' text') new'
    → SameResponse status status' text text' new new'
called_once laws k told old old' new new' asking path body status status' text text' stands stands' steady steady' (inl short) again = let e = short.0 in absurd (cc)
called_once laws k told old old' new new' asking path body status status' text text' stands stands' steady steady' (inr first) (inl short) = let e = short.0 in absurd (cc)
called_once laws k told old old' new new' asking path body status status' text text' stands stands' steady steady' (inr (route, it, finds, answers, is)) (inr (route', it', finds', answers', is')) =
    let same = laws.route of_routes.Relay (method_word asking) path route' route finds' finds in
    let P : Option Route → Type 0 = λ r. RelayAnswers old' r body it' new' in
    let once = answered_once laws k told old old' new new' route body it it' stands stands' is.0 is'.0 steady steady' answers (subst P same answers') in
    record { status_is = is.1 ∙ ap answer_status once.same ∙ sym is'.1; text_is = is.2 ∙ ap answer_body once.same ∙ sym is'.2; hosts = once.hosts }

responded_once : RelayLaws → (k : RelayState) (told : FilesTold) (old old' new new' : RelayTells) (heard : Heard) (whole whole' : Bool) (status status' : ℕ) (text text' : List ℕ) → HostStands k told old → HostStands k told old'
    → new.files.link.faults ≡ old.files.link.faults → new'.files.link.faults ≡ old'.files.link.faults → Responds RelayCalls old heard whole status text new → Responds RelayCalls old' heard whole' status' text' new'
    → SameResponse status status' text text' new new'
responded_once laws k told old old' new new' (Call asking path body) whole whole' status status' text text' stands stands' steady steady' responds again =
    called_once laws k told old old' new new' asking path body status status' text text' stands stands' steady steady' responds.1 again.1
responded_once laws k told old old' new new' (Refused it) whole whole' status status' text text' stands stands' steady steady' responds again =
    record { status_is = responds.0 ∙ sym again.0; text_is = responds.1 ∙ sym again.1; hosts = stay_so k told old old' new new' responds.2 again.2 stands stands' }

-- ---- one conversation
-- what was heard was heard in what the peer says
heard_of : (left new : Option (List ℕ)) (said taken : List ℕ) (heard : Heard) (whole : Bool) → left ≡ Some said → IsHeard of_routes.Relay left new taken heard whole → (most : ℕ) × Hears of_routes.Relay said heard most
heard_of left new said taken heard whole is h =
    let S : Option (List ℕ) → Type 0 = λ o. Says o (taken ++ h.behind) in
    let says : said ≡ taken ++ h.behind = subst S is h.says in
    let P : List ℕ → Type 0 = λ b. Hears of_routes.Relay b heard h.most in
    (h.most, subst P (sym says) h.hears)

-- who says something doesn't say nothing
not_silent : (left new : Option (List ℕ)) (said taken : List ℕ) (heard : Heard) (whole : Bool) (other : Option (List ℕ)) → left ≡ Some said → other ≡ Some said → IsHeard of_routes.Relay left new taken heard whole → IsAtEnd other → ⊥
not_silent left new said taken heard whole other is is' h ends =
    let S : Option (List ℕ) → Type 0 = λ o. Says o (taken ++ h.behind) in
    let says : said ≡ taken ++ h.behind = subst S is h.says in
    let E : Option (List ℕ) → Type 0 = λ o. IsAtEnd o in
    let none : said ≡ [] = subst E is' ends in
    let count : length (taken ++ h.behind) ≡ 0 = ap (length {A = ℕ}) (sym says ∙ none) in
    let sum = length-append taken h.behind in
    let some = h.some in
    omega (arith, count, sum, some)

-- in the conversation that has begun this response was written
wrote : (old new : Option (List (List ℕ))) (before : List (List ℕ)) (response : List ℕ) → old ≡ Some ([] ∷ before) → Appends (here old) (here new) response → earlier new ≡ earlier old → new ≡ Some (response ∷ before)
wrote old None before response is puts same = let P : Option (List (List ℕ)) → Type 0 = λ o. Appends (here o) None response in absurd (subst P is puts)
wrote old (Some []) before response is puts same = let P : Option (List (List ℕ)) → Type 0 = λ o. Appends (here o) None response in absurd (subst P is puts)
wrote old (Some (present ∷ more)) before response is puts same =
    let P : Option (List (List ℕ)) → Type 0 = λ o. Appends (here o) (Some present) response in
    let Q : Option (List (List ℕ)) → Type 0 = λ o. Some more ≡ earlier o in
    let now : present ≡ response = subst P is puts in
    let left : ◌≡◌ {A = Option (List (List ℕ))} (Some more) (Some before) = subst Q is same in
    let rest : more ≡ before = cc in
    ap (λ (l : List ℕ). Some (l ∷ more)) now ∙ ap (λ (l : List (List ℕ)). Some (response ∷ l)) rest

-- both doors hold the same
abbrev pub SameWritten : DoorView → DoorView → Type 0
SameWritten one other = (written : List (List ℕ)) × (one.written ≡ Some written) × (other.written ≡ Some written)

-- what two conversations begin with and leave
pub record TalksAlike (said : List ℕ) (before : List (List ℕ)) (k : RelayState) (told : FilesTold) (door new_door : DoorView) (host new : RelayTells) (ended : Met) : Type 0 where
  pub says : door.left ≡ Some said
  pub holds : door.written ≡ Some ([] ∷ before)
  pub only : OnlyTalks door new_door
  pub stands : HostStands k told host
  pub steady : new.files.link.faults ≡ host.files.link.faults
  pub rises : door.faults < 2 ^ 64 - 1
  pub opened : new_door.faults ≡ door.faults
  pub whole : ended ≢ met.Memory
  pub talks : Converses RelayCalls of_routes.Relay door host ended new_door new

pub record SameTalk (ended ended' : Met) (new new' : RelayTells) (door door' : DoorView) : Type 0 where
  pub same : ended ≡ ended'
  pub hosts : SameHosts new new'
  pub written : SameWritten door door'

no_door : (old new : DoorView) (host host' : RelayTells) → old.faults < 2 ^ 64 - 1 → new.faults ≡ old.faults → Converses RelayCalls of_routes.Relay old host met.DoorFault new host' → ⊥
no_door old new host host' rises steady (inl (breaks, same)) = not_risen old.faults new.faults rises steady breaks.rose
no_door old new host host' rises steady (inr (status, was)) = not_risen old.faults new.faults rises steady (was.2.counts.rose refl)

pub talked_once : RelayLaws → (said : List ℕ) (before : List (List ℕ)) (k : RelayState) (told : FilesTold) (door door' new_door new_door' : DoorView) (host host' new new' : RelayTells) (ended ended' : Met)
    → TalksAlike said before k told door new_door host new ended → TalksAlike said before k told door' new_door' host' new' ended' → SameTalk ended ended' new new' new_door new_door'
talked_once laws said before k told door door' new_door new_door' host host' new new' met.DoorFault ended' a b = absurd (no_door door new_door host new a.rises a.opened a.talks)
talked_once laws said before k told door door' new_door new_door' host host' new new' met.Memory ended' a b = absurd (a.whole refl)
talked_once laws said before k told door door' new_door new_door' host host' new new' (met.Answered status) met.DoorFault a b = absurd (no_door door' new_door' host' new' b.rises b.opened b.talks)
talked_once laws said before k told door door' new_door new_door' host host' new new' (met.Answered status) met.Memory a b = absurd (b.whole refl)
talked_once laws said before k told door door' new_door new_door' host host' new new' met.Closed met.DoorFault a b = absurd (no_door door' new_door' host' new' b.rises b.opened b.talks)
talked_once laws said before k told door door' new_door new_door' host host' new new' met.Closed met.Memory a b = absurd (b.whole refl)
talked_once laws said before k told door door' new_door new_door' host host' new new' met.Closed met.Closed a b = record {
  same = refl;
  hosts = stay_so k told host host' new new' a.talks.1 b.talks.1 a.stands b.stands;
  written = ([] ∷ before, a.talks.0.written ∙ a.holds, b.talks.0.written ∙ b.holds);
}
talked_once laws said before k told door door' new_door new_door' host host' new new' (met.Answered status) met.Closed a b =
    let due = a.talks.1 in
    absurd (not_silent door.left new_door.left said due.taken due.heard due.whole door'.left a.says b.says due.is b.talks.0.unsaid)
talked_once laws said before k told door door' new_door new_door' host host' new new' met.Closed (met.Answered status) a b =
    let due = b.talks.1 in
    absurd (not_silent door'.left new_door'.left said due.taken due.heard due.whole door.left b.says a.says due.is a.talks.0.unsaid)
talked_once laws said before k told door door' new_door new_door' host host' new new' (met.Answered status) (met.Answered status') a b =
    let due = a.talks.1 in
    let due' = b.talks.1 in
    let hears = heard_of door.left new_door.left said due.taken due.heard due.whole a.says due.is in
    let hears' = heard_of door'.left new_door'.left said due'.taken due'.heard due'.whole b.says due'.is in
    let same = (laws.heard of_routes.Relay said due'.heard due.heard hears'.0 hears.0 hears'.1 hears.1).0 in
    let P : Heard → Type 0 = λ h. Responds RelayCalls host' h due'.whole status' b.talks.0 new' in
    let once = responded_once laws k told host host' new new' due.heard due.whole due'.whole status status' a.talks.0 b.talks.0 a.stands b.stands a.steady b.steady due.responds (subst P same due'.responds) in
    let response = spoken status a.talks.0 in
    let wrote_one : new_door.written ≡ Some (response ∷ before) = wrote door.written new_door.written before response a.holds a.talks.2.puts a.only.earlier in
    let wrote_other = wrote door'.written new_door'.written before (spoken status' b.talks.0) b.holds b.talks.2.puts b.only.earlier in
    let alike : spoken status a.talks.0 ≡ spoken status' b.talks.0 = ap (λ (s : ℕ). spoken s a.talks.0) once.status_is ∙ ap (λ (x : List ℕ). spoken status' x) once.text_is in
    record {
      same = ap (λ s. met.Answered s) once.status_is;
      hosts = once.hosts;
      written = (response ∷ before, wrote_one, wrote_other ∙ ap (λ (l : List ℕ). Some (l ∷ before)) (sym alike));
    }

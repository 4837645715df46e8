-- A whole round of an agent with two upstreams asks the first, and from the first exchange on that fails the second.
use Rattle.std.proofs.Common.{◌≡◌, ◌≢◌, ◌⊎◌, ◌≤◌, ℕ, Bool, true, false, List, [], ◌∷◌, ◌++◌, map, None, Some, Result, Ok, Err, inl, inr, refl, sym, ap, ◌∙◌, subst, arith, append_assoc}
use Rattle.std.specs.Prelude.{nat_lt}
use Rattle.std.specs.declared.option.Option.{Option}
use Rattle.desk_base.specs.Counts.{Rose}
use Rattle.bf_machine.specs.Told.{Grows}
use Rattle.bf_machine.proofs.Telling.{Grows-nil, Grows-trans}
use Rattle.desk_door.specs.declared.asked.Asked.{Asked}
use Rattle.desk_door.specs.declared.link.Exchanged.{Exchanged}
use Rattle.desk_door.specs.declared.link.Exchanged.TheVariants as of_exchange
use Rattle.desk_door.specs.Links.{Adds, AsksOnce, LinkView}
use Rattle.desk_door.specs.Lists.{with_last}
use Rattle.report_text.specs.declared.report.Report.{Report}
use Rattle.server_text.specs.declared.site_versions.SiteVersion.{SiteVersion}
use Rattle.desk_rounds.specs.declared.asking.Miss.{Miss}
use Rattle.desk_rounds.specs.declared.asking.Miss.TheVariants as miss
use Rattle.desk_rounds.specs.declared.part.Next.{Next}
use Rattle.desk_rounds.specs.declared.part.Next.TheVariants as next
use Rattle.desk_rounds.specs.declared.way.Upstreams.{Upstreams}
use Rattle.desk_rounds.specs.Asking.{AsksFor, Means}
use Rattle.desk_rounds.specs.Clients.{At, Client, at}
use Rattle.desk_rounds.specs.Gathering.{AsksSite, AsksWhere, GathersAll, GathersListed, GathersOne, version_at}
use Rattle.desk_rounds.specs.Lines.{Line}
use Rattle.desk_rounds.specs.Parts.{AfterItem, DoesEach, Part}
use Rattle.desk_rounds.specs.Posting.{PostsAll, PostsOne}
use Rattle.desk_rounds.specs.Replies.{JudgesReport, ListsSites, TellsSite}
use Rattle.desk_rounds.specs.Requests.{report_request, site_request, sites_request}
use Rattle.desk_rounds.specs.Ways.{Exchanges, TurnsBy, Way, way}
use Rattle.desk_runs.specs.AskedUpstreams.{asked_of}
use Rattle.desk_runs.proofs.Wanting.{keeps_memory, listed_memory, settles_memory}

-- ---- lists of what was asked
asked_more : (of : List ℕ → Asked) (xs : List (List ℕ)) (x : List ℕ) → map of (xs ++ x ∷ []) ≡ map of xs ++ of x ∷ []
asked_more of [] x = refl
asked_more of (y ∷ xs) x = ap (λ (l : List Asked). of y ∷ l) (asked_more of xs x)

one_more_told : (a : Asked) (x y : Option (List Asked)) → y ≡ with_last a x → Grows x y (a ∷ [])
one_more_told a None y same = same
one_more_told a (Some xs) y same = let To : Option (List Asked) → Type 0 = λ o. Grows (Some xs) o (a ∷ []) in subst To (sym same) refl

adds_one : (a : Asked) (x y : Option (List Asked)) (it : Exchanged) → it ≢ of_exchange.Memory → Adds a x it y → y ≡ with_last a x
adds_one a x y (of_exchange.Reply bytes) ample adds = adds
adds_one a x y of_exchange.Failed ample adds = adds
adds_one a x y of_exchange.Memory ample adds = absurd (ample refl)

-- an upstream that is open was asked one more
asks_one : (upstream request : List ℕ) (old new : LinkView) (it : Exchanged) → old.upstream ≡ Some upstream → it ≢ of_exchange.Memory → AsksOnce request old it new → Grows old.asked new.asked (asked_of upstream request ∷ [])
asks_one upstream request old new it open_at ample asks =
    let Of : Option (List ℕ) → Type 0 = λ o. Grows old.asked new.asked (record { upstream = o; request = request } ∷ []) in
    subst Of open_at (one_more_told (record { upstream = old.upstream; request = request }) old.asked new.asked (adds_one (record { upstream = old.upstream; request = request }) old.asked new.asked it ample asks.asked))

rose_later : (a b c : ℕ) → Rose a b → b ≤ c → Rose a c
rose_later a b c rose later = omega (arith, rose, later)

steady_rose : (a b c d : ℕ) → b ≡ a → Rose b c → c ≤ d → Rose a d
steady_rose a b c d same rose later = omega (arith, same, rose, later)

module _ (two : Upstreams) (old : LinkView) where
  -- the first upstream was asked all
  pub record Still (w : Way) : Type 0 where
    pub second : w.second ≡ Some two.second
    pub open_at : w.link.upstream ≡ Some two.first
    pub requests : List (List ℕ)
    pub asked : Grows old.asked w.link.asked (map (asked_of two.first) requests)
    pub steady : w.link.faults ≡ old.faults

  -- the second was turned to
  pub record Gone (w : Way) : Type 0 where
    pub second : w.second ≡ None
    pub open_at : w.link.upstream ≡ Some two.second
    pub firsts : List (List ℕ)
    pub failed : List ℕ
    pub seconds : List (List ℕ)
    pub asked : Grows old.asked w.link.asked (map (asked_of two.first) (firsts ++ failed ∷ []) ++ map (asked_of two.second) (failed ∷ seconds))
    pub rose : Rose old.faults w.link.faults

  abbrev pub Stands : Way → Type 0
  Stands w = Still w ⊎ Gone w

  -- one more request of the first upstream
  first_more : (request : List ℕ) (w : Way) (link : LinkView) (it : Exchanged) (st : Still w) → it ≢ of_exchange.Memory → AsksOnce request w.link it link
      → Grows old.asked link.asked (map (asked_of two.first) (st.requests ++ request ∷ []))
  first_more request w link it st ample asks =
      let More : List Asked → Type 0 = λ l. Grows old.asked link.asked l in
      subst More (sym (asked_more (asked_of two.first) st.requests request))
      (Grows-trans old.asked w.link.asked link.asked (map (asked_of two.first) st.requests) (asked_of two.first request ∷ []) st.asked (asks_one two.first request w.link link it st.open_at ample asks))

  stays_still : (request : List ℕ) (w w2 : Way) (bytes : List ℕ) (link : LinkView) → Still w → AsksOnce request w.link (of_exchange.Reply bytes) link → w2 ≡ way link w.second → Still w2
  stays_still request w w2 bytes link st asks same =
      let To : Way → Type 0 = λ x. Still x in
      subst To (sym same) (record {
        second = st.second;
        open_at = asks.upstream ∙ st.open_at;
        requests = st.requests ++ request ∷ [];
        asked = first_more request w link (of_exchange.Reply bytes) st (λ e. cc) asks;
        steady = asks.counts.steady (λ e. cc) ∙ st.steady;
      })

  turns_now : (request : List ℕ) (w w2 : Way) (link : LinkView) (it : Exchanged) → Still w → it ≢ of_exchange.Memory → AsksOnce request w.link of_exchange.Failed link → TurnsBy request (Some two.second) link it w2 → Gone w2
  turns_now request w w2 link it st ample asks (inl (is, same), none) = absurd (ample is)
  turns_now request w w2 link it st ample asks (inr again, none) =
      let first = first_more request w link of_exchange.Failed st (λ e. cc) asks in
      let then = asks_one two.second request (record link { upstream = Some two.second }) w2.link it refl ample again in
      record {
        second = none;
        open_at = again.upstream;
        firsts = st.requests;
        failed = request;
        seconds = [];
        asked = Grows-trans old.asked link.asked w2.link.asked (map (asked_of two.first) (st.requests ++ request ∷ [])) (asked_of two.second request ∷ []) first then;
        rose = steady_rose old.faults w.link.faults link.faults w2.link.faults st.steady (asks.counts.rose refl) again.counts.later;
      }

  -- one more request of the second upstream
  gone_on : (request : List ℕ) (w : Way) (link : LinkView) (it : Exchanged) → Gone w → it ≢ of_exchange.Memory → AsksOnce request w.link it link → Gone (way link None)
  gone_on request w link it st ample asks =
      let More : List Asked → Type 0 = λ l. Grows old.asked link.asked (map (asked_of two.first) (st.firsts ++ st.failed ∷ []) ++ l) in
      let firsts = map (asked_of two.first) (st.firsts ++ st.failed ∷ []) in
      let seconds = map (asked_of two.second) (st.failed ∷ st.seconds) in
      let All : List Asked → Type 0 = λ l. Grows old.asked link.asked l in
      let all = Grows-trans old.asked w.link.asked link.asked (firsts ++ seconds) (asked_of two.second request ∷ []) st.asked (asks_one two.second request w.link link it st.open_at ample asks) in
      record {
        second = refl;
        open_at = asks.upstream ∙ st.open_at;
        firsts = st.firsts;
        failed = st.failed;
        seconds = st.seconds ++ request ∷ [];
        asked = subst More (sym (asked_more (asked_of two.second) (st.failed ∷ st.seconds) request)) (subst All (append_assoc firsts seconds (asked_of two.second request ∷ [])) all);
        rose = rose_later old.faults w.link.faults link.faults st.rose asks.counts.later;
      }

  goes_on : (request : List ℕ) (w w2 : Way) (link : LinkView) (first it : Exchanged) → Gone w → first ≢ of_exchange.Memory → AsksOnce request w.link first link → w2 ≡ way link w.second → Gone w2
  goes_on request w w2 link first it st ample asks same =
      let To : Way → Type 0 = λ x. Gone x in
      subst To (sym (same ∙ ap (λ (o : Option (List ℕ)). way link o) st.second)) (gone_on request w link first st ample asks)

  still_exchanged : (request : List ℕ) (w w2 : Way) (it : Exchanged) → it ≢ of_exchange.Memory → Still w → Exchanges request w it w2 → Stands w2
  still_exchanged request w w2 it ample st (of_exchange.Memory, link, asks, (is, same)) = absurd (ample is)
  still_exchanged request w w2 it ample st (of_exchange.Reply bytes, link, asks, (is, same)) = inl (stays_still request w w2 bytes link st asks same)
  still_exchanged request w w2 it ample st (of_exchange.Failed, link, asks, turns) =
      let By : Option (List ℕ) → Type 0 = λ o. TurnsBy request o link it w2 in
      inr (turns_now request w w2 link it st ample asks (subst By st.second turns))

  gone_exchanged : (request : List ℕ) (w w2 : Way) (it : Exchanged) → it ≢ of_exchange.Memory → Gone w → Exchanges request w it w2 → Gone w2
  gone_exchanged request w w2 it ample st (of_exchange.Memory, link, asks, (is, same)) = absurd (ample is)
  gone_exchanged request w w2 it ample st (of_exchange.Reply bytes, link, asks, (is, same)) = goes_on request w w2 link (of_exchange.Reply bytes) it st (λ e. cc) asks same
  gone_exchanged request w w2 it ample st (of_exchange.Failed, link, asks, turns) =
      let By : Option (List ℕ) → Type 0 = λ o. TurnsBy request o link it w2 in
      let none = subst By st.second turns in
      goes_on request w w2 link of_exchange.Failed it st (λ e. cc) asks (none.1 ∙ ap (λ (o : Option (List ℕ)). way link o) (sym st.second))

  exchanged : (request : List ℕ) (w w2 : Way) (it : Exchanged) → it ≢ of_exchange.Memory → Exchanges request w it w2 → Stands w → Stands w2
  exchanged request w w2 it ample asks (inl st) = still_exchanged request w w2 it ample st asks
  exchanged request w w2 it ample asks (inr st) = inr (gone_exchanged request w w2 it ample st asks)

  pub asked_for : {V : Type 0} (request : List ℕ) (means : Means V) (w : Way) (came : Result V Miss) (w2 : Way) → came ≢ Err miss.Memory → AsksFor request means w came w2 → Stands w → Stands w2
  asked_for request means w (Ok value) w2 ample (bytes, asks, good) st = exchanged request w w2 (of_exchange.Reply bytes) (λ e. cc) asks st
  asked_for request means w (Err miss.NoAnswer) w2 ample asks st = exchanged request w w2 of_exchange.Failed (λ e. cc) asks st
  asked_for request means w (Err miss.BadAnswer) w2 ample (bytes, asks, bad) st = exchanged request w w2 (of_exchange.Reply bytes) (λ e. cc) asks st
  asked_for request means w (Err miss.Memory) w2 ample asks st = absurd (ample refl)

  -- ---- parts that don't end the round
  module _ {K : Type 0} where
    abbrev pub Keeps : Part (At K) → Type 0
    Keeps part = (from : At K) (then : Next) (lines : List Line) (new : At K) → then ≢ next.Memory → part from then lines new → Stands from.way → Stands new.way

    same_way : (from new : At K) → new ≡ from → Stands from.way → Stands new.way
    same_way from new same st = let To : At K → Type 0 = λ s. Stands s.way in subst To (sym same) st

    after_item : (one then : Next) (said lines : List Line) (rest : Part (At K)) (between new : At K) → Keeps rest → then ≢ next.Memory → AfterItem one said rest between then lines new → Stands between.way → Stands new.way
    after_item next.Item then said lines rest between new keeps ample (more, goes, is) st = keeps between then more new ample goes st
    after_item next.Part then said lines rest between new keeps ample (t, l, same) st = same_way between new same st
    after_item next.Memory then said lines rest between new keeps ample (t, l, same) st = absurd (ample t)

    item_ample : (one then : Next) (said lines : List Line) (rest : Part (At K)) (between new : At K) → then ≢ next.Memory → AfterItem one said rest between then lines new → one ≢ next.Memory
    item_ample next.Item then said lines rest between new ample after e = absurd (cc)
    item_ample next.Part then said lines rest between new ample after e = absurd (cc)
    item_ample next.Memory then said lines rest between new ample after e = ample after.0

    each_keeps : {T : Type 0} (does : T → Part (At K)) (items : List T) → ((item : T) → Keeps (does item)) → Keeps (DoesEach does items)
    each_keeps does [] keeps from then lines new ample (t, l, same) st = same_way from new same st
    each_keeps does (item ∷ items) keeps from then lines new ample (one, said, between, first, after) st =
        after_item one then said lines (DoesEach does items) between new (each_keeps does items keeps) ample after
        (keeps item from one said between (item_ample one then said lines (DoesEach does items) between new ample after) first st)

  module _ {K : Type 0} (c : Client K) where
    by_way : (between : Way) (new : At K) → new.way ≡ between → Stands between → Stands new.way
    by_way between new same st = let To : Way → Type 0 = λ w. Stands w in subst To (sym same) st

    site_keeps : (name : List ℕ) → Keeps (AsksSite c name)
    site_keeps name from then lines new ample (came, between, asks, (more, (keeps, stays), is)) st =
        by_way between new stays (asked_for (site_request name (version_at c from.client name)) (TellsSite name) from.way came between (keeps_memory c came then more from.client new.client ample keeps) asks st)

    where_keeps : (newer : Bool) (name : List ℕ) → Keeps (AsksWhere c newer name)
    where_keeps true name from then lines new ample it st = site_keeps name from then lines new ample it st
    where_keeps false name from then lines new ample (goes, same) st = same_way from new same st

    one_keeps : (site : SiteVersion) → Keeps (GathersOne c site)
    one_keeps site from then lines new ample it st = where_keeps (nat_lt (version_at c from.client site.name) site.version) site.name from then lines new ample it st

    listed_keeps : (came : Result (List SiteVersion) Miss) → Keeps (GathersListed c came)
    listed_keeps (Ok sites) from then lines new ample did st = each_keeps (GathersOne c) sites one_keeps from then lines new ample did st
    listed_keeps (Err why) from then lines new ample (by, same) st = same_way from new same st

    pub gathering_keeps : Keeps (GathersAll c)
    gathering_keeps from then lines new ample (came, between, asks, (more, listed, is)) st =
        listed_keeps came (at from.client between) then more new ample listed
        (asked_for sites_request ListsSites from.way came between (listed_memory c came then more (at from.client between) new ample listed) asks st)

    post_keeps : (report : Report) → Keeps (PostsOne c report)
    post_keeps report from then lines new ample (came, between, asks, (more, (settles, stays), is)) st =
        by_way between new stays (asked_for (report_request report) (JudgesReport c.asker) from.way came between (settles_memory c report came then more from.client new.client ample settles) asks st)

    pub posting_keeps : Keeps (PostsAll c)
    posting_keeps from then lines new ample did st = each_keeps (PostsOne c) (c.reports from.client) post_keeps from then lines new ample did st

  -- where a round begins
  pub first_stands : (link : LinkView) → link.asked ≡ old.asked → link.faults ≡ old.faults → Stands (way (record link { upstream = Some two.first }) (Some two.second))
  first_stands link asked steady =
      let From : Option (List Asked) → Type 0 = λ o. Grows old.asked o [] in
      inl (record { second = refl; open_at = refl; requests = []; asked = subst From (sym asked) (Grows-nil old.asked); steady = steady })

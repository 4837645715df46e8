-- What the rounds of relays and agents do to the link's count of faults, part by part.
use Rattle.std.proofs.Common.{◌≡◌, ◌≤◌, ℕ, ◌+◌, Bool, true, false, List, [], ◌∷◌, ◌++◌, None, Some, Result, Ok, Err, inl, inr, refl, sym, ap, ◌∙◌, subst, arith}
use Rattle.std.specs.Prelude.{is_some, nat_lt}
use Rattle.std.specs.declared.option.Option.{Option}
use Rattle.bf_machine.specs.Rises.{RoseBy}
use Rattle.bf_machine.proofs.Telling.{RoseBy-more, RoseBy-none}
use Rattle.desk_door.specs.declared.link.Exchanged.{Exchanged}
use Rattle.desk_door.specs.declared.link.Exchanged.TheVariants as of_exchange
use Rattle.desk_door.specs.Links.{LinkView}
use Rattle.fix_site.specs.declared.site.Site.{Site}
use Rattle.relay_core.specs.Relays.{RelayState}
use Rattle.report_text.specs.declared.report.Report.{Report}
use Rattle.server_text.specs.declared.site_versions.SiteVersion.{SiteVersion}
use Rattle.desk_rounds.specs.declared.asking.Miss.{Miss}
use Rattle.desk_rounds.specs.declared.asking.Miss.TheVariants as miss
use Rattle.desk_rounds.specs.declared.judged.Judged.{Judged}
use Rattle.desk_rounds.specs.declared.part.Next.{Next}
use Rattle.desk_rounds.specs.declared.part.Next.TheVariants as next
use Rattle.desk_rounds.specs.Asking.{AsksFor, Means}
use Rattle.desk_rounds.specs.Clients.{At, Client, at, relay_client}
use Rattle.desk_rounds.specs.Gathering.{AsksSite, AsksWhere, GathersAll, GathersListed, GathersOne, KeepsCame, version_at}
use Rattle.desk_rounds.specs.Lines.{Line, second_upstream, miss_lines}
use Rattle.desk_rounds.specs.Parts.{AfterItem, DoesBoth, DoesEach, MissedBy, Part}
use Rattle.desk_rounds.specs.Posting.{PostsAll, PostsOne, SettlesCame}
use Rattle.desk_rounds.specs.RelayRounds.{RelayRound}
use Rattle.desk_rounds.specs.Replies.{JudgesReport, ListsSites, TellsSite}
use Rattle.desk_rounds.specs.Requests.{report_request, site_request, sites_request}
use Rattle.desk_rounds.specs.Ways.{Exchanges, TurnsBy, TurnsTo, Way, switched, switched_now, way}
use Rattle.desk_runs.specs.Counting.{machine_fault_told, no_answer_told, told_in}

pub told_append : (told : Line → ℕ) (xs ys : List Line) → told_in told (xs ++ ys) ≡ told_in told xs + told_in told ys
told_append told [] ys = omega arith
told_append told (x ∷ xs) ys = let more = told_append told xs ys in omega (arith, more)

-- a count that rose by more rose by less
pub fewer : (m n a b : ℕ) → m ≤ n → RoseBy n a b → RoseBy m a b
fewer m n a b p q = grind arith

-- ---- items and parts
-- nothing is told where there is no line
none_told : (told : Line → ℕ) (lines : List Line) (a b : ℕ) → lines ≡ [] → RoseBy 0 a b → RoseBy (told_in told lines) a b
none_told told lines a b none rose = let e = ap (told_in told) none in fewer (told_in told lines) 0 a b (omega (arith, e)) rose

module _ (told : Line → ℕ) {S : Type 0} (count : S → ℕ) where
  -- the count rose by as many as the lines tell
  abbrev pub Counts : Part S → Type 0
  Counts part = (old : S) (then : Next) (lines : List Line) (new : S) → part old then lines new → RoseBy (told_in told lines) (count old) (count new)

  ended_here : (said lines : List Line) (old between new : S) → lines ≡ said → new ≡ between → RoseBy (told_in told said) (count old) (count between)
      → RoseBy (told_in told lines) (count old) (count new)
  ended_here said lines old between new is same rose =
      let Rose1 : List Line → Type 0 = λ l. RoseBy (told_in told l) (count old) (count between) in
      let Rose2 : S → Type 0 = λ s. RoseBy (told_in told lines) (count old) (count s) in
      subst Rose2 (sym same) (subst Rose1 (sym is) rose)

  both_told : (said more lines : List Line) (a b c : ℕ) → lines ≡ said ++ more → RoseBy (told_in told said) a b → RoseBy (told_in told more) b c
      → RoseBy (told_in told lines) a c
  both_told said more lines a b c is p q =
      let e = ap (told_in told) is ∙ told_append told said more in
      fewer (told_in told lines) (told_in told said + told_in told more) a c (omega (arith, e)) (RoseBy-more (told_in told said) (told_in told more) a b c p q)

  after_item : (one : Next) (said : List Line) (rest : Part S) (old between : S) (then : Next) (lines : List Line) (new : S) → Counts rest
      → RoseBy (told_in told said) (count old) (count between) → AfterItem one said rest between then lines new → RoseBy (told_in told lines) (count old) (count new)
  after_item next.Item said rest old between then lines new counts rose (more, goes, is) =
      both_told said more lines (count old) (count between) (count new) is rose (counts between then more new goes)
  after_item next.Part said rest old between then lines new counts rose after = ended_here said lines old between new after.1 after.2 rose
  after_item next.Memory said rest old between then lines new counts rose after = ended_here said lines old between new after.1 after.2 rose

  pub does_each : {T : Type 0} (does : T → Part S) (items : List T) → ((item : T) → Counts (does item)) → Counts (DoesEach does items)
  does_each does [] each old then lines new it =
      let Rose1 : S → Type 0 = λ s. RoseBy (told_in told lines) (count old) (count s) in
      subst Rose1 (sym it.2) (none_told told lines (count old) (count old) it.1 (RoseBy-none (count old) (count old) (omega arith)))
  does_each does (item ∷ items) each old then lines new (one, said, between, first, after) =
      after_item one said (DoesEach does items) old between then lines new (does_each does items each) (each item old one said between first) after

  pub does_both : (First Second : Part S) → Counts First → Counts Second → Counts (DoesBoth First Second)
  does_both First Second f s old then lines new (next.Item, said, between, first, (more, goes, is)) =
      both_told said more lines (count old) (count between) (count new) is (f old next.Item said between first) (s between then more new goes)
  does_both First Second f s old then lines new (next.Part, said, between, first, (more, goes, is)) =
      both_told said more lines (count old) (count between) (count new) is (f old next.Part said between first) (s between then more new goes)
  does_both First Second f s old then lines new (next.Memory, said, between, first, after) =
      ended_here said lines old between new after.1 after.2 (f old next.Memory said between first)

-- ---- requests
-- what is told of a request of which nothing came
abbrev pub missed_of : {V : Type 0} → (Miss → ℕ) → Result V Miss → ℕ
missed_of miss (Ok value) = 0
missed_of miss (Err why) = miss why

-- what lines tell of a request, and a count of a link that rises by at least as much: by the line of the second upstream, where that was
-- turned to, and by what is told where nothing came
abbrev pub RaisesBy : (Line → ℕ) → (LinkView → ℕ) → (Miss → ℕ) → Type 1
RaisesBy told count miss =
    (V : Type 0) (request : List ℕ) (means : Means V) (old : Way) (came : Result V Miss) (new : Way) → AsksFor request means old came new
    → RoseBy (told_in told (switched old new) + missed_of miss came) (count old.link) (count new.link)

abbrev pub of_link : {K : Type 0} → (LinkView → ℕ) → At K → ℕ
of_link count s = count s.way.link

-- ---- the parts of a round, by what a line tells, by what a request of which nothing came tells, and by a count of the link
module _ (told : Line → ℕ) (miss : Miss → ℕ) (count : LinkView → ℕ) (says : (why : Miss) → told_in told (miss_lines why) ≤ miss why) (raises : RaisesBy told count miss) {K : Type 0} (c : Client K) where
  missed_told : (why : Miss) (then : Next) (lines : List Line) → MissedBy why then lines → told_in told lines ≤ miss why
  missed_told why then lines (inl (is, said)) = let e = ap (told_in told) said in let few = says why in omega (arith, e, few)
  missed_told why then lines (inr (is, none)) = let e = ap (told_in told) none in omega (arith, e)

  same_count : (old new : LinkView) → new ≡ old → RoseBy 0 (count old) (count new)
  same_count old new same = let e = ap count same in RoseBy-none (count old) (count new) (omega (arith, e))

  -- what was said before these lines is told too
  said_told : (said more lines : List Line) (most a b : ℕ) → lines ≡ said ++ more → told_in told more ≤ most → RoseBy (told_in told said + most) a b → RoseBy (told_in told lines) a b
  said_told said more lines most a b is few rose =
      let e = ap (told_in told) is ∙ told_append told said more in
      fewer (told_in told lines) (told_in told said + most) a b (omega (arith, e, few)) rose

  keeps_told : (came : Result (Option Site) Miss) (old : K) (then : Next) (lines : List Line) (new : K) → KeepsCame c came old then lines new
      → told_in told lines ≤ missed_of miss came
  keeps_told (Ok (Some site)) old then lines new (answer, keeps, goes) = let e = ap (told_in told) goes.quiet in omega (arith, e)
  keeps_told (Ok None) old then lines new (goes, same) = let e = ap (told_in told) goes.quiet in omega (arith, e)
  keeps_told (Err why) old then lines new (by, same) = missed_told why then lines by

  asks_site : (name : List ℕ) → Counts told (of_link count) (AsksSite c name)
  asks_site name old then lines new (came, between, asks, (more, (keeps, stays), is)) =
      let To : Way → Type 0 = λ w. RoseBy (told_in told lines) (count old.way.link) (count w.link) in
      subst To (sym stays) (said_told (switched old.way between) more lines (missed_of miss came) (count old.way.link) (count between.link) is
      (keeps_told came old.client then more new.client keeps)
      (raises (Option Site) (site_request name (version_at c old.client name)) (TellsSite name) old.way came between asks))

  asks_where : (newer : Bool) (name : List ℕ) → Counts told (of_link count) (AsksWhere c newer name)
  asks_where true name old then lines new it = asks_site name old then lines new it
  asks_where false name old then lines new (goes, same) =
      none_told told lines (count old.way.link) (count new.way.link) goes.quiet (same_count old.way.link new.way.link (ap (λ (s : At K). s.way.link) same))

  pub gathers_one : (site : SiteVersion) → Counts told (of_link count) (GathersOne c site)
  gathers_one site old then lines new it = asks_where (nat_lt (version_at c old.client site.name) site.version) site.name old then lines new it

  -- behind what was told of asking which there are
  gathers_listed : (n : ℕ) (came : Result (List SiteVersion) Miss) (between : Way) (old : At K) (then : Next) (lines : List Line) (new : At K)
      → RoseBy (n + missed_of miss came) (count old.way.link) (count between.link) → GathersListed c came (at old.client between) then lines new
      → RoseBy (n + told_in told lines) (count old.way.link) (count new.way.link)
  gathers_listed n (Ok sites) between old then lines new rose goes =
      let listed = does_each told (of_link count) (GathersOne c) sites gathers_one (at old.client between) then lines new goes in
      fewer (n + told_in told lines) ((n + 0) + told_in told lines) (count old.way.link) (count new.way.link) (omega arith)
      (RoseBy-more (n + 0) (told_in told lines) (count old.way.link) (count between.link) (count new.way.link) rose listed)
  gathers_listed n (Err why) between old then lines new rose (by, same) =
      let Rose1 : At K → Type 0 = λ s. RoseBy (n + told_in told lines) (count old.way.link) (count s.way.link) in
      let few = missed_told why then lines by in
      subst Rose1 (sym same) (fewer (n + told_in told lines) (n + miss why) (count old.way.link) (count between.link) (omega (arith, few)) rose)

  pub gathers_all : Counts told (of_link count) (GathersAll c)
  gathers_all old then lines new (came, between, asks, (more, listed, is)) =
      let said = switched old.way between in
      let e = ap (told_in told) is ∙ told_append told said more in
      fewer (told_in told lines) (told_in told said + told_in told more) (count old.way.link) (count new.way.link) (omega (arith, e))
      (gathers_listed (told_in told said) came between old then more new (raises (List SiteVersion) sites_request ListsSites old.way came between asks) listed)

  settles_told : (report : Report) (came : Result Judged Miss) (old : K) (then : Next) (lines : List Line) (new : K) → SettlesCame c report came old then lines new
      → told_in told lines ≤ missed_of miss came
  settles_told report (Ok judged) old then lines new (inl (goes, settles)) = let e = ap (told_in told) goes.quiet in omega (arith, e)
  settles_told report (Ok judged) old then lines new (inr (goes, same)) = let e = ap (told_in told) goes.quiet in omega (arith, e)
  settles_told report (Err why) old then lines new (by, same) = missed_told why then lines by

  pub posts_one : (report : Report) → Counts told (of_link count) (PostsOne c report)
  posts_one report old then lines new (came, between, asks, (more, (settles, stays), is)) =
      let To : Way → Type 0 = λ w. RoseBy (told_in told lines) (count old.way.link) (count w.link) in
      subst To (sym stays) (said_told (switched old.way between) more lines (missed_of miss came) (count old.way.link) (count between.link) is
      (settles_told report came old.client then more new.client settles)
      (raises Judged (report_request report) (JudgesReport c.asker) old.way came between asks))

  pub posts_all : Counts told (of_link count) (PostsAll c)
  posts_all old then lines new it = does_each told (of_link count) (PostsOne c) (c.reports old.client) posts_one old then lines new it

-- ---- exchanges that failed
-- how many lines say so
abbrev pub unanswered : List Line → ℕ
unanswered lines = told_in no_answer_told lines

abbrev pub missed_one : Miss → ℕ
missed_one miss.NoAnswer = 1
missed_one miss.BadAnswer = 0
missed_one miss.Memory = 0

abbrev pub fault_count : LinkView → ℕ
fault_count link = link.faults

pub miss_told : (why : Miss) → unanswered (miss_lines why) ≤ missed_one why
miss_told miss.NoAnswer = omega arith
miss_told miss.BadAnswer = omega arith
miss_told miss.Memory = omega arith

abbrev failed_of : Exchanged → ℕ
failed_of of_exchange.Failed = 1
failed_of of_exchange.Memory = 0
failed_of (of_exchange.Reply bytes) = 0

-- the second upstream was asked, after an exchange that failed
second_rose : (request second : List ℕ) (a : ℕ) (link new : LinkView) (it : Exchanged) → RoseBy 1 a link.faults → TurnsTo request second link it new → RoseBy (1 + failed_of it) a new.faults
second_rose request second a link new it rose (inl (is, same)) =
    let It : Exchanged → Type 0 = λ i. RoseBy (1 + failed_of i) a new.faults in
    let Link : LinkView → Type 0 = λ l. RoseBy (1 + 0) a l.faults in
    subst It (sym is) (subst Link (sym same) (fewer (1 + 0) 1 a link.faults (omega arith) rose))
second_rose request second a link new of_exchange.Failed rose (inr asks) = RoseBy-more 1 1 a link.faults new.faults rose (asks.counts.rose refl)
second_rose request second a link new of_exchange.Memory rose (inr asks) = RoseBy-more 1 0 a link.faults new.faults rose (RoseBy-none link.faults new.faults asks.counts.later)
second_rose request second a link new (of_exchange.Reply bytes) rose (inr asks) = RoseBy-more 1 0 a link.faults new.faults rose (RoseBy-none link.faults new.faults asks.counts.later)

turned_rose : (request : List ℕ) (o : Option (List ℕ)) (a : ℕ) (link : LinkView) (it : Exchanged) (new : Way) → RoseBy 1 a link.faults → TurnsBy request o link it new
    → RoseBy (unanswered (switched_now (is_some o) new.second) + failed_of it) a new.link.faults
turned_rose request None a link it new rose (is, same) =
    let It : Exchanged → Type 0 = λ i. RoseBy (0 + failed_of i) a link.faults in
    let To : Way → Type 0 = λ w. RoseBy (unanswered (switched_now false w.second) + failed_of it) a w.link.faults in
    subst To (sym same) (subst It (sym is) (fewer (0 + 1) 1 a link.faults (omega arith) rose))
turned_rose request (Some second) a link it new rose (turns, none) =
    let To : Option (List ℕ) → Type 0 = λ o. RoseBy (unanswered (switched_now true o) + failed_of it) a new.link.faults in
    let both = second_rose request second a link new.link it rose turns in
    subst To (sym none) (fewer ((1 + 0) + failed_of it) (1 + failed_of it) a new.link.faults (omega arith) both)

-- nothing is said where the second upstream stays what it was
pub none_switched : (o : Option (List ℕ)) → unanswered (switched_now (is_some o) o) ≡ 0
none_switched None = refl
none_switched (Some second) = refl

stayed_rose : (o : Option (List ℕ)) (a : ℕ) (link : LinkView) (first it : Exchanged) (new : Way) → failed_of first ≡ 0 → RoseBy 0 a link.faults → it ≡ first → new ≡ way link o
    → RoseBy (unanswered (switched_now (is_some o) new.second) + failed_of it) a new.link.faults
stayed_rose o a link first it new none rose is same =
    let To : Way → Type 0 = λ w. RoseBy (unanswered (switched_now (is_some o) w.second) + failed_of it) a w.link.faults in
    let quiet = none_switched o in
    let e = ap failed_of is ∙ none in
    subst To (sym same) (fewer (unanswered (switched_now (is_some o) o) + failed_of it) 0 a link.faults (omega (arith, quiet, e)) rose)

exchange_rose : (request : List ℕ) (old new : Way) (it : Exchanged) → Exchanges request old it new → RoseBy (unanswered (switched old new) + failed_of it) old.link.faults new.link.faults
exchange_rose request old new it (of_exchange.Failed, link, asks, turns) = turned_rose request old.second old.link.faults link it new (asks.counts.rose refl) turns
exchange_rose request old new it (of_exchange.Memory, link, asks, (is, same)) =
    stayed_rose old.second old.link.faults link of_exchange.Memory it new refl (RoseBy-none old.link.faults link.faults asks.counts.later) is same
exchange_rose request old new it (of_exchange.Reply bytes, link, asks, (is, same)) =
    stayed_rose old.second old.link.faults link (of_exchange.Reply bytes) it new refl (RoseBy-none old.link.faults link.faults asks.counts.later) is same

pub asked_counts : RaisesBy no_answer_told fault_count missed_one
asked_counts V request means old (Ok value) new (bytes, asks, good) = exchange_rose request old new (of_exchange.Reply bytes) asks
asked_counts V request means old (Err miss.NoAnswer) new asks = exchange_rose request old new of_exchange.Failed asks
asked_counts V request means old (Err miss.BadAnswer) new (bytes, asks, bad) = exchange_rose request old new (of_exchange.Reply bytes) asks
asked_counts V request means old (Err miss.Memory) new (inl (answer, asks)) =
    fewer (unanswered (switched old new) + 0) (unanswered (switched old new) + failed_of answer) old.link.faults new.link.faults (omega arith) (exchange_rose request old new answer asks)
asked_counts V request means old (Err miss.Memory) new (inr same) =
    let To : Way → Type 0 = λ w. RoseBy (unanswered (switched old w) + 0) old.link.faults w.link.faults in
    let quiet = none_switched old.second in
    subst To (sym same) (RoseBy-none-of (unanswered (switched old old) + 0) old.link.faults (omega (arith, quiet)))
  where
    RoseBy-none-of : (n a : ℕ) → n ≡ 0 → RoseBy n a a
    RoseBy-none-of n a none = fewer n 0 a a (omega (arith, none)) (RoseBy-none a a (omega arith))

module _ {K : Type 0} (c : Client K) where
  pub gathering_counts : Counts no_answer_told (of_link fault_count) (GathersAll c)
  gathering_counts = gathers_all no_answer_told missed_one fault_count miss_told asked_counts c

  pub posting_counts : Counts no_answer_told (of_link fault_count) (PostsAll c)
  posting_counts = posts_all no_answer_told missed_one fault_count miss_told asked_counts c

-- an upstream round of a relay
pub relay_round_counts : Counts no_answer_told (of_link fault_count) RelayRound
relay_round_counts old then lines new (last, does, is) =
    let Rose1 : At RelayState → Type 0 = λ s. RoseBy (unanswered lines) old.way.link.faults s.way.link.faults in
    subst Rose1 (sym is) (does_both no_answer_told (of_link fault_count) (GathersAll relay_client) (PostsAll relay_client) (gathering_counts relay_client) (posting_counts relay_client) old then lines last does)

-- ---- looks that failed before an attempt began
-- no line of these parts says so
abbrev pub no_one : Miss → ℕ
no_one why = 0

abbrev pub no_count : LinkView → ℕ
no_count link = 0

miss_quiet : (why : Miss) → told_in machine_fault_told (miss_lines why) ≤ no_one why
miss_quiet miss.NoAnswer = omega arith
miss_quiet miss.BadAnswer = omega arith
miss_quiet miss.Memory = omega arith

module _ (told : Line → ℕ) (silent : told second_upstream ≡ 0) where
  pub switched_silent : (before : Bool) (o : Option (List ℕ)) → told_in told (switched_now before o) ≡ 0
  switched_silent true None = omega (arith, silent)
  switched_silent true (Some second) = refl
  switched_silent false o = refl

  pub asked_silent : RaisesBy told no_count no_one
  asked_silent V request means old (Ok value) new asks =
      let e = switched_silent (is_some old.second) new.second in
      fewer (told_in told (switched old new) + 0) 0 0 0 (omega (arith, e)) (RoseBy-none 0 0 (omega arith))
  asked_silent V request means old (Err why) new asks =
      let e = switched_silent (is_some old.second) new.second in
      fewer (told_in told (switched old new) + 0) 0 0 0 (omega (arith, e)) (RoseBy-none 0 0 (omega arith))

pub asked_quiet : RaisesBy machine_fault_told no_count no_one
asked_quiet = asked_silent machine_fault_told refl

pub none_rises : (n : ℕ) → RoseBy n 0 0 → n ≡ 0
none_rises n rose = grind arith

module _ {K : Type 0} (c : Client K) where
  pub gathering_quiet : Counts machine_fault_told (of_link no_count) (GathersAll c)
  gathering_quiet = gathers_all machine_fault_told no_one no_count miss_quiet asked_quiet c

  pub posting_quiet : Counts machine_fault_told (of_link no_count) (PostsAll c)
  posting_quiet = posts_all machine_fault_told no_one no_count miss_quiet asked_quiet c

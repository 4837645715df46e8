-- The parts of a round are one thing, where links tell one thing and don't fail, and memory suffices.
use Rattle.std.proofs.Common.{◌≡◌, ◌≢◌, ◌≤◌, ℕ, Bool, true, false, List, [], ◌∷◌, ◌++◌, None, Some, Result, Ok, Err, inl, inr, refl, sym, ap, ap₂, ◌∙◌, subst, arith}
use Rattle.std.specs.Prelude.{nat_lt, ⊤}
use Rattle.std.specs.declared.option.Option.{Option}
use Rattle.bf_machine.proofs.Telling.{later-RoseBy}
use Rattle.fix_site.specs.Sites.{IsSite}
use Rattle.fix_site.specs.declared.site.Site.{Site}
use Rattle.report_text.specs.declared.answer.Gathered.{Gathered}
use Rattle.report_text.specs.declared.answer.Gathered.TheVariants as gathered
use Rattle.report_text.specs.declared.report.Report.{Report}
use Rattle.server_text.specs.declared.site_versions.SiteVersion.{SiteVersion}
use Rattle.desk_rounds.specs.declared.asking.Miss.{Miss}
use Rattle.desk_rounds.specs.declared.judged.Judged.{Judged}
use Rattle.desk_rounds.specs.declared.part.Next.{Next}
use Rattle.desk_rounds.specs.declared.part.Next.TheVariants as next
use Rattle.desk_rounds.specs.Asking.{AsksFor}
use Rattle.desk_rounds.specs.Clients.{At, Client, at}
use Rattle.desk_rounds.specs.Gathering.{AsksSite, AsksWhere, GathersAll, GathersListed, GathersOne, KeepsCame, next_kept, version_at}
use Rattle.desk_rounds.specs.Lines.{Line, miss_lines}
use Rattle.desk_rounds.specs.Parts.{AfterItem, AfterPart, DoesBoth, DoesEach, GoesTo, MissedBy, Part, next_after}
use Rattle.desk_rounds.specs.Posting.{PostsAll, PostsOne, SettlesCame}
use Rattle.desk_rounds.specs.Replies.{JudgesReport, ListsSites, TellsSite}
use Rattle.desk_rounds.specs.Requests.{report_request, site_request, sites_request}
use Rattle.desk_rounds.specs.Ways.{Way, switched}
use Rattle.desk_runs.specs.Counting.{no_answer_told}
use Rattle.desk_runs.specs.OneExchanges.{LinkTold, TellsLink}
use Rattle.desk_runs.proofs.CountingRounds.{Counts, asked_counts, does_each, fault_count, gathers_one, miss_told, missed_one, of_link, posts_one, unanswered}
use Rattle.desk_runs.proofs.OneExchanges.{OneReply, asked_once, unswitched}
use Rattle.desk_runs.proofs.OneReplies.{OneSite, one_judged, one_list, one_site_told}
use Rattle.desk_runs.proofs.Wanting.{keeps_memory, listed_memory, settles_memory}

-- the laws that this stands on
pub record RoundLaws : Type 0 where
  pub reply : OneReply
  pub site : OneSite

-- a client whose sites and reports change in one way, and what holds of what it keeps
pub record OneClient {K : Type 0} (c : Client K) (Good : K → Type 0) : Type 0 where
  pub keeps : (old new other : K) (site : Site) (answer otherwise : Gathered) → Good old → c.keeps old site answer new → c.keeps old site otherwise other → answer ≢ gathered.Memory → otherwise ≢ gathered.Memory
      → (answer ≡ otherwise) × (new ≡ other)
  pub kept : (old new : K) (site : Site) (answer : Gathered) → Good old → IsSite site → c.keeps old site answer new → Good new
  pub settles : (old new other : K) (report : Report) (said : Judged) → c.settles old report said new → c.settles old report said other → new ≡ other
  pub settled : (old new : K) (report : Report) (said : Judged) → Good old → c.settles old report said new → Good new

module _ {K : Type 0} (Good : K → Type 0) where
  -- the client is this one, and its link tells this
  pub record Stands (k : K) (told : LinkTold) (s : At K) : Type 0 where
    pub client : s.client ≡ k
    pub good : Good k
    pub link : TellsLink told s.way.link

  -- what two parts come to that are one
  pub record Same (then then' : Next) (lines lines' : List Line) (new new' : At K) : Type 0 where
    pub then_is : then ≡ then'
    pub lines_are : lines ≡ lines'
    pub k : K
    pub told : LinkTold
    pub one : Stands k told new
    pub other : Stands k told new'

  abbrev pub IsOne : Part (At K) → Type 0
  IsOne part = (k : K) (told : LinkTold) (old old' : At K) (then then' : Next) (lines lines' : List Line) (new new' : At K) → Stands k told old → Stands k told old' → then ≢ next.Memory → then' ≢ next.Memory
      → new.way.link.faults ≡ old.way.link.faults → new'.way.link.faults ≡ old'.way.link.faults → part old then lines new → part old' then' lines' new' → Same then then' lines lines' new new'

  -- a link's count that rises by what lines tell
  abbrev pub Rises : Part (At K) → Type 0
  Rises part = Counts no_answer_told (of_link fault_count) part

  later : (part : Part (At K)) (old : At K) (then : Next) (lines : List Line) (new : At K) → Rises part → part old then lines new → old.way.link.faults ≤ new.way.link.faults
  later part old then lines new rises did = later-RoseBy (unanswered lines) old.way.link.faults new.way.link.faults (rises old then lines new did)

  stays : (k : K) (told : LinkTold) (old new : At K) → new ≡ old → Stands k told old → Stands k told new
  stays k told old new same stands = let P : At K → Type 0 = λ s. Stands k told s in subst P (sym same) stands

  -- the same, and nothing was done
  none_done : (wanted then then' : Next) (lines lines' : List Line) (k : K) (told : LinkTold) (old old' new new' : At K) → GoesTo wanted then lines → GoesTo wanted then' lines' → new ≡ old → new' ≡ old'
      → Stands k told old → Stands k told old' → Same then then' lines lines' new new'
  none_done wanted then then' lines lines' k told old old' new new' goes goes' same same' stands stands' = record {
    then_is = goes.then_is ∙ sym goes'.then_is;
    lines_are = goes.quiet ∙ sym goes'.quiet;
    k = k;
    told = told;
    one = stays k told old new same stands;
    other = stays k told old' new' same' stands';
  }

  ended_here : (one one' then then' : Next) (said said' lines lines' : List Line) (between between' new new' : At K) → then ≡ one → then' ≡ one' → lines ≡ said → lines' ≡ said' → new ≡ between → new' ≡ between'
      → Same one one' said said' between between' → Same then then' lines lines' new new'
  ended_here one one' then then' said said' lines lines' between between' new new' t t' l l' s s' same = record {
    then_is = t ∙ same.then_is ∙ sym t';
    lines_are = l ∙ same.lines_are ∙ sym l';
    k = same.k;
    told = same.told;
    one = stays same.k same.told between new s same.one;
    other = stays same.k same.told between' new' s' same.other;
  }

  -- two stretches, one after another
  joined : (one one' then then' : Next) (said said' more more' lines lines' : List Line) (between between' new new' : At K) → lines ≡ said ++ more → lines' ≡ said' ++ more'
      → Same one one' said said' between between' → Same then then' more more' new new' → Same then then' lines lines' new new'
  joined one one' then then' said said' more more' lines lines' between between' new new' l l' first second = record {
    then_is = second.then_is;
    lines_are = l ∙ ap₂ ◌++◌ first.lines_are second.lines_are ∙ sym l';
    k = second.k;
    told = second.told;
    one = second.one;
    other = second.other;
  }

  -- ---- items
  item_memory : (one then : Next) (said lines : List Line) (rest : Part (At K)) (between new : At K) → then ≢ next.Memory → AfterItem one said rest between then lines new → one ≢ next.Memory
  item_memory next.Item then said lines rest between new ample after e = absurd (cc)
  item_memory next.Part then said lines rest between new ample after e = absurd (cc)
  item_memory next.Memory then said lines rest between new ample after e = ample after.0

  -- what comes after an item doesn't lower the count
  item_later : (one then : Next) (said lines : List Line) (rest : Part (At K)) (between new : At K) → Rises rest → AfterItem one said rest between then lines new → between.way.link.faults ≤ new.way.link.faults
  item_later next.Item then said lines rest between new rises (more, goes, is) = later rest between then more new rises goes
  item_later next.Part then said lines rest between new rises after = let e = ap (λ (s : At K). s.way.link.faults) after.2 in omega (arith, e)
  item_later next.Memory then said lines rest between new rises after = let e = ap (λ (s : At K). s.way.link.faults) after.2 in omega (arith, e)

  after_once : (one one' then then' : Next) (said said' lines lines' : List Line) (rest : Part (At K)) (between between' new new' : At K) → IsOne rest → then ≢ next.Memory → then' ≢ next.Memory
      → new.way.link.faults ≡ between.way.link.faults → new'.way.link.faults ≡ between'.way.link.faults → AfterItem one said rest between then lines new → AfterItem one' said' rest between' then' lines' new'
      → Same one one' said said' between between' → Same then then' lines lines' new new'
  after_once next.Item next.Item then then' said said' lines lines' rest between between' new new' is_one ample ample' steady steady' (more, goes, is) (more', goes', is') first =
      joined next.Item next.Item then then' said said' more more' lines lines' between between' new new' is is' first
      (is_one first.k first.told between between' then then' more more' new new' first.one first.other ample ample' steady steady' goes goes')
  after_once next.Part next.Part then then' said said' lines lines' rest between between' new new' is_one ample ample' steady steady' (t, l, s) (t', l', s') first =
      ended_here next.Part next.Part then then' said said' lines lines' between between' new new' t t' l l' s s' first
  after_once next.Item next.Part then then' said said' lines lines' rest between between' new new' is_one ample ample' steady steady' after after' first = let e = first.then_is in absurd (cc)
  after_once next.Part next.Item then then' said said' lines lines' rest between between' new new' is_one ample ample' steady steady' after after' first = let e = first.then_is in absurd (cc)
  after_once next.Memory one' then then' said said' lines lines' rest between between' new new' is_one ample ample' steady steady' (t, l, s) after' first = absurd (ample t)
  after_once next.Item next.Memory then then' said said' lines lines' rest between between' new new' is_one ample ample' steady steady' after (t', l', s') first = absurd (ample' t')
  after_once next.Part next.Memory then then' said said' lines lines' rest between between' new new' is_one ample ample' steady steady' after (t', l', s') first = absurd (ample' t')

  between_steady : (a b c : ℕ) → a ≤ b → b ≤ c → c ≡ a → (b ≡ a) × (c ≡ b)
  between_steady a b c p q same = (omega (arith, p, q, same), omega (arith, p, q, same))

  pub each_once : {T : Type 0} (does : T → Part (At K)) (items : List T) → ((item : T) → IsOne (does item)) → ((item : T) → Rises (does item)) → IsOne (DoesEach does items)
  each_once does [] ones rises k told old old' then then' lines lines' new new' stands stands' ample ample' steady steady' (t, l, s) (t', l', s') =
      none_done next.Item then then' lines lines' k told old old' new new' (record { then_is = t; quiet = l }) (record { then_is = t'; quiet = l' }) s s' stands stands'
  each_once does (item ∷ items) ones rises k told old old' then then' lines lines' new new' stands stands' ample ample' steady steady' (one, said, between, first, after) (one', said', between', first', after') =
      let rest = DoesEach does items in
      let rest_rises : Rises rest = does_each no_answer_told (of_link fault_count) does items rises in
      let split = between_steady old.way.link.faults between.way.link.faults new.way.link.faults (later (does item) old one said between (rises item) first) (item_later one then said lines rest between new rest_rises after) steady in
      let split' = between_steady old'.way.link.faults between'.way.link.faults new'.way.link.faults (later (does item) old' one' said' between' (rises item) first') (item_later one' then' said' lines' rest between' new' rest_rises after') steady' in
      let same = ones item k told old old' one one' said said' between between' stands stands' (item_memory one then said lines rest between new ample after) (item_memory one' then' said' lines' rest between' new' ample' after')
      split.0 split'.0 first first' in
      after_once one one' then then' said said' lines lines' rest between between' new new' (each_once does items ones rises) ample ample' split.1 split'.1 after after' same

  -- ---- parts
  part_later : (one then : Next) (said lines : List Line) (rest : Part (At K)) (between new : At K) → Rises rest → AfterPart one said rest between then lines new → between.way.link.faults ≤ new.way.link.faults
  part_later next.Item then said lines rest between new rises (more, goes, is) = later rest between then more new rises goes
  part_later next.Part then said lines rest between new rises (more, goes, is) = later rest between then more new rises goes
  part_later next.Memory then said lines rest between new rises after = let e = ap (λ (s : At K). s.way.link.faults) after.2 in omega (arith, e)

  part_memory : (one then : Next) (said lines : List Line) (rest : Part (At K)) (between new : At K) → then ≢ next.Memory → AfterPart one said rest between then lines new → one ≢ next.Memory
  part_memory next.Item then said lines rest between new ample after e = absurd (cc)
  part_memory next.Part then said lines rest between new ample after e = absurd (cc)
  part_memory next.Memory then said lines rest between new ample after e = ample after.0

  -- behind a part that is whole the next one is done
  record Rest (said : List Line) (rest : Part (At K)) (between : At K) (then : Next) (lines : List Line) (new : At K) : Type 0 where
    more : List Line
    goes : rest between then more new
    is : lines ≡ said ++ more

  part_rest : (one then : Next) (said lines : List Line) (rest : Part (At K)) (between new : At K) → one ≢ next.Memory → AfterPart one said rest between then lines new → Rest said rest between then lines new
  part_rest next.Item then said lines rest between new whole (more, goes, is) = record { more = more; goes = goes; is = is }
  part_rest next.Part then said lines rest between new whole (more, goes, is) = record { more = more; goes = goes; is = is }
  part_rest next.Memory then said lines rest between new whole after = absurd (whole refl)

  pub both_once : (First Second : Part (At K)) → IsOne First → IsOne Second → Rises First → Rises Second → IsOne (DoesBoth First Second)
  both_once First Second first_one second_one first_rises second_rises k told old old' then then' lines lines' new new' stands stands' ample ample' steady steady' (one, said, between, first, after) (one', said', between', first', after') =
      let split = between_steady old.way.link.faults between.way.link.faults new.way.link.faults (later First old one said between first_rises first) (part_later one then said lines Second between new second_rises after) steady in
      let split' = between_steady old'.way.link.faults between'.way.link.faults new'.way.link.faults (later First old' one' said' between' first_rises first') (part_later one' then' said' lines' Second between' new' second_rises after') steady' in
      let whole = part_memory one then said lines Second between new ample after in
      let whole' = part_memory one' then' said' lines' Second between' new' ample' after' in
      let rest = part_rest one then said lines Second between new whole after in
      let rest' = part_rest one' then' said' lines' Second between' new' whole' after' in
      let same = first_one k told old old' one one' said said' between between' stands stands' whole whole' split.0 split'.0 first first' in
      joined one one' then then' said said' rest.more rest'.more lines lines' between between' new new' rest.is rest'.is same
      (second_one same.k same.told between between' then then' rest.more rest'.more new new' same.one same.other ample ample' split.1 split'.1 rest.goes rest'.goes)

-- ---- requests of which nothing came
missed_then : (why : Miss) (then : Next) (lines : List Line) → then ≢ next.Memory → MissedBy why then lines → then ≡ next_after why
missed_then why then lines ample (inl (is, said)) = is
missed_then why then lines ample (inr (is, none)) = absurd (ample is)

missed_lines : (why : Miss) (then : Next) (lines : List Line) → then ≢ next.Memory → MissedBy why then lines → lines ≡ miss_lines why
missed_lines why then lines ample (inl (is, said)) = said
missed_lines why then lines ample (inr (is, none)) = absurd (ample is)

-- ---- the parts of a round
module _ (laws : RoundLaws) {K : Type 0} (c : Client K) (Good : K → Type 0) (client : OneClient c Good) where
  -- what becomes of the client by what came
  record SameClient (then then' : Next) (lines lines' : List Line) (new new' : K) : Type 0 where
    then_is : then ≡ then'
    lines_are : lines ≡ lines'
    same : new ≡ new'
    good : Good new

  missed_once : (why : Miss) (then then' : Next) (lines lines' : List Line) (k old old' new new' : K) → then ≢ next.Memory → then' ≢ next.Memory → old ≡ k → old' ≡ k → Good k → MissedBy why then lines → new ≡ old
      → MissedBy why then' lines' → new' ≡ old' → SameClient then then' lines lines' new new'
  missed_once why then then' lines lines' k old old' new new' ample ample' is is' good by same by' same' = record {
    then_is = missed_then why then lines ample by ∙ sym (missed_then why then' lines' ample' by');
    lines_are = missed_lines why then lines ample by ∙ sym (missed_lines why then' lines' ample' by');
    same = same ∙ is ∙ sym is' ∙ sym same';
    good = subst Good (sym (same ∙ is)) good;
  }

  goes_once : (wanted then then' : Next) (lines lines' : List Line) (new new' : K) → GoesTo wanted then lines → GoesTo wanted then' lines' → new ≡ new' → Good new → SameClient then then' lines lines' new new'
  goes_once wanted then then' lines lines' new new' goes goes' same good =
      record { then_is = goes.then_is ∙ sym goes'.then_is; lines_are = goes.quiet ∙ sym goes'.quiet; same = same; good = good }

  kept_next : (answer otherwise : Gathered) (then then' : Next) (lines lines' : List Line) (new new' : K) → answer ≡ otherwise → GoesTo (next_kept answer) then lines
      → GoesTo (next_kept otherwise) then' lines' → new ≡ new' → Good new → SameClient then then' lines lines' new new'
  kept_next answer otherwise then then' lines lines' new new' same goes goes' is good = record {
    then_is = goes.then_is ∙ ap next_kept same ∙ sym goes'.then_is;
    lines_are = goes.quiet ∙ sym goes'.quiet;
    same = is;
    good = good;
  }

  kept_memory : (answer : Gathered) (then : Next) (lines : List Line) → then ≢ next.Memory → GoesTo (next_kept answer) then lines → answer ≢ gathered.Memory
  kept_memory answer then lines ample goes e = ample (goes.then_is ∙ ap next_kept e)

  -- a site that came can be spelled
  abbrev CameGood : Result (Option Site) Miss → Type 0
  CameGood (Ok (Some site)) = IsSite site
  CameGood other = ⊤

  keeps_once : (came : Result (Option Site) Miss) (then then' : Next) (lines lines' : List Line) (k old old' new new' : K) → CameGood came → then ≢ next.Memory → then' ≢ next.Memory → old ≡ k → old' ≡ k → Good k
      → KeepsCame c came old then lines new → KeepsCame c came old' then' lines' new' → SameClient then then' lines lines' new new'
  keeps_once (Ok (Some site)) then then' lines lines' k old old' new new' is_site ample ample' is is' good (answer, keeps, goes) (answer', keeps', goes') =
      let P : K → Type 0 = λ x. c.keeps x site answer new in
      let Q : K → Type 0 = λ x. c.keeps x site answer' new' in
      let from = subst P is keeps in
      let same = client.keeps k new new' site answer answer' good from (subst Q is' keeps') (kept_memory answer then lines ample goes) (kept_memory answer' then' lines' ample' goes') in
      kept_next answer answer' then then' lines lines' new new' same.0 goes goes' same.1 (client.kept k new site answer good is_site from)
  keeps_once (Ok None) then then' lines lines' k old old' new new' is_site ample ample' is is' good (goes, same) (goes', same') =
      goes_once next.Item then then' lines lines' new new' goes goes' (same ∙ is ∙ sym is' ∙ sym same') (subst Good (sym (same ∙ is)) good)
  keeps_once (Err why) then then' lines lines' k old old' new new' is_site ample ample' is is' good (by, same) (by', same') =
      missed_once why then then' lines lines' k old old' new new' ample ample' is is' good by same by' same'

  came_good : (request name : List ℕ) (old new : Way) (came : Result (Option Site) Miss) → AsksFor request (TellsSite name) old came new → CameGood came
  came_good request name old new (Ok (Some site)) (bytes, asks, (status, body, is, gives)) = gives.good
  came_good request name old new (Ok None) asks = tt
  came_good request name old new (Err why) asks = tt

  -- what was asked left the link as it is now
  asked_steady : (a : ℕ) (between : Way) (new : At K) → new.way ≡ between → new.way.link.faults ≡ a → between.link.faults ≡ a
  asked_steady a between new stays steady = sym (ap (λ (w : Way). w.link.faults) stays) ∙ steady

  -- nothing was said before
  unsaid : (old between : Way) (more lines : List Line) → lines ≡ switched old between ++ more → between.second ≡ old.second → lines ≡ more
  unsaid old between more lines is same = is ∙ ap (λ (s : List Line). s ++ more) (unswitched old between same)

  -- two clients and their links
  pairs : (then then' : Next) (more more' lines lines' : List Line) (between between' : Way) (new new' : At K) (told : LinkTold) → lines ≡ more → lines' ≡ more' → new.way ≡ between → new'.way ≡ between'
      → TellsLink told between.link → TellsLink told between'.link → SameClient then then' more more' new.client new'.client → Same Good then then' lines lines' new new'
  pairs then then' more more' lines lines' between between' new new' told are are' stays stays' tells tells' same =
      let Tells : Way → Type 0 = λ w. TellsLink told w.link in
      record {
        then_is = same.then_is;
        lines_are = are ∙ same.lines_are ∙ sym are';
        k = new.client;
        told = told;
        one = record { client = refl; good = same.good; link = subst Tells (sym stays) tells };
        other = record { client = sym same.same; good = same.good; link = subst Tells (sym stays') tells' };
      }

  asks_once : (name : List ℕ) → IsOne Good (AsksSite c name)
  asks_once name k told old old' then then' lines lines' new new' stands stands' ample ample' steady steady' (came, between, asks, (more, (keeps, stays), is)) (came', between', asks', (more', (keeps', stays'), is')) =
      let request = site_request name (version_at c k name) in
      let P : K → Type 0 = λ x. AsksFor (site_request name (version_at c x name)) (TellsSite name) old.way came between in
      let Q : K → Type 0 = λ x. AsksFor (site_request name (version_at c x name)) (TellsSite name) old'.way came' between' in
      let once = asked_once laws.reply (TellsSite name) (one_site_told laws.site name) request told old.way old'.way between between' came came' stands.link stands'.link
      (asked_steady old.way.link.faults between new stays steady) (asked_steady old'.way.link.faults between' new' stays' steady')
      (keeps_memory c came then more old.client new.client ample keeps) (keeps_memory c came' then' more' old'.client new'.client ample' keeps')
      (subst P stands.client asks) (subst Q stands'.client asks') in
      let R : Result (Option Site) Miss → Type 0 = λ x. KeepsCame c x old'.client then' more' new'.client in
      let good = came_good (site_request name (version_at c old.client name)) name old.way between came asks in
      pairs then then' more more' lines lines' between between' new new' once.alike.0 (unsaid old.way between more lines is once.second) (unsaid old'.way between' more' lines' is' once.second')
      stays stays' once.alike.1 once.alike.2
      (keeps_once came then then' more more' k old.client old'.client new.client new'.client good ample ample' stands.client stands'.client stands.good keeps (subst R (sym once.same) keeps'))

  where_once : (newer newer' : Bool) → newer ≡ newer' → (name : List ℕ) (k : K) (told : LinkTold) (old old' : At K) (then then' : Next) (lines lines' : List Line) (new new' : At K) → Stands Good k told old → Stands Good k told old'
      → then ≢ next.Memory → then' ≢ next.Memory → new.way.link.faults ≡ old.way.link.faults → new'.way.link.faults ≡ old'.way.link.faults → AsksWhere c newer name old then lines new → AsksWhere c newer' name old' then' lines' new'
      → Same Good then then' lines lines' new new'
  where_once true true e name k told old old' then then' lines lines' new new' stands stands' ample ample' steady steady' did did' =
      asks_once name k told old old' then then' lines lines' new new' stands stands' ample ample' steady steady' did did'
  where_once false false e name k told old old' then then' lines lines' new new' stands stands' ample ample' steady steady' (goes, same) (goes', same') =
      none_done Good next.Item then then' lines lines' k told old old' new new' goes goes' same same' stands stands'
  where_once true false e name k told old old' then then' lines lines' new new' stands stands' ample ample' steady steady' did did' = absurd (cc)
  where_once false true e name k told old old' then then' lines lines' new new' stands stands' ample ample' steady steady' did did' = absurd (cc)

  gathered_once : (site : SiteVersion) → IsOne Good (GathersOne c site)
  gathered_once site k told old old' then then' lines lines' new new' stands stands' ample ample' steady steady' did did' =
      let same = ap (λ x. nat_lt (version_at c x site.name) site.version) (stands.client ∙ sym stands'.client) in
      where_once (nat_lt (version_at c old.client site.name) site.version) (nat_lt (version_at c old'.client site.name) site.version) same site.name k told old old' then then' lines lines' new new' stands stands' ample ample' steady steady'
      did did'

  one_rises : (site : SiteVersion) → Rises Good (GathersOne c site)
  one_rises site = gathers_one no_answer_told missed_one fault_count miss_told asked_counts c site

  -- what came of asking which sites there are
  listed_once : (came : Result (List SiteVersion) Miss) (k : K) (told : LinkTold) (old old' : At K) (then then' : Next) (lines lines' : List Line) (new new' : At K) → Stands Good k told old → Stands Good k told old'
      → then ≢ next.Memory → then' ≢ next.Memory → new.way.link.faults ≡ old.way.link.faults → new'.way.link.faults ≡ old'.way.link.faults → GathersListed c came old then lines new → GathersListed c came old' then' lines' new'
      → Same Good then then' lines lines' new new'
  listed_once (Ok sites) k told old old' then then' lines lines' new new' stands stands' ample ample' steady steady' did did' =
      each_once Good (GathersOne c) sites gathered_once one_rises k told old old' then then' lines lines' new new' stands stands' ample ample' steady steady' did did'
  listed_once (Err why) k told old old' then then' lines lines' new new' stands stands' ample ample' steady steady' (by, same) (by', same') = record {
    then_is = missed_then why then lines ample by ∙ sym (missed_then why then' lines' ample' by');
    lines_are = missed_lines why then lines ample by ∙ sym (missed_lines why then' lines' ample' by');
    k = k;
    told = told;
    one = stays Good k told old new same stands;
    other = stays Good k told old' new' same' stands';
  }

  listed_later : (came : Result (List SiteVersion) Miss) (old new : At K) (then : Next) (lines : List Line) → GathersListed c came old then lines new → old.way.link.faults ≤ new.way.link.faults
  listed_later (Ok sites) old new then lines did = later Good (DoesEach (GathersOne c) sites) old then lines new (does_each no_answer_told (of_link fault_count) (GathersOne c) sites one_rises) did
  listed_later (Err why) old new then lines (by, same) = let e = ap (λ (s : At K). s.way.link.faults) same in omega (arith, e)

  asked_later : (old new : Way) (came : Result (List SiteVersion) Miss) → AsksFor sites_request ListsSites old came new → old.link.faults ≤ new.link.faults
  asked_later old new came asks = later-RoseBy _ old.link.faults new.link.faults (asked_counts (List SiteVersion) sites_request ListsSites old came new asks)

  stands_at : (k : K) (told told' : LinkTold) (old : At K) (between : Way) → Stands Good k told old → TellsLink told' between.link → Stands Good k told' (at old.client between)
  stands_at k told told' old between stands tells = record { client = stands.client; good = stands.good; link = tells }

  named_so : (then then' : Next) (more more' lines lines' : List Line) (new new' : At K) → lines ≡ more → lines' ≡ more' → Same Good then then' more more' new new' → Same Good then then' lines lines' new new'
  named_so then then' more more' lines lines' new new' are are' same = record {
    then_is = same.then_is;
    lines_are = are ∙ same.lines_are ∙ sym are';
    k = same.k;
    told = same.told;
    one = same.one;
    other = same.other;
  }

  pub gathering_once : IsOne Good (GathersAll c)
  gathering_once k told old old' then then' lines lines' new new' stands stands' ample ample' steady steady' (came, between, asks, (more, listed, is)) (came', between', asks', (more', listed', is')) =
      let here = at old.client between in
      let here' = at old'.client between' in
      let split = between_steady Good old.way.link.faults between.link.faults new.way.link.faults (asked_later old.way between came asks) (listed_later came here new then more listed) steady in
      let split' = between_steady Good old'.way.link.faults between'.link.faults new'.way.link.faults (asked_later old'.way between' came' asks') (listed_later came' here' new' then' more' listed') steady' in
      let once = asked_once laws.reply ListsSites one_list sites_request told old.way old'.way between between' came came' stands.link stands'.link split.0 split'.0
      (listed_memory c came then more here new ample listed) (listed_memory c came' then' more' here' new' ample' listed') asks asks' in
      let P : Result (List SiteVersion) Miss → Type 0 = λ x. GathersListed c x here' then' more' new' in
      named_so then then' more more' lines lines' new new' (unsaid old.way between more lines is once.second) (unsaid old'.way between' more' lines' is' once.second')
      (listed_once came k once.alike.0 here here' then then' more more' new new' (stands_at k told once.alike.0 old between stands once.alike.1) (stands_at k told once.alike.0 old' between' stands' once.alike.2)
      ample ample' split.1 split'.1 listed (subst P (sym once.same) listed'))

  -- ---- posting
  settled_once : (report : Report) (came : Result Judged Miss) (then then' : Next) (lines lines' : List Line) (k old old' new new' : K) → then ≢ next.Memory → then' ≢ next.Memory → old ≡ k → old' ≡ k → Good k
      → SettlesCame c report came old then lines new → SettlesCame c report came old' then' lines' new' → SameClient then then' lines lines' new new'
  settled_once report (Ok said) then then' lines lines' k old old' new new' ample ample' is is' good (inl (goes, settles)) (inl (goes', settles')) =
      let P : K → Type 0 = λ x. c.settles x report said new in
      let Q : K → Type 0 = λ x. c.settles x report said new' in
      let from = subst P is settles in
      goes_once next.Item then then' lines lines' new new' goes goes' (client.settles k new new' report said from (subst Q is' settles')) (client.settled k new report said good from)
  settled_once report (Ok said) then then' lines lines' k old old' new new' ample ample' is is' good (inl settles) (inr (goes', same')) = absurd (ample' goes'.then_is)
  settled_once report (Ok said) then then' lines lines' k old old' new new' ample ample' is is' good (inr (goes, same)) again = absurd (ample goes.then_is)
  settled_once report (Err why) then then' lines lines' k old old' new new' ample ample' is is' good (by, same) (by', same') =
      missed_once why then then' lines lines' k old old' new new' ample ample' is is' good by same by' same'

  posted_once : (report : Report) → IsOne Good (PostsOne c report)
  posted_once report k told old old' then then' lines lines' new new' stands stands' ample ample' steady steady' (came, between, asks, (more, (settles, stays), is)) (came', between', asks', (more', (settles', stays'), is')) =
      let once = asked_once laws.reply (JudgesReport c.asker) (one_judged c.asker) (report_request report) told old.way old'.way between between' came came' stands.link stands'.link
      (asked_steady old.way.link.faults between new stays steady) (asked_steady old'.way.link.faults between' new' stays' steady')
      (settles_memory c report came then more old.client new.client ample settles) (settles_memory c report came' then' more' old'.client new'.client ample' settles') asks asks' in
      let P : Result Judged Miss → Type 0 = λ x. SettlesCame c report x old'.client then' more' new'.client in
      pairs then then' more more' lines lines' between between' new new' once.alike.0 (unsaid old.way between more lines is once.second) (unsaid old'.way between' more' lines' is' once.second')
      stays stays' once.alike.1 once.alike.2
      (settled_once report came then then' more more' k old.client old'.client new.client new'.client ample ample' stands.client stands'.client stands.good settles (subst P (sym once.same) settles'))

  post_rises : (report : Report) → Rises Good (PostsOne c report)
  post_rises report = posts_one no_answer_told missed_one fault_count miss_told asked_counts c report

  pub posting_once : IsOne Good (PostsAll c)
  posting_once k told old old' then then' lines lines' new new' stands stands' ample ample' steady steady' did did' =
      let P : K → Type 0 = λ x. DoesEach (PostsOne c) (c.reports x) old then lines new in
      let Q : K → Type 0 = λ x. DoesEach (PostsOne c) (c.reports x) old' then' lines' new' in
      each_once Good (PostsOne c) (c.reports k) posted_once post_rises k told old old' then then' lines lines' new new' stands stands' ample ample' steady steady' (subst P stands.client did) (subst Q stands'.client did')

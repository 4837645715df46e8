-- The parts of a round, step by step: what is printed, which sites were gathered so far, and which reports were posted.
use Rattle.std.proofs.Common.{◌≡◌, ◌≢◌, inl, inr, ℕ, ◌+◌, ◌-◌, ◌<◌, ◌≤◌, Bool, true, false, List, [], ◌∷◌, ◌++◌, drop, get_or, length, Option, Some, None, Ok, Err, refl, sym, ap, ◌∙◌, subst, arith, append-nil, append_assoc}
use Rattle.std.specs.Prelude.{codes, nat_lt, IfSome}
use Rattle.std.specs.declared.result.Result.{Result}
use Rattle.std.specs.declared.alloc.AllocError.{AllocError}
use Rattle.std.proofs.lemmas.Bool.Decides.{nat_tests}
use Rattle.std.proofs.lemmas.List.{length-append}
use Rattle.desk_rounds.specs.Ways.{Way, switched}
use Rattle.fix_site.specs.Sites.{IsSite}
use Rattle.fix_site.specs.declared.site.Site.{Site}
use Rattle.report_text.specs.declared.report.Report.{Report}
use Rattle.server_text.specs.declared.site_versions.SiteVersion.{SiteVersion}
use Rattle.desk_rounds.specs.declared.asking.Miss.{Miss}
use Rattle.desk_rounds.specs.declared.asking.Miss.TheVariants as miss
use Rattle.desk_rounds.specs.declared.judged.Judged.{Judged}
use Rattle.desk_rounds.specs.declared.part.Next.{Next}
use Rattle.desk_rounds.specs.declared.part.Next.TheVariants as next
use Rattle.desk_rounds.specs.declared.posting.Posted.{Posted}
use Rattle.desk_rounds.specs.declared.posting.Posted.TheVariants as posted
use Rattle.desk_rounds.specs.Asking.{AsksFor}
use Rattle.desk_rounds.specs.Clients.{At, Client, SettlesAt, at}
use Rattle.desk_rounds.specs.Gathering.{AsksWhere, GathersAll, GathersOne, KeepsCame, version_at}
use Rattle.desk_rounds.specs.Lines.{Line, bad_answer, line_text, lines_text, no_answer}
use Rattle.desk_rounds.specs.Parts.{DoesBoth, DoesEach, MissedBy, Part, Prints, SaysLine}
use Rattle.desk_rounds.specs.Posting.{PostsAll, PostsAt, PostsOne, SettlesCame, missed, next_posted, place_after, settled}
use Rattle.desk_rounds.specs.Replies.{JudgesReport, ListsSites, TellsSite}
use Rattle.desk_rounds.specs.Requests.{report_request, site_request, sites_request}
use Rattle.desk_rounds.proofs.Queues.{there_in}
use Rattle.desk_rounds.proofs.Parting.{Goes, goes_done, goes_first, goes_memory, goes_on, goes_part, left_at, none_left, printed_first, printed_more}

-- ---- lines
pub prints_from : (then : Next) (lines : List Line) (before after : List ℕ) → after ≡ before ++ lines_text lines → Prints then lines before after
prints_from next.Item lines before after is = is
prints_from next.Part lines before after is = is
prints_from next.Memory lines before after is = tt

pub prints_none : (then : Next) (out : List ℕ) → Prints then [] out out
prints_none then out = prints_from then [] out out (printed_first out)

-- nothing came of a request, and its line was printed
abbrev pub SaysMiss : Miss → Next → List ℕ → List ℕ → Type 0
SaysMiss why then before after = (lines : List Line) × MissedBy why then lines × Prints then lines before after

pub one_line : (line : Line) (before after : List ℕ) → after ≡ before ++ line_text line → after ≡ before ++ lines_text (line ∷ [])
one_line line before after is = is ∙ ap (λ l. before ++ l) (sym (append-nil (line_text line)))

pub said_no_answer : (why : Miss) (then : Next) (before after : List ℕ) → why ≡ miss.NoAnswer
    → SaysLine (codes "link: no answer\n") next.Part then before after → SaysMiss why then before after
said_no_answer why then before after is says =
    subst (λ m. SaysMiss m then before after) (sym is) (elim says [
      | inl said ↦ (no_answer ∷ [], inl (said.0, refl), prints_from then (no_answer ∷ []) before after (one_line no_answer before after said.1))
      | inr none ↦ ([], inr (none, refl), subst (λ n. Prints n [] before after) (sym none) tt)
    ])

pub said_bad_answer : (why : Miss) (then : Next) (before after : List ℕ) → why ≡ miss.BadAnswer
    → SaysLine (codes "link: bad answer\n") next.Item then before after → SaysMiss why then before after
said_bad_answer why then before after is says =
    subst (λ m. SaysMiss m then before after) (sym is) (elim says [
      | inl said ↦ (bad_answer ∷ [], inl (said.0, refl), prints_from then (bad_answer ∷ []) before after (one_line bad_answer before after said.1))
      | inr none ↦ ([], inr (none, refl), subst (λ n. Prints n [] before after) (sym none) tt)
    ])

pub said_memory : (why : Miss) (out : List ℕ) → why ≡ miss.Memory → SaysMiss why next.Memory out out
said_memory why out is = subst (λ m. SaysMiss m next.Memory out out) (sym is) ([], inl (refl, refl), tt)

-- ---- two parts
printed_of : (then : Next) (lines : List Line) (before after : List ℕ) → then ≢ next.Memory → Prints then lines before after
    → after ≡ before ++ lines_text lines
printed_of next.Item lines before after whole prints = prints
printed_of next.Part lines before after whole prints = prints
printed_of next.Memory lines before after whole prints = absurd (whole refl)

module _ {S : Type 0} (First Second : Part S) where
  -- what a part did, and what it printed
  abbrev pub Did : Part S → S → List ℕ → Next → S → List ℕ → Type 0
  Did part old before then new after = (lines : List Line) × part old then lines new × Prints then lines before after

  goes_both : (old mid new : S) (one then : Next) (said more : List Line) → one ≢ next.Memory → First old one said mid
      → Second mid then more new → DoesBoth First Second old then (said ++ more) new
  goes_both old mid new next.Item then said more whole first second = (next.Item, said, mid, first, (more, second, refl))
  goes_both old mid new next.Part then said more whole first second = (next.Part, said, mid, first, (more, second, refl))
  goes_both old mid new next.Memory then said more whole first second = absurd (whole refl)

  pub both_done : (old mid new : S) (before between after : List ℕ) (one then : Next) → one ≢ next.Memory → then ≢ next.Memory
      → Did First old before one mid between → Did Second mid between then new after
      → (lines : List Line) × DoesBoth First Second old then lines new × (after ≡ before ++ lines_text lines)
  both_done old mid new before between after one then whole rest first second = (
    first.0 ++ second.0,
    goes_both old mid new one then first.0 second.0 whole first.1 second.1,
    printed_more before between after first.0 second.0 (printed_of one first.0 before between whole first.2)
        (printed_of then second.0 between after rest second.2),
  )

  pub second_memory : (old mid new : S) (before between after : List ℕ) (one then : Next) → one ≢ next.Memory → then ≡ next.Memory
      → Did First old before one mid between → Did Second mid between then new after
      → (lines : List Line) × DoesBoth First Second old next.Memory lines new
  second_memory old mid new before between after one then whole is first second =
      let it = subst (λ n. Did Second mid between n new after) is second in
      (first.0 ++ it.0, goes_both old mid new one next.Memory first.0 it.0 whole first.1 it.1)

  pub first_memory : (old mid : S) (before between : List ℕ) (one : Next) → one ≡ next.Memory → Did First old before one mid between
      → (lines : List Line) × DoesBoth First Second old next.Memory lines mid
  first_memory old mid before between one is first =
      let it = subst (λ n. Did First old before n mid between) is first in
      (it.0, (next.Memory, it.0, mid, it.1, (refl, refl, refl)))

-- ---- gathering
-- the sites before a place were gathered, and none of them ended the part
pub record Gathered {K : Type 0} (c : Client K) (sites : List SiteVersion) (old : At K) (before : List ℕ) (place : ℕ) (now : At K) (out : List ℕ) : Type 0 where
  pub said : List Line
  pub goes : Goes (GathersOne c) sites old said (drop place sites) now
  pub printed : out ≡ before ++ lines_text said

-- The reports are those that were posted and stay, and those that are still to be posted.
pub record Posts {K : Type 0} (c : Client K) (old : At K) (before : List ℕ) (place : ℕ) (now : At K) (out : List ℕ) : Type 0 where
  pub said : List Line
  pub stay : List Report
  pub left : List Report
  pub split : c.reports now.client ≡ stay ++ left
  pub place_is : length stay ≡ place
  pub goes : Goes (PostsOne c) (c.reports old.client) old said left now
  pub printed : out ≡ before ++ lines_text said

module _ {K : Type 0} (c : Client K) where
  -- a site that is kept in this version or a greater one
  pub site_kept : (site : SiteVersion) (kept : ℕ) (old : At K) → kept ≡ version_at c old.client site.name → site.version ≤ kept
      → GathersOne c site old next.Item [] old
  site_kept site kept old is le =
      let test : nat_lt (version_at c old.client site.name) site.version ≡ false = grind (arith, nat_tests) in
      subst (λ b. AsksWhere c b site.name old next.Item [] old) (sym test) (record { then_is = refl; quiet = refl }, refl)

  pub site_newer : (site : SiteVersion) (kept : ℕ) (old : At K) (between : Way) (client : K) (came : Result (Option Site) Miss) (then : Next)
      (lines : List Line) → kept ≡ version_at c old.client site.name → kept < site.version
      → AsksFor (site_request site.name kept) (TellsSite site.name) old.way came between → KeepsCame c came old.client then lines client
      → GathersOne c site old then (switched old.way between ++ lines) (at client between)
  site_newer site kept old between client came then lines is less asks keeps =
      let test : nat_lt (version_at c old.client site.name) site.version ≡ true = grind (arith, nat_tests) in
      subst (λ b. AsksWhere c b site.name old then (switched old.way between ++ lines) (at client between)) (sym test) (
        came,
        between,
        subst (λ n. AsksFor (site_request site.name n) (TellsSite site.name) old.way came between) is asks,
        (lines, (keeps, refl), refl),
      )

  pub came_good : (request name : List ℕ) (old new : Way) (came : Option Site) → AsksFor request (TellsSite name) old (Ok came) new
      → IfSome came IsSite
  came_good request name old new None asks = tt
  came_good request name old new (Some site) asks = asks.2.3.good

  -- which sites there are
  pub listed_gathered : (old new : At K) (between : Way) (sites shown : List SiteVersion) (then : Next) (lines : List Line)
      → AsksFor sites_request ListsSites old.way (Ok sites) between → shown ≡ sites
      → DoesEach (GathersOne c) shown (at old.client between) then lines new → GathersAll c old then (switched old.way between ++ lines) new
  listed_gathered old new between sites shown then lines asks is does =
      (Ok sites, between, asks, (lines, subst (λ l. DoesEach (GathersOne c) l (at old.client between) then lines new) is does, refl))

  pub listed_missed : (old : At K) (between : Way) (why : Miss) (then : Next) (lines : List Line)
      → AsksFor sites_request ListsSites old.way (Err why) between → MissedBy why then lines
      → GathersAll c old then (switched old.way between ++ lines) (at old.client between)
  listed_missed old between why then lines asks missed = (Err why, between, asks, (lines, (missed, refl), refl))

  pub gathers_first : (sites : List SiteVersion) (old : At K) (out : List ℕ) → Gathered c sites old out 0 old out
  gathers_first sites old out = record { said = []; goes = goes_first (GathersOne c) sites old; printed = printed_first out }

  -- one more was, and what came next
  abbrev pub Gathers : SiteVersion → At K → Next → At K → List ℕ → List ℕ → Type 0
  Gathers site now then new out after = (lines : List Line) × GathersOne c site now then lines new × Prints then lines out after

  ahead : (sites : List SiteVersion) (old : At K) (before : List ℕ) (place : ℕ) (now : At K) (out : List ℕ) (site : SiteVersion)
      (far : Gathered c sites old before place now out) → place < length sites → site ≡ get_or sites place site
      → Goes (GathersOne c) sites old far.said (site ∷ drop (place + 1) sites) now
  ahead sites old before place now out site far inside is =
      subst (λ l. Goes (GathersOne c) sites old far.said l now) (left_at sites place site inside is) far.goes

  pub gathers_on : (sites : List SiteVersion) (old : At K) (before : List ℕ) (place : ℕ) (now : At K) (out : List ℕ) (site : SiteVersion)
      (then : Next) (new : At K) (after : List ℕ) → Gathered c sites old before place now out → place < length sites
      → site ≡ get_or sites place site → then ≡ next.Item → Gathers site now then new out after
      → Gathered c sites old before (place + 1) new after
  gathers_on sites old before place now out site then new after far inside is on does =
      let it = subst (λ n. Gathers site now n new out after) on does in
      record {
        said = far.said ++ it.0;
        goes = goes_on (GathersOne c) sites old far.said site (drop (place + 1) sites) now it.0 new
            (ahead sites old before place now out site far inside is) it.1;
        printed = printed_more before out after far.said it.0 far.printed it.2;
      }

  -- all that was done, and what comes next
  abbrev pub GathersEach : List SiteVersion → At K → List ℕ → Next → At K → List ℕ → Type 0
  GathersEach sites old before then new after =
      (lines : List Line) × DoesEach (GathersOne c) sites old then lines new × Prints then lines before after

  pub gathers_part : (sites : List SiteVersion) (old : At K) (before : List ℕ) (place : ℕ) (now : At K) (out : List ℕ) (site : SiteVersion)
      (then : Next) (new : At K) (after : List ℕ) → Gathered c sites old before place now out → place < length sites
      → site ≡ get_or sites place site → then ≡ next.Part → Gathers site now then new out after
      → GathersEach sites old before next.Part new after
  gathers_part sites old before place now out site then new after far inside is on does =
      let it = subst (λ n. Gathers site now n new out after) on does in (
        far.said ++ it.0,
        goes_part (GathersOne c) sites old far.said site (drop (place + 1) sites) now it.0 new
            (ahead sites old before place now out site far inside is) it.1,
        printed_more before out after far.said it.0 far.printed it.2,
      )

  pub gathers_memory : (sites : List SiteVersion) (old : At K) (before : List ℕ) (place : ℕ) (now : At K) (out : List ℕ) (site : SiteVersion)
      (then : Next) (new : At K) (after : List ℕ) → Gathered c sites old before place now out → place < length sites
      → site ≡ get_or sites place site → then ≡ next.Memory → Gathers site now then new out after
      → GathersEach sites old before next.Memory new after
  gathers_memory sites old before place now out site then new after far inside is on does =
      let it = subst (λ n. Gathers site now n new out after) on does in (
        far.said ++ it.0,
        goes_memory (GathersOne c) sites old far.said site (drop (place + 1) sites) now it.0 new
            (ahead sites old before place now out site far inside is) it.1,
        tt,
      )

  pub gathers_done : (sites : List SiteVersion) (old : At K) (before : List ℕ) (place : ℕ) (now : At K) (out : List ℕ)
      → Gathered c sites old before place now out → length sites ≤ place → GathersEach sites old before next.Item now out
  gathers_done sites old before place now out far end = (
    far.said,
    goes_done (GathersOne c) sites old far.said now
        (subst (λ l. Goes (GathersOne c) sites old far.said l now) (none_left sites place end) far.goes),
    far.printed,
  )

  -- ---- posting
  asks_there : (there report : Report) (old new : Way) (came : Result Judged Miss) → there ≡ report
      → AsksFor (report_request there) (JudgesReport c.asker) old came new → AsksFor (report_request report) (JudgesReport c.asker) old came new
  asks_there there report old new came is asks = subst (λ r. AsksFor (report_request r) (JudgesReport c.asker) old came new) is asks

  -- the report at a place was posted, and this came of it
  posts_one : (old : At K) (between : Way) (client : K) (there report : Report) (came : Result Judged Miss) (then : Next) (lines : List Line)
      → there ≡ report → AsksFor (report_request there) (JudgesReport c.asker) old.way came between
      → SettlesCame c report came old.client then lines client
      → PostsOne c report old then (switched old.way between ++ lines) (at client between)
  posts_one old between client there report came then lines is asks settles =
      (came, between, asks_there there report old.way between came is asks, (lines, (settles, refl), refl))

  -- something was said of it, and it was settled
  pub posts_settled : (place : ℕ) (old : At K) (between : Way) (client : K) (there : Report) (said : Judged) (answer : Result Bool AllocError)
      → there ≡ get_or (c.reports old.client) place there
      → AsksFor (report_request there) (JudgesReport c.asker) old.way (Ok said) between → SettlesAt c place said old.client answer client
      → PostsAt c place old (settled answer) (switched old.way between ++ []) (at client between)
  posts_settled place old between client there said (Ok true) is asks settles before after report split len =
      let here = there_in (c.reports old.client) before after report there place split len is in
      let it = settles before after report split len in
      (posts_one old between client there report (Ok said) next.Item [] here asks (inl (record { then_is = refl; quiet = refl }, it.0)), it.1)
  posts_settled place old between client there said (Ok false) is asks settles before after report split len =
      let here = there_in (c.reports old.client) before after report there place split len is in
      let it = settles before after report split len in
      (posts_one old between client there report (Ok said) next.Item [] here asks (inl (record { then_is = refl; quiet = refl }, it.0)), it.1)
  posts_settled place old between client there said (Err error) is asks settles before after report split len =
      let here = there_in (c.reports old.client) before after report there place split len is in
      let it = settles before after report split len in
      posts_one old between client there report (Ok said) next.Memory [] here asks (inr (record { then_is = refl; quiet = refl }, it))

  -- nothing came of posting it
  pub posts_missed : (place : ℕ) (old : At K) (between : Way) (there : Report) (why : Miss) (then : Next) (lines : List Line)
      → there ≡ get_or (c.reports old.client) place there
      → AsksFor (report_request there) (JudgesReport c.asker) old.way (Err why) between → MissedBy why then lines
      → PostsAt c place old (missed then) (switched old.way between ++ lines) (at old.client between)
  posts_missed place old between there why next.Item lines is asks by before after report split len =
      let here = there_in (c.reports old.client) before after report there place split len is in
      (posts_one old between old.client there report (Err why) next.Item lines here asks (by, refl), refl)
  posts_missed place old between there why next.Part lines is asks by before after report split len =
      let here = there_in (c.reports old.client) before after report there place split len is in
      posts_one old between old.client there report (Err why) next.Part lines here asks (by, refl)
  posts_missed place old between there why next.Memory lines is asks by before after report split len =
      let here = there_in (c.reports old.client) before after report there place split len is in
      posts_one old between old.client there report (Err why) next.Memory lines here asks (by, refl)

  pub prints_missed : (then : Next) (lines : List Line) (before after : List ℕ) → Prints then lines before after
      → Prints (next_posted (missed then)) lines before after
  prints_missed next.Item lines before after prints = prints
  prints_missed next.Part lines before after prints = prints
  prints_missed next.Memory lines before after prints = prints

  pub posts_first : (old : At K) (out : List ℕ) → Posts c old out 0 old out
  posts_first old out = record {
    said = [];
    stay = [];
    left = c.reports old.client;
    split = refl;
    place_is = refl;
    goes = goes_first (PostsOne c) (c.reports old.client) old;
    printed = printed_first out;
  }

  -- the one at the place was posted, and what became of it
  abbrev pub PostsNow : ℕ → At K → Posted → At K → List ℕ → List ℕ → Type 0
  PostsNow place now what new out after =
      (lines : List Line) × PostsAt c place now what lines new × Prints (next_posted what) lines out after

  abbrev pub PostsEach : At K → List ℕ → Next → At K → List ℕ → Type 0
  PostsEach old before then new after = (lines : List Line) × PostsAll c old then lines new × Prints then lines before after

  -- a report is left where the place is one of theirs
  abbrev pub Ahead : List Report → Type 0
  Ahead left = (report : Report) × (rest : List Report) × (left ≡ report ∷ rest)

  is_ahead : (stay left : List Report) (reports : List Report) (place : ℕ) → reports ≡ stay ++ left → length stay ≡ place
      → place < length reports → Ahead left
  is_ahead stay [] reports place split len inside =
      let e : length reports ≡ length (stay ++ []) = ap length split in
      absurd (omega (arith, e, length-append stay [], len, inside))
  is_ahead stay (report ∷ rest) reports place split len inside = (report, rest, refl)

  posted_on : (old : At K) (before : List ℕ) (place : ℕ) (now : At K) (out : List ℕ) (what : Posted) (new : At K) (after : List ℕ)
      (far : Posts c old before place now out) (report : Report) (rest : List Report) → far.left ≡ report ∷ rest → what ≢ posted.NoAnswer
      → what ≢ posted.Memory → PostsNow place now what new out after → Posts c old before (place_after what place) new after
  posted_on old before place now out posted.NoAnswer new after far report rest is some room does = absurd (some refl)
  posted_on old before place now out posted.Memory new after far report rest is some room does = absurd (room refl)
  posted_on old before place now out posted.Gone new after far report rest is some room does =
      let it = does.1 far.stay rest report (far.split ∙ ap (λ l. far.stay ++ l) is) far.place_is in
      record {
        said = far.said ++ does.0;
        stay = far.stay;
        left = rest;
        split = it.1;
        place_is = far.place_is;
        goes = goes_on (PostsOne c) (c.reports old.client) old far.said report rest now does.0 new
            (subst (λ l. Goes (PostsOne c) (c.reports old.client) old far.said l now) is far.goes) it.0;
        printed = printed_more before out after far.said does.0 far.printed does.2;
      }
  posted_on old before place now out posted.Stays new after far report rest is some room does =
      let it = does.1 far.stay rest report (far.split ∙ ap (λ l. far.stay ++ l) is) far.place_is in
      record {
        said = far.said ++ does.0;
        stay = far.stay ++ report ∷ [];
        left = rest;
        split = it.1 ∙ far.split ∙ ap (λ l. far.stay ++ l) is ∙ sym (append_assoc far.stay (report ∷ []) rest);
        place_is = omega (arith, length-append far.stay (report ∷ []), far.place_is);
        goes = goes_on (PostsOne c) (c.reports old.client) old far.said report rest now does.0 new
            (subst (λ l. Goes (PostsOne c) (c.reports old.client) old far.said l now) is far.goes) it.0;
        printed = printed_more before out after far.said does.0 far.printed does.2;
      }

  pub posts_on : (old : At K) (before : List ℕ) (place : ℕ) (now : At K) (out : List ℕ) (what : Posted) (new : At K) (after : List ℕ)
      → Posts c old before place now out → place < length (c.reports now.client) → what ≢ posted.NoAnswer → what ≢ posted.Memory
      → PostsNow place now what new out after → Posts c old before (place_after what place) new after
  posts_on old before place now out what new after far inside some room does =
      let ahead = is_ahead far.stay far.left (c.reports now.client) place far.split far.place_is inside in
      posted_on old before place now out what new after far ahead.0 ahead.1 ahead.2 some room does

  pub posts_part : (old : At K) (before : List ℕ) (place : ℕ) (now : At K) (out : List ℕ) (what : Posted) (new : At K) (after : List ℕ)
      → Posts c old before place now out → place < length (c.reports now.client) → what ≡ posted.NoAnswer
      → PostsNow place now what new out after → PostsEach old before next.Part new after
  posts_part old before place now out what new after far inside is does =
      let ahead = is_ahead far.stay far.left (c.reports now.client) place far.split far.place_is inside in
      let now_does = subst (λ w. PostsNow place now w new out after) is does in
      let it = now_does.1 far.stay ahead.1 ahead.0 (far.split ∙ ap (λ l. far.stay ++ l) ahead.2) far.place_is in (
        far.said ++ now_does.0,
        goes_part (PostsOne c) (c.reports old.client) old far.said ahead.0 ahead.1 now now_does.0 new
            (subst (λ l. Goes (PostsOne c) (c.reports old.client) old far.said l now) ahead.2 far.goes) it,
        printed_more before out after far.said now_does.0 far.printed now_does.2,
      )

  pub posts_memory : (old : At K) (before : List ℕ) (place : ℕ) (now : At K) (out : List ℕ) (what : Posted) (new : At K) (after : List ℕ)
      → Posts c old before place now out → place < length (c.reports now.client) → what ≡ posted.Memory
      → PostsNow place now what new out after → PostsEach old before next.Memory new after
  posts_memory old before place now out what new after far inside is does =
      let ahead = is_ahead far.stay far.left (c.reports now.client) place far.split far.place_is inside in
      let now_does = subst (λ w. PostsNow place now w new out after) is does in
      let it = now_does.1 far.stay ahead.1 ahead.0 (far.split ∙ ap (λ l. far.stay ++ l) ahead.2) far.place_is in (
        far.said ++ now_does.0,
        goes_memory (PostsOne c) (c.reports old.client) old far.said ahead.0 ahead.1 now now_does.0 new
            (subst (λ l. Goes (PostsOne c) (c.reports old.client) old far.said l now) ahead.2 far.goes) it,
        tt,
      )

  pub posts_done : (old : At K) (before : List ℕ) (place : ℕ) (now : At K) (out : List ℕ) → Posts c old before place now out
      → length (c.reports now.client) ≤ place → PostsEach old before next.Item now out
  posts_done old before place now out far end =
      let none : far.left ≡ [] = none_ahead far.left (omega (arith, ap length far.split, length-append far.stay far.left, far.place_is, end)) in (
        far.said,
        goes_done (PostsOne c) (c.reports old.client) old far.said now
            (subst (λ l. Goes (PostsOne c) (c.reports old.client) old far.said l now) none far.goes),
        far.printed,
      )
    where
      none_ahead : (left : List Report) → length left ≤ 0 → left ≡ []
      none_ahead [] le = refl
      none_ahead (x ∷ left) le = absurd (omega (arith, le))

  -- fewer are left then
  fewer_on : (place : ℕ) (now : At K) (out : List ℕ) (what : Posted) (new : At K) (after : List ℕ) (stay rest : List Report) (report : Report)
      → c.reports now.client ≡ stay ++ report ∷ rest → length stay ≡ place → what ≢ posted.NoAnswer → what ≢ posted.Memory
      → PostsNow place now what new out after
      → length (c.reports new.client) - place_after what place < length (c.reports now.client) - place
  fewer_on place now out posted.NoAnswer new after stay rest report split len some room does = absurd (some refl)
  fewer_on place now out posted.Memory new after stay rest report split len some room does = absurd (room refl)
  fewer_on place now out posted.Gone new after stay rest report split len some room does =
      let it = does.1 stay rest report split len in
      omega (arith, ap length it.1, ap length split, length-append stay rest, length-append stay (report ∷ rest), len)
  fewer_on place now out posted.Stays new after stay rest report split len some room does =
      let it = does.1 stay rest report split len in
      omega (arith, ap length it.1, ap length split, length-append stay (report ∷ rest), len)

  pub posts_fewer : (old : At K) (before : List ℕ) (place : ℕ) (now : At K) (out : List ℕ) (what : Posted) (new : At K) (after : List ℕ)
      → Posts c old before place now out → place < length (c.reports now.client) → what ≢ posted.NoAnswer → what ≢ posted.Memory
      → PostsNow place now what new out after
      → length (c.reports new.client) - place_after what place < length (c.reports now.client) - place
  posts_fewer old before place now out what new after far inside some room does =
      let ahead = is_ahead far.stay far.left (c.reports now.client) place far.split far.place_is inside in
      fewer_on place now out what new after far.stay ahead.1 ahead.0 (far.split ∙ ap (λ l. far.stay ++ l) ahead.2) far.place_is some room does

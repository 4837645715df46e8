-- The part of a round in which reports are posted.
use Rattle.std.specs.Prelude.{◌≡◌, ◌⊎◌, ℕ, ◌+◌, Bool, true, false, List, ◌∷◌, ◌++◌, length, Ok, Err}
use Rattle.std.specs.declared.result.Result.{Result}
use Rattle.std.specs.declared.alloc.AllocError.{AllocError}
use Rattle.report_text.specs.declared.report.Report.{Report}
use Rattle.desk_rounds.specs.declared.asking.Miss.{Miss}
use Rattle.desk_rounds.specs.declared.judged.Judged.{Judged}
use Rattle.desk_rounds.specs.declared.part.Next.{Next}
use Rattle.desk_rounds.specs.declared.part.Next.TheVariants as next
use Rattle.desk_rounds.specs.declared.posting.Posted.{Posted}
use Rattle.desk_rounds.specs.declared.posting.Posted.TheVariants as posted
use Rattle.desk_rounds.specs.Asking.{AsksFor}
use Rattle.desk_rounds.specs.Clients.{AfterSaid, At, Client, OfClient, at}
use Rattle.desk_rounds.specs.Lines.{Line}
use Rattle.desk_rounds.specs.Parts.{DoesEach, GoesTo, MissedBy, Part}
use Rattle.desk_rounds.specs.Replies.{JudgesReport}
use Rattle.desk_rounds.specs.Requests.{report_request}
use Rattle.desk_rounds.specs.Ways.{Way, switched}

module _ {K : Type 0} (c : Client K) where
  -- what came of posting a report: what was said of it is settled, and no line is printed of it; for that there may be no memory
  abbrev pub SettlesCame : Report → Result Judged Miss → K → Next → List Line → K → Type 0
  SettlesCame report (Ok judged) old then lines new =
      (GoesTo next.Item then lines × c.settles old report judged new) ⊎ (GoesTo next.Memory then lines × (new ≡ old))
  SettlesCame report (Err miss) old then lines new = MissedBy miss then lines × (new ≡ old)

  -- A report is posted.
  abbrev pub PostsOne : Report → Part (At K)
  PostsOne report old then lines new =
      (came : Result Judged Miss) × (between : Way) × AsksFor (report_request report) (JudgesReport c.asker) old.way came between
      × AfterSaid (switched old.way between) (OfClient (SettlesCame report came)) (at old.client between) then lines new

  -- Each report that there is to post as the part begins is posted, the oldest first.
  abbrev pub PostsAll : Part (At K)
  PostsAll old = DoesEach PostsOne (c.reports old.client) old

  -- ---- Only private functions cite these definitions.
  -- a report between others was posted, and whether it is still one of those that there are to post
  abbrev pub PostsIn : List Report → Report → List Report → At K → Posted → List Line → At K → Type 0
  PostsIn before report after old posted.Gone lines new =
      PostsOne report old next.Item lines new × (c.reports new.client ≡ before ++ after)
  PostsIn before report after old posted.Stays lines new =
      PostsOne report old next.Item lines new × (c.reports new.client ≡ c.reports old.client)
  PostsIn before report after old posted.NoAnswer lines new = PostsOne report old next.Part lines new
  PostsIn before report after old posted.Memory lines new = PostsOne report old next.Memory lines new

  -- the report at a place was posted
  abbrev pub PostsAt : ℕ → At K → Posted → List Line → At K → Type 0
  PostsAt place old result lines new =
      (before after : List Report) (report : Report) → c.reports old.client ≡ before ++ report ∷ after → length before ≡ place
      → PostsIn before report after old result lines new

-- what comes next in the round
abbrev pub next_posted : Posted → Next
next_posted posted.Gone = next.Item
next_posted posted.Stays = next.Item
next_posted posted.NoAnswer = next.Part
next_posted posted.Memory = next.Memory

-- what became of a report that was settled so
abbrev pub settled : Result Bool AllocError → Posted
settled (Ok true) = posted.Gone
settled (Ok false) = posted.Stays
settled (Err error) = posted.Memory

-- and of one of which nothing came
abbrev pub missed : Next → Posted
missed next.Item = posted.Stays
missed next.Part = posted.NoAnswer
missed next.Memory = posted.Memory

-- the place of the report behind it
abbrev pub place_after : Posted → ℕ → ℕ
place_after posted.Stays place = place + 1
place_after other place = place

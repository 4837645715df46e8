-- A part of a round that doesn't end it had the memory that its requests wanted.
use Rattle.std.proofs.Common.{◌≢◌, List, None, Some, Result, Ok, Err, inl, inr, ap, ◌∙◌}
use Rattle.std.specs.declared.option.Option.{Option}
use Rattle.fix_site.specs.declared.site.Site.{Site}
use Rattle.report_text.specs.declared.report.Report.{Report}
use Rattle.server_text.specs.declared.site_versions.SiteVersion.{SiteVersion}
use Rattle.desk_rounds.specs.declared.asking.Miss.{Miss}
use Rattle.desk_rounds.specs.declared.asking.Miss.TheVariants as miss
use Rattle.desk_rounds.specs.declared.judged.Judged.{Judged}
use Rattle.desk_rounds.specs.declared.part.Next.{Next}
use Rattle.desk_rounds.specs.declared.part.Next.TheVariants as next
use Rattle.desk_rounds.specs.Clients.{At, Client}
use Rattle.desk_rounds.specs.Gathering.{GathersListed, KeepsCame}
use Rattle.desk_rounds.specs.Lines.{Line}
use Rattle.desk_rounds.specs.Parts.{MissedBy, next_after}
use Rattle.desk_rounds.specs.Posting.{SettlesCame}

pub missed_memory : (why : Miss) (then : Next) (lines : List Line) → then ≢ next.Memory → MissedBy why then lines → why ≢ miss.Memory
missed_memory why then lines ample (inl (is, said)) e = ample (is ∙ ap next_after e)
missed_memory why then lines ample (inr (is, none)) e = ample is

module _ {K : Type 0} (c : Client K) where
  pub keeps_memory : (came : Result (Option Site) Miss) (then : Next) (lines : List Line) (old new : K) → then ≢ next.Memory → KeepsCame c came old then lines new → came ≢ Err miss.Memory
  keeps_memory (Ok (Some site)) then lines old new ample keeps e = cc
  keeps_memory (Ok None) then lines old new ample keeps e = cc
  keeps_memory (Err why) then lines old new ample (by, same) e = missed_memory why then lines ample by (cc)

  pub listed_memory : (came : Result (List SiteVersion) Miss) (then : Next) (lines : List Line) (old new : At K) → then ≢ next.Memory → GathersListed c came old then lines new → came ≢ Err miss.Memory
  listed_memory (Ok sites) then lines old new ample did e = cc
  listed_memory (Err why) then lines old new ample (by, same) e = missed_memory why then lines ample by (cc)

  pub settles_memory : (report : Report) (came : Result Judged Miss) (then : Next) (lines : List Line) (old new : K) → then ≢ next.Memory → SettlesCame c report came old then lines new → came ≢ Err miss.Memory
  settles_memory report (Ok said) then lines old new ample settles e = cc
  settles_memory report (Err why) then lines old new ample (by, same) e = missed_memory why then lines ample by (cc)

-- The part of a round in which newer sites are gathered.
use Rattle.std.specs.Prelude.{◌≡◌, ℕ, nat_lt, List, Bool, true, false, Option, Some, None, Ok, Err}
use Rattle.std.specs.declared.result.Result.{Result}
use Rattle.fix_site.specs.declared.site.Site.{Site}
use Rattle.report_text.specs.declared.answer.Gathered.{Gathered}
use Rattle.report_text.specs.declared.answer.Gathered.TheVariants as gathered
use Rattle.server_text.specs.declared.site_versions.SiteVersion.{SiteVersion}
use Rattle.agent_attempt.specs.ActionContents.{site_at}
use Rattle.agent_state.specs.Changes.{kept_version}
use Rattle.desk_rounds.specs.declared.asking.Miss.{Miss}
use Rattle.desk_rounds.specs.declared.part.Next.{Next}
use Rattle.desk_rounds.specs.declared.part.Next.TheVariants as next
use Rattle.desk_rounds.specs.Asking.{AsksFor}
use Rattle.desk_rounds.specs.Clients.{AfterSaid, At, Client, OfClient, at}
use Rattle.desk_rounds.specs.Lines.{Line}
use Rattle.desk_rounds.specs.Parts.{DoesEach, GoesTo, MissedBy, Part}
use Rattle.desk_rounds.specs.Replies.{ListsSites, TellsSite}
use Rattle.desk_rounds.specs.Requests.{site_request, sites_request}
use Rattle.desk_rounds.specs.Ways.{Way, switched}

-- what comes next after a site was to be kept
abbrev pub next_kept : Gathered → Next
next_kept gathered.Memory = next.Memory
next_kept answer = next.Item

module _ {K : Type 0} (c : Client K) where
  -- the version of the kept site of a name, 0 where none is kept
  abbrev pub version_at : K → List ℕ → ℕ
  version_at client name = kept_version (site_at name (c.sites client))

  -- what came of asking for a site: it is kept where it is newer, and no line is printed of it
  abbrev pub KeepsCame : Result (Option Site) Miss → K → Next → List Line → K → Type 0
  KeepsCame (Ok (Some site)) old then lines new =
      (answer : Gathered) × c.keeps old site answer new × GoesTo (next_kept answer) then lines
  KeepsCame (Ok None) old then lines new = GoesTo next.Item then lines × (new ≡ old)
  KeepsCame (Err miss) old then lines new = MissedBy miss then lines × (new ≡ old)

  -- The site of a name is asked for, with the version that is kept of it.
  abbrev pub AsksSite : List ℕ → Part (At K)
  AsksSite name old then lines new =
      (came : Result (Option Site) Miss) × (between : Way)
      × AsksFor (site_request name (version_at old.client name)) (TellsSite name) old.way came between
      × AfterSaid (switched old.way between) (OfClient (KeepsCame came)) (at old.client between) then lines new

  -- where it is newer
  abbrev pub AsksWhere : Bool → List ℕ → Part (At K)
  AsksWhere true name old then lines new = AsksSite name old then lines new
  AsksWhere false name old then lines new = GoesTo next.Item then lines × (new ≡ old)

  -- A listed site is asked for and kept, where the listed version is above the kept one.
  abbrev pub GathersOne : SiteVersion → Part (At K)
  GathersOne site old = AsksWhere (nat_lt (version_at old.client site.name) site.version) site.name old

  -- what came of asking which sites there are: each is gathered, in the order of the list
  abbrev pub GathersListed : Result (List SiteVersion) Miss → Part (At K)
  GathersListed (Ok sites) old then lines new = DoesEach GathersOne sites old then lines new
  GathersListed (Err miss) old then lines new = MissedBy miss then lines × (new ≡ old)

  -- The newer sites are gathered.
  abbrev pub GathersAll : Part (At K)
  GathersAll old then lines new =
      (came : Result (List SiteVersion) Miss) × (between : Way) × AsksFor sites_request ListsSites old.way came between
      × AfterSaid (switched old.way between) (GathersListed came) (at old.client between) then lines new

-- The words `relay`, `gather` and `forget`.
use Rattle.std.specs.Prelude.{◌≡◌, ℕ, List, [], ◌∷◌, ◌++◌, codes, filter_map, Ok}
use Rattle.report_text.specs.declared.answer.Gathered.TheVariants as gathered
use Rattle.fix_site.specs.declared.site.Site.{Site}
use Rattle.fix_site.specs.Answers.{ReadsSite}
use Rattle.relay_core.specs.KeptSites.{KeepsSite}
use Rattle.relay_core.specs.Relays.{RelayState, desk_queue, empty_relay}
use Rattle.agent_attempt.specs.ActionContents.{site_at}
use Rattle.agent_state.specs.Changes.{kept_version}
use Rattle.server_text.specs.declared.site_versions.SiteVersion.{SiteVersion}
use Rattle.server_text.specs.declared.reply.Reply.{Reply}
use Rattle.server_text.specs.declared.reply.Reply.TheVariants as told
use Rattle.server_text.specs.Entries.{Entry, SiteText}
use Rattle.server_text.specs.ToldRows.{site_version}
use Rattle.server_core.specs.AcceptedTables.{view}
use Rattle.server_core.specs.DeskLimits.{desk_limits}
use Rattle.server_core.specs.Replies.{reply}
use Rattle.office_rules.specs.Deeds.{AtRelay, Deed}
use Rattle.office_rules.specs.Offices.{Office}
use Rattle.office_rules.specs.OfficeLines.{gathered_line, nothing_line, words_line}

-- ---- relay
-- A relay of this name begins, with nothing.
abbrev pub NamesRelay : List ℕ → Deed
NamesRelay name old said new =
    (said ≡ []) × (new ≡ record old { relays = old.relays ++ (name, empty_relay desk_queue) ∷ [] })

-- ---- gather
-- what the server replies to a relay that asks for a site, telling the version that it keeps, or 0
abbrev pub site_reply : List Entry → RelayState → List ℕ → Reply
site_reply accepted relay site = reply accepted desk_limits (SiteText site (kept_version (site_at site relay.sites)))

-- The relay takes the site whose text the reply has, and a line says so. At any other reply nothing is done.
abbrev pub TakesText : List ℕ → Reply → RelayState → List ℕ → RelayState → Type 0
TakesText name (told.Site text) old said new =
    (site : Site) × ReadsSite text (Ok site) × KeepsSite old site gathered.New new × (said ≡ gathered_line name site.name site.version)
TakesText name other old said new = (said ≡ []) × (new ≡ old)

-- The relay asks for each of these sites in turn, and takes those that are newer.
abbrev pub TakesNewer : List ℕ → List Entry → List SiteVersion → RelayState → List ℕ → RelayState → Type 0
TakesNewer name accepted [] old said new = (said ≡ []) × (new ≡ old)
TakesNewer name accepted (site ∷ sites) old said new =
    (between : RelayState) × (one : List ℕ) × (other : List ℕ) × TakesText name (site_reply accepted old site.name) old one between
    × TakesNewer name accepted sites between other new × (said ≡ one ++ other)

-- the lines, or another one where there is none
abbrev pub or_line : List ℕ → List ℕ → List ℕ
or_line other [] = other
or_line other lines = lines

-- A relay asks for each site that the server has, `actionsite` too, in byte order of their names.
abbrev pub GathersAt : List ℕ → Office → RelayState → List ℕ → RelayState → Type 0
GathersAt name o old said new =
    (taken : List ℕ) × TakesNewer name o.accepted (filter_map site_version (view o.accepted)) old taken new
    × (said ≡ or_line (nothing_line (codes "gather" ∷ name ∷ [])) taken)

abbrev pub Gathers : List ℕ → Deed
Gathers name old said new = AtRelay name (GathersAt name old) old said new

-- ---- forget
-- A relay begins anew: it queues no report, knows of none that the server holds it, and keeps no site.
abbrev pub ForgetsAt : List ℕ → RelayState → List ℕ → RelayState → Type 0
ForgetsAt name old said new = (said ≡ words_line (codes "forget" ∷ name ∷ [])) × (new ≡ empty_relay desk_queue)

abbrev pub Forgets : List ℕ → Deed
Forgets name = AtRelay name (ForgetsAt name)

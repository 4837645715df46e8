-- What a reply to each request of a round may be: the one table, for relays and agents.
use Rattle.std.specs.Prelude.{◌≡◌, ℕ, List, [], ◌∷◌, ◌++◌, map, flat_map, All, true, Option, Some, None, MatchOption}
use Rattle.std.specs.Ordering.{nat_cmp}
use Rattle.std.specs.Cmp.Lexicographic.{slice_cmp}
use Rattle.std.specs.List.Sorted.{IsStrictlySortedBy}
use Rattle.line_forms.specs.Names.{IsName}
use Rattle.line_forms.specs.Numbers.{IsId}
use Rattle.fix_site.specs.Answers.{IsShort}
use Rattle.fix_site.specs.Sites.{IsSite, site_text}
use Rattle.fix_site.specs.declared.site.Site.{Site as TheSite}
use Rattle.server_text.specs.Bodies.{version_line}
use Rattle.server_text.specs.declared.reply.Reply.TheVariants.{Sites, Site, Same, Content, NoSuch}
use Rattle.server_text.specs.declared.site_versions.SiteVersion.{SiteVersion}
use Rattle.http_replies.specs.declared.answer.Answer.{Answer}
use Rattle.http_replies.specs.declared.answer.Answer.TheVariants.{Reply}
use Rattle.http_replies.specs.Statuses.{answer_body, answer_status, reply_status}
use Rattle.desk_rounds.specs.Judgements.{HasForm, answer_of, may_hear}
use Rattle.desk_rounds.specs.declared.judged.Asker.{Asker}
use Rattle.desk_rounds.specs.declared.judged.Judged.{Judged}
use denote.Ref.{Bor}

-- a reply with this status and this body says this
pub record Says (status : ℕ) (body : List ℕ) (answer : Answer) : Type 0 where
  pub status_is : status ≡ answer_status answer
  pub body_is : body ≡ answer_body answer

-- a site that can be listed: its version is from 1 to 2^53
pub record IsListed (site : SiteVersion) : Type 0 where
  pub name : IsName site.name
  pub version : IsId site.version

-- listed sites: their names are in strictly ascending byte order
pub record AreListed (sites : List SiteVersion) : Type 0 where
  pub good : All IsListed sites
  pub ascending : IsStrictlySortedBy (slice_cmp nat_cmp) (map (λ (site : SiteVersion). site.name) sites)

-- ---- the table
-- `GET /sites`: the lines of such sites, of which there may be none
pub record ListsSites (status : ℕ) (body : List ℕ) (sites : List SiteVersion) : Type 0 where
  pub says : Says status body (Reply (Sites sites))
  pub listed : AreListed sites

-- the text of a site that has this name and can be spelled within the limit of such texts
pub record GivesSite (name : List ℕ) (status : ℕ) (body : List ℕ) (site : TheSite) : Type 0 where
  pub says : Says status body (Reply (Site (site_text site)))
  pub short : IsShort (site_text site)
  pub good : IsSite site
  pub named : site.name ≡ name

-- `GET /sites/{name}/{version}`: that, or `same`
abbrev pub TellsSite : List ℕ → ℕ → List ℕ → Option TheSite → Type 0
TellsSite name status body (Some site) = GivesSite name status body site
TellsSite name status body None = Says status body (Reply Same)

-- `GET /files/{sha256}`: the bytes, whatever they are, or 404 with any body
abbrev pub TellsFile : ℕ → List ℕ → Option (List ℕ) → Type 0
TellsFile status body (Some bytes) = Says status body (Reply (Content bytes))
TellsFile status body None = status ≡ reply_status NoSuch

-- what is said of a report, in its form
pub record SaysOfReport (status : ℕ) (body : List ℕ) (judged : Judged) : Type 0 where
  pub says : Says status body (answer_of judged)
  pub form : HasForm judged

-- `POST /reports`: that, where an agent, or a relay, may be told it
pub record JudgesReport (asker : Asker) (status : ℕ) (body : List ℕ) (judged : Judged) : Type 0 where
  pub said : SaysOfReport status body judged
  pub heard : may_hear asker judged ≡ true

-- ---- Only private functions cite these definitions.
-- what a reply says of a report to anybody, if it says anything
abbrev pub FindsSaid : ℕ → List ℕ → Option Judged → Type 0
FindsSaid status body found =
    MatchOption found ((judged : Judged) → ¬ SaysOfReport status body judged) (λ judged. SaysOfReport status body judged)

-- what stands between these words and the LF at the end, or None where the body isn't so
abbrev pub FindsValue : List ℕ → List ℕ → Option (Bor (List ℕ)) → Type 0
FindsValue words body found =
    MatchOption found ((value : List ℕ) → ¬ (body ≡ words ++ (value ++ 10 ∷ [])))
    (λ value. body ≡ words ++ (value.now ++ 10 ∷ []))

-- the text of such sites
pub record AreVersionsIn (text : List ℕ) (sites : List SiteVersion) : Type 0 where
  pub listed : AreListed sites
  pub text_is : text ≡ flat_map version_line sites

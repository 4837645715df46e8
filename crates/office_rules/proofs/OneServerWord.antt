-- What the server and the relays do of an order comes to one thing.
use Rattle.std.proofs.Common.{◌≡◌, ◌≢◌, ℕ, List, [], ◌∷◌, ◌++◌, Ok, Err, sym, ap, subst, ◌∙◌}
use Rattle.std.specs.declared.result.Result.{Result}
use Rattle.fix_site.specs.declared.error.SiteError.{SiteError}
use Rattle.fix_site.specs.declared.error.SiteError.TheVariants as error
use Rattle.fix_site.specs.declared.site.Site.{Site}
use Rattle.fix_site.specs.Answers.{ReadsSite}
use Rattle.relay_core.specs.KeptSites.{with_site}
use Rattle.relay_core.specs.Relays.{RelayState}
use Rattle.server_text.specs.declared.request.Request.{Request}
use Rattle.server_text.specs.declared.reply.Reply.{Reply}
use Rattle.server_text.specs.declared.reply.Reply.TheVariants as told
use Rattle.server_text.specs.declared.site_versions.SiteVersion.{SiteVersion}
use Rattle.server_text.specs.Bodies.{body_of}
use Rattle.server_text.specs.Entries.{Asked, Entry}
use Rattle.server_text.specs.RequestTexts.{Asks}
use Rattle.server_core.specs.CallAnswers.{after}
use Rattle.server_core.specs.DeskLimits.{desk_limits}
use Rattle.server_core.specs.Replies.{reply}
use Rattle.office_rules.specs.Offices.{Office}
use Rattle.office_rules.specs.OfficeLines.{gathered_line}
use Rattle.office_rules.specs.RelayWords.{TakesNewer, TakesText, site_reply}
use Rattle.office_rules.specs.ServerWords.{AsksServer, replied_line}

abbrev pub OneMeaning : Type 0
OneMeaning = (request : Request) (asked other : Asked) → Asks request asked → Asks request other → asked ≡ other

abbrev pub OneReading : Type 0
OneReading = (text : List ℕ) (answer other : Result Site SiteError) → answer ≢ Err error.Memory → other ≢ Err error.Memory → ReadsSite text answer → ReadsSite text other → answer ≡ other

pub asks_once : OneMeaning → (word : List ℕ) (request : Request) (old : Office) (said other : List ℕ) (new two : Office) → AsksServer word request old said new → AsksServer word request old other two
    → (said ≡ other) × (new ≡ two)
asks_once meaning word request old said other new two p q =
    let same : p.asked ≡ q.asked = meaning request p.asked q.asked p.asks q.asks in (
      p.said_is ∙ ap (λ (a : Asked). replied_line word (body_of (reply old.accepted desk_limits a))) same ∙ sym q.said_is,
      p.new_is ∙ ap (λ (a : Asked). record old { accepted = after old.accepted desk_limits a }) same ∙ sym q.new_is,
    )

abbrev site_of : Site → Result Site SiteError → Site
site_of other (Ok site) = site
site_of other (Err fault) = other

site_once : OneReading → (text : List ℕ) (x y : Site) → ReadsSite text (Ok x) → ReadsSite text (Ok y) → x ≡ y
site_once reading text x y p q = ap (site_of x) (reading text (Ok x) (Ok y) (λ e. absurd (cc)) (λ e. absurd (cc)) p q)

text_once : OneReading → (name : List ℕ) (answer : Reply) (old : RelayState) (said other : List ℕ) (new two : RelayState) → TakesText name answer old said new → TakesText name answer old other two
    → (said ≡ other) × (new ≡ two)
text_once reading name (told.Site text) old said other new two (site, reads, keeps, is) (site', reads', keeps', is') =
    let same : site ≡ site' = site_once reading text site site' reads reads' in (
      is ∙ ap (λ (s : Site). gathered_line name s.name s.version) same ∙ sym is',
      keeps.1 ∙ ap (λ (s : Site). record old { sites = with_site s old.sites }) same ∙ sym keeps'.1,
    )
text_once reading name told.Ok old said other new two p q = (p.0 ∙ sym q.0, p.1 ∙ sym q.1)
text_once reading name told.Again old said other new two p q = (p.0 ∙ sym q.0, p.1 ∙ sym q.1)
text_once reading name (told.Digest digest) old said other new two p q = (p.0 ∙ sym q.0, p.1 ∙ sym q.1)
text_once reading name (told.Sites sites) old said other new two p q = (p.0 ∙ sym q.0, p.1 ∙ sym q.1)
text_once reading name told.Same old said other new two p q = (p.0 ∙ sym q.0, p.1 ∙ sym q.1)
text_once reading name (told.Content bytes) old said other new two p q = (p.0 ∙ sym q.0, p.1 ∙ sym q.1)
text_once reading name (told.Rows rows) old said other new two p q = (p.0 ∙ sym q.0, p.1 ∙ sym q.1)
text_once reading name (told.BadText line) old said other new two p q = (p.0 ∙ sym q.0, p.1 ∙ sym q.1)
text_once reading name (told.Conflict digest) old said other new two p q = (p.0 ∙ sym q.0, p.1 ∙ sym q.1)
text_once reading name told.NoSuch old said other new two p q = (p.0 ∙ sym q.0, p.1 ∙ sym q.1)
text_once reading name (told.Older version) old said other new two p q = (p.0 ∙ sym q.0, p.1 ∙ sym q.1)
text_once reading name (told.Full limit) old said other new two p q = (p.0 ∙ sym q.0, p.1 ∙ sym q.1)
text_once reading name told.KeeperFault old said other new two p q = (p.0 ∙ sym q.0, p.1 ∙ sym q.1)
text_once reading name told.Memory old said other new two p q = (p.0 ∙ sym q.0, p.1 ∙ sym q.1)

pub newer_once : OneReading → (name : List ℕ) (accepted : List Entry) (sites : List SiteVersion) (old : RelayState) (said other : List ℕ) (new two : RelayState) → TakesNewer name accepted sites old said new
    → TakesNewer name accepted sites old other two → (said ≡ other) × (new ≡ two)
newer_once reading name accepted [] old said other new two p q = (p.0 ∙ sym q.0, p.1 ∙ sym q.1)
newer_once reading name accepted (site ∷ sites) old said other new two (mid, a, b, p, q, is) (far, c, d, p', q', is') =
    let first = text_once reading name (site_reply accepted old site.name) old a c mid far p p' in
    let second = newer_once reading name accepted sites mid b d new two q (subst (λ (r : RelayState). TakesNewer name accepted sites r d two) (sym first.1) q') in
    (is ∙ (λ j. first.0 j ++ second.0 j) ∙ sym is', second.1)

-- A relay that gathers, as a word.
use Rattle.std.proofs.Common.{◌≡◌, ℕ, ◌+◌, ◌<◌, ◌≤◌, ◌⊎◌, inl, inr, arith, List, [], ◌∷◌, ◌++◌, length, refl, sym, ap, subst, ◌∙◌}
use Rattle.std.specs.Prelude.{codes, filter_map, get_or, slice_set, All}
use Rattle.std.proofs.lemmas.List.{append-nil, length-append}
use Rattle.desk_keep.specs.declared.change.Change.{Change}
use Rattle.relay_core.specs.KeptSites.{AreKept}
use Rattle.relay_core.specs.Relays.{RelayState}
use Rattle.server_text.specs.declared.reply.Reply.{Reply}
use Rattle.server_text.specs.declared.reply.Reply.TheVariants as told
use Rattle.server_text.specs.declared.request.Request.TheVariants as request
use Rattle.server_text.specs.declared.site_versions.SiteVersion.{SiteVersion}
use Rattle.server_text.specs.Entries.{Asked, Entry}
use Rattle.server_text.specs.ToldRows.{site_version}
use Rattle.server_core.specs.AcceptedTables.{view}
use Rattle.server_core.specs.CallAnswers.{after}
use Rattle.server_core.specs.DeskLimits.{desk_limits}
use Rattle.server_core.specs.Replies.{reply}
use Rattle.office_rules.specs.OfficeLines.{nothing_line}
use Rattle.office_rules.specs.RelayWords.{Gathers, GathersAt, TakesNewer, or_line}
use Rattle.office_play.specs.Gathering.{TakesEachOver}
use Rattle.office_play.specs.Kept.{AreRowsOf, HasAccepted, KeptOffice, office_of}
use Rattle.office_play.specs.Links.{IsGoodOffice, IsGoodRelay, IsPlaceOf, IsReportOf}
use Rattle.office_play.specs.Played.{AnswersOver, Plays}
use Rattle.office_play.specs.States.{OfficeState, kept_of}
use Rattle.office_play.proofs.AtPlaces.{plays_at_relay}
use Rattle.office_play.proofs.Places.{at_place, named_holds}

-- ---- the sites of the server
-- The reply has the sites of what was accepted, which stays.
pub asked_sites : (old new : List Change) (answer : Reply) → AnswersOver old request.AskSites answer new → (accepted : List Entry)
    → AreRowsOf accepted old → (answer ≡ told.Sites (filter_map site_version (view accepted))) × AreRowsOf accepted new
asked_sites old new answer answers accepted are =
    let a = answers accepted are in
    (a.answer_is ∙ ap (reply accepted desk_limits) a.asks, subst (λ (q : Asked). AreRowsOf (after accepted desk_limits q) new) a.asks a.rows_are)

pub sites_told : (old new : List Change) (answer : Reply) → AnswersOver old request.AskSites answer new → HasAccepted old
    → (sites : List SiteVersion) × (answer ≡ told.Sites sites)
sites_told old new answer answers has = (filter_map site_version (view has.0), (asked_sites old new answer answers has.0 has.1).0)

pub rows_stay : (old new : List Change) (answer : Reply) → AnswersOver old request.AskSites answer new → HasAccepted old → new ≡ old
rows_stay old new answer answers has = (asked_sites old new answer answers has.0 has.1).1.rows_are ∙ sym has.1.rows_are

same_sites : (a b : List SiteVersion) → told.Sites a ≡ told.Sites b → a ≡ b
same_sites a b e = cc

-- ---- what is said
-- There were lines, or there was none and another one was written.
abbrev pub SaysTaken : List ℕ → List ℕ → List ℕ → List ℕ → Type 0
SaysTaken other out mid written =
    ((length out < length mid) × (written ≡ mid)) ⊎ ((length mid ≤ length out) × (written ≡ mid ++ other))

some_taken : (other taken : List ℕ) → 0 < length taken → or_line other taken ≡ taken
some_taken other [] some = absurd (omega (arith, some))
some_taken other (x ∷ taken) some = refl

none_taken : (taken : List ℕ) → length taken ≡ 0 → taken ≡ []
none_taken [] none = refl
none_taken (x ∷ taken) none = absurd (omega (arith, none))

said_taken : (other out mid written taken : List ℕ) → SaysTaken other out mid written → mid ≡ out ++ taken
    → written ≡ out ++ or_line other taken
said_taken other out mid written taken (inl some) is =
    let long : length mid ≡ length out + length taken = ap length is ∙ length-append out taken in
    let lines : 0 < length taken = omega (arith, long, some.0) in
    some.1 ∙ is ∙ ap (λ l. out ++ l) (sym (some_taken other taken lines))
said_taken other out mid written taken (inr none) is =
    let long : length mid ≡ length out + length taken = ap length is ∙ length-append out taken in
    let empty : length taken ≡ 0 = omega (arith, long, none.0) in
    let nothing : taken ≡ [] = none_taken taken empty in
    let still : mid ≡ out = is ∙ ap (λ l. out ++ l) nothing ∙ append-nil out in
    none.1 ∙ ap (λ l. l ++ other) still ∙ ap (λ l. out ++ or_line other l) (sym nothing)

-- ---- the word
pub gathers : (old new : KeptOffice) (name : List ℕ) (place : ℕ) (entry : List ℕ × RelayState) (then : RelayState)
    (sites : List SiteVersion) (rows : List Change) (out mid written : List ℕ) → IsPlaceOf name old.relays place
    → entry ≡ get_or old.relays place entry → IsGoodOffice old → HasAccepted old.rows → AreKept then.sites
    → then ≡ record entry.1 { sites = then.sites } → AnswersOver old.rows request.AskSites (told.Sites sites) rows
    → TakesEachOver entry.0 rows sites entry.1 out then mid → SaysTaken (nothing_line (codes "gather" ∷ name ∷ [])) out mid written
    → new ≡ record old { rows = rows; relays = slice_set old.relays place (entry.0, then) } → Plays (Gathers name) old out new written
gathers old new name place entry then sites rows out mid written at is good has kept only answers takes said new_is =
    let other = nothing_line (codes "gather" ∷ name ∷ []) in
    let still : rows ≡ old.rows = rows_stay old.rows rows (told.Sites sites) answers has in
    let named = (at_place name old.relays place entry at.first is).0 in
    let relay = named_holds (λ (e : List ℕ × RelayState). IsGoodRelay old.computers e.1) name old.relays place entry at is good.relays in
    plays_at_relay (Gathers name) (λ accepted. GathersAt name (office_of accepted old)) name old new place entry then out written
    (λ accepted said n d. d) at is good
    (record { sites = kept; queue = subst (λ (r : RelayState). All (IsReportOf old.computers) r.queue) (sym only) relay.queue })
    (λ accepted are.
    let told_sites = asked_sites old.rows rows (told.Sites sites) answers accepted are in
    let same : sites ≡ filter_map site_version (view accepted) = same_sites sites (filter_map site_version (view accepted)) told_sites.0 in
    let taken = takes accepted told_sites.1 in (
      or_line other taken.0,
      (
        taken.0,
        subst (λ l. TakesNewer name accepted l entry.1 taken.0 then) same
            (subst (λ n. TakesNewer n accepted sites entry.1 taken.0 then) (sym named) taken.1),
        refl,
      ),
      said_taken other out mid written taken.0 said taken.2,
    ))
    (new_is ∙ ap (λ (r : List Change). record old { rows = r; relays = slice_set old.relays place (entry.0, then) }) still)

-- ---- in the code
-- The office with other rows and another relay at a place, as the code sees it.
pub gathered_seen : (seen old : OfficeState) (place : ℕ) (entry item : List ℕ × RelayState) (w : RelayState) (asked rows : List Change)
    → seen ≡ old → item ≡ (entry.0, w) → rows ≡ asked
    → record (kept_of seen) { rows = rows; relays = slice_set seen.relays place item }
    ≡ record (kept_of old) { rows = asked; relays = slice_set old.relays place (entry.0, w) }
gathered_seen seen old place entry item w asked rows is same still =
    ap (λ (o : OfficeState). record (kept_of o) { rows = rows; relays = slice_set o.relays place item }) is
    ∙ (λ i. record (kept_of old) { rows = still i; relays = slice_set old.relays place (same i) })

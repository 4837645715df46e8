-- The texts of sites that are answered.
use Rattle.std.proofs.Common.{◌≡◌, ◌≢◌, ℕ, ◌<◌, ◌≤◌, nat_lt, List, [], ◌∷◌, Bool, true, false, cond, Some, None, ◌⊎◌, inl, inr, codes, map, refl, sym, ap, ◌∙◌, subst, arith}
use Rattle.std.specs.Prelude.{Contains, Ok, bytes_eq, ◌↔◌}
use Rattle.std.specs.List.{AllByRecursion}
use Rattle.std.specs.declared.option.Option.{Option}
use Rattle.std.proofs.lemmas.Bool.Decides.{nat_tests}
use Rattle.std.proofs.lemmas.List.Elements.{Contains-append_right}
use Rattle.std.proofs.lemmas.Slice.Eq.{bytes_eq-Decides}
use Rattle.line_forms.specs.Numbers.{IsId}
use Rattle.fix_site.specs.declared.site.Site.{Site}
use Rattle.fix_site.specs.declared.action.Action.{Action}
use Rattle.fix_site.specs.declared.block.Block.TheVariants.{Action as action_block}
use Rattle.fix_site.specs.Actions.{IsAction, action_text}
use Rattle.fix_site.specs.Answers.{IsShort, ReadsSite}
use Rattle.fix_site.specs.Sites.{IsSite, site_text}
use Rattle.desk_keep.specs.declared.change.Change.{Change}
use Rattle.desk_keep.specs.declared.change.Change.TheVariants as change
use Rattle.desk_keep.specs.declared.find.Find.TheVariants as find
use Rattle.desk_keep.specs.Keys.{asked_key}
use Rattle.desk_keep.specs.Tables.{AreRows, row_at}
use Rattle.desk_keep.proofs.Putting.{found_fits, found_key}
use Rattle.server_core.specs.declared.limits.Limits.{Limits}
use Rattle.server_text.specs.declared.reply.Reply.TheVariants as told
use Rattle.server_text.specs.Actionsite.{actionsite_of, actionsite_text, longest_actionsite}
use Rattle.server_core.specs.CallAnswers.{AreAccepted}
use Rattle.server_text.specs.Entries.{Entry, Published, SiteText}
use Rattle.server_core.specs.Replies.{reply, site_reply, text_of_site}
use Rattle.server_text.specs.ToldRows.{action_texts}
use Rattle.server_core.specs.AcceptedTables.{action_at, site_at, view}
use Rattle.server_core.specs.TableViews.{ShowsSite}
use Rattle.server_core.proofs.Accepting.{IsEntry, actionsite_name, tables_are_rows}
use Rattle.server_core.proofs.ActionLists.{AreActionRows-view, IsAt, IsRow, OneAction, act_at, acts, acts_follow, acts_texts, at_act, blocks}
use Rattle.server_core.proofs.KeptSites.{sites_shown}
use Rattle.server_core.proofs.Measures.{actionsite_short}
use Rattle.server_core.proofs.RowsAfter.{cons_head, cons_tail, in_cons, in_nothing}
use Rattle.server_core.proofs.Staying.{member_is}

-- ---- the text of `actionsite` is that of a site

abbrev actionsite : List ℕ
actionsite = codes "actionsite"

-- the laws of sites that are made and read
abbrev pub MadeIsRead : Type 0
MadeIsRead = (version : ℕ) (actions : List Action) → IsSite (actionsite_of version actions) → longest_actionsite (map action_text actions) ≤ 4194304
    → ReadsSite (actionsite_text version (map action_text actions)) (Ok (actionsite_of version actions))

abbrev pub OneSite : Type 0
OneSite = (site other : Site) → IsSite site → IsSite other → site_text site ≡ site_text other → site ≡ other

abbrev made : (version : ℕ) (rows : List Change) → AllByRecursion IsRow rows → Site
made version rows h = actionsite_of version (acts rows h)

made_site : (version : ℕ) (rows : List Change) (h : AllByRecursion IsRow rows) → IsId version → AreRows rows → IsSite (made version rows h)
made_site version rows h is are = record { name = actionsite_name; version = is; blocks = acts_follow rows h are.ascending }

reads_made : MadeIsRead → (version : ℕ) (rows : List Change) (h : AllByRecursion IsRow rows) → IsId version → AreRows rows → longest_actionsite (action_texts rows) ≤ 4194304 → ReadsSite (actionsite_text version (action_texts rows)) (Ok (made version rows h))
reads_made law version rows h is are short =
    let P : List (List ℕ) → Type 0 = λ t. ReadsSite (actionsite_text version t) (Ok (made version rows h)) in
    let Q : List (List ℕ) → Type 0 = λ t. longest_actionsite t ≤ 4194304 in
    subst P (sym (acts_texts rows h)) (law version (acts rows h) (made_site version rows h is are) (subst Q (acts_texts rows h) short))

-- ---- what is told of a site

-- A text that is told is that of a row.
abbrev IsTold : List Change → ℕ → Option Change → List ℕ → Type 0
IsTold rows version found text =
    (name : List ℕ) × (kept : ℕ) × (own : List ℕ) × (found ≡ Some (change.Site name kept own)) × (version < kept) × (text ≡ text_of_site rows name kept own)

same_text : (text other : List ℕ) → told.Site text ≡ told.Site other → text ≡ other
same_text text other e = cc

newer_told : (rows : List Change) (version : ℕ) (name : List ℕ) (kept : ℕ) (own text : List ℕ) → site_reply rows version (Some (change.Site name kept own)) ≡ told.Site text → (version < kept) × (text ≡ text_of_site rows name kept own)
newer_told rows version name kept own text =
    elim (nat_lt version kept) as (λ b. nat_lt version kept ≡ b → cond b (told.Site (text_of_site rows name kept own)) told.Same ≡ told.Site text → (version < kept) × (text ≡ text_of_site rows name kept own)) [
      | true ↦ λ e is. (grind (arith, nat_tests), sym (same_text (text_of_site rows name kept own) text is))
      | false ↦ λ e is. absurd (no_text text is)
    ] refl
  where
    no_text : (text : List ℕ) → told.Same ≡ told.Site text → ⊥
    no_text text e = cc

none_such : (text : List ℕ) → told.NoSuch ≡ told.Site text → ⊥
none_such text e = cc

told_text : (rows : List Change) (version : ℕ) (found : Option Change) (text : List ℕ) → site_reply rows version found ≡ told.Site text → IsTold rows version found text
told_text rows version None text e = absurd (none_such text e)
told_text rows version (Some (change.Site name kept own)) text e = let h = newer_told rows version name kept own text e in (name, kept, own, refl, h.0, h.1)
told_text rows version (Some (change.Action id own digest)) text e = absurd (none_such text e)
told_text rows version (Some (change.File digest bytes)) text e = absurd (none_such text e)
told_text rows version (Some (change.Computer name)) text e = absurd (none_such text e)
told_text rows version (Some (change.Report computer seq digest)) text e = absurd (none_such text e)
told_text rows version (Some (change.Result result)) text e = absurd (none_such text e)

abbrev IsAnswered : List ℕ → ℕ → List ℕ → Type 0
IsAnswered name version text = (site : Site) × ReadsSite text (Ok site) × (site.name ≡ name) × (version < site.version)

row_version : (a b : List ℕ) (v w : ℕ) (t u : List ℕ) → change.Site a v t ≡ change.Site b w u → v ≡ w
row_version a b v w t u e = cc

row_text : (a b : List ℕ) (v w : ℕ) (t u : List ℕ) → change.Site a v t ≡ change.Site b w u → t ≡ u
row_text a b v w t u e = cc

-- a site that was published
published : (accepted : List Entry) (name : List ℕ) (version : ℕ) (own : List ℕ) (kept : ℕ) (title : List ℕ) → AreAccepted accepted → ShowsSite accepted name (Some (change.Site title kept own)) → version < kept → IsAnswered name version own
published accepted name version own kept title are h less =
    let site = h.0 in
    let last = h.1 in
    let has : Contains accepted (Published site) =
    subst (λ l. Contains l (Published site)) (sym last.2) (Contains-append_right last.0 (Published site ∷ last.1) (Published site) (cons_head (Published site) last.1)) in
    let is : IsEntry (Published site) = member_is accepted are (Published site) has in
    let same : own ≡ site_text site = row_text title name kept site.version own (site_text site) h.2 in (
      site,
      (subst IsShort (sym same) is.2, is.0, same),
      last.3,
      subst (λ v. version < v) (row_version title name kept site.version own (site_text site) h.2) less,
    )

-- the version that is kept of a site
kept_id : (rows : List Change) (asked name : List ℕ) (kept : ℕ) (own : List ℕ) → AreRows rows → site_at asked rows ≡ Some (change.Site name kept own) → IsId kept
kept_id rows asked name kept own are found = (found_fits (asked_key (find.Site asked)) rows (change.Site name kept own) are.fit found).1

-- a text of `actionsite` is that of its actions
made_text : (rows : List Change) (name : List ℕ) (kept : ℕ) (own : List ℕ) → name ≡ actionsite → text_of_site rows name kept own ≡ actionsite_text kept (action_texts rows)
made_text rows name kept own is = ap (λ b. cond b (actionsite_text kept (action_texts rows)) own) ((bytes_eq-Decides name actionsite).1 is)

own_text : (rows : List Change) (name : List ℕ) (kept : ℕ) (own : List ℕ) → bytes_eq name actionsite ≡ false → text_of_site rows name kept own ≡ own
own_text rows name kept own other = ap (λ b. cond b (actionsite_text kept (action_texts rows)) own) other

reads_actionsite : MadeIsRead → (accepted : List Entry) (are : AreAccepted accepted) (name : List ℕ) (kept : ℕ) (own : List ℕ) → site_at name (view accepted) ≡ Some (change.Site name kept own) → name ≡ actionsite
    → ReadsSite (text_of_site (view accepted) name kept own) (Ok (made kept (view accepted) (AreActionRows-view accepted are)))
reads_actionsite law accepted are name kept own found is =
    let rows = view accepted in
    let h = AreActionRows-view accepted are in
    let ordered = tables_are_rows accepted are in
    let P : List ℕ → Type 0 = λ t. ReadsSite t (Ok (made kept rows h)) in
    subst P (sym (made_text rows name kept own is)) (reads_made law kept rows h (kept_id rows name name kept own ordered found) ordered (actionsite_short accepted are))

-- the row that is told has the name
row_named : (rows : List Change) (asked name : List ℕ) (kept : ℕ) (own : List ℕ) → site_at asked rows ≡ Some (change.Site name kept own) → name ≡ asked
row_named rows asked name kept own found = ap (λ k. k.name) (found_key (asked_key (find.Site asked)) rows (change.Site name kept own) found)

true_false : (b : Bool) → b ≡ true → b ≡ false → ⊥
true_false b one other = cc

answered_row : MadeIsRead → (accepted : List Entry) → AreAccepted accepted → (name : List ℕ) (version kept : ℕ) (own : List ℕ) → site_at name (view accepted) ≡ Some (change.Site name kept own) → version < kept
    → IsAnswered name version (text_of_site (view accepted) name kept own)
answered_row law accepted are name version kept own found less =
    let rows = view accepted in
    elim (bytes_eq name actionsite) as (λ b. bytes_eq name actionsite ≡ b → IsAnswered name version (text_of_site rows name kept own)) [
      | true ↦ λ e.
          let is : name ≡ actionsite = (bytes_eq-Decides name actionsite).0 e in
          (made kept rows (AreActionRows-view accepted are), reads_actionsite law accepted are name kept own found is, sym is, less)
      | false ↦ λ e.
          let other : name ≢ actionsite = λ is. true_false (bytes_eq name actionsite) ((bytes_eq-Decides name actionsite).1 is) e in
          subst (IsAnswered name version) (sym (own_text rows name kept own e))
          (published accepted name version own kept name are (subst (ShowsSite accepted name) found (sites_shown accepted name other)) less)
    ] refl

pub site_answered : MadeIsRead → (accepted : List Entry) (limits : Limits) (name : List ℕ) (version : ℕ) (text : List ℕ) → AreAccepted accepted → reply accepted limits (SiteText name version) ≡ told.Site text → IsAnswered name version text
site_answered law accepted limits name version text are e =
    let rows = view accepted in
    let h = told_text rows version (site_at name rows) text e in
    let same : h.0 ≡ name = row_named rows name h.0 h.1 h.2 h.3 in
    let P : List ℕ → Type 0 = λ n. (site_at name rows ≡ Some (change.Site n h.1 h.2)) × (text ≡ text_of_site rows n h.1 h.2) in
    let at : P name = subst P same (h.3, h.5) in
    subst (IsAnswered name version) (sym at.1) (answered_row law accepted are name version h.1 h.2 at.0 h.4)

-- ---- the actions of the text

block_same : (action other : Action) → action_block action ≡ action_block other → action ≡ other
block_same action other e = cc

in_blocks : (actions : List Action) (action : Action) → Contains (blocks actions) (action_block action) → Contains actions action
in_blocks [] action has = absurd (in_nothing (action_block action) has)
in_blocks (first ∷ actions) action has = elim (in_cons (action_block first) (blocks actions) (action_block action) has) as (λ c. Contains (first ∷ actions) action) [
  | inl e ↦ subst (Contains (first ∷ actions)) (block_same first action e) (cons_head first actions)
  | inr rest ↦ cons_tail first actions action (in_blocks actions action rest)
]

to_blocks : (actions : List Action) (action : Action) → Contains actions action → Contains (blocks actions) (action_block action)
to_blocks [] action has = absurd (in_nothing action has)
to_blocks (first ∷ actions) action has = elim (in_cons first actions action has) as (λ c. Contains (action_block first ∷ blocks actions) (action_block action)) [
  | inl e ↦ subst (λ a. Contains (action_block first ∷ blocks actions) (action_block a)) e (cons_head (action_block first) (blocks actions))
  | inr rest ↦ cons_tail (action_block first) (blocks actions) (action_block action) (to_blocks actions action rest)
]

pub actions_answered : MadeIsRead → OneSite → OneAction → (accepted : List Entry) (limits : Limits) (version : ℕ) (text : List ℕ) (site : Site) (action : Action) → AreAccepted accepted
    → reply accepted limits (SiteText (codes "actionsite") version) ≡ told.Site text → ReadsSite text (Ok site) → IsAction action → Contains site.blocks (action_block action) ↔ IsAt action (view accepted)
actions_answered law sites one accepted limits version text site action are e reads is =
    let rows = view accepted in
    let all = AreActionRows-view accepted are in
    let ordered = tables_are_rows accepted are in
    let h = told_text rows version (site_at actionsite rows) text e in
    let same : h.0 ≡ actionsite = row_named rows actionsite h.0 h.1 h.2 h.3 in
    let P : List ℕ → Type 0 = λ n. (site_at actionsite rows ≡ Some (change.Site n h.1 h.2)) × (text ≡ text_of_site rows n h.1 h.2) in
    let at : P actionsite = subst P same (h.3, h.5) in
    let own : ReadsSite text (Ok (made h.1 rows all)) = subst (λ t. ReadsSite t (Ok (made h.1 rows all))) (sym at.1) (reads_actionsite law accepted are actionsite h.1 h.2 at.0 refl) in
    let this : site ≡ made h.1 rows all = sites site (made h.1 rows all) reads.1 own.1 (sym reads.2 ∙ own.2) in
    let Q : Site → Type 0 = λ s. Contains s.blocks (action_block action) ↔ IsAt action rows in
    subst Q (sym this) (
      (λ has. act_at rows all ordered.ascending action (in_blocks (acts rows all) action has)),
      (λ found. to_blocks (acts rows all) action (at_act one rows all action is found)),
    )

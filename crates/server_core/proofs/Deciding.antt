-- What is answered, and what is kept then.
use Rattle.std.proofs.Common.{◌≡◌, ℕ, ◌<◌, ◌≤◌, ◌-◌, ◌+◌, ◌^◌, min, nat_le, nat_lt, List, [], ◌∷◌, ◌++◌, Bool, true, false, not, cond, Some, None, is_none, filter, map, refl, sym, ap, ◌∙◌, subst, arith}
use Rattle.std.specs.Prelude.{All, IfSome, bytes_eq, codes, count_by, filter_map, unwrap_or}
use Rattle.std.proofs.lemmas.List.Elements.{All-cons, All-nil}
use Rattle.line_forms.specs.Numbers.{IsId}
use Rattle.desk_keep.specs.Forms.{Fits}
use Rattle.desk_keep.specs.Keys.{Key, key_of}
use Rattle.server_text.specs.ActionStates.{is_stopped, stopped_text}
use Rattle.server_core.proofs.Accepting.{actionsite_name, not_so}
use Rattle.std.specs.declared.option.Option.{Option}
use Rattle.std.proofs.lemmas.Bool.Decides.{nat_tests}
use Rattle.desk_keep.specs.declared.change.Change.{Change}
use Rattle.desk_keep.specs.declared.change.Change.TheVariants as change
use Rattle.desk_keep.specs.declared.table.Table.TheVariants as table
use Rattle.desk_keep.specs.Tables.{is_of, put_all, without_text}
use Rattle.server_core.specs.declared.limits.Limits.{Limits}
use Rattle.server_text.specs.declared.reply.Reply.{Reply}
use Rattle.server_text.specs.declared.reply.Reply.TheVariants.{Again, Full, Same}
use Rattle.server_text.specs.declared.reply.Reply.TheVariants as told
use Rattle.server_text.specs.Actionsite.{actionsite_text, longest_actionsite}
use Rattle.server_text.specs.Entries.{Entry, Stopped}
use Rattle.server_core.specs.ServerParts.{AnswersEntry}
use Rattle.server_core.specs.Replies.{accepting_reply, first_of, full_of_actions, full_version, reply_to, reply_to_stop, site_reply}
use Rattle.server_text.specs.ToldRows.{action_texts, site_version}
use Rattle.server_core.specs.AcceptedTables.{action_at, actions_version, next_version_row, puts, site_at, stopped_row, version_row}

-- what isn't accepted leaves the rows
pub declined : (limits : Limits) (rows : List Change) (entry : Entry) (reply : Reply) (new : Option (List Change)) → reply_to limits rows entry ≡ Some reply → new ≡ Some rows → AnswersEntry limits rows entry reply new
declined limits rows entry reply new is kept =
    (sym (ap (λ r. unwrap_or r (accepting_reply entry)) is), kept ∙ sym (ap (λ r. Some (cond (is_none r) (put_all (puts rows entry) rows) rows)) is))

-- what is accepted is put
pub accepted : (limits : Limits) (rows : List Change) (entry : Entry) (batch : List Change) (new : Option (List Change)) → reply_to limits rows entry ≡ None → batch ≡ puts rows entry → new ≡ Some (put_all batch rows) → AnswersEntry limits rows entry (accepting_reply entry) new
accepted limits rows entry batch new is batch_is put = (
  sym (ap (λ r. unwrap_or r (accepting_reply entry)) is),
  put ∙ ap (λ b. Some (put_all b rows)) batch_is ∙ sym (ap (λ r. Some (cond (is_none r) (put_all (puts rows entry) rows) rows)) is),
)

-- ---- what is listed

pub versions_listed : (rows : List Change) → filter_map site_version (map without_text (filter (is_of table.Sites) rows)) ≡ filter_map site_version rows
versions_listed [] = refl
versions_listed (change.Site name version text ∷ rows) = ap (λ l. record { name = name; version = version } ∷ l) (versions_listed rows)
versions_listed (change.Action id text digest ∷ rows) = versions_listed rows
versions_listed (change.File digest bytes ∷ rows) = versions_listed rows
versions_listed (change.Computer name ∷ rows) = versions_listed rows
versions_listed (change.Report computer seq digest ∷ rows) = versions_listed rows
versions_listed (change.Result result ∷ rows) = versions_listed rows

pub texts_listed : (rows : List Change) → action_texts (filter (is_of table.Actions) rows) ≡ action_texts rows
texts_listed [] = refl
texts_listed (change.Site name version text ∷ rows) = texts_listed rows
texts_listed (change.Action id text digest ∷ rows) = ap (λ l. text ∷ l) (texts_listed rows)
texts_listed (change.File digest bytes ∷ rows) = texts_listed rows
texts_listed (change.Computer name ∷ rows) = texts_listed rows
texts_listed (change.Report computer seq digest ∷ rows) = texts_listed rows
texts_listed (change.Result result ∷ rows) = texts_listed rows

-- ---- limits of actions

le_false : (a b : ℕ) → b < a → nat_le a b ≡ false
le_false a b h = grind (arith, nat_tests)

lt_true : (a b : ℕ) → a < b → nat_lt a b ≡ true
lt_true a b h = grind (arith, nat_tests)

lt_false : (a b : ℕ) → b ≤ a → nat_lt a b ≡ false
lt_false a b h = grind (arith, nat_tests)

below_min : (a n m : ℕ) → a < min n m → a < n
below_min a n m h = grind arith

min_below : (n : ℕ) → min n (2 ^ 64 - 1) ≤ 4194304 → n ≤ 4194304
min_below n h = grind arith

-- the texts of the rows that were listed
measured : (text : List ℕ) (rows actions : List Change) (longest : ℕ) → actions ≡ filter (is_of table.Actions) rows → longest ≡ min (longest_actionsite (text ∷ action_texts actions)) (2 ^ 64 - 1) → longest ≡ min (longest_actionsite (text ∷ action_texts rows)) (2 ^ 64 - 1)
measured text rows actions longest listed is = is ∙ ap (λ t. min (longest_actionsite (text ∷ t)) (2 ^ 64 - 1)) (ap action_texts listed ∙ texts_listed rows)

pub too_many_bytes : (limits : Limits) (rows actions : List Change) (text : List ℕ) (count longest : ℕ) → count ≡ count_by (is_of table.Actions) rows → actions ≡ filter (is_of table.Actions) rows
    → longest ≡ min (longest_actionsite (text ∷ action_texts actions)) (2 ^ 64 - 1) → count < limits.actions → 4194304 < longest → Some (Full 4194304) ≡ full_of_actions limits rows text
too_many_bytes limits rows actions text count longest counted listed is few long =
    let n = longest_actionsite (text ∷ action_texts rows) in
    let a : nat_le limits.actions (count_by (is_of table.Actions) rows) ≡ false = ap (nat_le limits.actions) (sym counted) ∙ le_false limits.actions count few in
    let b : nat_lt 4194304 n ≡ true = lt_true 4194304 n (below_min 4194304 n (2 ^ 64 - 1) (subst (λ l. 4194304 < l) (measured text rows actions longest listed is) long)) in
    sym (λ i. first_of (cond (a i) (Some (Full limits.actions)) None ∷ cond (b i) (Some (Full 4194304)) None ∷ []))

pub room_for_action : (limits : Limits) (rows actions : List Change) (text : List ℕ) (count longest : ℕ) → count ≡ count_by (is_of table.Actions) rows → actions ≡ filter (is_of table.Actions) rows
    → longest ≡ min (longest_actionsite (text ∷ action_texts actions)) (2 ^ 64 - 1) → count < limits.actions → longest ≤ 4194304 → None ≡ full_of_actions limits rows text
room_for_action limits rows actions text count longest counted listed is few short =
    let n = longest_actionsite (text ∷ action_texts rows) in
    let a : nat_le limits.actions (count_by (is_of table.Actions) rows) ≡ false = ap (nat_le limits.actions) (sym counted) ∙ le_false limits.actions count few in
    let b : nat_lt 4194304 n ≡ false = lt_false 4194304 n (min_below n (subst (λ l. l ≤ 4194304) (measured text rows actions longest listed is) short)) in
    sym (λ i. first_of (cond (a i) (Some (Full limits.actions)) None ∷ cond (b i) (Some (Full 4194304)) None ∷ []))

-- ---- the last version

pub no_version : (rows : List Change) → 2 ^ 53 ≤ actions_version rows → full_version rows ≡ Some (Full (2 ^ 53))
no_version rows last = let e : nat_le (2 ^ 53) (actions_version rows) ≡ true = grind (arith, nat_tests) in ap (λ b. cond b (Some (Full (2 ^ 53))) None) e

pub next_version : (rows : List Change) → actions_version rows < 2 ^ 53 → full_version rows ≡ None
next_version rows free = ap (λ b. cond b (Some (Full (2 ^ 53))) None) (le_false (2 ^ 53) (actions_version rows) free)

pub none_left : (found : Option Reply) → ((reply : Reply) → found ≡ Some reply → ⊥) → found ≡ None
none_left None none = refl
none_left (Some reply) none = absurd (none reply refl)

-- ---- what an act and a stop put

pub batch_fits : (id : ℕ) (text digest : List ℕ) (row : Change) (version : ℕ) → IsId id → IsId version → row ≡ version_row version → All Fits (change.Action id text digest ∷ row ∷ [])
batch_fits id text digest row version is_id is_version is =
    All-cons Fits (change.Action id text digest) (row ∷ []) is_id (All-cons Fits row [] (subst Fits (sym is) (actionsite_name, is_version)) (All-nil Fits))

pub version_is_id : (next : Option ℕ) (version : ℕ) → next ≡ Some version → IfSome next IsId → IsId version
version_is_id next version is good = subst (λ n. IfSome n IsId) is good

pub next_is : (rows : List Change) (next : Option ℕ) (version : ℕ) → next ≡ Some version → IfSome next (λ v. (v ≡ actions_version rows + 1) × (actions_version rows < 2 ^ 53)) → (version ≡ actions_version rows + 1) × (actions_version rows < 2 ^ 53)
next_is rows next version is h = subst (λ n. IfSome n (λ v. (v ≡ actions_version rows + 1) × (actions_version rows < 2 ^ 53))) is h

pub act_accepted : (limits : Limits) (rows : List Change) (text own : List ℕ) (full : Option Reply) → text ≡ own → full ≡ full_of_actions limits rows text → full ≡ None → actions_version rows < 2 ^ 53
    → first_of (full_of_actions limits rows own ∷ full_version rows ∷ []) ≡ None
act_accepted limits rows text own full same is none free =
    let a : full_of_actions limits rows own ≡ None = ap (full_of_actions limits rows) (sym same) ∙ sym is ∙ none in
    λ i. first_of (a i ∷ next_version rows free i ∷ [])

pub stop_accepted : (limits : Limits) (rows : List Change) (id : ℕ) (found : Option Change) (own : ℕ) (text digest : List ℕ) → found ≡ action_at id rows → found ≡ Some (change.Action own text digest) → is_stopped text ≡ false
    → actions_version rows < 2 ^ 53 → reply_to limits rows (Stopped id) ≡ None
stop_accepted limits rows id found own text digest there is runs free =
    ap (reply_to_stop rows) (sym there ∙ is) ∙ ap (λ b. cond b (Some Again) (full_version rows)) runs ∙ next_version rows free

pub stop_puts : (rows : List Change) (id : ℕ) (found : Option Change) (own : ℕ) (text digest : List ℕ) → found ≡ action_at id rows → found ≡ Some (change.Action own text digest)
    → change.Action own (stopped_text text) digest ∷ next_version_row rows ∷ [] ≡ puts rows (Stopped id)
stop_puts rows id found own text digest there is = sym (ap (λ f. stopped_row f ++ next_version_row rows ∷ []) (sym there ∙ is))

pub own_id : (found : Option Change) (key : Key) (own : ℕ) (text digest : List ℕ) → found ≡ Some (change.Action own text digest) → IfSome found (λ row. (key_of row ≡ key) × Fits row) → IsId own
own_id found key own text digest is good = (subst (λ f. IfSome f (λ row. (key_of row ≡ key) × Fits row)) is good).1

-- the text of `actionsite`, where it is asked for
pub actionsite_told : (rows actions : List Change) (asked own text out : List ℕ) (kept given : ℕ) (found : Option Change) → found ≡ site_at asked rows → found ≡ Some (change.Site own kept text) → given < kept → bytes_eq own (codes "actionsite") ≡ true
    → actions ≡ filter (is_of table.Actions) rows → out ≡ actionsite_text kept (action_texts actions) → told.Site out ≡ site_reply rows given (site_at asked rows)
actionsite_told rows actions asked own text out kept given found there is newer named listed made =
    ap told.Site (made ∙ ap (actionsite_text kept) (ap action_texts listed ∙ texts_listed rows))
    ∙ sym (ap (site_reply rows given) (sym there ∙ is)
    ∙ (λ i. cond (lt_true given kept newer i) (told.Site (cond (named i) (actionsite_text kept (action_texts rows)) text)) Same))

pub none_other : (answer same : Bool) → answer ≡ not same → answer ≡ false → same ≡ true
none_other answer true is wrong = refl
none_other answer false is wrong = absurd (not_so (sym wrong ∙ is))

-- The actions that are kept, in the order of their rows.
use Rattle.std.proofs.Common.{◌≡◌, ◌≢◌, ℕ, ◌<◌, nat_lt, ◌==◌, List, [], ◌∷◌, ◌++◌, Bool, true, false, cond, Some, None, ◌⊎◌, inl, inr, codes, filter, map, refl, sym, ap, ◌∙◌, subst, arith}
use Rattle.std.specs.Prelude.{All, Contains, is_some}
use Rattle.std.specs.List.{AllByRecursion}
use Rattle.std.specs.List.Sorted.{IsStrictlySortedBy}
use Rattle.std.specs.Ordering.{is_lt, nat_cmp}
use Rattle.std.specs.declared.cmp.Ordering.TheVariants.{Less, Equal, Greater}
use Rattle.std.specs.declared.option.Option.{Option}
use Rattle.std.proofs.lemmas.List.Elements.{All-nil, All-cons, All-append, All-filter, recursion_from_All}
use Rattle.std.proofs.lemmas.Bool.Decides.{nat_tests}
use Rattle.sha2.specs.Sha256.{sha256}
use Rattle.fix_site.specs.declared.action.Action.{Action}
use Rattle.fix_site.specs.declared.block.Block.{Block}
use Rattle.fix_site.specs.declared.block.Block.TheVariants.{Fixlet as fixlet_block, Baseline as baseline_block, Action as action_block}
use Rattle.fix_site.specs.Actions.{IsAction, action_text}
use Rattle.fix_site.specs.Blocks.{AreBlocks, CanFollow, block_id}
use Rattle.report_text.specs.declared.report.Report.{Report}
use Rattle.report_text.specs.declared.report_row.ReportRow.{ReportRow}
use Rattle.report_text.specs.Reports.{report_text}
use Rattle.desk_keep.specs.declared.change.Change.{Change}
use Rattle.desk_keep.specs.declared.change.Change.TheVariants as change
use Rattle.desk_keep.specs.Keys.{Key, key_cmp, key_of, same_key}
use Rattle.desk_keep.specs.Tables.{put, put_all, row_at}
use Rattle.desk_keep.proofs.KeyOrder.{same_exact, same_itself}
use Rattle.desk_keep.proofs.Putting.{AreAbove, none_at}
use Rattle.server_core.specs.CallAnswers.{AreAccepted}
use Rattle.server_text.specs.Entries.{Entry, Filed, Issued, Published, Reported, Stopped}
use Rattle.server_text.specs.ToldRows.{action_texts}
use Rattle.server_core.specs.AcceptedTables.{action_at, has_later, next_version_row, puts, result_of, stopped_row, view}
use Rattle.server_core.proofs.Accepting.{IsEntry, entry_of}
use Rattle.server_text.proofs.ActionTexts.{is_action, stops_text}
use Rattle.server_core.proofs.KeptActions.{Shown, kept, key_for, stands}
use Rattle.server_core.proofs.RowsAfter.{cons_head, cons_tail, in_cons, in_nothing}
use Rattle.server_core.proofs.Staying.{member_is}

-- ---- each row of an action has the text of one

abbrev pub IsRow : Change → Type 0
IsRow (change.Action id text digest) = (action : Action) × IsAction action × (action.id ≡ id) × (text ≡ action_text action)
IsRow other = Unit {0}

put_rows : (row : Change) (rows : List Change) → IsRow row → All IsRow rows → All IsRow (put row rows)
put_rows row rows is all =
    All-append IsRow (filter (λ r. is_lt (key_cmp (key_of r) (key_of row))) rows) (row ∷ filter (λ r. is_lt (key_cmp (key_of row) (key_of r))) rows)
    (All-filter (λ r. is_lt (key_cmp (key_of r) (key_of row))) IsRow rows all)
    (All-cons IsRow row (filter (λ r. is_lt (key_cmp (key_of row) (key_of r))) rows) is (All-filter (λ r. is_lt (key_cmp (key_of row) (key_of r))) IsRow rows all))

put_all_rows : (batch rows : List Change) → AllByRecursion IsRow batch → All IsRow rows → All IsRow (put_all batch rows)
put_all_rows [] rows is all = all
put_all_rows (row ∷ batch) rows is all = put_all_rows batch (put row rows) is.1 (put_rows row rows is.0 all)

stopped_is : (before : List Entry) (are : AreAccepted before) (id : ℕ) (found : Option Change) (rest : List Change) → Shown before id found → AllByRecursion IsRow rest → AllByRecursion IsRow (stopped_row found ++ rest)
stopped_is before are id None rest h all = all
stopped_is before are id (Some row) rest h all =
    let P : Change → Type 0 = λ r. AllByRecursion IsRow (stopped_row (Some r) ++ rest) in
    let is : IsEntry (Issued h.0) = member_is before are (Issued h.0) h.2 in
    subst P (sym h.5) ((stands h.0 true, is_action h.0 true is.0, h.3, stops_text (stands h.0 h.1)), all)

results_are : (report : Report) (rows : List ReportRow) → AllByRecursion IsRow (map (result_of report) rows)
results_are report [] = tt
results_are report (row ∷ rows) = (tt, results_are report rows)

puts_are : (entry : Entry) (before : List Entry) → AreAccepted before → IsEntry entry → AllByRecursion IsRow (puts (view before) entry)
puts_are (Published site) before are is = (tt, tt)
puts_are (Issued action) before are is = ((action, is.0, refl, refl), (tt, tt))
puts_are (Stopped id) before are is = stopped_is before are id (action_at id (view before)) (next_version_row (view before) ∷ []) (kept before are id) (tt, tt)
puts_are (Filed bytes) before are is = (tt, tt)
puts_are (Reported report) before are is = (tt, (tt, results_are report (filter (has_later (view before) report) report.rows)))

rows_are : (accepted : List Entry) → AreAccepted accepted → All IsRow (view accepted)
rows_are [] are = All-nil IsRow
rows_are (entry ∷ before) are = put_all_rows (puts (view before) entry) (view before) (puts_are entry before are.2 (entry_of are.0.0 entry are.0.1)) (rows_are before are.2)

pub AreActionRows-view : (accepted : List Entry) → AreAccepted accepted → AllByRecursion IsRow (view accepted)
AreActionRows-view accepted are = recursion_from_All IsRow (view accepted) (rows_are accepted are)

-- ---- the actions of rows

abbrev pub acts : (rows : List Change) → AllByRecursion IsRow rows → List Action
acts [] h = []
acts (change.Action id text digest ∷ rows) h = h.0.0 ∷ acts rows h.1
acts (change.Site name version text ∷ rows) h = acts rows h.1
acts (change.File digest bytes ∷ rows) h = acts rows h.1
acts (change.Computer name ∷ rows) h = acts rows h.1
acts (change.Report computer seq digest ∷ rows) h = acts rows h.1
acts (change.Result result ∷ rows) h = acts rows h.1

pub acts_texts : (rows : List Change) (h : AllByRecursion IsRow rows) → action_texts rows ≡ map action_text (acts rows h)
acts_texts [] h = refl
acts_texts (change.Action id text digest ∷ rows) h = (λ i. h.0.3 i ∷ acts_texts rows h.1 i)
acts_texts (change.Site name version text ∷ rows) h = acts_texts rows h.1
acts_texts (change.File digest bytes ∷ rows) h = acts_texts rows h.1
acts_texts (change.Computer name ∷ rows) h = acts_texts rows h.1
acts_texts (change.Report computer seq digest ∷ rows) h = acts_texts rows h.1
acts_texts (change.Result result ∷ rows) h = acts_texts rows h.1

pub acts_good : (rows : List Change) (h : AllByRecursion IsRow rows) → AllByRecursion IsAction (acts rows h)
acts_good [] h = tt
acts_good (change.Action id text digest ∷ rows) h = (h.0.1, acts_good rows h.1)
acts_good (change.Site name version text ∷ rows) h = acts_good rows h.1
acts_good (change.File digest bytes ∷ rows) h = acts_good rows h.1
acts_good (change.Computer name ∷ rows) h = acts_good rows h.1
acts_good (change.Report computer seq digest ∷ rows) h = acts_good rows h.1
acts_good (change.Result result ∷ rows) h = acts_good rows h.1

-- ---- in ascending order

abbrev Above : ℕ → List Action → Type 0
Above n actions = AllByRecursion (λ action. n < action.id) actions

abbrev Ascend : List Action → Type 0
Ascend [] = Unit {0}
Ascend (action ∷ actions) = Above action.id actions × Ascend actions

less_number : (m n : ℕ) → nat_cmp m n ≡ Less → m < n
less_number m n h =
    elim (nat_lt m n) as (λ b. nat_lt m n ≡ b → cond b Less (cond (m == n) Equal Greater) ≡ Less → m < n) [
      | true ↦ λ e k. grind (arith, nat_tests)
      | false ↦ λ e k. absurd (not_less (m == n) k)
    ] refl h
  where
    not_less : (b : Bool) → cond b Equal Greater ≡ Less → ⊥
    not_less true e = cc
    not_less false e = cc

acts_above : (n : ℕ) (rows : List Change) (h : AllByRecursion IsRow rows) → AreAbove (key_for n) rows → Above n (acts rows h)
acts_above n [] h above = tt
acts_above n (change.Action id text digest ∷ rows) h above = (subst (λ k. n < k) (sym h.0.2) (less_number n id above.0), acts_above n rows h.1 above.1)
acts_above n (change.Site name version text ∷ rows) h above = acts_above n rows h.1 above.1
acts_above n (change.File digest bytes ∷ rows) h above = acts_above n rows h.1 above.1
acts_above n (change.Computer name ∷ rows) h above = acts_above n rows h.1 above.1
acts_above n (change.Report computer seq digest ∷ rows) h above = acts_above n rows h.1 above.1
acts_above n (change.Result result ∷ rows) h above = acts_above n rows h.1 above.1

acts_ascend : (rows : List Change) (h : AllByRecursion IsRow rows) → IsStrictlySortedBy key_cmp (map key_of rows) → Ascend (acts rows h)
unfolding IsStrictlySortedBy
acts_ascend [] h sorted = tt
acts_ascend (change.Action id text digest ∷ rows) h sorted =
    (subst (λ n. Above n (acts rows h.1)) (sym h.0.2) (acts_above id rows h.1 sorted.0), acts_ascend rows h.1 sorted.1)
acts_ascend (change.Site name version text ∷ rows) h sorted = acts_ascend rows h.1 sorted.1
acts_ascend (change.File digest bytes ∷ rows) h sorted = acts_ascend rows h.1 sorted.1
acts_ascend (change.Computer name ∷ rows) h sorted = acts_ascend rows h.1 sorted.1
acts_ascend (change.Report computer seq digest ∷ rows) h sorted = acts_ascend rows h.1 sorted.1
acts_ascend (change.Result result ∷ rows) h sorted = acts_ascend rows h.1 sorted.1

-- ---- the blocks of `actionsite`

abbrev pub blocks : List Action → List Block
blocks actions = map (λ action. action_block action) actions

abbrev actionsite : List ℕ
actionsite = codes "actionsite"

head_same : {X : Type 0} (x y : X) (xs ys : List X) → x ∷ xs ≡ y ∷ ys → x ≡ y
head_same x y xs ys e = cc

tail_same : {X : Type 0} (x y : X) (xs ys : List X) → x ∷ xs ≡ y ∷ ys → xs ≡ ys
tail_same x y xs ys e = cc

none_there : {X : Type 0} (before : List X) (x : X) (after : List X) → [] ≡ before ++ x ∷ after → ⊥
none_there [] x after e = cc
none_there (b ∷ before) x after e = cc

number_above : (n : ℕ) (actions : List Action) (before : List Block) (block : Block) (after : List Block) → Above n actions → blocks actions ≡ before ++ block ∷ after → n < block_id block
number_above n [] before block after above e = absurd (none_there before block after e)
number_above n (action ∷ actions) [] block after above e = subst (λ b. n < block_id b) (head_same (action_block action) block (blocks actions) after e) above.0
number_above n (action ∷ actions) (b ∷ before) block after above e = number_above n actions before block after above.1 (tail_same (action_block action) b (blocks actions) (before ++ block ∷ after) e)

behind_one_more : (first : Block) (before : List Block) (block : Block) → block_id first < block_id block → CanFollow actionsite before block → CanFollow actionsite (first ∷ before) block
behind_one_more first before (action_block action) less h = record { good = h.good; kind = h.kind; id = All-cons (λ other. block_id other < action.id) first before less h.id; components = tt }
behind_one_more first before (fixlet_block fixlet) less h = absurd (h.kind refl)
behind_one_more first before (baseline_block baseline) less h = absurd (h.kind refl)

first_block : (action : Action) → IsAction action → CanFollow actionsite [] (action_block action)
first_block action is = record { good = is; kind = refl; id = All-nil (λ other. block_id other < action.id); components = tt }

follow : (actions : List Action) → AllByRecursion IsAction actions → Ascend actions → (before after : List Block) (block : Block) → blocks actions ≡ before ++ block ∷ after → CanFollow actionsite before block
follow [] good ascend before after block e = absurd (none_there before block after e)
follow (action ∷ actions) good ascend [] after block e = subst (CanFollow actionsite []) (head_same (action_block action) block (blocks actions) after e) (first_block action good.0)
follow (action ∷ actions) good ascend (b ∷ before) after block e =
    let one : action_block action ≡ b = head_same (action_block action) b (blocks actions) (before ++ block ∷ after) e in
    let rest : blocks actions ≡ before ++ block ∷ after = tail_same (action_block action) b (blocks actions) (before ++ block ∷ after) e in
    subst (λ f. CanFollow actionsite (f ∷ before) block) one
    (behind_one_more (action_block action) before block (number_above action.id actions before block after ascend.0 rest) (follow actions good.1 ascend.1 before after block rest))

pub acts_follow : (rows : List Change) (h : AllByRecursion IsRow rows) → IsStrictlySortedBy key_cmp (map key_of rows) → AreBlocks actionsite (blocks (acts rows h))
acts_follow rows h sorted = follow (acts rows h) (acts_good rows h) (acts_ascend rows h sorted)

-- ---- each action is at its id

abbrev pub IsAt : Action → List Change → Type 0
IsAt action rows = (digest : List ℕ) × (row_at (key_for action.id) rows ≡ Some (change.Action action.id (action_text action) digest))

passed : (action : Action) (row : Change) (rows : List Change) → AreAbove (key_of row) rows → IsAt action rows → IsAt action (row ∷ rows)
passed action row rows above h =
    let found = change.Action action.id (action_text action) h.0 in
    elim (same_key (key_for action.id) (key_of row)) as (λ b. same_key (key_for action.id) (key_of row) ≡ b → (digest : List ℕ) × (cond b (Some row) (row_at (key_for action.id) rows) ≡ Some (change.Action action.id (action_text action) digest))) [
      | true ↦ λ e.
          let none : row_at (key_for action.id) rows ≡ None = none_at (key_for action.id) rows (subst (λ k. AreAbove k rows) (sym (same_exact (key_for action.id) (key_of row) e)) above) in
          absurd (none_some found (sym none ∙ h.1))
      | false ↦ λ e. h
    ] refl
  where
    none_some : (found : Change) → None ≡ Some found → ⊥
    none_some found e = cc

pub act_at : (rows : List Change) (h : AllByRecursion IsRow rows) → IsStrictlySortedBy key_cmp (map key_of rows) → (action : Action) → Contains (acts rows h) action → IsAt action rows
unfolding IsStrictlySortedBy
act_at [] h sorted action has = absurd (in_nothing action has)
act_at (change.Action id text digest ∷ rows) h sorted action has = elim (in_cons h.0.0 (acts rows h.1) action has) as (λ c. IsAt action (change.Action id text digest ∷ rows)) [
  | inl e ↦
      let P : Bool → Type 0 = λ b. (d : List ℕ) × (cond b (Some (change.Action id text digest)) (row_at (key_for action.id) rows) ≡ Some (change.Action action.id (action_text action) d)) in
      let same : id ≡ action.id = sym h.0.2 ∙ ap (λ a. a.id) e in
      let test : true ≡ same_key (key_for action.id) (key_for id) = sym (same_itself (key_for action.id)) ∙ ap (λ n. same_key (key_for action.id) (key_for n)) (sym same) in
      subst P test (digest, (λ i. Some (change.Action (same i) ((h.0.3 ∙ ap action_text e) i) digest)))
  | inr rest ↦ passed action (change.Action id text digest) rows sorted.0 (act_at rows h.1 sorted.1 action rest)
]
act_at (change.Site name version text ∷ rows) h sorted action has = passed action (change.Site name version text) rows sorted.0 (act_at rows h.1 sorted.1 action has)
act_at (change.File digest bytes ∷ rows) h sorted action has = passed action (change.File digest bytes) rows sorted.0 (act_at rows h.1 sorted.1 action has)
act_at (change.Computer name ∷ rows) h sorted action has = passed action (change.Computer name) rows sorted.0 (act_at rows h.1 sorted.1 action has)
act_at (change.Report computer seq digest ∷ rows) h sorted action has = passed action (change.Report computer seq digest) rows sorted.0 (act_at rows h.1 sorted.1 action has)
act_at (change.Result result ∷ rows) h sorted action has = passed action (change.Result result) rows sorted.0 (act_at rows h.1 sorted.1 action has)

abbrev pub OneAction : Type 0
OneAction = (action other : Action) → IsAction action → IsAction other → action_text action ≡ action_text other → action ≡ other

text_same : (a b : ℕ) (t u d e : List ℕ) → Some (change.Action a t d) ≡ Some (change.Action b u e) → t ≡ u
text_same a b t u d e is = cc

pub at_act : OneAction → (rows : List Change) (h : AllByRecursion IsRow rows) (action : Action) → IsAction action → IsAt action rows → Contains (acts rows h) action
at_act one [] h action is found = absurd (none_some (change.Action action.id (action_text action) found.0) found.1)
  where
    none_some : (found : Change) → None ≡ Some found → ⊥
    none_some found e = cc
at_act one (change.Action id text digest ∷ rows) h action is found =
    let row = change.Action id text digest in
    let here = change.Action action.id (action_text action) found.0 in
    elim (same_key (key_for action.id) (key_for id)) as (λ b. cond b (Some row) (row_at (key_for action.id) rows) ≡ Some here → Contains (h.0.0 ∷ acts rows h.1) action) [
      | true ↦ λ e.
          let same : h.0.0 ≡ action = one h.0.0 action h.0.1 is (sym h.0.3 ∙ text_same id action.id text (action_text action) digest found.0 e) in
          subst (Contains (h.0.0 ∷ acts rows h.1)) same (cons_head h.0.0 (acts rows h.1))
      | false ↦ λ e. cons_tail h.0.0 (acts rows h.1) action (at_act one rows h.1 action is (found.0, e))
    ] found.1
at_act one (change.Site name version text ∷ rows) h action is found = at_act one rows h.1 action is found
at_act one (change.File digest bytes ∷ rows) h action is found = at_act one rows h.1 action is found
at_act one (change.Computer name ∷ rows) h action is found = at_act one rows h.1 action is found
at_act one (change.Report computer seq digest ∷ rows) h action is found = at_act one rows h.1 action is found
at_act one (change.Result result ∷ rows) h action is found = at_act one rows h.1 action is found

-- An agent that makes rounds: its outbox, and what becomes of it where one of its reports is stored.
use Rattle.std.proofs.Common.{◌≡◌, ℕ, zero, suc, ◌<◌, Bool, true, false, List, [], ◌∷◌, ◌++◌, length, get_or, take, drop, Ok, All, refl, sym, ap, ◌∙◌, subst, arith}
use Rattle.std.proofs.Math.Seq.{get_or-append_seam}
use Rattle.std.proofs.lemmas.List.{length-append}
use Rattle.std.proofs.lemmas.List.Elements.{All-cons, All-head, All-nil, All-tail}
use Rattle.line_forms.proofs.Passing.{cons_head, cons_tail}
use Rattle.line_forms.proofs.Rising.{Rises, rises_from_increasing}
use Rattle.fix_site.specs.declared.site.Site.{Site}
use Rattle.report_text.specs.Reports.{IsReport}
use Rattle.report_text.specs.declared.answer.Gathered.{Gathered}
use Rattle.report_text.specs.declared.answer.Gathered.TheVariants as gathered
use Rattle.report_text.specs.declared.answer.Verdict.TheVariants as verdict
use Rattle.report_text.specs.declared.report.Report.{Report}
use Rattle.agent_core.specs.ShownReports.{shown_reports}
use Rattle.agent_state.specs.Changes.{DropsState, GathersSite, SettlesState, shown_without, without_report}
use Rattle.agent_state.specs.States.{IsSound, State}
use Rattle.agent_state.proofs.Dropping.{has_there, seq_of, shown_there, without_there}
use Rattle.desk_rounds.specs.declared.judged.Judged.{Judged}
use Rattle.desk_rounds.specs.declared.judged.Judged.TheVariants as judged
use Rattle.desk_rounds.specs.Clients.{SettlesAt, SettlesIn, agent_client, is_stored, verdict_of}

-- ---- the outbox
all_first : {A : Type 0} (P : A → Type 0) (n : ℕ) (xs : List A) → All P xs → All P (take n xs)
all_first P zero xs all = All-nil P
all_first P (suc n) [] all = All-nil P
all_first P (suc n) (x ∷ xs) all = All-cons P x (take n xs) (All-head P x xs all) (all_first P n xs (All-tail P x xs all))

pub shown_good : (s : State) → IsSound s → All IsReport (shown_reports s)
shown_good s sound = all_first IsReport s.shown s.reports sound.saved.reports.good

module _ {A : Type 0} where
  -- the place of an element among the first ones
  at_place : (m : ℕ) (i : ℕ) (xs before : List A) (x : A) (after : List A) → length before ≡ i → take m xs ≡ before ++ x ∷ after
      → (i < length xs) × (x ≡ get_or xs i x) × (i < m)
  at_place zero i xs [] x after len e = absurd (cc)
  at_place zero i xs (b ∷ before) x after len e = absurd (cc)
  at_place (suc m) i [] [] x after len e = absurd (cc)
  at_place (suc m) i [] (b ∷ before) x after len e = absurd (cc)
  at_place (suc m) zero (y ∷ ys) [] x after len e = (omega arith, sym (cons_head y x (take m ys) after e), omega arith)
  at_place (suc m) (suc i) (y ∷ ys) [] x after len e = absurd (omega (arith, len))
  at_place (suc m) zero (y ∷ ys) (b ∷ before) x after len e = absurd (omega (arith, len))
  at_place (suc m) (suc i) (y ∷ ys) (b ∷ before) x after len e =
      let next = at_place m i ys before x after (omega (arith, len)) (cons_tail y b (take m ys) (before ++ x ∷ after) e) in
      (omega (arith, next.0), next.1, omega (arith, next.2))

  -- the first ones without it
  first_without : (n i : ℕ) (xs before : List A) (x : A) (after : List A) → length before ≡ i → take (suc n) xs ≡ before ++ x ∷ after
      → take n (take i xs ++ drop (suc i) xs) ≡ before ++ after
  first_without n i [] [] x after len e = absurd (cc)
  first_without n i [] (b ∷ before) x after len e = absurd (cc)
  first_without n zero (y ∷ ys) [] x after len e = cons_tail y x (take n ys) after e
  first_without n (suc i) (y ∷ ys) [] x after len e = absurd (omega (arith, len))
  first_without n zero (y ∷ ys) (b ∷ before) x after len e = absurd (omega (arith, len))
  first_without zero (suc i) (y ∷ ys) (b ∷ before) x after len e =
      let none : 0 ≡ length (before ++ x ∷ after) = ap length (cons_tail y b [] (before ++ x ∷ after) e) in
      absurd (omega (arith, none, length-append before (x ∷ after)))
  first_without (suc n) (suc i) (y ∷ ys) (b ∷ before) x after len e =
      let next = first_without n i ys before x after (omega (arith, len)) (cons_tail y b (take (suc n) ys) (before ++ x ∷ after) e) in
      let same : y ≡ b = cons_head y b (take (suc n) ys) (before ++ x ∷ after) e in
      λ j. same j ∷ next j

-- ---- a report that is stored
-- those that are shown without it
shown_left : (n place seq : ℕ) (xs before : List Report) (report : Report) (after : List Report) → Rises seq_of xs → report.seq ≡ seq
    → length before ≡ place → take n xs ≡ before ++ report ∷ after → take (shown_without seq n xs) (without_report seq xs) ≡ before ++ after
shown_left zero place seq xs before report after up same len split =
    let at = at_place zero place xs before report after len split in
    absurd (omega (arith, at.2))
shown_left (suc n) place seq xs before report after up same len split =
    let at = at_place (suc n) place xs before report after len split in
    let shown = shown_there seq place n xs report up at.0 at.1 same (omega (arith, at.2)) in
    let others = without_there seq place xs report up at.0 at.1 same in
    (λ i. take (shown i) (sym others i)) ∙ first_without n place xs before report after len split

stored_is : (said : Judged) → is_stored said ≡ true → verdict_of said ≡ verdict.Stored
stored_is judged.Ok is = refl
stored_is judged.Again is = refl
stored_is judged.Stored is = refl
stored_is judged.Carried is = absurd (cc)
stored_is (judged.Conflict digest) is = absurd (cc)
stored_is (judged.Full limit) is = absurd (cc)

-- it is dropped, and the others are shown
dropped_in : (old new : State) (place seq : ℕ) (said : Judged) (dropped : Bool) (before : List Report) (report : Report) (after : List Report)
    → Rises seq_of old.reports → report.seq ≡ seq → verdict_of said ≡ verdict.Stored → DropsState seq old dropped new
    → length before ≡ place → shown_reports old ≡ before ++ report ∷ after → SettlesIn agent_client before report after said old (Ok dropped) new
dropped_in old new place seq said false before report after up same stored drops len split =
    let at = at_place old.shown place old.reports before report after len split in
    let has = has_there seq place old.reports report at.0 at.1 same in
    let none = drops.0 in
    absurd (cc)
dropped_in old new place seq said true before report after up same stored drops len split = (
  (true, subst (λ v. SettlesState report.seq v old true new) (sym stored) (subst (λ n. DropsState n old true new) (sym same) drops)),
  ap shown_reports drops.1 ∙ shown_left old.shown place seq old.reports before report after up same len split,
)

pub stored_there : (old new : State) (place seq : ℕ) (there : Report) (said : Judged) (dropped : Bool) → IsSound old
    → there ≡ get_or (shown_reports old) place there → seq ≡ there.seq → is_stored said ≡ true
    → SettlesState seq verdict.Stored old dropped new → SettlesAt agent_client place said old (Ok dropped) new
stored_there old new place seq there said dropped sound is number stored drops before after report split len =
    let here : there ≡ report = is ∙ (λ i. get_or (split i) (sym len i) there) ∙ get_or-append_seam before report after there in
    let same : report.seq ≡ seq = ap seq_of (sym here) ∙ sym number in
    let up : Rises seq_of old.reports = rises_from_increasing seq_of old.reports sound.saved.reports.ascending in
    dropped_in old new place seq said dropped before report after up same (stored_is said stored) drops len split

-- ---- what stays
pub held_gathered : (old new : State) (site : Site) (answer : Gathered) → GathersSite old site answer new → new.held ≡ old.held
held_gathered old new site gathered.New gathers = ap (λ (s : State). s.held) gathers.1
held_gathered old new site (gathered.Older version) gathers = ap (λ (s : State). s.held) gathers.2
held_gathered old new site gathered.Memory gathers = ap (λ (s : State). s.held) gathers

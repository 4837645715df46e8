-- The queue of a relay, and what becomes of it where one of its reports leaves it.
use Rattle.std.proofs.Common.{◌≡◌, ℕ, true, false, cond, List, [], ◌∷◌, ◌++◌, length, get_or, map, Some, Ok, refl, sym, ap, ◌∙◌, subst}
use Rattle.std.specs.Prelude.{not, if◌then◌else◌}
use Rattle.std.specs.Option.{is_some}
use Rattle.std.specs.Cmp.{IsEquivalence, and_equiv, on_equiv, nat_eq_equiv}
use Rattle.std.specs.Cmp.Lexicographic.{nat_list_eq_equiv}
use Rattle.std.specs.List.{AllByRecursion, IsDistinct}
use Rattle.std.proofs.Math.Seq.{get_or-append_seam}
use Rattle.report_text.specs.declared.report.Report.{Report}
use Rattle.relay_core.specs.ReportKeys.{HasDistinctKeys, ReportKey, key_of, queued_digest, report_digest, same_key}
use Rattle.relay_core.specs.Relays.{RelayState}
use Rattle.relay_core.specs.ReportsUp.{after_sent, is_queued, with_held, without}
use Rattle.desk_rounds.specs.Clients.{HoldsAt}

key_equiv : IsEquivalence same_key
key_equiv = and_equiv (on_equiv (λ (key : ReportKey). key.seq) nat_eq_equiv) (on_equiv (λ (key : ReportKey). key.computer) nat_list_eq_equiv)

-- a report of the key is queued
found_in : (key : ReportKey) (before : List Report) (report : Report) (after : List Report) → same_key key (key_of report) ≡ true
    → is_some (queued_digest (before ++ report ∷ after) key) ≡ true
found_in key [] report after same = ap (λ b. is_some (cond b (Some (report_digest report)) (queued_digest after key))) same
found_in key (x ∷ before) report after same =
    elim (same_key key (key_of x)) as (λ b. is_some (cond b (Some (report_digest x)) (queued_digest (before ++ report ∷ after) key)) ≡ true) [
      | true ↦ refl
      | false ↦ found_in key before report after same
    ]

-- the others stay
all_stay : (key : ReportKey) (queue : List Report) → AllByRecursion (λ other. same_key key other ≡ false) (map key_of queue) → without key queue ≡ queue
all_stay key [] apart = refl
all_stay key (report ∷ queue) apart =
    ap (λ b. cond (not b) (report ∷ without key queue) (without key queue)) apart.0 ∙ ap (λ l. report ∷ l) (all_stay key queue apart.1)

at_key : (P : ReportKey → Type 0) (before : List Report) (report : Report) (after : List Report)
    → AllByRecursion P (map key_of (before ++ report ∷ after)) → P (key_of report)
at_key P [] report after all = all.0
at_key P (x ∷ before) report after all = at_key P before report after all.1

leaves : (before : List Report) (report : Report) (after : List Report) → HasDistinctKeys (before ++ report ∷ after)
    → without (key_of report) (before ++ report ∷ after) ≡ before ++ after
unfolding IsDistinct
leaves [] report after distinct =
    ap (λ b. cond (not b) (report ∷ without (key_of report) after) (without (key_of report) after)) (key_equiv.refl (key_of report))
    ∙ all_stay (key_of report) after distinct.0
leaves (x ∷ before) report after distinct =
    let apart : same_key (key_of x) (key_of report) ≡ false =
    at_key (λ other. same_key (key_of x) other ≡ false) before report after distinct.0 in
    let rest = without (key_of report) (before ++ report ∷ after) in
    ap (λ b. cond (not b) (x ∷ rest) rest) (key_equiv.symm (key_of report) (key_of x) ∙ apart)
    ∙ ap (λ l. x ∷ l) (leaves before report after distinct.1)

-- the report at a place
pub there_in : (queue before after : List Report) (report there : Report) (place : ℕ) → queue ≡ before ++ report ∷ after → length before ≡ place
    → there ≡ get_or queue place there → there ≡ report
there_in queue before after report there place split len at =
    at ∙ (λ i. get_or (split i) (sym len i) there) ∙ get_or-append_seam before report after there

-- the relay was told that the server holds the report at a place
pub held_there : (old new : RelayState) (digest : List ℕ) (place : ℕ) (there : Report) (key : ReportKey) (done : Unit)
    → HasDistinctKeys old.queue → there ≡ get_or old.queue place there → key ≡ key_of there → new ≡ after_sent old key digest
    → HoldsAt place digest old (Ok done) new
held_there old new digest place there key done distinct at is told before after report split len =
    let here : there ≡ report =
    at ∙ (λ i. get_or (split i) (sym len i) there) ∙ get_or-append_seam before report after there in
    let same : key ≡ key_of report = is ∙ ap key_of here in
    let sent : new ≡ after_sent old (key_of report) digest = told ∙ ap (λ k. after_sent old k digest) same in
    let queued : is_queued old (key_of report) ≡ true =
    ap (λ q. is_some (queued_digest q (key_of report))) split ∙ found_in (key_of report) before report after (key_equiv.refl (key_of report)) in
    let without_it : RelayState = record old { queue = without (key_of report) old.queue; held = with_held (key_of report) digest old.held } in (
      sent,
      ap (λ (s : RelayState). s.queue) (sent ∙ ap (λ b. if b then without_it else old) queued)
          ∙ ap (without (key_of report)) split ∙ leaves before report after (subst HasDistinctKeys split distinct),
    )

-- ---- what stays
pub limit_sent : (old : RelayState) (key : ReportKey) (digest : List ℕ) → (after_sent old key digest).limit ≡ old.limit
limit_sent old key digest =
    elim (is_queued old key) as (λ b. (if b then record old { queue = without key old.queue; held = with_held key digest old.held } else old).limit ≡ old.limit) [
      | true ↦ refl
      | false ↦ refl
    ]

use Rattle.std.proofs.Common.{suc, ◌≡◌, ◌-◌, map, vec_capacity, true, false, refl, Some, None, sym, ap, subst, ◌∙◌, arith, eqb}
use Rattle.std.specs.List.{position}
use Rattle.std.specs.List.Sorted.{IsStrictlyIncreasing}
use Rattle.std.proofs.lemmas.Bool.{eqb-true}
use Rattle.std.proofs.lemmas.List.Quantifiers.{position-Some}
use Rattle.report_text.specs.declared.report.Report.{Report}
use Rattle.line_forms.proofs.Rising.{Rises, rises_from_increasing}
use Rattle.agent_state.specs.Changes.{shown_without}
use Rattle.agent_state.specs.Outboxes.{DropsReport, OutboxState}
use Rattle.agent_state.proofs.Dropping.{seq_of, has_there, none_there, shown_before, shown_there, without_there}
use Rattle.agent_state.proofs.outbox.Outbox.drop_report.Goals as goal

pub returns-in_default : goal.returns-in_default
returns-in_default c =
    let none : position (λ report. eqb (seq_of report) c.args.seq) c.self.inside.reports.items ≡ None = ap (position (λ report. eqb (seq_of report) c.args.seq)) (sym c.as_slice.ensures.value) ∙ sym c.in_default.ensures in
    subst (λ (s : OutboxState). DropsReport c.args.seq s false s) c.self.view_is (none_there c.args.seq c.self.inside.reports.items none, refl)

pub returns-then-place-self : goal.returns-then-place-self
returns-then-place-self c =
    let seq = c.args.seq in
    let items = c.self.inside.reports.items in
    let shown = c.self.inside.shown in
    let i = c.in-Some.place in
    let r : Report = c.remove.result in
    let placed : position (λ report. eqb (seq_of report) seq) items ≡ Some i = ap (position (λ report. eqb (seq_of report) seq)) (sym c.as_slice.ensures.value) ∙ sym c.in-Some.ensures in
    let there = position-Some (λ report. eqb (seq_of report) seq) items i r placed in
    let is : r.seq ≡ seq = eqb-true r.seq seq (subst (λ (x : Report). eqb x.seq seq ≡ true) (sym c.remove.ensures.value) there.1) in
    let up : Rises seq_of items = rises_from_increasing seq_of items (subst (λ (s : OutboxState). IsStrictlyIncreasing (map seq_of s.reports)) (sym c.self.view_is) c.requires) in
    let low = shown - 1 in
    let more : suc low ≡ shown = omega arith in
    let kept = without_there seq i items r up there.0 c.remove.ensures.value is in
    let fewer = ap (λ n. shown_without seq n items) (sym more) ∙ shown_there seq i low items r up there.0 c.remove.ensures.value is (omega arith) in
    let now : OutboxState = record { reports = c.remove.new.self.items; shown = low; capacity = vec_capacity c.remove.new.self } in
    subst (λ (s : OutboxState). DropsReport seq s true now) c.self.view_is
    (has_there seq i items r there.0 c.remove.ensures.value is, λ j. record { reports = (c.remove.ensures.items ∙ kept) j; shown = sym fewer j; capacity = c.remove.ensures.capacity j })

pub returns-else-place-self : goal.returns-else-place-self
returns-else-place-self c =
    let seq = c.args.seq in
    let items = c.self.inside.reports.items in
    let shown = c.self.inside.shown in
    let i = c.in-Some.place in
    let r : Report = c.remove.result in
    let placed : position (λ report. eqb (seq_of report) seq) items ≡ Some i = ap (position (λ report. eqb (seq_of report) seq)) (sym c.as_slice.ensures.value) ∙ sym c.in-Some.ensures in
    let there = position-Some (λ report. eqb (seq_of report) seq) items i r placed in
    let is : r.seq ≡ seq = eqb-true r.seq seq (subst (λ (x : Report). eqb x.seq seq ≡ true) (sym c.remove.ensures.value) there.1) in
    let up : Rises seq_of items = rises_from_increasing seq_of items (subst (λ (s : OutboxState). IsStrictlyIncreasing (map seq_of s.reports)) (sym c.self.view_is) c.requires) in
    let kept = without_there seq i items r up there.0 c.remove.ensures.value is in
    let same = shown_before seq i shown items r up there.0 c.remove.ensures.value is (omega arith) in
    let now : OutboxState = record { reports = c.remove.new.self.items; shown = shown; capacity = vec_capacity c.remove.new.self } in
    subst (λ (s : OutboxState). DropsReport seq s true now) c.self.view_is
    (has_there seq i items r there.0 c.remove.ensures.value is, λ j. record { reports = (c.remove.ensures.items ∙ kept) j; shown = sym same j; capacity = c.remove.ensures.capacity j })

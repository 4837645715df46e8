use Rattle.std.proofs.Common.{◌≡◌, ◌<◌, ◌+◌, ◌++◌, ℕ, List, [], ◌∷◌, length, get_or, map, take, true, false, All, sym, ap, subst, ◌∙◌, arith}
use Rattle.std.proofs.lemmas.List.{take_all}
use Rattle.std.proofs.lemmas.List.Elements.{All-map, All-more, All-push, All-weaker}
use Rattle.std.specs.Global.{Vec}
use Rattle.std.specs.Prelude.{Contains}
use Rattle.act_rules.specs.Rows.{last_row}
use Rattle.agent_text.specs.declared.history.History.{History}
use Rattle.agent_text.specs.Befores.{PlainBefore, before_of}
use Rattle.agent_text.specs.Histories.{PlainHistory, shown_history}
use Rattle.agent_core.specs.Turns.{may_clear}
use Rattle.agent_core.proofs.PuttingBack.{covered, has_last, has_more, ids_of}
use Rattle.agent_core.proofs.kept_state.KeptState.before_marks.Goals as goal
use Rattle.agent_core.proofs.kept_state.KeptState.before_marks.Goals.{then-may_clear+in_ok-before+in_ok-push, else-may_clear}

abbrev Covered : List PlainBefore → History → Type 0
Covered bs h = may_clear (last_row h.rows.rows) ≡ true → Contains (ids_of bs) h.action

module _ (items : List History) (i : ℕ) (h : History) (below : i < length items) (is : h ≡ get_or items i h) where
  passed : (bs : List PlainBefore) → may_clear (last_row h.rows.rows) ≡ false → All (Covered bs) (take i items) → All (Covered bs) (take (i + 1) items)
  passed bs not all = All-more (Covered bs) items i h below all (subst (Covered bs) is (λ may. absurd (cc)))

  kept : (bs : List PlainBefore) (b : PlainBefore) → b.action ≡ h.action → All (Covered bs) (take i items) → All (Covered (bs ++ b ∷ [])) (take (i + 1) items)
  kept bs b same all =
      All-more (Covered (bs ++ b ∷ [])) items i h below (All-weaker (Covered bs) (Covered (bs ++ b ∷ [])) (λ x has may. has_more bs b x.action (has may)) (take i items) all)
      (subst (Covered (bs ++ b ∷ [])) is (λ may. subst (Contains (ids_of (bs ++ b ∷ []))) same (has_last bs b)))

stands : (hs : List PlainHistory) (action : ℕ) (b : PlainBefore) → b ≡ before_of action hs → b ≡ before_of b.action hs
stands hs action b is = is ∙ sym (ap (λ (x : PlainBefore). before_of x.action hs) is)

pub loop-history-preserved : goal.loop-history-preserved
loop-history-preserved c =
    let hs : List PlainHistory = c.args.self.now.histories in
    let items : List History = c.as_slice-history-items.result.now in
    let i = c.loop-history.history-index in
    let h : History = c.history-item.result in
    let old : List PlainBefore = c.loop-history.before.items in
    let below : i < length items = omega arith in
    elim c.if-may_clear.branch [
      | then-may_clear+in_ok-before+in_ok-push w ↦ (
          let b : PlainBefore = w.in_ok-before.field-0 in
          let of : b ≡ before_of h.action hs = w.in_ok-before.ensures in
          let is : c.if-may_clear.before.items ≡ old ++ b ∷ [] = ap (λ (v : Vec PlainBefore). v.items) w.before-is ∙ w.in_ok-push.ensures.items in
          record {
            stand = subst (All (λ x. x ≡ before_of x.action hs)) (sym is) (All-push (λ x. x ≡ before_of x.action hs) old b c.loop-history.invariant.stand (stands hs h.action b of));
            covered = subst (λ bs. All (Covered bs) (take (i + 1) items)) (sym is) (kept items i h below c.history-item.is old b (ap (λ (x : PlainBefore). x.action) of) c.loop-history.invariant.covered);
          }
          )
      | else-may_clear w ↦ (
          let is : c.if-may_clear.before.items ≡ old = ap (λ (v : Vec PlainBefore). v.items) w.before-is in
          record {
            stand = subst (All (λ x. x ≡ before_of x.action hs)) (sym is) c.loop-history.invariant.stand;
            covered = subst (λ bs. All (Covered bs) (take (i + 1) items)) (sym is) (passed items i h below c.history-item.is old (sym c.may_clear.ensures ∙ w.if-may_clear.false) c.loop-history.invariant.covered);
          }
          )
    ]

pub returns : goal.returns
returns c =
    let hs : List PlainHistory = c.args.self.now.histories in
    let items : List History = c.as_slice-history-items.result.now in
    let bs : List PlainBefore = c.loop-history.before.items in
    let i = c.loop-history.history-index in
    let all : All (Covered bs) items = subst (All (Covered bs)) (take_all i items (omega arith)) c.loop-history.invariant.covered in
    let shown : All (λ (h : PlainHistory). may_clear (last_row h.rows) ≡ true → Contains (ids_of bs) h.action) (map shown_history items) = All-map (λ (h : PlainHistory). may_clear (last_row h.rows) ≡ true → Contains (ids_of bs) h.action) shown_history items all in
    record {
      stand = c.loop-history.invariant.stand;
      covers = covered bs hs (subst (All (λ (h : PlainHistory). may_clear (last_row h.rows) ≡ true → Contains (ids_of bs) h.action)) c.as_slice-history-items.ensures.value shown);
    }

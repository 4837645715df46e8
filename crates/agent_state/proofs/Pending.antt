-- How many actions are pending.
use Rattle.std.proofs.Common.{suc, ◌≡◌, Bool, true, false, cond, List, [], ◌∷◌, length, map, refl, ap}
use Rattle.std.specs.Prelude.{filter}
use Rattle.agent_text.specs.declared.history.History.{History}
use Rattle.agent_text.specs.Histories.{PlainHistory, shown_history}
use Rattle.agent_state.specs.Counting.{pending_count}

pub pending_shown : (hs : List History) → length (filter (λ (h : History). h.pending) hs) ≡ pending_count (map shown_history hs)
pending_shown [] = refl
pending_shown (h ∷ hs) = by_pending h.pending (pending_shown hs)
  where
    by_pending : (b : Bool) → length (filter (λ (h : History). h.pending) hs) ≡ pending_count (map shown_history hs)
        → length (cond b (h ∷ filter (λ (h : History). h.pending) hs) (filter (λ (h : History). h.pending) hs))
        ≡ length (map (λ (x : PlainHistory). x.action) (cond b (shown_history h ∷ filter (λ (x : PlainHistory). x.pending) (map shown_history hs)) (filter (λ (x : PlainHistory). x.pending) (map shown_history hs))))
    by_pending true e = ap suc e
    by_pending false e = e

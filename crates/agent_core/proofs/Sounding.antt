-- States that stay sound.
use Rattle.std.proofs.Common.{ℕ, ◌≡◌, ◌<◌, ℤ, List, [], ◌∷◌, Bool, true, false, cond, refl, sym, ap, subst, ◌∙◌, arith, eqb, Some, None}
use Rattle.std.specs.declared.option.Option.{Option}
use Rattle.std.specs.Prelude.{All, IsSomeAnd, not, ◌&&◌, is_none}
use Rattle.std.specs.List.{find}
use Rattle.std.specs.Option.{option_map}
use Rattle.std.proofs.lemmas.Bool.{eq-eqb, ne_eqb}
use Rattle.std.proofs.lemmas.List.Elements.{All-head, All-tail}
use Rattle.desk_base.specs.Moments.{IsMoment}
use Rattle.act_rules.specs.declared.row.Note.{Note}
use Rattle.act_rules.specs.declared.row.Outcome.{Outcome}
use Rattle.act_rules.specs.declared.row.Row.{Row}
use Rattle.act_rules.specs.Rows.{last_row}
use Rattle.fix_site.specs.declared.site.Site.{Site}
use Rattle.fix_site.specs.Sites.{IsSite}
use Rattle.agent_text.specs.SavedRows.{IsSavedNote}
use Rattle.agent_text.specs.Histories.{AreHistories, PlainHistory, rows_at, with_ended, with_history}
use Rattle.agent_attempt.specs.Attempts.{PlainAttempt}
use Rattle.agent_state.specs.Changes.{with_site, with_sites}
use Rattle.agent_state.specs.States.{HeldRuns, IsSound, State, as_saved, broken_action, is_broken, is_of_another, last_runs, with_held, with_histories, with_unsaved}
use Rattle.line_forms.proofs.Rising.{Rises, rises_from_increasing, rises_head, rises_tail}
use Rattle.agent_state.proofs.RowsAt.{rows_other}
use Rattle.agent_state.proofs.SiteActions.{gathered_with}

pub sound_saved : (s : State) → IsSound s → IsSound (as_saved s)
sound_saved s is = record { saved = is.saved; shown = omega arith; held = is.held; sites = is.sites }

pub sound_unsaved : (s : State) → IsSound s → IsSound (with_unsaved s)
sound_unsaved s is = record { saved = is.saved; shown = is.shown; held = is.held; sites = is.sites }

pub sound_unheld : (s : State) → IsSound s → IsSound (with_held None s)
sound_unheld s is = record { saved = is.saved; shown = is.shown; held = tt; sites = is.sites }

pub sound_held : (attempt : PlainAttempt) (s : State) → HeldRuns (Some attempt) s.histories → IsSound s → IsSound (with_held (Some attempt) s)
sound_held attempt s runs is = record { saved = is.saved; shown = is.shown; held = runs; sites = is.sites }

pub sound_gathered : (site : Site) (s : State) → IsSite site → IsSound s → IsSound (with_sites (with_site site s.sites) s)
sound_gathered site s good is = record { saved = is.saved; shown = is.shown; held = is.held; sites = gathered_with site s.sites good is.sites }

-- ---- an attempt that is held, and another action
not_true : (b : Bool) → not b ≡ true → b ≡ false
not_true true e = absurd (cc)
not_true false e = refl

held_other : (held : Option PlainAttempt) (h : PlainHistory) (hs : List PlainHistory) → is_of_another h.action held ≡ true → HeldRuns held hs → HeldRuns held (with_history h hs)
held_other None h hs other runs = tt
held_other (Some attempt) h hs other runs =
    let isnt : eqb attempt.action.id h.action ≡ false = not_true (eqb attempt.action.id h.action) other in
    subst (λ (rows : List Row). IsSomeAnd (last_row rows) (λ row. (row.end ≡ None) × (row.number ≡ attempt.row)))
    (sym (rows_other h hs attempt.action.id (λ e. let so : eqb attempt.action.id h.action ≡ true = eq-eqb attempt.action.id h.action e in cc))) runs

-- an attempt of another action ends
pub sound_ended : ((hs : List PlainHistory) (action : ℕ) (moment : ℤ) (outcome : Outcome) (note : Note) → AreHistories hs
    → IsMoment moment → IsSomeAnd (last_row (rows_at action hs)) (λ row. row.end ≡ None) → IsSavedNote outcome note
    → AreHistories (with_ended action moment outcome note hs))
    → (s : State) (action : ℕ) (moment : ℤ) (outcome : Outcome) (note : Note) → IsMoment moment → IsSomeAnd (last_row (rows_at action s.histories)) (λ row. row.end ≡ None) → IsSavedNote outcome note
    → is_of_another action s.held ≡ true → IsSound s → IsSound (with_histories (with_ended action moment outcome note s.histories) s)
sound_ended kept s action moment outcome note time running good other is = record {
  saved = record {
    computer = is.saved.computer;
    next = is.saved.next;
    histories = kept s.histories action moment outcome note is.saved.histories time running good;
    reports = is.saved.reports;
  };
  shown = is.shown;
  held = held_other s.held _ s.histories other is.held;
  sites = is.sites;
}

-- ---- a broken attempt runs, and isn't held
abbrev action_of : PlainHistory → ℕ
action_of h = h.action

found_above : (n : ℕ) (p : PlainHistory → Bool) (hs : List PlainHistory) (id : ℕ) → All (λ y. n < action_of y) hs → option_map action_of (find p hs) ≡ Some id → n < id
found_above n p [] id above e = absurd (cc)
found_above n p (h ∷ hs) id above e = by_test (p h) refl (λ later. found_above n p hs id (All-tail (λ y. n < action_of y) h hs above) later)
  where
    by_test : (b : Bool) → p h ≡ b → (option_map action_of (find p hs) ≡ Some id → n < id) → n < id
    by_test true is next =
        let here : option_map action_of (find p (h ∷ hs)) ≡ Some h.action = ap (λ b. option_map action_of (cond b (Some h) (find p hs))) is in
        let same : h.action ≡ id = cc in
        let lt : n < h.action = All-head (λ y. n < action_of y) h hs above in
        omega (arith, same, lt)
    by_test false is next = next (sym (ap (λ b. option_map action_of (cond b (Some h) (find p hs))) is) ∙ e)

runs_here : (o : Option Row) → last_runs o ≡ true → IsSomeAnd o (λ row. row.end ≡ None)
runs_here None e = absurd (cc)
runs_here (Some row) e = no_end row.end e
  where
    no_end : (o : Option (ℤ × Outcome)) → is_none o ≡ true → o ≡ None
    no_end None e = refl
    no_end (Some x) e = absurd (cc)

both : (a b : Bool) → (a && b) ≡ true → (a ≡ true) × (b ≡ true)
both true b e = (refl, e)
both false b e = absurd (cc)

found_runs : (held : Option PlainAttempt) (hs : List PlainHistory) (id : ℕ) → Rises action_of hs → option_map action_of (find (is_broken held) hs) ≡ Some id
    → IsSomeAnd (last_row (rows_at id hs)) (λ row. row.end ≡ None) × (is_of_another id held ≡ true)
found_runs held [] id up e = absurd (cc)
found_runs held (h ∷ hs) id up e = by_test (is_broken held h) refl (λ later. found_runs held hs id (rises_tail action_of h hs up) later)
  where
    by_test : (b : Bool) → is_broken held h ≡ b → (option_map action_of (find (is_broken held) hs) ≡ Some id → IsSomeAnd (last_row (rows_at id hs)) (λ row. row.end ≡ None) × (is_of_another id held ≡ true))
        → IsSomeAnd (last_row (cond (eqb h.action id) h.rows (rows_at id hs))) (λ row. row.end ≡ None) × (is_of_another id held ≡ true)
    by_test true is next =
        let here : option_map action_of (find (is_broken held) (h ∷ hs)) ≡ Some h.action = ap (λ b. option_map action_of (cond b (Some h) (find (is_broken held) hs))) is in
        let same : h.action ≡ id = cc in
        let parts = both (last_runs (last_row h.rows)) (is_of_another h.action held) is in (
          subst (λ b. IsSomeAnd (last_row (cond b h.rows (rows_at id hs))) (λ row. row.end ≡ None)) (sym (eq-eqb h.action id same)) (runs_here (last_row h.rows) parts.0),
          subst (λ n. is_of_another n held ≡ true) same parts.1,
        )
    by_test false is next =
        let later : option_map action_of (find (is_broken held) hs) ≡ Some id = sym (ap (λ b. option_map action_of (cond b (Some h) (find (is_broken held) hs))) is) ∙ e in
        let above : h.action < id = found_above h.action (is_broken held) hs id (rises_head action_of h hs up) later in
        let rest = next later in
        (subst (λ b. IsSomeAnd (last_row (cond b h.rows (rows_at id hs))) (λ row. row.end ≡ None)) (sym (ne_eqb h.action id (λ e. omega (arith, e, above)))) rest.0, rest.1)

pub broken_runs : (s : State) (id : ℕ) → IsSound s → broken_action s ≡ Some id → IsSomeAnd (last_row (rows_at id s.histories)) (λ row. row.end ≡ None) × (is_of_another id s.held ≡ true)
broken_runs s id is e = found_runs s.held s.histories id (rises_from_increasing action_of s.histories is.saved.histories.ascending) e

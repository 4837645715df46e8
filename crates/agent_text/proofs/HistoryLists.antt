-- Histories that stand one behind another.
use Rattle.std.proofs.Common.{ℕ, suc, ◌≡◌, ◌<◌, ◌==◌, List, [], ◌∷◌, ◌++◌, length, map, Bool, true, false, refl, sym, ap, subst, ◌∙◌, arith, All}
use Rattle.std.specs.Prelude.{flat_map}
use Rattle.std.proofs.lemmas.Bool.Decides.{nat_tests}
use Rattle.std.proofs.lemmas.List.Elements.{All-head, All-tail, All-weaker}
use Rattle.line_forms.specs.LineStates.{LineState}
use Rattle.line_forms.specs.Numbers.{IsId}
use Rattle.line_forms.specs.Readers.{EachCan, Passes, TakesAll}
use Rattle.line_forms.proofs.Passing.{passes_none, passes_then, map_snoc}
use Rattle.act_rules.specs.declared.row.Row.{Row}
use Rattle.act_rules.specs.Rows.{IsRows}
use Rattle.report_text.specs.declared.form.Form.{Form}
use Rattle.agent_text.specs.declared.history.History.{History}
use Rattle.agent_text.specs.AttemptLines.{attempt_line}
use Rattle.agent_text.specs.SavedRows.{IsSavedRow}
use Rattle.agent_text.specs.HistoryLines.{action_line, history_lines}
use Rattle.agent_text.specs.Histories.{AreHistories, IsHistory, PlainHistory, shown_history}
use Rattle.agent_text.specs.PartReadings.{CanBeNext, CanFollow, HasHistories, IsAbove, IsRowIn, LacksAttempt, NoAttempt, untold, untold_one}
use Rattle.agent_text.proofs.AttemptLists.{rows_in}
use Rattle.agent_text.proofs.AttemptRows.{saved_in}
use Rattle.line_forms.proofs.Lasts.{each_all, each_ascends, increasing}
use Rattle.line_forms.proofs.Parts.{Lines}
use Rattle.line_forms.proofs.Sequences.{each_more, each_none, flat_snoc, same_last}

-- whether there are rows
pub no_rows : (rows seen : List Row) (answer : Bool) → seen ≡ rows → answer ≡ (length seen == 0) → answer ≡ true → rows ≡ []
no_rows [] seen answer is says empty = refl
no_rows (row ∷ rows) seen answer is says empty =
    let count : length seen ≡ suc (length rows) = ap (length {A = Row}) is in
    absurd (grind (arith, nat_tests))

pub some_rows : (rows seen : List Row) (answer : Bool) → seen ≡ rows → answer ≡ (length seen == 0) → answer ≡ false → 0 < length rows
some_rows [] seen answer is says some =
    let count : length seen ≡ 0 = ap (length {A = Row}) is in
    absurd (grind (arith, nat_tests))
some_rows (row ∷ rows) seen answer is says some = omega arith

-- the line of an action was taken, and no attempt behind it
pub lacks : (form : Form) (before : List PlainHistory) (old mid new : LineState) (action number : ℕ) (rows : List Row) → IsId action → IsAbove before action → Passes old mid (action_line action ∷ []) →
    TakesAll (CanBeNext form) (attempt_line form) mid new rows → rows ≡ [] → number ≡ new.number → LacksAttempt form before old number
lacks form before old mid new action number rows id above first taken none is =
    let P : List Row → Type 0 = TakesAll (CanBeNext form) (attempt_line form) mid new in
    let t = subst P none taken in
    (action, new, id, above, passes_then old mid new (action_line action ∷ []) [] first t.1, t.2, is)

-- an action and its attempts were taken
pub history_taken : (form : Form) (before : List PlainHistory) (old mid new : LineState) (action : ℕ) (rows : List Row) → IsId action → IsAbove before action → Passes old mid (action_line action ∷ []) →
    TakesAll (CanBeNext form) (attempt_line form) mid new rows → 0 < length rows → IsRows rows →
    let h : PlainHistory = record { action = action; rows = rows; pending = false } in CanFollow form before h × Passes old new (history_lines form h) × NoAttempt form rows new
history_taken form before old mid new action rows id above first taken some are =
    let in_form = rows_in form rows taken.0 in (
      record {
        good = record { action = id; rows = record { some = some; numbered = are; good = All-weaker (IsRowIn form) IsSavedRow (λ row fine. saved_in form row fine) rows in_form } };
        rows = in_form;
        above = above;
        told = refl;
      },
      passes_then old mid new (action_line action ∷ []) (map (attempt_line form) rows) first taken.1,
      taken.2,
    )

-- no histories were taken yet, or one more
not_last : (front : List PlainHistory) (h : PlainHistory) → [] ≡ front ++ h ∷ [] → ⊥
not_last [] h e = cc
not_last (x ∷ front) h e = cc

pub has_none : (form : Form) (start : LineState) → HasHistories form start start []
has_none form start = record { each = each_none (CanFollow form); passes = passes_none start; whole = λ front h e. absurd (not_last front h e) }

-- one history more was taken
pub has_more : (form : Form) (start mid new : LineState) (hs : List PlainHistory) (h : PlainHistory) → HasHistories form start mid hs → CanFollow form hs h → Passes mid new (history_lines form h) → NoAttempt form h.rows new →
    HasHistories form start new (hs ++ h ∷ [])
has_more form start mid new hs h has can passes none =
    let Q : Lines → Type 0 = Passes start new in
    let R : PlainHistory → Type 0 = λ x. NoAttempt form x.rows new in
    record {
      each = each_more (CanFollow form) hs h has.each can;
      passes = subst Q (sym (flat_snoc (history_lines form) hs h)) (passes_then start mid new (flat_map (history_lines form) hs) (history_lines form h) has.passes passes);
      whole = λ front last e. subst R (same_last hs front h last e).1 none;
    }

-- the same of the lists that show them
pub shown_more : (form : Form) (start mid new : LineState) (items seen result : List History) (h : History) → HasHistories form start mid (map shown_history items) → seen ≡ items → result ≡ items ++ h ∷ [] →
    CanFollow form (map shown_history seen) (shown_history h) → Passes mid new (history_lines form (shown_history h)) → NoAttempt form h.rows.rows new → HasHistories form start new (map shown_history result)
shown_more form start mid new items seen result h has seen_is result_is can passes none =
    let C : List History → Type 0 = λ l. CanFollow form (map shown_history l) (shown_history h) in
    let H : List PlainHistory → Type 0 = HasHistories form start new in
    subst H (sym (ap (map shown_history) result_is ∙ map_snoc shown_history items h))
    (has_more form start mid new (map shown_history items) (shown_history h) has (subst C seen_is can) passes none)

-- histories that were taken can be saved, and none is pending
pub are_histories : (form : Form) (hs : List PlainHistory) → EachCan (CanFollow form) hs → AreHistories hs
are_histories form hs each = record {
  good = each_all IsHistory (CanFollow form) (λ before h can. can.good) hs each;
  ascending = increasing (λ h. h.action) hs (each_ascends (λ h. h.action) (CanFollow form) (λ before h can. can.above) hs each);
}

-- and none of them is pending
pub all_untold : (form : Form) (hs : List PlainHistory) → EachCan (CanFollow form) hs → untold hs ≡ hs
all_untold form hs each = same hs (each_all (λ h. untold_one h ≡ h) (CanFollow form) (λ before h can. untold_is h can.told) hs each)
  where
    untold_is : (h : PlainHistory) → h.pending ≡ false → untold_one h ≡ h
    untold_is h e = ap (λ (b : Bool). let x : PlainHistory = record { action = h.action; rows = h.rows; pending = b } in x) (sym e)

    same : (hs : List PlainHistory) → All (λ h. untold_one h ≡ h) hs → untold hs ≡ hs
    same [] h = refl
    same (x ∷ hs) h = ap (λ y. y ∷ untold hs) (All-head (λ h. untold_one h ≡ h) x hs h) ∙ ap (λ l. x ∷ l) (same hs (All-tail (λ h. untold_one h ≡ h) x hs h))

-- Attempts that stand one behind another.
use Rattle.std.proofs.Common.{ℕ, ◌≡◌, ◌+◌, ◌-◌, List, [], ◌∷◌, ◌++◌, length, sym, ap, subst, ◌∙◌, arith, All, Option, length-append}
use Rattle.std.specs.Prelude.{IfSome}
use Rattle.line_forms.specs.Readers.{EachCan}
use Rattle.line_forms.proofs.Passing.{cons_head}
use Rattle.act_rules.specs.declared.row.Row.{Row}
use Rattle.act_rules.specs.Rows.{AreNumbered, HasEnded, HasMoments, IsRows, OnlyLastRuns, last_row}
use Rattle.report_text.specs.declared.form.Form.{Form}
use Rattle.agent_text.specs.AttemptLines.{attempt_line}
use Rattle.agent_text.specs.PartReadings.{CanBeNext, IsAttempt, IsRowIn}
use Rattle.agent_text.proofs.AttemptRows.{attempt_one, noted}
use Rattle.line_forms.proofs.Lasts.{all_at, each_all, last_step}

-- an attempt that can be next is one by itself
pub next_attempt : (form : Form) (rows : List Row) (row : Row) → CanBeNext form rows row → IsAttempt form row
next_attempt form rows row can = ((omega (arith, can.number), omega (arith, can.number, can.few), can.moments), can.good)

-- the attempt ahead is the one that was read
pub read_ahead : (form : Form) (rows : List Row) (lines more rest : List (List ℕ)) (line : List ℕ) (read row : Row) → lines ≡ line ∷ more → IsAttempt form read → line ≡ attempt_line form read → CanBeNext form rows row →
    lines ≡ attempt_line form row ∷ rest → row ≡ read
read_ahead form rows lines more rest line read row ahead is spelled can h =
    attempt_one form row read (noted form row (next_attempt form rows row can)) (noted form read is) (cons_head (attempt_line form row) line rest more (sym h ∙ ahead) ∙ spelled)

-- one of another number isn't next
pub wrong_number : (form : Form) (rows : List Row) (lines more rest : List (List ℕ)) (line : List ℕ) (read row : Row) → lines ≡ line ∷ more → IsAttempt form read → line ≡ attempt_line form read → (read.number - 1 ≡ length rows → ⊥) →
    CanBeNext form rows row → lines ≡ attempt_line form row ∷ rest → ⊥
wrong_number form rows lines more rest line read row ahead is spelled other can h =
    let same : row ≡ read = read_ahead form rows lines more rest line read row ahead is spelled can h in
    let number : read.number ≡ length rows + 1 = ap (λ (r : Row). r.number) (sym same) ∙ can.number in
    other (omega arith)

-- the rows before one have ended
ended_at : (rows more : List Row) (row : Row) → OnlyLastRuns (rows ++ row ∷ more) → IfSome (last_row rows) HasEnded
ended_at [] more row h = tt
ended_at (x ∷ []) more row h = h.0
ended_at (x ∷ y ∷ rows) more row h =
    let P : Option Row → Type 0 = λ o. IfSome o HasEnded in
    subst P (last_step x y rows) (ended_at (y ∷ rows) more row h.1)

-- the number of a row is that of its place
numbered_at : (n : ℕ) (rows more : List Row) (row : Row) → AreNumbered n (rows ++ row ∷ more) → row.number ≡ length rows + n
numbered_at n [] more row h = omega (arith, h.0)
numbered_at n (x ∷ rows) more row h = let k = numbered_at (n + 1) rows more row h.1 in omega (arith, k)

-- each of the rows of an action can stand behind those before it
pub each_attempt : (form : Form) (rows : List Row) → IsRows rows → All (IsRowIn form) rows → EachCan (CanBeNext form) rows
each_attempt form rows is all before after row e =
    let R : List Row → Type 0 = IsRows in
    let A : List Row → Type 0 = All (IsRowIn form) in
    at (subst R e is) (subst A e all)
  where
    at : IsRows (before ++ row ∷ after) → All (IsRowIn form) (before ++ row ∷ after) → CanBeNext form before row
    at are in_form = record {
      few = omega (arith, are.few, length-append before (row ∷ after));
      number = numbered_at 1 before after row are.numbered;
      ended = ended_at before after row are.ended;
      moments = all_at HasMoments before after row are.moments;
      good = all_at (IsRowIn form) before after row in_form;
    }

-- rows each of which can be next have what their form allows
pub rows_in : (form : Form) (rows : List Row) → EachCan (CanBeNext form) rows → All (IsRowIn form) rows
rows_in form rows each = each_all (IsRowIn form) (CanBeNext form) (λ before row can. can.good) rows each

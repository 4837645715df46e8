-- The bytes of a saved text: no LF stands in a line, and there are not too many. Other crates may cite these lemmas.
use Rattle.std.proofs.Common.{ℕ, ◌≡◌, ◌+◌, ◌*◌, ◌≤◌, ℤ, List, [], ◌∷◌, ◌++◌, length, refl, ap, sym, arith, All, Option, Some, None, inl, inr, map, length-append, subst}
use Rattle.std.specs.Prelude.{codes, decimal, flat_map, sum_by, IfSome}
use Rattle.std.specs.Fmt.{signed_decimal}
use Rattle.std.proofs.lemmas.Fmt.{length-decimal-le}
use Rattle.std.proofs.lemmas.List.Sums.{sum_by-cons}
use Rattle.std.proofs.lemmas.List.Elements.{All-nil, All-cons, All-append, All-head, All-tail}
use Rattle.desk_base.specs.Moments.{IsMoment}
use Rattle.line_forms.specs.Numbers.{IsId}
use Rattle.line_forms.specs.Fields.{field_text}
use Rattle.line_forms.specs.FieldLists.{line_of}
use Rattle.line_forms.specs.Lines.{IsLine}
use Rattle.line_forms.proofs.Cutting.{lacks_by}
use Rattle.line_forms.proofs.LineBytes.{all_flat, all_mapped, id_length, joined_length, lacks_id, lacks_name, moment_length, size, size_append, size_cons, worded}
use Rattle.line_forms.proofs.PlainLemmas.{lacks_fields}
use Rattle.act_rules.specs.declared.row.Row.{Row}
use Rattle.report_text.specs.declared.form.Form.{Form}
use Rattle.report_text.specs.declared.form.Form.TheVariants.{One, Two}
use Rattle.report_text.specs.declared.report.Report.{Report}
use Rattle.report_text.specs.RowLines.{component_field, end_field, exit_field, line_field, outcome_field}
use Rattle.report_text.specs.Reports.{IsReport, computer_line, end_line, report_lines, report_text}
use Rattle.report_text.proofs.LineLemmas.{are_lines}
use Rattle.report_text.proofs.SizeLemmas.{component_length, computer_length, end_length, exit_length, line_length, outcome_length}
use Rattle.agent_text.specs.declared.saved.Saved.{Saved}
use Rattle.agent_text.specs.AttemptLines.{attempt_fields, attempt_line, cleared_field}
use Rattle.agent_text.specs.Histories.{IsHistory, PlainHistory, pending_ids}
use Rattle.agent_text.specs.MostBytes.{history_bytes, report_bytes}
use Rattle.agent_text.specs.SavedTexts.{FitsForm, IsSaved, agent_line, most_bytes, next_line, pending_line, saved_lines, saved_text}
use Rattle.agent_text.specs.HistoryLines.{action_line, history_lines, history_text}
use Rattle.agent_text.specs.PartReadings.{CanBeNext, IsNoted, IsRowIn}
use Rattle.agent_text.proofs.AttemptLists.{each_attempt, next_attempt}
use Rattle.agent_text.proofs.AttemptRows.{noted, plain_attempt}
use Rattle.line_forms.proofs.Lasts.{each_all}
use Rattle.agent_text.proofs.PendingIds.{ids_more, ids_same, two}
use Rattle.agent_text.proofs.SavedLines.{in_form}

-- ---- lines
line_agent : (form : Form) → IsLine (agent_line form)
line_agent One = lacks_by 10 (agent_line One) refl
line_agent Two = lacks_by 10 (agent_line Two) refl

-- the attempts of a history are those of their form
noted_rows : (form : Form) (h : PlainHistory) → IsHistory h → All (IsRowIn form) h.rows → All (IsNoted form) h.rows
noted_rows form h good rows = each_all (IsNoted form) (CanBeNext form) (λ before row can. noted form row (next_attempt form before row can)) h.rows (each_attempt form h.rows good.rows.numbered rows)

-- the lines of a history
history_are : (form : Form) (h : PlainHistory) → IsHistory h × All (IsRowIn form) h.rows → All IsLine (history_lines form h)
history_are form h (good, rows) =
    All-cons IsLine (action_line h.action) (map (attempt_line form) h.rows) (worded (field_text (codes "action")) (decimal h.action) refl (lacks_id h.action good.action))
    (all_mapped (attempt_line form) (IsNoted form) (λ row fine. worded (field_text (codes "attempt")) (line_of (attempt_fields form row)) refl (lacks_fields (attempt_fields form row) (plain_attempt form row fine))) h.rows (noted_rows form h good rows))

-- pending ids are ids
ids_good : (hs : List PlainHistory) → All IsHistory hs → All IsId (pending_ids hs)
ids_good [] h = All-nil IsId
ids_good (x ∷ hs) h =
    let A : List ℕ → Type 0 = All IsId in
    let good = All-head IsHistory x hs h in
    let behind = ids_good hs (All-tail IsHistory x hs h) in
    elim (two x.pending) [
      | inl e ↦ subst A (sym (ids_more x hs e)) (All-cons IsId x.action (pending_ids hs) good.action behind)
      | inr e ↦ subst A (sym (ids_same x hs e)) behind
    ]

-- no LF stands in a line of what is saved
pub saved_are : (form : Form) (saved : Saved) → IsSaved saved → FitsForm form saved → All IsLine (saved_lines form saved)
saved_are form saved is fits =
    let hs = flat_map (history_lines form) saved.histories in
    let ids = map pending_line (pending_ids saved.histories) in
    let reports = flat_map report_lines saved.reports in
    let rows = in_form form saved is fits in
    All-cons IsLine (agent_line form) (computer_line saved.computer ∷ next_line saved.next ∷ (hs ++ (ids ++ (reports ++ end_line ∷ [])))) (line_agent form)
    (All-cons IsLine (computer_line saved.computer) (next_line saved.next ∷ (hs ++ (ids ++ (reports ++ end_line ∷ [])))) (worded (field_text (codes "computer")) saved.computer refl (lacks_name saved.computer is.computer))
    (All-cons IsLine (next_line saved.next) (hs ++ (ids ++ (reports ++ end_line ∷ []))) (worded (field_text (codes "next")) (decimal saved.next) refl (lacks_id saved.next is.next))
    (All-append IsLine hs (ids ++ (reports ++ end_line ∷ []))
    (all_flat (history_lines form) (λ h. IsHistory h × All (IsRowIn form) h.rows) (λ h fine. history_are form h fine) saved.histories (λ k d within. (is.histories.good k d within, rows k d within)))
    (All-append IsLine ids (reports ++ end_line ∷ [])
    (all_mapped pending_line IsId (λ n id. worded (field_text (codes "pending")) (decimal n) refl (lacks_id n id)) (pending_ids saved.histories) (ids_good saved.histories is.histories.good))
    (All-append IsLine reports (end_line ∷ [])
    (all_flat report_lines IsReport (λ r good. are_lines r good) saved.reports is.reports.good)
    (All-cons IsLine end_line [] (lacks_by 10 end_line refl) (All-nil IsLine)))))))

-- ---- lengths
-- the most bytes of each field
cleared_length : (c : Option ℤ) → IfSome c IsMoment → length (cleared_field c) ≤ 12
cleared_length None h = omega arith
cleared_length (Some t) h = moment_length t h

-- the most bytes of an attempt
attempt_length : (row : Row) → IsNoted Two row → length (attempt_line Two row) ≤ 112
attempt_length row ((least, most, (begun, ended, cleared)), (exit, place)) =
    let a = line_field row.note.place in
    let b = component_field row.note.place ++ 32 ∷ a in
    let d = exit_field row.note.exit ++ 32 ∷ b in
    let e = cleared_field row.cleared ++ 32 ∷ d in
    let f = end_field row.end ++ 32 ∷ e in
    let g = outcome_field row.end ++ 32 ∷ f in
    let i = signed_decimal row.begun ++ 32 ∷ g in
    let number = length-decimal-le 10 row.number (omega arith) (omega (arith, most)) (omega (arith, most)) in
    let all : length (decimal row.number ++ 32 ∷ i) ≤ 104 =
    omega (
      arith,
      joined_length (decimal row.number) i 10 93 number
          (let z = joined_length (signed_decimal row.begun) g 12 80 (moment_length row.begun begun)
          (let y = joined_length (outcome_field row.end) f 11 68 (outcome_length row.end)
          (let x = joined_length (end_field row.end) e 12 55 (end_length row.end ended)
          (let w = joined_length (cleared_field row.cleared) d 12 42 (cleared_length row.cleared cleared)
          (let v = joined_length (exit_field row.note.exit) b 20 21 (exit_length row.note.exit exit) (let u = joined_length (component_field row.note.place) a 10 10 (component_length row.note.place place) (line_length row.note.place place) in omega (arith, u)) in omega (arith, v))
          in omega (arith, w))
          in omega (arith, x))
          in omega (arith, y))
          in omega (arith, z)),
    ) in
    omega (arith, all, length-append (field_text (codes "attempt")) (decimal row.number ++ 32 ∷ i))

attempts_size : (rows : List Row) → All (IsNoted Two) rows → size (map (attempt_line Two) rows) ≤ 113 * length rows
attempts_size [] h = omega arith
attempts_size (row ∷ rows) h =
    omega (arith, attempt_length row (All-head (IsNoted Two) row rows h), attempts_size rows (All-tail (IsNoted Two) row rows h), size_cons (attempt_line Two row) (map (attempt_line Two) rows))

-- the lines of histories, with those of the pending ones
histories_size : (hs : List PlainHistory) → All IsHistory hs → size (flat_map (history_lines Two) hs) + size (map pending_line (pending_ids hs)) ≤ sum_by history_bytes hs
histories_size [] h = omega arith
histories_size (x ∷ hs) h =
    let good = All-head IsHistory x hs h in
    let behind = histories_size hs (All-tail IsHistory x hs h) in
    let digits = id_length x.action good.action in
    let rows = attempts_size x.rows (noted_rows Two x good good.rows.good) in
    let first : size (history_lines Two x) ≤ 24 + 113 * length x.rows =
    omega (arith, digits, rows, size_cons (action_line x.action) (map (attempt_line Two) x.rows), length-append (field_text (codes "action")) (decimal x.action)) in
    let all = size_append (history_lines Two x) (flat_map (history_lines Two) hs) in
    let ids : size (map pending_line (pending_ids (x ∷ hs))) ≤ 25 + size (map pending_line (pending_ids hs)) = elim (two x.pending) [
      | inl e ↦ more (ap (λ l. size (map pending_line l)) (ids_more x hs e)) digits
      | inr e ↦ (let same = ap (λ l. size (map pending_line l)) (ids_same x hs e) in omega arith)
    ] in
    omega (arith, behind, first, all, ids, sum_by-cons history_bytes x hs)
  where
    more : size (map pending_line (pending_ids (x ∷ hs))) ≡ size (map pending_line (x.action ∷ pending_ids hs)) → length (decimal x.action) ≤ 16 → size (map pending_line (pending_ids (x ∷ hs))) ≤ 25 + size (map pending_line (pending_ids hs))
    more same digits = omega (arith, same, digits, size_cons (pending_line x.action) (map pending_line (pending_ids hs)), length-append (field_text (codes "pending")) (decimal x.action))

-- the lines of a history
pub history_short : (h : PlainHistory) → IsHistory h → length (history_text h) ≤ history_bytes h
history_short h good =
    let digits = id_length h.action good.action in
    let rows = attempts_size h.rows (noted_rows Two h good good.rows.good) in
    omega (arith, digits, rows, size_cons (action_line h.action) (map (attempt_line Two) h.rows), length-append (field_text (codes "action")) (decimal h.action))

-- no report is too long
abbrev pub ShortReports : Type 0
ShortReports = (report : Report) → IsReport report → length (report_text report) ≤ 108 + 113 * length report.rows

-- the texts of reports
pub texts_short : ShortReports → (rs : List Report) → All IsReport rs → length (flat_map report_text rs) ≤ sum_by report_bytes rs
texts_short short [] h = omega arith
texts_short short (r ∷ rs) h =
    omega (arith, short r (All-head IsReport r rs h), texts_short short rs (All-tail IsReport r rs h), length-append (report_text r) (flat_map report_text rs), sum_by-cons report_bytes r rs)

-- the lines of reports
reports_size : ShortReports → (rs : List Report) → All IsReport rs → size (flat_map report_lines rs) ≤ sum_by report_bytes rs
reports_size short [] h = omega arith
reports_size short (r ∷ rs) h =
    omega (arith, short r (All-head IsReport r rs h), reports_size short rs (All-tail IsReport r rs h), size_append (report_lines r) (flat_map report_lines rs), sum_by-cons report_bytes r rs)

-- the text is no longer than what is reckoned
pub saved_short : ShortReports → (saved : Saved) → IsSaved saved → length (saved_text saved) ≤ most_bytes saved.histories saved.reports
saved_short short saved is =
    let hs = flat_map (history_lines Two) saved.histories in
    let ids = map pending_line (pending_ids saved.histories) in
    let reports = flat_map report_lines saved.reports in
    let last = reports ++ end_line ∷ [] in
    omega (
      arith,
      size_cons (agent_line Two) (computer_line saved.computer ∷ next_line saved.next ∷ (hs ++ (ids ++ last))),
      size_cons (computer_line saved.computer) (next_line saved.next ∷ (hs ++ (ids ++ last))),
      size_cons (next_line saved.next) (hs ++ (ids ++ last)),
      computer_length saved.computer is.computer,
      length-append (field_text (codes "next")) (decimal saved.next),
      id_length saved.next is.next,
      size_append hs (ids ++ last),
      size_append ids last,
      size_append reports (end_line ∷ []),
      size_cons end_line [],
      histories_size saved.histories is.histories.good,
      reports_size short saved.reports is.reports.good,
    )

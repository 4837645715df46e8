-- What is saved, in the parts of its lines.
use Rattle.std.proofs.Common.{ℕ, ◌≡◌, ◌<◌, ◌≤◌, List, [], ◌∷◌, ◌++◌, length, map, false, refl, sym, ap, subst, ◌∙◌, arith, All, append_assoc, length-append}
use Rattle.std.specs.Prelude.{flat_map}
use Rattle.std.specs.List.Sorted.{IsStrictlyIncreasing}
use Rattle.std.proofs.lemmas.List.Elements.{All-nil, All-cons, All-head, All-tail, All-map, All-weaker}
use Rattle.line_forms.specs.Names.{IsName}
use Rattle.line_forms.specs.Numbers.{IsId}
use Rattle.line_forms.specs.Readers.{EachCan, NeverGoesOn}
use Rattle.line_forms.proofs.Passing.{cons_tail}
use Rattle.act_rules.specs.declared.row.Row.{Row}
use Rattle.report_text.specs.declared.form.Form.{Form}
use Rattle.report_text.specs.declared.form.Form.TheVariants.{One, Two}
use Rattle.report_text.specs.declared.report.Report.{Report}
use Rattle.act_rules.specs.Notes.{no_note}
use Rattle.report_text.specs.Reports.{IsReport, end_line, report_lines}
use Rattle.agent_text.specs.declared.saved.Saved.{Saved}
use Rattle.agent_text.specs.Histories.{AreHistories, IsHistory, PlainHistory, pending_ids}
use Rattle.agent_text.specs.SavedTexts.{AreOutbox, AreSavedLines, FitsForm, IsSaved, IsSavedBy, pending_line, saved_lines}
use Rattle.agent_text.specs.HistoryLines.{history_lines}
use Rattle.agent_text.specs.PartReadings.{Around, CanCome, CanFollow, IsFormIn, IsFrame, IsRowIn, frame_lines, untold, untold_one}
use Rattle.agent_text.proofs.HistoryLists.{all_untold, are_histories}
use Rattle.line_forms.proofs.Lasts.{all_at, ascends, each_all, each_ascends, each_few, increasing, last_below}
use Rattle.line_forms.proofs.Parts.{Lines, Only, rest_same}
use Rattle.agent_text.proofs.PendingIds.{CanBePending, action_of, each_has, each_pending, each_up, ids_marked, marked, marked_again, untold_marked, up}
use Rattle.agent_text.proofs.PendingSteps.{actions_of, told_histories}
use Rattle.agent_text.proofs.SavedParts.{AfterHistories, Ended, HistoriesPart, ReportsPart, Whole, ended_end, histories_sequence, one_frame, pending_sequence, reports_sequence}
use Rattle.line_forms.proofs.Sequences.{flat_single, many_one}

-- the first three lines of what is saved
abbrev pub around_saved : Form → Saved → Around
around_saved form saved = record { form = form; computer = saved.computer; next = saved.next }

-- ---- from what is saved to the parts
-- its histories, without which of them are pending
pub in_form : (form : Form) (saved : Saved) → IsSaved saved → FitsForm form saved → All (λ h. All (IsRowIn form) h.rows) saved.histories
in_form One saved is fits = λ k d within. let good = (is.histories.good k d within).rows.good in let none = fits.0 k d within in λ i e inside. (good i e inside, none i e inside)
in_form Two saved is fits = λ k d within. (is.histories.good k d within).rows.good

-- each history can stand behind those before it
each_follows : (form : Form) (hs : List PlainHistory) → AreHistories hs → All (λ h. All (IsRowIn form) h.rows) hs → EachCan (CanFollow form) (untold hs)
each_follows form hs are in_all before after h e =
    let I : List ℕ → Type 0 = IsStrictlyIncreasing in
    let good : All IsHistory (untold hs) = All-map IsHistory untold_one hs (All-weaker IsHistory (λ h. IsHistory (untold_one h)) (λ h g. record { action = g.action; rows = g.rows }) hs are.good) in
    let rows : All (λ h. All (IsRowIn form) h.rows) (untold hs) = All-map (λ h. All (IsRowIn form) h.rows) untold_one hs in_all in
    let told : All (λ h. h.pending ≡ false) (untold hs) = All-map (λ h. h.pending ≡ false) untold_one hs (λ k d within. refl) in
    let G : List PlainHistory → Type 0 = All IsHistory in
    let R : List PlainHistory → Type 0 = All (λ h. All (IsRowIn form) h.rows) in
    let T : List PlainHistory → Type 0 = All (λ h. h.pending ≡ false) in
    let U : List PlainHistory → Type 0 = λ l. IsStrictlyIncreasing (map action_of l) in
    record {
      good = all_at IsHistory before after h (subst G e good);
      rows = all_at (λ h. All (IsRowIn form) h.rows) before after h (subst R e rows);
      above = last_below action_of before after h (ascends action_of (before ++ h ∷ after) (subst U e (subst I (sym (actions_of hs)) are.ascending)));
      told = all_at (λ h. h.pending ≡ false) before after h (subst T e told);
    }

-- each pending id is that of a history, above those before it
pub each_waits : (hs marks : List PlainHistory) → AreHistories marks → untold marks ≡ hs → EachCan (CanBePending (map action_of hs)) (pending_ids marks)
each_waits hs marks are told =
    let P : List ℕ → Type 0 = λ l. EachCan (CanBePending l) (pending_ids marks) in
    subst P (sym (actions_of marks) ∙ ap (map action_of) told) (each_pending marks (ascends action_of marks are.ascending))

in_report_form : (form : Form) (saved : Saved) → FitsForm form saved → All (λ r. IsFormIn form r.form) saved.reports
in_report_form One saved fits = fits.1
in_report_form Two saved fits = λ k d within. tt

-- each report can stand behind those before it
each_comes : (form : Form) (saved : Saved) → IsSaved saved → FitsForm form saved → EachCan (CanCome (around_saved form saved)) saved.reports
each_comes form saved is fits before after r e =
    let around = around_saved form saved in
    let out = is.reports in
    let N : List Report → Type 0 = λ l. length l ≤ 1000 in
    let G : List Report → Type 0 = All IsReport in
    let F : List Report → Type 0 = All (λ r. IsFormIn form r.form) in
    let O : List Report → Type 0 = All (λ r. r.computer ≡ saved.computer) in
    let U : List Report → Type 0 = λ l. IsStrictlyIncreasing (map (λ r. r.seq) l) in
    let B : List Report → Type 0 = All (λ r. r.seq < saved.next) in
    let few : length (before ++ r ∷ after) ≤ 1000 = subst N e out.few in
    record {
      few = omega (arith, few, length-append before (r ∷ after));
      good = all_at IsReport before after r (subst G e out.good);
      form = all_at (λ r. IsFormIn form r.form) before after r (subst F e (in_report_form form saved fits));
      own = all_at (λ r. r.computer ≡ saved.computer) before after r (subst O e out.own);
      later = last_below (λ r. r.seq) before after r (ascends (λ r. r.seq) (before ++ r ∷ after) (subst U e out.ascending));
      below = all_at (λ r. r.seq < saved.next) before after r (subst B e out.below);
    }

-- the lines of histories don't say which are pending
pub flat_untold : (form : Form) (hs : List PlainHistory) → flat_map (history_lines form) (untold hs) ≡ flat_map (history_lines form) hs
flat_untold form [] = refl
flat_untold form (x ∷ hs) = ap (λ l. history_lines form x ++ l) (flat_untold form hs)

-- the lines behind the first three, behind the histories, and behind the pending actions
abbrev last_lines : Saved → Lines
last_lines saved = flat_map report_lines saved.reports ++ end_line ∷ []

abbrev pending_lines : Saved → Lines
pending_lines saved = map pending_line (pending_ids saved.histories) ++ last_lines saved

-- these lines are those of the parts
reports_in : (form : Form) (saved : Saved) → IsSaved saved → FitsForm form saved → ReportsPart (Only end_line) (around_saved form saved) (last_lines saved)
reports_in form saved is fits = (saved.reports, end_line ∷ [], each_comes form saved is fits, refl, refl)

pending_in : (form : Form) (saved : Saved) → IsSaved saved → FitsForm form saved → AfterHistories (Only end_line) (around_saved form saved) (untold saved.histories) (pending_lines saved)
pending_in form saved is fits =
    let ids = pending_ids saved.histories in
    (ids, last_lines saved, each_waits (untold saved.histories) saved.histories is.histories refl, reports_in form saved is fits, ap (λ l. l ++ last_lines saved) (sym (flat_single pending_line ids)))

histories_in : (form : Form) (saved : Saved) → IsSaved saved → FitsForm form saved → HistoriesPart (Only end_line) (around_saved form saved) (flat_map (history_lines form) saved.histories ++ pending_lines saved)
histories_in form saved is fits = (
  untold saved.histories,
  pending_lines saved,
  each_follows form saved.histories is.histories (in_form form saved is fits),
  pending_in form saved is fits,
  ap (λ l. l ++ pending_lines saved) (sym (flat_untold form saved.histories)),
)

-- the lines of what is saved are those of the parts
pub whole_there : (computer : List ℕ) (lines : Lines) → AreSavedLines computer lines → Whole computer lines
whole_there computer lines (form, saved, (is, fits, own), e) =
    (around_saved form saved, flat_map (history_lines form) saved.histories ++ pending_lines saved, (own, is.next), histories_in form saved is fits, e)

-- ---- and back
-- what holds of the rows of histories holds of them whichever are pending
told_rows : (P : List Row → Type 0) (hs : List PlainHistory) → All (λ h. P h.rows) (untold hs) → All (λ h. P h.rows) hs
told_rows P [] h = All-nil (λ h. P h.rows)
told_rows P (x ∷ hs) h =
    All-cons (λ h. P h.rows) x hs (All-head (λ h. P h.rows) (untold_one x) (untold hs) h) (told_rows P hs (All-tail (λ h. P h.rows) (untold_one x) (untold hs) h))

-- what was read fits its form
fits_form : (around : Around) (hs : List PlainHistory) (saved : Saved) → untold saved.histories ≡ hs → EachCan (CanFollow around.form) hs → EachCan (CanCome around) saved.reports → FitsForm around.form saved
fits_form around hs saved told each each_r =
    fits around.form (each_all (λ h. All (IsRowIn around.form) h.rows) (CanFollow around.form) (λ before h can. can.rows) hs each) (each_all (λ r. IsFormIn around.form r.form) (CanCome around) (λ before r can. can.form) saved.reports each_r)
  where
    fits : (form : Form) → All (λ h. All (IsRowIn form) h.rows) hs → All (λ r. IsFormIn form r.form) saved.reports → FitsForm form saved
    fits One rows forms =
        let A : List PlainHistory → Type 0 = All (λ h. All (IsRowIn One) h.rows) in
        let P : List Row → Type 0 = All (λ row. row.note ≡ no_note) in
        let here : All (λ h. All (IsRowIn One) h.rows) (untold saved.histories) = subst A (sym told) rows in
        (told_rows P saved.histories (λ k d within. let one = here k d within in λ i e inside. (one i e inside).1), forms)
    fits Two rows forms = tt

-- reports that were read can be saved
outbox : (around : Around) (reports : List Report) → EachCan (CanCome around) reports → AreOutbox around.computer around.next reports
outbox around reports each = record {
  few = each_few 1000 (CanCome around) (λ before r can. can.few) reports each;
  good = each_all IsReport (CanCome around) (λ before r can. can.good) reports each;
  own = each_all (λ r. r.computer ≡ around.computer) (CanCome around) (λ before r can. can.own) reports each;
  ascending = increasing (λ r. r.seq) reports (each_ascends (λ r. r.seq) (CanCome around) (λ before r can. can.later) reports each);
  below = each_all (λ r. r.seq < around.next) (CanCome around) (λ before r can. can.below) reports each;
}

-- what was read can be saved
pub saved_by : (computer : List ℕ) (around : Around) (saved : Saved) (hs : List PlainHistory) → IsName computer → IsFrame computer around → saved.computer ≡ computer → saved.next ≡ around.next → untold saved.histories ≡ hs →
    EachCan (CanFollow around.form) hs → EachCan (CanCome around) saved.reports → IsSavedBy computer around.form saved
saved_by computer around saved hs name frame own next told each each_r =
    let N : List ℕ → Type 0 = IsName in
    let I : ℕ → Type 0 = IsId in
    let O : List ℕ → Type 0 = λ c. AreOutbox c saved.next saved.reports in
    let M : ℕ → Type 0 = λ n. AreOutbox around.computer n saved.reports in (
      record {
        computer = subst N (sym own) name;
        next = subst I (sym next) frame.1;
        histories = told_histories hs saved.histories told (are_histories around.form hs each);
        reports = subst O (frame.0 ∙ sym own) (subst M (sym next) (outbox around saved.reports each_r));
      },
      fits_form around hs saved told each each_r,
      own,
    )

-- lines of the parts are those of what is saved
pub whole_back : (computer : List ℕ) → IsName computer → (lines : Lines) → Whole computer lines → AreSavedLines computer lines
whole_back computer name lines (around, rest, frame, (hs, rest2, each, (ids, rest3, each_ids, (reports, rest4, each_r, last, e4), e3), e2), e) =
    let are = are_histories around.form hs each in
    let none = each_all (λ h. h.pending ≡ false) (CanFollow around.form) (λ before h can. can.told) hs each in
    let saved : Saved = record { computer = computer; next = around.next; histories = marked hs ids; reports = reports } in
    let told : untold (marked hs ids) ≡ hs = untold_marked hs ids ∙ all_untold around.form hs each in
    let ids_are : pending_ids (marked hs ids) ≡ ids = ids_marked hs ids none (up action_of hs (ascends action_of hs are.ascending)) (each_up (map action_of hs) ids each_ids) (each_has (map action_of hs) ids each_ids) in
    let r4 : rest3 ≡ flat_map report_lines reports ++ end_line ∷ [] = e4 ∙ ap (λ l. flat_map report_lines reports ++ l) last in
    let r3 : rest2 ≡ map pending_line (pending_ids (marked hs ids)) ++ (flat_map report_lines reports ++ end_line ∷ []) =
    e3 ∙ ap (λ l. l ++ rest3) (flat_single pending_line ids ∙ ap (map pending_line) (sym ids_are)) ∙ ap (λ l. map pending_line (pending_ids (marked hs ids)) ++ l) r4 in
    let r2 : rest ≡ flat_map (history_lines around.form) (marked hs ids) ++ (map pending_line (pending_ids (marked hs ids)) ++ (flat_map report_lines reports ++ end_line ∷ [])) =
    e2 ∙ ap (λ l. l ++ rest2) (ap (flat_map (history_lines around.form)) (sym told) ∙ flat_untold around.form (marked hs ids)) ∙ ap (λ l. flat_map (history_lines around.form) (marked hs ids) ++ l) r3 in (
      around.form,
      saved,
      saved_by computer around saved hs name frame refl refl told each each_r,
      e ∙ ap (λ l. frame_lines around ++ l) r2
          ∙ ap (λ c. frame_lines (let a : Around = record { form = around.form; computer = c; next = around.next } in a) ++ (flat_map (history_lines around.form) (marked hs ids) ++ (map pending_line (pending_ids (marked hs ids)) ++ (flat_map report_lines reports ++ end_line ∷ [])))) frame.0,
    )

-- ---- what is saved is known by its lines, whatever follows
-- behind the same first lines
parts_one : (around : Around) (hs hs2 : List PlainHistory) (rs rs2 : List Report) (z z2 : Lines) → Ended z → Ended z2 → AreHistories hs → AreHistories hs2 → EachCan (CanFollow around.form) (untold hs) →
    EachCan (CanFollow around.form) (untold hs2) → EachCan (CanCome around) rs → EachCan (CanCome around) rs2 →
    flat_map (history_lines around.form) hs ++ (map pending_line (pending_ids hs) ++ (flat_map report_lines rs ++ z)) ≡ flat_map (history_lines around.form) hs2 ++ (map pending_line (pending_ids hs2) ++ (flat_map report_lines rs2 ++ z2)) →
    (hs ≡ hs2) × (rs ≡ rs2) × (z ≡ z2)
parts_one around hs hs2 rs rs2 z z2 end end2 are are2 each each2 each_r each_r2 e =
    let last : Lines = flat_map report_lines rs ++ z in
    let last2 : Lines = flat_map report_lines rs2 ++ z2 in
    let p : Lines = map pending_line (pending_ids hs) ++ last in
    let q : Lines = map pending_line (pending_ids hs2) ++ last2 in
    let one = many_one (histories_sequence Ended around ended_end) (untold hs) (untold hs2) p q each each2
    (pending_ids hs, last, each_waits (untold hs) hs are refl, (rs, z, each_r, end, refl), ap (λ l. l ++ last) (sym (flat_single pending_line (pending_ids hs))))
    (pending_ids hs2, last2, each_waits (untold hs2) hs2 are2 refl, (rs2, z2, each_r2, end2, refl), ap (λ l. l ++ last2) (sym (flat_single pending_line (pending_ids hs2))))
    (ap (λ l. l ++ p) (flat_untold around.form hs) ∙ e ∙ ap (λ l. l ++ q) (sym (flat_untold around.form hs2))) in
    let actions : List ℕ = map action_of (untold hs) in
    let W : List PlainHistory → Type 0 = λ l. EachCan (CanBePending (map action_of l)) (pending_ids hs2) in
    let ids_good : All IsId actions = All-map IsId action_of (untold hs) (each_all (λ h. IsId h.action) (CanFollow around.form) (λ before h can. can.good.action) (untold hs) each) in
    let two = many_one (pending_sequence Ended around actions ended_end ids_good) (pending_ids hs) (pending_ids hs2) last last2 (each_waits (untold hs) hs are refl) (subst W (sym one.0) (each_waits (untold hs2) hs2 are2 refl))
    (rs, z, each_r, end, refl) (rs2, z2, each_r2, end2, refl)
    (ap (λ l. l ++ last) (flat_single pending_line (pending_ids hs)) ∙ one.1 ∙ ap (λ l. l ++ last2) (sym (flat_single pending_line (pending_ids hs2)))) in
    let three = many_one (reports_sequence Ended around ended_end) rs rs2 z z2 each_r each_r2 end end2 two.1 in (
      sym (marked_again hs (up action_of hs (ascends action_of hs are.ascending))) ∙ ap (λ l. marked l (pending_ids hs)) one.0 ∙ ap (marked (untold hs2)) two.0
          ∙ marked_again hs2 (up action_of hs2 (ascends action_of hs2 are2.ascending)),
      three.0,
      three.1,
    )

-- what is saved is known by its parts
pub saved_parts : (v w : Saved) → v.computer ≡ w.computer → v.next ≡ w.next → v.histories ≡ w.histories → v.reports ≡ w.reports → v ≡ w
saved_parts v w h k l m =
    ap (λ (x : List ℕ). let s : Saved = record { computer = x; next = v.next; histories = v.histories; reports = v.reports } in s) h
    ∙ ap (λ (x : ℕ). let s : Saved = record { computer = w.computer; next = x; histories = v.histories; reports = v.reports } in s) k
    ∙ ap (λ (x : List PlainHistory). let s : Saved = record { computer = w.computer; next = w.next; histories = x; reports = v.reports } in s) l
    ∙ ap (λ (x : List Report). let s : Saved = record { computer = w.computer; next = w.next; histories = w.histories; reports = x } in s) m

-- the lines of what is saved, but for the last, and then these
abbrev with_end : Form → Saved → Lines → Lines
with_end form saved z =
    frame_lines (around_saved form saved) ++ (flat_map (history_lines form) saved.histories ++ (map pending_line (pending_ids saved.histories) ++ (flat_map report_lines saved.reports ++ z)))

-- what is saved is known by its lines, whatever follows the last one
lines_one : (computer : List ℕ) (form other_form : Form) (saved other : Saved) (z z2 : Lines) → Ended z → Ended z2 → IsSavedBy computer form saved → IsSavedBy computer other_form other → with_end form saved z ≡ with_end other_form other z2 →
    (form ≡ other_form) × (saved ≡ other) × (z ≡ z2)
lines_one computer form other_form saved other z z2 end end2 (is, fits, own) (fine, fit, also) e =
    let a = around_saved form saved in
    let b = around_saved other_form other in
    let rest : Lines = flat_map (history_lines form) saved.histories ++ (map pending_line (pending_ids saved.histories) ++ (flat_map report_lines saved.reports ++ z)) in
    let last2 : Lines = map pending_line (pending_ids other.histories) ++ (flat_map report_lines other.reports ++ z2) in
    let rest2 : Lines = flat_map (history_lines other_form) other.histories ++ last2 in
    let frames : a ≡ b = one_frame computer a b rest rest2 (own, is.next) (also, fine.next) e in
    let forms : form ≡ other_form = ap (λ (r : Around). r.form) frames in
    let F : Form → Type 0 = λ f. EachCan (CanFollow f) (untold other.histories) in
    let C : Around → Type 0 = λ r. EachCan (CanCome r) other.reports in
    let L : Form → Type 0 = λ f. rest ≡ flat_map (history_lines f) other.histories ++ last2 in
    let parts = parts_one a saved.histories other.histories saved.reports other.reports z z2 end end2 is.histories fine.histories
    (each_follows form saved.histories is.histories (in_form form saved is fits))
    (subst F (sym forms) (each_follows other_form other.histories fine.histories (in_form other_form other fine fit)))
    (each_comes form saved is fits) (subst C (sym frames) (each_comes other_form other fine fit))
    (subst L (sym forms) (rest_same frame_lines a b rest rest2 frames e)) in (
      forms,
      saved_parts saved other (own ∙ sym also) (ap (λ (r : Around). r.next) frames) parts.0 parts.1,
      parts.2,
    )

-- and where nothing follows
pub saved_one : (computer : List ℕ) (form other_form : Form) (saved other : Saved) → IsSavedBy computer form saved → IsSavedBy computer other_form other → saved_lines form saved ≡ saved_lines other_form other → (form ≡ other_form) × (saved ≡ other)
saved_one computer form other_form saved other by also e =
    let one = lines_one computer form other_form saved other (end_line ∷ []) (end_line ∷ []) ([], refl) ([], refl) by also e in (one.0, one.1)

-- nothing goes on behind the last line
pub never_goes_on : (computer : List ℕ) (form : Form) (saved : Saved) → IsSavedBy computer form saved → NeverGoesOn (AreSavedLines computer) (saved_lines form saved)
never_goes_on computer form saved by line more (other_form, other, also, e) =
    let one = lines_one computer form other_form saved other (end_line ∷ line ∷ more) (end_line ∷ []) (line ∷ more, refl) ([], refl) by also (sym (behind (line ∷ more)) ∙ e) in
    longer line more one.2
  where
    behind : (z : Lines) → saved_lines form saved ++ z ≡ with_end form saved (end_line ∷ z)
    behind z =
        ap (λ l. frame_lines (around_saved form saved) ++ l)
        (append_assoc (flat_map (history_lines form) saved.histories) (map pending_line (pending_ids saved.histories) ++ (flat_map report_lines saved.reports ++ end_line ∷ [])) z
        ∙ ap (λ l. flat_map (history_lines form) saved.histories ++ l)
        (append_assoc (map pending_line (pending_ids saved.histories)) (flat_map report_lines saved.reports ++ end_line ∷ []) z
        ∙ ap (λ l. map pending_line (pending_ids saved.histories) ++ l) (append_assoc (flat_map report_lines saved.reports) (end_line ∷ []) z)))

    longer : (line : List ℕ) (more : Lines) → end_line ∷ line ∷ more ≡ end_line ∷ [] → ⊥
    longer line more h = let k : line ∷ more ≡ [] = cons_tail end_line end_line (line ∷ more) [] h in cc

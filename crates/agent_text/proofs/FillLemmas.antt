-- Texts of items that are appended one after another, for which there is room.
use Rattle.std.proofs.Common.{ℕ, ◌≡◌, ◌+◌, ◌<◌, ◌≤◌, List, [], ◌∷◌, ◌++◌, length, Bool, true, false, cond, refl, sym, ap, ◌∙◌, subst, arith, take, get_or, map, length-append, append_assoc}
use Rattle.std.specs.Prelude.{codes, flat_map, filter}
use Rattle.std.proofs.lemmas.List.{take_all, take_more, flat_map_more}
use Rattle.std.proofs.lemmas.List.Concat.{flat_map-append}
use Rattle.std.proofs.lemmas.List.Folds.{flat_map-map, length-flat_map-take}
use Rattle.desk_base.specs.Rooms.{HasRoom, Fills, RoomState}
use Rattle.line_forms.specs.Lines.{ended_line, lines_text}
use Rattle.report_text.specs.declared.form.Form.TheVariants.{Two}
use Rattle.report_text.specs.declared.report.Report.{Report}
use Rattle.report_text.specs.Reports.{report_lines, report_text, computer_line, end_line}
use Rattle.agent_text.specs.declared.saved.Saved.{Saved}
use Rattle.agent_text.specs.Histories.{PlainHistory, pending_ids}
use Rattle.agent_text.specs.SavedTexts.{agent_line, next_line, pending_line, saved_text}
use Rattle.agent_text.specs.HistoryLines.{history_lines, history_text}
use Rattle.agent_text.specs.PartWritings.{head_text, pending_text}

-- ---- a loop over items, for which all there is room
-- the next item has room
pub room_more : {X : Type 0} (text : X → List ℕ) (items : List X) (whole : List ℕ) (i : ℕ) (d : X) (start now : RoomState) → whole ≡ flat_map text items
    → i < length items → HasRoom start (length whole) → Fills start now (flat_map text (take i items)) → HasRoom now (length (text (get_or items i d)))
room_more text items whole i d start now is inside room so_far =
    omega (arith, ap (length {A = ℕ}) is, length-flat_map-take text items i d inside, ap (length {A = ℕ}) so_far.0, length-append start.bytes (flat_map text (take i items)), so_far.1, room)

pub room_item : {X : Type 0} (text : X → List ℕ) (items : List X) (whole : List ℕ) (i : ℕ) (x : X) (start now : RoomState) → whole ≡ flat_map text items
    → i < length items → x ≡ get_or items i x → HasRoom start (length whole) → Fills start now (flat_map text (take i items)) → HasRoom now (length (text x))
room_item text items whole i x start now is inside at room so_far =
    subst (λ y. HasRoom now (length (text y))) (sym at) (room_more text items whole i x start now is inside room so_far)

-- one item more was appended
pub fills_more : {X : Type 0} (text : X → List ℕ) (items : List X) (i : ℕ) (d : X) (start old new : RoomState) → i < length items
    → Fills start old (flat_map text (take i items)) → Fills old new (text (get_or items i d)) → Fills start new (flat_map text (take (i + 1) items))
fills_more text items i d start old new inside so_far step = (
  step.0 ∙ ap (λ l. l ++ text (get_or items i d)) so_far.0 ∙ flat_map_more text start.bytes (take i items) (get_or items i d)
      ∙ ap (λ l. start.bytes ++ flat_map text l) (sym (take_more items i d inside)),
  omega (arith, so_far.1, step.1),
)

-- all items were appended
pub fills_all : {X : Type 0} (text : X → List ℕ) (items : List X) (whole : List ℕ) (i : ℕ) (start now : RoomState) → whole ≡ flat_map text items
    → length items ≤ i → Fills start now (flat_map text (take i items)) → Fills start now whole
fills_all text items whole i start now is all so_far = (
  so_far.0 ∙ ap (λ l. start.bytes ++ l) (ap (flat_map text) (take_all i items all) ∙ sym is),
  so_far.1,
)

-- ---- lists of lines as texts of items
-- lines of items
pub lines_of_items : {X : Type 0} (line : X → List ℕ) (items : List X) → lines_text (map line items) ≡ flat_map (λ x. ended_line (line x)) items
lines_of_items line items = flat_map-map ended_line line items

-- several lines of each item
pub lines_of_parts : {X : Type 0} (lines : X → List (List ℕ)) (items : List X) → lines_text (flat_map lines items) ≡ flat_map (λ x. lines_text (lines x)) items
lines_of_parts lines [] = refl
lines_of_parts lines (x ∷ items) =
    flat_map-append ended_line (lines x) (flat_map lines items) ∙ ap (λ l. lines_text (lines x) ++ l) (lines_of_parts lines items)

-- the lines of the histories that are pending
pub pending_of_histories : (hs : List PlainHistory) → lines_text (map pending_line (pending_ids hs)) ≡ flat_map pending_text hs
pending_of_histories [] = refl
pending_of_histories (h ∷ hs) = one h h.pending (filter (λ h. h.pending) hs) (pending_of_histories hs)
  where
    one : (h : PlainHistory) (b : Bool) (others : List PlainHistory) → lines_text (map pending_line (map (λ h. h.action) others)) ≡ flat_map pending_text hs
        → lines_text (map pending_line (map (λ h. h.action) (cond b (h ∷ others) others))) ≡ cond b (ended_line (pending_line h.action)) [] ++ flat_map pending_text hs
    one h true others is = ap (λ l. ended_line (pending_line h.action) ++ l) is
    one h false others is = is

-- ---- one text after another
-- a text that was appended makes the bytes longer by its own
pub filled_length : (text : List ℕ) (old new : RoomState) → Fills old new text → length new.bytes ≡ length old.bytes + length text
filled_length text old new step = ap (length {A = ℕ}) step.0 ∙ length-append old.bytes text

pub fills_then : (first rest : List ℕ) (old mid new : RoomState) → Fills old mid first → Fills mid new rest → Fills old new (first ++ rest)
fills_then first rest old mid new one other = (
  other.0 ∙ ap (λ l. l ++ rest) one.0 ∙ append_assoc old.bytes first rest,
  omega (arith, one.1, other.1),
)

-- ---- a saved text in the parts that are appended
three_lines : (a b c rest : List ℕ) → a ++ (b ++ (c ++ rest)) ≡ (a ++ (b ++ c)) ++ rest
three_lines a b c rest = simp append_assoc refl

-- the first three lines, as they are appended
pub head_parts : (start name next : List ℕ) → ((((start ++ codes "agent 2\ncomputer ") ++ name) ++ codes "\nnext ") ++ next) ++ 10 ∷ []
    ≡ start ++ (codes "agent 2\n" ++ ((codes "computer " ++ name ++ 10 ∷ []) ++ (codes "next " ++ next ++ 10 ∷ [])))
head_parts start name next = regrouped start (codes "agent 2\ncomputer ") name (codes "next ") next
  where
    regrouped : (start a name b n : List ℕ) → ((((start ++ a) ++ name) ++ 10 ∷ b) ++ n) ++ 10 ∷ [] ≡ start ++ (a ++ ((name ++ 10 ∷ []) ++ (b ++ (n ++ 10 ∷ []))))
    regrouped start a name b n = simp append_assoc refl

-- what stands behind the first three lines of a saved text
abbrev pub rest_text : List PlainHistory → List Report → List ℕ
rest_text hs reports =
    flat_map history_text hs ++ (lines_text (map pending_line (pending_ids hs)) ++ (flat_map report_text reports ++ codes "end\n"))

pub saved_parts : (saved : Saved) → saved_text saved ≡ head_text saved.computer saved.next ++ rest_text saved.histories saved.reports
saved_parts saved =
    let histories = flat_map (history_lines Two) saved.histories in
    let pending = map pending_line (pending_ids saved.histories) in
    let reports = flat_map report_lines saved.reports in
    let last = end_line ∷ [] in
    let rest : lines_text (histories ++ (pending ++ (reports ++ last))) ≡ rest_text saved.histories saved.reports =
    flat_map-append ended_line histories (pending ++ (reports ++ last))
    ∙ (λ t. lines_of_parts (history_lines Two) saved.histories t ++ (flat_map-append ended_line pending (reports ++ last)
    ∙ ap (λ l. lines_text pending ++ l) (flat_map-append ended_line reports last ∙ ap (λ l. l ++ codes "end\n") (lines_of_parts report_lines saved.reports))) t) in
    let front = λ (l : List ℕ). ended_line (agent_line Two) ++ (ended_line (computer_line saved.computer) ++ (ended_line (next_line saved.next) ++ l)) in
    ap front rest
    ∙ three_lines (ended_line (agent_line Two)) (ended_line (computer_line saved.computer)) (ended_line (next_line saved.next)) (rest_text saved.histories saved.reports)

pub saved_length : (saved : Saved) → length (saved_text saved)
    ≡ length (head_text saved.computer saved.next) + (length (flat_map history_text saved.histories)
    + (length (lines_text (map pending_line (pending_ids saved.histories))) + (length (flat_map report_text saved.reports) + 4)))
saved_length saved =
    let head = head_text saved.computer saved.next in
    let histories = flat_map history_text saved.histories in
    let pending = lines_text (map pending_line (pending_ids saved.histories)) in
    let reports = flat_map report_text saved.reports in
    let last = codes "end\n" in
    ap (length {A = ℕ}) (saved_parts saved) ∙ length-append head (histories ++ (pending ++ (reports ++ last)))
    ∙ ap (λ n. length head + n) (length-append histories (pending ++ (reports ++ last))
    ∙ ap (λ n. length histories + n) (length-append pending (reports ++ last) ∙ ap (λ n. length pending + n) (length-append reports last)))

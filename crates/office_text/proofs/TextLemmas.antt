-- Texts that are taken line by line, and where they stop.
use Rattle.std.proofs.Common.{ℕ, ◌≡◌, List, [], ◌∷◌, ◌++◌, map, Some, None, Bool, true, false, refl, sym, ap, subst, ◌∙◌, ◌⊎◌, inl, inr, All, append_assoc, append-nil}
use Rattle.std.specs.Prelude.{codes, not}
use Rattle.std.proofs.lemmas.List.Elements.{All-nil, All-head, All-push, All-tail}
use Rattle.std.proofs.lemmas.List.{map-append}
use Rattle.line_forms.specs.Contents.{content_line}
use Rattle.line_forms.specs.Fields.{field_text}
use Rattle.line_forms.specs.LineStates.{LineState}
use Rattle.line_forms.specs.Lines.{ended_line, lines_text}
use Rattle.line_forms.specs.Names.{IsLineText}
use Rattle.line_forms.specs.Readers.{IsNotAhead, Passes, StopsAt}
use Rattle.line_forms.proofs.LineLemmas.{lines_text-append}
use Rattle.line_forms.proofs.Passing.{cons_head, cons_tail, passes_none, passes_then}
use Rattle.world_text.proofs.FieldLemmas.{end_not_content}
use Rattle.office_text.specs.declared.text_reader.Last.{Last}
use Rattle.office_text.specs.declared.text_reader.Last.TheVariants as last
use Rattle.office_text.specs.OrderLines.{AreTextTo, HoldContent, IsEnd}
use Rattle.office_text.specs.OrderReadings.{IsLast, TakesBody, TakesContent, TakesTo}
use Rattle.office_text.proofs.Fronts.{Lines, nothing, ends_not_among}
use Rattle.office_text.proofs.BodyLemmas.{content_ends, not_end_contents}

-- the text with a line more
pub text_more : (taken : Lines) (line before after new : List ℕ) → before ≡ lines_text taken → after ≡ before ++ line → new ≡ after ++ 10 ∷ [] → new ≡ lines_text (taken ++ line ∷ [])
text_more taken line before after new is then_is new_is =
    new_is ∙ ap (λ l. l ++ 10 ∷ []) (then_is ∙ ap (λ l. l ++ line) is) ∙ append_assoc (lines_text taken) line (10 ∷ [])
    ∙ ap (λ l. lines_text taken ++ l) (sym (append-nil (ended_line line))) ∙ sym (lines_text-append taken (line ∷ []))

-- some line is the last one
some_last : (l : Last) → (line : List ℕ) × IsLast l line
some_last last.Digest = (field_text (codes "digest") ++ [], ([], refl))
some_last last.End = (codes "end", refl)

-- lines none of which is the last, and nothing is left
pub text_stops : (l : Last) (lines : Lines) (state : LineState) → All (λ line. ¬ IsLast l line) lines → state.lines ≡ [] → StopsAt (λ ls. (text : List ℕ) × AreTextTo (IsLast l) text ls) lines state
text_stops l lines state are none = record {
  begins = let s = some_last l in (s.0 ∷ [], (lines_text (lines ++ s.0 ∷ []), (record { others = lines; last = s.0; lines_are = refl; last_is = s.1; others_are = are }, refl)));
  unfinished = λ (text, (ends, is)). ends_not_among (IsLast l) lines [] lines ends are (sym (append-nil lines));
  ahead = λ line more e. absurd (nothing line more (sym none ∙ e));
}

-- ---- content
-- what stands behind lines of content, in lines that hold one
behind_content : (a b : Lines) (line : List ℕ) (rest : Lines) → All IsLineText b → map content_line a ++ line ∷ rest ≡ map content_line b ++ codes "end" ∷ [] → (line ≡ codes "end") ⊎ ((content : List ℕ) × IsLineText content × (line ≡ content_line content))
behind_content [] [] line rest are e = inl (cons_head line (codes "end") rest [] e)
behind_content [] (y ∷ b) line rest are e = inr (y, All-head IsLineText y b are, cons_head line (content_line y) rest _ e)
behind_content (x ∷ a) [] line rest are e = absurd (end_not_content x (sym (cons_head (content_line x) (codes "end") _ [] e)))
behind_content (x ∷ a) (y ∷ b) line rest are e =
    behind_content a b line rest (All-tail IsLineText y b are) (cons_tail (content_line x) (content_line y) _ _ e)

-- no content and no `end` is ahead
pub content_stops : (contents : Lines) (state : LineState) → All IsLineText contents → IsNotAhead IsLineText content_line state → ((more : Lines) → state.lines ≡ codes "end" ∷ more → ⊥) →
    StopsAt (λ ls. (bytes : List ℕ) × HoldContent bytes ls) (map content_line contents) state
content_stops contents state are none no_end = record {
  begins = (codes "end" ∷ [], (lines_text contents, (contents, are, refl, refl)));
  unfinished = λ (bytes, h). ends_not_among IsEnd (map content_line contents) [] (map content_line contents) (content_ends bytes (map content_line contents) h) (not_end_contents contents) (sym (append-nil (map content_line contents)));
  ahead = λ line more e (left, (bytes, h)).
      elim (behind_content contents h.0 line left h.1 (sym (append_assoc (map content_line contents) (line ∷ []) left) ∙ h.3)) [
        | inl k ↦ no_end more (e ∙ ap (λ l. l ∷ more) k)
        | inr k ↦ none k.0 more k.1 (e ∙ ap (λ l. l ∷ more) k.2)
      ];
}

-- content with a line more
pub content_more : (contents : Lines) (line : List ℕ) → map content_line contents ++ content_line line ∷ [] ≡ map content_line (contents ++ line ∷ [])
content_more contents line = sym (map-append content_line contents (line ∷ []))

-- ---- lines that are taken one after another
-- none of these lines is the last one, and they were taken as this text
pub record TakenSoFar (l : Last) (old now : LineState) (text : List ℕ) : Type 0 where
  pub lines : Lines
  pub passes : Passes old now lines
  pub text_is : text ≡ lines_text lines
  pub others : All (λ line. ¬ IsLast l line) lines

pub taken_none : (l : Last) (state : LineState) → TakenSoFar l state state []
taken_none l state = record { lines = []; passes = passes_none state; text_is = refl; others = All-nil (λ line. ¬ IsLast l line) }

-- another line, which isn't the last one
pub taken_more : (l : Last) (old mid now : LineState) (line before after new : List ℕ) → TakenSoFar l old mid before → Passes mid now (line ∷ []) → after ≡ before ++ line → new ≡ after ++ 10 ∷ [] → ¬ IsLast l line → TakenSoFar l old now new
taken_more l old mid now line before after new so one then_is new_is other = record {
  lines = so.lines ++ line ∷ [];
  passes = passes_then old mid now so.lines (line ∷ []) so.passes one;
  text_is = text_more so.lines line before after new so.text_is then_is new_is;
  others = All-push (λ line. ¬ IsLast l line) so.lines line so.others other;
}

-- the last one
pub taken_last : (l : Last) (old mid now : LineState) (line before after new : List ℕ) → TakenSoFar l old mid before → Passes mid now (line ∷ []) → after ≡ before ++ line → new ≡ after ++ 10 ∷ [] → IsLast l line → TakesTo l old now (record { text = new; ended = true })
taken_last l old mid now line before after new so one then_is new_is is = (
  so.lines ++ line ∷ [],
  passes_then old mid now so.lines (line ∷ []) so.passes one,
  text_more so.lines line before after new so.text_is then_is new_is,
  record { others = so.lines; last = line; lines_are = refl; last_is = is; others_are = so.others },
)

pub taken_all : (l : Last) (old now : LineState) (text : List ℕ) → TakenSoFar l old now text → now.lines ≡ [] → TakesTo l old now (record { text = text; ended = false })
taken_all l old now text so none = (so.lines, so.passes, so.text_is, (so.others, none))

-- a text that hasn't ended
pub cut_text : (l : Last) (old new : LineState) (text : List ℕ) (ended : Bool) → not ended ≡ true → TakesTo l old new (record { text = text; ended = ended }) → TakesBody (AreTextTo (IsLast l)) old new None
cut_text l old new text true is (lines, passes, text_is, ends) = absurd (cc)
cut_text l old new text false is (lines, passes, text_is, (others, none)) = (lines, passes, text_stops l lines new others none)

-- ---- lines of content that are taken one after another
pub record ContentSoFar (old now : LineState) (bytes : List ℕ) : Type 0 where
  pub contents : Lines
  pub good : All IsLineText contents
  pub bytes_are : bytes ≡ lines_text contents
  pub passes : Passes old now (map content_line contents)

pub content_none : (state : LineState) → ContentSoFar state state []
content_none state = record { contents = []; good = All-nil IsLineText; bytes_are = refl; passes = passes_none state }

pub content_next : (old mid now : LineState) (line before after new : List ℕ) → ContentSoFar old mid before → IsLineText line → Passes mid now (content_line line ∷ []) → after ≡ before ++ line → new ≡ after ++ 10 ∷ [] → ContentSoFar old now new
content_next old mid now line before after new so good one then_is new_is =
    let P : Lines → Type 0 = Passes old now in
    record {
      contents = so.contents ++ line ∷ [];
      good = All-push IsLineText so.contents line so.good good;
      bytes_are = text_more so.contents line before after new so.bytes_are then_is new_is;
      passes = subst P (content_more so.contents line) (passes_then old mid now (map content_line so.contents) (content_line line ∷ []) so.passes one);
    }

pub content_all : (old mid now : LineState) (bytes : List ℕ) → ContentSoFar old mid bytes → now ≡ mid → IsNotAhead IsLineText content_line mid → TakesContent old now bytes
content_all old mid now bytes so same none =
    let P : LineState → Type 0 = λ s. TakesContent old s bytes in
    subst P (sym same) (so.contents, so.good, so.bytes_are, so.passes, none)

-- content with its `end`, or without
pub whole_content : (old mid new : LineState) (bytes : List ℕ) → TakesContent old mid bytes → Passes mid new (codes "end" ∷ []) → TakesBody HoldContent old new (Some bytes)
whole_content old mid new bytes (contents, good, is, passes, none) one =
    (map content_line contents ++ codes "end" ∷ [], (contents, good, is, refl), passes_then old mid new (map content_line contents) (codes "end" ∷ []) passes one)

pub cut_content : (old mid new : LineState) (bytes : List ℕ) → TakesContent old mid bytes → new ≡ mid → ((more : Lines) → ¬ (mid.lines ≡ codes "end" ∷ more)) → TakesBody HoldContent old new None
cut_content old mid new bytes (contents, good, is, passes, none) same missing =
    let P : LineState → Type 0 = λ s. TakesBody HoldContent old s None in
    subst P (sym same) (map content_line contents, passes, content_stops contents mid good none missing)

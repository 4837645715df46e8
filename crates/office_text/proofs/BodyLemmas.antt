-- The lines behind an order's first line end where they say.
use Rattle.std.proofs.Common.{ℕ, ◌≡◌, List, [], ◌∷◌, ◌++◌, map, get_or, ◌==◌, true, false, refl, sym, ap, subst, ◌∙◌, arith, All}
use Rattle.std.specs.Prelude.{codes}
use Rattle.std.proofs.lemmas.List.Elements.{All-nil, All-cons, All-append}
use Rattle.line_forms.specs.Contents.{content_line}
use Rattle.line_forms.specs.Fields.{IsFirstField}
use Rattle.line_forms.proofs.Passing.{cons_head, cons_tail}
use Rattle.bf_world.specs.Worlds.{WorldState}
use Rattle.world_text.specs.Drafts.{just}
use Rattle.world_text.specs.Rows.{AddsAll}
use Rattle.world_text.specs.Texts.{Head, IsHead, Describes, bare}
use Rattle.world_text.proofs.FieldLemmas.{content_one, end_not_content}
use Rattle.world_text.proofs.RowLists.{end_not_among}
use Rattle.group_text.specs.declared.analysis.Analysis.{Analysis}
use Rattle.group_text.specs.declared.group.Group.{Group}
use Rattle.group_text.specs.Analyses.{IsAnalysis}
use Rattle.group_text.specs.Groups.{IsGroup}
use Rattle.group_text.proofs.Ends.{EndsOnce, analysis_ends, group_ends}
use Rattle.office_text.specs.OrderLines.{IsEnd, EndsAt, HoldContent}
use Rattle.office_text.proofs.Fronts.{Lines}

-- a line of this word isn't the last one
not_end_word : (line word rest : List ℕ) (first : ℕ) → IsFirstField line word rest → get_or (word ++ 32 ∷ rest) 0 0 ≡ first → (first == 101) ≡ false → ¬ IsEnd line
not_end_word line word rest first field is other end =
    let same : first ≡ 101 = sym is ∙ sym (ap (λ (l : List ℕ). get_or l 0 0) field.1) ∙ ap (λ (l : List ℕ). get_or l 0 0) end in
    let test : (first == 101) ≡ true = ap (λ n. n == 101) same in
    cc

not_end_head : (lines : Lines) (head : Head) → IsHead lines head → All (λ line. ¬ IsEnd line) lines
not_end_head lines head is =
    let P : List ℕ → Type 0 = λ line. ¬ IsEnd line in
    let Q : Lines → Type 0 = All P in
    let world : ¬ IsEnd (codes "world") = λ e. let k : get_or (codes "world") 0 0 ≡ 101 = ap (λ (l : List ℕ). get_or l 0 0) e in omega arith in
    subst Q (sym is.lines_are) (
    All-cons P (codes "world") (is.name ∷ is.system ∷ is.offset ∷ is.moment ∷ []) world (
    All-cons P is.name (is.system ∷ is.offset ∷ is.moment ∷ []) (not_end_word is.name (codes "name") head.name 110 is.name_is.1 refl refl) (
    All-cons P is.system (is.offset ∷ is.moment ∷ []) (not_end_word is.system (codes "system") is.system_is.0 115 is.system_is.1 refl refl) (
    All-cons P is.offset (is.moment ∷ []) (not_end_word is.offset (codes "offset") is.offset_is.0 111 is.offset_is.1 refl refl) (
    All-cons P is.moment [] (not_end_word is.moment (codes "moment") is.moment_is.0 109 is.moment_is.1 refl refl) (All-nil P)
    )
    )
    )
    )
    )

-- a list in which `end` stands nowhere
all_other : (rows : Lines) → ((xs ys : Lines) → rows ≡ xs ++ codes "end" ∷ ys → ⊥) → All (λ line. ¬ IsEnd line) rows
all_other [] none = All-nil (λ line. ¬ IsEnd line)
all_other (row ∷ rows) none =
    All-cons (λ line. ¬ IsEnd line) row rows (λ e. none [] rows (ap (λ l. l ∷ rows) e)) (all_other rows (λ xs ys e. none (row ∷ xs) ys (ap (λ l. row ∷ l) e)))

-- the last line of a world is `end`, and no other is
pub world_ends : (lines : Lines) (w : WorldState) → Describes lines w → EndsAt IsEnd lines
world_ends lines w d = record {
  others = d.first ++ d.rows;
  last = codes "end";
  lines_are = d.lines_are;
  last_is = refl;
  others_are = All-append (λ line. ¬ IsEnd line) d.first d.rows (not_end_head d.first d.head d.head_is) (all_other d.rows (λ xs ys e. end_not_among xs ys (just (bare d.head)) d.last (subst (λ (l : Lines). AddsAll (just (bare d.head)) l d.last) e d.adds)));
}

-- so it is with an analysis and with a group
ends_at : (lines : Lines) → EndsOnce lines → EndsAt IsEnd lines
ends_at lines (before, e, all) = record { others = before; last = codes "end"; lines_are = e; last_is = refl; others_are = all }

pub analysis_ends_at : (lines : Lines) (a : Analysis) → IsAnalysis a lines → EndsAt IsEnd lines
analysis_ends_at lines a is = ends_at lines (analysis_ends lines a is)

pub group_ends_at : (lines : Lines) (g : Group) → IsGroup g lines → EndsAt IsEnd lines
group_ends_at lines g is = ends_at lines (group_ends lines g is)

-- nor in a file
pub not_end_contents : (contents : Lines) → All (λ line. ¬ IsEnd line) (map content_line contents)
not_end_contents [] = All-nil (λ line. ¬ IsEnd line)
not_end_contents (content ∷ contents) = All-cons (λ line. ¬ IsEnd line) (content_line content) (map content_line contents) (λ e. end_not_content content (sym e)) (not_end_contents contents)

pub content_ends : (bytes : List ℕ) (lines : Lines) → HoldContent bytes lines → EndsAt IsEnd lines
content_ends bytes lines h = record {
  others = map content_line h.0;
  last = codes "end";
  lines_are = h.3;
  last_is = refl;
  others_are = not_end_contents h.0;
}

-- lines of content and `end` hold one content
pub contents_one : (a b : Lines) → map content_line a ++ codes "end" ∷ [] ≡ map content_line b ++ codes "end" ∷ [] → b ≡ a
contents_one [] [] e = refl
contents_one [] (y ∷ b) e = absurd (end_not_content y (cons_head (codes "end") (content_line y) [] _ e))
contents_one (x ∷ a) [] e = absurd (end_not_content x (sym (cons_head (content_line x) (codes "end") _ [] e)))
contents_one (x ∷ a) (y ∷ b) e =
    ap (λ l. l ∷ b) (content_one x y (cons_head (content_line x) (content_line y) _ _ e)) ∙ ap (λ l. x ∷ l) (contents_one a b (cons_tail (content_line x) (content_line y) _ _ e))

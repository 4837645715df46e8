-- An action for the members of a group: its lines, and where they stop.
use Rattle.std.proofs.Common.{ℕ, zero, ◌≡◌, List, [], ◌∷◌, ◌++◌, Bool, true, false, Option, Some, None, Ok, Err, get_or, refl, sym, ap, subst, ◌∙◌, arith, inl, inr, All, append_assoc, append-nil}
use Rattle.std.specs.Prelude.{codes, ◌||◌, ◌↔◌, IsTrue, Contains, MatchOption}
use Rattle.std.specs.declared.result.Result.{Result}
use Rattle.std.proofs.lemmas.List.Elements.{All-nil, All-push, Contains-append_left, Contains-append_right, Contains-push, Contains-push_cases}
use Rattle.line_forms.specs.BadLines.{Begins}
use Rattle.line_forms.specs.LineStates.{LineState}
use Rattle.line_forms.specs.Lines.{lines_text}
use Rattle.line_forms.specs.Names.{IsName}
use Rattle.line_forms.specs.Readers.{IsNotAhead, Passes, StopsAt}
use Rattle.line_forms.proofs.Passing.{cons_head, passes_none, passes_then}
use Rattle.line_forms.proofs.PlainLemmas.{plain_name}
use Rattle.office_text.specs.declared.error.OfficeError.{OfficeError}
use Rattle.office_text.specs.declared.error.OfficeError.TheVariants as error
use Rattle.office_text.specs.declared.order.Order.{Order}
use Rattle.office_text.specs.declared.order.Order.TheVariants as order
use Rattle.office_text.specs.declared.text_reader.Last.TheVariants as last
use Rattle.office_text.specs.Orders.{CanFollow}
use Rattle.office_text.specs.OrderLines.{first_line, AreTargetLines, EndsAt, IsBody, IsEnd}
use Rattle.office_text.specs.OrderReadings.{IsNext, IsTarget, TakesBody, TakesTarget, named_line}
use Rattle.office_text.proofs.Fronts.{Lines, nothing, ends_not_among, ends_same}
use Rattle.office_text.proofs.FieldLemmas.{fields_known, two_plain}
use Rattle.office_text.proofs.OrderReading.{text_taken}
use Rattle.office_text.proofs.TextLemmas.{TakenSoFar, text_more}
use Rattle.office_text.proofs.WordLemmas.{of_target}

abbrev all_line : List ℕ
all_line = codes "target all"

-- the order of such a line
which_target : (before : List Order) (name : List ℕ) → IsName name → (o : Order) (body : Lines) → CanFollow before o → IsBody o body → first_line o ≡ named_line (codes "target") name → (text : List ℕ) × AreTargetLines text body
which_target before name good o body can is e =
    let fields = fields_known o body (codes "target" ∷ name ∷ []) can.form is (omega arith) (two_plain (codes "target") name refl (plain_name name good)) e in
    let f = of_target o (name ∷ []) fields in
    let B : Order → Type 0 = λ x. IsBody x body in
    (f.1, subst B f.2 is)

-- ---- where its lines stop
all_not_end : ¬ IsEnd all_line
all_not_end e = let k : get_or {A = ℕ} (116 ∷ []) 0 0 ≡ 101 = ap (λ (l : List ℕ). get_or l 0 0) e in omega arith

-- lines none of which is the last one: there are two with which they end
some_end : (lines : Lines) → All (λ line. ¬ IsEnd line) lines → Begins (λ ls. (text : List ℕ) × AreTargetLines text ls) lines
some_end lines others = (
  all_line ∷ codes "end" ∷ [],
  (
    lines_text (lines ++ all_line ∷ codes "end" ∷ []),
    (
      (
        record {
          others = lines ++ all_line ∷ [];
          last = codes "end";
          lines_are = sym (append_assoc lines (all_line ∷ []) (codes "end" ∷ []));
          last_is = refl;
          others_are = All-push (λ line. ¬ IsEnd line) lines all_line others all_not_end;
        },
        refl,
      ),
      Contains-append_right lines (all_line ∷ codes "end" ∷ []) all_line (zero, omega arith, refl),
    ),
  ),
)

action_stops : (lines : Lines) (state : LineState) → All (λ line. ¬ IsEnd line) lines → ((line : List ℕ) (more left : Lines) (text : List ℕ) → state.lines ≡ line ∷ more → AreTargetLines text ((lines ++ line ∷ []) ++ left) → ⊥) →
    StopsAt (λ ls. (text : List ℕ) × AreTargetLines text ls) lines state
action_stops lines state others ahead = record {
  begins = some_end lines others;
  unfinished = λ (text, are). ends_not_among IsEnd lines [] lines are.0.0 others (sym (append-nil lines));
  ahead = λ line more e (left, (text, are)). ahead line more left text e are;
}

-- ---- its lines, one after another
-- none of these lines is the last one, they were taken as this text, and this says whether the line for all computers is among them
pub record ActionSoFar (old now : LineState) (text : List ℕ) (for_all : Bool) : Type 0 where
  pub so : TakenSoFar last.End old now text
  pub seen : IsTrue for_all ↔ Contains so.lines (codes "target all")

pub action_none : (state : LineState) → ActionSoFar state state [] false
action_none state = record {
  so = record { lines = []; passes = passes_none state; text_is = refl; others = All-nil (λ line. ¬ IsEnd line) };
  seen = (λ t. absurd (cc), λ c. absurd (omega (arith, c.1)));
}

seen_more : (lines : Lines) (line : List ℕ) (all here : Bool) → IsTrue all ↔ Contains lines all_line → IsTrue here ↔ (line ≡ all_line) → IsTrue (here || all) ↔ Contains (lines ++ line ∷ []) all_line
seen_more lines line all true seen is = (
  λ t. let P : List ℕ → Type 0 = λ l. Contains (lines ++ l ∷ []) all_line in subst P (sym (is.0 refl)) (Contains-push lines all_line),
  λ c. refl,
)
seen_more lines line all false seen is = (
  λ t. Contains-append_left lines (line ∷ []) all_line (seen.0 t),
  λ c. elim (Contains-push_cases lines line all_line c) [
    | inl k ↦ seen.1 k
    | inr k ↦ absurd (let z : false ≡ true = is.1 k in cc)
  ],
)

-- another line, which isn't the last one
pub action_more : (old mid now : LineState) (line before after new : List ℕ) (all here : Bool) → ActionSoFar old mid before all → Passes mid now (line ∷ []) → after ≡ before ++ line → new ≡ after ++ 10 ∷ [] → ¬ IsEnd line →
    IsTrue here ↔ (line ≡ codes "target all") → ActionSoFar old now new (here || all)
action_more old mid now line before after new all here action one then_is new_is other is = record {
  so = record {
    lines = action.so.lines ++ line ∷ [];
    passes = passes_then old mid now action.so.lines (line ∷ []) action.so.passes one;
    text_is = text_more action.so.lines line before after new action.so.text_is then_is new_is;
    others = All-push (λ l. ¬ IsEnd l) action.so.lines line action.so.others other;
  };
  seen = seen_more action.so.lines line all here action.seen is;
}

-- the last one, behind the line for all computers
pub action_last : (old mid now : LineState) (line before after new : List ℕ) (all : Bool) → ActionSoFar old mid before all → IsTrue all → IsEnd line → Passes mid now (line ∷ []) → after ≡ before ++ line → new ≡ after ++ 10 ∷ [] →
    TakesBody AreTargetLines old now (Some new)
action_last old mid now line before after new all action found is one then_is new_is = (
  action.so.lines ++ line ∷ [],
  (
    (
      record { others = action.so.lines; last = line; lines_are = refl; last_is = is; others_are = action.so.others },
      text_more action.so.lines line before after new action.so.text_is then_is new_is,
    ),
    Contains-append_left action.so.lines (line ∷ []) all_line (action.seen.0 found),
  ),
  passes_then old mid now action.so.lines (line ∷ []) action.so.passes one,
)

-- or it is ahead without that line before it
pub action_early : (old mid : LineState) (line before : List ℕ) (more : Lines) (all : Bool) → ActionSoFar old mid before all → ¬ IsTrue all → mid.lines ≡ line ∷ more → IsEnd line → TakesBody AreTargetLines old mid None
action_early old mid line before more all action missing ahead is = (action.so.lines, action.so.passes, action_stops action.so.lines mid action.so.others wrong)
  where
    among : (next : List ℕ) → next ≡ codes "end" → Contains (action.so.lines ++ next ∷ []) all_line → ⊥
    among next end c = elim (Contains-push_cases action.so.lines next all_line c) [
      | inl k ↦ missing (action.seen.1 k)
      | inr k ↦ all_not_end (sym k ∙ end)
    ]

    wrong : (next : List ℕ) (rest left : Lines) (text : List ℕ) → mid.lines ≡ next ∷ rest → AreTargetLines text ((action.so.lines ++ next ∷ []) ++ left) → ⊥
    wrong next rest left text e are =
        let end : next ≡ codes "end" = cons_head next line rest more (sym e ∙ ahead) ∙ is in
        let short : EndsAt IsEnd (action.so.lines ++ next ∷ []) = record { others = action.so.lines; last = next; lines_are = refl; last_is = end; others_are = action.so.others } in
        let same = ends_same IsEnd (action.so.lines ++ next ∷ []) ((action.so.lines ++ next ∷ []) ++ left) left [] short are.0.0 (sym (append-nil ((action.so.lines ++ next ∷ []) ++ left))) in
        let C : Lines → Type 0 = λ ls. Contains ls all_line in
        among next end (subst C same are.1)

-- or no line is left
pub action_cut : (old now : LineState) (text : List ℕ) (all : Bool) → ActionSoFar old now text all → now.lines ≡ [] → TakesBody AreTargetLines old now None
action_cut old now text all action none =
    (action.so.lines, action.so.passes, action_stops action.so.lines now action.so.others (λ line more left other e are. nothing line more (sym none ∙ e)))

-- ---- what is seen of a test
pub is_missing : (b : Bool) → b ≡ false → ¬ IsTrue b
is_missing b h t = let k : true ≡ false = sym t ∙ h in cc

pub or_here : (a b c : Bool) → a ≡ true → c ≡ a → (a || b) ≡ c
or_here true b c h k = sym k
or_here false b c h k = absurd (let z : false ≡ true = h in cc)

pub or_before : (a b c : Bool) → a ≡ false → c ≡ b → (a || b) ≡ c
or_before false b c h k = sym k
or_before true b c h k = absurd (let z : true ≡ false = h in cc)

-- ---- the whole order
pub target_read : (before : List Order) (name own : List ℕ) (more : Lines) (old mid new : LineState) (text : Option (List ℕ)) (answer : Result (Option Order) OfficeError) → IsName name → own ≡ name → old.lines ≡ named_line (codes "target") name ∷ more →
    ((line : List ℕ) (more : Lines) → old.lines ≡ line ∷ more → Passes old mid (line ∷ [])) → TakesBody AreTargetLines mid new text →
    MatchOption text (answer ≡ Err (error.BadLine new.number)) (λ t. answer ≡ Ok (Some (order.Target own t))) → TakesTarget before old new answer
target_read before name own more old mid new text answer good same ahead skip takes e =
    let T : List ℕ → Type 0 = λ n. MatchOption text (answer ≡ Err (error.BadLine new.number)) (λ t. answer ≡ Ok (Some (order.Target n t))) → TakesTarget before old new answer in
    let read : T name = text_taken (IsNotAhead (IsNext IsTarget before) first_line old) before (order.Target name) AreTargetLines (named_line (codes "target") name) old mid new text answer (λ t. record { form = good; names = tt }) (λ t. refl) (λ t body h. h)
    (which_target before name good) (skip (named_line (codes "target") name) more ahead) takes in
    subst T (sym same) read e

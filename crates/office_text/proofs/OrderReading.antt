-- The lines of an order that are read: behind a word with a text, of one line, of a computer.
use Rattle.std.proofs.Common.{ℕ, ◌≡◌, List, [], ◌∷◌, Option, Some, None, Ok, Err, Bool, true, false, refl, sym, ap, subst, ◌∙◌, arith}
use Rattle.std.specs.Prelude.{codes, MatchOption}
use Rattle.std.specs.declared.result.Result.{Result}
use Rattle.line_forms.specs.LineStates.{LineState}
use Rattle.line_forms.specs.Readers.{IsAny, IsNotAhead, Passes, TakesExactly, TakesOne}
use Rattle.line_forms.proofs.Passing.{passes_then}
use Rattle.office_text.specs.declared.error.OfficeError.{OfficeError}
use Rattle.office_text.specs.declared.error.OfficeError.TheVariants as error
use Rattle.office_text.specs.declared.order.Order.{Order}
use Rattle.office_text.specs.declared.order.Order.TheVariants as order
use Rattle.office_text.specs.Orders.{CanFollow}
use Rattle.office_text.specs.OrderLines.{first_line, AreTextTo, HoldContent, IsBody, IsEnd, IsSiteEnd}
use Rattle.office_text.specs.OrderReadings.{AreNewNames, computer_line, HasText, IsEntry, IsNext, IsShort, IsTarget, TakesBody, TakesComputer, TakesOneOf, TakesOr, TakesOrder, TakesWithText}
use Rattle.office_text.proofs.Fronts.{Lines}
use Rattle.office_text.proofs.FieldLemmas.{fields_known, one_plain}
use Rattle.office_text.proofs.Stops.{behind_first}
use Rattle.office_text.proofs.WordLemmas.{of_publish, of_act, of_file}

-- the word of a text was taken, and then its lines, or those as far as they go
pub text_taken : (IsNone : Type 0) (before : List Order) (make : List ℕ → Order) (AreOf : List ℕ → Lines → Type 0) (first : List ℕ) (old mid new : LineState) (text : Option (List ℕ)) (answer : Result (Option Order) OfficeError) →
    ((t : List ℕ) → CanFollow before (make t)) → ((t : List ℕ) → first_line (make t) ≡ first) → ((t : List ℕ) (body : Lines) → AreOf t body → IsBody (make t) body) →
    ((o : Order) (body : Lines) → CanFollow before o → IsBody o body → first_line o ≡ first → (t : List ℕ) × AreOf t body) →
    Passes old mid (first ∷ []) → TakesBody AreOf mid new text → MatchOption text (answer ≡ Err (error.BadLine new.number)) (λ t. answer ≡ Ok (Some (make t))) → TakesOr IsNone before old new answer
text_taken IsNone before make AreOf first old mid new None answer can line is which one (part, passes, stops) e =
    let P : Result (Option Order) OfficeError → Type 0 = TakesOr IsNone before old new in
    subst P (sym e) (
      new,
      first ∷ part,
      omega arith,
      passes_then old mid new (first ∷ []) part one passes,
      behind_first before first (λ ls. (t : List ℕ) × AreOf t ls) part new which (λ body (t, h). (make t, can t, is t body h, line t)) stops,
      refl,
    )
text_taken IsNone before make AreOf first old mid new (Some t) answer can line is which one (body, h, passes) e =
    let P : Result (Option Order) OfficeError → Type 0 = TakesOr IsNone before old new in
    let L : List ℕ → Type 0 = λ l. Passes old new (l ∷ body) in
    subst P (sym e) (body, can t, is t body h, subst L (sym (line t)) (passes_then old mid new (first ∷ []) body one passes))

-- the three words with a text
pub publish_read : (before : List Order) (old mid new : LineState) (text : Option (List ℕ)) (answer : Result (Option Order) OfficeError) → Passes old mid (codes "publish" ∷ []) → TakesBody (AreTextTo IsSiteEnd) mid new text →
    MatchOption text (answer ≡ Err (error.BadLine new.number)) (λ t. answer ≡ Ok (Some (order.Publish t))) → TakesWithText before old new answer
publish_read before old mid new text answer one takes e =
    text_taken (IsNotAhead (IsNext HasText before) first_line old) before order.Publish (AreTextTo IsSiteEnd) (codes "publish") old mid new text answer (λ t. record { form = tt; names = tt }) (λ t. refl) (λ t body h. h) which one takes e
  where
    which : (o : Order) (body : Lines) → CanFollow before o → IsBody o body → first_line o ≡ codes "publish" → (t : List ℕ) × AreTextTo IsSiteEnd t body
    which o body can is f =
        let w = of_publish o [] (fields_known o body (codes "publish" ∷ []) can.form is (omega arith) (one_plain (codes "publish") refl) f) in
        let B : Order → Type 0 = λ x. IsBody x body in
        (w.0, subst B w.1 is)

pub act_read : (before : List Order) (old mid new : LineState) (text : Option (List ℕ)) (answer : Result (Option Order) OfficeError) → Passes old mid (codes "act" ∷ []) → TakesBody (AreTextTo IsEnd) mid new text →
    MatchOption text (answer ≡ Err (error.BadLine new.number)) (λ t. answer ≡ Ok (Some (order.Act t))) → TakesWithText before old new answer
act_read before old mid new text answer one takes e =
    text_taken (IsNotAhead (IsNext HasText before) first_line old) before order.Act (AreTextTo IsEnd) (codes "act") old mid new text answer (λ t. record { form = tt; names = tt }) (λ t. refl) (λ t body h. h) which one takes e
  where
    which : (o : Order) (body : Lines) → CanFollow before o → IsBody o body → first_line o ≡ codes "act" → (t : List ℕ) × AreTextTo IsEnd t body
    which o body can is f =
        let w = of_act o [] (fields_known o body (codes "act" ∷ []) can.form is (omega arith) (one_plain (codes "act") refl) f) in
        let B : Order → Type 0 = λ x. IsBody x body in
        (w.0, subst B w.1 is)

pub file_read : (before : List Order) (old mid new : LineState) (text : Option (List ℕ)) (answer : Result (Option Order) OfficeError) → Passes old mid (codes "file" ∷ []) → TakesBody HoldContent mid new text →
    MatchOption text (answer ≡ Err (error.BadLine new.number)) (λ t. answer ≡ Ok (Some (order.File t))) → TakesWithText before old new answer
file_read before old mid new text answer one takes e =
    text_taken (IsNotAhead (IsNext HasText before) first_line old) before order.File HoldContent (codes "file") old mid new text answer (λ t. record { form = tt; names = tt }) (λ t. refl) (λ t body h. h) which one takes e
  where
    which : (o : Order) (body : Lines) → CanFollow before o → IsBody o body → first_line o ≡ codes "file" → (t : List ℕ) × HoldContent t body
    which o body can is f =
        let w = of_file o [] (fields_known o body (codes "file" ∷ []) can.form is (omega arith) (one_plain (codes "file") refl) f) in
        let B : Order → Type 0 = λ x. IsBody x body in
        (w.0, subst B w.1 is)

-- the answer of a call of which the answer is handed on, where what was found is put into an order
pub handed : (make : List ℕ → Order) (number : ℕ) (text : Option (List ℕ)) (order : Option Order) (answer : Result (Option Order) OfficeError) → MatchOption text (order ≡ None) (λ t. order ≡ Some (make t)) →
    MatchOption order (answer ≡ Err (error.BadLine number)) (λ o. answer ≡ Ok (Some o)) → MatchOption text (answer ≡ Err (error.BadLine number)) (λ t. answer ≡ Ok (Some (make t)))
handed make number None found answer e h =
    let P : Option Order → Type 0 = λ o. MatchOption o (answer ≡ Err (error.BadLine number)) (λ o. answer ≡ Ok (Some o)) in
    subst P e h
handed make number (Some t) found answer e h =
    let P : Option Order → Type 0 = λ o. MatchOption o (answer ≡ Err (error.BadLine number)) (λ o. answer ≡ Ok (Some o)) in
    subst P e h

-- an order that can be next, as one of these
such : (Is : Order → Type 0) (before : List Order) (o : Order) → Is o → IsNext IsAny before o → IsNext Is before o
such Is before o is next = record { is = is; can = next.can; body = next.body; body_is = next.body_is }

-- no first line of a site, an action or a file is ahead
pub no_text : (before : List Order) (state : LineState) → ((more : Lines) → ¬ (state.lines ≡ codes "publish" ∷ more)) → ((more : Lines) → ¬ (state.lines ≡ codes "act" ∷ more)) → ((more : Lines) → ¬ (state.lines ≡ codes "file" ∷ more)) →
    IsNotAhead (IsNext HasText before) first_line state
no_text before state publish act file (order.Publish text) more next e = publish more e
no_text before state publish act file (order.Act text) more next e = act more e
no_text before state publish act file (order.File bytes) more next e = file more e
no_text before state publish act file other more next e = absurd next.is

-- no first line of any order is ahead
none_ahead : (before : List Order) (state : LineState) → IsNotAhead (IsShort before) first_line state → IsNotAhead (IsNext HasText before) first_line state → IsNotAhead (IsNext IsEntry before) first_line state →
    IsNotAhead (IsNext IsTarget before) first_line state → IsNotAhead (AreNewNames before) computer_line state → IsNotAhead (IsNext IsAny before) first_line state
none_ahead before state short text entry target computer (order.Publish t) more next e = text (order.Publish t) more (such HasText before (order.Publish t) tt next) e
none_ahead before state short text entry target computer (order.Act t) more next e = text (order.Act t) more (such HasText before (order.Act t) tt next) e
none_ahead before state short text entry target computer (order.File b) more next e = text (order.File b) more (such HasText before (order.File b) tt next) e
none_ahead before state short text entry target computer (order.Analysis a) more next e = entry (order.Analysis a) more (such IsEntry before (order.Analysis a) tt next) e
none_ahead before state short text entry target computer (order.Group g) more next e = entry (order.Group g) more (such IsEntry before (order.Group g) tt next) e
none_ahead before state short text entry target computer (order.Target g t) more next e = target (order.Target g t) more (such IsTarget before (order.Target g t) tt next) e
none_ahead before state short text entry target computer (order.Computer name relay world) more next e = computer (name, relay) more ((next.can.form.0, next.can.names.0), (next.can.form.1, next.can.names.1)) e
none_ahead before state short text entry target computer other more next e = short other more (next.can, refl) e

-- a word that was ahead, and one that wasn't
pub word_taken : (word : List ℕ) (start old new : LineState) (answer : Bool) → old ≡ start → answer ≡ true → TakesExactly word old new answer → Passes start new (word ∷ [])
word_taken word start old new answer same is takes =
    let T : Bool → Type 0 = TakesExactly word old new in
    let P : LineState → Type 0 = λ s. Passes s new (word ∷ []) in
    subst P same (subst T is takes)

pub still : (word : List ℕ) (start old new : LineState) (answer : Bool) → old ≡ start → answer ≡ false → TakesExactly word old new answer → new ≡ start
still word start old new answer same is takes = let T : Bool → Type 0 = TakesExactly word old new in (subst T is takes).0 ∙ same

pub not_ahead : (word : List ℕ) (start old new : LineState) (answer : Bool) → old ≡ start → answer ≡ false → TakesExactly word old new answer → (more : Lines) → ¬ (start.lines ≡ word ∷ more)
not_ahead word start old new answer same is takes more e =
    let T : Bool → Type 0 = TakesExactly word old new in
    (subst T is takes).1 more (ap (λ (s : LineState). s.lines) same ∙ e)

-- no order of one line was ahead
pub no_short : (before : List Order) (start new : LineState) (answer : Option Order) → answer ≡ None → TakesOne (IsShort before) first_line start new answer → (new ≡ start) × IsNotAhead (IsShort before) first_line start
no_short before start new answer is takes = let T : Option Order → Type 0 = TakesOne (IsShort before) first_line start new in subst T is takes

-- what was taken, or an error, where nothing was taken before
from_start : (N : Type 0) (before : List Order) (start old new : LineState) (answer : Result (Option Order) OfficeError) → old ≡ start → TakesOr N before old new answer → TakesOr N before start new answer
from_start N before start old new answer same takes = let T : LineState → Type 0 = λ s. TakesOr N before s new answer in subst T same takes

pub some_taken : (Is : Order → Type 0) (before : List Order) (start old new : LineState) (answer : Option Order) (o : Order) → old ≡ start → answer ≡ Some o → TakesOneOf Is before old new (Ok answer) → TakesOrder before start new (Ok (Some o))
some_taken Is before start old new answer o same is takes =
    let T : Option Order → Type 0 = λ a. TakesOneOf Is before old new (Ok a) in
    from_start (IsNotAhead (IsNext Is before) first_line old) before start old new (Ok (Some o)) same (subst T is takes)

pub bad_taken : (Is : Order → Type 0) (before : List Order) (start old new : LineState) (e : OfficeError) → old ≡ start → TakesOneOf Is before old new (Err e) → TakesOrder before start new (Err e)
bad_taken Is before start old new (error.BadLine line) same takes = from_start (IsNotAhead (IsNext Is before) first_line old) before start old new (Err (error.BadLine line)) same takes
bad_taken Is before start old new error.Memory same takes = tt

-- no order of these was ahead
pub no_such : (Is : Order → Type 0) (before : List Order) (start old new : LineState) (answer : Option Order) → old ≡ start → answer ≡ None → TakesOneOf Is before old new (Ok answer) → (new ≡ start) × IsNotAhead (IsNext Is before) first_line start
no_such Is before start old new answer same is takes =
    let T : Option Order → Type 0 = λ o. TakesOneOf Is before old new (Ok o) in
    let N : LineState → Type 0 = IsNotAhead (IsNext Is before) first_line in
    ((subst T is takes).0 ∙ same, subst N same (subst T is takes).1)

-- a computer, or no order
pub computer_or_none : (before : List Order) (start old new : LineState) (answer : Result (Option Order) OfficeError) → old ≡ start → IsNotAhead (IsShort before) first_line start → IsNotAhead (IsNext HasText before) first_line start →
    IsNotAhead (IsNext IsEntry before) first_line start → IsNotAhead (IsNext IsTarget before) first_line start → TakesComputer before old new answer → TakesOrder before start new answer
computer_or_none before start old new answer same short text entry target takes = by answer (from_start (IsNotAhead (AreNewNames before) computer_line old) before start old new answer same takes)
  where
    by : (answer : Result (Option Order) OfficeError) → TakesOr (IsNotAhead (AreNewNames before) computer_line old) before start new answer → TakesOrder before start new answer
    by (Ok (Some order)) h = h
    by (Ok None) h = (h.0, none_ahead before start short text entry target (let N : LineState → Type 0 = IsNotAhead (AreNewNames before) computer_line in subst N same h.1))
    by (Err (error.BadLine line)) h = h
    by (Err error.Memory) h = h

-- Where the lines of an office stop: at its first line, in an order, where none follows, and at its end.
use Rattle.std.proofs.Common.{ℕ, ◌≡◌, ◌<◌, List, [], ◌∷◌, ◌++◌, length, refl, sym, ap, subst, ◌∙◌, arith, inl, inr, append_assoc, append-nil, length-append}
use Rattle.std.specs.Prelude.{codes}
use Rattle.std.proofs.lemmas.List.{append_cancel_left}
use Rattle.line_forms.specs.BadLines.{Begins}
use Rattle.line_forms.specs.LineStates.{LineState}
use Rattle.line_forms.specs.Readers.{EachCan, IsAny, IsNotAhead, NeverGoesOn, StopsAt}
use Rattle.line_forms.proofs.Passing.{cons_head, cons_tail}
use Rattle.office_text.specs.declared.order.Order.{Order}
use Rattle.office_text.specs.Orders.{CanFollow}
use Rattle.office_text.specs.OrderLines.{first_line, IsBody, AreLinesOf}
use Rattle.office_text.specs.Offices.{AreOfficeLines}
use Rattle.office_text.specs.OrderReadings.{AreNextLines, IsNext}
use Rattle.office_text.proofs.Fronts.{Lines, fronts, nothing, something}
use Rattle.office_text.proofs.OneOrder.{order_one}
use Rattle.line_forms.proofs.Sequences.{each_more, each_none}
use Rattle.office_text.proofs.OrderLists.{continues, lines_more, first_not_end}

-- the lines behind those of the orders so far, where the next order is this one
next_can : (orders : List Order) (o : Order) (more : List Order) → EachCan CanFollow (orders ++ o ∷ more) → CanFollow orders o
next_can orders o more each = each orders more o refl

-- an office with the orders so far, whose last line is next
whole : (orders : List Order) (between : Lines) → EachCan CanFollow orders → AreLinesOf orders between → AreOfficeLines (codes "office" ∷ between ++ codes "end" ∷ [])
whole orders between each are = (orders, record { between = between; each = each; between_are = are; lines_are = refl })

-- such lines are those of an order, or begin them, or have more behind them
begins_next : (orders : List Order) (part more : Lines) (order : Order) (body : Lines) → CanFollow orders order → IsBody order body → part ++ more ≡ first_line order ∷ body → Begins (AreNextLines orders) part
begins_next orders part more order body can is e = (more, (order, body, can, is, e))

-- lines that begin those of an order don't have all lines of an order and more
no_more : (orders : List Order) (part k : Lines) (o : Order) (b : Lines) → CanFollow orders o → IsBody o b → part ≡ (first_line o ∷ b) ++ k → Begins (AreNextLines orders) part → k ≡ []
no_more orders part k o b can is e (more, (order, body, also, body_is, long)) =
    let all : first_line o ∷ (b ++ (k ++ more)) ≡ first_line order ∷ (body ++ []) = sym (ap (λ l. l ++ more) e ∙ append_assoc (first_line o ∷ b) k more) ∙ long ∙ ap (λ l. first_line order ∷ l) (sym (append-nil body)) in
    let behind = cons_tail (first_line o) (first_line order) _ _ all in
    let same = order_one o order b body (k ++ more) [] can.form also.form (cons_head (first_line o) (first_line order) _ _ all) is body_is behind in
    empty k more (append_cancel_left b (k ++ more) [] (behind ∙ ap (λ l. l ++ []) same.1))
  where
    empty : (k more : Lines) → k ++ more ≡ [] → k ≡ []
    empty [] more h = refl
    empty (x ∷ k) more h = absurd (something x (k ++ more) h)

-- the lines of an order stop there, and so do those of the office
pub stops_inside : (orders : List Order) (between part : Lines) (bad : LineState) → EachCan CanFollow orders → AreLinesOf orders between → 0 < length part → StopsAt (AreNextLines orders) part bad →
    StopsAt AreOfficeLines (codes "office" ∷ between ++ part) bad
stops_inside orders between part bad each are some stops = record { begins = begun stops.begins; unfinished = unfinished; ahead = ahead }
  where
    begun : Begins (AreNextLines orders) part → Begins AreOfficeLines (codes "office" ∷ between ++ part)
    begun (more, (order, body, can, is, e)) =
        let lines : codes "office" ∷ (between ++ first_line order ∷ body) ++ codes "end" ∷ [] ≡ (codes "office" ∷ between ++ part) ++ (more ++ codes "end" ∷ []) =
        ap (λ l. codes "office" ∷ l) (
        append_assoc between (first_line order ∷ body) (codes "end" ∷ [])
        ∙ ap (λ l. between ++ (l ++ codes "end" ∷ [])) (sym e)
        ∙ ap (λ l. between ++ l) (append_assoc part more (codes "end" ∷ []))
        ∙ sym (append_assoc between part (more ++ codes "end" ∷ []))
        ) in
        (more ++ codes "end" ∷ [], subst AreOfficeLines lines (whole (orders ++ order ∷ []) (between ++ first_line order ∷ body) (each_more CanFollow orders order each can) (lines_more orders between order body are is)))

    -- it isn't `end`
    not_last : (rest : Lines) → part ≡ codes "end" ∷ rest → Begins (AreNextLines orders) part → ⊥
    not_last rest e (more, (order, body, can, is, long)) =
        first_not_end order body can.form is (cons_head (codes "end") (first_line order) (rest ++ more) body (ap (λ l. l ++ more) (sym e) ∙ long))

    done : (more : List Order) (behind : Lines) → EachCan CanFollow (orders ++ more) → AreLinesOf more behind → part ≡ behind ++ codes "end" ∷ [] → ⊥
    done [] behind all b_are e = not_last [] (e ∙ ap (λ l. l ++ codes "end" ∷ []) b_are) stops.begins
    done (o ∷ more) behind all (b, m, b_is, m_are, b_e) e =
        let long : part ≡ (first_line o ∷ b) ++ (m ++ codes "end" ∷ []) = e ∙ ap (λ l. l ++ codes "end" ∷ []) b_e ∙ append_assoc (first_line o ∷ b) m (codes "end" ∷ []) in
        last m (no_more orders part (m ++ codes "end" ∷ []) o b (next_can orders o more all) b_is long stops.begins)
      where
        last : (m : Lines) → m ++ codes "end" ∷ [] ≡ [] → ⊥
        last [] h = something (codes "end") [] h
        last (x ∷ m) h = something x (m ++ codes "end" ∷ []) h

    unfinished : ¬ AreOfficeLines (codes "office" ∷ between ++ part)
    unfinished office = let c = continues orders between part _ each are office refl in done c.more c.behind c.each c.behind_are c.rest_is

    -- where the next order's lines go
    inside : (line : List ℕ) (rest m left : Lines) (o : Order) (b k : Lines) → bad.lines ≡ line ∷ rest → CanFollow orders o → IsBody o b → first_line o ∷ b ≡ part ++ k → line ∷ left ≡ k ++ m → ⊥
    inside line rest m left o b [] is can b_is e f = stops.unfinished (o, b, can, b_is, sym (e ∙ append-nil part))
    inside line rest m left o b (z ∷ k) is can b_is e f =
        let same : z ≡ line = sym (cons_head line z left (k ++ m) f) in
        stops.ahead line rest is (begins_next orders (part ++ line ∷ []) k o b can b_is (append_assoc part (line ∷ []) k ∙ ap (λ x. part ++ x ∷ k) (sym same) ∙ sym e))

    behind_all : (line : List ℕ) (rest left : Lines) (more : List Order) (behind : Lines) → bad.lines ≡ line ∷ rest → EachCan CanFollow (orders ++ more) → AreLinesOf more behind → part ++ line ∷ left ≡ behind ++ codes "end" ∷ [] → ⊥
    behind_all line rest left [] behind is all b_are e =
        let long : length (part ++ line ∷ left) ≡ 1 = ap (length {A = List ℕ}) (e ∙ ap (λ l. l ++ codes "end" ∷ []) b_are) in
        omega (arith, some, long, length-append part (line ∷ left))
    behind_all line rest left (o ∷ more) behind is all (b, m, b_is, m_are, b_e) e =
        let can = next_can orders o more all in
        let long : part ++ line ∷ left ≡ (first_line o ∷ b) ++ (m ++ codes "end" ∷ []) = e ∙ ap (λ l. l ++ codes "end" ∷ []) b_e ∙ append_assoc (first_line o ∷ b) m (codes "end" ∷ []) in
        elim (fronts part (first_line o ∷ b) (line ∷ left) (m ++ codes "end" ∷ []) long) [
          | inl h ↦ inside line rest (m ++ codes "end" ∷ []) left o b h.0 is can b_is h.1 h.2
          | inr h ↦ stops.unfinished (o, b, can, b_is, h.1 ∙ ap (λ l. (first_line o ∷ b) ++ l) (no_more orders part h.0 o b can b_is h.1 stops.begins) ∙ append-nil (first_line o ∷ b))
        ]

    ahead : (line : List ℕ) (more : Lines) → bad.lines ≡ line ∷ more → ¬ Begins AreOfficeLines ((codes "office" ∷ between ++ part) ++ line ∷ [])
    ahead line more is (left, office) =
        let e : ((codes "office" ∷ between ++ part) ++ line ∷ []) ++ left ≡ codes "office" ∷ (between ++ (part ++ line ∷ left)) =
        append_assoc (codes "office" ∷ between ++ part) (line ∷ []) left ∙ append_assoc (codes "office" ∷ between) part (line ∷ left) in
        let c = continues orders between (part ++ line ∷ left) _ each are office e in
        behind_all line more left c.more c.behind is c.each c.behind_are c.rest_is

-- no order and no last line is ahead
pub stops_between : (orders : List Order) (between : Lines) (state : LineState) → EachCan CanFollow orders → AreLinesOf orders between → IsNotAhead (IsNext IsAny orders) first_line state → ((more : Lines) → state.lines ≡ codes "end" ∷ more → ⊥) →
    StopsAt AreOfficeLines (codes "office" ∷ between) state
stops_between orders between state each are none no_end = record {
  begins = (codes "end" ∷ [], whole orders between each are);
  unfinished = unfinished;
  ahead = ahead;
}
  where
    unfinished : ¬ AreOfficeLines (codes "office" ∷ between)
    unfinished office =
        let c = continues orders between [] _ each are office (ap (λ l. codes "office" ∷ l) (sym (append-nil between))) in
        empty c.behind c.rest_is
      where
        empty : (behind : Lines) → [] ≡ behind ++ codes "end" ∷ [] → ⊥
        empty [] h = nothing (codes "end") [] h
        empty (x ∷ behind) h = nothing x (behind ++ codes "end" ∷ []) h

    next : (line : List ℕ) (rest left : Lines) (more : List Order) (behind : Lines) → state.lines ≡ line ∷ rest → EachCan CanFollow (orders ++ more) → AreLinesOf more behind → line ∷ left ≡ behind ++ codes "end" ∷ [] → ⊥
    next line rest left [] behind is all b_are e =
        no_end rest (is ∙ ap (λ l. l ∷ rest) (cons_head line (codes "end") left [] (e ∙ ap (λ l. l ++ codes "end" ∷ []) b_are)))
    next line rest left (o ∷ more) behind is all (b, m, b_is, m_are, b_e) e =
        none o rest (record { is = tt; can = next_can orders o more all; body = b; body_is = b_is }) (is ∙ ap (λ l. l ∷ rest) (cons_head line (first_line o) left _ (e ∙ ap (λ l. l ++ codes "end" ∷ []) b_e)))

    ahead : (line : List ℕ) (more : Lines) → state.lines ≡ line ∷ more → ¬ Begins AreOfficeLines ((codes "office" ∷ between) ++ line ∷ [])
    ahead line more is (left, office) =
        let c = continues orders between (line ∷ left) _ each are office (append_assoc (codes "office" ∷ between) (line ∷ []) left) in
        next line more left c.more c.behind is c.each c.behind_are c.rest_is

-- the first line isn't ahead
pub stops_first : (state : LineState) → ((more : Lines) → state.lines ≡ codes "office" ∷ more → ⊥) → StopsAt AreOfficeLines [] state
stops_first state none = record {
  begins = (codes "office" ∷ codes "end" ∷ [], whole [] [] (each_none CanFollow) refl);
  unfinished = λ (orders, office). nothing (codes "office") _ office.lines_are;
  ahead = λ line more is (left, (orders, office)).
      none more (is ∙ ap (λ l. l ∷ more) (cons_head line (codes "office") left _ office.lines_are));
}

-- nothing goes on behind an office
pub office_ends : (orders : List Order) (between : Lines) → EachCan CanFollow orders → AreLinesOf orders between → NeverGoesOn AreOfficeLines (codes "office" ∷ between ++ codes "end" ∷ [])
office_ends orders between each are line more office =
    let e : (codes "office" ∷ between ++ codes "end" ∷ []) ++ line ∷ more ≡ codes "office" ∷ (between ++ (codes "end" ∷ line ∷ more)) = append_assoc (codes "office" ∷ between) (codes "end" ∷ []) (line ∷ more) in
    let c = continues orders between (codes "end" ∷ line ∷ more) _ each are office e in
    last c.more c.behind c.each c.behind_are c.rest_is
  where
    last : (others : List Order) (behind : Lines) → EachCan CanFollow (orders ++ others) → AreLinesOf others behind → codes "end" ∷ line ∷ more ≡ behind ++ codes "end" ∷ [] → ⊥
    last [] behind all b_are h = something line more (cons_tail (codes "end") (codes "end") (line ∷ more) [] (h ∙ ap (λ l. l ++ codes "end" ∷ []) b_are))
    last (o ∷ others) behind all (b, m, b_is, m_are, b_e) h =
        first_not_end o b (next_can orders o others all).form b_is (cons_head (codes "end") (first_line o) (line ∷ more) _ (h ∙ ap (λ l. l ++ codes "end" ∷ []) b_e))

-- the lines behind a first line stop there, and so do those of the order
pub behind_first : (before : List Order) (first : List ℕ) (AreBodies : Lines → Type 0) (part : Lines) (bad : LineState) →
    ((order : Order) (body : Lines) → CanFollow before order → IsBody order body → first_line order ≡ first → AreBodies body) →
    ((body : Lines) → AreBodies body → (order : Order) × CanFollow before order × IsBody order body × (first_line order ≡ first)) →
    StopsAt AreBodies part bad → StopsAt (AreNextLines before) (first ∷ part) bad
behind_first before first AreBodies part bad there back stops = record { begins = begun stops.begins; unfinished = unfinished; ahead = ahead }
  where
    begun : Begins AreBodies part → Begins (AreNextLines before) (first ∷ part)
    begun (more, bodies) = let b = back (part ++ more) bodies in (more, (b.0, part ++ more, b.1, b.2, ap (λ l. l ∷ (part ++ more)) (sym b.3)))

    unfinished : ¬ AreNextLines before (first ∷ part)
    unfinished (order, body, can, is, e) =
        stops.unfinished (subst AreBodies (sym (cons_tail first (first_line order) part body e)) (there order body can is (sym (cons_head first (first_line order) part body e))))

    ahead : (line : List ℕ) (more : Lines) → bad.lines ≡ line ∷ more → ¬ Begins (AreNextLines before) ((first ∷ part) ++ line ∷ [])
    ahead line more is (left, (order, body, can, body_is, e)) =
        stops.ahead line more is (left, subst AreBodies (sym (cons_tail first (first_line order) _ body e)) (there order body can body_is (sym (cons_head first (first_line order) _ body e))))

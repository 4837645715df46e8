-- Lists of orders and their lines, with an order more, and how an office goes on behind them.
use Rattle.std.proofs.Common.{◌≡◌, List, [], ◌∷◌, ◌++◌, refl, sym, ap, subst, ◌∙◌, All, append_assoc, append-nil}
use Rattle.std.specs.Prelude.{codes}
use Rattle.std.proofs.lemmas.List.{append_cancel_left}
use Rattle.std.proofs.lemmas.List.Elements.{All-nil, All-cons, All-head, All-tail}
use Rattle.line_forms.specs.FieldLists.{fields_of}
use Rattle.line_forms.specs.Readers.{EachCan}
use Rattle.line_forms.proofs.Passing.{cons_head, cons_tail}
use Rattle.office_text.specs.declared.order.Order.{Order}
use Rattle.office_text.specs.Orders.{IsOrder, CanFollow}
use Rattle.office_text.specs.OrderLines.{first_line, IsBody, AreLinesOf}
use Rattle.office_text.specs.Offices.{IsOffice, AreOfficeLines}
use Rattle.office_text.proofs.Fronts.{Lines}
use Rattle.office_text.proofs.FieldLemmas.{first_again, line_again}
use Rattle.office_text.proofs.OneOrder.{order_one}
use Rattle.office_text.proofs.WordLemmas.{not_end}

-- each order has its form
forms : (done left : List Order) → EachCan CanFollow (done ++ left) → All IsOrder left
forms done [] each = All-nil IsOrder
forms done (o ∷ left) each =
    let E : List Order → Type 0 = EachCan CanFollow in
    All-cons IsOrder o left (each done left o refl).form (forms (done ++ o ∷ []) left (subst E (sym (append_assoc done (o ∷ []) left)) each))

pub lines_more : (orders : List Order) (lines : Lines) (order : Order) (body : Lines) → AreLinesOf orders lines → IsBody order body → AreLinesOf (orders ++ order ∷ []) (lines ++ first_line order ∷ body)
lines_more [] lines order body are is = (body, [], is, refl, ap (λ l. l ++ first_line order ∷ body) are ∙ sym (append-nil (first_line order ∷ body)))
lines_more (o ∷ orders) lines order body (mine, more, mine_is, more_are, e) is = (
  mine,
  more ++ first_line order ∷ body,
  mine_is,
  lines_more orders more order body more_are is,
  ap (λ l. l ++ first_line order ∷ body) e ∙ append_assoc (first_line o ∷ mine) more (first_line order ∷ body),
)

-- the last line of an office is no first line of an order
pub first_not_end : (o : Order) (body : Lines) → IsOrder o → IsBody o body → codes "end" ≡ first_line o → ⊥
first_not_end o body is has e = not_end o [] (sym (first_again o body is has) ∙ ap fields_of (sym e) ∙ line_again (codes "end") refl)

-- lines that begin those of an office behind its orders so far, and end it
pub record GoesOn (orders others : List Order) (rest : Lines) : Type 0 where
  pub more : List Order
  pub behind : Lines
  pub others_are : others ≡ orders ++ more
  pub behind_are : AreLinesOf more behind
  pub rest_is : rest ≡ behind ++ codes "end" ∷ []

goes_on : (orders others : List Order) (x y rest : Lines) → All IsOrder orders → All IsOrder others → AreLinesOf orders x → AreLinesOf others y → x ++ rest ≡ y ++ codes "end" ∷ [] → GoesOn orders others rest
goes_on [] others x y rest is also x_are y_are e = record {
  more = others;
  behind = y;
  others_are = refl;
  behind_are = y_are;
  rest_is = ap (λ l. l ++ rest) (sym x_are) ∙ e;
}
goes_on (o ∷ orders) [] x y rest is also (mine, more, mine_is, more_are, x_is) y_are e =
    let line : first_line o ∷ (mine ++ more ++ rest) ≡ codes "end" ∷ [] = ap (λ l. l ++ rest) (sym x_is) ∙ e ∙ ap (λ l. l ++ codes "end" ∷ []) y_are in
    absurd (first_not_end o mine (All-head IsOrder o orders is) mine_is (sym (cons_head (first_line o) (codes "end") _ [] line)))
goes_on (o ∷ orders) (p ∷ others) x y rest is also (mine, more, mine_is, more_are, x_is) (body, left, body_is, left_are, y_is) e =
    let mine_long : x ++ rest ≡ first_line o ∷ (mine ++ (more ++ rest)) = ap (λ l. l ++ rest) x_is ∙ append_assoc (first_line o ∷ mine) more rest in
    let body_long : y ++ codes "end" ∷ [] ≡ first_line p ∷ (body ++ (left ++ codes "end" ∷ [])) = ap (λ l. l ++ codes "end" ∷ []) y_is ∙ append_assoc (first_line p ∷ body) left (codes "end" ∷ []) in
    let both = sym mine_long ∙ e ∙ body_long in
    let behind : mine ++ (more ++ rest) ≡ body ++ (left ++ codes "end" ∷ []) = cons_tail (first_line o) (first_line p) _ _ both in
    let same = order_one o p mine body (more ++ rest) (left ++ codes "end" ∷ []) (All-head IsOrder o orders is) (All-head IsOrder p others also) (cons_head (first_line o) (first_line p) _ _ both) mine_is body_is behind in
    let left_is : more ++ rest ≡ left ++ codes "end" ∷ [] = append_cancel_left mine (more ++ rest) (left ++ codes "end" ∷ []) (behind ∙ ap (λ l. l ++ (left ++ codes "end" ∷ [])) same.1) in
    let g = goes_on orders others more left rest (All-tail IsOrder o orders is) (All-tail IsOrder p others also) more_are left_are left_is in
    record {
      more = g.more;
      behind = g.behind;
      others_are = ap (λ q. q ∷ others) same.0 ∙ ap (λ l. o ∷ l) g.others_are;
      behind_are = g.behind_are;
      rest_is = g.rest_is;
    }

-- the lines of an office that begins with these orders
pub record Continues (orders : List Order) (rest : Lines) : Type 0 where
  pub more : List Order
  pub behind : Lines
  pub each : EachCan CanFollow (orders ++ more)
  pub behind_are : AreLinesOf more behind
  pub rest_is : rest ≡ behind ++ codes "end" ∷ []

office_goes_on : (orders others : List Order) (between rest lines : Lines) → EachCan CanFollow orders → AreLinesOf orders between → IsOffice others lines → lines ≡ codes "office" ∷ (between ++ rest) → GoesOn orders others rest
office_goes_on orders others between rest lines each are office e =
    let long : between ++ rest ≡ office.between ++ codes "end" ∷ [] = cons_tail (codes "office") (codes "office") _ _ (sym e ∙ office.lines_are) in
    goes_on orders others between office.between rest (forms [] orders each) (forms [] others office.each) are office.between_are long

pub continues : (orders : List Order) (between rest lines : Lines) → EachCan CanFollow orders → AreLinesOf orders between → AreOfficeLines lines → lines ≡ codes "office" ∷ (between ++ rest) → Continues orders rest
continues orders between rest lines each are (others, office) e =
    let g = office_goes_on orders others between rest lines each are office e in
    let E : List Order → Type 0 = EachCan CanFollow in
    record { more = g.more; behind = g.behind; each = subst E g.others_are office.each; behind_are = g.behind_are; rest_is = g.rest_is }

-- the orders of an office are those of no other
pub office_one : (lines : Lines) (orders others : List Order) → IsOffice orders lines → IsOffice others lines → others ≡ orders
office_one lines orders others office other =
    let g = office_goes_on orders others office.between (codes "end" ∷ []) lines office.each office.between_are other office.lines_are in
    g.others_are ∙ last g.more g.behind g.behind_are (forms orders g.more (let E : List Order → Type 0 = EachCan CanFollow in subst E g.others_are other.each)) g.rest_is
  where
    last : (more : List Order) (behind : Lines) → AreLinesOf more behind → All IsOrder more → codes "end" ∷ [] ≡ behind ++ codes "end" ∷ [] → orders ++ more ≡ orders
    last [] behind are is e = append-nil orders
    last (o ∷ more) behind (body, left, body_is, left_are, b_is) is e =
        let k : codes "end" ∷ [] ≡ first_line o ∷ (body ++ left ++ codes "end" ∷ []) = e ∙ ap (λ l. l ++ codes "end" ∷ []) b_is in
        absurd (first_not_end o body (All-head IsOrder o more is) body_is (cons_head (codes "end") (first_line o) [] _ k))

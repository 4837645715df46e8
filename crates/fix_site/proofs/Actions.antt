-- The lines of an action, part by part.
use Rattle.std.proofs.Common.{ℕ, ◌≡◌, ◌<◌, List, [], ◌∷◌, ◌++◌, length, refl, sym, ap, subst, ◌∙◌, arith, ℤ, pos, append_assoc, append-nil, true, false, Option, Some, None}
use Rattle.std.specs.Prelude.{codes, Bool, flat_map, decimal}
use Rattle.std.specs.Fmt.{signed_decimal}
use Rattle.std.proofs.lemmas.List.{append_cancel_left}
use Rattle.desk_base.specs.Moments.{IsMoment}
use Rattle.line_forms.specs.Names.{IsName}
use Rattle.line_forms.specs.Fields.{field_text}
use Rattle.line_forms.specs.FieldLists.{line_of}
use Rattle.line_forms.specs.LineStates.{LineState}
use Rattle.line_forms.specs.Readers.{Passes, AreLinesOf, IsStuck, IsNotAhead, TakesExactly, IsAny, ReadsPart, NeverGoesOn}
use Rattle.line_forms.specs.Numbers.{IsId}
use Rattle.line_forms.proofs.Passing.{cons_head, cons_tail, passes_then}
use Rattle.line_forms.proofs.PlainLemmas.{id_one, moment_one}
use Rattle.act_rules.specs.declared.rule.Rules.{Rules}
use Rattle.fix_site.specs.declared.action.Action.{Action}
use Rattle.fix_site.specs.declared.action.Target.{Target}
use Rattle.fix_site.specs.declared.action.Target.TheVariants as target
use Rattle.fix_site.specs.declared.action_reader.ActionEnd.{ActionEnd}
use Rattle.fix_site.specs.RuleLines.{IsRules, start_line, rules_lines}
use Rattle.fix_site.specs.Actions.{IsAction, IsTarget, action_line, issued_line, content_line, members_line, target_lines, state_line, end_line, action_rest, action_lines, AreActionLines}
use Rattle.fix_site.specs.Readings.{IsTargetOver, choice_line, named_fields, HeadValue, IsHead, head_lines, IsEnd, end_lines, IsActionOf}
use Rattle.line_forms.proofs.Parts.{HasSome, IsOneWay, Lines, Only, Then, one_way-line, rest_same, single, stuck_behind, stuck_first, stuck_line, stuck_only, stuck_same}
use Rattle.line_forms.proofs.Sequences.{EndsForeign, IsForeign, Many, each_more, each_none, known, many_known, no_tail, stops_empty, stuck_taken, with_first}
use Rattle.fix_site.proofs.ListLemmas.{regroup}
use Rattle.fix_site.proofs.ContentLines.{apart}
use Rattle.fix_site.proofs.FieldLemmas.{named_one}
use Rattle.fix_site.proofs.Rules.{rules_one, some_rules}
use Rattle.fix_site.proofs.Targets.{Item, all_item, computer_item, where_item, item_line, CanItem, items_of, items_flat, items_can, items_some, items_from, items_same, item_one, takes_items, no_item}

-- one of two lines
abbrev pub Both : Bool → Type 0
Both choice = Unit {0}

abbrev pub members_choice : Bool → List ℕ
members_choice = choice_line (codes "members stop") (codes "members all")

abbrev pub state_choice : Bool → List ℕ
state_choice = choice_line (codes "state open") (codes "state stopped")

members_same : (v w : Bool) → members_choice v ≡ members_choice w → v ≡ w
members_same true true e = refl
members_same true false e = absurd (apart 8 97 (members_choice true) (members_choice false) refl refl e)
members_same false true e = absurd (apart 8 115 (members_choice false) (members_choice true) refl refl e)
members_same false false e = refl

state_same : (v w : Bool) → state_choice v ≡ state_choice w → v ≡ w
state_same true true e = refl
state_same true false e = absurd (apart 6 115 (state_choice true) (state_choice false) refl refl e)
state_same false true e = absurd (apart 6 111 (state_choice false) (state_choice true) refl refl e)
state_same false false e = refl

members_are : (v : Bool) → members_choice v ≡ members_line v
members_are true = refl
members_are false = refl

state_is : (v : Bool) → state_choice v ≡ state_line v
state_is true = refl
state_is false = refl

state_one : IsOneWay Both (single state_choice)
state_one = one_way-line Both state_choice (λ v w is fine e. state_same v w e)

-- no choice of two lines is ahead
pub no_choice : (first second : List ℕ) (old new : LineState) → (new ≡ old) × IsNotAhead (IsAny {V = Bool}) (choice_line first second) old → (new ≡ old) × IsNotAhead Both (choice_line first second) old
no_choice first second old new none = (none.0, λ v more is e. none.1 v more tt e)

-- the lines behind a target
abbrev pub FromState : Lines → Type 0
FromState = Then Both (single state_choice) (λ s. Only end_line)

abbrev pub FromRules : Lines → Type 0
FromRules = Then IsRules rules_lines (λ r. FromState)

some_state : HasSome FromState
some_state = (codes "state open" ∷ end_line ∷ [], (false, end_line ∷ [], tt, refl, refl))

abbrev end_of : Rules → Bool → ActionEnd
end_of rules stopped = record { rules = rules; stopped = stopped }

end_there : (lines : Lines) → FromRules lines → AreLinesOf IsEnd end_lines lines
end_there lines (rules, r1, is, (stopped, r2, any, e3, e2), e1) = (
  end_of rules stopped,
  is,
  e1 ∙ ap (λ l. rules_lines rules ++ l) (e2 ∙ ap (λ l. l ∷ r2) (state_is stopped) ∙ ap (λ l. state_line stopped ∷ l) e3),
)

end_back : (lines : Lines) → AreLinesOf IsEnd end_lines lines → FromRules lines
end_back lines (end, is, e) = (
  end.rules,
  state_choice end.stopped ∷ end_line ∷ [],
  is,
  (end.stopped, end_line ∷ [], tt, refl, refl),
  e ∙ ap (λ l. rules_lines end.rules ++ l ∷ end_line ∷ []) (sym (state_is end.stopped)),
)

pub stuck_end : (old new : LineState) → IsStuck FromRules old new → IsStuck (AreLinesOf IsEnd end_lines) old new
stuck_end old new h = stuck_same FromRules (AreLinesOf IsEnd end_lines) old new end_there end_back h

pub at_rules : (old new : LineState) → IsStuck (AreLinesOf IsRules rules_lines) old new → IsStuck FromRules old new
at_rules old new h = stuck_first IsRules rules_lines (λ r. FromState) old new rules_one (λ v is. some_state) h

pub behind_rules : (rules : Rules) (old mid new : LineState) → IsRules rules → Passes old mid (rules_lines rules) → IsStuck FromState mid new → IsStuck FromRules old new
behind_rules rules old mid new is passes stuck = stuck_behind IsRules rules_lines (λ r. FromState) rules old mid new rules_one is passes stuck

pub at_state : (old new : LineState) → (new ≡ old) × IsNotAhead (IsAny {V = Bool}) state_choice old → IsStuck FromState old new
at_state old new none =
    stuck_first Both (single state_choice) (λ s. Only end_line) old new state_one (λ v is. (end_line ∷ [], refl))
    (stuck_line Both state_choice false old new tt (no_choice (codes "state open") (codes "state stopped") old new none))

pub behind_state : (stopped : Bool) (old mid new : LineState) → Passes old mid (state_choice stopped ∷ []) → TakesExactly end_line mid new false → IsStuck FromState old new
behind_state stopped old mid new passes none = stuck_behind Both (single state_choice) (λ s. Only end_line) stopped old mid new state_one tt passes (stuck_only end_line mid new none)

pub end_pass : (rules : Rules) (stopped : Bool) (a b c d : LineState) → Passes a b (rules_lines rules) → Passes b c (state_choice stopped ∷ []) → TakesExactly end_line c d true →
    Passes a d (end_lines (end_of rules stopped))
end_pass rules stopped a b c d p1 p2 p3 =
    let P : List ℕ → Type 0 = λ l. Passes b c (l ∷ []) in
    passes_then a b d (rules_lines rules) (state_line stopped ∷ end_line ∷ []) p1
    (passes_then b c d (state_line stopped ∷ []) (end_line ∷ []) (subst P (state_is stopped) p2) p3)

-- the lines before it
abbrev pub Named : Type 0
Named = List ℕ × ℕ

abbrev pub IsNamed : Named → Type 0
IsNamed named = IsName named.0 × IsId named.1

abbrev pub content_first : Named → List ℕ
content_first named = content_line named.0 named.1

abbrev pub FromMembers : Lines → Type 0
FromMembers = AreLinesOf Both (single members_choice)

abbrev pub FromContent : Lines → Type 0
FromContent = Then IsNamed (single content_first) (λ n. FromMembers)

abbrev pub FromIssued : Lines → Type 0
FromIssued = Then IsMoment (single issued_line) (λ t. FromContent)

issued_one : IsOneWay IsMoment (single issued_line)
issued_one = one_way-line IsMoment issued_line (λ v w is fine e. moment_one v w is fine (append_cancel_left (field_text (codes "issued")) (signed_decimal v) (signed_decimal w) e))

content_one : IsOneWay IsNamed (single content_first)
content_one = one_way-line IsNamed content_first (λ v w is fine e.
    let same = named_one v.0 w.0 v.1 w.1 is.0 fine.0 is.1 fine.1 (append_cancel_left (field_text (codes "content")) (line_of (named_fields v.0 v.1)) (line_of (named_fields w.0 w.1)) e) in
    ap (λ (n : List ℕ). let r : Named = (n, v.1) in r) same.0 ∙ ap (λ (n : ℕ). let r : Named = (w.0, n) in r) same.1)

-- there are such lines
a_name : IsName (codes "a")
a_name = (omega arith, omega arith, search arith)

a_moment : IsMoment (pos 0)
a_moment = search arith

an_id : IsId 1
an_id = search arith

pub a_named : IsNamed (codes "a", 1)
a_named = (a_name, an_id)

some_members : HasSome FromMembers
some_members = (codes "members stop" ∷ [], (false, tt, refl))

some_content : HasSome FromContent
some_content = let s = some_members in (content_line (codes "a") 1 ∷ s.0, ((codes "a", 1), s.0, a_named, s.1, refl))

abbrev head_of : ℤ → List ℕ → ℕ → Bool → HeadValue
head_of issued site content all = record { issued = issued; site = site; content = content; all_members = all }

head_there : (lines : Lines) → FromIssued lines → AreLinesOf IsHead head_lines lines
head_there lines (issued, r1, is_moment, (named, r2, is_named, (all, any, e3), e2), e1) = (
  head_of issued named.0 named.1 all,
  record { issued = is_moment; site = is_named.0; content = is_named.1 },
  e1 ∙ ap (λ l. issued_line issued ∷ l) (e2 ∙ ap (λ l. content_first named ∷ l) (e3 ∙ ap (λ l. l ∷ []) (members_are all))),
)

head_back : (lines : Lines) → AreLinesOf IsHead head_lines lines → FromIssued lines
head_back lines (head, is, e) = (
  head.issued,
  content_line head.site head.content ∷ members_choice head.all_members ∷ [],
  is.issued,
  ((head.site, head.content), members_choice head.all_members ∷ [], (is.site, is.content), (head.all_members, tt, refl), refl),
  e ∙ ap (λ l. issued_line head.issued ∷ content_line head.site head.content ∷ l ∷ []) (sym (members_are head.all_members)),
)

pub stuck_head : (old new : LineState) → IsStuck FromIssued old new → IsStuck (AreLinesOf IsHead head_lines) old new
stuck_head old new h = stuck_same FromIssued (AreLinesOf IsHead head_lines) old new head_there head_back h

pub at_issued : (old new : LineState) → (new ≡ old) × IsNotAhead IsMoment issued_line old → IsStuck FromIssued old new
at_issued old new none = stuck_first IsMoment (single issued_line) (λ t. FromContent) old new issued_one (λ v is. some_content) (stuck_line IsMoment issued_line (pos 0) old new a_moment none)

pub behind_issued : (issued : ℤ) (old mid new : LineState) → IsMoment issued → Passes old mid (issued_line issued ∷ []) → IsStuck FromContent mid new → IsStuck FromIssued old new
behind_issued issued old mid new is passes stuck = stuck_behind IsMoment (single issued_line) (λ t. FromContent) issued old mid new issued_one is passes stuck

pub at_content : (old new : LineState) → (new ≡ old) × ((site : List ℕ) (content : ℕ) (more : Lines) → IsName site → IsId content → ¬ (old.lines ≡ content_line site content ∷ more)) → IsStuck FromContent old new
at_content old new none =
    let nothing : IsNotAhead IsNamed content_first old = λ v more is e. none.1 v.0 v.1 more is.0 is.1 e in
    stuck_first IsNamed (single content_first) (λ n. FromMembers) old new content_one (λ v is. some_members) (stuck_line IsNamed content_first (codes "a", 1) old new a_named (none.0, nothing))

pub behind_content : (site : List ℕ) (content : ℕ) (old mid new : LineState) → IsName site → IsId content → Passes old mid (content_line site content ∷ []) → IsStuck FromMembers mid new → IsStuck FromContent old new
behind_content site content old mid new is good passes stuck = stuck_behind IsNamed (single content_first) (λ n. FromMembers) (site, content) old mid new content_one (is, good) passes stuck

pub at_members : (old new : LineState) → (new ≡ old) × IsNotAhead (IsAny {V = Bool}) members_choice old → IsStuck FromMembers old new
at_members old new none = stuck_line Both members_choice false old new tt (no_choice (codes "members stop") (codes "members all") old new none)

pub head_pass : (head : HeadValue) (a b c d : LineState) → Passes a b (issued_line head.issued ∷ []) → Passes b c (content_line head.site head.content ∷ []) → Passes c d (members_choice head.all_members ∷ []) →
    Passes a d (head_lines head)
head_pass head a b c d p1 p2 p3 =
    let P : List ℕ → Type 0 = λ l. Passes c d (l ∷ []) in
    passes_then a b d (issued_line head.issued ∷ []) (content_line head.site head.content ∷ members_line head.all_members ∷ []) p1
    (passes_then b c d (content_line head.site head.content ∷ []) (members_line head.all_members ∷ []) p2 (subst P (members_are head.all_members) p3))

head_one : IsOneWay IsHead head_lines
head_one v w x y is fine e =
    let issued = issued_one v.issued w.issued _ _ is.issued fine.issued e in
    let e1 = cons_tail (issued_line v.issued) (issued_line w.issued) _ _ e in
    let named = content_one (v.site, v.content) (w.site, w.content) _ _ (is.site, is.content) (fine.site, fine.content) e1 in
    let e2 = cons_head _ _ _ _ (cons_tail (content_line v.site v.content) (content_line w.site w.content) _ _ e1) in
    let members = members_same v.all_members w.all_members (members_are v.all_members ∙ e2 ∙ sym (members_are w.all_members)) in
    ap (λ (z : ℤ). head_of z v.site v.content v.all_members) issued
    ∙ ap (λ (n : Named). head_of w.issued n.0 n.1 v.all_members) named
    ∙ ap (λ (b : Bool). head_of w.issued w.site w.content b) members

-- the target and what is behind it
abbrev AfterItems : List Item → Lines → Type 0
AfterItems items lines = (0 < length items) × AreLinesOf IsEnd end_lines lines

abbrev pub FromTarget : Lines → Type 0
FromTarget = Many CanItem item_line no_tail AfterItems

abbrev pub FromHead : Lines → Type 0
FromHead = Then IsHead head_lines (λ h. FromTarget)

some_end : HasSome (AreLinesOf IsEnd end_lines)
some_end = let r = some_rules in (end_lines (end_of r.0 false), (end_of r.0 false, r.1, refl))

some_target : HasSome FromTarget
some_target =
    let s = some_end in
    (codes "target all" ∷ s.0, (all_item ∷ [], s.0, each_more CanItem [] all_item (each_none CanItem) refl, (omega arith, s.1), refl))

start_not_item : (rules : Rules) (item : Item) → start_line rules.start ≡ item_line item → ⊥
start_not_item rules all_item e = apart 0 115 (start_line rules.start) (item_line all_item) refl refl e
start_not_item rules (computer_item name) e = apart 0 115 (start_line rules.start) (item_line (computer_item name)) refl refl e
start_not_item rules (where_item question) e = apart 0 115 (start_line rules.start) (item_line (where_item question)) refl refl e

foreign : EndsForeign CanItem item_line AfterItems
foreign items rest (some, (end, is, h)) before item more can e =
    start_not_item end.rules item (cons_head (start_line end.rules.start) (item_line item) _ more (sym h ∙ e))

pub at_head : (old new : LineState) → IsStuck (AreLinesOf IsHead head_lines) old new → IsStuck FromHead old new
at_head old new h = stuck_first IsHead head_lines (λ h. FromTarget) old new head_one (λ v is. some_target) h

pub behind_head : (head : HeadValue) (old mid new : LineState) → IsHead head → Passes old mid (head_lines head) → IsStuck FromTarget mid new → IsStuck FromHead old new
behind_head head old mid new is passes stuck = stuck_behind IsHead head_lines (λ h. FromTarget) head old mid new head_one is passes stuck

pub at_target : (old new : LineState) → Passes old new [] × ((t : Target) (more : Lines) → IsTarget t → ¬ (old.lines ≡ target_lines t ++ more)) → IsStuck FromTarget old new
at_target old new (passes, none) =
    ([], passes, stops_empty CanItem item_line no_tail AfterItems new some_target (λ rest h. omega (arith, h.0)) (no_item old new passes.0 none))

pub behind_target : (t : Target) (old mid new : LineState) → IsTarget t → Passes old mid (target_lines t) → IsTargetOver t mid → IsStuck (AreLinesOf IsEnd end_lines) mid new → IsStuck FromTarget old new
behind_target t old mid new is passes none stuck =
    stuck_taken (known CanItem item_line no_tail AfterItems item_one foreign) (items_of t) old mid new (takes_items old mid t is passes none)
    (stuck_same (AreLinesOf IsEnd end_lines) (AfterItems (items_of t)) mid new (λ lines h. (items_some t is, h)) (λ lines h. h.1) stuck)

-- the parts are those of an action
abbrev pub action_of : ℕ → HeadValue → Target → ActionEnd → Action
action_of id head t end =
    record { id = id; issued = head.issued; site = head.site; content = head.content; all_members = head.all_members; target = t; rules = end.rules; stopped = end.stopped }

pub action_good : (id : ℕ) (head : HeadValue) (t : Target) (end : ActionEnd) → IsId id → IsHead head → IsTarget t → IsEnd end → IsAction (action_of id head t end)
action_good id head t end good is_head is_target is_end =
    record { id = good; issued = is_head.issued; site = is_head.site; content = is_head.content; target = is_target; rules = is_end }

there : (id : ℕ) → IsId id → (lines : Lines) → FromHead lines → AreLinesOf (IsActionOf id) action_rest lines
there id good lines (head, r1, is_head, (items, r2, can, (some, (end, is_end, e3)), e2), e1) =
    let found = items_from items can some in (
      action_of id head found.0 end,
      (action_good id head found.0 end good is_head found.1 is_end, refl),
      e1 ∙ ap (λ l. head_lines head ++ l) (e2 ∙ ap (λ l. l ++ r2) (ap (flat_map (with_first item_line no_tail)) found.2 ∙ items_flat found.0) ∙ ap (λ l. target_lines found.0 ++ l) e3),
    )

abbrev head_in : Action → HeadValue
head_in a = head_of a.issued a.site a.content a.all_members

abbrev end_in : Action → ActionEnd
end_in a = end_of a.rules a.stopped

head_good : (a : Action) → IsAction a → IsHead (head_in a)
head_good a is = record { issued = is.issued; site = is.site; content = is.content }

back : (id : ℕ) (lines : Lines) → AreLinesOf (IsActionOf id) action_rest lines → FromHead lines
back id lines (a, (is, same), e) = (
  head_in a,
  flat_map (with_first item_line no_tail) (items_of a.target) ++ end_lines (end_in a),
  head_good a is,
  (items_of a.target, end_lines (end_in a), items_can a.target is.target, (items_some a.target is.target, (end_in a, is.rules, refl)), refl),
  e ∙ ap (λ l. head_lines (head_in a) ++ (l ++ end_lines (end_in a))) (sym (items_flat a.target)),
)

pub stuck_action : (id : ℕ) (old new : LineState) → IsId id → IsStuck FromHead old new → IsStuck (AreLinesOf (IsActionOf id) action_rest) old new
stuck_action id old new good h = stuck_same FromHead (AreLinesOf (IsActionOf id) action_rest) old new (there id good) (back id) h

pub action_pass : (id : ℕ) (head : HeadValue) (t : Target) (end : ActionEnd) (a b c d : LineState) → Passes a b (head_lines head) → Passes b c (target_lines t) → Passes c d (end_lines end) →
    Passes a d (action_rest (action_of id head t end))
action_pass id head t end a b c d p1 p2 p3 =
    passes_then a b d (head_lines head) (target_lines t ++ end_lines end) p1 (passes_then b c d (target_lines t) (end_lines end) p2 p3)

-- an action is known by its lines, whatever follows
no_item_ahead : (end : ActionEnd) (x : Lines) → IsForeign CanItem item_line (end_lines end ++ x)
no_item_ahead end x before item more can e =
    start_not_item end.rules item (cons_head (start_line end.rules.start) (item_line item) _ more e)

end_one : IsOneWay IsEnd end_lines
end_one v w x y is fine e =
    let long : rules_lines v.rules ++ (state_line v.stopped ∷ end_line ∷ x) ≡ rules_lines w.rules ++ (state_line w.stopped ∷ end_line ∷ y) =
    sym (append_assoc (rules_lines v.rules) (state_line v.stopped ∷ end_line ∷ []) x) ∙ e ∙ append_assoc (rules_lines w.rules) (state_line w.stopped ∷ end_line ∷ []) y in
    let rules = rules_one v.rules w.rules _ _ is fine long in
    let rest = rest_same rules_lines v.rules w.rules _ _ rules long in
    let stopped = state_same v.stopped w.stopped (state_is v.stopped ∙ cons_head (state_line v.stopped) (state_line w.stopped) _ _ rest ∙ sym (state_is w.stopped)) in
    ap (λ (r : Rules). end_of r v.stopped) rules ∙ ap (λ (b : Bool). end_of w.rules b) stopped

pub action_one : (id : ℕ) → IsOneWay (IsActionOf id) action_rest
action_one id a b x y (is, a_id) (fine, b_id) e =
    let head = head_one (head_in a) (head_in b) _ _ (head_good a is) (head_good b fine) e in
    let e1 : (target_lines a.target ++ end_lines (end_in a)) ++ x ≡ (target_lines b.target ++ end_lines (end_in b)) ++ y = rest_same head_lines (head_in a) (head_in b) _ _ head e in
    let e2 : flat_map (with_first item_line no_tail) (items_of a.target) ++ (end_lines (end_in a) ++ x) ≡ flat_map (with_first item_line no_tail) (items_of b.target) ++ (end_lines (end_in b) ++ y) =
    regroup (items_flat a.target) (end_lines (end_in a)) x (items_flat b.target) (end_lines (end_in b)) y e1 in
    let items = many_known CanItem item_line no_tail (items_of a.target) (items_of b.target) (end_lines (end_in a) ++ x) (end_lines (end_in b) ++ y) item_one
    (items_can a.target is.target) (items_can b.target fine.target) (no_item_ahead (end_in a) x) (no_item_ahead (end_in b) y) e2 in
    let end = end_one (end_in a) (end_in b) x y is.rules fine.rules items.1 in
    ap (λ (n : ℕ). action_of n (head_in a) a.target (end_in a)) (a_id ∙ sym b_id)
    ∙ ap (λ (h : HeadValue). action_of b.id h a.target (end_in a)) head
    ∙ ap (λ (t : Target). action_of b.id (head_in b) t (end_in a)) (items_same a.target b.target items.0)
    ∙ ap (λ (n : ActionEnd). action_of b.id (head_in b) b.target n) end

-- the first line and all that is behind it
abbrev pub FromId : Lines → Type 0
FromId = Then IsId (single action_line) (λ id. AreLinesOf (IsActionOf id) action_rest)

id_line_one : IsOneWay IsId (single action_line)
id_line_one = one_way-line IsId action_line (λ v w is fine e. id_one v w is fine (append_cancel_left (field_text (codes "action")) (decimal v) (decimal w) e))

pub an_action : (id : ℕ) → IsId id → HasSome (AreLinesOf (IsActionOf id) action_rest)
an_action id is =
    let r = some_rules in
    let head : HeadValue = head_of (pos 0) (codes "a") 1 false in
    let good : IsHead head = record { issued = a_moment; site = a_name; content = an_id } in
    let a = action_of id head target.All (end_of r.0 false) in
    (action_rest a, (a, (action_good id head target.All (end_of r.0 false) is good tt r.1, refl), refl))

whole_there : (lines : Lines) → FromId lines → AreLinesOf IsAction action_lines lines
whole_there lines (id, rest, is, (a, (good, same), e2), e1) =
    (a, good, e1 ∙ ap (λ (n : ℕ). action_line n ∷ rest) (sym same) ∙ ap (λ l. action_line a.id ∷ l) e2)

whole_back : (lines : Lines) → AreLinesOf IsAction action_lines lines → FromId lines
whole_back lines (a, is, e) = (a.id, action_rest a, is.id, (a, (is, refl), refl), e)

stuck_whole : (old new : LineState) → IsStuck FromId old new → IsStuck (AreLinesOf IsAction action_lines) old new
stuck_whole old new h = stuck_same FromId (AreLinesOf IsAction action_lines) old new whole_there whole_back h

pub at_id : (old new : LineState) → (new ≡ old) × IsNotAhead IsId action_line old → IsStuck (AreLinesOf IsAction action_lines) old new
at_id old new none =
    stuck_whole old new (stuck_first IsId (single action_line) (λ id. AreLinesOf (IsActionOf id) action_rest) old new id_line_one an_action (stuck_line IsId action_line 1 old new an_id none))

pub reads_whole : (id : ℕ) (old mid new : LineState) (answer : Option Action) → IsId id → Passes old mid (action_line id ∷ []) → ReadsPart (IsActionOf id) action_rest mid new answer → ReadsPart IsAction action_lines old new answer
reads_whole id old mid new None is passes h =
    stuck_whole old new (stuck_behind IsId (single action_line) (λ id. AreLinesOf (IsActionOf id) action_rest) id old mid new id_line_one is passes h)
reads_whole id old mid new (Some a) is passes ((good, same), rest) =
    let P : ℕ → Type 0 = λ n. Passes old mid (action_line n ∷ []) in
    (good, passes_then old mid new (action_line a.id ∷ []) (action_rest a) (subst P (sym same) passes) rest)

pub action_lines_one : IsOneWay IsAction action_lines
action_lines_one v w x y is fine e =
    let id = id_line_one v.id w.id _ _ is.id fine.id e in
    action_one v.id v w x y (is, refl) (fine, sym id) (cons_tail (action_line v.id) (action_line w.id) _ _ e)

-- some action
pub some_action : Action
some_action = (an_action 1 an_id).1.0

-- nothing stands behind an action
pub action_ends : (action : Action) → IsAction action → NeverGoesOn AreActionLines (action_lines action)
action_ends action is line more (other, fine, e) =
    let long : action_lines action ++ line ∷ more ≡ action_lines other ++ [] = e ∙ sym (append-nil (action_lines other)) in
    let same = action_lines_one action other (line ∷ more) [] is fine long in
    some_line line more (rest_same action_lines action other (line ∷ more) [] same long)
  where
    some_line : (line : List ℕ) (more : Lines) → line ∷ more ≡ [] → ⊥
    some_line line more e = cc

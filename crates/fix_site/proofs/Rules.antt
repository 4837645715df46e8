-- The lines of the rules, part by part.
use Rattle.std.proofs.Common.{ℕ, ◌≡◌, List, [], ◌∷◌, ◌++◌, length, refl, sym, ap, subst, ◌∙◌, ℤ, pos, Option, None, map, true, false, arith}
use Rattle.std.specs.Prelude.{codes, Bool, flat_map, IfSome}
use Rattle.std.proofs.lemmas.List.{append_cancel_left}
use Rattle.line_forms.specs.Fields.{field_text}
use Rattle.line_forms.specs.FieldLists.{line_of}
use Rattle.line_forms.specs.LineStates.{LineState}
use Rattle.line_forms.specs.Readers.{Passes, AreLinesOf, IsStuck, EachCan, IsNotAhead, TakesAll, TakesExactly}
use Rattle.line_forms.proofs.Passing.{cons_head, cons_tail, passes_none, passes_then}
use Rattle.act_rules.specs.declared.rule.Rules.{Rules}
use Rattle.act_rules.specs.declared.rule.Hours.{Hours}
use Rattle.act_rules.specs.declared.rule.Reapply.{Reapply}
use Rattle.act_rules.specs.declared.rule.Reapply.TheVariants.{Never}
use Rattle.fix_site.specs.RuleLines.{IsRules, IsHours, IsCount, IsWait, IsReapply, moment_field, hours_fields, day_digit, reapply_fields, start_line, until_line, client_lines, hours_line, days_line, retries_line, reapply_line, rules_lines}
use Rattle.fix_site.specs.Readings.{IsMaybeMoment, counted_fields}
use Rattle.line_forms.proofs.Parts.{HasSome, IsOneWay, Lines, Then, one_way-line, single, stuck_behind, stuck_first, stuck_line, stuck_same}
use Rattle.line_forms.proofs.Sequences.{EndsForeign, Many, OneWayBehind, each_more, each_none, known, no_tail, stuck_taken, with_first}
use Rattle.fix_site.proofs.ContentLines.{apart}
use Rattle.fix_site.proofs.FieldLemmas.{counted_one}
use Rattle.fix_site.proofs.RuleFields.{moment_same, hours_same, days_same, reapply_same}

abbrev pub IsMaybeHours : Option Hours → Type 0
IsMaybeHours hours = IfSome hours IsHours

abbrev pub IsDays : List Bool → Type 0
IsDays days = length days ≡ 7

abbrev pub Retries : Type 0
Retries = ℕ × ℤ

abbrev pub IsRetries : Retries → Type 0
IsRetries retries = IsCount retries.0 × IsWait retries.1

abbrev pub retries_first : Retries → List ℕ
retries_first retries = retries_line retries.0 retries.1

-- each line is that of one value
start_one : IsOneWay IsMaybeMoment (single start_line)
start_one = one_way-line IsMaybeMoment start_line (λ v w is fine e. moment_same v w is fine (append_cancel_left (field_text (codes "start")) (moment_field v) (moment_field w) e))

until_one : IsOneWay IsMaybeMoment (single until_line)
until_one = one_way-line IsMaybeMoment until_line (λ v w is fine e. moment_same v w is fine (append_cancel_left (field_text (codes "until")) (moment_field v) (moment_field w) e))

hours_one : IsOneWay IsMaybeHours (single hours_line)
hours_one = one_way-line IsMaybeHours hours_line (λ v w is fine e. hours_same v w is fine (append_cancel_left (field_text (codes "hours")) (line_of (hours_fields v)) (line_of (hours_fields w)) e))

days_one : IsOneWay IsDays (single days_line)
days_one = one_way-line IsDays days_line (λ v w is fine e. days_same v w (append_cancel_left (field_text (codes "days")) (map day_digit v) (map day_digit w) e))

retries_one : IsOneWay IsRetries (single retries_first)
retries_one = one_way-line IsRetries retries_first (λ v w is fine e.
    let same = counted_one v.0 w.0 v.1 w.1 is.0 fine.0 is.1 fine.1 (append_cancel_left (field_text (codes "retries")) (line_of (counted_fields v.0 v.1)) (line_of (counted_fields w.0 w.1)) e) in
    ap (λ (n : ℕ). let r : Retries = (n, v.1) in r) same.0 ∙ ap (λ (z : ℤ). let r : Retries = (w.0, z) in r) same.1)

reapply_one : IsOneWay IsReapply (single reapply_line)
reapply_one = one_way-line IsReapply reapply_line (λ v w is fine e. reapply_same v w is fine (append_cancel_left (field_text (codes "reapply")) (line_of (reapply_fields v)) (line_of (reapply_fields w)) e))

-- the line of the client's time can stand once
abbrev pub Once : List (Unit {0}) → Unit {0} → Type 0
Once before u = before ≡ []

abbrev pub client_first : Unit {0} → List ℕ
client_first u = codes "time client"

abbrev client_list : Bool → List (Unit {0})
client_list true = tt ∷ []
client_list false = []

abbrev client_of : List (Unit {0}) → Bool
client_of [] = false
client_of (u ∷ us) = true

client_once : (client : Bool) → EachCan Once (client_list client)
client_once true = each_more Once [] tt (each_none Once) refl
client_once false = each_none Once

client_flat : (client : Bool) → client_lines client ≡ flat_map (with_first client_first no_tail) (client_list client)
client_flat true = refl
client_flat false = refl

flat_client : (us : List (Unit {0})) → EachCan Once us → flat_map (with_first client_first no_tail) us ≡ client_lines (client_of us)
flat_client [] each = refl
flat_client (u ∷ []) each = refl
flat_client (u ∷ v ∷ us) each = absurd (two (each (u ∷ []) us v refl))
  where
    two : u ∷ [] ≡ [] → ⊥
    two e = cc

takes_client : (old new : LineState) (client : Bool) → TakesExactly (codes "time client") old new client → TakesAll Once client_first old new (client_list client)
takes_client old new true takes = (client_once true, takes, λ u more is e. cc)
takes_client old new false (same, none) =
    let P : LineState → Type 0 = λ s. TakesAll Once client_first old s [] in
    subst P (sym same) (each_none Once, passes_none old, λ u more is e. none more e)

passes_client : (old new : LineState) (client : Bool) → TakesExactly (codes "time client") old new client → Passes old new (client_lines client)
passes_client old new true takes = takes
passes_client old new false (same, none) = let P : LineState → Type 0 = λ s. Passes old s [] in subst P (sym same) (passes_none old)

client_not_hours : (hours : Option Hours) → codes "time client" ≡ hours_line hours → ⊥
client_not_hours hours e = apart 0 116 (codes "time client") (hours_line hours) refl refl e

once_one : OneWayBehind Once (with_first client_first no_tail)
once_one before v w x y is fine e = refl

-- what stands from each line on
abbrev pub FromReapply : Lines → Type 0
FromReapply = AreLinesOf IsReapply (single reapply_line)

abbrev pub FromRetries : Lines → Type 0
FromRetries = Then IsRetries (single retries_first) (λ r. FromReapply)

abbrev pub FromDays : Lines → Type 0
FromDays = Then IsDays (single days_line) (λ d. FromRetries)

abbrev pub FromHours : Lines → Type 0
FromHours = Then IsMaybeHours (single hours_line) (λ h. FromDays)

abbrev pub FromClient : Lines → Type 0
FromClient = Many Once client_first no_tail (λ us. FromHours)

abbrev pub FromUntil : Lines → Type 0
FromUntil = Then IsMaybeMoment (single until_line) (λ u. FromClient)

abbrev pub FromStart : Lines → Type 0
FromStart = Then IsMaybeMoment (single start_line) (λ s. FromUntil)

-- there are such lines
some_reapply : HasSome FromReapply
some_reapply = (reapply_line Never ∷ [], (Never, tt, refl))

some_retries : HasSome FromRetries
some_retries =
    let none : IsRetries (0, pos 0) = search arith in
    let s = some_reapply in (retries_line 0 (pos 0) ∷ s.0, ((0, pos 0), s.0, none, s.1, refl))

no_days : List Bool
no_days = false ∷ false ∷ false ∷ false ∷ false ∷ false ∷ false ∷ []

seven_days : length no_days ≡ 7
unfolding no_days
seven_days = refl

some_days : HasSome FromDays
some_days = let s = some_retries in (days_line no_days ∷ s.0, (no_days, s.0, seven_days, s.1, refl))

some_hours : HasSome FromHours
some_hours = let s = some_days in (hours_line None ∷ s.0, (None, s.0, tt, s.1, refl))

some_client : HasSome FromClient
some_client = let s = some_hours in (s.0, ([], s.0, each_none Once, s.1, refl))

some_until : HasSome FromUntil
some_until = let s = some_client in (until_line None ∷ s.0, (None, s.0, tt, s.1, refl))

foreign : EndsForeign Once client_first (λ us. FromHours)
foreign us rest (hours, tail, is, after, h) before u more can e =
    client_not_hours hours (sym (cons_head (hours_line hours) (codes "time client") tail more (sym h ∙ e)))

-- a line was taken, and what is behind it doesn't go on
pub behind_start : (start : Option ℤ) (old mid new : LineState) → IsMaybeMoment start → Passes old mid (start_line start ∷ []) → IsStuck FromUntil mid new → IsStuck FromStart old new
behind_start start old mid new is passes stuck = stuck_behind IsMaybeMoment (single start_line) (λ s. FromUntil) start old mid new start_one is passes stuck

pub behind_until : (until : Option ℤ) (old mid new : LineState) → IsMaybeMoment until → Passes old mid (until_line until ∷ []) → IsStuck FromClient mid new → IsStuck FromUntil old new
behind_until until old mid new is passes stuck = stuck_behind IsMaybeMoment (single until_line) (λ u. FromClient) until old mid new until_one is passes stuck

pub behind_client : (client : Bool) (old mid new : LineState) → TakesExactly (codes "time client") old mid client → IsStuck FromHours mid new → IsStuck FromClient old new
behind_client client old mid new takes stuck =
    stuck_taken (known Once client_first no_tail (λ us. FromHours) once_one foreign) (client_list client) old mid new (takes_client old mid client takes) stuck

pub behind_hours : (hours : Option Hours) (old mid new : LineState) → IsMaybeHours hours → Passes old mid (hours_line hours ∷ []) → IsStuck FromDays mid new → IsStuck FromHours old new
behind_hours hours old mid new is passes stuck = stuck_behind IsMaybeHours (single hours_line) (λ h. FromDays) hours old mid new hours_one is passes stuck

pub behind_days : (days : List Bool) (old mid new : LineState) → IsDays days → Passes old mid (days_line days ∷ []) → IsStuck FromRetries mid new → IsStuck FromDays old new
behind_days days old mid new is passes stuck = stuck_behind IsDays (single days_line) (λ d. FromRetries) days old mid new days_one is passes stuck

pub behind_retries : (retries : Retries) (old mid new : LineState) → IsRetries retries → Passes old mid (retries_first retries ∷ []) → IsStuck FromReapply mid new → IsStuck FromRetries old new
behind_retries retries old mid new is passes stuck = stuck_behind IsRetries (single retries_first) (λ r. FromReapply) retries old mid new retries_one is passes stuck

-- a line isn't ahead
pub at_start : (old new : LineState) → (new ≡ old) × IsNotAhead IsMaybeMoment start_line old → IsStuck FromStart old new
at_start old new none = stuck_first IsMaybeMoment (single start_line) (λ s. FromUntil) old new start_one (λ v is. some_until) (stuck_line IsMaybeMoment start_line None old new tt none)

pub at_until : (old new : LineState) → (new ≡ old) × IsNotAhead IsMaybeMoment until_line old → IsStuck FromUntil old new
at_until old new none = stuck_first IsMaybeMoment (single until_line) (λ u. FromClient) old new until_one (λ v is. some_client) (stuck_line IsMaybeMoment until_line None old new tt none)

pub at_hours : (old new : LineState) → (new ≡ old) × IsNotAhead IsMaybeHours hours_line old → IsStuck FromHours old new
at_hours old new none = stuck_first IsMaybeHours (single hours_line) (λ h. FromDays) old new hours_one (λ v is. some_days) (stuck_line IsMaybeHours hours_line None old new tt none)

pub at_days : (old new : LineState) → (new ≡ old) × IsNotAhead IsDays days_line old → IsStuck FromDays old new
at_days old new none = stuck_first IsDays (single days_line) (λ d. FromRetries) old new days_one (λ v is. some_retries) (stuck_line IsDays days_line no_days old new seven_days none)

pub at_retries : (old new : LineState) → (new ≡ old) × ((count : ℕ) (wait : ℤ) (more : Lines) → IsCount count → IsWait wait → ¬ (old.lines ≡ retries_line count wait ∷ more)) → IsStuck FromRetries old new
at_retries old new none =
    let zero : IsRetries (0, pos 0) = search arith in
    let nothing : IsNotAhead IsRetries retries_first old = λ v more is e. none.1 v.0 v.1 more is.0 is.1 e in
    stuck_first IsRetries (single retries_first) (λ r. FromReapply) old new retries_one (λ v is. some_reapply) (stuck_line IsRetries retries_first (0, pos 0) old new zero (none.0, nothing))

pub at_reapply : (old new : LineState) → (new ≡ old) × IsNotAhead IsReapply reapply_line old → IsStuck FromReapply old new
at_reapply old new none = stuck_line IsReapply reapply_line Never old new tt none

-- the parts are those of the rules
abbrev pub rules_of : Option ℤ → Option ℤ → Bool → Option Hours → List Bool → ℕ → ℤ → Reapply → Rules
rules_of start until client hours days retries wait reapply =
    record { start = start; until = until; client = client; hours = hours; days = days; retries = retries; wait = wait; reapply = reapply }

there : (lines : Lines) → FromStart lines → AreLinesOf IsRules rules_lines lines
there lines (start, r1, is_start, (until, r2, is_until, (us, r3, once, (hours, r4, is_hours, (days, r5, is_days, (retries, r6, is_retries, (reapply, is_reapply, e7), e6), e5), e4), e3), e2), e1) = (
  rules_of start until (client_of us) hours days retries.0 retries.1 reapply,
  record { start = is_start; until = is_until; hours = is_hours; days = is_days; retries = is_retries.0; wait = is_retries.1; reapply = is_reapply },
  e1 ∙ ap (λ l. start_line start ∷ l) (e2 ∙ ap (λ l. until_line until ∷ l) (e3 ∙ ap (λ l. l ++ r3) (flat_client us once)
      ∙ ap (λ l. client_lines (client_of us) ++ l) (e4 ∙ ap (λ l. hours_line hours ∷ l) (e5 ∙ ap (λ l. days_line days ∷ l) (e6 ∙ ap (λ l. retries_first retries ∷ l) e7))))),
)

back : (lines : Lines) → AreLinesOf IsRules rules_lines lines → FromStart lines
back lines (rules, is, e) =
    let r6 = reapply_line rules.reapply ∷ [] in
    let r5 = retries_line rules.retries rules.wait ∷ r6 in
    let r4 = days_line rules.days ∷ r5 in
    let r3 = hours_line rules.hours ∷ r4 in
    let r2 = flat_map (with_first client_first no_tail) (client_list rules.client) ++ r3 in
    let r1 = until_line rules.until ∷ r2 in (
      rules.start,
      r1,
      is.start,
      (rules.until, r2, is.until, (client_list rules.client, r3, client_once rules.client, (rules.hours, r4, is.hours, (rules.days, r5, is.days, ((rules.retries, rules.wait), r6, (is.retries, is.wait), (rules.reapply, is.reapply, refl), refl), refl), refl), refl), refl),
      e ∙ ap (λ l. start_line rules.start ∷ until_line rules.until ∷ (l ++ r3)) (client_flat rules.client),
    )

pub stuck_rules : (old new : LineState) → IsStuck FromStart old new → IsStuck (AreLinesOf IsRules rules_lines) old new
stuck_rules old new h = stuck_same FromStart (AreLinesOf IsRules rules_lines) old new there back h

-- all lines were taken
pub rules_pass : (rules : Rules) (a b c d e f g h : LineState) → Passes a b (start_line rules.start ∷ []) → Passes b c (until_line rules.until ∷ []) → TakesExactly (codes "time client") c d rules.client →
    Passes d e (hours_line rules.hours ∷ []) → Passes e f (days_line rules.days ∷ []) → Passes f g (retries_line rules.retries rules.wait ∷ []) → Passes g h (reapply_line rules.reapply ∷ []) → Passes a h (rules_lines rules)
rules_pass rules a b c d e f g h p1 p2 p3 p4 p5 p6 p7 =
    let r6 = reapply_line rules.reapply ∷ [] in
    let r5 = retries_line rules.retries rules.wait ∷ r6 in
    let r4 = days_line rules.days ∷ r5 in
    let r3 = hours_line rules.hours ∷ r4 in
    let r2 = client_lines rules.client ++ r3 in
    let r1 = until_line rules.until ∷ r2 in
    passes_then a b h (start_line rules.start ∷ []) r1 p1
    (passes_then b c h (until_line rules.until ∷ []) r2 p2
    (passes_then c d h (client_lines rules.client) r3 (passes_client c d rules.client p3)
    (passes_then d e h (hours_line rules.hours ∷ []) r4 p4
    (passes_then e f h (days_line rules.days ∷ []) r5 p5
    (passes_then f g h (retries_line rules.retries rules.wait ∷ []) r6 p6 p7)))))

-- the rules are known by their lines, whatever follows
client_split : (a b : Bool) (h k : Option Hours) (m n x y : Lines) → (client_lines a ++ hours_line h ∷ m) ++ x ≡ (client_lines b ++ hours_line k ∷ n) ++ y → (a ≡ b) × (hours_line h ∷ (m ++ x) ≡ hours_line k ∷ (n ++ y))
client_split true true h k m n x y e = (refl, cons_tail (codes "time client") (codes "time client") (hours_line h ∷ (m ++ x)) (hours_line k ∷ (n ++ y)) e)
client_split true false h k m n x y e = absurd (client_not_hours k (cons_head (codes "time client") (hours_line k) (hours_line h ∷ (m ++ x)) (n ++ y) e))
client_split false true h k m n x y e = absurd (client_not_hours h (cons_head (codes "time client") (hours_line h) (hours_line k ∷ (n ++ y)) (m ++ x) (sym e)))
client_split false false h k m n x y e = (refl, e)

rules_is : (v w : Rules) → v.start ≡ w.start → v.until ≡ w.until → v.client ≡ w.client → v.hours ≡ w.hours → v.days ≡ w.days → (v.retries ≡ w.retries) × (v.wait ≡ w.wait) → v.reapply ≡ w.reapply → v ≡ w
rules_is v w a b c d e f g =
    ap (λ (x : Option ℤ). rules_of x v.until v.client v.hours v.days v.retries v.wait v.reapply) a
    ∙ ap (λ (x : Option ℤ). rules_of w.start x v.client v.hours v.days v.retries v.wait v.reapply) b
    ∙ ap (λ (x : Bool). rules_of w.start w.until x v.hours v.days v.retries v.wait v.reapply) c
    ∙ ap (λ (x : Option Hours). rules_of w.start w.until w.client x v.days v.retries v.wait v.reapply) d
    ∙ ap (λ (x : List Bool). rules_of w.start w.until w.client w.hours x v.retries v.wait v.reapply) e
    ∙ ap (λ (x : ℕ). rules_of w.start w.until w.client w.hours w.days x v.wait v.reapply) f.0
    ∙ ap (λ (x : ℤ). rules_of w.start w.until w.client w.hours w.days w.retries x v.reapply) f.1
    ∙ ap (λ (x : Reapply). rules_of w.start w.until w.client w.hours w.days w.retries w.wait x) g

pub rules_one : IsOneWay IsRules rules_lines
rules_one v w x y is fine e =
    let start = start_one v.start w.start _ _ is.start fine.start e in
    let e1 = cons_tail (start_line v.start) (start_line w.start) _ _ e in
    let until = until_one v.until w.until _ _ is.until fine.until e1 in
    let e2 = cons_tail (until_line v.until) (until_line w.until) _ _ e1 in
    let split = client_split v.client w.client v.hours w.hours (days_line v.days ∷ retries_line v.retries v.wait ∷ reapply_line v.reapply ∷ []) (days_line w.days ∷ retries_line w.retries w.wait ∷ reapply_line w.reapply ∷ []) x y e2 in
    let hours = hours_one v.hours w.hours _ _ is.hours fine.hours split.1 in
    let e3 = cons_tail (hours_line v.hours) (hours_line w.hours) _ _ split.1 in
    let days = days_one v.days w.days _ _ is.days fine.days e3 in
    let e4 = cons_tail (days_line v.days) (days_line w.days) _ _ e3 in
    let retries = retries_one (v.retries, v.wait) (w.retries, w.wait) _ _ (is.retries, is.wait) (fine.retries, fine.wait) e4 in
    let e5 = cons_tail (retries_line v.retries v.wait) (retries_line w.retries w.wait) _ _ e4 in
    let reapply = reapply_one v.reapply w.reapply _ _ is.reapply fine.reapply e5 in
    rules_is v w start until split.0 hours days (ap (λ (r : Retries). r.0) retries, ap (λ (r : Retries). r.1) retries) reapply

-- there are rules
pub some_rules : (rules : Rules) × IsRules rules
some_rules =
    let zero : IsRetries (0, pos 0) = search arith in
    (rules_of None None false None no_days 0 (pos 0) Never, record { start = tt; until = tt; hours = tt; days = seven_days; retries = zero.0; wait = zero.1; reapply = tt })

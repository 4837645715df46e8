-- The lines of a computer: those of its world, and where they stop.
use Rattle.std.proofs.Common.{ℕ, ◌≡◌, ◌+◌, ◌-◌, ◌^◌, min, List, [], ◌∷◌, ◌++◌, Bool, None, Some, refl, sym, ap, subst, ◌∙◌, arith}
use Rattle.std.specs.Prelude.{codes, Ok}
use Rattle.std.proofs.lemmas.List.{append_cancel_left}
use Rattle.line_forms.specs.BadLines.{AnswersBadLine}
use Rattle.line_forms.specs.LineStates.{LineState}
use Rattle.line_forms.specs.Lines.{lines_text}
use Rattle.line_forms.specs.FieldLists.{fields_of, line_of}
use Rattle.line_forms.specs.Fields.{field_text}
use Rattle.line_forms.specs.Readers.{IsNotAhead, Passes, StopsAt}
use Rattle.line_forms.proofs.Passing.{cons_head, cons_tail, passes_then}
use Rattle.line_forms.proofs.Pieces.{join-pieces}
use Rattle.line_forms.proofs.PlainLemmas.{plain_name}
use Rattle.bf_world.specs.Worlds.{WorldState}
use Rattle.world_text.specs.Texts.{AreNamedLines, Describes, ReadsNamedWorld}
use Rattle.office_text.specs.declared.order.Order.{Order}
use Rattle.office_text.specs.declared.order.Order.TheVariants as order
use Rattle.office_text.specs.declared.text_reader.Last.TheVariants as last
use Rattle.office_text.specs.Orders.{CanFollow}
use Rattle.office_text.specs.OrderLines.{first_fields, first_line, IsBody}
use Rattle.office_text.specs.OrderReadings.{AreNewNames, AreNextLines, computer_line, HaveEnded, IsBadAt, IsInText, IsNewComputer, IsRelay, TakesComputer, TakesField, itself}
use Rattle.office_text.proofs.Fronts.{Lines}
use Rattle.office_text.proofs.BodyLemmas.{world_ends}
use Rattle.office_text.proofs.FieldLemmas.{fields_known, names_again, three_plain}
use Rattle.office_text.proofs.PartLemmas.{IsAgain, in_text, part_bad}
use Rattle.office_text.proofs.Stops.{behind_first}
use Rattle.office_text.proofs.WordLemmas.{of_computer}

-- a computer that can follow
pub computer_can : (before : List Order) (name relay : List ℕ) (world : WorldState) → AreNewNames before (name, relay) → CanFollow before (order.Computer name relay world)
computer_can before name relay world new = record { form = (new.0.0, new.1.0); names = (new.0.1, new.1.1) }

-- and its lines stop where those of its world do
pub computer_stops : (before : List Order) (name relay : List ℕ) (part : Lines) (bad : LineState) → AreNewNames before (name, relay) → StopsAt (AreNamedLines name) part bad → StopsAt (AreNextLines before) (computer_line (name, relay) ∷ part) bad
computer_stops before name relay part bad new stops = behind_first before (computer_line (name, relay)) (AreNamedLines name) part bad there back stops
  where
    there : (o : Order) (body : Lines) → CanFollow before o → IsBody o body → first_line o ≡ computer_line (name, relay) → AreNamedLines name body
    there o body can is e =
        let plain = three_plain (codes "computer") name relay refl (plain_name name new.0.0) (plain_name relay new.1.0) in
        let fields = fields_known o body (codes "computer" ∷ name ∷ relay ∷ []) can.form is (omega arith) plain e in
        let f = of_computer o (name ∷ relay ∷ []) fields in
        let B : Order → Type 0 = λ x. IsBody x body in
        let b = subst B f.3 is in
        let names : codes "computer" ∷ f.0 ∷ f.1 ∷ [] ≡ codes "computer" ∷ name ∷ relay ∷ [] = sym (ap first_fields f.3) ∙ fields in
        (f.2, b.0, b.1 ∙ cons_head f.0 name (f.1 ∷ []) (relay ∷ []) (cons_tail (codes "computer") (codes "computer") (f.0 ∷ f.1 ∷ []) (name ∷ relay ∷ []) names))

    back : (body : Lines) → AreNamedLines name body → (o : Order) × CanFollow before o × IsBody o body × (first_line o ≡ computer_line (name, relay))
    back body (world, d, same) = (order.Computer name relay world, computer_can before name relay world new, (d, same), refl)

-- the first bad line of a computer's world is that of the computer
pub computer_bad : (before : List Order) (name relay : List ℕ) (L : Lines) (old mid new : LineState) (ended : Bool) (n first answer : ℕ) → AreNewNames before (name, relay) → IsInText old → IsAgain L → Passes old mid (computer_line (name, relay) ∷ []) →
    Passes mid new L → HaveEnded last.End new L ended → AnswersBadLine (AreNamedLines name) (lines_text L) n → first ≡ mid.number → answer ≡ min (first + (n - 1)) (2 ^ 32 - 1) → IsBadAt (AreNextLines before) old answer
computer_bad before name relay L old mid new ended n first answer names there again one more have bad first_is answer_is =
    let line = computer_line (name, relay) in
    let stop = part_bad (AreNamedLines name) L mid new ended n first answer (λ lines (w, d, same). world_ends lines w d) (in_text old mid (line ∷ []) there one) again more have bad first_is answer_is in
    (stop.0, line ∷ stop.1, omega arith, passes_then old mid stop.0 (line ∷ []) stop.1 one stop.2, computer_stops before name relay stop.1 stop.0 names stop.3, stop.4)

-- ---- the names on a line, behind its word
abbrev names_line : List ℕ → List ℕ
names_line rest = field_text (codes "computer") ++ rest

-- they are its fields
fields_are : (before : List Order) (state : LineState) (rest : List ℕ) (more : Lines) (names : List ℕ × List ℕ) (left : Lines) → state.lines ≡ names_line rest ∷ more → AreNewNames before names → state.lines ≡ computer_line names ∷ left →
    fields_of rest ≡ names.0 ∷ names.1 ∷ []
fields_are before state rest more names left is new e =
    let same : names_line rest ≡ names_line (line_of (names.0 ∷ names.1 ∷ [])) = cons_head (names_line rest) (computer_line names) more left (sym is ∙ e) in
    ap fields_of (append_cancel_left (field_text (codes "computer")) rest (line_of (names.0 ∷ names.1 ∷ [])) same) ∙ names_again names.0 names.1 new.0.0 new.1.0

pub name_missing : (before : List Order) (state : LineState) (rest : List ℕ) (more fields left : Lines) → state.lines ≡ names_line rest ∷ more → fields ≡ fields_of rest → TakesField (IsNewComputer before) itself fields left None →
    IsNotAhead (AreNewNames before) computer_line state
name_missing before state rest more fields left is fields_is none names behind new e =
    none names.0 (names.1 ∷ []) new.0 (fields_is ∙ fields_are before state rest more names behind is new e)

pub relay_missing : (before : List Order) (state : LineState) (rest name : List ℕ) (more fields mid left : Lines) → state.lines ≡ names_line rest ∷ more → fields ≡ fields_of rest → fields ≡ name ∷ mid → TakesField (IsRelay before) itself mid left None →
    IsNotAhead (AreNewNames before) computer_line state
relay_missing before state rest name more fields mid left is fields_is first none names behind new e =
    none names.1 [] new.1 (cons_tail name names.0 mid (names.1 ∷ []) (sym first ∙ fields_is ∙ fields_are before state rest more names behind is new e))

pub more_names : (before : List Order) (state : LineState) (rest name relay : List ℕ) (more fields mid left : Lines) → state.lines ≡ names_line rest ∷ more → fields ≡ fields_of rest → fields ≡ name ∷ mid → mid ≡ relay ∷ left → (left ≡ [] → ⊥) →
    IsNotAhead (AreNewNames before) computer_line state
more_names before state rest name relay more fields mid left is fields_is first second some names behind new e =
    some (cons_tail relay names.1 left [] (sym second ∙ cons_tail name names.0 mid (names.1 ∷ []) (sym first ∙ fields_is ∙ fields_are before state rest more names behind is new e)))

pub names_are : (state : LineState) (rest name relay : List ℕ) (more fields mid left : Lines) → state.lines ≡ names_line rest ∷ more → fields ≡ fields_of rest → fields ≡ name ∷ mid → mid ≡ relay ∷ left → left ≡ [] → state.lines ≡ computer_line (name, relay) ∷ more
names_are state rest name relay more fields mid left is fields_is first second none =
    let all : fields_of rest ≡ name ∷ relay ∷ [] = sym fields_is ∙ first ∙ ap (λ l. name ∷ l) (second ∙ ap (λ l. relay ∷ l) none) in
    is ∙ ap (λ l. names_line l ∷ more) (sym (join-pieces 32 rest) ∙ ap line_of all)

-- ---- a computer with its world
pub computer_read : (before : List Order) (name relay own_name own_relay : List ℕ) (world : WorldState) (L : Lines) (text : List ℕ) (old mid new : LineState) → AreNewNames before (name, relay) → IsAgain L → Passes old mid (computer_line (name, relay) ∷ []) →
    Passes mid new L → text ≡ lines_text L → ReadsNamedWorld name text (Ok world) → own_name ≡ name → own_relay ≡ relay → TakesComputer before old new (Ok (Some (order.Computer own_name own_relay world)))
computer_read before name relay own_name own_relay world L text old mid new names again one more text_is read name_is relay_is =
    let T : List ℕ → Type 0 = λ t. ReadsNamedWorld name t (Ok world) in
    let D : Lines → Type 0 = λ l. Describes l world in
    let R : List ℕ → List ℕ → Type 0 = λ n r. TakesComputer before old new (Ok (Some (order.Computer n r world))) in
    let named = subst T text_is read in
    let described : Describes L world = subst D again.lines_are named.0.1 in
    let taken : R name relay = (L, computer_can before name relay world names, (described, named.1), passes_then old mid new (computer_line (name, relay) ∷ []) L one more) in
    subst (λ n. R n own_relay) (sym name_is) (subst (λ r. R name r) (sym relay_is) taken)

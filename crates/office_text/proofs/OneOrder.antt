-- The lines of orders are those of one list of orders.
use Rattle.std.proofs.Common.{ℕ, ◌≡◌, List, [], ◌∷◌, ◌++◌, sym, ap, subst, ◌∙◌}
use Rattle.std.specs.Prelude.{codes, decimal}
use Rattle.std.specs.Fmt.{signed_decimal}
use Rattle.line_forms.specs.Lines.{lines_text}
use Rattle.line_forms.proofs.Passing.{cons_head, cons_tail}
use Rattle.line_forms.proofs.PlainLemmas.{id_one, moment_one}
use Rattle.bf_world.specs.Worlds.{WorldState}
use Rattle.world_text.proofs.StopLemmas.{describes_one}
use Rattle.world_text.specs.Texts.{Describes}
use Rattle.group_text.specs.declared.analysis.Analysis.{Analysis}
use Rattle.group_text.specs.declared.group.Group.{Group}
use Rattle.group_text.specs.Analyses.{IsAnalysis}
use Rattle.group_text.specs.Groups.{IsGroup, group_line}
use Rattle.group_text.proofs.AnalysisParts.{analysis_known}
use Rattle.group_text.proofs.GroupParts.{group_known}
use Rattle.office_text.specs.declared.order.Order.{Order}
use Rattle.office_text.specs.declared.order.Order.TheVariants as order
use Rattle.office_text.specs.Orders.{IsOrder}
use Rattle.office_text.specs.OrderLines.{first_fields, first_line, AreTextTo, HoldContent, IsBody, IsEnd, IsSiteEnd}
use Rattle.office_text.proofs.Fronts.{Lines, ends_same}
use Rattle.office_text.proofs.BodyLemmas.{analysis_ends_at, content_ends, contents_one, group_ends_at, world_ends}
use Rattle.office_text.proofs.FieldLemmas.{first_one, number_one}
use Rattle.office_text.proofs.WordLemmas as word

-- the second and the third field
second : (a b x y : List ℕ) (more rest : Lines) → a ∷ x ∷ more ≡ b ∷ y ∷ rest → x ≡ y
second a b x y more rest e = cons_head x y more rest (cons_tail a b (x ∷ more) (y ∷ rest) e)

third : (a b c d x y : List ℕ) (more rest : Lines) → a ∷ c ∷ x ∷ more ≡ b ∷ d ∷ y ∷ rest → x ≡ y
third a b c d x y more rest e = cons_head x y more rest (cons_tail c d (x ∷ more) (y ∷ rest) (cons_tail a b (c ∷ x ∷ more) (d ∷ y ∷ rest) e))

-- the two orders are one, and so are their bodies
abbrev pub IsSame : Order → Order → Lines → Lines → Type 0
IsSame a b x y = (b ≡ a) × (y ≡ x)

text_one : (L : List ℕ → Type 0) (t u : List ℕ) (x y p q : Lines) → AreTextTo L t x → AreTextTo L u y → x ++ p ≡ y ++ q → (u ≡ t) × (y ≡ x)
text_one L t u x y p q h k e =
    let same = ends_same L x y p q h.0 k.0 e in
    (k.1 ∙ ap lines_text same ∙ sym h.1, same)

file_one : (t u : List ℕ) (x y p q : Lines) → HoldContent t x → HoldContent u y → x ++ p ≡ y ++ q → (u ≡ t) × (y ≡ x)
file_one t u x y p q h k e =
    let same = ends_same IsEnd x y p q (content_ends t x h) (content_ends u y k) e in
    let contents = contents_one h.0 k.0 (sym h.3 ∙ sym same ∙ k.3) in
    (k.2 ∙ ap lines_text contents ∙ sym h.2, same)

world_one : (v w : WorldState) (x y p q : Lines) → Describes x v → Describes y w → x ++ p ≡ y ++ q → (w ≡ v) × (y ≡ x)
world_one v w x y p q h k e =
    let same = ends_same IsEnd x y p q (world_ends x v h) (world_ends y w k) e in
    let D : Lines → Type 0 = λ l. Describes l w in
    (describes_one x v w h (subst D same k), same)

analysis_one : (a b : Analysis) (x y p q : Lines) → IsAnalysis a (codes "analysis" ∷ x) → IsAnalysis b (codes "analysis" ∷ y) → x ++ p ≡ y ++ q → (b ≡ a) × (y ≡ x)
analysis_one a b x y p q h k e =
    let first = codes "analysis" in
    let all : (first ∷ x) ++ p ≡ (first ∷ y) ++ q = ap (λ l. first ∷ l) e in
    let same = ends_same IsEnd (first ∷ x) (first ∷ y) p q (analysis_ends_at (first ∷ x) a h) (analysis_ends_at (first ∷ y) b k) all in
    (sym (analysis_known a b (first ∷ x) (first ∷ y) p q h k all).0, cons_tail first first y x same)

group_one : (a b : Group) (x y p q : Lines) → a.name ≡ b.name → IsGroup a (group_line a.name ∷ x) → IsGroup b (group_line b.name ∷ y) → x ++ p ≡ y ++ q → (b ≡ a) × (y ≡ x)
group_one a b x y p q names h k e =
    let all : (group_line a.name ∷ x) ++ p ≡ (group_line b.name ∷ y) ++ q = ap (λ n. group_line n ∷ (x ++ p)) names ∙ ap (λ l. group_line b.name ∷ l) e in
    let same = ends_same IsEnd (group_line a.name ∷ x) (group_line b.name ∷ y) p q (group_ends_at (group_line a.name ∷ x) a h) (group_ends_at (group_line b.name ∷ y) b k) all in
    (sym (group_known a b (group_line a.name ∷ x) (group_line b.name ∷ y) p q h k all).0, cons_tail (group_line b.name) (group_line a.name) y x same)

-- a pair of orders with the same first fields, and bodies that begin the same lines
one : (a b : Order) (x y p q : Lines) → IsOrder a → IsOrder b → first_fields a ≡ first_fields b → IsBody a x → IsBody b y → x ++ p ≡ y ++ q → IsSame a b x y
one (order.Publish t) b x y p q is also e h k g =
    let f = word.of_publish b [] (sym e) in
    let B : Order → Type 0 = λ o. IsBody o y in
    let r = text_one IsSiteEnd t f.0 x y p q h (subst B f.1 k) g in
    (f.1 ∙ ap order.Publish r.0, r.1)
one (order.Act t) b x y p q is also e h k g =
    let f = word.of_act b [] (sym e) in
    let B : Order → Type 0 = λ o. IsBody o y in
    let r = text_one IsEnd t f.0 x y p q h (subst B f.1 k) g in
    (f.1 ∙ ap order.Act r.0, r.1)
one (order.File t) b x y p q is also e h k g =
    let f = word.of_file b [] (sym e) in
    let B : Order → Type 0 = λ o. IsBody o y in
    let r = file_one t f.0 x y p q h (subst B f.1 k) g in
    (f.1 ∙ ap order.File r.0, r.1)
one (order.Computer name relay world) b x y p q is also e h k g =
    let f = word.of_computer b (name ∷ relay ∷ []) (sym e) in
    let B : Order → Type 0 = λ o. IsBody o y in
    let same : codes "computer" ∷ name ∷ relay ∷ [] ≡ codes "computer" ∷ f.0 ∷ f.1 ∷ [] = e ∙ ap first_fields f.3 in
    let body = subst B f.3 k in
    let r = world_one world f.2 x y p q h.0 body.0 g in
    let names : f.0 ≡ name = sym (second _ _ _ _ _ _ same) in
    let relays : f.1 ≡ relay = sym (third _ _ _ _ _ _ _ _ same) in
    (f.3 ∙ ap (λ n. order.Computer n f.1 f.2) names ∙ ap (λ n. order.Computer name n f.2) relays ∙ ap (order.Computer name relay) r.0, r.1)
one (order.Stop id) b x y p q is also e h k g =
    let f = word.of_stop b (decimal id ∷ []) (sym e) in
    let B : Order → Type 0 = λ o. IsBody o y in
    let I : Order → Type 0 = IsOrder in
    let same : codes "stop" ∷ decimal id ∷ [] ≡ codes "stop" ∷ decimal f.0 ∷ [] = e ∙ ap first_fields f.1 in
    (f.1 ∙ ap order.Stop (sym (id_one id f.0 is (subst I f.1 also) (second _ _ _ _ _ _ same))), let body : y ≡ [] = subst B f.1 k in body ∙ sym h)
one (order.Relay name) b x y p q is also e h k g =
    let f = word.of_relay b (name ∷ []) (sym e) in
    let B : Order → Type 0 = λ o. IsBody o y in
    let same : codes "relay" ∷ name ∷ [] ≡ codes "relay" ∷ f.0 ∷ [] = e ∙ ap first_fields f.1 in
    (f.1 ∙ ap order.Relay (sym (second _ _ _ _ _ _ same)), let body : y ≡ [] = subst B f.1 k in body ∙ sym h)
one (order.Gather name) b x y p q is also e h k g =
    let f = word.of_gather b (name ∷ []) (sym e) in
    let B : Order → Type 0 = λ o. IsBody o y in
    let same : codes "gather" ∷ name ∷ [] ≡ codes "gather" ∷ f.0 ∷ [] = e ∙ ap first_fields f.1 in
    (f.1 ∙ ap order.Gather (sym (second _ _ _ _ _ _ same)), let body : y ≡ [] = subst B f.1 k in body ∙ sym h)
one (order.Turn name moment) b x y p q is also e h k g =
    let f = word.of_turn b (name ∷ signed_decimal moment ∷ []) (sym e) in
    let B : Order → Type 0 = λ o. IsBody o y in
    let I : Order → Type 0 = IsOrder in
    let same : codes "turn" ∷ name ∷ signed_decimal moment ∷ [] ≡ codes "turn" ∷ f.0 ∷ signed_decimal f.1 ∷ [] = e ∙ ap first_fields f.2 in
    let form = subst I f.2 also in
    let names : f.0 ≡ name = sym (second _ _ _ _ _ _ same) in
    let moments : f.1 ≡ moment = sym (moment_one moment f.1 is.1 form.1 (third _ _ _ _ _ _ _ _ same)) in
    (f.2 ∙ ap (λ n. order.Turn n f.1) names ∙ ap (order.Turn name) moments, let body : y ≡ [] = subst B f.2 k in body ∙ sym h)
one (order.Restart name) b x y p q is also e h k g =
    let f = word.of_restart b (name ∷ []) (sym e) in
    let B : Order → Type 0 = λ o. IsBody o y in
    let same : codes "restart" ∷ name ∷ [] ≡ codes "restart" ∷ f.0 ∷ [] = e ∙ ap first_fields f.1 in
    (f.1 ∙ ap order.Restart (sym (second _ _ _ _ _ _ same)), let body : y ≡ [] = subst B f.1 k in body ∙ sym h)
one (order.Send name seq) b x y p q is also e h k g =
    let f = word.of_send b (name ∷ decimal seq ∷ []) (sym e) in
    let B : Order → Type 0 = λ o. IsBody o y in
    let I : Order → Type 0 = IsOrder in
    let same : codes "send" ∷ name ∷ decimal seq ∷ [] ≡ codes "send" ∷ f.0 ∷ decimal f.1 ∷ [] = e ∙ ap first_fields f.2 in
    let form = subst I f.2 also in
    let names : f.0 ≡ name = sym (second _ _ _ _ _ _ same) in
    let seqs : f.1 ≡ seq = sym (number_one seq f.1 is.1 form.1 (third _ _ _ _ _ _ _ _ same)) in
    (f.2 ∙ ap (λ n. order.Send n f.1) names ∙ ap (order.Send name) seqs, let body : y ≡ [] = subst B f.2 k in body ∙ sym h)
one (order.Push name) b x y p q is also e h k g =
    let f = word.of_push b (name ∷ []) (sym e) in
    let B : Order → Type 0 = λ o. IsBody o y in
    let same : codes "push" ∷ name ∷ [] ≡ codes "push" ∷ f.0 ∷ [] = e ∙ ap first_fields f.1 in
    (f.1 ∙ ap order.Push (sym (second _ _ _ _ _ _ same)), let body : y ≡ [] = subst B f.1 k in body ∙ sym h)
one (order.Deliver message) b x y p q is also e h k g =
    let f = word.of_deliver b (decimal message ∷ []) (sym e) in
    let B : Order → Type 0 = λ o. IsBody o y in
    let I : Order → Type 0 = IsOrder in
    let same : codes "deliver" ∷ decimal message ∷ [] ≡ codes "deliver" ∷ decimal f.0 ∷ [] = e ∙ ap first_fields f.1 in
    (f.1 ∙ ap order.Deliver (sym (number_one message f.0 is (subst I f.1 also) (second _ _ _ _ _ _ same))), let body : y ≡ [] = subst B f.1 k in body ∙ sym h)
one (order.Report name) b x y p q is also e h k g =
    let f = word.of_report b (name ∷ []) (sym e) in
    let B : Order → Type 0 = λ o. IsBody o y in
    let same : codes "report" ∷ name ∷ [] ≡ codes "report" ∷ f.0 ∷ [] = e ∙ ap first_fields f.1 in
    (f.1 ∙ ap order.Report (sym (second _ _ _ _ _ _ same)), let body : y ≡ [] = subst B f.1 k in body ∙ sym h)
one (order.Forward name) b x y p q is also e h k g =
    let f = word.of_forward b (name ∷ []) (sym e) in
    let B : Order → Type 0 = λ o. IsBody o y in
    let same : codes "forward" ∷ name ∷ [] ≡ codes "forward" ∷ f.0 ∷ [] = e ∙ ap first_fields f.1 in
    (f.1 ∙ ap order.Forward (sym (second _ _ _ _ _ _ same)), let body : y ≡ [] = subst B f.1 k in body ∙ sym h)
one (order.Forget name) b x y p q is also e h k g =
    let f = word.of_forget b (name ∷ []) (sym e) in
    let B : Order → Type 0 = λ o. IsBody o y in
    let same : codes "forget" ∷ name ∷ [] ≡ codes "forget" ∷ f.0 ∷ [] = e ∙ ap first_fields f.1 in
    (f.1 ∙ ap order.Forget (sym (second _ _ _ _ _ _ same)), let body : y ≡ [] = subst B f.1 k in body ∙ sym h)
one (order.Analysis a) b x y p q is also e h k g =
    let f = word.of_analysis b [] (sym e) in
    let B : Order → Type 0 = λ o. IsBody o y in
    let r = analysis_one a f.0 x y p q h (subst B f.1 k) g in
    (f.1 ∙ ap order.Analysis r.0, r.1)
one (order.Group a) b x y p q is also e h k g =
    let f = word.of_group b (a.name ∷ []) (sym e) in
    let B : Order → Type 0 = λ o. IsBody o y in
    let same : codes "group" ∷ a.name ∷ [] ≡ codes "group" ∷ f.0.name ∷ [] = e ∙ ap first_fields f.1 in
    let r = group_one a f.0 x y p q (second _ _ _ _ _ _ same) h (subst B f.1 k) g in
    (f.1 ∙ ap order.Group r.0, r.1)
one (order.Measure name moment) b x y p q is also e h k g =
    let f = word.of_measure b (name ∷ signed_decimal moment ∷ []) (sym e) in
    let B : Order → Type 0 = λ o. IsBody o y in
    let I : Order → Type 0 = IsOrder in
    let same : codes "measure" ∷ name ∷ signed_decimal moment ∷ [] ≡ codes "measure" ∷ f.0 ∷ signed_decimal f.1 ∷ [] = e ∙ ap first_fields f.2 in
    let form = subst I f.2 also in
    let names : f.0 ≡ name = sym (second _ _ _ _ _ _ same) in
    let moments : f.1 ≡ moment = sym (moment_one moment f.1 is.1 form.1 (third _ _ _ _ _ _ _ _ same)) in
    (f.2 ∙ ap (λ n. order.Measure n f.1) names ∙ ap (order.Measure name) moments, let body : y ≡ [] = subst B f.2 k in body ∙ sym h)
one (order.Members name) b x y p q is also e h k g =
    let f = word.of_members b (name ∷ []) (sym e) in
    let B : Order → Type 0 = λ o. IsBody o y in
    let same : codes "members" ∷ name ∷ [] ≡ codes "members" ∷ f.0 ∷ [] = e ∙ ap first_fields f.1 in
    (f.1 ∙ ap order.Members (sym (second _ _ _ _ _ _ same)), let body : y ≡ [] = subst B f.1 k in body ∙ sym h)
one (order.Target name text) b x y p q is also e h k g =
    let f = word.of_target b (name ∷ []) (sym e) in
    let B : Order → Type 0 = λ o. IsBody o y in
    let same : codes "target" ∷ name ∷ [] ≡ codes "target" ∷ f.0 ∷ [] = e ∙ ap first_fields f.2 in
    let r = text_one IsEnd text f.1 x y p q h.0 (subst B f.2 k).0 g in
    (f.2 ∙ ap (λ n. order.Target n f.1) (sym (second _ _ _ _ _ _ same)) ∙ ap (order.Target name) r.0, r.1)

pub order_one : (a b : Order) (x y p q : Lines) → IsOrder a → IsOrder b → first_line a ≡ first_line b → IsBody a x → IsBody b y → x ++ p ≡ y ++ q → IsSame a b x y
order_one a b x y p q is also e h k g = one a b x y p q is also (first_one a b x y is also h k e) h k g

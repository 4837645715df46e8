-- An analysis or a group in an office: its lines are its text, with the first of them.
use Rattle.std.proofs.Common.{ℕ, ◌≡◌, ◌+◌, ◌-◌, ◌^◌, min, List, [], ◌∷◌, ◌++◌, map, Bool, Some, Ok, Err, refl, sym, ap, subst, ◌∙◌, arith}
use Rattle.std.specs.Prelude.{codes}
use Rattle.std.proofs.lemmas.List.{append_cancel_left}
use Rattle.line_forms.specs.BadLines.{AnswersBadLine, Begins}
use Rattle.line_forms.specs.Fields.{field_text}
use Rattle.line_forms.specs.LineStates.{LineState, lines_of}
use Rattle.line_forms.specs.Lines.{lines_text}
use Rattle.line_forms.specs.Names.{IsName}
use Rattle.line_forms.specs.Readers.{Passes, StopsAt}
use Rattle.line_forms.proofs.Passing.{cons_head, cons_tail}
use Rattle.line_forms.proofs.PlainLemmas.{plain_name}
use Rattle.group_text.specs.declared.group.Group.{Group}
use Rattle.group_text.specs.declared.error.GroupError.{GroupError}
use Rattle.group_text.specs.declared.error.GroupError.TheVariants as refused
use Rattle.group_text.specs.Analyses.{AreAnalysisLines, IsAnalysis, ReadsAnalysis}
use Rattle.group_text.specs.Groups.{AreGroupLines, IsGroup, ReadsGroup, group_line, match_line}
use Rattle.group_text.specs.Properties.{property_line}
use Rattle.group_text.specs.Tests.{test_line}
use Rattle.group_text.proofs.AnalysisParts.{properties_good}
use Rattle.office_text.specs.declared.book_reader.Entry.{Entry}
use Rattle.office_text.specs.declared.book_reader.Entry.TheVariants as entry
use Rattle.office_text.specs.declared.order.Order.{Order}
use Rattle.office_text.specs.declared.order.Order.TheVariants as order
use Rattle.office_text.specs.declared.text_reader.Last.TheVariants as last
use Rattle.office_text.specs.Orders.{CanFollow}
use Rattle.office_text.specs.OrderLines.{first_fields, first_line, IsBody}
use Rattle.office_text.specs.OrderReadings.{AreEntryLines, AreNextLines, HaveEnded, IsBadAt, IsEntryOf, IsFirstLine, IsInText, ReadsEntry, TakesEntry}
use Rattle.office_text.proofs.Fronts.{Lines}
use Rattle.office_text.proofs.BodyLemmas.{analysis_ends_at, group_ends_at}
use Rattle.office_text.proofs.FieldLemmas.{fields_known, one_plain, two_plain}
use Rattle.office_text.proofs.PartLemmas.{EndOnce, IsAgain, StopsOn, part_bad}
use Rattle.office_text.proofs.Stops.{behind_first}
use Rattle.office_text.proofs.WordLemmas.{of_analysis, of_group}

-- ---- where the lines of an entry stop
-- lines of such a set begin with the line that is ahead, and stop behind it
abbrev StopsBehind : (Lines → Type 0) → List ℕ → LineState → ℕ → Type 0
StopsBehind Are first old number = (bad : LineState) × (part : Lines) × Passes old bad (first ∷ part) × StopsAt (λ body. Are (first ∷ body)) part bad × (number ≡ bad.number)

behind_one : (Are : Lines → Type 0) (first : List ℕ) (more : Lines) (old : LineState) (number : ℕ) → old.lines ≡ first ∷ more → (Begins Are [] → Begins Are (first ∷ [])) → StopsOn Are old number → StopsBehind Are first old number
behind_one Are first more old number ahead some (bad, [], passes, stops, is) = absurd (stops.ahead first more (sym passes.0 ∙ ahead) (some stops.begins))
behind_one Are first more old number ahead some (bad, line ∷ part, passes, stops, is) =
    let same : line ≡ first = cons_head line first (part ++ bad.lines) more (sym passes.0 ∙ ahead) in
    let P : List ℕ → Type 0 = λ l. Passes old bad (l ∷ part) in
    let S : List ℕ → Type 0 = λ l. StopsAt Are (l ∷ part) bad in
    let stop = subst S same stops in
    (bad, part, subst P same passes, record { begins = stop.begins; unfinished = stop.unfinished; ahead = stop.ahead }, is)

-- where there is some entry, one begins with this line
begins_one : (sort : Entry) (line : List ℕ) → IsFirstLine sort line → Begins (AreEntryLines sort) [] → Begins (AreEntryLines sort) (line ∷ [])
begins_one entry.Analysis line first (lines, (a, is)) =
    let rest : Lines = map property_line a.properties ++ codes "end" ∷ [] in
    let A : Lines → Type 0 = AreAnalysisLines in
    (rest, subst A (is.lines_are ∙ ap (λ l. l ∷ rest) (sym first)) (a, is))
begins_one entry.Group line (name, good, first) (lines, (g, is)) =
    let rest : Lines = match_line g.any ∷ map test_line g.tests ++ codes "end" ∷ [] in
    let named : Group = record { name = name; any = g.any; tests = g.tests } in
    (rest, (named, record { name = good; each = is.each; some = is.some; lines_are = ap (λ l. l ∷ rest) first }))

entry_ends : (sort : Entry) → EndOnce (AreEntryLines sort)
entry_ends entry.Analysis lines (a, is) = analysis_ends_at lines a is
entry_ends entry.Group lines (g, is) = group_ends_at lines g is

analysis_stops : (before : List Order) (part : Lines) (bad : LineState) → StopsAt (λ body. AreAnalysisLines (codes "analysis" ∷ body)) part bad → StopsAt (AreNextLines before) (codes "analysis" ∷ part) bad
analysis_stops before part bad stops = behind_first before (codes "analysis") (λ body. AreAnalysisLines (codes "analysis" ∷ body)) part bad there back stops
  where
    there : (o : Order) (body : Lines) → CanFollow before o → IsBody o body → first_line o ≡ codes "analysis" → AreAnalysisLines (codes "analysis" ∷ body)
    there o body can is e =
        let fields = fields_known o body (codes "analysis" ∷ []) can.form is (omega arith) (one_plain (codes "analysis") refl) e in
        let f = of_analysis o [] fields in
        let B : Order → Type 0 = λ x. IsBody x body in
        (f.0, subst B f.1 is)

    back : (body : Lines) → AreAnalysisLines (codes "analysis" ∷ body) → (o : Order) × CanFollow before o × IsBody o body × (first_line o ≡ codes "analysis")
    back body (a, is) = (order.Analysis a, record { form = properties_good a.properties is.each; names = tt }, is, refl)

group_stops : (before : List Order) (name : List ℕ) (part : Lines) (bad : LineState) → IsName name → StopsAt (λ body. AreGroupLines (group_line name ∷ body)) part bad → StopsAt (AreNextLines before) (group_line name ∷ part) bad
group_stops before name part bad good stops = behind_first before (group_line name) (λ body. AreGroupLines (group_line name ∷ body)) part bad there back stops
  where
    there : (o : Order) (body : Lines) → CanFollow before o → IsBody o body → first_line o ≡ group_line name → AreGroupLines (group_line name ∷ body)
    there o body can is e =
        let fields = fields_known o body (codes "group" ∷ name ∷ []) can.form is (omega arith) (two_plain (codes "group") name refl (plain_name name good)) e in
        let f = of_group o (name ∷ []) fields in
        let B : Order → Type 0 = λ x. IsBody x body in
        let G : List ℕ → Type 0 = λ n. IsGroup f.0 (group_line n ∷ body) in
        let names : codes "group" ∷ f.0.name ∷ [] ≡ codes "group" ∷ name ∷ [] = sym (ap first_fields f.1) ∙ fields in
        (f.0, subst G (cons_head f.0.name name [] [] (cons_tail (codes "group") (codes "group") (f.0.name ∷ []) (name ∷ []) names)) (subst B f.1 is))

    back : (body : Lines) → AreGroupLines (group_line name ∷ body) → (o : Order) × CanFollow before o × IsBody o body × (first_line o ≡ group_line name)
    back body (g, is) =
        let same : name ≡ g.name = append_cancel_left (field_text (codes "group")) name g.name (cons_head (group_line name) (group_line g.name) body _ is.lines_are) in
        let G : List ℕ → Type 0 = λ n. IsGroup g (group_line n ∷ body) in
        (order.Group g, record { form = tt; names = tt }, subst G same is, ap group_line (sym same))

entry_stops : (before : List Order) (sort : Entry) (line : List ℕ) (part : Lines) (bad : LineState) → IsFirstLine sort line → StopsAt (λ body. AreEntryLines sort (line ∷ body)) part bad → StopsAt (AreNextLines before) (line ∷ part) bad
entry_stops before entry.Analysis line part bad first stops =
    let S : List ℕ → Type 0 = λ l. StopsAt (λ body. AreAnalysisLines (l ∷ body)) part bad in
    let N : List ℕ → Type 0 = λ l. StopsAt (AreNextLines before) (l ∷ part) bad in
    subst N (sym first) (analysis_stops before part bad (subst S first stops))
entry_stops before entry.Group line part bad (name, good, first) stops =
    let S : List ℕ → Type 0 = λ l. StopsAt (λ body. AreGroupLines (l ∷ body)) part bad in
    let N : List ℕ → Type 0 = λ l. StopsAt (AreNextLines before) (l ∷ part) bad in
    subst N (sym first) (group_stops before name part bad good (subst S first stops))

-- the first bad line of an entry's text is that of the entry
pub entry_bad : (before : List Order) (sort : Entry) (line : List ℕ) (L more : Lines) (old new : LineState) (ended : Bool) (n first answer : ℕ) → IsFirstLine sort line → old.lines ≡ line ∷ more → IsInText old → IsAgain L → Passes old new L →
    HaveEnded last.End new L ended → AnswersBadLine (AreEntryLines sort) (lines_text L) n → first ≡ old.number → answer ≡ min (first + (n - 1)) (2 ^ 32 - 1) → IsBadAt (AreNextLines before) old answer
entry_bad before sort line L more old new ended n first answer begins ahead there again passes have bad first_is answer_is =
    let on = part_bad (AreEntryLines sort) L old new ended n first answer (entry_ends sort) there again passes have bad first_is answer_is in
    let stop = behind_one (AreEntryLines sort) line more old answer ahead (begins_one sort line begins) on in
    (stop.0, line ∷ stop.1, omega arith, stop.2, entry_stops before sort line stop.1 stop.0 begins stop.3, stop.4)

-- ---- an entry that was read
pub entry_read : (before : List Order) (sort : Entry) (o : Order) (L : Lines) (text : List ℕ) (old new : LineState) → IsAgain L → Passes old new L → text ≡ lines_text L → IsEntryOf sort o (lines_of text) → TakesEntry before old new (Ok (Some o))
entry_read before entry.Analysis (order.Analysis a) L text old new again passes text_is is =
    let D : Lines → Type 0 = IsAnalysis a in
    let P : Lines → Type 0 = Passes old new in
    let here : IsAnalysis a L = subst D (ap lines_of text_is ∙ again.lines_are) is.0 in
    (map property_line a.properties ++ codes "end" ∷ [], record { form = is.1; names = tt }, subst D here.lines_are here, subst P here.lines_are passes)
entry_read before entry.Group (order.Group g) L text old new again passes text_is is =
    let D : Lines → Type 0 = IsGroup g in
    let P : Lines → Type 0 = Passes old new in
    let here : IsGroup g L = subst D (ap lines_of text_is ∙ again.lines_are) is in
    (match_line g.any ∷ map test_line g.tests ++ codes "end" ∷ [], record { form = tt; names = tt }, subst D here.lines_are here, subst P here.lines_are passes)
entry_read before sort other L text old new again passes text_is is = absurd is

-- ---- an answer of the reader of an analysis, or of a group, which is handed on
pub refused_analysis : (text : List ℕ) (e : GroupError) → ReadsAnalysis text (Err e) → ReadsEntry entry.Analysis text (Err e)
refused_analysis text (refused.BadAnalysis line) h = h
refused_analysis text (refused.BadGroup line) h = absurd h
refused_analysis text refused.Memory h = tt

pub refused_group : (text : List ℕ) (e : GroupError) → ReadsGroup text (Err e) → ReadsEntry entry.Group text (Err e)
refused_group text (refused.BadAnalysis line) h = absurd h
refused_group text (refused.BadGroup line) h = h
refused_group text refused.Memory h = tt

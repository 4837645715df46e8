use Rattle.std.proofs.Common.{◌≡◌, ◌<◌, ℕ, List, Ok, length, arith, sym, subst}
use Rattle.std.proofs.lemmas.Bool.{iff_false}
use Rattle.std.proofs.lemmas.Bool.Decides.{nat_tests}
use Rattle.std.proofs.lemmas.List.{nil_from_length}
use Rattle.line_forms.specs.BadLines.{AnswersBadLine}
use Rattle.line_forms.proofs.Parts.{not_taken, was_taken}
use Rattle.group_text.specs.declared.property.Property.{Property}
use Rattle.group_text.specs.Analyses.{AreAnalysisLines, ReadsAnalysis}
use Rattle.group_text.specs.Properties.{AreProperties}
use Rattle.group_text.proofs.AnalysisParts.{analysis_line, analysis_of, end_line, properties_good}
use Rattle.group_text.proofs.AnalysisReading.{bad_first, bad_property, bad_end, bad_more, reads_whole}
use Rattle.group_text.proofs.analysis_reader.read_analysis.Goals as goal

pub returns-then-not-take_exactly-clause-reads : goal.returns-then-not-take_exactly-clause-reads
returns-then-not-take_exactly-clause-reads c =
    let B : ℕ → Type 0 = AnswersBadLine AreAnalysisLines c.args.text.now in
    subst B (sym c.number.ensures)
    (bad_first c.args.text.now c.new-lines.result c.take_exactly.new.self c.new-lines.ensures
    (not_taken analysis_line c.new-lines.result c.take_exactly.new.self c.take_exactly.result c.take_exactly.ensures c.if-not-take_exactly.true))

pub returns-then-is_empty-clause-reads : goal.returns-then-is_empty-clause-reads
returns-then-is_empty-clause-reads c =
    let B : ℕ → Type 0 = AnswersBadLine AreAnalysisLines c.args.text.now in
    let zero : length c.in_ok-properties.properties.items ≡ 0 = search (arith, nat_tests) in
    subst B (sym c.number-then-is_empty.ensures)
    (bad_property c.args.text.now c.new-lines.result c.take_exactly.new.self c.take_properties.new.lines c.in_ok-properties.properties.items c.new-lines.ensures
    (was_taken analysis_line c.new-lines.result c.take_exactly.new.self c.take_exactly.result c.take_exactly.ensures c.if-not-take_exactly.false)
    c.in_ok-properties.ensures (nil_from_length c.in_ok-properties.properties.items zero))

pub returns-then-not-take_exactly-2-clause-reads : goal.returns-then-not-take_exactly-2-clause-reads
returns-then-not-take_exactly-2-clause-reads c =
    let B : ℕ → Type 0 = AnswersBadLine AreAnalysisLines c.args.text.now in
    let some : 0 < length c.in_ok-properties.properties.items = search (arith, nat_tests) in
    subst B (sym c.number-then-not-take_exactly-2.ensures)
    (bad_end c.args.text.now c.new-lines.result c.take_exactly.new.self c.take_properties.new.lines c.take_exactly-2.new.self c.in_ok-properties.properties.items c.new-lines.ensures
    (was_taken analysis_line c.new-lines.result c.take_exactly.new.self c.take_exactly.result c.take_exactly.ensures c.if-not-take_exactly.false)
    c.in_ok-properties.ensures some (not_taken end_line c.take_properties.new.lines c.take_exactly-2.new.self c.take_exactly-2.result c.take_exactly-2.ensures c.if-not-take_exactly-2.true))

pub returns-then-not-is_over-clause-reads : goal.returns-then-not-is_over-clause-reads
returns-then-not-is_over-clause-reads c =
    let B : ℕ → Type 0 = AnswersBadLine AreAnalysisLines c.args.text.now in
    let some : 0 < length c.in_ok-properties.properties.items = search (arith, nat_tests) in
    subst B (sym c.number-then-not-is_over.ensures)
    (bad_more c.args.text.now c.new-lines.result c.take_exactly.new.self c.take_properties.new.lines c.take_exactly-2.new.self c.in_ok-properties.properties.items c.new-lines.ensures
    (was_taken analysis_line c.new-lines.result c.take_exactly.new.self c.take_exactly.result c.take_exactly.ensures c.if-not-take_exactly.false)
    c.in_ok-properties.ensures some (was_taken end_line c.take_properties.new.lines c.take_exactly-2.new.self c.take_exactly-2.result c.take_exactly-2.ensures c.if-not-take_exactly-2.false)
    (iff_false c.is_over.ensures c.if-not-is_over.true))

pub returns-clause-reads : goal.returns-clause-reads
returns-clause-reads c =
    let R : List Property → Type 0 = λ properties. ReadsAnalysis c.args.text.now (Ok (analysis_of properties)) in
    let some : 0 < length c.in_ok-properties.properties.items = search (arith, nat_tests) in
    subst R (sym c.from_vec.ensures)
    (reads_whole c.args.text.now c.new-lines.result c.take_exactly.new.self c.take_properties.new.lines c.take_exactly-2.new.self c.in_ok-properties.properties.items c.new-lines.ensures
    (was_taken analysis_line c.new-lines.result c.take_exactly.new.self c.take_exactly.result c.take_exactly.ensures c.if-not-take_exactly.false)
    c.in_ok-properties.ensures some (was_taken end_line c.take_properties.new.lines c.take_exactly-2.new.self c.take_exactly-2.result c.take_exactly-2.ensures c.if-not-take_exactly-2.false)
    (c.is_over.ensures.0 c.if-not-is_over.false))

pub returns-clause-good : goal.returns-clause-good
returns-clause-good c = subst AreProperties (sym c.from_vec.ensures) (properties_good c.in_ok-properties.properties.items c.in_ok-properties.ensures.0)

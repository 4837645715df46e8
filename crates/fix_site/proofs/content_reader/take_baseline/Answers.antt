use Rattle.std.proofs.Common.{◌≡◌, ◌<◌, Bool, List, ℕ, length, sym, subst, arith}
use Rattle.std.proofs.lemmas.Bool.Decides.{nat_tests}
use Rattle.std.proofs.lemmas.List.{nil_from_length}
use Rattle.line_forms.specs.Readers.{Passes, TakesExactly}
use Rattle.fix_site.specs.declared.baseline.Baseline.{Baseline}
use Rattle.fix_site.specs.Actions.{end_line}
use Rattle.fix_site.specs.Contents.{baseline_rest}
use Rattle.fix_site.specs.Readings.{IsBaselineOf}
use Rattle.fix_site.proofs.Baselines.{baseline_title, baseline_none, baseline_end, baseline_whole}
use Rattle.fix_site.proofs.content_reader.take_baseline.Goals as goal

pub returns-in_default : goal.returns-in_default
returns-in_default c = baseline_title c.args.blocks.now c.args.id c.args.lines.now c.take_rest.new.lines c.requires.id c.requires.some c.in_default.ensures

pub returns-then-is_empty : goal.returns-then-is_empty
returns-then-is_empty c =
    let zero : length c.in_ok-components.components ≡ 0 = search (arith, nat_tests) in
    baseline_none c.args.blocks.now c.args.id c.in-Some.title.now c.in_ok-relevance.relevance c.in_ok-components.components c.args.lines.now c.take_rest.new.lines c.take_relevance.new.lines c.take_components.new.lines
    c.requires.id c.requires.some c.in-Some.ensures.0 c.in-Some.ensures.1 c.in_ok-relevance.ensures c.in_ok-components.ensures (nil_from_length c.in_ok-components.components zero)

pub returns-then-not-take_exactly : goal.returns-then-not-take_exactly
returns-then-not-take_exactly c =
    let Q : Bool → Type 0 = λ b. TakesExactly end_line c.take_components.new.lines c.take_exactly.new.self b in
    let some : 0 < length c.in_ok-components.components = search (arith, nat_tests) in
    baseline_end c.args.blocks.now c.args.id c.in-Some.title.now c.in_ok-relevance.relevance c.in_ok-components.components c.args.lines.now c.take_rest.new.lines c.take_relevance.new.lines c.take_components.new.lines c.take_exactly.new.self
    c.requires.id c.in-Some.ensures.0 c.in-Some.ensures.1 c.in_ok-relevance.ensures c.in_ok-components.ensures some (subst Q c.if-not-take_exactly.true c.take_exactly.ensures)

pub returns : goal.returns
returns c =
    let Q : Bool → Type 0 = λ b. TakesExactly end_line c.take_components.new.lines c.take_exactly.new.self b in
    let R : List ℕ → Type 0 = λ t. let b : Baseline = record { id = c.args.id; title = t; relevance = c.in_ok-relevance.relevance; components = c.in_ok-components.components } in
    IsBaselineOf c.args.blocks.now c.args.id b × Passes c.args.lines.now c.take_exactly.new.self (baseline_rest b) in
    let some : 0 < length c.in_ok-components.components = search (arith, nat_tests) in
    subst R (sym c.in_ok-from_str.ensures)
    (baseline_whole c.args.blocks.now c.args.id c.in-Some.title.now c.in_ok-relevance.relevance c.in_ok-components.components c.args.lines.now c.take_rest.new.lines c.take_relevance.new.lines c.take_components.new.lines c.take_exactly.new.self
    c.requires.id c.in-Some.ensures.0 c.in-Some.ensures.1 c.in_ok-relevance.ensures c.in_ok-components.ensures some (subst Q c.if-not-take_exactly.false c.take_exactly.ensures))

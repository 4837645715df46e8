use Rattle.std.proofs.Common.{◌+◌, ◌-◌, ◌≤◌, List, drop, take, length, sym, ap, ◌∙◌, arith}
use Rattle.std.specs.Prelude.{sum_by}
use Rattle.std.proofs.lemmas.List.{take_all, take_rest}
use Rattle.report_text.specs.declared.report.Report.{Report}
use Rattle.report_text.specs.Reports.{report_text}
use Rattle.agent_text.specs.MadeTexts.{PlainMade}
use Rattle.agent_text.specs.MostBytes.{report_bytes}
use Rattle.agent_text.proofs.MadeLemmas.{made_most}
use Rattle.agent_text.proofs.size.reports_size.Goals as goal

pub returns : goal.returns
returns c =
    let items : List Report = c.args.reports.reports.now in
    let made : PlainMade = c.args.reports.made.now in
    let rest : List Report = take (length items - c.count.result) (drop c.count.result items) in
    let all : length rest ≤ c.loop-report.report-index = omega (arith, c.loop-report-test.false) in
    c.loop-report.invariant ∙ ap (λ l. made.most + sum_by report_bytes l) (take_all c.loop-report.report-index rest all)
    ∙ ap (λ l. made.most + sum_by report_bytes l) (take_rest items c.count.result ∙ ap (λ n. drop n items) c.count.ensures)
    ∙ sym (made_most report_text report_bytes items made c.requires)

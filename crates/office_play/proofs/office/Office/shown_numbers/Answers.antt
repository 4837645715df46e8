use Rattle.std.proofs.Common.{◌≡◌, ◌≤◌, List, ℕ, length, map, take, arith, ap, ◌∙◌}
use Rattle.std.specs.Prelude.{get_or}
use Rattle.std.proofs.lemmas.List.{take_all}
use Rattle.report_text.specs.declared.report.Report.{Report}
use Rattle.office_play.specs.States.{ComputerState, OfficeState, kept_of, shown_computer, shown_entry}
use Rattle.office_play.proofs.Places.{at_place}
use Rattle.office_play.proofs.Seen.{entry_seen}
use Rattle.office_play.proofs.office.Office.shown_numbers.Goals as goal

pub returns : goal.returns
returns c =
    let old : OfficeState = c.args.self.now in
    let place = c.computer_place-place.result in
    let entry : List ℕ × ComputerState = c.index.result.now in
    let is : entry ≡ get_or old.computers place entry = c.index.ensures ∙ ap (λ (o : OfficeState). get_or o.computers place entry) c.self.view_is in
    let found = at_place c.args.name.now (kept_of old).computers place (shown_entry entry) c.computer_place-place.ensures.first (entry_seen old.computers place entry is) in
    let reports : List Report = c.outbox-report-items.result.now in
    let past : length reports ≤ c.loop-report.report-index = search (arith, c.loop-report-test.false) in (
      shown_computer entry.1,
      found.1,
      c.loop-report.invariant ∙ ap (map (λ (r : Report). r.seq)) (take_all c.loop-report.report-index reports past ∙ c.outbox-report-items.ensures)
          ∙ ap (λ (e : List ℕ × ComputerState). map (λ (r : Report). r.seq) (take e.1.agent.shown e.1.agent.reports)) c.behind-self.view_is,
    )

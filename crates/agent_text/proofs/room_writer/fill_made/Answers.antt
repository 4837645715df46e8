use Rattle.std.proofs.Common.{ℕ, ◌≡◌, ◌+◌, ◌++◌, List, drop, length, sym, ap, subst, ◌∙◌, arith}
use Rattle.std.specs.Prelude.{flat_map}
use Rattle.std.proofs.lemmas.List.{take_rest}
use Rattle.desk_base.specs.Rooms.{Fills, HasRoom}
use Rattle.report_text.specs.declared.report.Report.{Report}
use Rattle.report_text.specs.Reports.{report_text}
use Rattle.agent_text.specs.MadeTexts.{PlainMade}
use Rattle.agent_text.specs.MostBytes.{report_bytes}
use Rattle.agent_text.proofs.FillLemmas.{filled_length, fills_then}
use Rattle.agent_text.proofs.MadeLemmas.{made_long, made_parts}
use Rattle.agent_text.proofs.room_writer.fill_made.Goals as goal

pub extend-requires : goal.extend-requires
extend-requires c =
    omega (arith, c.requires.room, made_long report_text report_bytes c.args.reports.reports.now c.args.reports.made.now c.requires.made, ap (length {A = ℕ}) c.text.ensures)

pub fill_reports-requires : goal.fill_reports-requires
fill_reports-requires c =
    let reports : List Report = c.args.reports.reports.now in
    let made : PlainMade = c.args.reports.made.now in
    let filled = filled_length c.text.result.now c.args.room.now c.extend.new.self c.extend.ensures in
    let rest = take_rest reports c.count.result ∙ ap (λ n. drop n reports) c.count.ensures in
    subst (λ (l : List Report). HasRoom c.extend.new.self (length (flat_map report_text l))) (sym rest)
    (omega (arith, c.requires.room, made_long report_text report_bytes reports made c.requires.made, ap (length {A = ℕ}) c.text.ensures, filled, c.extend.ensures.1))

pub returns : goal.returns
returns c =
    let reports : List Report = c.args.reports.reports.now in
    let made : PlainMade = c.args.reports.made.now in
    let others = flat_map report_text (drop made.count reports) in
    let rest = take_rest reports c.count.result ∙ ap (λ n. drop n reports) c.count.ensures in
    let front : Fills c.args.room.now c.extend.new.self made.text = subst (λ t. Fills c.args.room.now c.extend.new.self t) c.text.ensures c.extend.ensures in
    let behind : Fills c.extend.new.self c.fill_reports.new.room others = subst (λ (l : List Report). Fills c.extend.new.self c.fill_reports.new.room (flat_map report_text l)) rest c.fill_reports.ensures in
    subst (λ t. Fills c.args.room.now c.fill_reports.new.room t) (sym (made_parts report_text report_bytes reports made c.requires.made))
    (fills_then made.text others c.args.room.now c.extend.new.self c.fill_reports.new.room front behind)

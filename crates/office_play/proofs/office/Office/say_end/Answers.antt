use Rattle.std.proofs.Common.{◌≡◌, List, ℕ, [], ◌∷◌, ◌++◌, codes, subst, ap, ◌∙◌}
use Rattle.std.specs.Prelude.{flat_map}
use Rattle.std.proofs.lemmas.Result.{on_ok_weaker}
use Rattle.desk_keep.specs.declared.change.Change.{Change}
use Rattle.desk_keep.specs.declared.table.Table.TheVariants as table
use Rattle.office_rules.specs.Endings.{count_lines, outbox_counts, queue_counts, results_of, row_count, sum_line}
use Rattle.office_rules.specs.OfficeLines.{count_line, result_line}
use Rattle.office_play.specs.Ending.{IsSum}
use Rattle.office_play.specs.States.{OfficeState, kept_of}
use Rattle.office_play.proofs.EndLines.{ending_is, in_one, text_of}
use Rattle.office_play.proofs.office.Office.say_end.Goals as goal

pub returns : goal.returns
returns c =
    let old : OfficeState = c.args.self.now in
    let out : List ℕ = c.args.out.now in
    let one : List ℕ = c.say_rows.new.out in
    let two : List ℕ = c.say_rows-2.new.out in
    let three : List ℕ = c.say_results.new.out in
    let four : List ℕ = c.say_queues.new.out in
    let five : List ℕ = c.say_outboxes.new.out in
    let rows : c.self.inside.keeper ≡ old.rows = ap (λ (o : OfficeState). o.rows) c.self.view_is in
    let rows1 : c.say_rows.new.keeper ≡ old.rows = c.say_rows.ensures.rows ∙ rows in
    let rows2 : c.say_rows-2.new.keeper ≡ old.rows = c.say_rows-2.ensures.rows ∙ rows1 in
    let first : one ≡ out ++ count_line (codes "computers" ∷ []) (row_count table.Computers old.rows) =
    c.in_ok-say_rows.ensures.lines ∙ ap (λ (r : List Change). out ++ count_line (codes "computers" ∷ []) (row_count table.Computers r)) rows in
    let second : two ≡ one ++ count_line (codes "reports" ∷ []) (row_count table.Reports old.rows) =
    c.in_ok-say_rows-2.ensures.lines ∙ ap (λ (r : List Change). one ++ count_line (codes "reports" ∷ []) (row_count table.Reports r)) rows1 in
    let third : three ≡ two ++ flat_map result_line (results_of old.rows) =
    c.in_ok-sum.ensures.lines ∙ ap (λ (r : List Change). two ++ flat_map result_line (results_of r)) rows2 in
    let sum : IsSum c.in_ok-sum.sum (results_of old.rows) = subst (λ (r : List Change). IsSum c.in_ok-sum.sum (results_of r)) rows2 c.in_ok-sum.ensures.sum in
    let fourth : four ≡ three ++ count_lines (codes "queue") (queue_counts (kept_of old).relays) =
    c.in_ok-say_queues.ensures ∙ ap (λ (o : OfficeState). three ++ count_lines (codes "queue") (queue_counts (kept_of o).relays)) c.self.view_is in
    let fifth : five ≡ four ++ count_lines (codes "outbox") (outbox_counts (kept_of old).computers) =
    c.in_ok-say_outboxes.ensures ∙ ap (λ (o : OfficeState). four ++ count_lines (codes "outbox") (outbox_counts (kept_of o).computers)) c.self.view_is in
    on_ok_weaker c.say_sum.result
    (λ said accepted are.
    let last : c.say_sum.new.out ≡ five ++ sum_line (results_of old.rows) = said (results_of old.rows) sum in
    let whole : c.say_sum.new.out ≡ out ++ text_of (kept_of old) = in_one out five c.say_sum.new.out _ _ (in_one out four five _ _ (in_one out three four _ _ (in_one out two three _ _ (in_one out one two _ _ first second) third) fourth) fifth)
    last in
    whole ∙ ap (λ l. out ++ l) (ending_is (kept_of old) accepted are))
    c.say_sum.ensures

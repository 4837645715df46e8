use Rattle.std.proofs.lemmas.Result.{err_from_is_err_and}
use Rattle.rel_lexer.proofs.StringLemmas.{takes_string, fails_string, open_string_fault}
use Rattle.rel_lexer.proofs.string.read_string.Goals as goal

pub returns-in_err-decoded_text-in-Some : goal.returns-in_err-decoded_text-in-Some
returns-in_err-decoded_text-in-Some c = let p = err_from_is_err_and c.from_residual.result c.from_residual.ensures.1 in rw (p.1, p.2) (fails_string c.args.at c.args.bytes.now c.split_run.result.0.now c.split_run.result.1.now c.in-Some.rest.now c.split_run.ensures c.in-Some.ensures c.in_err-decoded_text-in-Some.field-0.0 c.in_err-decoded_text-in-Some.ensures)

pub returns-in_ok-decoded_text-in-Some : goal.returns-in_ok-decoded_text-in-Some
returns-in_ok-decoded_text-in-Some c = let d = c.in_ok-decoded_text-in-Some.ensures in takes_string c.args.bytes.now c.split_run.result.0.now c.split_run.result.1.now c.in-Some.rest.now c.in_ok-decoded_text-in-Some.field-0 c.split_run.ensures c.in-Some.ensures d.0 d.1 d.2

pub returns-in-None : goal.returns-in-None
returns-in-None c = open_string_fault c.args.at c.args.bytes.now c.split_run.result.0.now c.split_run.result.1.now c.of_bytes.result c.split_run.ensures c.in-None.ensures c.of_bytes.ensures

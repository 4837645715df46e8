use Rattle.std.proofs.Common.{◌≡◌, ◌-◌, ◌≤◌, Ok, length, sym, arith}
use Rattle.std.proofs.lemmas.Result.{err_from_is_err_and}
use Rattle.std.proofs.lemmas.Bool.{eqb-true}
use Rattle.rel_lexer.proofs.Lexing.{begin, took, refused, is_shorter, done, are_tokens, are_in_order}
use Rattle.rel_lexer.proofs.lexer.tokens.Goals as goal

pub loop-rest-init : goal.loop-rest-init
loop-rest-init c = record { short = omega arith; within = omega arith; goes = λ answer h. begin c.args.text.now c.new-list.result.items c.new-list.ensures.items answer h }

pub returns-in_err-taken-clause-refusal : goal.returns-in_err-taken-clause-refusal
returns-in_err-taken-clause-refusal c =
    let so_far = c.loop-rest.invariant in
    let p = err_from_is_err_and c.from_residual.result c.from_residual.ensures.1 in
    rw (p.1, p.2) (refused c.args.text.now c.loop-rest.rest.now (length c.args.text.now - length c.loop-rest.rest.now) c.loop-rest.list.items so_far.short so_far.goes c.in_err-taken.field-0.0 c.in_err-taken.ensures)

pub loop-rest-preserved : goal.loop-rest-preserved
loop-rest-preserved c =
    let so_far = c.loop-rest.invariant in
    let text = c.args.text.now in
    let rest = c.loop-rest.rest.now in
    let left = c.in_ok-taken.taken.rest.now in
    let less = is_shorter rest left c.in_ok-taken.taken.kind c.in_ok-taken.ensures in
    let within : length rest ≤ length text = so_far.within in
    record {
      short = so_far.short;
      within = omega arith;
      goes = λ answer h. so_far.goes answer (took (length text - length rest) (length text - length left) c.loop-rest.list.items c.push_token.new.list.items rest left c.in_ok-taken.taken.kind c.of_bytes-place.result c.in_ok-taken.ensures (omega arith) c.of_bytes-place.ensures c.in_ok-push_token.ensures answer h);
    }

pub returns-clause-tokens : goal.returns-clause-tokens
returns-clause-tokens c =
    let so_far = c.loop-rest.invariant in
    let text = c.args.text.now in
    let rest = c.loop-rest.rest.now in
    let empty : length rest ≡ 0 = eqb-true (length rest) 0 (sym c.loop-rest-test.ensures) in
    let within : length rest ≤ length text = so_far.within in
    rw c.from_vec.ensures (are_tokens text (record { list = c.loop-rest.list.items; end = length text }) so_far.short (so_far.goes (Ok (record { list = c.loop-rest.list.items; end = length text })) (done (length text - length rest) (length text) c.loop-rest.list.items rest empty (omega arith))))

pub returns-clause-in_order : goal.returns-clause-in_order
returns-clause-in_order c = are_in_order c.args.text.now (record { list = c.from_vec.result; end = length c.args.text.now }) (returns-clause-tokens c)

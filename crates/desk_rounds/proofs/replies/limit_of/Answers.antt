use Rattle.std.proofs.lemmas.Option.{MatchOption-at_none}
use Rattle.desk_rounds.proofs.Judging.{is_full, no_full, no_limit}
use Rattle.desk_rounds.proofs.replies.limit_of.Goals as goal

pub returns-in_err-digits : goal.returns-in_err-digits
returns-in_err-digits c =
    rw c.from_residual.ensures (no_full c.args.body.now (MatchOption-at_none _ _ c.in_err-digits.was c.value_in.ensures))

pub returns-in_err-read_number : goal.returns-in_err-read_number
returns-in_err-read_number c =
    rw c.from_residual-in_err-read_number.ensures (no_limit c.args.body.now c.in_ok-digits.digits.now c.in_ok-digits.ensures
    (MatchOption-at_none _ _ c.in_err-read_number.was c.read_number.ensures))

pub returns : goal.returns
returns c =
    is_full c.args.body.now c.in_ok-digits.digits.now c.in_ok-read_number.field-0 c.in_ok-digits.ensures c.in_ok-read_number.ensures.0

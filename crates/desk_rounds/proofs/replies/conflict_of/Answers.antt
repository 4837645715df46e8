use Rattle.std.proofs.lemmas.Option.{MatchOption-at_none}
use Rattle.desk_rounds.proofs.Judging.{is_conflict, no_conflict, no_digest}
use Rattle.desk_rounds.proofs.replies.conflict_of.Goals as goal

pub returns-in_err-digits : goal.returns-in_err-digits
returns-in_err-digits c =
    rw c.from_residual.ensures (no_conflict c.args.body.now (MatchOption-at_none _ _ c.in_err-digits.was c.value_in.ensures))

pub returns-in_err-read_digest : goal.returns-in_err-read_digest
returns-in_err-read_digest c =
    rw c.from_residual-in_err-read_digest.ensures (no_digest c.args.body.now c.in_ok-digits.digits.now c.in_ok-digits.ensures
    (MatchOption-at_none _ _ c.in_err-read_digest.was c.read_digest.ensures))

pub returns : goal.returns
returns c =
    is_conflict c.args.body.now c.in_ok-digits.digits.now c.in_ok-read_digest.field-0 c.in_ok-digits.ensures c.in_ok-read_digest.ensures.0

use Rattle.std.proofs.Common.{codes}
use Rattle.std.proofs.lemmas.Bool.Decides.{Decides-eqb}
use Rattle.std.proofs.lemmas.Option.{MatchOption-at_some}
use Rattle.std.proofs.lemmas.Slice.Eq.{strip_prefix_is, strip_suffix_is}
use Rattle.desk_rounds.proofs.Judging.{value_from, value_none}
use Rattle.desk_rounds.proofs.replies.value_in.Goals as goal

pub returns-in_err-rest : goal.returns-in_err-rest
returns-in_err-rest c =
    let cases = strip_prefix_is Decides-eqb c.args.body.now c.args.words.now c.strip_prefix.result c.strip_prefix.ensures.cases in
    rw c.from_residual.ensures (value_none c.args.body.now c.args.words.now c.strip_prefix.result cases c.in_err-rest.was)

pub returns : goal.returns
returns c =
    let rest = c.in_ok-rest.rest.now in
    let front = strip_prefix_is Decides-eqb c.args.body.now c.args.words.now c.strip_prefix.result c.strip_prefix.ensures.cases in
    value_from c.args.body.now c.args.words.now rest c.strip_suffix.result (MatchOption-at_some _ _ c.in_ok-rest.rest c.in_ok-rest.was front)
    (strip_suffix_is Decides-eqb rest (codes "\n") c.strip_suffix.result c.strip_suffix.ensures.cases)

use Rattle.std.proofs.Common.{codes}
use Rattle.std.proofs.lemmas.Bool.Decides.{Decides-eqb}
use Rattle.std.proofs.lemmas.Option.{MatchOption-at_none, MatchOption-at_some}
use Rattle.std.proofs.lemmas.Slice.Eq.{strip_suffix_is}
use Rattle.route_rules.proofs.Values.{no_actions, no_stop, spells_id}
use Rattle.route_rules.proofs.path.id_in.Goals as goal

pub returns-in_err-rest : goal.returns-in_err-rest
returns-in_err-rest c = rw c.from_residual.ensures (no_actions c.args.path.now c.after.result c.after.ensures c.in_err-rest.was)

pub returns-in_err-id : goal.returns-in_err-id
returns-in_err-id c =
    let rest = c.in_ok-rest.rest.now in
    let cases = strip_suffix_is Decides-eqb rest (codes "/stop") c.strip_suffix.result c.strip_suffix.ensures.cases in
    rw c.from_residual-in_err-id.ensures (no_stop c.args.path.now rest c.in_ok-rest.ensures (MatchOption-at_none _ _ c.in_err-id.was cases))

pub returns : goal.returns
returns c =
    let rest = c.in_ok-rest.rest.now in
    let cases = strip_suffix_is Decides-eqb rest (codes "/stop") c.strip_suffix.result c.strip_suffix.ensures.cases in
    spells_id c.args.path.now rest c.in_ok-id.id.now c.read_id.result c.in_ok-rest.ensures (MatchOption-at_some _ _ c.in_ok-id.id c.in_ok-id.was cases) c.read_id.ensures

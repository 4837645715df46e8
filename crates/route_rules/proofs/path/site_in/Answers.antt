use Rattle.std.proofs.Common.{ℕ, List, subst, sym}
use Rattle.std.proofs.lemmas.Option.{MatchOption-at_none}
use Rattle.line_forms.specs.Names.{IsName}
use Rattle.route_rules.proofs.Values.{is_site, no_cut, no_name, no_sites, no_version}
use Rattle.route_rules.proofs.path.site_in.Goals as goal

pub returns-in_err-cut : goal.returns-in_err-cut
returns-in_err-cut c =
    let lacks = MatchOption-at_none _ _ c.in_err-cut.was c.last_part.ensures in
    rw c.from_residual.ensures (λ name version good small e. no_cut c.args.path.now name version lacks e)

pub returns-in_err-name : goal.returns-in_err-name
returns-in_err-name c =
    let cut = c.in_ok-cut.cut in
    rw c.from_residual-in_err-name.ensures (no_sites c.args.path.now cut.first.now cut.rest.now c.after.result c.in_ok-cut.ensures c.after.ensures c.in_err-name.was)

pub returns-in_err-read_name : goal.returns-in_err-read_name
returns-in_err-read_name c =
    let cut = c.in_ok-cut.cut in
    let none = MatchOption-at_none _ _ c.in_err-read_name.was c.read_name.ensures in
    rw c.from_residual-in_err-read_name.ensures (no_name c.args.path.now cut.first.now cut.rest.now c.in_ok-name.name.now c.in_ok-cut.ensures c.in_ok-name.ensures none)

pub returns-in_err-read_number : goal.returns-in_err-read_number
returns-in_err-read_number c =
    let cut = c.in_ok-cut.cut in
    let none = MatchOption-at_none _ _ c.in_err-read_number.was c.read_number.ensures in
    rw c.from_residual-in_err-read_number.ensures (no_version c.args.path.now cut.first.now cut.rest.now c.in_ok-cut.ensures none)

pub returns : goal.returns
returns c =
    let cut = c.in_ok-cut.cut in
    let P : List ℕ → Type 0 = IsName in
    let name = c.in_ok-read_name in
    let number = c.in_ok-read_number in
    (subst P (sym name.ensures.1) name.ensures.0, number.ensures.0.0, is_site c.args.path.now cut.first.now cut.rest.now c.in_ok-name.name.now name.field-0.now number.field-0 c.in_ok-cut.ensures c.in_ok-name.ensures name.ensures.1 number.ensures.0.1)

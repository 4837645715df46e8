use Rattle.std.proofs.Common.{◌++◌, List, ℕ, IfOk, codes, subst, sym}
use Rattle.session_tables.specs.Inside.{IsSpot}
use Rattle.session_tables.proofs.spot.computer_spot.Goals as goal

pub result_spot-requires : goal.result_spot-requires
result_spot-requires c = c.in-Some.ensures.0

pub returns-in-Some : goal.returns-in-Some
returns-in-Some c =
    subst (λ (p : List ℕ). IfOk c.result_spot.result (IsSpot (codes "/computers/" ++ p))) (sym c.in-Some.ensures.1) c.result_spot.ensures

pub name_spot-requires : goal.name_spot-requires
name_spot-requires c = c.in-None.ensures

pub returns-in-None : goal.returns-in-None
returns-in-None c = c.name_spot.ensures

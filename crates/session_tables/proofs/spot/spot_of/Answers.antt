use Rattle.std.proofs.Common.{◌≡◌, ◌∷◌, ◌++◌, ◌∙◌, List, ℕ, IfOk, ap, subst, sym}
use Rattle.session_tables.specs.Inside.{IsSpot}
use Rattle.session_tables.proofs.Spots.{from_work}
use Rattle.session_tables.proofs.spot.spot_of.Goals as goal

pub returns-in_default : goal.returns-in_default
returns-in_default c = from_work c.args.path.now c.in_default.ensures

pub row_spot-requires : goal.row_spot-requires
row_spot-requires c = c.in-Some-cut_at_slash.ensures.0

pub folder_spot-requires : goal.folder_spot-requires
folder_spot-requires c = c.in-None.ensures

pub returns-in-Some-cut_at_slash : goal.returns-in-Some-cut_at_slash
returns-in-Some-cut_at_slash c =
    let inside = c.in-Some.inside.now in
    let cut = c.in-Some-cut_at_slash in
    let whole : c.args.path.now ≡ 47 ∷ (cut.folder.now ++ 47 ∷ cut.rest.now) = c.in-Some.ensures ∙ ap (λ (t : List ℕ). 47 ∷ t) cut.ensures.1 in
    subst (λ (p : List ℕ). IfOk c.row_spot.result (IsSpot p)) (sym whole) c.row_spot.ensures

pub returns-in-None : goal.returns-in-None
returns-in-None c = subst (λ (p : List ℕ). IsSpot p c.folder_spot.result) (sym c.in-Some.ensures) c.folder_spot.ensures

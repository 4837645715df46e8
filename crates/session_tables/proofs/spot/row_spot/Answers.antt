use Rattle.std.proofs.Common.{◌∷◌, ◌++◌, ◌∙◌, List, ℕ, IfOk, codes, subst, sym}
use Rattle.session_tables.specs.Inside.{IsSpot}
use Rattle.session_tables.proofs.Spots.{no_such_folder, other_text, same_text}
use Rattle.session_tables.proofs.spot.row_spot.Goals as goal

pub returns-then-eq : goal.returns-then-eq
returns-then-eq c =
    let same = same_text c.args.folder.now (codes "actions") (sym c.eq.ensures ∙ c.if-eq.true) in
    subst (λ (f : List ℕ). IsSpot (47 ∷ (f ++ 47 ∷ c.args.path.now)) c.action_spot.result) (sym same) c.action_spot.ensures

pub returns-then-eq-2 : goal.returns-then-eq-2
returns-then-eq-2 c =
    let same = same_text c.args.folder.now (codes "computers") (sym c.eq-2.ensures ∙ c.if-eq-2.true) in
    subst (λ (f : List ℕ). IfOk c.computer_spot.result (IsSpot (47 ∷ (f ++ 47 ∷ c.args.path.now)))) (sym same) c.computer_spot.ensures

pub returns-then-eq-3 : goal.returns-then-eq-3
returns-then-eq-3 c =
    let same = same_text c.args.folder.now (codes "sites") (sym c.eq-3.ensures ∙ c.if-eq-3.true) in
    subst (λ (f : List ℕ). IfOk c.site_spot.result (IsSpot (47 ∷ (f ++ 47 ∷ c.args.path.now)))) (sym same) c.site_spot.ensures

pub returns : goal.returns
returns c =
    no_such_folder c.args.folder.now c.args.path.now c.requires (other_text c.args.folder.now (codes "actions") (sym c.eq.ensures ∙ c.if-eq.false))
    (other_text c.args.folder.now (codes "computers") (sym c.eq-2.ensures ∙ c.if-eq-2.false))
    (other_text c.args.folder.now (codes "sites") (sym c.eq-3.ensures ∙ c.if-eq-3.false))

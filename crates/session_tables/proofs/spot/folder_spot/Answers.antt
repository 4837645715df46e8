use Rattle.std.proofs.Common.{◌∷◌, ◌∙◌, List, ℕ, [], ap, codes, sym}
use Rattle.session_tables.proofs.Spots.{no_folder, other_text, same_text}
use Rattle.session_tables.proofs.spot.folder_spot.Goals as goal

pub returns-then-eq : goal.returns-then-eq
returns-then-eq c = ap (λ (t : List ℕ). 47 ∷ t) (same_text c.args.name.now [] (sym c.eq.ensures ∙ c.if-eq.true))

pub returns-then-eq-2 : goal.returns-then-eq-2
returns-then-eq-2 c = ap (λ (t : List ℕ). 47 ∷ t) (same_text c.args.name.now (codes "actions") (sym c.eq-2.ensures ∙ c.if-eq-2.true))

pub returns-then-eq-3 : goal.returns-then-eq-3
returns-then-eq-3 c = ap (λ (t : List ℕ). 47 ∷ t) (same_text c.args.name.now (codes "computers") (sym c.eq-3.ensures ∙ c.if-eq-3.true))

pub returns-then-eq-4 : goal.returns-then-eq-4
returns-then-eq-4 c = ap (λ (t : List ℕ). 47 ∷ t) (same_text c.args.name.now (codes "sites") (sym c.eq-4.ensures ∙ c.if-eq-4.true))

pub returns : goal.returns
returns c =
    no_folder c.args.name.now c.requires (other_text c.args.name.now [] (sym c.eq.ensures ∙ c.if-eq.false))
    (other_text c.args.name.now (codes "actions") (sym c.eq-2.ensures ∙ c.if-eq-2.false))
    (other_text c.args.name.now (codes "computers") (sym c.eq-3.ensures ∙ c.if-eq-3.false))
    (other_text c.args.name.now (codes "sites") (sym c.eq-4.ensures ∙ c.if-eq-4.false))

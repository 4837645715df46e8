use Rattle.std.proofs.Common.{◌++◌, ◌∙◌, List, ℕ, codes, subst, sym}
use Rattle.desk_keep.specs.declared.find.Find.TheVariants as find
use Rattle.session_tables.specs.declared.spot.Spot.TheVariants as spot
use Rattle.session_tables.specs.Inside.{IsSpot}
use Rattle.session_tables.proofs.Spots.{computer_there, no_computer}
use Rattle.session_tables.proofs.spot.name_spot.Goals as goal

pub returns-then-not-is_shown_name : goal.returns-then-not-is_shown_name
returns-then-not-is_shown_name c = no_computer c.args.name.now c.requires (sym c.is_shown_name.ensures ∙ c.if-not-is_shown_name.true)

pub returns : goal.returns
returns c =
    subst (λ (t : List ℕ). IsSpot (codes "/computers/" ++ c.args.name.now) (spot.Row (find.Computer t))) (sym c.in_ok-from_str.ensures)
    (computer_there c.args.name.now (sym c.is_shown_name.ensures ∙ c.if-not-is_shown_name.false))

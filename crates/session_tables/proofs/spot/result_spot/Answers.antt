use Rattle.std.proofs.Common.{◌∷◌, ◌++◌, ◌∙◌, List, ℕ, codes, subst, sym}
use Rattle.desk_keep.specs.declared.find.Find.TheVariants as find
use Rattle.session_tables.specs.declared.spot.Spot.TheVariants as spot
use Rattle.session_tables.specs.Inside.{IsSpot}
use Rattle.session_tables.proofs.Spots.{no_result, no_result_of, result_there}
use Rattle.session_tables.proofs.spot.result_spot.Goals as goal

pub returns-then-not-is_shown_name : goal.returns-then-not-is_shown_name
returns-then-not-is_shown_name c =
    no_result_of c.args.computer.now c.args.action.now c.requires (sym c.is_shown_name.ensures ∙ c.if-not-is_shown_name.true)

pub returns-in-None : goal.returns-in-None
returns-in-None c =
    no_result c.args.computer.now c.args.action.now c.requires (λ id is e. c.in-None.ensures id is (c.as_bytes.ensures.value ∙ e))

pub returns-in_ok-from_str-in-Some : goal.returns-in_ok-from_str-in-Some
returns-in_ok-from_str-in-Some c =
    subst (λ (t : List ℕ). IsSpot (codes "/computers/" ++ c.args.computer.now ++ 47 ∷ c.args.action.now) (spot.Row (find.Result t c.in-Some.action)))
    (sym c.in_ok-from_str-in-Some.ensures)
    (result_there c.args.computer.now c.args.action.now c.in-Some.action (sym c.is_shown_name.ensures ∙ c.if-not-is_shown_name.false)
    c.in-Some.ensures.0 (sym c.as_bytes.ensures.value ∙ c.in-Some.ensures.1))

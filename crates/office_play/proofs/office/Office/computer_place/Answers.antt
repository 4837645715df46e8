use Rattle.std.proofs.Common.{◌≡◌, Some, None, sym, ap, ◌∙◌}
use Rattle.bf_world.specs.Maps.{at}
use Rattle.office_play.specs.States.{OfficeState, kept_of}
use Rattle.office_play.proofs.Places.{never_lost, place_found}
use Rattle.office_play.proofs.office.Office.computer_place.Goals as goal

pub unreachable-requires : goal.unreachable-requires
unreachable-requires c =
    let o : OfficeState = c.args.self.now in
    let lost : at c.args.name.now o.computer_places ≡ None =
    ap (λ n. at n o.computer_places) (sym c.as_str.ensures) ∙ ap (λ (k : OfficeState). at c.as_str.result.now k.computer_places) (sym c.self.view_is)
    ∙ sym c.in_default.ensures in
    never_lost c.args.name.now o.computer_places (kept_of o).computers c.requires.good.computers_found c.requires.name lost

pub returns : goal.returns
returns c =
    let o : OfficeState = c.args.self.now in
    let found : at c.args.name.now o.computer_places ≡ Some c.in-Some.place.now =
    ap (λ n. at n o.computer_places) (sym c.as_str.ensures) ∙ ap (λ (k : OfficeState). at c.as_str.result.now k.computer_places) (sym c.self.view_is)
    ∙ sym c.in-Some.ensures in
    place_found c.args.name.now o.computer_places (kept_of o).computers c.in-Some.place.now c.requires.good.computers_found found

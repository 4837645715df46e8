use Rattle.std.proofs.Common.{◌≡◌, sym, ap, ◌∙◌, nat_cmp}
use Rattle.std.specs.Cmp.Lexicographic.{slice_cmp}
use Rattle.rel_value.specs.Versions.{four}
use Rattle.rel_value.proofs.VersionsRead.{four-padded}
use Rattle.rel_value.proofs.version.Version.order.Goals as goal

pub returns : goal.returns
returns c =
    let a : four c.args.self.now ≡ c.self.inside.numbers = ap four (sym c.self.view_is) ∙ four-padded c.self.inside.numbers c.self.inside.count c.self.told c.self.invariant.0 c.self.invariant.1 c.self.invariant.2 in
    let b : four c.args.other.now ≡ c.other.inside.numbers = ap four (sym c.other.view_is) ∙ four-padded c.other.inside.numbers c.other.inside.count c.other.told c.other.invariant.0 c.other.invariant.1 c.other.invariant.2 in
    c.cmp.ensures ∙ ap (λ l. slice_cmp nat_cmp l c.other.inside.numbers) (sym a) ∙ ap (λ l. slice_cmp nat_cmp (four c.args.self.now) l) (sym b)

use Rattle.std.proofs.Common.{List, subst}
use Rattle.fix_site.specs.declared.block.Block.{Block}
use Rattle.fix_site.specs.Blocks.{HasId}
use Rattle.fix_site.specs.KnownIds.{HasJust}
use Rattle.fix_site.proofs.KnownIds.{below, none_below}
use Rattle.fix_site.proofs.blocks_so_far.BlocksSoFar.are_below.Goals as goal

pub returns-in-Some : goal.returns-in-Some
returns-in-Some c =
    let P : List Block → Type 0 = λ l. HasJust c.self.inside.ids (HasId l) in
    below c.args.self.now c.self.inside.ids c.in-Some.greatest.now c.args.id (subst P c.self.view_is c.self.invariant.ids) c.in-Some.ensures.member c.in-Some.ensures.greatest

pub returns-in-None : goal.returns-in-None
returns-in-None c =
    let P : List Block → Type 0 = λ l. HasJust c.self.inside.ids (HasId l) in
    none_below c.args.self.now c.self.inside.ids c.args.id (subst P c.self.view_is c.self.invariant.ids) c.in-None.ensures.variant.1

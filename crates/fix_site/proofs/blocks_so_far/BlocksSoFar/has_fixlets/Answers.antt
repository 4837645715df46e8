use Rattle.std.proofs.Common.{List, refl, subst}
use Rattle.fix_site.specs.declared.block.Block.{Block}
use Rattle.fix_site.specs.Blocks.{HasFixlet}
use Rattle.fix_site.specs.KnownIds.{HasJust}
use Rattle.fix_site.proofs.KnownIds.{some_fixlet_known}
use Rattle.fix_site.proofs.blocks_so_far.BlocksSoFar.has_fixlets.Goals as goal

pub returns-in-Some : goal.returns-in-Some
returns-in-Some c =
    let P : List Block → Type 0 = λ l. HasJust c.self.inside.fixlets (HasFixlet l) in
    let fixlet = (subst P c.self.view_is c.self.invariant.fixlets c.in-Some.field-0.now).0 c.in-Some.ensures.member in
    (λ t. (fixlet.0, fixlet.1), λ h. refl)

pub returns-in-None : goal.returns-in-None
returns-in-None c =
    let P : List Block → Type 0 = λ l. HasJust c.self.inside.fixlets (HasFixlet l) in
    some_fixlet_known c.args.self.now c.self.inside.fixlets (subst P c.self.view_is c.self.invariant.fixlets) c.in-None.ensures.variant.1

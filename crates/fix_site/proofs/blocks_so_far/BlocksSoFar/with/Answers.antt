use Rattle.std.proofs.Common.{ℕ, ◌≡◌, List, sym, subst}
use Rattle.fix_site.specs.declared.block.Block.{Block}
use Rattle.fix_site.specs.Blocks.{HasFixlet, HasId}
use Rattle.fix_site.specs.KnownIds.{HasJust, IsIn}
use Rattle.fix_site.proofs.KnownIds.{fixlets_more, ids_more}
use Rattle.fix_site.proofs.blocks_so_far.BlocksSoFar.with.Goals as goal

pub invariant_of-result : goal.invariant_of-result
invariant_of-result c =
    let blocks = c.self.inside.blocks.items in
    let P : List Block → Type 0 = λ l. HasJust c.in_ok-ids.ids (HasId l) in
    let Q : List Block → Type 0 = λ l. HasJust c.in_ok-fixlets.fixlets (HasFixlet l) in
    let R : ℕ → Type 0 = λ id. HasJust c.in_ok-ids.ids (IsIn c.self.inside.ids (λ other. id ≡ other)) in
    record {
      ids = subst P (sym c.in_ok-push.ensures.items) (ids_more blocks c.args.block c.self.inside.ids c.in_ok-ids.ids c.self.invariant.ids (subst R c.id.ensures c.in_ok-ids.ensures));
      fixlets = subst Q (sym c.in_ok-push.ensures.items) (fixlets_more blocks c.args.block c.self.inside.fixlets c.in_ok-fixlets.fixlets c.self.invariant.fixlets c.in_ok-fixlets.ensures);
    }

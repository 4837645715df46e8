use Rattle.std.proofs.Common.{refl}
use Rattle.world_text.proofs.RowLemmas.{package_at, is_there}
use Rattle.world_text.proofs.thing.add_package.Goals as goal

pub returns-then-has_package-clause-adds : goal.returns-then-has_package-clause-adds
returns-then-has_package-clause-adds c = λ new a.
    let p = c.in-Some.package in
    let h = package_at c.args.world.now c.args.rest.now p.version.now p.name.now new c.in-Some.ensures.0 a in
    is_there c.args.world.now.packages p.name.now p.name.now c.has_package.result refl c.has_package.ensures c.if-has_package.true h.2

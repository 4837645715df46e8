use Rattle.std.proofs.Common.{◌∙◌, length, arith}
use Rattle.std.proofs.lemmas.Str.{IsCharBoundary-after_ascii}
use Rattle.bf_world.proofs.PathCuts.{name_of_cut, name_of_none, slash_at}
use Rattle.bf_world.proofs.path.last_name.Goals as goal

pub range_from-requires : goal.range_from-requires
range_from-requires c =
    let cut = rw c.as_bytes.ensures.value at c.in-Some.ensures in
    let slash = slash_at c.args.path.now c.in-Some.cut.first.now c.in-Some.cut.rest.now cut in
    λ _. IsCharBoundary-after_ascii c.args.path.now (length c.in-Some.cut.first.now) c.utf8.path (omega arith) (omega arith)

pub returns-in-Some : goal.returns-in-Some
returns-in-Some c =
    let cut = rw c.as_bytes.ensures.value at c.in-Some.ensures in
    c.range_from.ensures.value ∙ name_of_cut c.args.path.now c.in-Some.cut.first.now c.in-Some.cut.rest.now cut

pub returns-in-None : goal.returns-in-None
returns-in-None c = name_of_none c.args.path.now (rw c.as_bytes.ensures.value at c.in-None.ensures)

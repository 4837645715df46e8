use Rattle.std.proofs.Common.{subst, sym}
use Rattle.std.specs.Option.{IfSome}
use Rattle.line_forms.specs.Paths.{IsPath}
use Rattle.bf_world.specs.Paths.{joined}
use Rattle.bf_world.specs.Done.{download}
use Rattle.bf_world.proofs.FreeLemmas.{target, target-path}
use Rattle.bf_world.proofs.world.World.change.Goals as goal

pub set_file-requires-clause-path : goal.set_file-requires-clause-path
set_file-requires-clause-path c =
    subst IsPath (sym c.as_str.ensures) (subst (λ d. IfSome (target d) IsPath) c.in-Write.is (target-path c.a_path_is_its_parts.ensures.parts c.a_path_is_its_parts.ensures.rootless c.args.self.now c.args.command.now c.requires.unrefused))

pub append-requires-clause-path : goal.append-requires-clause-path
append-requires-clause-path c =
    subst IsPath (sym c.as_str-in-Append.ensures) (subst (λ d. IfSome (target d) IsPath) c.in-Append.is (target-path c.a_path_is_its_parts.ensures.parts c.a_path_is_its_parts.ensures.rootless c.args.self.now c.args.command.now c.requires.unrefused))

pub set_file-requires-in-Copy-clause-path : goal.set_file-requires-in-Copy-clause-path
set_file-requires-in-Copy-clause-path c =
    subst IsPath (sym c.as_str-in-Copy-2.ensures) (subst (λ d. IfSome (target d) IsPath) c.in-Copy.is (target-path c.a_path_is_its_parts.ensures.parts c.a_path_is_its_parts.ensures.rootless c.args.self.now c.args.command.now c.requires.unrefused))

pub set_file-requires-in-Move-clause-path : goal.set_file-requires-in-Move-clause-path
set_file-requires-in-Move-clause-path c =
    subst IsPath (sym c.as_str-in-Move-2.ensures) (subst (λ d. IfSome (target d) IsPath) c.in-Move.is (target-path c.a_path_is_its_parts.ensures.parts c.a_path_is_its_parts.ensures.rootless c.args.self.now c.args.command.now c.requires.unrefused))

pub make_folder-requires : goal.make_folder-requires
make_folder-requires c =
    subst IsPath (sym c.as_str-in-MakeFolder.ensures) (subst (λ d. IfSome (target d) IsPath) c.in-MakeFolder.is (target-path c.a_path_is_its_parts.ensures.parts c.a_path_is_its_parts.ensures.rootless c.args.self.now c.args.command.now c.requires.unrefused))

pub place-requires-clause-path : goal.place-requires-clause-path
place-requires-clause-path c =
    subst (λ name. IsPath (joined download name)) (sym c.as_str-in-Place.ensures)
    (subst (λ d. IfSome (target d) IsPath) c.in-Place.is (target-path c.a_path_is_its_parts.ensures.parts c.a_path_is_its_parts.ensures.rootless c.args.self.now c.args.command.now c.requires.unrefused))

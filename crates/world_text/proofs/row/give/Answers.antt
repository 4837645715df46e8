use Rattle.std.proofs.Common.{List, All, sym, subst}
use Rattle.std.proofs.lemmas.List.Elements.{All-push}
use Rattle.line_forms.specs.Versions.{IsVersion}
use Rattle.bf_world.specs.declared.answer.PackageRow.{PackageRow}
use Rattle.world_text.proofs.row.give.Goals as goal

pub returns-clause-sound : goal.returns-clause-sound
returns-clause-sound c =
    let P : PackageRow → Type 0 = λ row. IsVersion row.version in
    let Q : List PackageRow → Type 0 = λ rows. All P rows in
    subst Q (sym c.in_ok-push.ensures.ok) (All-push P c.args.program.now.gives c.args.row c.requires.program c.requires.version)

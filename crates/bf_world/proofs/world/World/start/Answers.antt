use Rattle.std.proofs.Common.{◌∙◌, ap, sym, subst, All}
use Rattle.std.specs.Map.{values_of}
use Rattle.std.specs.Option.{option_copied}
use Rattle.line_forms.specs.Versions.{IsVersion}
use Rattle.bf_world.specs.Done.{given}
use Rattle.bf_world.specs.Sound.{IsSoundProgram}
use Rattle.bf_world.proofs.SoundLemmas.{sound-at, sound-given}
use Rattle.bf_world.proofs.world.World.start.Goals as goal

pub add_started-requires-clause-versions : goal.add_started-requires-clause-versions
add_started-requires-clause-versions c =
    let i = c.self.invariant in
    let program = c.in-Some.program.now in
    let found = sym c.get.ensures ∙ ap option_copied c.in-Some.is in
    let gives = sound-at IsSoundProgram c.args.line.now program c.self.inside.programs i.programs found in
    let same = c.in_ok-packages.ensures ∙ ap (λ rows. given rows c.args.self.now.packages) c.as_slice.ensures ∙ ap (λ w. given program.gives w.packages) (sym c.self.view_is) in
    subst (λ m. All IsVersion (values_of m)) (sym same) (sound-given program.gives c.self.inside.packages gives i.packages)

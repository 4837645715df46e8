use Rattle.std.proofs.Common.{ℕ, List, [], ◌∷◌, ◌++◌, refl, ap, ◌∙◌}
use Rattle.line_forms.proofs.Sequences.{taken_all, taken_more}
use Rattle.line_forms.specs.Names.{IsName}
use Rattle.fix_site.specs.Actions.{computer_line}
use Rattle.fix_site.specs.Readings.{Anywhere}
use Rattle.fix_site.proofs.action_reader.take_computers.Goals as goal

pub loop-name-preserved : goal.loop-name-preserved
loop-name-preserved c =
    let taken = taken_more (Anywhere IsName) computer_line c.args.lines.now c.loop-name.lines c.take_computer.new.lines c.loop-name.names.items c.loop-name.names.items c.push.new.self.items c.in-Some.name.now
    c.loop-name.invariant.good c.loop-name.invariant.passes refl (c.in_ok-push.ensures.items ∙ ap (λ (n : List ℕ). c.loop-name.names.items ++ n ∷ []) c.in_ok-from_str.ensures) c.in-Some.ensures.0 c.in-Some.ensures.1 in
    record { good = taken.0; passes = taken.1 }

pub returns : goal.returns
returns c =
    taken_all (Anywhere IsName) computer_line c.args.lines.now c.loop-name.lines c.take_computer.new.lines c.loop-name.names.items c.loop-name.names.items c.from_vec.result
    c.loop-name.invariant.good c.loop-name.invariant.passes refl c.from_vec.ensures c.in_default.ensures.0 c.in_default.ensures.1

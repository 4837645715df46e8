use Rattle.std.proofs.Common.{◌≡◌, ◌≤◌, pos, w64, ap, ◌∙◌, arith}
use mir.Val.{to_z}
use Rattle.std.proofs.lemmas.Int.{to_z_pos}
use Rattle.rel_lexer.specs.Bytes.{number_of}
use Rattle.rel_lexer.proofs.Taking.{takes_number, faults_number}
use Rattle.rel_lexer.proofs.number.read_number.Goals as goal

pub returns-in-Some : goal.returns-in-Some
returns-in-Some c =
    let n = c.in-Some.ensures in
    let same : c.in-Some.number ≡ number_of c.split_run.result.0.now = n.0 in
    let fits : c.in-Some.number ≤ 9223372036854775807 = n.1 in
    let shown : to_z w64 c.in-Some.number ≡ pos (number_of c.split_run.result.0.now) = to_z_pos w64 c.in-Some.number (omega arith) ∙ ap pos same in
    rw shown (takes_number c.args.bytes.now c.split_run.result.0.now c.split_run.result.1.now c.requires.begins c.split_run.ensures (omega arith))

pub returns-in-None : goal.returns-in-None
returns-in-None c = faults_number c.args.at c.args.bytes.now c.split_run.result.0.now c.split_run.result.1.now c.of_bytes.result c.requires.begins c.split_run.ensures c.in-None.ensures c.of_bytes.ensures

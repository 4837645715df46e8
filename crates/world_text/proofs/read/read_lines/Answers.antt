use Rattle.std.proofs.Common.{ℕ, List, sym, subst, w64, to_z, of_z}
use Rattle.std.proofs.lemmas.Int.{to_z-of_z}
use Rattle.line_forms.specs.Versions.{IsVersion}
use Rattle.world_text.specs.Readings.{head_of}
use Rattle.line_forms.proofs.PlainLemmas.{moment_mag}
use Rattle.world_text.proofs.FieldLemmas.{offset_mag}
use Rattle.world_text.proofs.PassLemmas.{start_is, lines_read, lines_fail}
use Rattle.world_text.proofs.read.read_lines.Goals as goal

pub new-world-requires-clause-version : goal.new-world-requires-clause-version
new-world-requires-clause-version c =
    let P : List ℕ → Type 0 = λ v. IsVersion v in
    subst P (sym c.in_ok-version.ensures) c.in-Some.ensures.1.system_is.3

pub returns-in-Ok : goal.returns-in-Ok
returns-in-Ok c =
    let head = head_of c.in-Some.head in
    let o = to_z-of_z w64 head.offset (record { sfits = offset_mag head.offset c.in-Some.ensures.1.offset_is.2.0 }) in
    let m = to_z-of_z w64 head.moment (record { sfits = moment_mag head.moment c.in-Some.ensures.1.moment_is.2.0 }) in
    let start = start_is c.just-draft.result c.new-world.result c.in_ok-name.name c.in_ok-system.system c.in_ok-version.version (to_z w64 (of_z w64 head.offset)) (to_z w64 (of_z w64 head.moment)) head
    c.just-draft.ensures c.new-world.ensures c.in_ok-name.ensures c.in_ok-system.ensures c.in_ok-version.ensures o m in
    lines_read c.args.lines.now c.read_head.new.lines c.read_body.new.lines c.in-Some.ensures.0 head c.just-draft.result c.read_body.new.draft start c.in-Some.ensures.1 c.in-Some.ensures.2 c.in-Ok.ensures

pub returns-in-Err : goal.returns-in-Err
returns-in-Err c =
    let head = head_of c.in-Some.head in
    let o = to_z-of_z w64 head.offset (record { sfits = offset_mag head.offset c.in-Some.ensures.1.offset_is.2.0 }) in
    let m = to_z-of_z w64 head.moment (record { sfits = moment_mag head.moment c.in-Some.ensures.1.moment_is.2.0 }) in
    let start = start_is c.just-draft.result c.new-world.result c.in_ok-name.name c.in_ok-system.system c.in_ok-version.version (to_z w64 (of_z w64 head.offset)) (to_z w64 (of_z w64 head.moment)) head
    c.just-draft.ensures c.new-world.ensures c.in_ok-name.ensures c.in_ok-system.ensures c.in_ok-version.ensures o m in
    lines_fail c.args.lines.now c.read_head.new.lines c.read_body.new.lines c.in-Some.ensures.0 head c.just-draft.result c.read_body.new.draft c.in-Err.fault start c.in-Some.ensures.1 c.in-Some.ensures.2
    c.in-Err.ensures

use Rattle.std.proofs.Common.{ℕ, ℤ, List, Bool, sym, subst, w64, to_z, of_z}
use Rattle.std.proofs.lemmas.Int.{to_z-of_z}
use Rattle.line_forms.specs.Readers.{Passes, TakesExactly}
use Rattle.world_text.specs.Texts.{IsHead}
use Rattle.world_text.specs.Readings.{world_line}
use Rattle.line_forms.proofs.PlainLemmas.{moment_mag}
use Rattle.world_text.proofs.FieldLemmas.{offset_mag}
use Rattle.world_text.proofs.PassLemmas.{no_world, no_name, no_system, no_offset, no_moment, head_read}
use Rattle.world_text.proofs.head.read_head.Goals as goal

pub returns-then-not-take_exactly : goal.returns-then-not-take_exactly
returns-then-not-take_exactly c =
    let P : Bool → Type 0 = λ b. TakesExactly world_line c.args.lines.now c.take_exactly.new.self b in
    no_world c.args.lines.now c.take_exactly.new.self (subst P c.if-not-take_exactly.true c.take_exactly.ensures)

pub returns-in_default : goal.returns-in_default
returns-in_default c =
    let P : Bool → Type 0 = λ b. TakesExactly world_line c.args.lines.now c.take_exactly.new.self b in
    no_name c.args.lines.now c.take_exactly.new.self c.take_name.new.lines (subst P c.if-not-take_exactly.false c.take_exactly.ensures) c.in_default.ensures

pub returns-in_default-take_system : goal.returns-in_default-take_system
returns-in_default-take_system c =
    let P : Bool → Type 0 = λ b. TakesExactly world_line c.args.lines.now c.take_exactly.new.self b in
    no_system c.args.lines.now c.take_exactly.new.self c.take_name.new.lines c.take_system.new.lines c.in-Some.name.now (subst P c.if-not-take_exactly.false c.take_exactly.ensures)
    c.in-Some.ensures.0 c.in-Some.ensures.1 c.in_default-take_system.ensures

pub returns-in_default-take_offset : goal.returns-in_default-take_offset
returns-in_default-take_offset c =
    let P : Bool → Type 0 = λ b. TakesExactly world_line c.args.lines.now c.take_exactly.new.self b in
    let s = c.in-Some-take_system.ensures in
    no_offset c.args.lines.now c.take_exactly.new.self c.take_name.new.lines c.take_system.new.lines c.take_offset.new.lines c.in-Some.name.now s.0
    c.in-Some-take_system.system.version.now c.in-Some-take_system.system.name.now (subst P c.if-not-take_exactly.false c.take_exactly.ensures)
    c.in-Some.ensures.0 c.in-Some.ensures.1 s.1 s.2 c.in_default-take_offset.ensures

pub returns-in_default-take_moment : goal.returns-in_default-take_moment
returns-in_default-take_moment c =
    let P : Bool → Type 0 = λ b. TakesExactly world_line c.args.lines.now c.take_exactly.new.self b in
    let s = c.in-Some-take_system.ensures in
    no_moment c.args.lines.now c.take_exactly.new.self c.take_name.new.lines c.take_system.new.lines c.take_offset.new.lines c.take_moment.new.lines c.in-Some.name.now s.0
    c.in-Some-take_system.system.version.now c.in-Some-take_system.system.name.now c.in-Some-take_offset.offset (subst P c.if-not-take_exactly.false c.take_exactly.ensures)
    c.in-Some.ensures.0 c.in-Some.ensures.1 s.1 s.2 c.in-Some-take_offset.ensures.0 c.in-Some-take_offset.ensures.1 c.in_default-take_moment.ensures

pub returns : goal.returns
returns c =
    let P : Bool → Type 0 = λ b. TakesExactly world_line c.args.lines.now c.take_exactly.new.self b in
    let s = c.in-Some-take_system.ensures in
    let o = c.in-Some-take_offset.offset in
    let m = c.in-Some-take_moment.moment in
    let Q : ℤ → ℤ → Type 0 = λ x y. (first : List (List ℕ)) × IsHead first (record {
      name = c.in-Some.name.now;
      version = c.in-Some-take_system.system.version.now;
      system = c.in-Some-take_system.system.name.now;
      offset = x;
      moment = y;
    }) × Passes c.args.lines.now c.take_moment.new.lines first in
    let read = head_read c.args.lines.now c.take_exactly.new.self c.take_name.new.lines c.take_system.new.lines c.take_offset.new.lines c.take_moment.new.lines s.0
    (record {
      name = c.in-Some.name.now;
      version = c.in-Some-take_system.system.version.now;
      system = c.in-Some-take_system.system.name.now;
      offset = o;
      moment = m;
    }) (subst P c.if-not-take_exactly.false c.take_exactly.ensures)
    c.in-Some.ensures.0 c.in-Some.ensures.1 s.1 s.2 c.in-Some-take_offset.ensures.0 c.in-Some-take_offset.ensures.1
    c.in-Some-take_moment.ensures.0 c.in-Some-take_moment.ensures.1 in
    let same_offset = sym (to_z-of_z w64 o (record { sfits = offset_mag o c.in-Some-take_offset.ensures.0 })) in
    let same_moment = sym (to_z-of_z w64 m (record { sfits = moment_mag m c.in-Some-take_moment.ensures.0 })) in
    subst (λ (x : ℤ). Q x (to_z w64 (of_z w64 m))) same_offset (subst (λ (y : ℤ). Q o y) same_moment read)

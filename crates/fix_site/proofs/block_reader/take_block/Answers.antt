use Rattle.std.proofs.Common.{Option, refl, subst}
use Rattle.line_forms.specs.Readers.{ReadsPart}
use Rattle.std.proofs.lemmas.Bool.{iff_false}
use Rattle.fix_site.specs.declared.block.Block.{Block}
use Rattle.fix_site.specs.Blocks.{block_rest}
use Rattle.fix_site.specs.BlockHeads.{head_line, IsBlockOf}
use Rattle.fix_site.proofs.BlockLines.{no_head_ahead, cannot_follow, twice_ahead, block_taken, block_stuck}
use Rattle.fix_site.proofs.block_reader.take_block.Goals as goal

pub returns-in_default : goal.returns-in_default
returns-in_default c = let none = no_head_ahead c.args.name.now c.args.blocks.now c.args.lines.now c.requires c.in_default.ensures in (refl, none.0, none.1)

pub returns-then-has_id : goal.returns-then-has_id
returns-then-has_id c =
    (c.number.ensures, refl, twice_ahead c.args.name.now c.args.blocks.now c.in-Some.head c.args.lines.now c.in-Some.ensures.0 c.in-Some.ensures.2 (c.has_id.ensures.0 c.if-has_id.true))

pub returns-then-not-can_follow : goal.returns-then-not-can_follow
returns-then-not-can_follow c =
    let none = cannot_follow c.args.name.now c.args.blocks.now c.in-Some.head c.args.lines.now c.requires c.in-Some.ensures.1 c.in-Some.ensures.2
    (iff_false c.has_id.ensures c.if-has_id.false) (iff_false c.can_follow.ensures c.if-not-can_follow.true) in
    (refl, none.0, none.1)

pub returns-in-Some-2 : goal.returns-in-Some-2
returns-in-Some-2 c =
    let P : Option Block → Type 0 = λ o. ReadsPart (IsBlockOf c.args.blocks.now c.in-Some.head) block_rest c.skip_line.new.self c.take_block_behind.new.lines o in
    let read = subst P c.in-Some-2.is c.in_ok-block.ensures in
    let first = c.skip_line.ensures (head_line c.in-Some.head.kind c.in-Some.head.id) c.in-Some.ensures.2.0 c.in-Some.ensures.2.1 in
    block_taken c.args.name.now c.args.blocks.now c.in-Some.head c.in-Some-2.block c.args.lines.now c.skip_line.new.self c.take_block_behind.new.lines c.in-Some.ensures.0
    (iff_false c.has_id.ensures c.if-has_id.false) (c.can_follow.ensures.0 c.if-not-can_follow.false) first read.0 read.1

pub returns-in-None : goal.returns-in-None
returns-in-None c =
    let P : Option Block → Type 0 = λ o. ReadsPart (IsBlockOf c.args.blocks.now c.in-Some.head) block_rest c.skip_line.new.self c.take_block_behind.new.lines o in
    let first = c.skip_line.ensures (head_line c.in-Some.head.kind c.in-Some.head.id) c.in-Some.ensures.2.0 c.in-Some.ensures.2.1 in (
      c.number-in-None.ensures,
      block_stuck c.args.name.now c.args.blocks.now c.in-Some.head c.args.lines.now c.skip_line.new.self c.take_block_behind.new.lines c.in-Some.ensures.0 c.in-Some.ensures.1
          (iff_false c.has_id.ensures c.if-has_id.false) (c.can_follow.ensures.0 c.if-not-can_follow.false) first (subst P c.in-None.is c.in_ok-block.ensures),
    )

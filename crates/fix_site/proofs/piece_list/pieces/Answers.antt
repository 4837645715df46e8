use Rattle.std.proofs.Common.{◌<◌, ◌++◌, List, length, sym, ap, ◌∙◌, arith}
use Rattle.std.proofs.lemmas.Bool.{iff_false}
use Rattle.fix_site.specs.declared.block.Block.{Block}
use Rattle.fix_site.specs.Pieces.{block_pieces}
use Rattle.fix_site.proofs.PiecePlaces.{no_pieces, blocks_step}
use Rattle.fix_site.proofs.PieceSteps.{content_at, block_fits, line_behind}
use Rattle.fix_site.proofs.piece_list.pieces.Goals as goal

pub returns-then-has_actions : goal.returns-then-has_actions
returns-then-has_actions c =
    c.from_vec.ensures ∙ c.new.ensures.items ∙ sym (no_pieces c.args.site.now c.requires.good (sym c.as_str.ensures ∙ c.has_actions.ensures.0 c.if-has_actions.true))

pub add_block-requires-clause-some : goal.add_block-requires-clause-some
add_block-requires-clause-some c =
    let items : List Block = c.as_slice-block-items.result.now in
    let inside : c.loop-block.block-index < length items = search (arith, c.loop-block-test.true) in
    content_at c.args.site.now items c.loop-block.block-index c.block-item.result c.requires.good c.loop-block.invariant.items inside
    (λ named. iff_false c.has_actions.ensures c.if-has_actions.false (c.as_str.ensures ∙ named)) c.block-item.is

pub add_block-requires-clause-fits : goal.add_block-requires-clause-fits
add_block-requires-clause-fits c =
    let items : List Block = c.as_slice-block-items.result.now in
    let inside : c.loop-block.block-index < length items = search (arith, c.loop-block-test.true) in
    block_fits c.args.site.now items c.loop-block.block-index c.loop-block.list.line c.block-item.result c.loop-block.invariant.items inside c.loop-block.invariant.line c.block-item.is c.requires.lines

pub loop-block-preserved : goal.loop-block-preserved
loop-block-preserved c =
    let items : List Block = c.as_slice-block-items.result.now in
    let inside : c.loop-block.block-index < length items = search (arith, c.loop-block-test.true) in
    record {
      items = c.loop-block.invariant.items;
      pieces = blocks_step c.loop-block.list.pieces.items c.add_block.new.self.pieces.items 2 c.loop-block.list.line c.loop-block.block-index items c.block-item.result inside
          c.loop-block.invariant.pieces c.loop-block.invariant.line
          (c.in_ok-add_block.ensures.pieces ∙ ap (λ (b : Block). c.loop-block.list.pieces.items ++ block_pieces c.loop-block.list.line b) c.block-item.is);
      line = line_behind items c.loop-block.block-index c.loop-block.list.line c.add_block.new.self.line c.block-item.result inside c.loop-block.invariant.line c.block-item.is c.in_ok-add_block.ensures.line;
    }

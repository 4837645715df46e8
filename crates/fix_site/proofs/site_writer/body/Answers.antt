use Rattle.std.proofs.Common.{◌<◌, ◌++◌, List, length, ap, ◌∙◌, arith}
use Rattle.line_forms.specs.Lines.{lines_text}
use Rattle.fix_site.specs.declared.block.Block.{Block}
use Rattle.fix_site.specs.Blocks.{block_lines}
use Rattle.fix_site.proofs.Writings.{block_written}
use Rattle.fix_site.proofs.site_writer.body.Goals as goal

pub loop-block-preserved : goal.loop-block-preserved
loop-block-preserved c =
    let items : List Block = c.as_slice-block-items.result.now in
    let inside : c.loop-block.block-index < length items = search (arith, c.loop-block-test.true) in
    record {
      items = c.loop-block.invariant.items;
      text = block_written c.args.site.now.name c.args.site.now.version items c.loop-block.block-index c.block-item.result c.loop-block.out c.add_block.new.out inside c.loop-block.invariant.text
          (c.in_ok-add_block.ensures ∙ ap (λ (b : Block). c.loop-block.out ++ lines_text (block_lines b)) c.block-item.is);
    }

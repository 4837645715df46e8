use Rattle.std.proofs.Common.{◌≡◌, ◌∷◌, take}
use Rattle.std.specs.Prelude.{flat_map}
use Rattle.line_forms.specs.Lines.{lines_text}
use Rattle.fix_site.specs.Blocks.{block_lines}
use Rattle.fix_site.specs.Sites.{site_line}
use Rattle.fix_site.proofs.site_writer.body.Given as goal

abbrev pub invariant-loop-block : goal.invariant-loop-block
invariant-loop-block l = record {
  items : l.block-items ≡ l.site.blocks;
  text : l.out ≡ lines_text (site_line l.site.name l.site.version ∷ flat_map block_lines (take l.block-index l.block-items));
}

use Rattle.std.proofs.Common.{false, ap, ◌∙◌}
use Rattle.rel_print.proofs.WritingOn.{links_on, links_begin, links_more, parts_on, parts_begin}
use Rattle.rel_print.proofs.printing.+print.Goals as goal

pub write_links-loop-link-init : goal.write_links-loop-link-init
write_links-loop-link-init t c = ap (λ xs. links_on xs c.args.pen.now) c.as_slice-link-items.ensures ∙ links_begin c.args.links.now c.args.pen.now

pub write_links-loop-link-preserved : goal.write_links-loop-link-preserved
write_links-loop-link-preserved t c = links_more c.as_slice-link-items.result.now c.loop-link.link-index c.link-item.result c.loop-link.pen c.write_binary.new.pen c.write_tree.new.pen c.loop-link-test.true c.link-item.is c.in_ok-write_binary.ensures c.in_ok-write_tree.ensures ∙ c.loop-link.invariant

pub write_parts-loop-part-init : goal.write_parts-loop-part-init
write_parts-loop-part-init t c = ap (λ xs. parts_on false c.args.sign xs c.args.pen.now) c.as_slice-part-items.ensures ∙ parts_begin c.args.sign c.args.parts.now c.args.pen.now

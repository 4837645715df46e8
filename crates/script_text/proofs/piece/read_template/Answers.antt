use Rattle.std.proofs.Common.{subst, sym}
use Rattle.script_text.specs.Templates.{AreParts}
use Rattle.script_text.proofs.TemplateLemmas.{parts-snoc, part_shorter, part_utf8}
use Rattle.script_text.proofs.piece.read_template.Goals as goal

pub parts-smaller : goal.parts-smaller
parts-smaller c = part_shorter c.args.ending c.parts.rest.now c.in_ok-part.part c.in_ok-part.left.now c.in_ok-part.ensures

pub parts-preserved : goal.parts-preserved
parts-preserved c = record {
  parts = subst (λ ps. AreParts c.args.ending c.args.text.now ps c.in_ok-part.left.now) (sym c.in_ok-push.ensures.items)
      (parts-snoc c.args.ending c.args.text.now c.parts.parts.items c.parts.rest.now c.in_ok-part.part c.in_ok-part.left.now c.parts.invariant.parts c.in_ok-part.ensures);
  utf8 = part_utf8 c.args.ending c.parts.rest.now c.in_ok-part.part c.in_ok-part.left.now c.parts.invariant.utf8 c.in_ok-part.ensures;
}

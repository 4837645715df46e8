use Rattle.std.proofs.Common.{◌∙◌, arith}
use Rattle.fix_site.proofs.PiecePlaces.{fixlet_length, fixlet_added}
use Rattle.fix_site.proofs.piece_list.PieceList.add_fixlet.Goals as goal

pub skip-requires : goal.skip-requires
skip-requires c = omega (arith, fixlet_length c.args.fixlet.now, c.requires)

pub add_relevance-requires : goal.add_relevance-requires
add_relevance-requires c = omega (arith, fixlet_length c.args.fixlet.now, c.requires, c.skip.ensures.line)

pub add_success-requires : goal.add_success-requires
add_success-requires c = omega (arith, fixlet_length c.args.fixlet.now, c.requires, c.skip.ensures.line, c.in_ok-add_relevance.ensures.line)

pub add_script-requires : goal.add_script-requires
add_script-requires c = omega (arith, fixlet_length c.args.fixlet.now, c.requires, c.skip.ensures.line, c.in_ok-add_relevance.ensures.line, c.in_ok-add_success.ensures.line)

pub skip-requires-2 : goal.skip-requires-2
skip-requires-2 c = omega (arith, fixlet_length c.args.fixlet.now, c.requires, c.skip.ensures.line, c.in_ok-add_relevance.ensures.line, c.in_ok-add_success.ensures.line, c.in_ok-add_script.ensures.line)

pub returns : goal.returns
returns c = record {
  pieces = c.skip-2.ensures.pieces ∙ fixlet_added c.args.fixlet.now c.args.self.now.pieces.items c.skip.new.self.pieces.items c.add_relevance.new.self.pieces.items c.add_success.new.self.pieces.items c.add_script.new.self.pieces.items
      c.args.self.now.line c.skip.new.self.line c.add_relevance.new.self.line c.add_success.new.self.line
      c.skip.ensures.pieces c.skip.ensures.line c.in_ok-add_relevance.ensures.pieces c.in_ok-add_relevance.ensures.line c.in_ok-add_success.ensures.pieces c.in_ok-add_success.ensures.line c.in_ok-add_script.ensures.pieces;
  line = omega (arith, fixlet_length c.args.fixlet.now, c.skip.ensures.line, c.in_ok-add_relevance.ensures.line, c.in_ok-add_success.ensures.line, c.in_ok-add_script.ensures.line, c.skip-2.ensures.line);
}

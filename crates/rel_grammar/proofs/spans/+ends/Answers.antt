use Rattle.std.proofs.Common.{arith, ◌∙◌, ap, sym}
use Rattle.rel_grammar.specs.Spans.{end_of}
use Rattle.rel_grammar.proofs.EndsOfLists.{parts_ends, links_ends, link-right}
use Rattle.rel_grammar.proofs.spans.+ends.Goals as goal

pub links_end-returns-in-len1-up : goal.links_end-returns-in-len1-up
links_end-returns-in-len1-up t c = links_ends c.args.links.now c.as_slice.result.now c.last-item.result c.args.at c.end_of.result c.as_slice.ensures.value (omega (arith, c.in-len1-up.len_at_least)) c.last-item.is (c.end_of.ensures ∙ ap end_of (sym (link-right c.last-item.result)))

pub parts_end-returns-in-len1-up : goal.parts_end-returns-in-len1-up
parts_end-returns-in-len1-up t c = parts_ends c.args.parts.now c.as_slice.result.now c.last-item.result c.end_of.result c.as_slice.ensures.value (omega (arith, c.in-len1-up.len_at_least)) c.last-item.is c.end_of.ensures

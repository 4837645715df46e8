use Rattle.std.proofs.Common.{◌≡◌, drop}
use Rattle.rel_grammar.specs.Views.{shown_links, shown_parts}
use Rattle.rel_print.specs.Written.{written_links, written_parts}
use Rattle.rel_print.proofs.WritingOn.{links_on, parts_on}
use Rattle.rel_print.proofs.printing.+print.Given as goal

abbrev pub invariant-write_links-loop-link : goal.invariant-write_links-loop-link
invariant-write_links-loop-link l = links_on (drop l.link-index l.link-items) l.pen ≡ written_links (shown_links l.links) l.fn.pen

abbrev pub invariant-write_parts-loop-part : goal.invariant-write_parts-loop-part
invariant-write_parts-loop-part l = parts_on l.between l.sign (drop l.part-index l.part-items) l.pen ≡ written_parts l.sign (shown_parts l.parts) l.fn.pen

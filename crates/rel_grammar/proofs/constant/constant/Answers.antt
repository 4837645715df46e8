use Rattle.rel_grammar.specs.Reads.{constant_number, constant_string}
use Rattle.std.proofs.Common.{ap, ◌∙◌, w64}
use Rattle.std.proofs.lemmas.Int.{to_z-of_z}
use Rattle.rel_grammar.specs.Trees.{literal, numeral}
use Rattle.rel_grammar.proofs.Shown.{shown-Number}
use Rattle.rel_grammar.proofs.constant.constant.Goals as goal

pub returns-in-Some : goal.returns-in-Some
returns-in-Some c = (constant_number c.in-Some.place c.in-Some.number, c.in-Some.ensures.next, shown-Number c.in-Some.place _ ∙ ap (numeral c.in-Some.place) (to_z-of_z w64 c.in-Some.number c.in-Some.ensures.fits))

pub returns-in_ok-copy-in-Some-after_string : goal.returns-in_ok-copy-in-Some-after_string
returns-in_ok-copy-in-Some-after_string c = (constant_string c.in-Some-after_string.place c.in-Some-after_string.text.now, c.in-Some-after_string.ensures, c.literal.ensures ∙ ap (literal c.in-Some-after_string.place) c.in_ok-copy-in-Some-after_string.ensures)

use Rattle.std.proofs.Common.{◌≡◌, take}
use Rattle.script_text.proofs.template.TemplateList.copy.Given as goal

abbrev pub invariant-loop-template : goal.invariant-loop-template
invariant-loop-template l = l.copies.items ≡ take l.template-index l.template-items

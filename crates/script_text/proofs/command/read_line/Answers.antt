use Rattle.std.proofs.Common.{inr, sym, ◌∙◌}
use Rattle.std.proofs.lemmas.Bool.{false≢true}
use Rattle.script_text.specs.Lines.{CommandReads, LineReads}
use Rattle.script_text.proofs.FormLemmas.{carried}
use Rattle.script_text.proofs.command.read_line.Goals as goal

pub returns : goal.returns
returns c = carried CommandReads LineReads c.args.line.now c.trimmed-text.result.now c.read_command.result
    (λ outcome h. (c.trimmed-text.result.now, c.trimmed-text.ensures, inr ((λ n. false≢true (sym c.if-is_nothing.false ∙ c.is_nothing.ensures.1 n)), h)))
    c.read_command.ensures

use Rattle.std.proofs.Common.{ℕ, ◌<◌, get_or}
use Rattle.script_text.specs.declared.kind.Kind.{Kind}
use Rattle.script_text.specs.Forms.{kind_form, no_command}
use Rattle.script_text.proofs.command.read_command.Given as goal

abbrev pub invariant-loop-kind : goal.invariant-loop-kind
invariant-loop-kind l = (k : ℕ) (d : Kind) → k < l.kind-index → kind_form (get_or l.kind-items k d) l.text no_command

use Rattle.std.proofs.Common.{take}
use Rattle.script_text.proofs.Whole.{IsReadTo}
use Rattle.script_text.proofs.read.read_script.Given as goal

abbrev pub invariant-loop-index : goal.invariant-loop-index
invariant-loop-index l = IsReadTo (take l.index l.lines) l.reader

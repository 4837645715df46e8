use Rattle.std.proofs.Common.{[]}
use Rattle.rel_value.specs.Outcomes.{gives}
use Rattle.rel_value.specs.Plain.{words}
use Rattle.rel_trace.proofs.concatenation.joined_by.Goals as goal

pub returns-in-None : goal.returns-in-None
returns-in-None c = rw c.in-None.is (c.and_joined.ensures (gives (words [])) c.empty_text.ensures)

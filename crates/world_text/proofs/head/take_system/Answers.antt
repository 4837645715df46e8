use Rattle.std.proofs.Common.{refl}
use Rattle.world_text.specs.Texts.{IsSystemLine}
use Rattle.world_text.proofs.FieldLemmas.{same_line}
use Rattle.world_text.proofs.head.take_system.Goals as goal

pub returns-in_default-read_system_line : goal.returns-in_default-read_system_line
returns-in_default-read_system_line c = (
  refl,
  λ line version system more ahead h.
      c.in_default-read_system_line.ensures version system
      (same_line (λ l. IsSystemLine l version system) c.args.lines.now.lines c.in-Some.ensures.0 more c.in-Some.line.now line c.in-Some.ensures.1 ahead h),
)

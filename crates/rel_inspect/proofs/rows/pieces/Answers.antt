use Rattle.std.proofs.Common.{List, All, sym, subst}
use Rattle.rel_sources.specs.Traces.{Item}
use Rattle.rel_sources.specs.Words.{pieces_by}
use Rattle.rel_sources.specs.Draws.{IsSoundItem}
use Rattle.rel_inspect.proofs.Soundness.{texts-sound}
use Rattle.rel_inspect.proofs.rows.pieces.Goals as goal

pub several-requires : goal.several-requires
several-requires c = subst (λ (l : List Item). All IsSoundItem l) (sym c.new.ensures) (texts-sound (pieces_by c.in_ok-separator.separator c.in_ok-text.text))

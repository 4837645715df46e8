-- A chain with one more sign.
use Rattle.std.proofs.Common.{◌≡◌, sym, ap}
use Rattle.rel_lexer.specs.declared.place.Place.{Place}
use Rattle.rel_lexer.specs.declared.operator.BinarySign.{BinarySign}
use Rattle.rel_lexer.specs.declared.operator.BinarySign.TheVariants as sign
use Rattle.rel_trace.specs.Twos.{bar_kind}
use Rattle.rel_nodes.specs.Core.{Core, two_core, Alike, infix_core}
use Rattle.rel_nodes.proofs.Alikes.{alike_same, alike_trans}

pub linked_bar : (g : BinarySign) (p : Place) (n c d : Core) → g ≡ sign.Bar → Alike n (two_core bar_kind c d) → Alike n (infix_core g p c d)
linked_bar g p n c d e h =
    alike_trans n (two_core bar_kind c d) (infix_core g p c d) h
    (alike_same (two_core bar_kind c d) (infix_core g p c d) (ap (λ x. infix_core x p c d) (sym e)))

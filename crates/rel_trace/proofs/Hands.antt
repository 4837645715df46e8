-- The four ways in which a value is handed down are the forms' own.
use Rattle.std.proofs.Common.{◌≡◌, refl}
use Rattle.rel_trace.specs.declared.handing.Hand.{Hand}
use Rattle.rel_trace.specs.declared.handing.Hand.TheVariants.{Each, Argument, Left, Turned}
use Rattle.rel_trace.specs.Trace.{Trace, each}
use Rattle.rel_trace.specs.Scopes.{Around}
use Rattle.rel_trace.specs.Twos.{hand_kind, handed, two_whole}

pub handed-whole : (k : Hand) (a : Trace) (f : Around → Trace) (s : Around) → each a (handed k f s) ≡ two_whole (hand_kind k) a f s
handed-whole (Each h) a f s = refl
handed-whole Argument a f s = refl
handed-whole Left a f s = refl
handed-whole (Turned p) a f s = refl

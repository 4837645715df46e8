-- The same of what checking gives.
use Rattle.std.proofs.Common.{◌≡◌, false, Option, Ok}
use Rattle.bf_world.specs.Worlds.{WorldState}
use Rattle.rel_grammar.specs.Trees as tree
use Rattle.rel_value.specs.Plain.{Plain, PlainKind}
use Rattle.rel_types.specs.Agreement.{Agrees}
use Rattle.rel_types.specs.Plans.{PlainNode, is_plural, kind_of}
use Rattle.rel_types.specs.Typing.{typed}
use Rattle.rel_sources.specs.declared.scene.Scene.{Scene}
use Rattle.rel_nodes.specs.Meaning.{mean}
use Rattle.rel_kinds.specs.Giving.{GivesKind, GivesOne, IsThere}
use Rattle.rel_kinds.proofs.Evaluations.{parts-keep, parts-give}

-- what rel_types says of every plan, in its law on them
abbrev pub PlansAgree : Type 0
PlansAgree = (around : Option PlainKind) (t : tree.Plain) (n : PlainNode) → typed around t ≡ Ok n → Agrees around n

pub plans-keep : PlansAgree → (around : Option PlainKind) (t : tree.Plain) (n : PlainNode) → typed around t ≡ Ok n → (v : Option Plain) → IsThere around v → (w : WorldState) (s : Scene) → GivesKind (kind_of n) (mean w s n v)
plans-keep agree around t n e = parts-keep around n (agree around t n e)

pub plans-give : PlansAgree → (around : Option PlainKind) (t : tree.Plain) (n : PlainNode) → typed around t ≡ Ok n → is_plural n ≡ false → (v : Option Plain) → IsThere around v → (w : WorldState) (s : Scene) → GivesOne (mean w s n v)
plans-give agree around t n e = parts-give around n (agree around t n e)

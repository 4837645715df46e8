-- The limit of an evaluation, and what a question means.
use Rattle.std.specs.Prelude.{ℕ, zero, suc, None}
use Rattle.bf_world.specs.Worlds.{WorldState}
use Rattle.rel_types.specs.Plans.{PlainNode}
use Rattle.rel_sources.specs.declared.scene.Scene.{Scene}
use Rattle.rel_trace.specs.declared.kind.RelKind.TheVariants.{Steps}
use Rattle.rel_trace.specs.Trace.{Error, Look, Turn, Give, Trace, Ends, After}
use Rattle.rel_nodes.specs.Meaning.{mean}

-- a trace with at most n looks and turns: the next one is the error Steps, at its place
abbrev pub cut : ℕ → Trace → Trace
cut n (Ends e) = Ends e
cut n (After (Give v) t) = After (Give v) (cut n t)
cut zero (After (Look p k) t) = Ends (Error Steps p)
cut (suc n) (After (Look p k) t) = After (Look p k) (cut n t)
cut zero (After (Turn p) t) = Ends (Error Steps p)
cut (suc n) (After (Turn p) t) = After (Turn p) (cut n t)

-- the most looks and turns of one evaluation
abbrev pub limit : ℕ
limit = 1000000

-- what a question gives in a world and a scene, where nothing stands for `it` around it: its list meaning, within the limit
abbrev pub meaning : WorldState → Scene → PlainNode → Trace
meaning w s plan = cut limit (mean w s plan None)

-- What a new cursor has to give is what its question means.
use Rattle.std.proofs.Common.{◌≡◌, None, ap, ◌∙◌}
use Rattle.bf_world.specs.Worlds.{WorldState}
use Rattle.rel_sources.specs.declared.scene.Scene.{Scene}
use Rattle.rel_types.specs.Plans.{PlainNode}
use Rattle.rel_nodes.specs.declared.node.Node.{Node}
use Rattle.rel_nodes.specs.Core.{Alike, core, core_of}
use Rattle.rel_nodes.specs.Meaning.{mean}
use Rattle.rel_nodes.specs.Nodes.{rest, shape}
use Rattle.rel_nodes.proofs.Means.{means}
use Rattle.rel_eval.specs.declared.cursor.Cursor.{Cursor}
use Rattle.rel_eval.specs.declared.cursor.State.{State}
use Rattle.rel_eval.specs.declared.cursor.State.TheVariants.{Open}
use Rattle.rel_eval.specs.Cuts.{cut, limit, meaning}
use Rattle.rel_eval.specs.Cursors.{alone, cursor_rest, state_rest}

-- a node that was begun and reset has still to give what the plan means
pub begins : (w : WorldState) (s : Scene) (n m : Node) (plan : PlainNode) → rest w s n alone ≡ core w s (shape m) alone → Alike (shape m) (core_of plan) → rest w s n alone ≡ mean w s plan None
begins w s n m plan begun alike = begun ∙ alike w s alone ∙ means w s plan alone

pub opens : (w : WorldState) (s : Scene) (c : Cursor) (n : Node) (kept : Scene) (plan root : PlainNode) → c.node ≡ n → c.scene ≡ kept → c.budget ≡ limit → c.state ≡ Open → kept ≡ s →
    rest w s n alone ≡ mean w s root None → root ≡ plan → cursor_rest w c ≡ meaning w s plan
opens w s c n kept plan root node scene budget state same begun planned =
    ap (λ (x : State). state_rest x (cut c.budget (rest w c.scene c.node alone))) state
    ∙ ap (λ l. cut l (rest w c.scene c.node alone)) budget
    ∙ ap (λ (x : Scene). cut limit (rest w x c.node alone)) (scene ∙ same)
    ∙ ap (λ (x : Node). cut limit (rest w s x alone)) node
    ∙ ap (cut limit) begun
    ∙ ap (λ (x : PlainNode). meaning w s x) planned

-- Stretches without a value, one after another.
use Rattle.std.proofs.Common.{◌≡◌, List, [], ◌++◌, refl, sym, ap, ◌∙◌}
use Rattle.bf_world.specs.declared.key.Key.{Key}
use Rattle.rel_trace.specs.Trace.{Trace}
use Rattle.rel_nodes.specs.Steps.{prepend, keys, gives}
use Rattle.rel_nodes.proofs.Stretches.{prepend_append, keys_append, gives_append}
use Rattle.rel_eval.specs.Pulls.{Skips}

-- nothing between
pub same_skips : (t u : Trace) (looks : List Key) → t ≡ u → looks ≡ [] → Skips t looks u
same_skips t u looks e d = record { events = []; quiet = refl; whole = e; looked = d }

-- one stretch after another
pub skips_skips : (t u v : Trace) (m n : List Key) → Skips t m u → Skips u n v → Skips t (m ++ n) v
skips_skips t u v m n a b =
    record {
      events = a.events ++ b.events;
      quiet = gives_append a.events b.events ∙ ap (λ x. x ++ gives b.events) a.quiet ∙ b.quiet;
      whole = a.whole ∙ ap (prepend a.events) b.whole ∙ sym (prepend_append a.events b.events v);
      looked = ap (λ x. x ++ n) a.looked ∙ ap (λ x. keys a.events ++ x) b.looked ∙ sym (keys_append a.events b.events);
    }

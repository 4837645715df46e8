use Rattle.std.proofs.Common.{ap, ◌∙◌, string_bytes}
use Rattle.bf_world.specs.Maps.{put, by_bytes}
use Rattle.bf_world.proofs.MapLemmas.{put-by_bytes}
use Rattle.bf_world.proofs.text_map.TextMap.put.Goals as goal

pub returns-in-Ok-clause-ok : goal.returns-in-Ok-clause-ok
returns-in-Ok-clause-ok g c =
    let key = c.in_ok-key.key in
    ap by_bytes c.in-Ok.ensures.entries ∙ put-by_bytes key c.args.value c.self.inside.map.entries
    ∙ ap (put (string_bytes key) c.args.value) c.self.view_is ∙ ap (λ k. put k c.args.value c.args.self.now) c.in_ok-key.ensures.ok

use Rattle.std.proofs.Common.{◌++◌, ◌∙◌, sym, ap, string_bytes}
use Rattle.std.proofs.lemmas.Map.Iter.{rest_more}
use Rattle.std.specs.Map.Iter.{deref_pair}
use Rattle.bf_world.specs.Maps.{put, by_bytes}
use Rattle.bf_world.proofs.MapLemmas.{put-next}
use Rattle.bf_world.proofs.text_map.TextMap.copy.Goals as goal

pub loop-key-preserved : goal.loop-key-preserved
loop-key-preserved g c =
    let copies = c.loop-key.copies in
    let left = c.next.new.self in
    let step = rest_more deref_pair c.loop-key.key-iterator left c.next.result (c.in-Some.key, c.in-Some.value) c.in-Some.is c.next.ensures.steps in
    let whole = sym (ap (λ l. copies ++ by_bytes l) step) ∙ c.loop-key.invariant in
    let key = c.in-Some.key.now in
    ap (λ m. m ++ by_bytes left) (c.in_ok-put.ensures.ok ∙ ap (λ k. put k c.in_ok-copied.field-0 copies) c.as_str.ensures.value ∙ ap (λ v. put (string_bytes key) v copies) c.in_ok-copied.ensures)
    ∙ put-next c.args.self.now copies (string_bytes key) c.in-Some.value.now (by_bytes left) c.iter-key-items.ensures.ordered whole

use Rattle.std.proofs.Common.{◌≡◌, ℕ, List, ◌++◌, SFits, w64, rules, ◌∙◌, sym, ap, string_bytes}
use Rattle.std.proofs.lemmas.Int.{to_z-of_z}
use Rattle.std.proofs.lemmas.Map.Iter.{rest_more}
use Rattle.std.specs.Map.Iter.{deref_pair}
use Rattle.bf_world.specs.Maps.{put, by_bytes}
use Rattle.bf_world.proofs.MapLemmas.{put-next}
use Rattle.group_sample.proofs.moments.copy.Goals as goal

pub loop-name-preserved : goal.loop-name-preserved
loop-name-preserved c =
    let copies = c.loop-name.copies in
    let left = c.next.new.self in
    let step = rest_more deref_pair c.loop-name.name-iterator left c.next.result (c.in-Some.name, c.in-Some.moment) c.in-Some.is c.next.ensures.steps in
    let whole = sym (ap (λ l. copies ++ by_bytes l) step) ∙ c.loop-name.invariant in
    let key = c.in-Some.name.now in
    let fits : SFits w64 c.in-Some.moment.now = search rules in
    let putting : c.put.new.self ≡ put c.as_str.result.now c.in-Some.moment.now copies = simp to_z-of_z at c.in_ok-put.ensures.ok in
    ap (λ m. m ++ by_bytes left) (putting ∙ ap (λ (k : List ℕ). put k c.in-Some.moment.now copies) c.as_str.ensures.value)
    ∙ put-next c.args.moments.now copies (string_bytes key) c.in-Some.moment.now (by_bytes left) c.iter-name-items.ensures.ordered whole

use Rattle.std.proofs.Common.{List, ℕ, ◌++◌, sym, ap, ◌∙◌, string_bytes}
use Rattle.std.specs.Prelude.{flat_map}
use Rattle.std.specs.Map.Iter.{deref_pair}
use Rattle.std.proofs.lemmas.Map.Iter.{rest_more}
use Rattle.bf_world.specs.Maps.{by_bytes}
use Rattle.office_play.specs.Ending.{counted_line}
use Rattle.office_play.proofs.EndLines.{line_more}
use Rattle.office_play.proofs.ending.say_counts.Goals as goal

pub loop-name-preserved : goal.loop-name-preserved
loop-name-preserved c =
    let out = c.loop-name.out in
    let left = c.next.new.self in
    let line : List ℕ × ℕ → List ℕ = counted_line c.args.word.now in
    let step = rest_more deref_pair c.loop-name.name-iterator left c.next.result (c.in-Some.name, c.in-Some.count) c.in-Some.is c.next.ensures.steps in
    line_more line out c.say_words.new.out _ (string_bytes c.in-Some.name.now, c.in-Some.count.now) (by_bytes left)
    (sym (ap (λ l. out ++ flat_map line (by_bytes l)) step) ∙ c.loop-name.invariant)
    (c.in_ok-say_words.ensures ∙ ap (λ n. out ++ line (n, c.in-Some.count.now)) c.as_str.ensures.value)

use Rattle.std.proofs.Common.{◌≡◌, ◌<◌, true, length, sym, ap, ◌∙◌, arith}
use Rattle.std.specs.Str.{bytes_eq}
use Rattle.rel_sources.specs.Scenes.{value_of}
use Rattle.rel_sources.proofs.Naming.{named-here}
use Rattle.rel_sources.proofs.pair.Pairs.value_of.Goals as goal

pub returns-then-eq : goal.returns-then-eq
returns-then-eq c =
    let name = c.args.name.now in
    let items = c.as_slice-pair-items.result.now in
    let same : items ≡ c.args.self.now = c.as_slice-pair-items.ensures.value ∙ c.self.view_is in
    let below : c.loop-pair.pair-index < length items = omega arith in
    let named : bytes_eq c.pair-item.result.name name ≡ true = ap (λ n. bytes_eq n name) (sym c.as_str.ensures) ∙ sym c.eq.ensures ∙ c.if-eq.true in
    sym (ap (value_of name) (sym same) ∙ c.loop-pair.invariant ∙ named-here name items c.loop-pair.pair-index c.pair-item.result below c.pair-item.is named)

use Rattle.std.proofs.Common.{ℕ, List, sym, subst}
use Rattle.std.specs.Str.{IsCharBoundary}
use Rattle.rel_sources.proofs.pieces.Pieces.draw.Goals as goal

pub range_from-requires : goal.range_from-requires
range_from-requires c =
    λ positive. subst (λ (t : List ℕ). IsCharBoundary t c.in-Some.from) (sym c.as_str-text.ensures) (c.args.self.now.on_boundary c.in-Some.from c.in-Some.is positive)

pub further-self-requires-clause-taken : goal.further-self-requires-clause-taken
further-self-requires-clause-taken c =
    λ x e. subst (λ (t : List ℕ). IsCharBoundary t x) c.range_from.ensures.value (c.first_piece-first.ensures.boundary x e)

pub invariant_of-self-2 : goal.invariant_of-self-2
invariant_of-self-2 c = record {
  on_boundary = λ x e positive. subst (λ (t : List ℕ). IsCharBoundary t x) c.as_str-text.ensures (c.further-self.ensures.boundary x e positive);
}

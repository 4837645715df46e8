-- Lists that only clauses see.
use Rattle.std.specs.Prelude.{List, [], ◌∷◌, ◌++◌}
use Rattle.bf_machine.specs.declared.chain.Chain.{Chain, Nothing, Behind'}

-- the elements of a chain, in their order
abbrev pub elements_of : {T : Type 0} → Chain T → List T
elements_of Nothing = []
elements_of (Behind' shape before last) = elements_of before ++ last.value ∷ []

-- Which upstream each request of a round was asked of, where an agent has two.
use Rattle.std.specs.Prelude.{◌≡◌, ◌⊎◌, ◌++◌, ℕ, List, [], ◌∷◌, map, Some}
use Rattle.desk_base.specs.Counts.{Rose}
use Rattle.bf_machine.specs.Told.{Grows}
use Rattle.desk_door.specs.declared.asked.Asked.{Asked}
use Rattle.desk_door.specs.Links.{LinkView}
use Rattle.desk_rounds.specs.declared.way.Upstreams.{Upstreams}

-- an upstream was asked this
abbrev pub asked_of : List ℕ → List ℕ → Asked
asked_of upstream request = record { upstream = Some upstream; request = request }

-- No exchange failed, and the first upstream was asked each request.
pub record AsksFirst (two : Upstreams) (old new : LinkView) : Type 0 where
  pub requests : List (List ℕ)
  pub asked : Grows old.asked new.asked (map (asked_of two.first) requests)
  pub steady : new.faults ≡ old.faults

-- The first upstream was asked requests until one failed. The second was asked that one again, and each later one.
pub record AsksSecond (two : Upstreams) (old new : LinkView) : Type 0 where
  pub firsts : List (List ℕ)
  pub failed : List ℕ
  pub seconds : List (List ℕ)
  pub asked : Grows old.asked new.asked
      (map (asked_of two.first) (firsts ++ failed ∷ []) ++ map (asked_of two.second) (failed ∷ seconds))
  pub rose : Rose old.faults new.faults

-- one or the other
abbrev pub AsksEither : Upstreams → LinkView → LinkView → Type 0
AsksEither two old new = AsksFirst two old new ⊎ AsksSecond two old new

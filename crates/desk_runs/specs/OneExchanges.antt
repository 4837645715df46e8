-- Links that are told in full. Only the laws of what relays and agents do cite this.
use Rattle.std.specs.Prelude.{◌≡◌, ℕ, ◌-◌, ◌^◌, ◌<◌, List, Option, Some}
use Rattle.desk_door.specs.declared.asked.Asked.{Asked}
use Rattle.desk_door.specs.Links.{LinkView}

-- the upstream that is open, if one is, the requests that were asked, and the replies that are still to come
pub record LinkTold : Type 0 where
  pub upstream : Option (List ℕ)
  pub asked : List Asked
  pub replies : List (List ℕ)

-- A link tells this. Its count of faults can rise.
pub record TellsLink (told : LinkTold) (link : LinkView) : Type 0 where
  pub upstream : link.upstream ≡ told.upstream
  pub asked : link.asked ≡ Some told.asked
  pub replies : link.replies ≡ Some told.replies
  pub rises : link.faults < 2 ^ 64 - 1

-- Both links tell one thing.
abbrev pub TellAlike : LinkView → LinkView → Type 0
TellAlike one other = (told : LinkTold) × TellsLink told one × TellsLink told other

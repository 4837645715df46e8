-- What a link tells of itself, and what an exchange does.
use Rattle.std.specs.Prelude.{◌≡◌, ◌⊎◌, ℕ, List}
use Rattle.std.specs.declared.option.Option.{Option}
use Rattle.desk_base.specs.Counts.{CountsFaults}
use Rattle.desk_door.specs.declared.asked.Asked.{Asked}
use Rattle.desk_door.specs.declared.link.Exchanged.{Exchanged}
use Rattle.desk_door.specs.declared.link.Exchanged.TheVariants as of_exchange
use Rattle.desk_door.specs.Lists.{with_first, with_last}

-- the upstream that was opened last, if one was; the requests that it was asked, failed ones included, each with the upstream that was
-- open then, and the replies that are still to come, where it tells them; and its count of faults
pub record LinkView : Type 0 where
  pub upstream : Option (List ℕ)
  pub asked : Option (List Asked)
  pub replies : Option (List (List ℕ))
  pub faults : ℕ

-- The request is the last one that was asked. Where memory ran out it may not be.
abbrev pub Adds : Asked → Option (List Asked) → Exchanged → Option (List Asked) → Type 0
Adds request old of_exchange.Memory new = (new ≡ with_last request old) ⊎ (new ≡ old)
Adds request old answer new = new ≡ with_last request old

-- A reply that is answered is the first of those that were to come, and is used up. No other answer uses one up.
abbrev pub Replies : Option (List (List ℕ)) → Exchanged → Option (List (List ℕ)) → Type 0
Replies old (of_exchange.Reply bytes) new = old ≡ with_first bytes new
Replies old answer new = new ≡ old

-- The link was asked a request, and answered so.
pub record AsksOnce (request : List ℕ) (old : LinkView) (answer : Exchanged) (new : LinkView) : Type 0 where
  pub asked : Adds (record { upstream = old.upstream; request = request }) old.asked answer new.asked
  pub replies : Replies old.replies answer new.replies
  pub upstream : new.upstream ≡ old.upstream
  pub counts : CountsFaults (answer ≡ of_exchange.Failed) old.faults new.faults

-- What requests are asked of: an upstream, and a second one that is turned to.
use Rattle.std.specs.Prelude.{◌≡◌, ◌⊎◌, ℕ, Bool, true, is_some, List, [], ◌∷◌, Option, Some, None, Ok, Err}
use Rattle.std.specs.declared.result.Result.{Result}
use Rattle.std.specs.declared.alloc.AllocError.{AllocError}
use Rattle.desk_door.specs.declared.link.Exchanged.{Exchanged}
use Rattle.desk_door.specs.declared.link.Exchanged.TheVariants as of_exchange
use Rattle.desk_door.specs.Links.{AsksOnce, LinkView}
use Rattle.desk_rounds.specs.declared.way.Upstreams.{Upstreams}
use Rattle.desk_rounds.specs.Lines.{Line, second_upstream}

-- what the link tells, and the second upstream, where there is one that wasn't turned to
pub record Way : Type 0 where
  pub link : LinkView
  pub second : Option (List ℕ)

abbrev pub way : LinkView → Option (List ℕ) → Way
way link second = record { link = link; second = second }

-- The link is opened to the second upstream, and that is asked the same request. Before it there may be no memory.
abbrev pub TurnsTo : List ℕ → List ℕ → LinkView → Exchanged → LinkView → Type 0
TurnsTo request second old it new =
    ((it ≡ of_exchange.Memory) × (new ≡ old)) ⊎ AsksOnce request (record old { upstream = Some second }) it new

-- what comes of an exchange that failed: the second upstream is turned to, where there is one that wasn't
abbrev pub TurnsBy : List ℕ → Option (List ℕ) → LinkView → Exchanged → Way → Type 0
TurnsBy request None old it new = (it ≡ of_exchange.Failed) × (new ≡ way old None)
TurnsBy request (Some second) old it new = TurnsTo request second old it new.link × (new.second ≡ None)

-- what comes of the first exchange
abbrev pub AfterFirst : List ℕ → Exchanged → Way → Exchanged → Way → Type 0
AfterFirst request of_exchange.Failed old it new = TurnsBy request old.second old.link it new
AfterFirst request first old it new = (it ≡ first) × (new ≡ old)

-- A request is asked: where the exchange fails, of the second upstream too. Once turned to, that is the one that is asked.
abbrev pub Exchanges : List ℕ → Way → Exchanged → Way → Type 0
Exchanges request old it new =
    (first : Exchanged) × (link : LinkView) × AsksOnce request old.link first link × AfterFirst request first (way link old.second) it new

-- the line that is printed where there was a second upstream before, and it was turned to
abbrev pub switched_now : Bool → Option (List ℕ) → List Line
switched_now true None = second_upstream ∷ []
switched_now before second = []

abbrev pub switched : Way → Way → List Line
switched old new = switched_now (is_some old.second) new.second

-- it was. Only a private function cites this.
abbrev pub IsSwitched : Bool → Option (List ℕ) → Type 0
IsSwitched before second = (before ≡ true) × (second ≡ None)

-- the second upstream is answered, or there was no memory. Only a private function cites this.
abbrev pub OpensLink : Option Upstreams → LinkView → Result (Option (List ℕ)) AllocError → LinkView → Type 0
OpensLink None old result new = (result ≡ Ok None) × (new ≡ old)
OpensLink (Some two) old (Ok second) new = (second ≡ Some two.second) × (new ≡ record old { upstream = Some two.first })
OpensLink (Some two) old (Err error) new = new ≡ old

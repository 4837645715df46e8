-- Requests that may turn to a second upstream, and what is printed of that.
use Rattle.std.proofs.Common.{◌≡◌, ◌≢◌, inl, inr, ℕ, Bool, true, false, List, [], ◌++◌, Option, Some, None, Ok, Err, refl, sym, ap, subst}
use Rattle.std.specs.declared.result.Result.{Result}
use Rattle.desk_door.specs.declared.link.Exchanged.{Exchanged}
use Rattle.desk_door.specs.declared.link.Exchanged.TheVariants as of_exchange
use Rattle.desk_door.specs.Links.{AsksOnce, LinkView}
use Rattle.desk_rounds.specs.declared.asking.Miss.{Miss}
use Rattle.desk_rounds.specs.declared.asking.Miss.TheVariants as miss
use Rattle.desk_rounds.specs.declared.part.Next.{Next}
use Rattle.desk_rounds.specs.declared.part.Next.TheVariants as next
use Rattle.desk_rounds.specs.Asking.{AsksFor, AsksInVain, Means, Said}
use Rattle.desk_rounds.specs.Lines.{Line, lines_text}
use Rattle.desk_rounds.specs.Parts.{MissedBy, Prints}
use Rattle.desk_rounds.specs.Ways.{Exchanges, IsSwitched, TurnsBy, Way, switched_now, way}
use Rattle.desk_rounds.proofs.Parting.{printed_more}

-- ---- exchanges
pub first_answered : (request : List ℕ) (old : Way) (link : LinkView) (it : Exchanged) → it ≢ of_exchange.Failed → AsksOnce request old.link it link
    → Exchanges request old it (way link old.second)
first_answered request old link (of_exchange.Reply bytes) known asks = (of_exchange.Reply bytes, link, asks, (refl, refl))
first_answered request old link of_exchange.Failed known asks = absurd (known refl)
first_answered request old link of_exchange.Memory known asks = (of_exchange.Memory, link, asks, (refl, refl))

pub first_failed : (request : List ℕ) (old : Way) (link : LinkView) (it : Exchanged) (new : Way) → AsksOnce request old.link of_exchange.Failed link
    → TurnsBy request old.second link it new → Exchanges request old it new
first_failed request old link it new asks turns = (of_exchange.Failed, link, asks, turns)

-- there is no second upstream
pub turned_none : (request : List ℕ) (second left : Option (List ℕ)) (link : LinkView) → second ≡ None → left ≡ None
    → TurnsBy request second link of_exchange.Failed (way link left)
turned_none request second left link is none =
    subst (λ (s : Option (List ℕ)). TurnsBy request s link of_exchange.Failed (way link left)) (sym is) (refl, ap (way link) none)

-- there is one, and it was asked
pub turned_some : (request : List ℕ) (second left : Option (List ℕ)) (upstream : List ℕ) (old opened : LinkView) (it : Exchanged) (new : LinkView)
    → second ≡ Some upstream → left ≡ None → opened ≡ record old { upstream = Some upstream } → AsksOnce request opened it new → TurnsBy request second old it (way new left)
turned_some request second left upstream old opened it new is none opens asks =
    subst (λ (s : Option (List ℕ)). TurnsBy request s old it (way new left)) (sym is)
    (inr (subst (λ (l : LinkView). AsksOnce request l it new) opens asks), none)

-- there is one, whose name found no room
pub turned_short : (request : List ℕ) (second left : Option (List ℕ)) (upstream : List ℕ) (old new : LinkView) → second ≡ Some upstream → left ≡ None → new ≡ old
    → TurnsBy request second old of_exchange.Memory (way new left)
turned_short request second left upstream old new is none same =
    subst (λ (s : Option (List ℕ)). TurnsBy request s old of_exchange.Memory (way new left)) (sym is) (inl (refl, same), none)

-- ---- the line of the second upstream
module _ {V : Type 0} (means : Means V) (request : List ℕ) (old between : Way) where
  in_vain : (came : Result V Miss) → AsksFor request means old came between → AsksInVain request old between
  in_vain (Ok value) asks = inl (of_exchange.Reply asks.0, asks.1)
  in_vain (Err miss.NoAnswer) asks = inl (of_exchange.Failed, asks)
  in_vain (Err miss.BadAnswer) asks = inl (of_exchange.Reply asks.0, asks.1)
  in_vain (Err miss.Memory) asks = asks

  -- what is left of what came once the line was said came too
  pub came_said : (before : Bool) (second : Option (List ℕ)) (came result : Result V Miss) (out mid : List ℕ) → AsksFor request means old came between
      → Said before second came result out mid → AsksFor request means old result between
  came_said before second came result out mid asks says = elim says [
    | inl same ↦ subst (λ (r : Result V Miss). AsksFor request means old r between) (sym same.0) asks
    | inr short ↦ subst (λ (r : Result V Miss). AsksFor request means old r between) (sym short) (in_vain came asks)
  ]

pub prints_after : (then : Next) (said more : List Line) (before mid after : List ℕ) → mid ≡ before ++ lines_text said → Prints then more mid after
    → Prints then (said ++ more) before after
prints_after next.Item said more before mid after first rest = printed_more before mid after said more first rest
prints_after next.Part said more before mid after first rest = printed_more before mid after said more first rest
prints_after next.Memory said more before mid after first rest = tt

ok_err : {V : Type 0} (value : V) (why : Miss) → ◌≡◌ {A = Result V Miss} (Ok value) (Err why) → ⊥
ok_err value why e = cc

err_err : {V : Type 0} (why other : Miss) → ◌≡◌ {A = Result V Miss} (Err why) (Err other) → why ≡ other
err_err why other e = cc

memory_last : (then : Next) (lines : List Line) → MissedBy miss.Memory then lines → then ≡ next.Memory
memory_last then lines (inl by) = by.0
memory_last then lines (inr none) = none.0

module _ {V : Type 0} (before : Bool) (second : Option (List ℕ)) (came : Result V Miss) where
  -- where a value came the line was said
  pub said_ok : (value : V) (out mid : List ℕ) → Said before second came (Ok value) out mid → mid ≡ out ++ lines_text (switched_now before second)
  said_ok value out mid says = elim says [ inl same ↦ same.1 | inr short ↦ absurd (ok_err value miss.Memory short) ]

  -- and where nothing came it was, or memory ran out
  pub said_err : (why : Miss) (out mid after : List ℕ) (then : Next) (lines : List Line) → Said before second came (Err why) out mid
      → MissedBy why then lines → Prints then lines mid after → Prints then (switched_now before second ++ lines) out after
  said_err why out mid after then lines says by prints = elim says [
    | inl same ↦ prints_after then (switched_now before second) lines out mid after same.1 prints
    | inr short ↦
        let is = err_err why miss.Memory short in
        subst (λ (n : Next). Prints n (switched_now before second ++ lines) out after)
        (sym (memory_last then lines (subst (λ (w : Miss). MissedBy w then lines) is by))) tt
  ]

pub some_switched : (before : Bool) (second : Option (List ℕ)) → IsSwitched before second → switched_now before second ≢ []
some_switched true None is e = cc
some_switched true (Some upstream) is e = let none = is.1 in cc
some_switched false second is e = let never = is.0 in cc

-- What comes of a request, by a row of the table, where it is known what comes as a reply.
use Rattle.std.proofs.Common.{ℕ, List, inl, inr, Ok, Err, refl, subst}
use Rattle.std.specs.declared.result.Result.{Result}
use Rattle.desk_door.specs.declared.link.Exchanged.TheVariants as of_exchange
use Rattle.desk_rounds.specs.Ways.{Exchanges, Way}
use Rattle.desk_rounds.specs.declared.asking.Miss.{Miss}
use Rattle.desk_rounds.specs.declared.asking.Miss.TheVariants.{NoAnswer, BadAnswer, Memory}
use Rattle.desk_rounds.specs.declared.asking.Reply.{Reply}
use Rattle.desk_rounds.specs.Asking.{AsksFor, IsBad, IsThat, Means, MeansNothing, ReadsAs, ReadsBytes}

-- the bytes of a reply were read
pub read_came : (request : List ℕ) (old new : Way) (bytes : List ℕ) (result : Result Reply Miss)
    → Exchanges request old (of_exchange.Reply bytes) new → ReadsBytes IsThat bytes result → AsksFor request IsThat old result new
read_came request old new bytes (Ok reply) asks reads = (bytes, asks, reads)
read_came request old new bytes (Err NoAnswer) asks reads = absurd reads
read_came request old new bytes (Err BadAnswer) asks reads = (bytes, asks, reads)
read_came request old new bytes (Err Memory) asks reads = inl (of_exchange.Reply bytes, asks)

module _ {V : Type 0} (means : Means V) where
  -- bytes that are no reply are none of the row
  bad : (bytes : List ℕ) → IsBad IsThat bytes → IsBad means bytes
  bad bytes (inl none) = inl none
  bad bytes (inr some) = absurd (some.3 (record { status = some.0; body = some.1 }) (refl, refl))

  pub missed : (request : List ℕ) (old new : Way) (miss : Miss) → AsksFor request IsThat old (Err miss) new
      → AsksFor request means old (Err miss) new
  missed request old new NoAnswer asks = asks
  missed request old new BadAnswer asks = (asks.0, asks.1, bad asks.0 asks.2)
  missed request old new Memory asks = asks

  pub came : (request : List ℕ) (old new : Way) (reply : Reply) (result : Result V Miss) → AsksFor request IsThat old (Ok reply) new
      → ReadsAs means reply.status reply.body result → AsksFor request means old result new
  came request old new reply (Ok value) asks reads =
      let is = asks.2 in (
        asks.0,
        asks.1,
        (
          is.0,
          is.1,
          is.2,
          subst (λ s. means s is.1 value) is.3.0 (subst (λ b. means reply.status b value) is.3.1 reads),
        ),
      )
  came request old new reply (Err NoAnswer) asks reads = absurd reads
  came request old new reply (Err BadAnswer) asks reads =
      let is = asks.2 in (
        asks.0,
        asks.1,
        inr (
          is.0,
          is.1,
          is.2,
          subst (λ s. MeansNothing means s is.1) is.3.0 (subst (λ b. MeansNothing means reply.status b) is.3.1 reads),
        ),
      )
  came request old new reply (Err Memory) asks reads = inl (of_exchange.Reply asks.0, asks.1)

-- What is written of orders that are played.
use Rattle.std.specs.Prelude.{ℕ, List, [], Ok, Err}
use Rattle.std.specs.declared.option.Option.{Option}
use Rattle.std.specs.declared.result.Result.{Result}
use Rattle.std.specs.Io.KnownBytes.{Appends, Keeps}
use Rattle.desk_base.specs.Flow.{AppendsFront, AppendsSome}
use Rattle.server_text.specs.Entries.{Entry}
use Rattle.office_text.specs.declared.order.Order.{Order}
use Rattle.office_rules.specs.Offices.{Office}
use Rattle.office_rules.specs.Plays.{IsFrontOfPlay, IsPlayed, Obeys}
use Rattle.office_play.specs.declared.play.PlayEnd.{PlayEnd}
use Rattle.office_play.specs.declared.play.PlayEnd.TheVariants as end
use Rattle.office_play.specs.Kept.{KeptOffice}
use Rattle.office_play.specs.Played.{Did}

-- All of it was written, or, where a write failed or memory ran out, whole words and a front of what comes next.
abbrev pub WritesPlay : List Order → PlayEnd → Option (List ℕ) → Option (List ℕ) → Type 0
WritesPlay orders end.Done old new = AppendsSome old new (λ written. (o : Office) × IsPlayed orders written o)
WritesPlay orders end.Failed old new = AppendsSome old new (IsFrontOfPlay orders)
WritesPlay orders end.Memory old new = AppendsSome old new (IsFrontOfPlay orders)

-- how a play ended: as it was ended before its end, or at its end
abbrev pub end_of : Result (Unit {0}) PlayEnd → PlayEnd
end_of (Ok done) = end.Done
end_of (Err how) = how

-- A piece was written whole, or a front of it where a write failed, or nothing where memory ran out.
abbrev pub WritesOr : List ℕ → Option (List ℕ) → Result (Unit {0}) PlayEnd → Option (List ℕ) → Type 0
WritesOr piece old (Ok done) new = Appends old new piece
WritesOr piece old (Err end.Memory) new = Keeps old new
WritesOr piece old (Err other) new = AppendsFront old new piece

-- An order was played, where this was accepted, and what is printed of it was written so; or memory ran out in its play.
abbrev pub WritesOrder : Order → List Entry → KeptOffice → Option (List ℕ) → Result (Unit {0}) PlayEnd → KeptOffice → Option (List ℕ)
    → Type 0
WritesOrder order accepted old held (Err end.Memory) new then = Keeps held then
WritesOrder order accepted old held answer new then =
    (piece : List ℕ) × Did (Obeys order) accepted old [] new piece × WritesOr piece held answer then

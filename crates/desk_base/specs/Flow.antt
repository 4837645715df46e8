-- What a call does to the bytes that a source has left and a sink holds, where these are told.
use Rattle.std.specs.Prelude.{◌≡◌, ℕ, ◌<◌, ◌≤◌, List, ◌++◌, length, take, ⊤, None, Some}
use Rattle.std.specs.declared.option.Option.{Option}
use Rattle.std.specs.Io.KnownBytes.{Appends, Consumes, Keeps, IsAtEnd}
use Rattle.desk_base.specs.Counts.{CountsFaults, CountsOne}
use Rattle.desk_base.specs.Views.{SourceView, SinkView}
use Rattle.desk_base.specs.declared.source.Got.{Got}
use Rattle.desk_base.specs.declared.source.Got.TheVariants as got
use Rattle.desk_base.specs.declared.sink.Put.{Put}
use Rattle.desk_base.specs.declared.sink.Put.TheVariants as put

-- Known bytes grow by some front of bs.
abbrev pub AppendsFront : Option (List ℕ) → Option (List ℕ) → List ℕ → Type 0
AppendsFront None new bs = ⊤
AppendsFront (Some xs) None bs = ⊥
AppendsFront (Some xs) (Some ys) bs = (front : List ℕ) × (rest : List ℕ) × (bs ≡ front ++ rest) × (ys ≡ xs ++ front)

-- What one read does: n bytes of the room were taken, or nothing is left, or nothing was taken.
abbrev pub Gives : Option (List ℕ) → Option (List ℕ) → Got → List ℕ → Type 0
Gives old new (got.Some n) room = (0 < n) × (n ≤ length room) × Consumes old new (take n room)
Gives old new got.End room = Keeps old new × IsAtEnd new
Gives old new got.Failed room = Keeps old new

-- What one write does: the whole piece was appended, or a front of it.
abbrev pub Puts : Option (List ℕ) → Option (List ℕ) → Put → List ℕ → Type 0
Puts old new put.Done piece = Appends old new piece
Puts old new put.Failed piece = AppendsFront old new piece

-- A source was read into this room and answered so.
pub record Reads (room : List ℕ) (old : SourceView) (answer : Got) (new : SourceView) : Type 0 where
  pub gives : Gives old.left new.left answer room
  pub reads : CountsOne old.reads new.reads
  pub counts : CountsFaults (answer ≡ got.Failed) old.faults new.faults

-- A piece was written to a sink, which answered so.
pub record Writes (piece : List ℕ) (old : SinkView) (answer : Put) (new : SinkView) : Type 0 where
  pub puts : Puts old.held new.held answer piece
  pub counts : CountsFaults (answer ≡ put.Failed) old.faults new.faults

-- Known bytes grow by some bytes of which P holds.
abbrev pub AppendsSome : Option (List ℕ) → Option (List ℕ) → (List ℕ → Type 0) → Type 0
AppendsSome old new P = (bytes : List ℕ) × P bytes × Appends old new bytes

-- These bytes are a front of bs.
abbrev pub IsFront : List ℕ → List ℕ → Type 0
IsFront bs front = (rest : List ℕ) × (bs ≡ front ++ rest)

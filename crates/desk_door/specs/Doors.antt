-- What a door tells of itself, and what its calls do.
use Rattle.std.specs.Prelude.{◌≡◌, ℕ, Bool, List, [], ◌∷◌, None, Some}
use Rattle.std.specs.declared.option.Option.{Option}
use Rattle.desk_base.specs.Counts.{CountsFaults}
use Rattle.desk_base.specs.Flow.{Gives, Puts}
use Rattle.desk_base.specs.declared.source.Got.{Got}
use Rattle.desk_base.specs.declared.source.Got.TheVariants as got
use Rattle.desk_base.specs.declared.sink.Put.{Put}
use Rattle.desk_base.specs.declared.sink.Put.TheVariants as put
use Rattle.desk_door.specs.Lists.{with_first, with_last, with_next}

-- the ports at which it was opened, in order; what the peer says in each conversation that is still to come; what is left to read of the
-- present one; what was written in each that has begun, the present one first; whether it was told at the last close that a request was
-- read to its end, if there was a close, where it tells these; and its count of faults
pub record DoorView : Type 0 where
  pub ports : Option (List ℕ)
  pub coming : Option (List (List ℕ))
  pub left : Option (List ℕ)
  pub written : Option (List (List ℕ))
  pub ended : Option (Option Bool)
  pub faults : ℕ

-- what was written in the present conversation
abbrev pub here : Option (List (List ℕ)) → Option (List ℕ)
here None = None
here (Some []) = None
here (Some (present ∷ before)) = Some present

-- what was written in the conversations before the present one
abbrev pub earlier : Option (List (List ℕ)) → Option (List (List ℕ))
earlier None = None
earlier (Some []) = Some []
earlier (Some (present ∷ before)) = Some before

-- the ports after an opening: the port is one of them where it was done
abbrev pub ports_after : ℕ → Put → Option (List ℕ) → Option (List ℕ)
ports_after port put.Done ports = with_last port ports
ports_after port put.Failed ports = ports

-- The door was opened at a port, and answered so.
pub record OpensAt (port : ℕ) (old : DoorView) (answer : Put) (new : DoorView) : Type 0 where
  pub ports : new.ports ≡ ports_after port answer old.ports
  pub coming : new.coming ≡ old.coming
  pub left : new.left ≡ old.left
  pub written : new.written ≡ old.written
  pub ended : new.ended ≡ old.ended
  pub counts : CountsFaults (answer ≡ put.Failed) old.faults new.faults

-- The first of the conversations that were to come is the one to read, and the others are still to come.
abbrev pub Comes : Option (List (List ℕ)) → Option (List (List ℕ)) → Option (List ℕ) → Type 0
Comes None coming left = coming ≡ None
Comes (Some []) coming left = ⊥
Comes (Some (said ∷ more)) coming left = (coming ≡ Some more) × (left ≡ Some said)

-- No conversation has begun.
pub record BeginsNone (old new : DoorView) : Type 0 where
  pub coming : new.coming ≡ old.coming
  pub left : new.left ≡ old.left
  pub written : new.written ≡ old.written

-- The next conversation has begun, and nothing is written in it yet; or none has.
abbrev pub Begins : DoorView → Put → DoorView → Type 0
Begins old put.Done new = Comes old.coming new.coming new.left × (new.written ≡ with_first [] old.written)
Begins old put.Failed new = BeginsNone old new

-- The door was to begin the next conversation, and answered so.
pub record BeginsNext (old : DoorView) (answer : Put) (new : DoorView) : Type 0 where
  pub begins : Begins old answer new
  pub ports : new.ports ≡ old.ports
  pub ended : new.ended ≡ old.ended
  pub counts : CountsFaults (answer ≡ put.Failed) old.faults new.faults

-- The present conversation was read into this room, and the door answered so.
pub record ReadsInto (room : List ℕ) (old : DoorView) (answer : Got) (new : DoorView) : Type 0 where
  pub gives : Gives old.left new.left answer room
  pub ports : new.ports ≡ old.ports
  pub coming : new.coming ≡ old.coming
  pub written : new.written ≡ old.written
  pub ended : new.ended ≡ old.ended
  pub counts : CountsFaults (answer ≡ got.Failed) old.faults new.faults

-- A piece was written in the present conversation, and the door answered so. Before the first one nothing is written.
pub record WritesOut (piece : List ℕ) (old : DoorView) (answer : Put) (new : DoorView) : Type 0 where
  pub puts : Puts (here old.written) (here new.written) answer piece
  pub earlier : earlier new.written ≡ earlier old.written
  pub nowhere : old.written ≡ Some [] → new.written ≡ Some []
  pub ports : new.ports ≡ old.ports
  pub coming : new.coming ≡ old.coming
  pub left : new.left ≡ old.left
  pub ended : new.ended ≡ old.ended
  pub counts : CountsFaults (answer ≡ put.Failed) old.faults new.faults

-- The present conversation was ended, and the door was told whether the request was read to its end.
pub record EndsTalk (whole : Bool) (old new : DoorView) : Type 0 where
  pub ended : new.ended ≡ with_next whole old.ended
  pub ports : new.ports ≡ old.ports
  pub coming : new.coming ≡ old.coming
  pub left : new.left ≡ old.left
  pub written : new.written ≡ old.written
  pub faults : new.faults ≡ old.faults

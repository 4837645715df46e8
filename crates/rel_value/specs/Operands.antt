-- What a value stands for beside a sign or before a cast. A part stands for its own bytes.
use Rattle.std.specs.Prelude.{ℕ, ◌-◌, ◌≤◌, ℤ, Bool, List, length, take, drop}
use Rattle.std.specs.Str.{IsCharBoundary}
use Rattle.desk_base.specs.Moments.{IsMoment}
use Rattle.rel_value.specs.declared.operand.Operand.{Operand}
use Rattle.rel_value.specs.declared.operand.Operand.TheVariants as code
use Rattle.rel_value.specs.Plain.{Plain, boolean, integer, words, part, time, interval, version, setting, tuple, Parts, no_parts, more_parts}

pub data Stance : Type 0 where
  truth : Bool → Stance
  number : ℤ → Stance
  bytes : List ℕ → Stance
  instant : ℤ → Stance
  seconds : ℤ → Stance
  numbers : List ℕ → Stance
  other : Stance

-- the bytes of a text from one place up to another
abbrev pub stretch : List ℕ → ℕ → ℕ → List ℕ
stretch text from to = take (to - from) (drop from text)

abbrev pub stance : Plain → Stance
stance (boolean b) = truth b
stance (integer z) = number z
stance (words t) = bytes t
stance (part w from to) = bytes (stretch w from to)
stance (time z) = instant z
stance (interval z) = seconds z
stance (version ns) = numbers ns
stance _ = other

-- what an operand of the code stands for
abbrev pub taken : Operand → Stance
taken (code.Boolean b) = truth b
taken (code.Integer z) = number z
taken (code.Text t) = bytes t.now
taken (code.Time z) = instant z
taken (code.Interval z) = seconds z
taken (code.Version v) = numbers v.now
taken code.Other = other

-- A value as each call wants it: a part lies in its text, between characters, and no text has 2^32 bytes; a time and a date
-- are moments.
abbrev mutual
  pub IsSound : Plain → Type 0
  IsSound (words t) = length t ≤ 4294967295
  IsSound (part w from to) = (from ≤ to) × (to ≤ length w) × IsCharBoundary w from × IsCharBoundary w to × (length w ≤ 4294967295)
  IsSound (time z) = IsMoment z
  IsSound (setting n v d) = IsMoment d
  IsSound (tuple ps) = AreSound ps
  IsSound _ = Unit {0}

  pub AreSound : Parts → Type 0
  AreSound no_parts = Unit {0}
  AreSound (more_parts ps v) = AreSound ps × IsSound v

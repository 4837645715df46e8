-- The numbers by which reports name why an attempt failed, and what a copy of a cause takes.
use Rattle.std.specs.Prelude.{⊤, ℕ}
use Rattle.script_run.specs.declared.cause.Cause.{Cause}
use Rattle.script_run.specs.declared.cause.Cause.TheVariants.{Relevance, NotContinued, Refused, MachineFault, ParameterTwice, WrongSize, WrongDigest, NotServed, BadDate, NotMet}

abbrev pub cause_number : Cause → ℕ
cause_number (Relevance kind place) = 40
cause_number NotContinued = 41
cause_number (Refused reason) = 42
cause_number MachineFault = 43
cause_number ParameterTwice = 44
cause_number (WrongSize stated found) = 45
cause_number (WrongDigest stated found) = 46
cause_number (NotServed digest) = 47
cause_number BadDate = 48
cause_number NotMet = 49

-- It has texts, so that a copy of it takes memory.
abbrev pub HasTexts : Cause → Type 0
HasTexts (WrongDigest stated found) = ⊤
HasTexts _ = ⊥

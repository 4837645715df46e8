-- What a command takes from the source.
use Rattle.std.specs.Prelude.{◌≤◌, ◌<◌, ℕ, List, [], length}
use Rattle.std.specs.declared.option.Option.{Option}
use Rattle.std.specs.declared.result.Result.{Result}
use Rattle.std.specs.declared.result.Result.TheVariants.{Ok, Err}
use Rattle.std.specs.Io.KnownBytes.{Consumes, IsAtEnd, Keeps}
use Rattle.desk_base.specs.Whole.{Took, TookAll}
use Rattle.desk_top.specs.declared.command.DeskCommand.{DeskCommand}
use Rattle.desk_top.specs.declared.command.DeskCommand.TheVariants.{Qna, QnaWorld, Check, Office, Make, Serve, Relay, Agent, Session, Help}
use Rattle.desk_top.specs.declared.status.Status.{Status}
use Rattle.desk_top.specs.declared.status.Status.TheVariants.{InputTooLong, Source, Memory}

-- the most bytes that a source may give
abbrev pub input_limit : ℕ
input_limit = 8388608

-- The command took its whole input, of which P holds: all that the source gave up to its end, at most the limit, or nothing.
abbrev pub TookInput : DeskCommand → Option (List ℕ) → Option (List ℕ) → (List ℕ → Type 0) → Type 0
TookInput Qna old new P = TookAll old new (λ input. (length input ≤ input_limit) × P input)
TookInput QnaWorld old new P = TookAll old new (λ input. (length input ≤ input_limit) × P input)
TookInput Check old new P = TookAll old new (λ input. (length input ≤ input_limit) × P input)
TookInput Office old new P = TookAll old new (λ input. (length input ≤ input_limit) × P input)
TookInput (Make number) old new P = Keeps old new × P []
TookInput (Serve asked) old new P = Keeps old new × P []
TookInput (Relay asked) old new P = Keeps old new × P []
TookInput (Agent asked) old new P = Keeps old new × P []
TookInput (Session asked) old new P = TookAll old new (λ input. (length input ≤ input_limit) × P input)
TookInput Help old new P = Keeps old new × P []

-- At most the limit was taken.
abbrev pub TookPart : Option (List ℕ) → Option (List ℕ) → Type 0
TookPart old new = Took old new (λ taken. length taken ≤ input_limit)

-- More than the limit was taken.
abbrev pub TookTooMuch : Option (List ℕ) → Option (List ℕ) → Type 0
TookTooMuch old new = Took old new (λ taken. input_limit < length taken)

-- The whole input was read, or more than it may be was taken, or at most that until something failed.
abbrev pub ReadsInput : Option (List ℕ) → Option (List ℕ) → Result (List ℕ) Status → Type 0
ReadsInput old new (Ok input) = Consumes old new input × IsAtEnd new × (length input ≤ input_limit)
ReadsInput old new (Err InputTooLong) = TookTooMuch old new
ReadsInput old new (Err Source) = TookPart old new
ReadsInput old new (Err Memory) = TookPart old new
ReadsInput old new (Err _) = ⊥

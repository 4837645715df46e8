-- Files that a link is asked for.
use Rattle.std.specs.Prelude.{◌≡◌, ℕ, List, [], Option, Some, None, Ok, Err}
use Rattle.std.specs.declared.result.Result.{Result}
use Rattle.turn_lines.specs.declared.giver.FileAsked.{FileAsked}
use Rattle.turn_lines.specs.declared.giver.Given.{Given}
use Rattle.turn_lines.specs.declared.giver.Given.TheVariants as given
use Rattle.turn_lines.specs.Givers.{GiverView, Gives}
use Rattle.turn_lines.specs.TurnsWithFiles.{given_of}
use Rattle.desk_rounds.specs.declared.asking.Miss.{Miss}
use Rattle.desk_rounds.specs.declared.asking.Miss.TheVariants as miss
use Rattle.desk_rounds.specs.Asking.{AsksFor}
use Rattle.desk_rounds.specs.Replies.{TellsFile}
use Rattle.desk_rounds.specs.Requests.{file_request}
use Rattle.desk_rounds.specs.Ways.{Way}

-- what the files are asked of, and why the one that was asked for last didn't come, where one didn't
pub record FileSource : Type 0 where
  pub way : Way
  pub missed : Option Miss

-- what is answered by what came of asking for a file, and why it didn't come, where it didn't
abbrev pub GivenBy : Result (Option (List ℕ)) Miss → Option Miss → Given → Option Miss → Type 0
GivenBy (Ok came) old answer new = (answer ≡ given_of came) × (new ≡ old)
GivenBy (Err miss.Memory) old answer new = (answer ≡ given.Memory) × (new ≡ old)
GivenBy (Err why) old answer new = (answer ≡ given.NotGot) × (new ≡ Some why)

-- The link is asked for the file of a digest.
abbrev pub GivesFromLink : Gives FileSource
GivesFromLink old digest answer new =
    (came : Result (Option (List ℕ)) Miss) × AsksFor (file_request digest) TellsFile old.way came new.way
    × GivenBy came old.missed answer new.missed

-- what a giver of such files tells
abbrev pub files_at : List FileAsked → Way → Option Miss → GiverView FileSource
files_at asked by missed = record { asked = asked; source = record { way = by; missed = missed } }

-- nothing was asked for yet
abbrev pub unasked : Way → GiverView FileSource
unasked by = files_at [] by None

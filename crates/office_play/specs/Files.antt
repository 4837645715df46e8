-- How files come from the rows of a server's tables.
use Rattle.std.specs.Prelude.{◌≡◌, List}
use Rattle.desk_keep.specs.declared.change.Change.{Change}
use Rattle.server_text.specs.declared.reply.Reply.{Reply}
use Rattle.server_text.specs.declared.reply.Reply.TheVariants as told
use Rattle.server_text.specs.Entries.{Entry}
use Rattle.turn_lines.specs.declared.giver.Given.{Given}
use Rattle.turn_lines.specs.declared.giver.Given.TheVariants as given
use Rattle.turn_lines.specs.Givers.{Gives}
use Rattle.office_rules.specs.ComputerWords.{ServesFiles}
use Rattle.office_play.specs.Kept.{AreRowsOf}

-- As from a server that accepted whatever the rows are the tables of; the rows stay.
abbrev pub RowsServe : Gives (List Change)
RowsServe rows digest answer then =
    (accepted : List Entry) → AreRowsOf accepted rows → (then ≡ rows) × ServesFiles accepted digest answer accepted

-- what a reply to one who asks for a file brings
abbrev pub brought : Reply → Given
brought (told.Content bytes) = given.File bytes
brought told.NoSuch = given.NotServed
brought other = given.NotGot

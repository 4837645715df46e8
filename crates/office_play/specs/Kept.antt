-- An office as it is kept while it is played.
use Rattle.std.specs.Prelude.{◌≡◌, ℕ, List, []}
use Rattle.desk_keep.specs.declared.change.Change.{Change}
use Rattle.group_core.specs.Books.{BookState, empty_book}
use Rattle.relay_core.specs.Relays.{RelayState}
use Rattle.server_text.specs.Entries.{Entry}
use Rattle.server_core.specs.AcceptedTables.{view}
use Rattle.server_core.specs.CallAnswers.{AreAccepted}
use Rattle.delivery.specs.Messages.{Message}
use Rattle.office_rules.specs.Offices.{Office, PlayedComputer, most_kept}

-- The rows of the server's tables; the relays and the computers by their names, each with a map that tells where the one of a name
-- stands; the messages; and the book.
pub record KeptOffice : Type 0 where
  pub rows : List Change
  pub relays : List (List ℕ × RelayState)
  pub relay_places : List (List ℕ × ℕ)
  pub computers : List (List ℕ × PlayedComputer)
  pub computer_places : List (List ℕ × ℕ)
  pub messages : List Message
  pub book : BookState

-- an office before its first word
abbrev pub empty_kept : KeptOffice
empty_kept =
    record {
      rows = [];
      relays = [];
      relay_places = [];
      computers = [];
      computer_places = [];
      messages = [];
      book = empty_book most_kept;
    }

-- the rows are the tables of what was accepted
pub record AreRowsOf (accepted : List Entry) (rows : List Change) : Type 0 where
  pub rows_are : rows ≡ view accepted
  pub are_accepted : AreAccepted accepted

-- the rows are the tables of something that was accepted
abbrev pub HasAccepted : List Change → Type 0
HasAccepted rows = (accepted : List Entry) × AreRowsOf accepted rows

-- the office that it is, where this was accepted
abbrev pub office_of : List Entry → KeptOffice → Office
office_of accepted kept =
    record {
      accepted = accepted;
      relays = kept.relays;
      computers = kept.computers;
      messages = kept.messages;
      book = kept.book;
    }

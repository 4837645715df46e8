-- The words `publish`, `act`, `stop` and `file`: the server is asked, and its reply is printed.
use Rattle.std.specs.Prelude.{◌≡◌, ℕ, List, ◌++◌, codes}
use Rattle.server_text.specs.declared.request.Request.{Request}
use Rattle.server_text.specs.Entries.{Asked}
use Rattle.server_text.specs.RequestTexts.{Asks}
use Rattle.server_text.specs.Bodies.{body_of}
use Rattle.server_core.specs.DeskLimits.{desk_limits}
use Rattle.server_core.specs.CallAnswers.{after}
use Rattle.server_core.specs.Replies.{reply}
use Rattle.office_rules.specs.Offices.{Office}

-- a word, a colon and a space, and what is replied, which ends its line
unfoldable pub replied_line : List ℕ → List ℕ → List ℕ
replied_line word body = word ++ codes ": " ++ body

-- The server is asked what the request asks. Its reply is printed, and what it accepts is accepted from then on.
pub record AsksServer (word : List ℕ) (request : Request) (old : Office) (said : List ℕ) (new : Office) : Type 0 where
  pub asked : Asked
  pub asks : Asks request asked
  pub said_is : said ≡ replied_line word (body_of (reply old.accepted desk_limits asked))
  pub new_is : new ≡ record old { accepted = after old.accepted desk_limits asked }

-- What the words of an office do, as it is kept.
use Rattle.std.specs.Prelude.{◌≡◌, ℕ, List, ◌++◌}
use Rattle.desk_keep.specs.declared.change.Change.{Change}
use Rattle.server_text.specs.declared.reply.Reply.{Reply}
use Rattle.server_text.specs.declared.request.Request.{Request}
use Rattle.server_text.specs.Entries.{Asked, Entry}
use Rattle.server_text.specs.RequestTexts.{Asks}
use Rattle.server_core.specs.CallAnswers.{after}
use Rattle.server_core.specs.DeskLimits.{desk_limits}
use Rattle.server_core.specs.Replies.{reply}
use Rattle.office_rules.specs.Deeds.{Deed}
use Rattle.office_play.specs.Kept.{AreRowsOf, KeptOffice, office_of}
use Rattle.office_play.specs.Links.{IsGoodOffice}

-- ---- the server
-- The server was asked this, with these rows after it.
pub record Answered (accepted : List Entry) (request : Request) (answer : Reply) (rows : List Change) : Type 0 where
  pub asked : Asked
  pub asks : Asks request asked
  pub answer_is : answer ≡ reply accepted desk_limits asked
  pub rows_are : AreRowsOf (after accepted desk_limits asked) rows

-- so it is for whatever the rows before it are the tables of
abbrev pub AnswersOver : List Change → Request → Reply → List Change → Type 0
AnswersOver old request answer new = (accepted : List Entry) → AreRowsOf accepted old → Answered accepted request answer new

-- ---- deeds
-- A deed was done in the office of which this was accepted, and what is printed of it was appended. The office is a good one after it.
pub record Did (Does : Deed) (accepted : List Entry) (old : KeptOffice) (out : List ℕ) (new : KeptOffice) (then : List ℕ)
    : Type 0 where
  pub later : List Entry
  pub said : List ℕ
  pub does : Does (office_of accepted old) said (office_of later new)
  pub rows : AreRowsOf later new.rows
  pub out_is : then ≡ out ++ said
  pub good : IsGoodOffice new

-- so it is for whatever the rows before it are the tables of
abbrev pub Plays : Deed → KeptOffice → List ℕ → KeptOffice → List ℕ → Type 0
Plays Does old out new then = (accepted : List Entry) → AreRowsOf accepted old.rows → Did Does accepted old out new then

-- What the server of an office answers.
use Rattle.std.proofs.Common.{◌≡◌, ◌≢◌, false, arith, List, ◌++◌, Some, true≢false, refl, sym, ap, subst, ◌∙◌, ℕ}
use Rattle.desk_base.specs.Counts.{CountsFaults}
use Rattle.desk_keep.specs.declared.change.Change.{Change}
use Rattle.server_text.specs.declared.reply.Reply.{Reply}
use Rattle.server_text.specs.declared.reply.Reply.TheVariants as told
use Rattle.server_text.specs.declared.request.Request.{Request}
use Rattle.server_text.specs.Bodies.{body_of}
use Rattle.server_text.specs.Entries.{Asked, Entry}
use Rattle.server_text.specs.RequestTexts.{Asks}
use Rattle.server_core.specs.declared.limits.Limits.{Limits}
use Rattle.server_core.specs.AcceptedTables.{view}
use Rattle.server_core.specs.CallAnswers.{Answers, AreAccepted, AreTables, after, is_fault}
use Rattle.server_core.specs.DeskLimits.{desk_limits}
use Rattle.server_core.specs.Replies.{reply}
use Rattle.office_rules.specs.ServerWords.{AsksServer, replied_line}
use Rattle.office_play.specs.Kept.{KeptOffice, office_of}
use Rattle.office_play.specs.Links.{IsGoodOffice}
use Rattle.office_play.specs.Played.{AnswersOver, Plays}
use Rattle.office_play.proofs.GoodOffices.{rows_changed}

-- a reply that is no fault
said_by : (limits : Limits) (accepted : List Entry) (request : Request) (answer : Reply) (later : List Entry) → is_fault answer ≡ false
    → Answers limits accepted request answer later
    → (asked : Asked) × Asks request asked × (answer ≡ reply accepted limits asked) × (later ≡ after accepted limits asked)
said_by limits accepted request told.KeeperFault later f h = absurd (true≢false f)
said_by limits accepted request told.Memory later f h = absurd (true≢false f)
said_by limits accepted request other later f h = h

-- any other reply is no fault
pub not_fault : (answer : Reply) → answer ≢ told.KeeperFault → answer ≢ told.Memory → is_fault answer ≡ false
not_fault told.KeeperFault f m = absurd (f refl)
not_fault told.Memory f m = absurd (m refl)
not_fault other f m = refl

-- A device without faults never failed.
pub never_failed : (failed : Type 0) → CountsFaults failed 0 0 → failed → ⊥
never_failed failed counts h = let rose = counts.rose h in omega (arith, rose)

pub some_rows : (a b : List Change) → Some a ≡ Some b → a ≡ b
some_rows a b e = cc

pub answered : (request : Request) (answer : Reply) (old new : List Change) → is_fault answer ≡ false
    → ((accepted : List Entry) → AreTables (Some old) accepted
    → (later : List Entry) × Answers desk_limits accepted request answer later × AreTables (Some new) later)
    → ((limits : Limits) (accepted later : List Entry) (request : Request) (answer : Reply) → AreAccepted accepted
    → Answers limits accepted request answer later → AreAccepted later) → AnswersOver old request answer new
answered request answer old new f server leaves accepted rows =
    let got = server accepted (ap Some rows.rows_are) in
    let said = said_by desk_limits accepted request answer got.0 f got.1 in
    record {
      asked = said.0;
      asks = said.1;
      answer_is = said.2;
      rows_are = record {
        rows_are = some_rows new (view got.0) got.2 ∙ ap view said.3;
        are_accepted = subst AreAccepted said.3 (leaves desk_limits accepted got.0 request answer rows.are_accepted got.1);
      };
    }

-- a word that asks the server
pub asks_server : (old new : KeptOffice) (word : List ℕ) (request : Request) (answer : Reply) (out then : List ℕ) → IsGoodOffice old
    → new ≡ record old { rows = new.rows } → AnswersOver old.rows request answer new.rows
    → then ≡ out ++ replied_line word (body_of answer) → Plays (AsksServer word request) old out new then
asks_server old new word request answer out then good is answers out_is accepted rows =
    let a = answers accepted rows in
    record {
      later = after accepted desk_limits a.asked;
      said = replied_line word (body_of answer);
      does = record {
        asked = a.asked;
        asks = a.asks;
        said_is = ap (λ r. replied_line word (body_of r)) a.answer_is;
        new_is = ap (office_of (after accepted desk_limits a.asked)) is;
      };
      rows = a.rows_are;
      out_is = out_is;
      good = subst IsGoodOffice (sym is) (rows_changed old new.rows good);
    }

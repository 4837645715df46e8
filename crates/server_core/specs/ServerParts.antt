-- What the parts of a server answer. Only private functions cite these definitions.
use Rattle.std.specs.Prelude.{◌≡◌, Bool, true, false, if◌then◌else◌, List, Ok, Err, Some, is_none, unwrap_or, IfOk, IsErrOf, OnErr}
use Rattle.std.specs.declared.option.Option.{Option}
use Rattle.std.specs.declared.result.Result.{Result}
use Rattle.desk_base.specs.Counts.{CountsFaults}
use Rattle.desk_keep.specs.declared.change.Change.{Change}
use Rattle.desk_keep.specs.Tables.{put_all}
use Rattle.desk_keep.specs.Views.{KeeperView}
use Rattle.desk_keep.specs.Calls.{IfTold, OnlyReads}
use Rattle.server_core.specs.declared.limits.Limits.{Limits}
use Rattle.server_text.specs.declared.request.Request.{Request}
use Rattle.server_text.specs.declared.reply.Reply.{Reply}
use Rattle.server_text.specs.declared.reply.Reply.TheVariants.{BadText, KeeperFault, Memory}
use Rattle.server_core.specs.declared.stop.Stop.{Stop}
use Rattle.server_core.specs.declared.stop.Stop.TheVariants as stop
use Rattle.server_text.specs.declared.text_error.TextError.{TextError}
use Rattle.server_text.specs.declared.text_error.TextError.TheVariants as text
use Rattle.server_text.specs.Entries.{Entry, Asked}
use Rattle.server_text.specs.RequestTexts.{Asks}
use Rattle.server_core.specs.Replies.{accepting_reply, reply, reply_to}
use Rattle.server_core.specs.CallAnswers.{after, is_fault, TellsBad}
use Rattle.server_core.specs.AcceptedTables.{puts, view}

-- what is answered to a text that isn't read
abbrev pub IsUnread : TextError → Result Reply Stop → Type 0
IsUnread (text.BadText line) answered = answered ≡ Ok (BadText line)
IsUnread text.Memory answered = answered ≡ Err stop.Memory

-- a reply that tells of no fault and of no bad text
abbrev pub is_plain : Reply → Bool
is_plain (BadText line) = false
is_plain KeeperFault = false
is_plain Memory = false
is_plain other = true

-- the rows after this came, where it is accepted or not
abbrev pub rows_after : Limits → List Change → Entry → List Change
rows_after limits rows entry = if is_none (reply_to limits rows entry) then put_all (puts rows entry) rows else rows

-- The reply to what came, over these rows, and the rows after it.
abbrev pub AnswersEntry : Limits → List Change → Entry → Reply → Option (List Change) → Type 0
AnswersEntry limits rows entry answered new =
    (answered ≡ unwrap_or (reply_to limits rows entry) (accepting_reply entry)) × (new ≡ Some (rows_after limits rows entry))

-- The reply to a request, and the tables after it.
abbrev pub AnswersRequest : Limits → Request → Reply → Option (List Change) → Option (List Change) → Type 0
AnswersRequest limits request answered old new =
    (accepted : List Entry) → old ≡ Some (view accepted)
    → (asked : Asked) × Asks request asked × (answered ≡ reply accepted limits asked)
    × (new ≡ Some (view (after accepted limits asked)))

-- This was learned of the rows that are told; nothing changed but the count of faults, which rose where a call of the keeper failed.
pub record Learns {A : Type 0} (of : List Change → A) (old : KeeperView) (result : Result A Stop) (new : KeeperView)
    : Type 0 where
  pub is : IfOk result (λ answer. IfTold old.rows (λ rows. answer ≡ of rows))
  pub only : OnlyReads (IsErrOf result stop.Keeper) old new

-- What stopped left the rows; the count of faults rose where a call of the keeper failed.
pub record KeepsAtStop {A : Type 0} (old : KeeperView) (result : Result A Stop) (new : KeeperView) : Type 0 where
  pub err : OnErr result (new.rows ≡ old.rows)
  pub counts : CountsFaults (IsErrOf result stop.Keeper) old.faults new.faults

-- What came was answered over the rows that are told.
pub record Takes (limits : Limits) (entry : Entry) (old : KeeperView) (result : Result Reply Stop) (new : KeeperView)
    : Type 0 where
  pub plain : IfOk result (λ reply. is_plain reply ≡ true)
  pub answers : IfOk result (λ reply. IfTold old.rows (λ rows. AnswersEntry limits rows entry reply new.rows))
  pub ends : KeepsAtStop old result new

-- A request was answered, but for a fault or want of memory.
pub record AnswersSoundly (limits : Limits) (request : Request) (old : KeeperView) (result : Result Reply Stop) (new : KeeperView)
    : Type 0 where
  pub sound : IfOk result (λ reply. is_fault reply ≡ false)
  pub bad : IfOk result (TellsBad request)
  pub answers : IfOk result (λ reply. AnswersRequest limits request reply old.rows new.rows)
  pub ends : KeepsAtStop old result new

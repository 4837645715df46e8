-- A request and its reply.
use Rattle.std.proofs.Common.{◌≡◌, ℕ, List, ◌∷◌, Bool, true, false, cond, Some, refl, sym, ap, ◌∙◌, subst, arith}
use Rattle.std.specs.Prelude.{Ok, Err, IfOk}
use Rattle.std.specs.declared.result.Result.{Result}
use Rattle.std.specs.declared.option.Option.{Option}
use Rattle.fix_site.specs.declared.site.Site.{Site}
use Rattle.fix_site.specs.declared.action.Action.{Action}
use Rattle.report_text.specs.declared.report.Report.{Report}
use Rattle.desk_base.specs.Counts.{CountsFaults}
use Rattle.desk_keep.specs.declared.change.Change.{Change}
use Rattle.server_core.specs.declared.limits.Limits.{Limits}
use Rattle.server_text.specs.declared.reply.Reply.{Reply}
use Rattle.server_text.specs.declared.reply.Reply.TheVariants as told
use Rattle.server_text.specs.declared.request.Request.{Request}
use Rattle.server_text.specs.declared.request.Request.TheVariants as request
use Rattle.server_core.specs.declared.stop.Stop.{Stop}
use Rattle.server_text.specs.declared.text_error.TextError.{TextError}
use Rattle.server_text.specs.declared.text_error.TextError.TheVariants as text
use Rattle.desk_keep.specs.Views.{KeeperView}
use Rattle.server_core.specs.CallAnswers.{Answers, AreTables, TellsBad, after, is_accepted, is_fault}
use Rattle.server_text.specs.Entries.{Asked, Bad, Enters, Entry, Issued, Published, Reported}
use Rattle.server_core.specs.ServerParts.{AnswersEntry, AnswersRequest, AnswersSoundly, IsUnread, Learns, Takes, is_plain}
use Rattle.server_text.specs.RequestTexts.{Asks, ReadsIssued, ReadsPublished, ReadsReported, Tells}
use Rattle.server_core.specs.Replies.{reply}
use Rattle.server_core.specs.AcceptedTables.{view}
use Rattle.server_core.proofs.Accepting.{not_so}

-- ---- plain replies

pub plain_sound : (reply : Reply) → is_plain reply ≡ true → is_fault reply ≡ false
plain_sound told.KeeperFault h = absurd (not_so h)
plain_sound told.Memory h = absurd (not_so h)
plain_sound told.Ok h = refl
plain_sound told.Again h = refl
plain_sound (told.Digest digest) h = refl
plain_sound (told.Sites sites) h = refl
plain_sound (told.Site text) h = refl
plain_sound told.Same h = refl
plain_sound (told.Content bytes) h = refl
plain_sound (told.Rows rows) h = refl
plain_sound (told.BadText line) h = refl
plain_sound (told.Conflict digest) h = refl
plain_sound told.NoSuch h = refl
plain_sound (told.Older version) h = refl
plain_sound (told.Full limit) h = refl

pub plain_tells : (asked : Request) (reply : Reply) → is_plain reply ≡ true → TellsBad asked reply
plain_tells asked told.KeeperFault h = tt
plain_tells asked told.Memory h = tt
plain_tells asked told.Ok h = tt
plain_tells asked told.Again h = tt
plain_tells asked (told.Digest digest) h = tt
plain_tells asked (told.Sites sites) h = tt
plain_tells asked (told.Site text) h = tt
plain_tells asked told.Same h = tt
plain_tells asked (told.Content bytes) h = tt
plain_tells asked (told.Rows rows) h = tt
plain_tells asked (told.BadText line) h = absurd (not_so h)
plain_tells asked (told.Conflict digest) h = tt
plain_tells asked told.NoSuch h = tt
plain_tells asked (told.Older version) h = tt
plain_tells asked (told.Full limit) h = tt

-- ---- what is accepted or not

view_after : (b : Bool) (entry : Entry) (accepted : List Entry) → Some (cond b (view (entry ∷ accepted)) (view accepted)) ≡ Some (view (cond b (entry ∷ accepted) accepted))
view_after true entry accepted = refl
view_after false entry accepted = refl

-- the answer to what may be accepted
pub entry_answered : (limits : Limits) (asked : Request) (entry : Entry) (answered : Reply) (old new : Option (List Change)) → Asks asked (Enters entry)
    → ((rows : List Change) → old ≡ Some rows → AnswersEntry limits rows entry answered new) → AnswersRequest limits asked answered old new
entry_answered limits asked entry answered old new asks h = λ accepted told.
    let answer = h (view accepted) told in
    (Enters entry, asks, answer.0, answer.1 ∙ view_after (is_accepted accepted limits entry) entry accepted)

-- the answer to a question, or to a bad text, which changes nothing
pub question_answered : (limits : Limits) (asked : Request) (question : Asked) (answered : Reply) (old new : Option (List Change)) → Asks asked question → ((accepted : List Entry) → after accepted limits question ≡ accepted)
    → new ≡ old → ((accepted : List Entry) → old ≡ Some (view accepted) → answered ≡ reply accepted limits question) → AnswersRequest limits asked answered old new
question_answered limits asked question answered old new asks same kept h = λ accepted told.
    (question, asks, h accepted told, kept ∙ told ∙ ap (λ l. Some (view l)) (sym (same accepted)))

pub bad_publish : (text : List ℕ) (line : ℕ) → ReadsPublished text (Err line) → Asks (request.Publish text) (Bad line)
bad_publish text line reads = (Err line, reads, refl)

pub bad_act : (text : List ℕ) (line : ℕ) → ReadsIssued text (Err line) → Asks (request.Act text) (Bad line)
bad_act text line reads = (Err line, reads, refl)

pub bad_report : (text : List ℕ) (line : ℕ) → ReadsReported text (Err line) → Asks (request.Report text) (Bad line)
bad_report text line reads = (Err line, reads, refl)

pub good_publish : (text : List ℕ) (site : Site) → ReadsPublished text (Ok site) → Asks (request.Publish text) (Enters (Published site))
good_publish text site reads = (Ok site, reads, refl)

pub good_act : (text : List ℕ) (action : Action) → ReadsIssued text (Ok action) → Asks (request.Act text) (Enters (Issued action))
good_act text action reads = (Ok action, reads, refl)

pub good_report : (text : List ℕ) (report : Report) → ReadsReported text (Ok report) → Asks (request.Report text) (Enters (Reported report))
good_report text report reads = (Ok report, reads, refl)

-- ---- results

-- nothing failed
pub none_failed : {failed : Type 0} (count : ℕ) → ¬ failed → CountsFaults failed count count
none_failed count none = record { rose = λ is. absurd (none is); steady = λ _. refl; later = omega arith }

-- what came was taken
pub takes_answers : (limits : Limits) (asked : Request) (entry : Entry) (old : KeeperView) (result : Result Reply Stop) (new : KeeperView) → Asks asked (Enters entry)
    → Takes limits entry old result new → AnswersSoundly limits asked old result new
takes_answers limits asked entry old (Ok reply) new asks takes = record {
  sound = plain_sound reply takes.plain;
  bad = plain_tells asked reply takes.plain;
  answers = entry_answered limits asked entry reply old.rows new.rows asks takes.answers;
  ends = takes.ends;
}
takes_answers limits asked entry old (Err stop) new asks takes = record { sound = tt; bad = tt; answers = tt; ends = takes.ends }

-- a question, of which this is the reply over the rows
pub learns_answers : (limits : Limits) (asked : Request) (question : Asked) (over : List Change → Reply) (old : KeeperView) (result : Result Reply Stop) (new : KeeperView) → Asks asked question
    → ((accepted : List Entry) → after accepted limits question ≡ accepted) → ((accepted : List Entry) → over (view accepted) ≡ reply accepted limits question)
    → IfOk result (λ reply. is_plain reply ≡ true) → Learns over old result new → AnswersSoundly limits asked old result new
learns_answers limits asked question over old (Ok reply) new asks same is plain learns = record {
  sound = plain_sound reply plain;
  bad = plain_tells asked reply plain;
  answers = question_answered limits asked question reply old.rows new.rows asks same learns.only.rows (λ accepted told. learns.is (view accepted) told ∙ is accepted);
  ends = record { err = tt; counts = learns.only.counts };
}
learns_answers limits asked question over old (Err stop) new asks same is plain learns = record {
  sound = tt;
  bad = tt;
  answers = tt;
  ends = record { err = learns.only.rows; counts = learns.only.counts };
}

-- a text that isn't read
pub unread_answers : (limits : Limits) (asked : Request) (error : TextError) (result : Result Reply Stop) (old : KeeperView) → ((line : ℕ) → error ≡ text.BadText line → Asks asked (Bad line))
    → IsUnread error result → AnswersSoundly limits asked old result old
unread_answers limits asked (text.BadText line) result old asks is =
    let P : Result Reply Stop → Type 0 = λ r. AnswersSoundly limits asked old r old in
    subst P (sym is) (record {
      sound = refl;
      bad = asks line refl;
      answers = question_answered limits asked (Bad line) (told.BadText line) old.rows old.rows (asks line refl) (λ accepted. refl) refl (λ accepted told. refl);
      ends = record { err = tt; counts = none_failed old.faults (λ is. cc) };
    })
unread_answers limits asked text.Memory result old asks is =
    let P : Result Reply Stop → Type 0 = λ r. AnswersSoundly limits asked old r old in
    subst P (sym is) (record { sound = tt; bad = tt; answers = tt; ends = record { err = refl; counts = none_failed old.faults (λ is. cc) } })

-- the line that was told of a text
pub told_line : {V : Type 0} (Reads : Result V ℕ → Type 0) (error : TextError) → Tells Reads (Err error) → (line : ℕ) → error ≡ text.BadText line → Reads (Err line)
told_line {V} Reads error tells line is = let P : TextError → Type 0 = λ e. Tells Reads (Err e) in subst P is tells

-- ---- one call

not_untrue : true ≡ false → ⊥
not_untrue e = cc

call_answers : (limits : Limits) (accepted : List Entry) (request : Request) (answered : Reply) (asked : Asked) → is_fault answered ≡ false → Asks request asked → answered ≡ reply accepted limits asked
    → Answers limits accepted request answered (after accepted limits asked)
call_answers limits accepted request told.KeeperFault asked sound asks is = absurd (not_untrue sound)
call_answers limits accepted request told.Memory asked sound asks is = absurd (not_untrue sound)
call_answers limits accepted request told.Ok asked sound asks is = (asked, asks, is, refl)
call_answers limits accepted request told.Again asked sound asks is = (asked, asks, is, refl)
call_answers limits accepted request (told.Digest digest) asked sound asks is = (asked, asks, is, refl)
call_answers limits accepted request (told.Sites sites) asked sound asks is = (asked, asks, is, refl)
call_answers limits accepted request (told.Site text) asked sound asks is = (asked, asks, is, refl)
call_answers limits accepted request told.Same asked sound asks is = (asked, asks, is, refl)
call_answers limits accepted request (told.Content bytes) asked sound asks is = (asked, asks, is, refl)
call_answers limits accepted request (told.Rows rows) asked sound asks is = (asked, asks, is, refl)
call_answers limits accepted request (told.BadText line) asked sound asks is = (asked, asks, is, refl)
call_answers limits accepted request (told.Conflict digest) asked sound asks is = (asked, asks, is, refl)
call_answers limits accepted request told.NoSuch asked sound asks is = (asked, asks, is, refl)
call_answers limits accepted request (told.Older version) asked sound asks is = (asked, asks, is, refl)
call_answers limits accepted request (told.Full limit) asked sound asks is = (asked, asks, is, refl)

pub call_told : (limits : Limits) (request : Request) (answered : Reply) (old new : Option (List Change)) → is_fault answered ≡ false → AnswersRequest limits request answered old new → (accepted : List Entry) → AreTables old accepted
    → (later : List Entry) × Answers limits accepted request answered later × AreTables new later
call_told limits request answered old new sound h accepted told =
    let a = h accepted told in
    (after accepted limits a.0, call_answers limits accepted request answered a.0 sound a.1 a.2, a.3)

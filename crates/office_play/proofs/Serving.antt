-- Turns with files from rows are turns with files from the server whose tables they are.
use Rattle.std.proofs.Common.{◌≡◌, ◌≢◌, ℕ, ℤ, List, [], ◌∷◌, inl, inr, Option, Some, refl, sym, ap, subst, ◌∙◌}
use Rattle.std.specs.Prelude.{map}
use Rattle.desk_keep.specs.declared.change.Change.{Change}
use Rattle.desk_keep.specs.declared.change.Change.TheVariants as change
use Rattle.script_run.specs.Asking.{When}
use Rattle.agent_state.specs.States.{State}
use Rattle.agent_core.specs.declared.turned.Turned.{Turned}
use Rattle.agent_core.specs.declared.turned.Turned.TheVariants as turned
use Rattle.agent_core.specs.Devices.{Devices}
use Rattle.server_text.specs.declared.reply.Reply.{Reply}
use Rattle.server_text.specs.declared.request.Request.TheVariants as request
use Rattle.server_text.specs.Entries.{Asked, Entry, FileBytes}
use Rattle.server_core.specs.AcceptedTables.{file_at, view}
use Rattle.server_core.specs.CallAnswers.{after}
use Rattle.server_core.specs.DeskLimits.{desk_limits}
use Rattle.server_core.specs.Replies.{file_reply, reply}
use Rattle.turn_lines.specs.declared.giver.FileAsked.{FileAsked}
use Rattle.turn_lines.specs.declared.giver.Given.{Given}
use Rattle.turn_lines.specs.declared.giver.Given.TheVariants as given
use Rattle.turn_lines.specs.Givers.{GivesAll, GivesFile, GiverView}
use Rattle.turn_lines.specs.TurnsWithFiles.{Closes, TurnsWithFiles, asked_by}
use Rattle.office_rules.specs.ComputerWords.{Brings, ServesFiles}
use Rattle.office_play.specs.Files.{RowsServe, brought}
use Rattle.office_play.specs.Kept.{AreRowsOf, HasAccepted}
use Rattle.office_play.specs.Played.{AnswersOver}
use Rattle.office_play.specs.Turning.{MakesTurnsOver, Turner, told_of}

-- ---- one file
one_served : (accepted : List Entry) (digest : List ℕ) (row : Option Change) → reply accepted desk_limits (FileBytes digest) ≡ file_reply row
    → ServesFiles accepted digest (brought (file_reply row)) accepted
one_served accepted digest (Some (change.File own bytes)) is = (subst (λ (r : Reply). Brings r (given.File bytes)) (sym is) refl, refl)
one_served accepted digest other is = (subst (λ (r : Reply). Brings r given.NotServed) (sym is) refl, refl)

pub serves : (rows then : List Change) (digest : List ℕ) (answer : Reply) → AnswersOver rows (request.AskFile digest) answer then
    → RowsServe rows digest (brought answer) then
serves rows then digest answer answers accepted are =
    let a = answers accepted are in
    let same : answer ≡ file_reply (file_at digest (view accepted)) = a.answer_is ∙ ap (reply accepted desk_limits) a.asks in
    let later : AreRowsOf accepted then = subst (λ (q : Asked). AreRowsOf (after accepted desk_limits q) then) a.asks a.rows_are in (
      later.rows_are ∙ sym are.rows_are,
      subst (λ (r : Reply). ServesFiles accepted digest (brought r) accepted) (sym same) (one_served accepted digest (file_at digest (view accepted)) refl),
    )

-- ---- all files of turns
module _ (accepted : List Entry) (rows : List Change) (are : AreRowsOf accepted rows) where
  -- the same giver, of what was accepted
  abbrev pub of_server : GiverView (List Change) → GiverView (List Entry)
  of_server g = record { asked = g.asked; source = accepted }

  one_file : (digest : List ℕ) (g : GiverView (List Change)) (answer : Given) (g2 : GiverView (List Change)) → g.source ≡ rows
      → GivesFile RowsServe digest g answer g2 → GivesFile ServesFiles digest (of_server g) answer (of_server g2) × (g2.source ≡ rows)
  one_file digest g answer g2 here h =
      let got = h.source accepted (subst (AreRowsOf accepted) (sym here) are) in
      (record { asked = h.asked; source = got.1 }, got.0 ∙ here)

  all_files : (files : List FileAsked) (g g2 : GiverView (List Change)) → g.source ≡ rows → GivesAll RowsServe g files g2
      → GivesAll ServesFiles (of_server g) files (of_server g2) × (g2.source ≡ rows)
  all_files [] g g2 here h = (ap of_server h, ap (λ (v : GiverView (List Change)). v.source) h ∙ here)
  all_files (asked ∷ files) g g2 here h =
      let one = one_file asked.digest g asked.answer h.0 here h.1 in
      let rest = all_files files h.0 g2 one.1 h.2 in
      ((of_server h.0, one.0, rest.0), rest.1)

  closes_over : (last : Turned) (g : GiverView (List Change)) (answer : Turned) (g2 : GiverView (List Change)) → g.source ≡ rows
      → Closes RowsServe last g answer g2 → Closes ServesFiles last (of_server g) answer (of_server g2) × (g2.source ≡ rows)
  closes_over (turned.Wants id began digest) g answer g2 here (inl h) =
      let one = one_file digest g given.NotGot g2 here h.0 in (inl (one.0, h.1), one.1)
  closes_over (turned.Wants id began digest) g answer g2 here (inr h) =
      let one = one_file digest g given.Memory g2 here h.0 in (inr (one.0, h.1), one.1)
  closes_over other g answer g2 here h = ((ap of_server h.0, h.1), ap (λ (v : GiverView (List Change)). v.source) h.0 ∙ here)

  pub turns_over : (at : When) (s : State) (d : Devices) (g : GiverView (List Change)) (answer : Turned) (s2 : State) (d2 : Devices)
      (g2 : GiverView (List Change)) → g.source ≡ rows → TurnsWithFiles RowsServe at s d g answer s2 d2 g2
      → TurnsWithFiles ServesFiles at s d (of_server g) answer s2 d2 (of_server g2) × (g2.source ≡ rows)
  turns_over at s d g answer s2 d2 g2 here h =
      let made = h.turns in
      let asked = all_files (map asked_by made.fetches) g h.told here made.asked in
      let closed = closes_over h.last h.told answer g2 asked.1 h.closes in (
        record {
          last = h.last;
          told = of_server h.told;
          turns = record {
            fetches = made.fetches;
            between = made.between;
            devices = made.devices;
            last = made.last;
            fetched = made.fetched;
            turns = made.turns;
            answers = made.answers;
            asked = asked.0;
            machine = made.machine;
            pocket = made.pocket;
            cause = made.cause;
          };
          closes = closed.0;
        },
        closed.1,
      )

-- Turns with the server's files, of which none was asked for before.
pub makes_turns : (moment : ℤ) (time : When) (rows : List Change) (begun ended : GiverView (List Change)) (old : Turner) (answer : Turned)
    (new : Turner) → time.moment ≡ moment → time.offset ≡ old.machine.world.offset → begun.asked ≡ [] → begun.source ≡ rows
    → answer ≢ turned.Memory → TurnsWithFiles RowsServe time old.agent (told_of old) begun answer new.agent (told_of new) ended
    → MakesTurnsOver moment rows old answer new
makes_turns moment time rows begun ended old answer new now same none here ample h accepted are =
    let at : When = record { moment = moment; offset = old.machine.world.offset } in
    let timed = subst (λ (w : When). TurnsWithFiles RowsServe w old.agent (told_of old) begun answer new.agent (told_of new) ended)
    (λ i. record { moment = now i; offset = same i }) h in
    let over = (turns_over accepted rows are at old.agent (told_of old) begun answer new.agent (told_of new) ended here timed).0 in
    record {
      files = of_server accepted rows are ended;
      turns = subst (λ (asked : List FileAsked). TurnsWithFiles ServesFiles at old.agent (told_of old) (record { asked = asked; source = accepted }) answer new.agent
          (told_of new) (of_server accepted rows are ended)) none over;
      memory = ample;
    }

-- Such turns leave the rows.
pub turns_leave : (time : When) (rows : List Change) (begun ended : GiverView (List Change)) (s s2 : State) (d d2 : Devices) (answer : Turned)
    → HasAccepted rows → begun.source ≡ rows → TurnsWithFiles RowsServe time s d begun answer s2 d2 ended → ended.source ≡ rows
turns_leave time rows begun ended s s2 d d2 answer has here h =
    (turns_over has.0 rows has.1 time s d begun answer s2 d2 ended here h).1

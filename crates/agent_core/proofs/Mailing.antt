-- What turns and openings are to the delivery of reports.
use Rattle.std.proofs.Common.{ℕ, ◌≡◌, ◌+◌, ◌^◌, ◌++◌, List, [], ◌∷◌, length, Bool, true, false, cond, inl, inr, Option, Some, None, Ok, refl, sym, ap, subst, ◌∙◌, take}
use Rattle.std.proofs.lemmas.List.Elements.{All-head, All-tail}
use Rattle.report_text.specs.Reports.{IsReport}
use Rattle.std.specs.Prelude.{All, ◌⊎◌, ◌≢◌, ◌&&◌, IsSome, nat_lt}
use Rattle.report_text.specs.declared.form.Form.TheVariants.{Two}
use Rattle.report_text.specs.declared.report.Report.{Report}
use Rattle.script_run.specs.Asking.{When}
use Rattle.agent_text.specs.declared.saved.Saved.{Saved}
use Rattle.agent_text.specs.Histories.{PlainHistory, report_rows}
use Rattle.agent_text.specs.Pockets.{Holds}
use Rattle.agent_text.specs.SavedTexts.{ReadsSaved}
use Rattle.agent_text.proofs.SavedAnswers.{LinesAgain}
use Rattle.agent_core.specs.declared.turned.Turned.{Turned}
use Rattle.agent_core.specs.declared.turned.Turned.TheVariants.{MachineFault, PocketFault, Memory}
use Rattle.agent_core.specs.Opens.{IsAgentOf}
use Rattle.agent_core.specs.Schedules.{HasSaved, IsMailOf, IsStep, Mail, made, report_of, restarted, saved}
use Rattle.agent_state.specs.States.{IsSound, State, as_saved, can_report, next_report, saved_of, text_of, with_histories, with_report}
use Rattle.agent_core.specs.Devices.{Devices}
use Rattle.agent_core.specs.Turns.{Marks, Turn}
use Rattle.agent_core.proofs.Holding.{after_done, holds_so}
use Rattle.agent_core.proofs.SavedOnce.{OneSaved, own_text, saved_once}
use Rattle.agent_core.proofs.TurnPoints.{Keeps, turn_keeps, with_machine, with_pocket}

-- the state has what the mail has
record Fits (m : Mail) (s : State) : Type 0 where
  computer : m.computer ≡ s.computer
  next : m.next ≡ s.next
  outbox : m.outbox ≡ s.reports

-- the pocket has the text of this state
abbrev Stands : State → Devices → Type 0
Stands s d = Holds d.pocket.saved (λ now. now ≡ Some (text_of s))

-- The pocket has what it had, which is the mail as it stands under this condition, or it has the state as it stands.
abbrev Standing : Type 0 → Mail → State → Devices → Type 0
Standing Q m s d = (Holds d.pocket.saved (HasSaved m) × (Q → m ≡ saved m)) ⊎ Stands s d

-- what actions are tested and tried with
abbrev Tried : Type 0 → Mail → Marks → State → Devices → Type 0
Tried Q m marks s d = Fits m s × Standing Q m s d × (marks.any ≡ false → marks.histories ≡ s.histories)

abbrev Stood : Type 0 → Mail → State → Devices → Type 0
Stood Q m s d = Fits m s × Standing Q m s d

-- the end of a turn: what hasn't changed since the last save is saved
abbrev Ending : Type 0 → Mail → Bool → State → Devices → Type 0
Ending Q m changed s d = Fits m s × (changed ≡ false → Standing Q m s d)

abbrev Steps : Type 0 → Mail → Turned → State → Devices → Type 0
Steps Q m answer s d =
    IsSound s → answer ≢ PocketFault → answer ≢ Memory → (m2 : Mail) × IsStep m m2 × IsMailOf m2 s d.pocket.saved × (Q → m2 ≡ saved m2)

-- ---- ends
-- the mail of a state that is saved as it stands
mail_saved : (m : Mail) (s : State) (told : Option (Option (List ℕ))) → IsSound s → Fits m s → m.saved_next ≡ s.next → m.saved_outbox ≡ s.reports
    → Holds told (λ now. now ≡ Some (text_of s)) → IsMailOf m s told
mail_saved m s told is fits next outbox stands = record {
  computer = fits.computer;
  next = fits.next;
  outbox = fits.outbox;
  kept = holds_so (λ now. now ≡ Some (text_of s)) (HasSaved m)
      (λ now e. subst (HasSaved m) (sym e) (saved_of s, subst (λ c. ReadsSaved c (text_of s) (Ok (saved_of s))) (sym fits.computer) (own_text s is.saved), next, outbox)) told stands;
}

ended : (Q : Type 0) (m : Mail) (answer : Turned) (s : State) (d : Devices) → Fits m s → Standing Q m s d → Steps Q m answer s d
ended Q m answer s d fits (inl (kept, whole)) is fault none = (m, inl refl, record { computer = fits.computer; next = fits.next; outbox = fits.outbox; kept = kept }, whole)
ended Q m answer s d fits (inr stands) is fault none =
    (saved m, inr (inl refl), mail_saved (saved m) s d.pocket.saved is (record { computer = fits.computer; next = fits.next; outbox = fits.outbox }) fits.next fits.outbox stands, λ q. refl)

both_right : (a b : Bool) → (a && b) ≡ true → b ≡ true
both_right true b e = e
both_right false b e = absurd (cc)

-- a number is left where a report is made
number_left : (s : State) → can_report s ≡ true → nat_lt s.next (2 ^ 53) ≡ true
number_left s can = both_right (nat_lt 0 (length (report_rows s.histories)) && nat_lt (length s.reports) 1000) (nat_lt s.next (2 ^ 53)) can

last_good : (reports : List Report) (report : Report) → All IsReport (reports ++ report ∷ []) → IsReport report
last_good [] report good = All-head IsReport report [] good
last_good (first ∷ reports) report good = last_good reports report (All-tail IsReport first (reports ++ report ∷ []) good)

reported : (Q : Type 0) (m : Mail) (answer : Turned) (s now : State) (d : Devices) → Fits m s → can_report s ≡ true → now.computer ≡ s.computer → now.next ≡ s.next + 1
    → now.reports ≡ s.reports ++ next_report s ∷ [] → Stands now d → Steps Q m answer now d
reported Q m answer s now d fits can computer next outbox stands is fault none =
    let rows = take 500 (report_rows s.histories) in
    let after : Mail = saved (record m { outbox = m.outbox ++ report_of rows m ∷ []; next = m.next + 1 }) in
    let left : nat_lt m.next (2 ^ 53) ≡ true = ap (λ n. nat_lt n (2 ^ 53)) fits.next ∙ number_left s can in
    let is_made : made rows m ≡ after = ap (λ b. cond b after m) left in
    let report : report_of rows m ≡ next_report s =
    ap (λ (c : List ℕ). let r : Report = record { form = Two; computer = c; seq = m.next; rows = rows } in r) fits.computer
    ∙ ap (λ (n : ℕ). let r : Report = record { form = Two; computer = s.computer; seq = n; rows = rows } in r) fits.next in
    let all : m.outbox ++ report_of rows m ∷ [] ≡ now.reports =
    ap (λ l. l ++ report_of rows m ∷ []) fits.outbox ∙ ap (λ r. s.reports ++ r ∷ []) report ∙ sym outbox in
    let number : m.next + 1 ≡ now.next = ap (λ n. n + 1) fits.next ∙ sym next in (
      after,
      inr (inr (rows, (last_good s.reports (next_report s) (subst (All IsReport) outbox is.saved.reports.good)).rows, sym is_made)),
      mail_saved after now d.pocket.saved is (record { computer = fits.computer ∙ sym computer; next = number; outbox = all }) number all stands,
      λ q. refl,
    )

-- ---- the turn
never : {X : Type 0} → true ≡ false → X
never e = absurd (cc)

-- the same with other histories
other_histories : (Q : Type 0) (m : Mail) (hs : List PlainHistory) (s : State) (d : Devices) → hs ≡ s.histories → Standing Q m s d → Standing Q m (with_histories hs s) d
other_histories Q m hs s d same (inl kept) = inl kept
other_histories Q m hs s d same (inr stands) =
    inr (subst (λ x. Holds d.pocket.saved (λ now. now ≡ Some (text_of (with_histories x s)))) (sym same) stands)

keeps_mail : (at : When) (Q : Type 0) (m : Mail) → Keeps at (λ s d. Stood Q m s d) (λ marks s d. Tried Q m marks s d) (λ began attempt s d. Stood Q m s d) (λ changed would s d. Ending Q m changed s d) (λ a s d. Steps Q m a s d)
keeps_mail at Q m = record {
  memory = λ s d a is fault none. absurd (none refl);
  broken_done = λ s d id pocket a broken saves. (same a.0 _ refl refl refl, λ e. inr (after_done _ _ d.pocket.saved pocket.saved saves.saves refl));
  broken_failed = λ s d id pocket a broken saves is fault none. absurd (fault refl);
  broken_memory = λ s d id pocket a broken saves is fault none. absurd (none refl);
  resumes = λ s d attempt a broken held. a;
  held = λ began attempt s d component line machine after a goes. (same a.0 _ refl refl refl, λ e. a.1);
  wants = λ began attempt s d digest machine after a goes. (same a.0 _ refl refl refl, λ e. a.1);
  ends = λ began attempt s d fail note machine after a goes. (same a.0 _ refl refl refl, λ e. never e);
  lacks = λ began attempt s d machine after a goes is fault none. absurd (none refl);
  tries = λ s d a broken held. (a.0, a.1, λ e. refl);
  tested = λ marks s d action machine t may asks. t;
  marked = λ marks s d action machine t may asks. (t.0, t.1, λ e. never e);
  test_failed = λ marks s d action machine t asks. ended Q m MachineFault s (with_machine machine d) t.0 t.1;
  test_memory = λ marks s d action machine t asks is fault none. absurd (none refl);
  passed = λ marks s d action machine t asks. t;
  try_failed = λ marks s d action machine t asks. ended Q m MachineFault s (with_machine machine d) t.0 t.1;
  try_memory = λ marks s d action machine t asks is fault none. absurd (none refl);
  begun_done = λ marks s d action content machine pocket t due there among saves. (same t.0 _ refl refl refl, inr (after_done _ _ d.pocket.saved pocket.saved saves.saves refl));
  begun_failed = λ marks s d action machine pocket t due among saves is fault none. absurd (fault refl);
  begun_memory = λ marks s d action machine pocket t due saves is fault none. absurd (none refl);
  no_memory = λ marks s d t is fault none. absurd (none refl);
  idle = λ marks s d t. (same t.0 _ refl refl refl, λ e. other_histories Q m marks.histories s d (t.2 e) t.1);
  reported_done = λ changed would s d pocket b can saves. reported Q m would s (as_saved (with_report s)) (with_pocket pocket d) b.0 can refl refl refl (after_done _ _ d.pocket.saved pocket.saved saves.saves refl);
  reported_failed = λ changed would s d pocket b can saves is fault none. absurd (fault refl);
  reported_memory = λ changed would s d pocket b can saves is fault none. absurd (none refl);
  changed_done = λ would s d pocket b saves. ended Q m would (as_saved s) (with_pocket pocket d) (same b.0 _ refl refl refl) (inr (after_done _ _ d.pocket.saved pocket.saved saves.saves refl));
  changed_failed = λ would s d pocket b saves is fault none. absurd (fault refl);
  changed_memory = λ would s d pocket b saves is fault none. absurd (none refl);
  unchanged = λ would s d b. ended Q m would s d b.0 (b.1 refl);
}
  where
    same : {s : State} → Fits m s → (now : State) → now.computer ≡ s.computer → now.next ≡ s.next → now.reports ≡ s.reports → Fits m now
    same fits now computer next outbox = record { computer = fits.computer ∙ sym computer; next = fits.next ∙ sym next; outbox = fits.outbox ∙ sym outbox }

-- what is saved at the beginning is the mail as it stands, or it is saved first
abbrev pub IsSavedFirst : State → Mail → Type 0
IsSavedFirst s m = (s.unsaved ≡ true) ⊎ (m ≡ saved m)

saved_then : (s : State) (m : Mail) → s.unsaved ≡ false → IsSavedFirst s m → m ≡ saved m
saved_then s m e (inl is) = never (sym is ∙ e)
saved_then s m e (inr same) = same

pub turn_steps : (at : When) (s s2 : State) (d d2 : Devices) (answer : Turned) (m : Mail) → Turn at s d answer s2 d2 → IsSound s2 → answer ≢ PocketFault → answer ≢ Memory → IsMailOf m s d.pocket.saved
    → (m2 : Mail) × IsStep m m2 × IsMailOf m2 s2 d2.pocket.saved × (IsSavedFirst s m → m2 ≡ saved m2)
turn_steps at s s2 d d2 answer m turn is fault none mail =
    let fits : Fits m s = record { computer = mail.computer; next = mail.next; outbox = mail.outbox } in
    let Q : Type 0 = IsSavedFirst s m in
    turn_keeps at (λ s d. Stood Q m s d) (λ marks s d. Tried Q m marks s d) (λ began attempt s d. Stood Q m s d) (λ changed would s d. Ending Q m changed s d) (λ a s d. Steps Q m a s d) (keeps_mail at Q m) answer s2 d2 s d
    (λ e. (fits, inl (mail.kept, saved_then s m e)))
    (λ pocket saves. (record { computer = fits.computer; next = fits.next; outbox = fits.outbox }, inr (after_done _ _ d.pocket.saved pocket.saved saves.saves refl)))
    (λ pocket saves is fault none. absurd (fault refl)) (λ pocket saves is fault none. absurd (none refl)) turn is fault none

-- ---- opening
-- the agent has what was saved
record HasOpened (m : Mail) (agent : State) : Type 0 where
  computer : m.computer ≡ agent.computer
  next : m.saved_next ≡ agent.next
  outbox : m.saved_outbox ≡ agent.reports

from_text : OneSaved → LinesAgain → (computer text : List ℕ) (agent : State) (m : Mail) → IsAgentOf computer (Some text) agent → HasSaved m (Some text) → m.computer ≡ computer → HasOpened m agent
from_text one law computer text agent m (what, (form, by, read), is) (other, (other_form, also, before), next, outbox) own =
    let same : other ≡ what = saved_once one law text other what (other_form, (also.0, also.1, refl), before) (form, (by.0, by.1, refl), read) in
    record {
      computer = own ∙ sym by.2 ∙ sym (ap (λ (x : State). x.computer) is);
      next = next ∙ ap (λ (x : Saved). x.next) same ∙ sym (ap (λ (x : State). x.next) is);
      outbox = outbox ∙ ap (λ (x : Saved). x.reports) same ∙ sym (ap (λ (x : State). x.reports) is);
    }

from_pocket : OneSaved → LinesAgain → (computer : List ℕ) (now : Option (List ℕ)) (agent : State) (m : Mail) → IsAgentOf computer now agent → HasSaved m now → m.computer ≡ computer → HasOpened m agent
from_pocket one law computer None agent m is has own = record {
  computer = own ∙ sym (ap (λ (x : State). x.computer) is);
  next = has.0 ∙ sym (ap (λ (x : State). x.next) is);
  outbox = has.1 ∙ sym (ap (λ (x : State). x.reports) is);
}
from_pocket one law computer (Some text) agent m is has own = from_text one law computer text agent m is has own

-- what is saved stays as it is
still_saved : (m : Mail) (now : Option (List ℕ)) → HasSaved m now → HasSaved (restarted m) now
still_saved m None h = h
still_saved m (Some text) h = h

pub opens_mail : OneSaved → LinesAgain → (computer : List ℕ) (told : Option (Option (List ℕ))) (s agent : State) (m : Mail) (found : Option (List ℕ)) → IsSome told
    → Holds told (λ now. now ≡ found) → IsAgentOf computer found agent → IsMailOf m s told → s.computer ≡ computer → IsMailOf (restarted m) agent told
opens_mail one law computer None s agent m found some is opens mail own = absurd (cc)
opens_mail one law computer (Some now) s agent m found some is opens mail own =
    let has = from_pocket one law computer found agent m opens (subst (HasSaved m) is mail.kept) (mail.computer ∙ own) in
    record { computer = has.computer; next = has.next; outbox = has.outbox; kept = still_saved m now mail.kept }

-- Messages that arrive.
use Rattle.std.proofs.Common.{◌≡◌, ℕ, ◌+◌, Bool, true, false, cond, List, [], ◌∷◌, ◌++◌, length, Option, Some, refl, sym, ap, subst, ◌∙◌}
use Rattle.std.specs.Prelude.{bytes_eq, codes, count_by, get_or, is_none, is_some, IsSome, nat_le, not, ◌&&◌, slice_set, option_to_list, unwrap_or, None}
use Rattle.std.specs.Map.{set_value}
use Rattle.std.proofs.lemmas.List.{append-nil}
use Rattle.std.proofs.lemmas.List.Elements.{All-filter, All-push}
use Rattle.desk_keep.specs.declared.change.Change.{Change}
use Rattle.report_text.specs.declared.report.Report.{Report}
use Rattle.report_text.specs.declared.answer.Verdict.{Verdict}
use Rattle.report_text.specs.Reports.{report_text}
use Rattle.relay_core.specs.Relays.{RelayState}
use Rattle.relay_core.specs.ReportKeys.{ReportKey, key_of, report_digest, same_key}
use Rattle.relay_core.specs.ReportsUp.{after_sent, after_up, has_place, is_queued, up_verdict, with_held, without}
use Rattle.agent_state.specs.Changes.{SettlesState}
use Rattle.agent_state.specs.States.{State}
use Rattle.desk_keep.specs.declared.change.Change.TheVariants as change
use Rattle.desk_keep.specs.declared.table.Table.TheVariants as table
use Rattle.desk_keep.specs.Tables.{is_of}
use Rattle.server_text.specs.declared.reply.Reply.{Reply}
use Rattle.server_text.specs.declared.reply.Reply.TheVariants as told_reply
use Rattle.server_text.specs.declared.request.Request.TheVariants as request
use Rattle.server_text.specs.Entries.{Asked, Enters, Entry, Reported}
use Rattle.server_text.specs.RequestTexts.{Asks}
use Rattle.server_core.specs.CallAnswers.{after}
use Rattle.server_core.specs.DeskLimits.{desk_limits}
use Rattle.server_core.specs.declared.limits.Limits.{Limits}
use Rattle.server_core.specs.AcceptedTables.{computer_at, report_at, view}
use Rattle.server_core.specs.Replies.{first_of, full_if, reply, reply_to_report}
use Rattle.delivery.specs.Messages.{Message, ReplyToRelay, ReportToRelay, ReportToServer, VerdictToComputer, carrier_of, changed, named, relay_of}
use Rattle.delivery.specs.Arrivals.{carried, held_by, told, verdict_of}
use Rattle.turn_lines.specs.VerdictWords.{reply_word, verdict_word}
use Rattle.office_rules.specs.MessageWords.{Delivers, settled_word}
use Rattle.office_rules.specs.OfficeLines.{delivered_line, answer_words}
use Rattle.office_rules.specs.Offices.{PlayedComputer, carriers_of}
use Rattle.office_play.specs.Kept.{AreRowsOf, HasAccepted, KeptOffice}
use Rattle.office_play.specs.Links.{IsGoodComputer, IsGoodOffice, IsGoodRelay, IsNamed, IsPlaceOf, IsReportOf}
use Rattle.office_play.specs.Played.{AnswersOver, Did, Plays}
use Rattle.office_play.proofs.Carrying.{carriers_changed, named_carrier, same_carriers, sites_set}
use Rattle.office_play.proofs.GoodOffices.{computer_set, message_sent, relay_set, rows_changed}
use Rattle.office_play.proofs.Places.{at_place, changed_to, named_holds, set_entry}

-- ---- a report at a relay
up_sites : (relay : RelayState) (report : Report) → (after_up relay report).sites ≡ relay.sites
up_sites relay report = by (has_place relay (key_of report))
  where
    by : (b : Bool) → (cond b (record relay { queue = relay.queue ++ report ∷ [] }) relay).sites ≡ relay.sites
    by true = refl
    by false = refl

up_good : (computers : List (List ℕ × PlayedComputer)) (relay : RelayState) (report : Report) → IsGoodRelay computers relay
    → IsReportOf computers report → IsGoodRelay computers (after_up relay report)
up_good computers relay report good is = by (has_place relay (key_of report))
  where
    by : (b : Bool) → IsGoodRelay computers (cond b (record relay { queue = relay.queue ++ report ∷ [] }) relay)
    by true = record { sites = good.sites; queue = All-push (IsReportOf computers) relay.queue report good.queue is }
    by false = good

pub arrives_at_relay : ((relay : RelayState) (report : Report) → up_verdict (relay_of (carrier_of relay)) report ≡ up_verdict relay report)
    → ((relay : RelayState) (report : Report) → carried report (carrier_of relay) ≡ carrier_of (after_up relay report))
    → (old new : KeptOffice) (name : List ℕ) (report : Report) (place : ℕ) (entry : List ℕ × RelayState) (verdict : Verdict) (number : ℕ)
    (out written : List ℕ) → IsPlaceOf name old.relays place → entry ≡ get_or old.relays place entry → IsGoodOffice old
    → IsGoodRelay old.computers entry.1 → IsReportOf old.computers report → verdict ≡ up_verdict entry.1 report
    → new ≡ record old {
      relays = slice_set old.relays place (entry.0, after_up entry.1 report);
      messages = old.messages ++ VerdictToComputer report.computer report.seq verdict ∷ [];
    } → written ≡ out ++ delivered_line number (answer_words (verdict_word verdict) (length old.messages + 1))
    → Plays (Delivers number (ReportToRelay name report)) old out new written
arrives_at_relay law up old new name report place entry verdict number out written at is good relay reported verdict_is new_is written_is accepted rows =
    let found = at_place name old.relays place entry at.first is in
    let w : RelayState = after_up entry.1 report in
    let answer : Message = VerdictToComputer report.computer report.seq verdict in
    let moved : KeptOffice = record old { relays = set_value (bytes_eq name) old.relays w } in
    let final : KeptOffice = record moved { messages = old.messages ++ answer ∷ [] } in
    let set : new ≡ final = new_is ∙ ap (λ (r : List (List ℕ × RelayState)). record old { relays = r; messages = old.messages ++ answer ∷ [] }) (set_entry name old.relays place entry w at.first is) in
    let answers : verdict_of report (named name (carriers_of old.relays)) ≡ Some answer =
    ap (verdict_of report) (named_carrier name old.relays entry.1 found.1)
    ∙ ap (λ (v : Verdict). Some (VerdictToComputer report.computer report.seq v)) (law entry.1 report ∙ sym verdict_is) in
    let words = answer_words (verdict_word verdict) (length old.messages + 1) in
    let did : Did (Delivers number (ReportToRelay name report)) accepted old out final written = record {
      later = accepted;
      said = delivered_line number words;
      does = record {
        words = words;
        reaches = record {
          accepted = refl;
          carriers = carriers_changed name old.relays entry.1 w (carried report) found.1 (up entry.1 report);
          sites = sites_set name old.relays entry.1 w found.1 (up_sites entry.1 report);
          messages = ap (λ (m : Option Message). old.messages ++ option_to_list m) (sym answers);
          book = refl;
        };
        tells = ((answer, verdict_word verdict, answers, refl, refl), refl);
        said_is = refl;
      };
      rows = rows;
      out_is = written_is;
      good = message_sent moved answer (relay_set old name place w at.first good (up_good old.computers entry.1 report relay reported)) reported.computer;
    } in
    subst (λ (o : KeptOffice). Did (Delivers number (ReportToRelay name report)) accepted old out o written) (sym set) did

-- ---- a report at the server
-- The server judges each report.
judged : (limits : Limits) (rows : List Change) (report : Report) (row : Option Change)
    → IsSome (reply_word (unwrap_or (reply_to_report limits rows report row) told_reply.Ok))
judged limits rows report (Some (change.Report computer seq kept)) = by (bytes_eq kept (report_digest report))
  where
    by : (b : Bool) → IsSome (reply_word (cond b told_reply.Again (told_reply.Conflict kept)))
    by true = refl
    by false = refl
judged limits rows report other = by (is_none (computer_at report.computer rows) && nat_le limits.computers (count_by (is_of table.Computers) rows)) (nat_le limits.reports (count_by (is_of table.Reports) rows))
  where
    by : (a b : Bool)
        → IsSome (reply_word (unwrap_or (first_of (full_if a limits.computers ∷ full_if b limits.reports ∷ [])) told_reply.Ok))
    by true b = refl
    by false true = refl
    by false false = refl

pub reply_judges : (report : Report) → ((asked : Asked) → Asks (request.Report (report_text report)) asked → asked ≡ Enters (Reported report))
    → (rows rows2 : List Change) (answer : Reply) → HasAccepted rows → AnswersOver rows (request.Report (report_text report)) answer rows2
    → IsSome (reply_word answer)
reply_judges report only rows rows2 answer has answers =
    let a = answers has.0 has.1 in
    let told : answer ≡ reply has.0 desk_limits (Enters (Reported report)) = a.answer_is ∙ ap (reply has.0 desk_limits) (only a.asked a.asks) in
    ap (λ (r : Reply). is_some (reply_word r)) told
    ∙ judged desk_limits (view has.0) report (report_at report.computer report.seq (view has.0))

pub arrives_at_server : (report : Report)
    → ((asked : Asked) → Asks (request.Report (report_text report)) asked → asked ≡ Enters (Reported report))
    → (old new : KeptOffice) (name : List ℕ) (answer : Reply) (rows2 : List Change) (word digest : List ℕ) (number : ℕ)
    (out written : List ℕ) → IsGoodOffice old → IsNamed name old.relays → digest ≡ report_digest report
    → AnswersOver old.rows (request.Report (report_text report)) answer rows2 → reply_word answer ≡ Some word
    → new ≡ record old { rows = rows2; messages = old.messages ++ ReplyToRelay name (key_of report) digest answer ∷ [] }
    → written ≡ out ++ delivered_line number (answer_words word (length old.messages + 1))
    → Plays (Delivers number (ReportToServer name report)) old out new written
arrives_at_server report only old new name answer rows2 word digest number out written good relay digest_is answers worded new_is written_is accepted rows =
    let a = answers accepted rows in
    let asked : a.asked ≡ Enters (Reported report) = only a.asked a.asks in
    let told : answer ≡ reply accepted desk_limits (Enters (Reported report)) = a.answer_is ∙ ap (reply accepted desk_limits) asked in
    let message : Message = ReplyToRelay name (key_of report) digest answer in
    let same : Some (ReplyToRelay name (key_of report) (report_digest report) (reply accepted desk_limits (Enters (Reported report)))) ≡ Some message =
    ap (λ (d : List ℕ). Some (ReplyToRelay name (key_of report) d (reply accepted desk_limits (Enters (Reported report))))) (sym digest_is)
    ∙ ap (λ (r : Reply). Some (ReplyToRelay name (key_of report) digest r)) (sym told) in
    let moved : KeptOffice = record old { rows = rows2 } in
    let final : KeptOffice = record moved { messages = old.messages ++ message ∷ [] } in
    let words = answer_words word (length old.messages + 1) in
    let later : List Entry = after accepted desk_limits (Enters (Reported report)) in
    let did : Did (Delivers number (ReportToServer name report)) accepted old out final written = record {
      later = later;
      said = delivered_line number words;
      does = record {
        words = words;
        reaches = record {
          accepted = refl;
          carriers = refl;
          sites = refl;
          messages = ap (λ (m : Option Message). old.messages ++ option_to_list m) (sym same);
          book = refl;
        };
        tells = ((message, word, same, worded, refl), refl);
        said_is = refl;
      };
      rows = subst (λ (q : Asked). AreRowsOf (after accepted desk_limits q) rows2) asked a.rows_are;
      out_is = written_is;
      good = message_sent moved message (rows_changed old rows2 good) (relay, ap is_some worded);
    } in
    subst (λ (o : KeptOffice). Did (Delivers number (ReportToServer name report)) accepted old out o written) (sym new_is) did

-- ---- a reply at its relay
sent_sites : (relay : RelayState) (key : ReportKey) (digest : List ℕ) → (after_sent relay key digest).sites ≡ relay.sites
sent_sites relay key digest = by (is_queued relay key)
  where
    by : (b : Bool)
        → (cond b (record relay { queue = without key relay.queue; held = with_held key digest relay.held }) relay).sites ≡ relay.sites
    by true = refl
    by false = refl

pub sent_good : (computers : List (List ℕ × PlayedComputer)) (relay : RelayState) (key : ReportKey) (digest : List ℕ)
    → IsGoodRelay computers relay → IsGoodRelay computers (after_sent relay key digest)
sent_good computers relay key digest good = by (is_queued relay key)
  where
    by : (b : Bool)
        → IsGoodRelay computers (cond b (record relay { queue = without key relay.queue; held = with_held key digest relay.held }) relay)
    by true = record { sites = good.sites; queue = All-filter (λ report. not (same_key key (key_of report))) (IsReportOf computers) relay.queue good.queue }
    by false = good

-- The server holds a report with this digest.
pub notes : ((relay : RelayState) (key : ReportKey) (digest : List ℕ)
    → told key (Some digest) (carrier_of relay) ≡ carrier_of (after_sent relay key digest))
    → (old new : KeptOffice) (name : List ℕ) (key : ReportKey) (digest held : List ℕ) (answered : Reply) (place : ℕ)
    (entry : List ℕ × RelayState) (number : ℕ) (out written : List ℕ) → IsPlaceOf name old.relays place
    → entry ≡ get_or old.relays place entry → IsGoodOffice old → held_by digest answered ≡ Some held
    → new ≡ record old { relays = slice_set old.relays place (entry.0, after_sent entry.1 key held) }
    → written ≡ out ++ delivered_line number (codes "noted" ∷ [])
    → Plays (Delivers number (ReplyToRelay name key digest answered)) old out new written
notes law old new name key digest held answered place entry number out written at is good held_is new_is written_is accepted rows =
    let found = at_place name old.relays place entry at.first is in
    let w : RelayState = after_sent entry.1 key held in
    let final : KeptOffice = record old { relays = set_value (bytes_eq name) old.relays w } in
    let set : new ≡ final = new_is ∙ ap (λ (r : List (List ℕ × RelayState)). record old { relays = r }) (set_entry name old.relays place entry w at.first is) in
    let same : told key (held_by digest answered) (carrier_of entry.1) ≡ carrier_of w =
    ap (λ h. told key h (carrier_of entry.1)) held_is ∙ law entry.1 key held in
    let one = sent_good old.computers entry.1 key held
    (named_holds (λ (e : List ℕ × RelayState). IsGoodRelay old.computers e.1) name old.relays place entry at is good.relays) in
    let did : Did (Delivers number (ReplyToRelay name key digest answered)) accepted old out final written = record {
      later = accepted;
      said = delivered_line number (codes "noted" ∷ []);
      does = record {
        words = codes "noted" ∷ [];
        reaches = record {
          accepted = refl;
          carriers = carriers_changed name old.relays entry.1 w (told key (held_by digest answered)) found.1 same;
          sites = sites_set name old.relays entry.1 w found.1 (sent_sites entry.1 key held);
          messages = sym (append-nil old.messages);
          book = refl;
        };
        tells = (refl, refl);
        said_is = refl;
      };
      rows = rows;
      out_is = written_is;
      good = relay_set old name place w at.first good one;
    } in
    subst (λ (o : KeptOffice). Did (Delivers number (ReplyToRelay name key digest answered)) accepted old out o written) (sym set) did

-- It holds none.
pub notes_none : (old : KeptOffice) (name : List ℕ) (key : ReportKey) (digest : List ℕ) (answered : Reply) (number : ℕ)
    (out written : List ℕ) → IsNamed name old.relays → IsGoodOffice old → held_by digest answered ≡ None
    → written ≡ out ++ delivered_line number (codes "noted" ∷ [])
    → Plays (Delivers number (ReplyToRelay name key digest answered)) old out old written
notes_none old name key digest answered number out written there good held_is written_is accepted rows = record {
  later = accepted;
  said = delivered_line number (codes "noted" ∷ []);
  does = record {
    words = codes "noted" ∷ [];
    reaches = record {
      accepted = refl;
      carriers = sym (ap (λ h. changed name (told key h) (carriers_of old.relays)) held_is ∙ same_carriers name (carriers_of old.relays));
      sites = refl;
      messages = sym (append-nil old.messages);
      book = refl;
    };
    tells = (refl, refl);
    said_is = refl;
  };
  rows = rows;
  out_is = written_is;
  good = good;
}

-- ---- a verdict at its computer
pub settles : (old new : KeptOffice) (name : List ℕ) (seq : ℕ) (verdict : Verdict) (place : ℕ) (entry : List ℕ × PlayedComputer)
    (agent : State) (dropped : Bool) (number : ℕ) (out written : List ℕ) → IsPlaceOf name old.computers place
    → entry ≡ get_or old.computers place entry → IsGoodOffice old → SettlesState seq verdict entry.1.agent dropped agent
    → IsGoodComputer old.relays (name, record entry.1 { agent = agent })
    → new ≡ record old { computers = slice_set old.computers place (entry.0, record entry.1 { agent = agent }) }
    → written ≡ out ++ delivered_line number (settled_word dropped ∷ [])
    → Plays (Delivers number (VerdictToComputer name seq verdict)) old out new written
settles old new name seq verdict place entry agent dropped number out written at is good settled one new_is written_is accepted rows =
    let found = at_place name old.computers place entry at.first is in
    let w : PlayedComputer = record entry.1 { agent = agent } in
    let final : KeptOffice = record old { computers = set_value (bytes_eq name) old.computers w } in
    let set : new ≡ final = new_is ∙ ap (λ (c : List (List ℕ × PlayedComputer)). record old { computers = c }) (set_entry name old.computers place entry w at.first is) in
    let did : Did (Delivers number (VerdictToComputer name seq verdict)) accepted old out final written = record {
      later = accepted;
      said = delivered_line number (settled_word dropped ∷ []);
      does = record {
        words = settled_word dropped ∷ [];
        reaches = record { accepted = refl; carriers = refl; sites = refl; messages = sym (append-nil old.messages); book = refl };
        tells = (entry.1, agent, dropped, found.1, settled, refl, sym (changed_to name old.computers entry.1 w found.1));
        said_is = refl;
      };
      rows = rows;
      out_is = written_is;
      good = computer_set old name place w at.first good one;
    } in
    subst (λ (o : KeptOffice). Did (Delivers number (VerdictToComputer name seq verdict)) accepted old out o written) (sym set) did

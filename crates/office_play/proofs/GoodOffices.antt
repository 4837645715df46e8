-- Good offices stay good.
use Rattle.std.proofs.Common.{◌≡◌, ℕ, List, [], ◌∷◌, ◌++◌, sym, subst, ◌∙◌}
use Rattle.std.specs.Prelude.{bytes_eq, All, Some}
use Rattle.std.specs.Map.{set_value}
use Rattle.std.proofs.lemmas.List.Elements.{All-push, All-set}
use Rattle.std.proofs.lemmas.Map.{keys-set_value}
use Rattle.desk_keep.specs.declared.change.Change.{Change}
use Rattle.report_text.specs.declared.report.Report.{Report}
use Rattle.group_core.specs.Books.{BookState}
use Rattle.relay_core.specs.Relays.{RelayState}
use Rattle.delivery.specs.Messages.{Message, ReportToRelay, ReportToServer, VerdictToComputer, ReplyToRelay}
use Rattle.office_rules.specs.Offices.{PlayedComputer}
use Rattle.office_play.specs.Kept.{KeptOffice}
use Rattle.office_play.specs.Links.{CanArrive, FindsPlaces, IsGoodComputer, IsGoodOffice, IsGoodRelay, IsNamed, IsReportOf, place_of}
use Rattle.office_play.proofs.Places.{finds_still, names_stay, set_place}

-- What holds of all entries holds of them with another value at the place of a name.
pub all_set : {V : Type 0} (P : List ℕ × V → Type 0) (name : List ℕ) (es : List (List ℕ × V)) (p : ℕ) (w : V) → place_of name es ≡ Some p
    → All P es → P (name, w) → All P (set_value (bytes_eq name) es w)
all_set P name es p w at all one = subst (λ l. All P l) (set_place name es p w at) (All-set P es p (name, w) one all)

-- Names stay where a value is set.
named_still : {V : Type 0} (q name : List ℕ) (es : List (List ℕ × V)) (w : V) → IsNamed q es
    → IsNamed q (set_value (bytes_eq name) es w)
named_still q name es w is = names_stay q es (set_value (bytes_eq name) es w) (sym (keys-set_value (bytes_eq name) es w)) is

-- So they are found where they were.
finds_set : {V : Type 0} (places : List (List ℕ × ℕ)) (name : List ℕ) (es : List (List ℕ × V)) (w : V) → FindsPlaces places es
    → FindsPlaces places (set_value (bytes_eq name) es w)
finds_set places name es w finds =
    finds_still places es (set_value (bytes_eq name) es w) finds (sym (keys-set_value (bytes_eq name) es w))

-- ---- another relay
relay_messages : (relays : List (List ℕ × RelayState)) (computers : List (List ℕ × PlayedComputer)) (name : List ℕ) (w : RelayState)
    (message : Message) → CanArrive relays computers message → CanArrive (set_value (bytes_eq name) relays w) computers message
relay_messages relays computers name w (ReportToRelay relay report) can = (named_still relay name relays w can.0, can.1)
relay_messages relays computers name w (ReportToServer relay report) can = (named_still relay name relays w can.0, can.1)
relay_messages relays computers name w (VerdictToComputer computer seq verdict) can = can
relay_messages relays computers name w (ReplyToRelay relay key digest answered) can = (named_still relay name relays w can.0, can.1)

pub relay_set : (o : KeptOffice) (name : List ℕ) (p : ℕ) (w : RelayState) → place_of name o.relays ≡ Some p → IsGoodOffice o
    → IsGoodRelay o.computers w → IsGoodOffice (record o { relays = set_value (bytes_eq name) o.relays w })
relay_set o name p w at good one = record {
  relays = all_set (λ (entry : List ℕ × RelayState). IsGoodRelay o.computers entry.1) name o.relays p w at good.relays one;
  relays_found = finds_set o.relay_places name o.relays w good.relays_found;
  computers = λ i d h.
      let c = good.computers i d h in
      record { sound = c.sound; name = c.name; mail = c.mail; relay = named_still _ name o.relays w c.relay };
  computers_found = good.computers_found;
  messages = λ i d h. relay_messages o.relays o.computers name w _ (good.messages i d h);
  book = good.book;
}

-- ---- another computer
report_of : (name : List ℕ) (computers : List (List ℕ × PlayedComputer)) (w : PlayedComputer) (report : Report)
    → IsReportOf computers report → IsReportOf (set_value (bytes_eq name) computers w) report
report_of name computers w report is =
    record { good = is.good; computer = named_still report.computer name computers w is.computer }

computer_messages : (relays : List (List ℕ × RelayState)) (computers : List (List ℕ × PlayedComputer)) (name : List ℕ)
    (w : PlayedComputer) (message : Message) → CanArrive relays computers message
    → CanArrive relays (set_value (bytes_eq name) computers w) message
computer_messages relays computers name w (ReportToRelay relay report) can = (can.0, report_of name computers w report can.1)
computer_messages relays computers name w (ReportToServer relay report) can = (can.0, report_of name computers w report can.1)
computer_messages relays computers name w (VerdictToComputer computer seq verdict) can = named_still computer name computers w can
computer_messages relays computers name w (ReplyToRelay relay key digest answered) can = can

pub computer_set : (o : KeptOffice) (name : List ℕ) (p : ℕ) (w : PlayedComputer) → place_of name o.computers ≡ Some p → IsGoodOffice o
    → IsGoodComputer o.relays (name, w) → IsGoodOffice (record o { computers = set_value (bytes_eq name) o.computers w })
computer_set o name p w at good one = record {
  relays = λ i d h.
      let r = good.relays i d h in record { sites = r.sites; queue = λ k e g. report_of name o.computers w _ (r.queue k e g) };
  relays_found = good.relays_found;
  computers = all_set (IsGoodComputer o.relays) name o.computers p w at good.computers one;
  computers_found = finds_set o.computer_places name o.computers w good.computers_found;
  messages = λ i d h. computer_messages o.relays o.computers name w _ (good.messages i d h);
  book = good.book;
}

-- ---- one message more, other rows, and another book
pub message_sent : (o : KeptOffice) (message : Message) → IsGoodOffice o → CanArrive o.relays o.computers message
    → IsGoodOffice (record o { messages = o.messages ++ message ∷ [] })
message_sent o message good can = record {
  relays = good.relays;
  relays_found = good.relays_found;
  computers = good.computers;
  computers_found = good.computers_found;
  messages = All-push (CanArrive o.relays o.computers) o.messages message good.messages can;
  book = good.book;
}

pub rows_changed : (o : KeptOffice) (rows : List Change) → IsGoodOffice o → IsGoodOffice (record o { rows = rows })
rows_changed o rows good = record {
  relays = good.relays;
  relays_found = good.relays_found;
  computers = good.computers;
  computers_found = good.computers_found;
  messages = good.messages;
  book = good.book;
}

pub book_changed : (o : KeptOffice) (book : BookState) → IsGoodOffice o → book.limit ≡ o.book.limit
    → IsGoodOffice (record o { book = book })
book_changed o book good same = record {
  relays = good.relays;
  relays_found = good.relays_found;
  computers = good.computers;
  computers_found = good.computers_found;
  messages = good.messages;
  book = same ∙ good.book;
}

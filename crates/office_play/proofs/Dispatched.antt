-- Messages that are sent.
use Rattle.std.proofs.Common.{◌≡◌, ℕ, ◌+◌, List, [], ◌∷◌, ◌++◌, length, refl, sym, ap, subst, ◌∙◌}
use Rattle.std.specs.Prelude.{map}
use Rattle.std.proofs.lemmas.List.{map-append}
use Rattle.report_text.specs.declared.report.Report.{Report}
use Rattle.delivery.specs.Messages.{Message}
use Rattle.office_rules.specs.MessageWords.{Dispatches}
use Rattle.office_rules.specs.OfficeLines.{sent_line}
use Rattle.office_play.specs.declared.message.Message.{Message as KeptMessage}
use Rattle.office_play.specs.Kept.{AreRowsOf, KeptOffice, office_of}
use Rattle.office_play.specs.Links.{CanArrive, IsGoodOffice}
use Rattle.office_play.specs.Played.{Plays}
use Rattle.office_play.specs.Shown.{shown_message}
use Rattle.office_play.proofs.GoodOffices.{message_sent}

pub dispatched : (old new : KeptOffice) (message : Message) (report : Report) (to out written : List ℕ) → IsGoodOffice old
    → CanArrive old.relays old.computers message → new ≡ record old { messages = old.messages ++ message ∷ [] }
    → written ≡ out ++ sent_line (length old.messages + 1) report to → Plays (Dispatches message report to) old out new written
dispatched old new message report to out written good can is written_is accepted rows = record {
  later = accepted;
  said = sent_line (length old.messages + 1) report to;
  does = (refl, ap (office_of accepted) is);
  rows = subst (λ (o : KeptOffice). AreRowsOf accepted o.rows) (sym is) rows;
  out_is = written_is;
  good = subst IsGoodOffice (sym is) (message_sent old message good can);
}

-- A message more in the code is a message more of the office.
pub new_message : (seen old : KeptOffice) (items more : List KeptMessage) (m : KeptMessage) → seen ≡ old
    → seen.messages ≡ map shown_message items → more ≡ items ++ m ∷ []
    → record seen { messages = map shown_message more } ≡ record old { messages = old.messages ++ shown_message m ∷ [] }
new_message seen old items more m is are pushed =
    let messages : map shown_message more ≡ seen.messages ++ shown_message m ∷ [] =
    ap (map shown_message) pushed ∙ map-append shown_message items (m ∷ []) ∙ ap (λ l. l ++ shown_message m ∷ []) (sym are) in
    ap (λ (l : List Message). record seen { messages = l }) messages
    ∙ ap (λ (o : KeptOffice). record o { messages = o.messages ++ shown_message m ∷ [] }) is

use Rattle.std.proofs.Common.{◌≡◌, List, ℕ, [], ◌∷◌, ◌++◌, codes, take, Some, None, sym, ap, subst, ◌∙◌}
use Rattle.std.specs.Prelude.{decimal, find, get_or, ◌==◌}
use Rattle.std.proofs.lemmas.Result.{on_ok_weaker}
use Rattle.report_text.specs.declared.report.Report.{Report}
use Rattle.delivery.specs.Messages.{ReportToRelay}
use Rattle.office_rules.specs.MessageWords.{Dispatches, shown_report}
use Rattle.office_rules.specs.OfficeLines.{nothing_line}
use Rattle.office_play.specs.Links.{IsNamed}
use Rattle.office_play.specs.Played.{Plays}
use Rattle.office_play.specs.States.{ComputerState, OfficeState, kept_of, shown_computer, shown_entry}
use Rattle.office_play.proofs.ComputerWords.{good_at, sends_found, sends_none, shown_good}
use Rattle.office_play.proofs.Places.{at_place}
use Rattle.office_play.proofs.Seen.{entry_seen}
use Rattle.office_play.proofs.office.Office.send.Goals as goal

pub returns-in_default-clause-plays : goal.returns-in_default-clause-plays
returns-in_default-clause-plays c =
    let old : OfficeState = c.args.self.now in
    let name = c.args.name.now in
    let seq = c.args.seq in
    let place = c.computer_place-place.result in
    let entry : List ℕ × ComputerState = c.index-computer.result.now in
    let is : entry ≡ get_or old.computers place entry = c.index-computer.ensures ∙ ap (λ (o : OfficeState). get_or o.computers place entry) c.self.view_is in
    let found = at_place name (kept_of old).computers place (shown_entry entry) c.computer_place-place.ensures.first (entry_seen old.computers place entry is) in
    let none : shown_report seq (shown_computer entry.1).agent ≡ None =
    sym (c.in_default.ensures ∙ ap (find (λ (r : Report). r.seq == seq)) c.outbox.ensures
    ∙ ap (λ (e : List ℕ × ComputerState). find (λ (r : Report). r.seq == seq) (take e.1.agent.shown e.1.agent.reports)) c.computer.view_is) in
    on_ok_weaker c.say_about.result
    (λ said. sends_none (kept_of old) name seq (shown_computer entry.1) c.args.out.now _ found.1 none c.requires.good
    (said ∙ ap (λ n. c.args.out.now ++ nothing_line (codes "send" ∷ n ∷ decimal seq ∷ [])) c.as_str.ensures))
    c.say_about.ensures

pub send_to_relay-requires-clause-relay : goal.send_to_relay-requires-clause-relay
send_to_relay-requires-clause-relay c =
    let old : OfficeState = c.args.self.now in
    let name = c.args.name.now in
    let seq = c.args.seq in
    let place = c.computer_place-place.result in
    let entry : List ℕ × ComputerState = c.index-computer.result.now in
    let is : entry ≡ get_or old.computers place entry = c.index-computer.ensures ∙ ap (λ (o : OfficeState). get_or o.computers place entry) c.self.view_is in
    let seen = entry_seen old.computers place entry is in
    let relay : c.in_ok-relay.relay ≡ entry.1.relay = c.in_ok-relay.ensures ∙ ap (λ (e : List ℕ × ComputerState). e.1.relay) c.computer.view_is in
    subst (λ (r : List ℕ). IsNamed r old.relays) (sym relay) (good_at (kept_of old) name place (shown_entry entry) c.computer_place-place.ensures seen c.requires.good).relay

pub send_to_relay-requires-clause-report : goal.send_to_relay-requires-clause-report
send_to_relay-requires-clause-report c =
    let old : OfficeState = c.args.self.now in
    let name = c.args.name.now in
    let seq = c.args.seq in
    let place = c.computer_place-place.result in
    let entry : List ℕ × ComputerState = c.index-computer.result.now in
    let is : entry ≡ get_or old.computers place entry = c.index-computer.ensures ∙ ap (λ (o : OfficeState). get_or o.computers place entry) c.self.view_is in
    let seen = entry_seen old.computers place entry is in
    let shown : shown_report seq (shown_computer entry.1).agent ≡ Some c.in_ok-report.report =
    sym (c.in-Some.ensures ∙ ap (find (λ (r : Report). r.seq == seq)) c.outbox.ensures
    ∙ ap (λ (e : List ℕ × ComputerState). find (λ (r : Report). r.seq == seq) (take e.1.agent.shown e.1.agent.reports)) c.computer.view_is)
    ∙ ap Some (sym c.in_ok-report.ensures) in
    shown_good (kept_of old) name place (shown_entry entry) seq c.in_ok-report.report c.computer_place-place.ensures seen c.requires.good shown

pub returns-clause-plays : goal.returns-clause-plays
returns-clause-plays c =
    let old : OfficeState = c.args.self.now in
    let name = c.args.name.now in
    let seq = c.args.seq in
    let place = c.computer_place-place.result in
    let entry : List ℕ × ComputerState = c.index-computer.result.now in
    let is : entry ≡ get_or old.computers place entry = c.index-computer.ensures ∙ ap (λ (o : OfficeState). get_or o.computers place entry) c.self.view_is in
    let seen = entry_seen old.computers place entry is in
    let relay : c.in_ok-relay.relay ≡ entry.1.relay = c.in_ok-relay.ensures ∙ ap (λ (e : List ℕ × ComputerState). e.1.relay) c.computer.view_is in
    let shown : shown_report seq (shown_computer entry.1).agent ≡ Some c.in_ok-report.report =
    sym (c.in-Some.ensures ∙ ap (find (λ (r : Report). r.seq == seq)) c.outbox.ensures
    ∙ ap (λ (e : List ℕ × ComputerState). find (λ (r : Report). r.seq == seq) (take e.1.agent.shown e.1.agent.reports)) c.computer.view_is)
    ∙ ap Some (sym c.in_ok-report.ensures) in
    let report = c.in_ok-report.report in
    let found = at_place name (kept_of old).computers place (shown_entry entry) c.computer_place-place.ensures.first seen in
    on_ok_weaker c.send_to_relay.result
    (λ p. sends_found (kept_of old) (kept_of c.send_to_relay.new.self) name seq (shown_computer entry.1) report c.args.out.now c.send_to_relay.new.out found.1 shown
    (subst (λ (r : List ℕ). Plays (Dispatches (ReportToRelay r report) report r) (kept_of old) c.args.out.now (kept_of c.send_to_relay.new.self) c.send_to_relay.new.out) relay p))
    c.send_to_relay.ensures.plays

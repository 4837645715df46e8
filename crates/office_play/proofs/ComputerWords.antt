-- The words of computers and of `forget`.
use Rattle.std.proofs.Common.{◌≡◌, ℕ, ℤ, Bool, List, [], ◌∷◌, ◌++◌, Option, Some, None, refl, sym, ap, subst, ◌∙◌}
use Rattle.std.specs.Prelude.{All, ◌==◌, codes, decimal, find, get_or, is_some, slice_set, take}
use Rattle.std.specs.List.{position_or_len}
use Rattle.std.proofs.lemmas.List.Elements.{All-get_or, All-take}
use Rattle.std.proofs.lemmas.List.Folds.{find_at}
use Rattle.std.proofs.lemmas.Option.{get_or_from_slice_get, slice_get_within}
use Rattle.report_text.specs.declared.report.Report.{Report}
use Rattle.report_text.specs.Reports.{IsReport}
use Rattle.relay_core.specs.Relays.{RelayState, desk_queue, empty_relay}
use Rattle.agent_state.specs.States.{IsSound}
use Rattle.agent_core.specs.declared.opening.Opened.TheVariants as opened
use Rattle.agent_core.specs.Agents.{AgentState, shown_state}
use Rattle.agent_core.specs.Opens.{OpensAgent}
use Rattle.server_text.specs.Entries.{Entry}
use Rattle.delivery.specs.Messages.{ReportToRelay, named}
use Rattle.office_rules.specs.ComputerWords.{Restarts, RestartsAt, Turns, TurnsAt, TurnsComputer}
use Rattle.office_rules.specs.MessageWords.{Dispatches, Sends, SendsFound, shown_report}
use Rattle.office_rules.specs.OfficeLines.{nothing_line, words_line}
use Rattle.office_rules.specs.Offices.{IsSoundComputer, Office, PlayedComputer}
use Rattle.office_rules.specs.RelayWords.{Forgets, ForgetsAt}
use Rattle.office_play.specs.Kept.{HasAccepted, KeptOffice, office_of}
use Rattle.office_play.specs.Links.{HasMail, IsGoodComputer, IsGoodOffice, IsNamed, IsPlaceOf, IsReportOf}
use Rattle.office_play.specs.Played.{Plays}
use Rattle.office_play.specs.Turning.{TurnsOver}
use Rattle.office_play.proofs.AtPlaces.{plays_at_computer, plays_at_relay}
use Rattle.office_play.proofs.Deeds.{plays_as}
use Rattle.office_play.proofs.Mails.{OpensMail, opened_good}
use Rattle.office_play.proofs.NewNames.{fresh_relay}
use Rattle.office_play.proofs.Places.{at_place, named_holds}

-- The computer at the place of a name is a good one of this name.
pub good_at : (o : KeptOffice) (name : List ℕ) (place : ℕ) (entry : List ℕ × PlayedComputer) → IsPlaceOf name o.computers place
    → entry ≡ get_or o.computers place entry → IsGoodOffice o → IsGoodComputer o.relays (name, entry.1)
good_at o name place entry at is good =
    subst (λ (n : List ℕ). IsGoodComputer o.relays (n, entry.1)) (sym (at_place name o.computers place entry at.first is).0)
    (named_holds (IsGoodComputer o.relays) name o.computers place entry at is good.computers)

-- ---- forget
pub forgets : (old new : KeptOffice) (name : List ℕ) (place : ℕ) (entry : List ℕ × RelayState) (out written : List ℕ)
    → IsPlaceOf name old.relays place → entry ≡ get_or old.relays place entry → IsGoodOffice old
    → written ≡ out ++ words_line (codes "forget" ∷ name ∷ [])
    → new ≡ record old { relays = slice_set old.relays place (entry.0, empty_relay desk_queue) }
    → Plays (Forgets name) old out new written
forgets old new name place entry out written at is good said new_is =
    plays_at_relay (Forgets name) (λ accepted. ForgetsAt name) name old new place entry (empty_relay desk_queue) out written
    (λ accepted line n d. d) at is good (fresh_relay old.computers)
    (λ accepted are. (words_line (codes "forget" ∷ name ∷ []), (refl, refl), said)) new_is

-- ---- restart
pub restarts : OpensMail → (old new : KeptOffice) (name : List ℕ) (place : ℕ) (entry : List ℕ × PlayedComputer) (agent : AgentState)
    (out written : List ℕ) → IsPlaceOf name old.computers place → entry ≡ get_or old.computers place entry → IsGoodOffice old
    → OpensAgent name (Some entry.1.saved) (opened.Agent agent) → IsSound (shown_state agent)
    → written ≡ out ++ words_line (codes "restart" ∷ name ∷ [])
    → new ≡ record old { computers = slice_set old.computers place (entry.0, record entry.1 { agent = shown_state agent }) }
    → Plays (Restarts name) old out new written
restarts law old new name place entry agent out written at is good opens sound said new_is =
    plays_at_computer (Restarts name) (λ accepted. RestartsAt name) name old new place entry (record entry.1 { agent = shown_state agent }) out written
    (λ accepted line n d. d) at is good (opened_good law old.relays name entry.1 agent opens sound (good_at old name place entry at is good))
    (λ accepted are. (words_line (codes "restart" ∷ name ∷ []), (agent, opens, refl, refl), said)) new_is

-- ---- turn
pub turns : (old new : KeptOffice) (name : List ℕ) (moment : ℤ) (place at_relay : ℕ) (entry : List ℕ × PlayedComputer)
    (relay : List ℕ × RelayState) (then : List ℕ × PlayedComputer) (out written : List ℕ) → IsPlaceOf name old.computers place
    → entry ≡ get_or old.computers place entry → IsPlaceOf entry.1.relay old.relays at_relay → relay ≡ get_or old.relays at_relay relay
    → IsGoodOffice old → HasAccepted old.rows → IsSoundComputer then.1 → HasMail then.0 then.1.agent then.1.saved → then.0 ≡ entry.0
    → TurnsOver moment old.rows relay.1.sites entry out then written
    → new ≡ record old { computers = slice_set old.computers place then } → Plays (Turns name moment) old out new written
turns old new name moment place at_relay entry relay then out written at is from here good has sound mail same over new_is =
    let named_at : name ≡ entry.0 = (at_place name old.computers place entry at.first is).0 in
    let was = good_at old name place entry at is good in
    let own : then.0 ≡ name = same ∙ sym named_at in
    let still = (over has.0 has.1).1.relay in
    plays_at_computer (Turns name moment) (λ accepted. TurnsAt name moment (office_of accepted old)) name old new place entry then.1 out written
    (λ accepted line n d. d) at is good
    (record {
      sound = sound;
      name = was.name;
      mail = subst (λ (n : List ℕ). HasMail n then.1.agent then.1.saved) own mail;
      relay = subst (λ (r : List ℕ). IsNamed r old.relays) (sym still) was.relay;
    })
    (λ accepted are.
    let did = over accepted are in (
      did.0,
      (
        relay.1,
        (at_place entry.1.relay old.relays at_relay relay from.first here).1,
        subst (λ (n : List ℕ). TurnsComputer n moment accepted relay.1.sites entry.1 did.0 then.1) (sym named_at) did.1,
      ),
      did.2,
    ))
    (new_is ∙ ap (λ (n : List ℕ). record old { computers = slice_set old.computers place (n, then.1) }) same)

-- ---- send
found_sent : (name : List ℕ) (seq : ℕ) (relay : List ℕ) (found : Option Report) (report : Report) → found ≡ Some report
    → (accepted : List Entry) (a : KeptOffice) (said : List ℕ) (n : Office) → Dispatches (ReportToRelay relay report) report relay (office_of accepted a) said n
    → SendsFound name seq relay found (office_of accepted a) said n
found_sent name seq relay found report is accepted a said n d =
    subst (λ f. SendsFound name seq relay f (office_of accepted a) said n) (sym is) d

pub sends_found : (old new : KeptOffice) (name : List ℕ) (seq : ℕ) (computer : PlayedComputer) (report : Report) (out written : List ℕ)
    → named name old.computers ≡ Some computer → shown_report seq computer.agent ≡ Some report
    → Plays (Dispatches (ReportToRelay computer.relay report) report computer.relay) old out new written
    → Plays (Sends name seq) old out new written
sends_found old new name seq computer report out written here is p =
    plays_as (Dispatches (ReportToRelay computer.relay report) report computer.relay) (Sends name seq) old new out written
    (λ accepted said n d. (computer, here, found_sent name seq computer.relay (shown_report seq computer.agent) report is accepted old said n d)) p

pub sends_none : (old : KeptOffice) (name : List ℕ) (seq : ℕ) (computer : PlayedComputer) (out written : List ℕ)
    → named name old.computers ≡ Some computer → shown_report seq computer.agent ≡ None → IsGoodOffice old
    → written ≡ out ++ nothing_line (codes "send" ∷ name ∷ decimal seq ∷ []) → Plays (Sends name seq) old out old written
sends_none old name seq computer out written here none good said accepted rows = record {
  later = accepted;
  said = nothing_line (codes "send" ∷ name ∷ decimal seq ∷ []);
  does = (
    computer,
    here,
    subst (λ (f : Option Report). SendsFound name seq computer.relay f (office_of accepted old) (nothing_line (codes "send" ∷ name ∷ decimal seq ∷ [])) (office_of accepted old)) (sym none)
        (refl, refl),
  );
  rows = rows;
  out_is = said;
  good = good;
}

found_all : {X : Type 0} (P : X → Type 0) (p : X → Bool) (xs : List X) (x : X) → find p xs ≡ Some x → All P xs → P x
found_all P p xs x h all =
    let got = sym (find_at p xs) ∙ h in
    let k = position_or_len p xs in
    subst P (get_or_from_slice_get xs k x x got) (All-get_or P xs k x (slice_get_within xs k x got) all)

-- A report that a computer shows is of a computer that is there.
pub shown_good : (o : KeptOffice) (name : List ℕ) (place : ℕ) (entry : List ℕ × PlayedComputer) (seq : ℕ) (report : Report)
    → IsPlaceOf name o.computers place → entry ≡ get_or o.computers place entry → IsGoodOffice o
    → shown_report seq entry.1.agent ≡ Some report → IsReportOf o.computers report
shown_good o name place entry seq report at is good here =
    let c = good_at o name place entry at is good in
    let agent = entry.1.agent in
    let reports = c.sound.sound.saved.reports in
    let fits = found_all IsReport (λ (r : Report). r.seq == seq) (take agent.shown agent.reports) report here (All-take IsReport agent.shown agent.reports reports.good) in
    let own = found_all (λ (r : Report). r.computer ≡ agent.computer) (λ (r : Report). r.seq == seq) (take agent.shown agent.reports) report here
    (All-take (λ (r : Report). r.computer ≡ agent.computer) agent.shown agent.reports reports.own) in
    let named_so : report.computer ≡ name = own ∙ sym c.mail.2.computer ∙ c.mail.1 in
    let there : IsNamed name o.computers = ap is_some (at_place name o.computers place entry at.first is).1 in
    record { good = fits; computer = subst (λ (n : List ℕ). IsNamed n o.computers) (sym named_so) there }

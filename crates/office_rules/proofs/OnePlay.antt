-- Orders print one text and leave one office.
use Rattle.std.proofs.Common.{◌≡◌, ℕ, ℤ, List, [], ◌∷◌, ◌++◌, IsSome, Option, Some, refl, sym, ap, subst, ◌∙◌}
use Rattle.std.specs.Prelude.{filter_map, codes}
use Rattle.office_text.specs.declared.order.Order.{Order}
use Rattle.office_text.specs.declared.order.Order.TheVariants as order
use Rattle.server_text.specs.declared.request.Request.TheVariants as request
use Rattle.server_text.specs.ToldRows.{site_version}
use Rattle.server_core.specs.AcceptedTables.{view}
use Rattle.relay_core.specs.Relays.{RelayState}
use Rattle.agent_core.specs.declared.opening.Opened.TheVariants as opening
use Rattle.agent_core.specs.Agents.{AgentState, shown_state}
use Rattle.agent_core.specs.Opens.{OpensAgent}
use Rattle.agent_state.specs.States.{State}
use Rattle.delivery.specs.Messages.{named}
use Rattle.office_rules.specs.Deeds.{DoesEach}
use Rattle.office_rules.specs.ComputerWords.{Restarts, RestartsAt, Turns, TurnsAt, TurnsComputer}
use Rattle.office_rules.specs.Endings.{ending_text}
use Rattle.office_rules.specs.Offices.{Office, PlayedComputer, empty_office}
use Rattle.office_rules.specs.OfficeLines.{nothing_line}
use Rattle.office_rules.specs.Plays.{IsPlayed, Obeys, PlaysOrder}
use Rattle.office_rules.specs.RelayWords.{Forgets, ForgetsAt, Gathers, GathersAt, or_line}
use Rattle.office_rules.proofs.KeptDeeds.{each_kept_once}
use Rattle.office_rules.proofs.OneDeed.{IsOne, IsOneFrom, at_computer_once, at_relay_once, found_once}
use Rattle.office_rules.proofs.OneGroupWord.{IsWellNamed, OneListOfMembers, OneSample, analysis_once, group_once, measures_once, says_members_once, targets_once}
use Rattle.office_rules.proofs.WellNamed.{HasNames, empty_named, plays_named}
use Rattle.office_rules.proofs.OneMessageWord.{OneSettling, delivers_at_once, forwards_once, pushes_once, reports_once, sends_once}
use Rattle.office_rules.proofs.OneServerWord.{OneMeaning, OneReading, asks_once, newer_once}
use Rattle.office_rules.proofs.OneTurning.{HasCause, OneGathering, OneSupply, OneTurn, StillTells, computer_once}

abbrev pub OneOpening : Type 0
OneOpening = (computer : List ℕ) (told : Option (Option (List ℕ))) (agent other : AgentState) → IsSome told → OpensAgent computer told (opening.Agent agent) → OpensAgent computer told (opening.Agent other)
    → shown_state agent ≡ shown_state other

-- the laws that it stands on
pub record Laws : Type 0 where
  pub meaning : OneMeaning
  pub reading : OneReading
  pub turn : OneTurn
  pub tells : StillTells
  pub cause : HasCause
  pub supply : OneSupply
  pub gathering : OneGathering
  pub settling : OneSettling
  pub opening : OneOpening
  pub sample : OneSample
  pub members : OneListOfMembers

module _ (laws : Laws) where
  gathered_at : (name : List ℕ) (old : Office) (relay : RelayState) (lines others : List ℕ) (then far : RelayState) → GathersAt name old relay lines then → GathersAt name old relay others far → (lines ≡ others) × (then ≡ far)
  gathered_at name old relay lines others then far (taken, takes, is) (taken', takes', is') =
      let same = newer_once laws.reading name old.accepted (filter_map site_version (view old.accepted)) relay taken taken' then far takes takes' in
      (is ∙ ap (λ (l : List ℕ). or_line (nothing_line (codes "gather" ∷ name ∷ [])) l) same.0 ∙ sym is', same.1)

  gathers_once : (name : List ℕ) → IsOne (Gathers name)
  gathers_once name old said other new two p q = at_relay_once name (GathersAt name old) old (gathered_at name old) said other new two p q

  forgotten_at : (name : List ℕ) (relay : RelayState) (lines others : List ℕ) (then far : RelayState) → ForgetsAt name relay lines then → ForgetsAt name relay others far → (lines ≡ others) × (then ≡ far)
  forgotten_at name relay lines others then far p q = (p.0 ∙ sym q.0, p.1 ∙ sym q.1)

  forgets_once : (name : List ℕ) → IsOne (Forgets name)
  forgets_once name old said other new two p q = at_relay_once name (ForgetsAt name) old (forgotten_at name) said other new two p q

  turned_at : (name : List ℕ) (moment : ℤ) (old : Office) (computer : PlayedComputer) (lines others : List ℕ) (then far : PlayedComputer) → TurnsAt name moment old computer lines then → TurnsAt name moment old computer others far
      → (lines ≡ others) × (then ≡ far)
  turned_at name moment old computer lines others then far (relay, here, t) (relay', here', t') =
      let same : relay' ≡ relay = found_once (named computer.relay old.relays) relay' relay here' here in
      computer_once laws.turn laws.tells laws.cause laws.supply laws.gathering name moment old.accepted relay.sites computer lines others then far t
      (subst (λ (r : RelayState). TurnsComputer name moment old.accepted r.sites computer others far) same t')

  turns_once : (name : List ℕ) (moment : ℤ) → IsOne (Turns name moment)
  turns_once name moment old said other new two p q = at_computer_once name (TurnsAt name moment old) old (turned_at name moment old) said other new two p q

  restarted_at : (name : List ℕ) (computer : PlayedComputer) (lines others : List ℕ) (then far : PlayedComputer) → RestartsAt name computer lines then → RestartsAt name computer others far → (lines ≡ others) × (then ≡ far)
  restarted_at name computer lines others then far (agent, opens, is, becomes) (agent', opens', is', becomes') =
      let same : shown_state agent ≡ shown_state agent' = laws.opening name (Some computer.saved) agent agent' refl opens opens' in
      (is ∙ sym is', becomes ∙ ap (λ (s : State). record computer { agent = s }) same ∙ sym becomes')

  restarts_once : (name : List ℕ) → IsOne (Restarts name)
  restarts_once name old said other new two p q = at_computer_once name (RestartsAt name) old (restarted_at name) said other new two p q

  obeys_once : (what : Order) (old : Office) → IsWellNamed old.book → IsOneFrom old (Obeys what)
  obeys_once (order.Publish text) old good = asks_once laws.meaning (codes "publish") (request.Publish text) old
  obeys_once (order.Act text) old good = asks_once laws.meaning (codes "act") (request.Act text) old
  obeys_once (order.Stop id) old good = asks_once laws.meaning (codes "stop") (request.Stop id) old
  obeys_once (order.File bytes) old good = asks_once laws.meaning (codes "file") (request.File bytes) old
  obeys_once (order.Relay name) old good = λ said other new two p q. (p.0 ∙ sym q.0, p.1 ∙ sym q.1)
  obeys_once (order.Computer name relay world) old good = λ said other new two p q. (p.0 ∙ sym q.0, p.1 ∙ sym q.1)
  obeys_once (order.Gather relay) old good = gathers_once relay old
  obeys_once (order.Turn name moment) old good = turns_once name moment old
  obeys_once (order.Restart name) old good = restarts_once name old
  obeys_once (order.Send name seq) old good = sends_once name seq old
  obeys_once (order.Push relay) old good = pushes_once relay old
  obeys_once (order.Deliver message) old good = delivers_at_once laws.settling message old
  obeys_once (order.Report name) old good = reports_once laws.settling name old
  obeys_once (order.Forward relay) old good = forwards_once laws.settling relay old
  obeys_once (order.Forget relay) old good = forgets_once relay old
  obeys_once (order.Analysis analysis) old good = analysis_once analysis old good
  obeys_once (order.Group group) old good = group_once group old
  obeys_once (order.Measure name moment) old good = measures_once laws.sample name moment old
  obeys_once (order.Members name) old good = says_members_once laws.members name old good
  obeys_once (order.Target name text) old good = targets_once laws.meaning laws.members name text old good

  pub plays_once : (what : Order) (old : Office) → IsWellNamed old.book → IsOneFrom old (PlaysOrder what)
  plays_once what old good said other new two p q = obeys_once what old good said other new two p.obeys q.obeys

  -- some orders are played to one thing
  pub all_once : (orders : List Order) → IsOneFrom empty_office (DoesEach PlaysOrder orders)
  all_once orders = each_kept_once HasNames PlaysOrder plays_named plays_once orders empty_office empty_named

  pub play_once : (orders : List Order) (written other : List ℕ) (one two : Office) → IsPlayed orders written one → IsPlayed orders other two → (written ≡ other) × (one ≡ two)
  play_once orders written other one two p q =
      let same = all_once orders p.said q.said one two p.plays q.plays in
      (p.written_is ∙ (λ j. same.0 j ++ ending_text (same.1 j)) ∙ sym q.written_is, same.1)

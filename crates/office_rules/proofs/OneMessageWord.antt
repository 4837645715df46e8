-- What becomes of messages comes to one thing.
use Rattle.std.proofs.Common.{◌≡◌, ℕ, Bool, List, [], ◌∷◌, length, Option, Some, None, refl, sym, ap, subst, ◌∙◌}
use Rattle.std.specs.List.{range_with_len}
use Rattle.fix_site.specs.declared.site.Site.{Site}
use Rattle.report_text.specs.declared.answer.Verdict.{Verdict}
use Rattle.report_text.specs.declared.report.Report.{Report}
use Rattle.relay_core.specs.Relays.{RelayState}
use Rattle.agent_state.specs.Changes.{SettlesState}
use Rattle.agent_state.specs.States.{State}
use Rattle.delivery.specs.Messages.{Carrier, Message, ReportToRelay, ReportToServer, VerdictToComputer, ReplyToRelay, carrier_of, named}
use Rattle.delivery.specs.Schedules.{message_at}
use Rattle.office_rules.specs.Deeds.{DoesBoth, DoesEach}
use Rattle.office_rules.specs.MessageWords.{Delivers, DeliversAnswered, DeliversAt, DeliversFound, Dispatches, Forwards, Pushes, PushesQueue, ReportsAll, ReportsOne, SaysAnswer, Sends, SendsFound, Tells, answer_word, arrived, next_number, settled_word, shown_numbers, shown_report, sites_of}
use Rattle.office_rules.specs.Offices.{Office, PlayedComputer, carriers_of, with_computer}
use Rattle.office_rules.specs.OfficeLines.{delivered_line, answer_words}
use Rattle.office_rules.proofs.OneDeed.{IsOne, both_once, each_once, found_once}

-- ---- sent messages
pub dispatches_once : (message : Message) (report : Report) (to : List ℕ) → IsOne (Dispatches message report to)
dispatches_once message report to old said other new two p q = (p.0 ∙ sym q.0, p.1 ∙ sym q.1)

sends_found_once : (name : List ℕ) (seq : ℕ) (relay : List ℕ) (report : Option Report) → IsOne (SendsFound name seq relay report)
sends_found_once name seq relay None old said other new two p q = (p.0 ∙ sym q.0, p.1 ∙ sym q.1)
sends_found_once name seq relay (Some report) old said other new two p q = dispatches_once (ReportToRelay relay report) report relay old said other new two p q

pub sends_once : (name : List ℕ) (seq : ℕ) → IsOne (Sends name seq)
sends_once name seq old said other new two (computer, here, p) (computer', here', q) =
    let same : computer' ≡ computer = found_once (named name old.computers) computer' computer here' here in
    sends_found_once name seq computer.relay (shown_report seq computer.agent) old said other new two p
    (subst (λ (c : PlayedComputer). SendsFound name seq c.relay (shown_report seq c.agent) old other two) same q)

queue_once : (name : List ℕ) (queue : List Report) → IsOne (PushesQueue name queue)
queue_once name [] old said other new two p q = (p.0 ∙ sym q.0, p.1 ∙ sym q.1)
queue_once name (first ∷ more) old said other new two p q =
    each_once (λ (report : Report). Dispatches (ReportToServer name report) report _) (λ report. dispatches_once (ReportToServer name report) report _) (first ∷ more) old said other new two p q

pub pushes_once : (name : List ℕ) → IsOne (Pushes name)
pushes_once name old said other new two (relay, here, p) (relay', here', q) =
    let same : relay' ≡ relay = found_once (named name old.relays) relay' relay here' here in
    queue_once name relay.queue old said other new two p (subst (λ (r : RelayState). PushesQueue name r.queue old other two) same q)

-- ---- a message that arrives
abbrev head_of : {X : Type 0} → X → List X → X
head_of x [] = x
head_of x (y ∷ ys) = y

abbrev tail_of : {X : Type 0} → List X → List X
tail_of [] = []
tail_of (y ∷ ys) = ys

-- relays are their carriers and their sites
relays_once : (a b : List (List ℕ × RelayState)) → carriers_of a ≡ carriers_of b → sites_of a ≡ sites_of b → a ≡ b
relays_once [] [] p q = refl
relays_once [] (y ∷ ys) p q = absurd (cc)
relays_once (x ∷ xs) [] p q = absurd (cc)
relays_once (x ∷ xs) (y ∷ ys) p q =
    let first : (x.0, carrier_of x.1) ≡ (y.0, carrier_of y.1) = ap (λ (l : List (List ℕ × Carrier)). head_of (x.0, carrier_of x.1) l) p in
    let sites : x.1.sites ≡ y.1.sites = ap (λ (l : List (List Site)). head_of x.1.sites l) q in
    let rest : xs ≡ ys = relays_once xs ys (ap (λ (l : List (List ℕ × Carrier)). tail_of l) p) (ap (λ (l : List (List Site)). tail_of l) q) in
    λ j. ((first j).0, record { limit = (first j).1.limit; queue = (first j).1.queue; held = (first j).1.held; sites = sites j }) ∷ rest j

says_once : (old : Office) (message : Message) (said other : List (List ℕ)) → SaysAnswer old message said → SaysAnswer old message other → said ≡ other
says_once old message said other (answer, word, is, spelled, p) (answer', word', is', spelled', q) =
    let same : answer ≡ answer' = found_once (arrived old message).answer answer answer' is is' in
    let words : word ≡ word' = found_once (answer_word answer) word word' spelled (ap answer_word same ∙ spelled') in
    p ∙ ap (λ (w : List ℕ). answer_words w (next_number old)) words ∙ sym q

abbrev pub OneSettling : Type 0
OneSettling = (seq : ℕ) (verdict : Verdict) (s s2 s3 : State) (answer other : Bool) → SettlesState seq verdict s answer s2 → SettlesState seq verdict s other s3 → (answer ≡ other) × (s2 ≡ s3)

tells_once : OneSettling → (message : Message) (old : Office) (said other : List (List ℕ)) (computers others : List (List ℕ × PlayedComputer)) → Tells message old said computers → Tells message old other others
    → (said ≡ other) × (computers ≡ others)
tells_once settling (VerdictToComputer name seq verdict) old said other computers others (computer, agent, dropped, here, settles, p, is) (computer', agent', dropped', here', settles', q, is') =
    let same : computer' ≡ computer = found_once (named name old.computers) computer' computer here' here in
    let done = settling seq verdict computer.agent agent agent' dropped dropped' settles (subst (λ (c : PlayedComputer). SettlesState seq verdict c.agent dropped' agent') same settles') in (
      p ∙ ap (λ (b : Bool). settled_word b ∷ []) done.0 ∙ sym q,
      is ∙ (λ j. (with_computer name (record (sym same j) { agent = done.1 j }) old).computers) ∙ sym is',
    )
tells_once settling (ReplyToRelay relay key digest answered) old said other computers others p q = (p.0 ∙ sym q.0, p.1 ∙ sym q.1)
tells_once settling (ReportToRelay relay report) old said other computers others p q = (says_once old (ReportToRelay relay report) said other p.0 q.0, p.1 ∙ sym q.1)
tells_once settling (ReportToServer relay report) old said other computers others p q = (says_once old (ReportToServer relay report) said other p.0 q.0, p.1 ∙ sym q.1)

delivers_once : OneSettling → (number : ℕ) (message : Message) (old : Office) (said other : List ℕ) (new two : Office) → Delivers number message old said new → Delivers number message old other two
    → (said ≡ other) × (new ≡ two)
delivers_once settling number message old said other new two p q =
    let told = tells_once settling message old p.words q.words new.computers two.computers p.tells q.tells in
    let accepted : new.accepted ≡ two.accepted = p.reaches.accepted ∙ sym q.reaches.accepted in
    let relays : new.relays ≡ two.relays = relays_once new.relays two.relays (p.reaches.carriers ∙ sym q.reaches.carriers) (p.reaches.sites ∙ sym q.reaches.sites) in
    let messages : new.messages ≡ two.messages = p.reaches.messages ∙ sym q.reaches.messages in
    let book : new.book ≡ two.book = p.reaches.book ∙ sym q.reaches.book in (
      p.said_is ∙ ap (λ (w : List (List ℕ)). delivered_line number w) told.0 ∙ sym q.said_is,
      λ j. record { accepted = accepted j; relays = relays j; computers = told.1 j; messages = messages j; book = book j },
    )

found_delivers_once : OneSettling → (number : ℕ) (message : Option Message) → IsOne (DeliversFound number message)
found_delivers_once settling number None old said other new two p q = (p.0 ∙ sym q.0, p.1 ∙ sym q.1)
found_delivers_once settling number (Some message) old said other new two p q = delivers_once settling number message old said other new two p q

pub delivers_at_once : OneSettling → (number : ℕ) → IsOne (DeliversAt number)
delivers_at_once settling number old said other new two p q = found_delivers_once settling number (message_at number old.messages) old said other new two p q

answered_once : OneSettling → (number : ℕ) → IsOne (DeliversAnswered number)
answered_once settling number old said other new two p q =
    both_once (DeliversAt number) (DeliversAt (next_number old)) old (delivers_at_once settling number old) (delivers_at_once settling (next_number old)) said other new two p q

-- ---- reports on their way
reports_one_once : OneSettling → (name : List ℕ) (seq : ℕ) → IsOne (ReportsOne name seq)
reports_one_once settling name seq old said other new two p q =
    both_once (Sends name seq) (DeliversAnswered (next_number old)) old (sends_once name seq old) (answered_once settling (next_number old)) said other new two p q

pub reports_once : OneSettling → (name : List ℕ) → IsOne (ReportsAll name)
reports_once settling name old said other new two (computer, here, p) (computer', here', q) =
    let same : computer' ≡ computer = found_once (named name old.computers) computer' computer here' here in
    each_once (ReportsOne name) (reports_one_once settling name) (shown_numbers computer.agent) old said other new two p
    (subst (λ (c : PlayedComputer). DoesEach (ReportsOne name) (shown_numbers c.agent) old other two) same q)

pub forwards_once : OneSettling → (name : List ℕ) → IsOne (Forwards name)
forwards_once settling name old said other new two (relay, here, p) (relay', here', q) =
    let same : relay' ≡ relay = found_once (named name old.relays) relay' relay here' here in
    both_once (PushesQueue name relay.queue) (DoesEach DeliversAnswered (numbers relay)) old (queue_once name relay.queue old) (each_once DeliversAnswered (answered_once settling) (numbers relay)) said other new two p
    (subst (λ (r : RelayState). DoesBoth (PushesQueue name r.queue) (DoesEach DeliversAnswered (numbers r)) old other two) same q)
  where
    numbers : RelayState → List ℕ
    numbers r = range_with_len (next_number old) (length r.queue)

-- Turns with the server's files between them come to one thing, where no device fails and memory lasts.
use Rattle.std.proofs.Common.{◌≡◌, ◌≢◌, ℕ, ℤ, ◌≤◌, Bool, true, ◌||◌, List, [], ◌∷◌, ◌++◌, inl, inr, Option, Some, None, refl, sym, ap, subst, ◌∙◌, arith}
use Rattle.std.specs.Prelude.{map}
use Rattle.desk_base.specs.Counts.{Rose}
use Rattle.bf_world.specs.declared.command.Command.{Command}
use Rattle.bf_machine.specs.Steps.{answers_from, world_after}
use Rattle.report_text.specs.declared.answer.Gathered.{Gathered}
use Rattle.report_text.specs.declared.answer.Gathered.TheVariants as gathered
use Rattle.fix_site.specs.declared.site.Site.{Site}
use Rattle.script_run.specs.Asking.{When}
use Rattle.agent_state.specs.Changes.{GathersSite, SuppliesState}
use Rattle.agent_state.specs.States.{State}
use Rattle.agent_core.specs.declared.turned.Turned.{Turned}
use Rattle.agent_core.specs.declared.turned.Turned.TheVariants.{Idle, Interrupted, Held, Wants, Ended, MachineFault, PocketFault, Memory}
use Rattle.agent_core.specs.Devices.{Devices, NoFaults, TellsWorld}
use Rattle.agent_core.specs.Stops.{MachineHasCause, TurnHasCause}
use Rattle.agent_core.specs.Turns.{Turn}
use Rattle.server_text.specs.declared.reply.Reply.{Reply}
use Rattle.server_text.specs.declared.reply.Reply.TheVariants as told
use Rattle.server_text.specs.Entries.{Entry, FileBytes}
use Rattle.server_core.specs.DeskLimits.{desk_limits}
use Rattle.server_core.specs.Replies.{reply}
use Rattle.turn_lines.specs.declared.giver.Given.{Given}
use Rattle.turn_lines.specs.declared.giver.Given.TheVariants as given
use Rattle.turn_lines.specs.DoLines.{do_lines}
use Rattle.turn_lines.specs.Givers.{GivesAll, GiverView}
use Rattle.turn_lines.specs.TurnLines.{turn_line}
use Rattle.turn_lines.specs.TurnsWithFiles.{Closes, Fetch, FetchesAll, TurnsWithFiles, any_begun, asked_by, given_of, with_begun}
use Rattle.office_rules.specs.ComputerWords.{Brings, GathersEach, ServesFiles, TurnsComputer, devices_of, server_files, turn_time}
use Rattle.office_rules.specs.Offices.{PlayedComputer}
use Rattle.office_rules.proofs.OneDeed.{some_is}

-- ---- the laws that it stands on
abbrev pub OneTurn : Type 0
OneTurn = (at : When) (s : State) (d : Devices) (answer other : Turned) (s2 s3 : State) (d2 d3 : Devices) → TellsWorld d → Turn at s d answer s2 d2 → Turn at s d other s3 d3 → NoFaults d d2 → NoFaults d d3
    → answer ≢ PocketFault → answer ≢ Memory → other ≢ PocketFault → other ≢ Memory → (answer ≡ other) × (s2 ≡ s3) × (d2 ≡ d3)

abbrev pub StillTells : Type 0
StillTells = (at : When) (s s2 : State) (d d2 : Devices) (answer : Turned) → TellsWorld d → Turn at s d answer s2 d2 → NoFaults d d2 → answer ≢ PocketFault → answer ≢ Memory → TellsWorld d2

abbrev pub HasCause : Type 0
HasCause = (at : When) (s s2 : State) (d d2 : Devices) (answer : Turned) → Turn at s d answer s2 d2 → TurnHasCause d answer d2

abbrev pub OneGathering : Type 0
OneGathering = (site : Site) (s s2 s3 : State) (answer other : Gathered) → GathersSite s site answer s2 → GathersSite s site other s3 → answer ≢ gathered.Memory → other ≢ gathered.Memory → (answer ≡ other) × (s2 ≡ s3)

abbrev pub OneSupply : Type 0
OneSupply = (digest : List ℕ) (bytes : Option (List ℕ)) (s s2 s3 : State) (answer other : Bool) → SuppliesState s digest bytes answer s2 → SuppliesState s digest bytes other s3 → (answer ≡ other) × (s2 ≡ s3)

-- ---- sites
pub gathers_once : OneGathering → (sites : List Site) (old new two : State) → GathersEach sites old new → GathersEach sites old two → new ≡ two
gathers_once one [] old new two p q = p ∙ sym q
gathers_once one (site ∷ sites) old new two (answer, mid, p, ample, rest) (answer', far, p', ample', rest') =
    let same = one site old mid far answer answer' p p' ample ample' in
    gathers_once one sites mid new two rest (subst (λ (s : State). GathersEach sites s two) (sym same.1) rest')

-- ---- files
abbrev bytes_of : Given → Option (List ℕ)
bytes_of (given.File bytes) = Some bytes
bytes_of other = None

given_is : (bytes : Option (List ℕ)) → bytes_of (given_of bytes) ≡ bytes
given_is None = refl
given_is (Some bytes) = refl

brings_once : (r : Reply) (a b : Given) → Brings r a → Brings r b → a ≡ b
brings_once (told.Content bytes) a b p q = p ∙ sym q
brings_once told.NoSuch a b p q = p ∙ sym q
brings_once told.Ok a b p q = absurd p
brings_once told.Again a b p q = absurd p
brings_once (told.Digest digest) a b p q = absurd p
brings_once (told.Sites sites) a b p q = absurd p
brings_once (told.Site text) a b p q = absurd p
brings_once told.Same a b p q = absurd p
brings_once (told.Rows rows) a b p q = absurd p
brings_once (told.BadText line) a b p q = absurd p
brings_once (told.Conflict digest) a b p q = absurd p
brings_once (told.Older version) a b p q = absurd p
brings_once (told.Full limit) a b p q = absurd p
brings_once told.KeeperFault a b p q = absurd p
brings_once told.Memory a b p q = absurd p

-- what is served to a turn that wanted it is what the server brings
served : (accepted : List Entry) (digest : List ℕ) (bytes : Option (List ℕ)) (then : List Entry) → ServesFiles accepted digest (given_of bytes) then
    → Brings (reply accepted desk_limits (FileBytes digest)) (given_of bytes) × (then ≡ accepted)
served accepted digest None then h = h
served accepted digest (Some bytes) then h = h

served_once : (accepted : List Entry) (digest : List ℕ) (a b : Option (List ℕ)) (then two : List Entry) → ServesFiles accepted digest (given_of a) then → ServesFiles accepted digest (given_of b) two → a ≡ b
served_once accepted digest a b then two p q =
    let same = brings_once (reply accepted desk_limits (FileBytes digest)) (given_of a) (given_of b) (served accepted digest a then p).0 (served accepted digest b two q).0 in
    sym (given_is a) ∙ ap bytes_of same ∙ given_is b

-- ---- counts
-- no call of either device has failed
record IsQuiet (d : Devices) : Type 0 where
  machine : d.machine.faults ≡ 0
  pocket : d.pocket.faults ≡ 0

machine_later : (old new : ℕ) (a : Turned) → MachineHasCause old new a → old ≤ new
machine_later old new MachineFault h = omega (arith, h)
machine_later old new Idle h = omega (arith, h)
machine_later old new (Interrupted id) h = omega (arith, h)
machine_later old new (Held id began component line) h = h
machine_later old new (Wants id began digest) h = h
machine_later old new (Ended id began outcome fail) h = h
machine_later old new PocketFault h = h
machine_later old new Memory h = h

-- where none has failed after a turn, none had before it
quiet_before : HasCause → (at : When) (s s2 : State) (d d2 : Devices) (a : Turned) → Turn at s d a s2 d2 → IsQuiet d2 → IsQuiet d
quiet_before cause at s s2 d d2 a turn quiet =
    let has = cause at s s2 d d2 a turn in
    let below = machine_later d.machine.faults d2.machine.faults a has.machine in
    let under = has.pocket.later in
    let zero = quiet.machine in
    let none = quiet.pocket in
    record { machine = omega (arith, below, zero); pocket = omega (arith, under, none) }

no_faults : (d d2 : Devices) → IsQuiet d → IsQuiet d2 → NoFaults d d2
no_faults d d2 p q =
    let a = p.machine in let b = p.pocket in let c = q.machine in let e = q.pocket in
    record { machine_counts = omega (arith, a); pocket_counts = omega (arith, b); machine = c ∙ sym a; pocket = e ∙ sym b }

-- ---- turns with files
-- the turn isn't the last: it wants a file
abbrev WantsNone : Turned → Type 0
WantsNone a = (id : ℕ) (began : Bool) (digest : List ℕ) → a ≢ Wants id began digest

module _ (turn_once : OneTurn) (tells : StillTells) (cause : HasCause) (supply : OneSupply) (at : When) (accepted : List Entry) where
  abbrev Gives : GiverView (List Entry) → List Fetch → GiverView (List Entry) → Type 0
  Gives g fetches g2 = GivesAll ServesFiles g (map asked_by fetches) g2

  quiet_all : (fetches : List Fetch) (s s1 : State) (d d1 : Devices) → FetchesAll at s d fetches s1 d1 → IsQuiet d1 → IsQuiet d
  quiet_all [] s s1 d d1 h quiet = subst IsQuiet h.1 quiet
  quiet_all (fetch ∷ fetches) s s1 d d1 (mid, then, one, rest) quiet =
      quiet_before cause at s one.turned d then (Wants fetch.id fetch.began fetch.digest) one.turns (quiet_all fetches mid s1 then d1 rest quiet)

  -- the files that were fetched, the last answer, and the state and the devices then
  record SameTurns (fetches others : List Fetch) (last would : Turned) (s2 s3 : State) (d2 d3 : Devices) : Type 0 where
    files : fetches ≡ others
    answers : last ≡ would
    states : s2 ≡ s3
    devices : d2 ≡ d3

  wanted : (a b : Fetch) → Wants a.id a.began a.digest ≡ Wants b.id b.began b.digest → (a.id ≡ b.id) × (a.began ≡ b.began) × (a.digest ≡ b.digest)
  wanted a b e = (cc, cc, cc)

  fetched_once : (fetches others : List Fetch) (s : State) (d : Devices) (g h : GiverView (List Entry)) (m m' s2 s3 : State) (e e' d2 d3 : Devices) (g2 h2 : GiverView (List Entry)) (last would : Turned)
      → TellsWorld d → g.source ≡ accepted → h.source ≡ accepted → FetchesAll at s d fetches m e → FetchesAll at s d others m' e' → Gives g fetches g2 → Gives h others h2
      → Turn at m e last s2 d2 → Turn at m' e' would s3 d3 → IsQuiet d2 → IsQuiet d3 → WantsNone last → WantsNone would
      → last ≢ PocketFault → last ≢ Memory → would ≢ PocketFault → would ≢ Memory → SameTurns fetches others last would s2 s3 d2 d3
  fetched_once [] [] s d g h m m' s2 s3 e e' d2 d3 g2 h2 last would tell from from' p q files files' t u quiet quiet' none none' fault memory fault' memory' =
      let mine : Turn at s d last s2 d2 = subst (λ (x : State). Turn at x d last s2 d2) p.0 (subst (λ (x : Devices). Turn at m x last s2 d2) p.1 t) in
      let yours : Turn at s d would s3 d3 = subst (λ (x : State). Turn at x d would s3 d3) q.0 (subst (λ (x : Devices). Turn at m' x would s3 d3) q.1 u) in
      let calm = quiet_before cause at s s2 d d2 last mine quiet in
      let same = turn_once at s d last would s2 s3 d2 d3 tell mine yours (no_faults d d2 calm quiet) (no_faults d d3 calm quiet') fault memory fault' memory' in
      record { files = refl; answers = same.0; states = same.1; devices = same.2 }
  fetched_once [] (other ∷ others) s d g h m m' s2 s3 e e' d2 d3 g2 h2 last would tell from from' p (mid, then, one, rest) files files' t u quiet quiet' none none' fault memory fault' memory' =
      let mine : Turn at s d last s2 d2 = subst (λ (x : State). Turn at x d last s2 d2) p.0 (subst (λ (x : Devices). Turn at m x last s2 d2) p.1 t) in
      let calm = quiet_before cause at s s2 d d2 last mine quiet in
      let still = quiet_all others mid m' then e' rest (quiet_before cause at m' s3 e' d3 would u quiet') in
      let same = turn_once at s d last (Wants other.id other.began other.digest) s2 one.turned d2 then tell mine one.turns (no_faults d d2 calm quiet) (no_faults d then calm still) fault memory
      (λ x. absurd (cc)) (λ x. absurd (cc)) in
      absurd (none other.id other.began other.digest same.0)
  fetched_once (fetch ∷ fetches) [] s d g h m m' s2 s3 e e' d2 d3 g2 h2 last would tell from from' (mid, then, one, rest) q files files' t u quiet quiet' none none' fault memory fault' memory' =
      let yours : Turn at s d would s3 d3 = subst (λ (x : State). Turn at x d would s3 d3) q.0 (subst (λ (x : Devices). Turn at m' x would s3 d3) q.1 u) in
      let calm = quiet_before cause at s s3 d d3 would yours quiet' in
      let still = quiet_all fetches mid m then e rest (quiet_before cause at m s2 e d2 last t quiet) in
      let same = turn_once at s d would (Wants fetch.id fetch.began fetch.digest) s3 one.turned d3 then tell yours one.turns (no_faults d d3 calm quiet') (no_faults d then calm still) fault' memory'
      (λ x. absurd (cc)) (λ x. absurd (cc)) in
      absurd (none' fetch.id fetch.began fetch.digest same.0)
  fetched_once (fetch ∷ fetches) (other ∷ others) s d g h m m' s2 s3 e e' d2 d3 g2 h2 last would tell from from' (mid, then, one, rest) (mid', then', one', rest') (g1, gave, files) (h1, gave', files') t u quiet quiet'
      none none' fault memory fault' memory' =
      let still = quiet_all fetches mid m then e rest (quiet_before cause at m s2 e d2 last t quiet) in
      let still' = quiet_all others mid' m' then' e' rest' (quiet_before cause at m' s3 e' d3 would u quiet') in
      let calm = quiet_before cause at s one.turned d then (Wants fetch.id fetch.began fetch.digest) one.turns still in
      let same = turn_once at s d (Wants fetch.id fetch.began fetch.digest) (Wants other.id other.began other.digest) one.turned one'.turned then then' tell one.turns one'.turns
      (no_faults d then calm still) (no_faults d then' calm still') (λ x. absurd (cc)) (λ x. absurd (cc)) (λ x. absurd (cc)) (λ x. absurd (cc)) in
      let keys = wanted fetch other same.0 in
      let served1 : ServesFiles accepted fetch.digest (given_of fetch.bytes) g1.source = subst (λ (x : List Entry). ServesFiles x fetch.digest (given_of fetch.bytes) g1.source) from gave.source in
      let served2 : ServesFiles accepted fetch.digest (given_of other.bytes) h1.source =
      subst (λ (x : List ℕ). ServesFiles accepted x (given_of other.bytes) h1.source) (sym keys.2) (subst (λ (x : List Entry). ServesFiles x other.digest (given_of other.bytes) h1.source) from' gave'.source) in
      let bytes : fetch.bytes ≡ other.bytes = served_once accepted fetch.digest fetch.bytes other.bytes g1.source h1.source served1 served2 in
      let first : fetch ≡ other = (λ j. record { id = keys.0 j; began = keys.1 j; digest = keys.2 j; bytes = bytes j }) in
      let given : SuppliesState one.turned fetch.digest fetch.bytes true mid' =
      subst (λ (x : State). SuppliesState x fetch.digest fetch.bytes true mid') (sym same.1) (subst (λ (f : Fetch). SuppliesState one'.turned f.digest f.bytes true mid') (sym first) one'.supplies) in
      let state : mid ≡ mid' = (supply fetch.digest fetch.bytes one.turned mid mid' true true one.supplies given).1 in
      let next = fetched_once fetches others mid then g1 h1 m m' s2 s3 e e' d2 d3 g2 h2 last would (tells at s one.turned d then (Wants fetch.id fetch.began fetch.digest) tell one.turns (no_faults d then calm still) (λ x. absurd (cc)) (λ x. absurd (cc)))
      (served accepted fetch.digest fetch.bytes g1.source served1).1 (served accepted fetch.digest other.bytes h1.source served2).1 rest
      (subst (λ (x : State). FetchesAll at x then others m' e') (sym state) (subst (λ (x : Devices). FetchesAll at mid' x others m' e') (sym same.2) rest'))
      files files' t u quiet quiet' none none' fault memory fault' memory' in
      record { files = (λ j. first j ∷ next.files j); answers = next.answers; states = next.states; devices = next.devices }

-- ---- the last answer
begun_wants : (b : Bool) (a : Turned) → WantsNone (with_begun b a) → WantsNone a
begun_wants b a none id began digest e = none id (b || began) digest (subst (λ (x : Turned). with_begun b x ≡ Wants id (b || began) digest) (sym e) refl)

begun_fault : (b : Bool) (a : Turned) → with_begun b a ≢ PocketFault → a ≢ PocketFault
begun_fault b a other e = other (subst (λ (x : Turned). with_begun b x ≡ PocketFault) (sym e) refl)

begun_memory : (b : Bool) (a : Turned) → with_begun b a ≢ Memory → a ≢ Memory
begun_memory b a other e = other (subst (λ (x : Turned). with_begun b x ≡ Memory) (sym e) refl)

not_served : (accepted : List Entry) (digest : List ℕ) (then : List Entry) → ServesFiles accepted digest given.NotGot then → ⊥
not_served accepted digest then h = by (reply accepted desk_limits (FileBytes digest)) h.0
  where
    by : (r : Reply) → Brings r given.NotGot → ⊥
    by (told.Content bytes) e = absurd (cc)
    by told.NoSuch e = absurd (cc)
    by told.Ok e = e
    by told.Again e = e
    by (told.Digest digest) e = e
    by (told.Sites sites) e = e
    by (told.Site text) e = e
    by told.Same e = e
    by (told.Rows rows) e = e
    by (told.BadText line) e = e
    by (told.Conflict digest) e = e
    by (told.Older version) e = e
    by (told.Full limit) e = e
    by told.KeeperFault e = e
    by told.Memory e = e

-- the turns end with one that wants no file
closed : (last : Turned) (g g2 : GiverView (List Entry)) (answer : Turned) → answer ≢ Memory → Closes ServesFiles last g answer g2 → WantsNone last × (answer ≡ last)
closed (Wants id began digest) g g2 answer ample (inl h) = absurd (not_served g.source digest g2.source h.0.source)
closed (Wants id began digest) g g2 answer ample (inr h) = absurd (ample h.1)
closed (Held id began component line) g g2 answer ample h = (λ i b k e. absurd (cc), h.1)
closed (Ended id began outcome fail) g g2 answer ample h = (λ i b k e. absurd (cc), h.1)
closed Idle g g2 answer ample h = (λ i b k e. absurd (cc), h.1)
closed (Interrupted id) g g2 answer ample h = (λ i b k e. absurd (cc), h.1)
closed MachineFault g g2 answer ample h = (λ i b k e. absurd (cc), h.1)
closed PocketFault g g2 answer ample h = (λ i b k e. absurd (cc), h.1)
closed Memory g g2 answer ample h = (λ i b k e. absurd (cc), h.1)

-- ---- a computer
no_rise : (a b : ℕ) → a ≡ 0 → b ≡ 0 → Rose a b → ⊥
no_rise a b p q rose = omega (arith, p, q, rose)

-- the turns that were made
record Made (at : When) (accepted : List Entry) (s : State) (d : Devices) (answer : Turned) (s2 : State) (d2 : Devices) : Type 0 where
  fetches : List Fetch
  between : State
  devices : Devices
  last : Turned
  files : GiverView (List Entry)
  fetched : FetchesAll at s d fetches between devices
  asked : GivesAll ServesFiles (server_files accepted) (map asked_by fetches) files
  turns : Turn at between devices last s2 d2
  answers : answer ≡ with_begun (any_begun fetches) last
  none : WantsNone last
  fault : last ≢ PocketFault
  memory : last ≢ Memory

made : (at : When) (accepted : List Entry) (s : State) (d : Devices) (answer : Turned) (s2 : State) (d2 : Devices) (g2 : GiverView (List Entry)) → TurnsWithFiles ServesFiles at s d (server_files accepted) answer s2 d2 g2
    → answer ≢ Memory → d.pocket.faults ≡ 0 → d2.pocket.faults ≡ 0 → Made at accepted s d answer s2 d2
made at accepted s d answer s2 d2 g2 t ample zero zero' =
    let end = closed t.last t.told g2 answer ample t.closes in
    let m = t.turns in
    let is : answer ≡ with_begun (any_begun m.fetches) m.last = end.1 ∙ m.answers in
    record {
      fetches = m.fetches;
      between = m.between;
      devices = m.devices;
      last = m.last;
      files = t.told;
      fetched = m.fetched;
      asked = m.asked;
      turns = m.turns;
      answers = is;
      none = begun_wants (any_begun m.fetches) m.last (λ id began digest e. end.0 id began digest (m.answers ∙ e));
      fault = λ e. no_rise m.devices.pocket.faults d2.pocket.faults (m.pocket ∙ zero) zero' (m.cause.pocket.rose e);
      memory = begun_memory (any_begun m.fetches) m.last (λ e. ample (is ∙ e));
    }

told_once : {X : Type 0} (o p : Option X) (x y : X) → o ≡ p → o ≡ Some x → p ≡ Some y → x ≡ y
told_once o p x y same a b = some_is x y (sym a ∙ same ∙ b)

pub computer_once : OneTurn → StillTells → HasCause → OneSupply → OneGathering → (name : List ℕ) (moment : ℤ) (accepted : List Entry) (sites : List Site) (old : PlayedComputer) (said other : List ℕ) (new two : PlayedComputer)
    → TurnsComputer name moment accepted sites old said new → TurnsComputer name moment accepted sites old other two → (said ≡ other) × (new ≡ two)
computer_once turn_once tells cause supply gathering name moment accepted sites old said other new two p q =
    let at : When = turn_time moment old in
    let d : Devices = devices_of old in
    let state : p.gathered ≡ q.gathered = gathers_once gathering sites old.agent p.gathered q.gathered p.gathers q.gathers in
    let turned = subst (λ (s : State). TurnsWithFiles ServesFiles at s d (server_files accepted) q.answer two.agent q.told q.files) (sym state) q.turns in
    let a = made at accepted p.gathered d p.answer new.agent p.told p.files p.turns p.memory refl p.tells.pocket_faults in
    let b = made at accepted p.gathered d q.answer two.agent q.told q.files turned q.memory refl q.tells.pocket_faults in
    let tell : TellsWorld d = record { world = refl; looked = refl; acted = refl; polled = refl; saved = refl } in
    let same = fetched_once turn_once tells cause supply at accepted a.fetches b.fetches p.gathered d (server_files accepted) (server_files accepted) a.between b.between new.agent two.agent a.devices b.devices p.told q.told
    a.files b.files a.last b.last tell refl refl a.fetched b.fetched a.asked b.asked a.turns b.turns (record { machine = p.tells.machine_faults; pocket = p.tells.pocket_faults })
    (record { machine = q.tells.machine_faults; pocket = q.tells.pocket_faults }) a.none b.none a.fault a.memory b.fault b.memory in
    let answer : p.answer ≡ q.answer = a.answers ∙ (λ j. with_begun (any_begun (same.files j)) (same.answers j)) ∙ sym b.answers in
    let world : new.world ≡ two.world = told_once p.told.machine.world q.told.machine.world new.world two.world (λ j. (same.devices j).machine.world) p.tells.world q.tells.world in
    let commands : p.commands ≡ q.commands = told_once p.told.machine.acted q.told.machine.acted p.commands q.commands (λ j. (same.devices j).machine.acted) p.tells.acted q.tells.acted in
    let saved : new.saved ≡ two.saved = told_once p.told.pocket.saved q.told.pocket.saved new.saved two.saved (λ j. (same.devices j).pocket.saved) p.tells.saved q.tells.saved in
    let relay : new.relay ≡ two.relay = p.relay ∙ sym q.relay in
    let analyst : new.analyst ≡ two.analyst = p.analyst ∙ sym q.analyst in
    let again : new.again ≡ two.again = p.again ∙ ap (λ (l : List Command). world_after moment old.again l) commands ∙ sym q.again in
    let whole : new ≡ two = (λ j. record { relay = relay j; agent = same.states j; saved = saved j; world = world j; again = again j; analyst = analyst j }) in
    (p.said_is ∙ (λ j. do_lines (answers_from moment old.again (commands j)) ++ turn_line name moment (answer j)) ∙ sym q.said_is, whole)

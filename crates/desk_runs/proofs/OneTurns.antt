-- Turns with files from a link are one thing, where all is told and nothing fails.
use Rattle.std.proofs.Common.{◌≡◌, ◌≢◌, ◌≤◌, ℕ, Bool, true, List, [], ◌∷◌, map, None, Some, Result, Ok, Err, inl, inr, refl, sym, ap, ◌∙◌, subst, arith}
use Rattle.std.specs.declared.option.Option.{Option}
use Rattle.bf_machine.proofs.Telling.{later-RoseBy}
use Rattle.script_run.specs.Asking.{When}
use Rattle.agent_state.specs.Changes.{SuppliesState}
use Rattle.agent_state.specs.States.{State}
use Rattle.agent_core.specs.Devices.{Devices, NoFaults, TellsWorld}
use Rattle.agent_core.specs.Stops.{MachineHasCause, TurnHasCause}
use Rattle.agent_core.specs.Turns.{Turn}
use Rattle.agent_core.specs.declared.turned.Turned.{Turned}
use Rattle.agent_core.specs.declared.turned.Turned.TheVariants as of_turn
use Rattle.turn_lines.specs.declared.giver.Given.{Given}
use Rattle.turn_lines.specs.declared.giver.Given.TheVariants as given
use Rattle.turn_lines.specs.Givers.{GivesAll, GiverView}
use Rattle.turn_lines.specs.TurnsWithFiles.{Closes, Fetch, FetchesAll, TurnsWithFiles, any_begun, asked_by, given_of, with_begun}
use Rattle.desk_rounds.specs.declared.asking.Miss.{Miss}
use Rattle.desk_rounds.specs.declared.asking.Miss.TheVariants as miss
use Rattle.desk_rounds.specs.Asking.{AsksFor}
use Rattle.desk_rounds.specs.Files.{FileSource, GivesFromLink}
use Rattle.desk_rounds.specs.Replies.{TellsFile}
use Rattle.desk_rounds.specs.Requests.{file_request}
use Rattle.desk_runs.specs.OneExchanges.{LinkTold, TellsLink}
use Rattle.desk_runs.specs.OneRounding.{TellsDevices}
use Rattle.desk_runs.proofs.CountingRounds.{asked_counts}
use Rattle.desk_runs.proofs.OneExchanges.{OneReply, asked_once}
use Rattle.desk_runs.proofs.OneReplies.{one_file}

-- the laws that this stands on
pub record TurnLaws : Type 0 where
  pub reply : OneReply
  pub turn : (at : When) (s : State) (d : Devices) (answer other : Turned) (s2 s3 : State) (d2 d3 : Devices) → TellsWorld d → Turn at s d answer s2 d2 → Turn at s d other s3 d3 → NoFaults d d2 → NoFaults d d3
      → answer ≢ of_turn.PocketFault → answer ≢ of_turn.Memory → other ≢ of_turn.PocketFault → other ≢ of_turn.Memory → (answer ≡ other) × (s2 ≡ s3) × (d2 ≡ d3)
  pub tells : (at : When) (s s2 : State) (d d2 : Devices) (answer : Turned) → TellsWorld d → Turn at s d answer s2 d2 → NoFaults d d2 → answer ≢ of_turn.PocketFault → answer ≢ of_turn.Memory → TellsWorld d2
  pub cause : (at : When) (s s2 : State) (d d2 : Devices) (answer : Turned) → Turn at s d answer s2 d2 → TurnHasCause d answer d2
  pub supplied : (digest : List ℕ) (bytes : Option (List ℕ)) (s s2 s3 : State) (answer other : Bool) → SuppliesState s digest bytes answer s2 → SuppliesState s digest bytes other s3 → (answer ≡ other) × (s2 ≡ s3)

-- ---- counts
-- no count falls
record NoneFalls (d d2 : Devices) : Type 0 where
  machine : d.machine.faults ≤ d2.machine.faults
  pocket : d.pocket.faults ≤ d2.pocket.faults

-- neither rose
pub record AreSteady (d d2 : Devices) : Type 0 where
  pub machine : d2.machine.faults ≡ d.machine.faults
  pub pocket : d2.pocket.faults ≡ d.pocket.faults

machine_later : (a b : ℕ) (answer : Turned) → MachineHasCause a b answer → a ≤ b
machine_later a b of_turn.Idle same = omega (arith, same)
machine_later a b (of_turn.Interrupted id) same = omega (arith, same)
machine_later a b (of_turn.Held id began component line) later = later
machine_later a b (of_turn.Wants id began digest) later = later
machine_later a b (of_turn.Ended id began outcome fail) later = later
machine_later a b of_turn.MachineFault rose = later-RoseBy 1 a b rose
machine_later a b of_turn.PocketFault later = later
machine_later a b of_turn.Memory later = later

turn_falls : TurnLaws → (at : When) (s : State) (d : Devices) (answer : Turned) (s2 : State) (d2 : Devices) → Turn at s d answer s2 d2 → NoneFalls d d2
turn_falls laws at s d answer s2 d2 turn =
    let cause = laws.cause at s s2 d d2 answer turn in
    record { machine = machine_later d.machine.faults d2.machine.faults answer cause.machine; pocket = cause.pocket.later }

-- a stretch in two, in which no count rose
abbrev BothSteady : Devices → Devices → Devices → Type 0
BothSteady a b c = AreSteady a b × AreSteady b c

both_steady : (a b c : Devices) → NoneFalls a b → NoneFalls b c → AreSteady a c → BothSteady a b c
both_steady a b c first second all =
    let machine = all.machine in
    let pocket = all.pocket in
    let machine_first = first.machine in
    let machine_then = second.machine in
    let pocket_first = first.pocket in
    let pocket_then = second.pocket in (
      record { machine = omega (arith, machine, machine_first, machine_then); pocket = omega (arith, pocket, pocket_first, pocket_then) },
      record { machine = omega (arith, machine, machine_first, machine_then); pocket = omega (arith, pocket, pocket_first, pocket_then) },
    )

falls_on : (a b c : Devices) → NoneFalls a b → NoneFalls b c → NoneFalls a c
falls_on a b c first second =
    let machine_first = first.machine in
    let machine_then = second.machine in
    let pocket_first = first.pocket in
    let pocket_then = second.pocket in
    record { machine = omega (arith, machine_first, machine_then); pocket = omega (arith, pocket_first, pocket_then) }

no_faults : (d d2 : Devices) → TellsDevices d → AreSteady d d2 → NoFaults d d2
no_faults d d2 tells steady = record { machine_counts = tells.machine_rises; pocket_counts = tells.pocket_rises; machine = steady.machine; pocket = steady.pocket }

-- the answer is one of a turn that had what it needs
pub record IsPlain (answer : Turned) : Type 0 where
  pub pocket : answer ≢ of_turn.PocketFault
  pub memory : answer ≢ of_turn.Memory

wants_plain : (id : ℕ) (began : Bool) (digest : List ℕ) → IsPlain (of_turn.Wants id began digest)
wants_plain id began digest = record { pocket = λ e. cc; memory = λ e. cc }

-- ---- one turn
record SameTurn (answer other : Turned) (s2 s3 : State) (d2 d3 : Devices) : Type 0 where
  same : answer ≡ other
  state : s2 ≡ s3
  devices : d2 ≡ d3
  tells : TellsDevices d2

one_turn : TurnLaws → (at : When) (s : State) (d : Devices) (answer other : Turned) (s2 s3 : State) (d2 d3 : Devices) → TellsDevices d → Turn at s d answer s2 d2 → Turn at s d other s3 d3 → AreSteady d d2 → AreSteady d d3
    → IsPlain answer → IsPlain other → SameTurn answer other s2 s3 d2 d3
one_turn laws at s d answer other s2 s3 d2 d3 tells turn turn' steady steady' plain plain' =
    let none = no_faults d d2 tells steady in
    let once = laws.turn at s d answer other s2 s3 d2 d3 tells.tells turn turn' none (no_faults d d3 tells steady') plain.pocket plain.memory plain'.pocket plain'.memory in
    let machine = steady.machine in
    let pocket = steady.pocket in
    let machine_low = tells.machine_rises in
    let pocket_low = tells.pocket_rises in
    record {
      same = once.0;
      state = once.1;
      devices = once.2;
      tells = record {
        tells = laws.tells at s s2 d d2 answer tells.tells turn none plain.pocket plain.memory;
        machine_rises = omega (arith, machine, machine_low);
        pocket_rises = omega (arith, pocket, pocket_low);
      };
    }

-- ---- one file
gives_later : (digest : List ℕ) (old : FileSource) (answer : Given) (new : FileSource) → GivesFromLink old digest answer new → old.way.link.faults ≤ new.way.link.faults
gives_later digest old answer new (came, asks, by) = later-RoseBy _ old.way.link.faults new.way.link.faults (asked_counts (Option (List ℕ)) (file_request digest) TellsFile old.way came new.way asks)

-- a file came, or that it isn't served
record Came (digest : List ℕ) (bytes : Option (List ℕ)) (old new : FileSource) : Type 0 where
  asks : AsksFor (file_request digest) TellsFile old.way (Ok bytes) new.way
  missed : new.missed ≡ old.missed

given_same : (one other : Option (List ℕ)) → given_of one ≡ given_of other → one ≡ other
given_same None None e = refl
given_same None (Some bytes) e = absurd (cc)
given_same (Some bytes) None e = absurd (cc)
given_same (Some bytes) (Some other) e = let same : bytes ≡ other = cc in ap (λ (b : List ℕ). Some b) same

pub not_memory : (bytes : Option (List ℕ)) → given_of bytes ≡ given.Memory → ⊥
not_memory None e = cc
not_memory (Some bytes) e = cc

not_missed : (bytes : Option (List ℕ)) → given_of bytes ≡ given.NotGot → ⊥
not_missed None e = cc
not_missed (Some bytes) e = cc

came : (digest : List ℕ) (bytes : Option (List ℕ)) (old new : FileSource) → GivesFromLink old digest (given_of bytes) new → Came digest bytes old new
came digest bytes old new (Ok other, asks, (is, missed)) =
    let P : Option (List ℕ) → Type 0 = λ b. AsksFor (file_request digest) TellsFile old.way (Ok b) new.way in
    record { asks = subst P (given_same other bytes (sym is)) asks; missed = missed }
came digest bytes old new (Err miss.Memory, asks, (is, missed)) = absurd (not_memory bytes is)
came digest bytes old new (Err miss.NoAnswer, asks, (is, missed)) = absurd (not_missed bytes is)
came digest bytes old new (Err miss.BadAnswer, asks, (is, missed)) = absurd (not_missed bytes is)

-- a file that was asked for wasn't got
record Missed (digest : List ℕ) (old new : FileSource) : Type 0 where
  why : Miss
  asks : AsksFor (file_request digest) TellsFile old.way (Err why) new.way
  missed : new.missed ≡ Some why
  some : why ≢ miss.Memory

missed_so : (digest : List ℕ) (old new : FileSource) → GivesFromLink old digest given.NotGot new → Missed digest old new
missed_so digest old new (Ok None, asks, (is, missed)) = absurd (not_missed None (sym is))
missed_so digest old new (Ok (Some bytes), asks, (is, missed)) = absurd (not_missed (Some bytes) (sym is))
missed_so digest old new (Err miss.Memory, asks, (is, missed)) = absurd (cc)
missed_so digest old new (Err miss.NoAnswer, asks, (is, missed)) = record { why = miss.NoAnswer; asks = asks; missed = missed; some = λ e. cc }
missed_so digest old new (Err miss.BadAnswer, asks, (is, missed)) = record { why = miss.BadAnswer; asks = asks; missed = missed; some = λ e. cc }

-- both links tell one thing, and both files missed are one
pub record SameFiles (one other : FileSource) : Type 0 where
  pub told : LinkTold
  pub first : TellsLink told one.way.link
  pub second : TellsLink told other.way.link
  pub missed : one.missed ≡ other.missed

record SameBytes (bytes bytes' : Option (List ℕ)) (new new' : FileSource) : Type 0 where
  same : bytes ≡ bytes'
  files : SameFiles new new'

ok_same : (one other : Option (List ℕ)) → ◌≡◌ {A = Result (Option (List ℕ)) Miss} (Ok one) (Ok other) → one ≡ other
ok_same one other e = cc

err_same : (one other : Miss) → ◌≡◌ {A = Result (Option (List ℕ)) Miss} (Err one) (Err other) → one ≡ other
err_same one other e = cc

not_ok : (bytes : Option (List ℕ)) (why : Miss) → ◌≡◌ {A = Result (Option (List ℕ)) Miss} (Ok bytes) (Err why) → ⊥
not_ok bytes why e = cc

ok_ample : (bytes : Option (List ℕ)) → ◌≡◌ {A = Result (Option (List ℕ)) Miss} (Ok bytes) (Err miss.Memory) → ⊥
ok_ample bytes e = cc

err_ample : (why : Miss) → why ≢ miss.Memory → ◌≡◌ {A = Result (Option (List ℕ)) Miss} (Err why) (Err miss.Memory) → ⊥
err_ample why some e = some (err_same why miss.Memory e)

module _ (law : OneReply) (digest : List ℕ) (old old' new new' : FileSource) (files : SameFiles old old') (steady : new.way.link.faults ≡ old.way.link.faults) (steady' : new'.way.link.faults ≡ old'.way.link.faults) where
  came_once : (bytes bytes' : Option (List ℕ)) → Came digest bytes old new → Came digest bytes' old' new' → SameBytes bytes bytes' new new'
  came_once bytes bytes' it it' =
      let once = asked_once law TellsFile one_file (file_request digest) files.told old.way old'.way new.way new'.way (Ok bytes) (Ok bytes') files.first files.second steady steady' (ok_ample bytes) (ok_ample bytes') it.asks it'.asks in
      record {
        same = ok_same bytes bytes' once.same;
        files = record { told = once.alike.0; first = once.alike.1; second = once.alike.2; missed = it.missed ∙ files.missed ∙ sym it'.missed };
      }

  missed_once : Missed digest old new → Missed digest old' new' → SameFiles new new'
  missed_once it it' =
      let once = asked_once law TellsFile one_file (file_request digest) files.told old.way old'.way new.way new'.way (Err it.why) (Err it'.why) files.first files.second steady steady' (err_ample it.why it.some)
      (err_ample it'.why it'.some) it.asks it'.asks in
      record {
        told = once.alike.0;
        first = once.alike.1;
        second = once.alike.2;
        missed = it.missed ∙ ap (λ (w : Miss). Some w) (err_same it.why it'.why once.same) ∙ sym it'.missed;
      }

  came_not_missed : (bytes : Option (List ℕ)) → Came digest bytes old new → Missed digest old' new' → ⊥
  came_not_missed bytes it it' =
      let once = asked_once law TellsFile one_file (file_request digest) files.told old.way old'.way new.way new'.way (Ok bytes) (Err it'.why) files.first files.second steady steady' (ok_ample bytes) (err_ample it'.why it'.some)
      it.asks it'.asks in
      not_ok bytes it'.why once.same

  missed_not_came : (bytes : Option (List ℕ)) → Missed digest old new → Came digest bytes old' new' → ⊥
  missed_not_came bytes it it' =
      let once = asked_once law TellsFile one_file (file_request digest) files.told old.way old'.way new.way new'.way (Err it.why) (Ok bytes) files.first files.second steady steady' (err_ample it.why it.some) (ok_ample bytes)
      it.asks it'.asks in
      not_ok bytes it.why (sym once.same)

-- ---- turns with files between them
-- the last turn wanted no file, or one that wasn't got
abbrev Closed : Turned → FileSource → FileSource → Type 0
Closed (of_turn.Wants id began digest) told new = Missed digest told new
Closed last told new = new ≡ told

-- such turns, up to the last
record Goes (at : When) (s : State) (d : Devices) (source : FileSource) (fetches : List Fetch) (last : Turned) (s2 : State) (d2 : Devices) (new : FileSource) : Type 0 where
  between : State
  devices : Devices
  giver : GiverView FileSource
  told : GiverView FileSource
  begins : giver.source ≡ source
  fetched : FetchesAll at s d fetches between devices
  asked : GivesAll GivesFromLink giver (map asked_by fetches) told
  turns : Turn at between devices last s2 d2
  closed : Closed last told.source new
  plain : IsPlain last
  steady : AreSteady d d2
  link : new.way.link.faults ≡ source.way.link.faults

closed_later : (last : Turned) (told new : FileSource) → Closed last told new → told.way.link.faults ≤ new.way.link.faults
closed_later of_turn.Idle told new same = let e = ap (λ (f : FileSource). f.way.link.faults) same in omega (arith, e)
closed_later (of_turn.Interrupted id) told new same = let e = ap (λ (f : FileSource). f.way.link.faults) same in omega (arith, e)
closed_later (of_turn.Held id began component line) told new same = let e = ap (λ (f : FileSource). f.way.link.faults) same in omega (arith, e)
closed_later (of_turn.Wants id began digest) told new it =
    later-RoseBy _ told.way.link.faults new.way.link.faults (asked_counts (Option (List ℕ)) (file_request digest) TellsFile told.way (Err it.why) new.way it.asks)
closed_later (of_turn.Ended id began outcome fail) told new same = let e = ap (λ (f : FileSource). f.way.link.faults) same in omega (arith, e)
closed_later of_turn.MachineFault told new same = let e = ap (λ (f : FileSource). f.way.link.faults) same in omega (arith, e)
closed_later of_turn.PocketFault told new same = let e = ap (λ (f : FileSource). f.way.link.faults) same in omega (arith, e)
closed_later of_turn.Memory told new same = let e = ap (λ (f : FileSource). f.way.link.faults) same in omega (arith, e)

all_later : (old : GiverView FileSource) (fetches : List Fetch) (new : GiverView FileSource) → GivesAll GivesFromLink old (map asked_by fetches) new → old.source.way.link.faults ≤ new.source.way.link.faults
all_later old [] new same = let e = ap (λ (g : GiverView FileSource). g.source.way.link.faults) same in omega (arith, e)
all_later old (fetch ∷ fetches) new (between, gives, more) =
    let first = gives_later fetch.digest old.source (given_of fetch.bytes) between.source gives.source in
    let then = all_later between fetches new more in
    omega (arith, first, then)

fetches_fall : TurnLaws → (at : When) (s : State) (d : Devices) (fetches : List Fetch) (s2 : State) (d2 : Devices) → FetchesAll at s d fetches s2 d2 → NoneFalls d d2
fetches_fall laws at s d [] s2 d2 (same, as_it_was) =
    let machine = ap (λ (x : Devices). x.machine.faults) as_it_was in
    let pocket = ap (λ (x : Devices). x.pocket.faults) as_it_was in
    record { machine = omega (arith, machine); pocket = omega (arith, pocket) }
fetches_fall laws at s d (fetch ∷ fetches) s2 d2 (between, then, one, more) =
    falls_on d then d2 (turn_falls laws at s d (of_turn.Wants fetch.id fetch.began fetch.digest) one.turned then one.turns) (fetches_fall laws at between then fetches s2 d2 more)

-- what two such stretches come to that are one
pub record SameTurns (fetches fetches' : List Fetch) (last last' : Turned) (s2 s2' : State) (d2 d2' : Devices) (new new' : FileSource) : Type 0 where
  pub same : fetches ≡ fetches'
  pub answer : last ≡ last'
  pub state : s2 ≡ s2'
  pub devices : d2 ≡ d2'
  pub tells : TellsDevices d2
  pub files : SameFiles new new'

same_both : (told told' new new' : FileSource) → SameFiles told told' → new ≡ told → new' ≡ told' → SameFiles new new'
same_both told told' new new' files same same' =
    let P : FileSource → Type 0 = λ f. SameFiles f told' in
    let Q : FileSource → Type 0 = λ f. SameFiles new f in
    subst Q (sym same') (subst P (sym same) files)

closed_once : OneReply → (last : Turned) (told told' new new' : FileSource) → SameFiles told told' → new.way.link.faults ≡ told.way.link.faults → new'.way.link.faults ≡ told'.way.link.faults → Closed last told new → Closed last told' new'
    → SameFiles new new'
closed_once law of_turn.Idle told told' new new' files steady steady' same same' = same_both told told' new new' files same same'
closed_once law (of_turn.Interrupted id) told told' new new' files steady steady' same same' = same_both told told' new new' files same same'
closed_once law (of_turn.Held id began component line) told told' new new' files steady steady' same same' = same_both told told' new new' files same same'
closed_once law (of_turn.Wants id began digest) told told' new new' files steady steady' it it' = missed_once law digest told told' new new' files steady steady' it it'
closed_once law (of_turn.Ended id began outcome fail) told told' new new' files steady steady' same same' = same_both told told' new new' files same same'
closed_once law of_turn.MachineFault told told' new new' files steady steady' same same' = same_both told told' new new' files same same'
closed_once law of_turn.PocketFault told told' new new' files steady steady' same same' = same_both told told' new new' files same same'
closed_once law of_turn.Memory told told' new new' files steady steady' same same' = same_both told told' new new' files same same'

-- where no file came before the last turn
record Ends (at : When) (s : State) (d : Devices) (source : FileSource) (last : Turned) (s2 : State) (d2 : Devices) (new : FileSource) : Type 0 where
  turns : Turn at s d last s2 d2
  closed : Closed last source new
  plain : IsPlain last
  steady : AreSteady d d2
  link : new.way.link.faults ≡ source.way.link.faults

ends : (at : When) (s : State) (d : Devices) (source : FileSource) (last : Turned) (s2 : State) (d2 : Devices) (new : FileSource) → Goes at s d source [] last s2 d2 new → Ends at s d source last s2 d2 new
ends at s d source last s2 d2 new goes =
    let S : State → Type 0 = λ x. Turn at x goes.devices last s2 d2 in
    let D : Devices → Type 0 = λ x. Turn at s x last s2 d2 in
    let C : FileSource → Type 0 = λ f. Closed last f new in
    let same : goes.told.source ≡ source = ap (λ (g : GiverView FileSource). g.source) goes.asked ∙ goes.begins in
    record { turns = subst D goes.fetched.1 (subst S goes.fetched.0 goes.turns); closed = subst C same goes.closed; plain = goes.plain; steady = goes.steady; link = goes.link }

-- where one did
record Begins (at : When) (s : State) (d : Devices) (source : FileSource) (fetch : Fetch) (fetches : List Fetch) (last : Turned) (s2 : State) (d2 : Devices) (new : FileSource) : Type 0 where
  turned : State
  then : Devices
  turns : Turn at s d (of_turn.Wants fetch.id fetch.began fetch.digest) turned then
  steady : AreSteady d then
  between : State
  supplies : SuppliesState turned fetch.digest fetch.bytes true between
  file : FileSource
  got : Came fetch.digest fetch.bytes source file
  link : file.way.link.faults ≡ source.way.link.faults
  rest : Goes at between then file fetches last s2 d2 new

begins : TurnLaws → (at : When) (s : State) (d : Devices) (source : FileSource) (fetch : Fetch) (fetches : List Fetch) (last : Turned) (s2 : State) (d2 : Devices) (new : FileSource) → Goes at s d source (fetch ∷ fetches) last s2 d2 new
    → Begins at s d source fetch fetches last s2 d2 new
begins laws at s d source fetch fetches last s2 d2 new goes =
    let between = goes.fetched.0 in
    let then = goes.fetched.1 in
    let one = goes.fetched.2 in
    let more = goes.fetched.3 in
    let giver = goes.asked.0 in
    let gives = goes.asked.1 in
    let asked = goes.asked.2 in
    let first = turn_falls laws at s d (of_turn.Wants fetch.id fetch.began fetch.digest) one.turned then one.turns in
    let later = falls_on then goes.devices d2 (fetches_fall laws at between then fetches goes.between goes.devices more) (turn_falls laws at goes.between goes.devices last s2 d2 goes.turns) in
    let split = both_steady d then d2 first later goes.steady in
    let G : FileSource → Type 0 = λ f. GivesFromLink f fetch.digest (given_of fetch.bytes) giver.source in
    let got = came fetch.digest fetch.bytes source giver.source (subst G goes.begins gives.source) in
    let link = goes.link in
    let link_first = gives_later fetch.digest source (given_of fetch.bytes) giver.source (subst G goes.begins gives.source) in
    let link_then = all_later giver fetches goes.told asked in
    let link_last = closed_later last goes.told.source new goes.closed in
    record {
      turned = one.turned;
      then = then;
      turns = one.turns;
      steady = split.0;
      between = between;
      supplies = one.supplies;
      file = giver.source;
      got = got;
      link = omega (arith, link, link_first, link_then, link_last);
      rest = record {
        between = goes.between;
        devices = goes.devices;
        giver = giver;
        told = goes.told;
        begins = refl;
        fetched = more;
        asked = asked;
        turns = goes.turns;
        closed = goes.closed;
        plain = goes.plain;
        steady = split.1;
        link = omega (arith, link, link_first, link_then, link_last);
      };
    }

id_same : (id id' : ℕ) (began began' : Bool) (digest digest' : List ℕ) → of_turn.Wants id began digest ≡ of_turn.Wants id' began' digest' → id ≡ id'
id_same id id' began began' digest digest' e = cc

began_same : (id id' : ℕ) (began began' : Bool) (digest digest' : List ℕ) → of_turn.Wants id began digest ≡ of_turn.Wants id' began' digest' → began ≡ began'
began_same id id' began began' digest digest' e = cc

digest_same : (id id' : ℕ) (began began' : Bool) (digest digest' : List ℕ) → of_turn.Wants id began digest ≡ of_turn.Wants id' began' digest' → digest ≡ digest'
digest_same id id' began began' digest digest' e = cc

fetch_same : (one other : Fetch) → one.id ≡ other.id → one.began ≡ other.began → one.digest ≡ other.digest → one.bytes ≡ other.bytes → one ≡ other
fetch_same one other id began digest bytes = λ i. record { id = id i; began = began i; digest = digest i; bytes = bytes i }

goes_once : TurnLaws → (at : When) (s : State) (d : Devices) (source source' : FileSource) (fetches fetches' : List Fetch) (last last' : Turned) (s2 s2' : State) (d2 d2' : Devices) (new new' : FileSource) → TellsDevices d
    → SameFiles source source' → Goes at s d source fetches last s2 d2 new → Goes at s d source' fetches' last' s2' d2' new' → SameTurns fetches fetches' last last' s2 s2' d2 d2' new new'
goes_once laws at s d source source' [] [] last last' s2 s2' d2 d2' new new' tells files goes goes' =
    let end = ends at s d source last s2 d2 new goes in
    let end' = ends at s d source' last' s2' d2' new' goes' in
    let once = one_turn laws at s d last last' s2 s2' d2 d2' tells end.turns end'.turns end.steady end'.steady end.plain end'.plain in
    let C : Turned → Type 0 = λ t. Closed t source' new' in
    record {
      same = refl;
      answer = once.same;
      state = once.state;
      devices = once.devices;
      tells = once.tells;
      files = closed_once laws.reply last source source' new new' files end.link end'.link end.closed (subst C (sym once.same) end'.closed);
    }
goes_once laws at s d source source' [] (fetch' ∷ fetches') last last' s2 s2' d2 d2' new new' tells files goes goes' =
    let end = ends at s d source last s2 d2 new goes in
    let begun' = begins laws at s d source' fetch' fetches' last' s2' d2' new' goes' in
    let once = one_turn laws at s d last (of_turn.Wants fetch'.id fetch'.began fetch'.digest) s2 begun'.turned d2 begun'.then tells end.turns begun'.turns end.steady begun'.steady end.plain
    (wants_plain fetch'.id fetch'.began fetch'.digest) in
    let C : Turned → Type 0 = λ t. Closed t source new in
    absurd (missed_not_came laws.reply fetch'.digest source source' new begun'.file files end.link begun'.link fetch'.bytes (subst C once.same end.closed) begun'.got)
goes_once laws at s d source source' (fetch ∷ fetches) [] last last' s2 s2' d2 d2' new new' tells files goes goes' =
    let begun = begins laws at s d source fetch fetches last s2 d2 new goes in
    let end' = ends at s d source' last' s2' d2' new' goes' in
    let once = one_turn laws at s d (of_turn.Wants fetch.id fetch.began fetch.digest) last' begun.turned s2' begun.then d2' tells begun.turns end'.turns begun.steady end'.steady (wants_plain fetch.id fetch.began fetch.digest)
    end'.plain in
    let C : Turned → Type 0 = λ t. Closed t source' new' in
    absurd (came_not_missed laws.reply fetch.digest source source' begun.file new' files begun.link end'.link fetch.bytes begun.got (subst C (sym once.same) end'.closed))
goes_once laws at s d source source' (fetch ∷ fetches) (fetch' ∷ fetches') last last' s2 s2' d2 d2' new new' tells files goes goes' =
    let begun = begins laws at s d source fetch fetches last s2 d2 new goes in
    let begun' = begins laws at s d source' fetch' fetches' last' s2' d2' new' goes' in
    let once = one_turn laws at s d (of_turn.Wants fetch.id fetch.began fetch.digest) (of_turn.Wants fetch'.id fetch'.began fetch'.digest) begun.turned begun'.turned begun.then begun'.then tells begun.turns begun'.turns begun.steady
    begun'.steady (wants_plain fetch.id fetch.began fetch.digest) (wants_plain fetch'.id fetch'.began fetch'.digest) in
    let id = id_same fetch.id fetch'.id fetch.began fetch'.began fetch.digest fetch'.digest once.same in
    let began = began_same fetch.id fetch'.id fetch.began fetch'.began fetch.digest fetch'.digest once.same in
    let digest = digest_same fetch.id fetch'.id fetch.began fetch'.began fetch.digest fetch'.digest once.same in
    let A : List ℕ → Type 0 = λ x. Came x fetch'.bytes source' begun'.file in
    let file = came_once laws.reply fetch.digest source source' begun.file begun'.file files begun.link begun'.link fetch.bytes fetch'.bytes begun.got (subst A (sym digest) begun'.got) in
    let S : State → Type 0 = λ x. SuppliesState x fetch'.digest fetch'.bytes true begun'.between in
    let D : List ℕ → Type 0 = λ x. SuppliesState begun.turned x fetch'.bytes true begun'.between in
    let B : Option (List ℕ) → Type 0 = λ x. SuppliesState begun.turned fetch.digest x true begun'.between in
    let supplies' = subst B (sym file.same) (subst D (sym digest) (subst S (sym once.state) begun'.supplies)) in
    let state = (laws.supplied fetch.digest fetch.bytes begun.turned begun.between begun'.between true true begun.supplies supplies').1 in
    let G : State → Type 0 = λ x. Goes at x begun'.then begun'.file fetches' last' s2' d2' new' in
    let H : Devices → Type 0 = λ x. Goes at begun.between x begun'.file fetches' last' s2' d2' new' in
    let rest' = subst H (sym once.devices) (subst G (sym state) begun'.rest) in
    let all = goes_once laws at begun.between begun.then begun.file begun'.file fetches fetches' last last' s2 s2' d2 d2' new new' once.tells file.files begun.rest rest' in
    let first = fetch_same fetch fetch' id began digest file.same in
    record { same = λ i. first i ∷ all.same i; answer = all.answer; state = all.state; devices = all.devices; tells = all.tells; files = all.files }

-- ---- what they come to
-- how such turns ended, with what the last one answered
record Closing (begun : Bool) (last : Turned) (told new : FileSource) (answer : Turned) : Type 0 where
  plain : IsPlain last
  closed : Closed last told new
  is : answer ≡ with_begun begun last

source_same : (told g2 : GiverView FileSource) → g2 ≡ told → g2.source ≡ told.source
source_same told g2 same = ap (λ (g : GiverView FileSource). g.source) same

closing : (begun : Bool) (last : Turned) (told g2 : GiverView FileSource) (answer : Turned) → Closes GivesFromLink (with_begun begun last) told answer g2 → IsPlain answer → Closing begun last told.source g2.source answer
closing begun of_turn.Idle told g2 answer (same, is) plain = record { plain = record { pocket = λ e. cc; memory = λ e. cc }; closed = source_same told g2 same; is = is }
closing begun (of_turn.Interrupted id) told g2 answer (same, is) plain = record { plain = record { pocket = λ e. cc; memory = λ e. cc }; closed = source_same told g2 same; is = is }
closing begun (of_turn.Held id began component line) told g2 answer (same, is) plain = record { plain = record { pocket = λ e. cc; memory = λ e. cc }; closed = source_same told g2 same; is = is }
closing begun (of_turn.Wants id began digest) told g2 answer (inl (gives, is)) plain =
    record { plain = wants_plain id began digest; closed = missed_so digest told.source g2.source gives.source; is = is }
closing begun (of_turn.Wants id began digest) told g2 answer (inr (gives, is)) plain = absurd (plain.memory is)
closing begun (of_turn.Ended id began outcome fail) told g2 answer (same, is) plain = record { plain = record { pocket = λ e. cc; memory = λ e. cc }; closed = source_same told g2 same; is = is }
closing begun of_turn.MachineFault told g2 answer (same, is) plain = record { plain = record { pocket = λ e. cc; memory = λ e. cc }; closed = source_same told g2 same; is = is }
closing begun of_turn.PocketFault told g2 answer (same, is) plain = absurd (plain.pocket is)
closing begun of_turn.Memory told g2 answer (same, is) plain = absurd (plain.memory is)

-- turns with files, by their last answer
record Opened (at : When) (s : State) (d : Devices) (source : FileSource) (answer : Turned) (s2 : State) (d2 : Devices) (new : FileSource) : Type 0 where
  fetches : List Fetch
  last : Turned
  goes : Goes at s d source fetches last s2 d2 new
  is : answer ≡ with_begun (any_begun fetches) last

opened : (at : When) (s : State) (d : Devices) (g : GiverView FileSource) (answer : Turned) (s2 : State) (d2 : Devices) (g2 : GiverView FileSource) → IsPlain answer → AreSteady d d2 → g2.source.way.link.faults ≡ g.source.way.link.faults
    → TurnsWithFiles GivesFromLink at s d g answer s2 d2 g2 → Opened at s d g.source answer s2 d2 g2.source
opened at s d g answer s2 d2 g2 plain steady link turns =
    let made = turns.turns in
    let begun = any_begun made.fetches in
    let C : Turned → Type 0 = λ t. Closes GivesFromLink t turns.told answer g2 in
    let end = closing begun made.last turns.told g2 answer (subst C made.answers turns.closes) plain in
    record {
      fetches = made.fetches;
      last = made.last;
      goes = record {
        between = made.between;
        devices = made.devices;
        giver = g;
        told = turns.told;
        begins = refl;
        fetched = made.fetched;
        asked = made.asked;
        turns = made.turns;
        closed = end.closed;
        plain = end.plain;
        steady = steady;
        link = link;
      };
      is = end.is;
    }

-- what two of them come to
pub record SameAnswers (answer answer' : Turned) (s2 s2' : State) (d2 d2' : Devices) (new new' : FileSource) : Type 0 where
  pub answer_is : answer ≡ answer'
  pub state : s2 ≡ s2'
  pub devices : d2 ≡ d2'
  pub tells : TellsDevices d2
  pub files : SameFiles new new'

pub turns_once : TurnLaws → (at : When) (s : State) (d : Devices) (g g' : GiverView FileSource) (answer answer' : Turned) (s2 s2' : State) (d2 d2' : Devices) (g2 g2' : GiverView FileSource) → TellsDevices d
    → SameFiles g.source g'.source → IsPlain answer → IsPlain answer' → AreSteady d d2 → AreSteady d d2' → g2.source.way.link.faults ≡ g.source.way.link.faults → g2'.source.way.link.faults ≡ g'.source.way.link.faults
    → TurnsWithFiles GivesFromLink at s d g answer s2 d2 g2 → TurnsWithFiles GivesFromLink at s d g' answer' s2' d2' g2' → SameAnswers answer answer' s2 s2' d2 d2' g2.source g2'.source
turns_once laws at s d g g' answer answer' s2 s2' d2 d2' g2 g2' tells files plain plain' steady steady' link link' turns turns' =
    let one = opened at s d g answer s2 d2 g2 plain steady link turns in
    let other = opened at s d g' answer' s2' d2' g2' plain' steady' link' turns' in
    let once = goes_once laws at s d g.source g'.source one.fetches other.fetches one.last other.last s2 s2' d2 d2' g2.source g2'.source tells files one.goes other.goes in
    record {
      answer_is = one.is ∙ (λ i. with_begun (any_begun (once.same i)) (once.answer i)) ∙ sym other.is;
      state = once.state;
      devices = once.devices;
      tells = once.tells;
      files = once.files;
    }

closes_later : (last : Turned) (told g2 : GiverView FileSource) (answer : Turned) → Closes GivesFromLink last told answer g2 → told.source.way.link.faults ≤ g2.source.way.link.faults
closes_later of_turn.Idle told g2 answer (same, is) = let e = ap (λ (g : GiverView FileSource). g.source.way.link.faults) same in omega (arith, e)
closes_later (of_turn.Interrupted id) told g2 answer (same, is) = let e = ap (λ (g : GiverView FileSource). g.source.way.link.faults) same in omega (arith, e)
closes_later (of_turn.Held id began component line) told g2 answer (same, is) = let e = ap (λ (g : GiverView FileSource). g.source.way.link.faults) same in omega (arith, e)
closes_later (of_turn.Wants id began digest) told g2 answer (inl (gives, is)) = gives_later digest told.source given.NotGot g2.source gives.source
closes_later (of_turn.Wants id began digest) told g2 answer (inr (gives, is)) = gives_later digest told.source given.Memory g2.source gives.source
closes_later (of_turn.Ended id began outcome fail) told g2 answer (same, is) = let e = ap (λ (g : GiverView FileSource). g.source.way.link.faults) same in omega (arith, e)
closes_later of_turn.MachineFault told g2 answer (same, is) = let e = ap (λ (g : GiverView FileSource). g.source.way.link.faults) same in omega (arith, e)
closes_later of_turn.PocketFault told g2 answer (same, is) = let e = ap (λ (g : GiverView FileSource). g.source.way.link.faults) same in omega (arith, e)
closes_later of_turn.Memory told g2 answer (same, is) = let e = ap (λ (g : GiverView FileSource). g.source.way.link.faults) same in omega (arith, e)

-- the link's count doesn't fall in them
pub files_later : (at : When) (s : State) (d : Devices) (g : GiverView FileSource) (answer : Turned) (s2 : State) (d2 : Devices) (g2 : GiverView FileSource) → TurnsWithFiles GivesFromLink at s d g answer s2 d2 g2
    → g.source.way.link.faults ≤ g2.source.way.link.faults
files_later at s d g answer s2 d2 g2 turns =
    let asked = all_later g turns.turns.fetches turns.told turns.turns.asked in
    let closed = closes_later turns.last turns.told g2 answer turns.closes in
    omega (arith, asked, closed)

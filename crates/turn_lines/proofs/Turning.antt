-- Turns with files between them, one after another.
use Rattle.std.proofs.Common.{◌≡◌, ◌≢◌, ℕ, ◌≤◌, ℤ, FitsSigned, to_z, of_z, w64, Bool, true, false, ◌||◌, List, [], ◌∷◌, ◌++◌, Option, inl, inr, refl, sym, ap, subst, ◌∙◌, arith}
use Rattle.std.specs.Prelude.{map}
use Rattle.std.proofs.lemmas.Int.{to_z-of_z}
use Rattle.std.proofs.lemmas.List.{map-append}
use Rattle.std.proofs.lemmas.List.Folds.{list_any-append}
use Rattle.script_run.specs.Asking.{When}
use Rattle.agent_state.specs.Changes.{SuppliesState}
use Rattle.agent_state.specs.States.{IsSound, State}
use Rattle.agent_core.specs.declared.turned.Turned.{Turned}
use Rattle.agent_core.specs.declared.turned.Turned.TheVariants.{Idle, Interrupted, Held, Wants, Ended, MachineFault, PocketFault, Memory}
use Rattle.agent_core.specs.Devices.{Devices}
use Rattle.agent_core.specs.Stops.{TurnHasCause}
use Rattle.agent_core.specs.Turns.{Turn}
use Rattle.turn_lines.specs.declared.giver.FileAsked.{FileAsked}
use Rattle.turn_lines.specs.declared.with_files.Fetched.TheVariants as fetched
use Rattle.turn_lines.specs.Fetching.{FetchesFile}
use Rattle.turn_lines.specs.Givers.{Gives, GivesAll, GivesFile, GiverView}
use Rattle.turn_lines.specs.TurnsWithFiles.{Closes, Fetch, Fetches, FetchesAll, TurnsMade, TurnsWithFiles, any_begun, asked_by, given_of, with_begun}

-- ---- answers
begun_none : (a : Turned) → a ≡ with_begun false a
begun_none (Held id began component line) = refl
begun_none (Wants id began digest) = refl
begun_none (Ended id began outcome fail) = refl
begun_none Idle = refl
begun_none (Interrupted id) = refl
begun_none MachineFault = refl
begun_none PocketFault = refl
begun_none Memory = refl

-- an answer that wants a file is of a turn that wanted it
wants_last : (begun : Bool) (last : Turned) (id : ℕ) (began : Bool) (digest : List ℕ) → Wants id began digest ≡ with_begun begun last
    → (now : Bool) × (last ≡ Wants id now digest) × (began ≡ (begun || now))
wants_last begun (Wants id' now digest') id began digest e = (now, cc, cc)
wants_last begun (Held id' now component line) id began digest e = absurd (cc)
wants_last begun (Ended id' now outcome fail) id began digest e = absurd (cc)
wants_last begun Idle id began digest e = absurd (cc)
wants_last begun (Interrupted id') id began digest e = absurd (cc)
wants_last begun MachineFault id began digest e = absurd (cc)
wants_last begun PocketFault id began digest e = absurd (cc)
wants_last begun Memory id began digest e = absurd (cc)

any_one : (fetch : Fetch) → any_begun (fetch ∷ []) ≡ fetch.began
any_one fetch = by fetch.began where
  by : (b : Bool) → (b || false) ≡ b
  by true = refl
  by false = refl

any_more : (fetches : List Fetch) (fetch : Fetch) → any_begun (fetches ++ fetch ∷ []) ≡ (any_begun fetches || fetch.began)
any_more fetches fetch =
    list_any-append (λ (f : Fetch). f.began) fetches (fetch ∷ []) ∙ ap (λ b. any_begun fetches || b) (any_one fetch)

-- ---- lists of turns and files
fetched_more : (at : When) (s : State) (d : Devices) (fetches : List Fetch) (fetch : Fetch) (s1 s2 : State) (d1 d2 : Devices) → FetchesAll at s d fetches s1 d1 → Fetches at s1 d1 fetch s2 d2
    → FetchesAll at s d (fetches ++ fetch ∷ []) s2 d2
fetched_more at s d [] fetch s1 s2 d1 d2 h one = (
  s2,
  d2,
  subst (λ x. Fetches at x d fetch s2 d2) h.0 (subst (λ x. Fetches at s1 x fetch s2 d2) h.1 one),
  (refl, refl),
)
fetched_more at s d (first ∷ fetches) fetch s1 s2 d1 d2 h one = (h.0, h.1, h.2, fetched_more at h.0 h.1 fetches fetch s1 s2 d1 d2 h.3 one)

given_more : {S : Type 0} (gives : Gives S) (g : GiverView S) (files : List FileAsked) (file : FileAsked) (g1 g2 : GiverView S) → GivesAll gives g files g1 → GivesFile gives file.digest g1 file.answer g2
    → GivesAll gives g (files ++ file ∷ []) g2
given_more gives g [] file g1 g2 h one = (g2, subst (λ x. GivesFile gives file.digest x file.answer g2) h one, refl)
given_more gives g (first ∷ files) file g1 g2 h one = (h.0, h.1, given_more gives h.0 files file g1 g2 h.2 one)

-- ---- times
-- the time of a turn, as it is handed over in 64 bits
pub at_time : (moment offset : ℤ) (s : State) (d : Devices) (a : Turned) (s2 : State) (d2 : Devices) → FitsSigned w64 moment → FitsSigned w64 offset
    → Turn (record { moment = to_z w64 (of_z w64 moment); offset = to_z w64 (of_z w64 offset) }) s d a s2 d2 → Turn (record { moment = moment; offset = offset }) s d a s2 d2
at_time moment offset s d a s2 d2 m o turn =
    subst (λ x. Turn (record { moment = x; offset = offset }) s d a s2 d2) (to_z-of_z w64 moment m)
    (subst (λ y. Turn (record { moment = to_z w64 (of_z w64 moment); offset = y }) s d a s2 d2) (to_z-of_z w64 offset o) turn)

-- ---- counts
-- a turn that wants a file left the pocket's count, and no count of the machine fell
wants_counts : (d : Devices) (id : ℕ) (began : Bool) (digest : List ℕ) (d2 : Devices) → TurnHasCause d (Wants id began digest) d2 → (d.machine.faults ≤ d2.machine.faults) × (d2.pocket.faults ≡ d.pocket.faults)
wants_counts d id began digest d2 cause = (cause.machine, cause.pocket.steady (λ e. cc))

-- ---- turns
module _ {S : Type 0} (gives : Gives S) (at : When) (s : State) (d : Devices) (g : GiverView S) where
  pub made_first : (a : Turned) (s2 : State) (d2 : Devices) → Turn at s d a s2 d2 → TurnHasCause d a d2 → TurnsMade gives at s d g a s2 d2 g
  made_first a s2 d2 turns cause = record {
    fetches = [];
    between = s;
    devices = d;
    last = a;
    fetched = (refl, refl);
    turns = turns;
    answers = begun_none a;
    asked = refl;
    machine = omega arith;
    pocket = refl;
    cause = cause;
  }

  -- a file came that the last turn wanted, was supplied and taken, and one turn more was made
  pub made_more : (a : Turned) (id : ℕ) (began : Bool) (digest : List ℕ) (s1 : State) (d1 : Devices) (g1 : GiverView S) (s2 : State) (g2 : GiverView S) (next now : Turned) (s3 : State) (d3 : Devices)
      → TurnsMade gives at s d g a s1 d1 g1 → IsSound s1 → a ≡ Wants id began digest
      → (bytes : Option (List ℕ)) × GivesFile gives digest g1 (given_of bytes) g2 × SuppliesState s1 digest bytes true s2
      → Turn at s2 d1 next s3 d3 → TurnHasCause d1 next d3 → now ≡ with_begun began next → TurnsMade gives at s d g now s3 d3 g2
  made_more a id began digest s1 d1 g1 s2 g2 next now s3 d3 made sound is came turns cause e =
      let last = wants_last (any_begun made.fetches) made.last id began digest (sym is ∙ made.answers) in
      let fetch : Fetch = record { id = id; began = last.0; digest = digest; bytes = came.0 } in
      let counts = wants_counts made.devices id last.0 digest d1 (subst (λ x. TurnHasCause made.devices x d1) last.1 made.cause) in
      let below : made.devices.machine.faults ≤ d1.machine.faults = counts.0 in
      let before : d.machine.faults ≤ made.devices.machine.faults = made.machine in
      record {
        fetches = made.fetches ++ fetch ∷ [];
        between = s2;
        devices = d1;
        last = next;
        fetched = fetched_more at s d made.fetches fetch made.between s2 made.devices d1 made.fetched
            (record { turned = s1; turns = subst (λ x. Turn at made.between made.devices x s1 d1) last.1 made.turns; sound = sound; supplies = came.2 });
        turns = turns;
        answers = e ∙ ap (λ b. with_begun b next) (last.2 ∙ sym (any_more made.fetches fetch));
        asked = subst (λ l. GivesAll gives g l g2) (sym (map-append asked_by made.fetches (fetch ∷ [])))
            (given_more gives g (map asked_by made.fetches) (asked_by fetch) g1 g2 made.asked came.1);
        machine = omega (arith, below, before);
        pocket = counts.1 ∙ made.pocket;
        cause = cause;
      }

  -- ---- the end
  pub closes_not_got : (a : Turned) (id : ℕ) (began : Bool) (digest : List ℕ) (s1 : State) (d1 : Devices) (g1 : GiverView S) (s2 : State) (g2 : GiverView S) → TurnsMade gives at s d g a s1 d1 g1
      → a ≡ Wants id began digest → FetchesFile gives digest s1 g1 fetched.NotGot s2 g2 → TurnsWithFiles gives at s d g (Wants id began digest) s2 d1 g2
  closes_not_got a id began digest s1 d1 g1 s2 g2 made is h = record {
    last = Wants id began digest;
    told = g1;
    turns = subst (λ x. TurnsMade gives at s d g (Wants id began digest) x d1 g1) (sym h.1) (subst (λ x. TurnsMade gives at s d g x s1 d1 g1) is made);
    closes = inl (h.0, refl);
  }

  pub closes_memory : (a : Turned) (id : ℕ) (began : Bool) (digest : List ℕ) (s1 : State) (d1 : Devices) (g1 : GiverView S) (s2 : State) (g2 : GiverView S) → TurnsMade gives at s d g a s1 d1 g1
      → a ≡ Wants id began digest → FetchesFile gives digest s1 g1 fetched.Memory s2 g2 → TurnsWithFiles gives at s d g Memory s2 d1 g2
  closes_memory a id began digest s1 d1 g1 s2 g2 made is h = record {
    last = Wants id began digest;
    told = g1;
    turns = subst (λ x. TurnsMade gives at s d g (Wants id began digest) x d1 g1) (sym h.1) (subst (λ x. TurnsMade gives at s d g x s1 d1 g1) is made);
    closes = inr (h.0, refl);
  }

  closes_by : (a : Turned) (g1 : GiverView S) → ((id : ℕ) (began : Bool) (digest : List ℕ) → a ≢ Wants id began digest) → Closes gives a g1 a g1
  closes_by (Wants id began digest) g1 other = absurd (other id began digest refl)
  closes_by (Held id began component line) g1 other = (refl, refl)
  closes_by (Ended id began outcome fail) g1 other = (refl, refl)
  closes_by Idle g1 other = (refl, refl)
  closes_by (Interrupted id) g1 other = (refl, refl)
  closes_by MachineFault g1 other = (refl, refl)
  closes_by PocketFault g1 other = (refl, refl)
  closes_by Memory g1 other = (refl, refl)

  pub closes_last : (a : Turned) (s1 : State) (d1 : Devices) (g1 : GiverView S) → TurnsMade gives at s d g a s1 d1 g1 → ((id : ℕ) (began : Bool) (digest : List ℕ) → a ≢ Wants id began digest)
      → TurnsWithFiles gives at s d g a s1 d1 g1
  closes_last a s1 d1 g1 made other = record { last = a; told = g1; turns = made; closes = closes_by a g1 other }

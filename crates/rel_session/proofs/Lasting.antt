-- What is told step by step, and written piece by piece.
use Rattle.std.proofs.Common.{◌≡◌, ℕ, ◌+◌, ◌-◌, ℤ, List, [], ◌++◌, Result, Ok, Err, None, Some, IfOk, MatchResult, refl, sym, ap, ◌∙◌, append_assoc, append-nil, subst}
use Rattle.std.specs.Prelude.{⊤}
use Rattle.std.specs.declared.option.Option.{Option}
use Rattle.std.specs.Io.KnownBytes.{Appends}
use Rattle.std.proofs.KnownBytes.{Appends-nil, Appends-trans}
use Rattle.desk_base.specs.Counts.{Rose}
use Rattle.desk_base.specs.Flow.{AppendsSome, IsFront}
use Rattle.desk_base.specs.Views.{SinkView}
use Rattle.rel_lexer.specs.declared.place.Place.{Place}
use Rattle.bf_world.specs.declared.key.Key.{Key}
use Rattle.bf_machine.specs.Told.{Grows}
use Rattle.bf_machine.specs.Views.{MachineView}
use Rattle.std.specs.declared.alloc.AllocError.{AllocError}
use Rattle.rel_value.specs.Plain.{Plain}
use Rattle.rel_trace.specs.Steps.{LooksAt}
use Rattle.rel_trace.specs.Trace.{Stop, Error, Give, Trace, Ends, After}
use Rattle.rel_eval.specs.declared.cursor.Pulled.{Pulled}
use Rattle.rel_eval.specs.declared.cursor.Pulled.TheVariants as pulled
use Rattle.rel_eval.specs.Pulls.{Draws, Pulls, Skips}
use Rattle.rel_value.specs.Views.{shown}
use Rattle.rel_value.specs.declared.value.Value.{Value}
use Rattle.bf_world.specs.Worlds.{WorldState}
use Rattle.rel_session.specs.declared.paused.Left.{Left}
use Rattle.rel_session.specs.declared.paused.Left.TheVariants as left
use Rattle.rel_session.specs.declared.paused.Step.{Step}
use Rattle.rel_session.specs.declared.paused.Step.TheVariants.{On, Out}
use Rattle.bf_machine.proofs.Telling.{CountsFailed-none, CountsFailed-one, LooksUp-nil, LooksUp-trans}
use Rattle.bf_machine.specs.Looks.{LooksUp}
use Rattle.bf_machine.specs.Rises.{CountsFailed}
use Rattle.rel_session.specs.Sessions.{IsGiven, told_run}
use Rattle.rel_session.specs.Tellings.{Telling, Tells, TellsSome, faulted, onto}
use Rattle.rel_session.specs.Waiting.{some_given, State, state_of, Comes, Says, Stops, LooksFront, Flushes, IsLeft, TellsStep, TellsValue, Stays}
use Rattle.rel_session.proofs.Tellings.{can_be_told, told_fault, told_past}

-- a front of the keys that are looked up later
pub LooksFront-behind : (world : Option WorldState) (a b c : Option (List Key)) (keys all : List Key) → LooksUp world a b keys → LooksFront world b c all → LooksFront world a c (keys ++ all)
LooksFront-behind world a b c keys all p q = record {
  keys = keys ++ q.keys;
  looked = LooksUp-trans world a b c keys q.keys p q.looked;
  unlooked = q.unlooked;
  whole = ap (λ l. keys ++ l) q.whole ∙ sym (append_assoc keys q.keys q.unlooked);
}

pub LooksFront-none : (world : Option WorldState) (a : Option (List Key)) (all : List Key) → LooksFront world a a all
LooksFront-none world a all = record { keys = []; looked = LooksUp-nil world a; unlooked = all; whole = refl }

pub LooksFront-all : (world : Option WorldState) (a b : Option (List Key)) (all : List Key) → LooksUp world a b all → LooksFront world a b all
LooksFront-all world a b all p = record { keys = all; looked = p; unlooked = []; whole = sym (append-nil all) }

-- ---- one step

-- Some trace of these was drawn up to this place, and these keys were looked up.
pub record Drawn (world : Option WorldState) (P : Trace → Type 0) (looked looked' : Option (List Key)) (At : Trace → Type 0) : Type 0 where
  pub keys : List Key
  pub looks : LooksUp world looked looked' keys
  pub whole : Trace
  pub is : P whole
  pub later : Trace
  pub skips : Skips whole keys later
  pub at : At later

Skips-nil : (t : Trace) → Skips t [] t
Skips-nil t = record { events = []; quiet = refl; whole = refl; looked = refl }

-- where the world is told, the trace that was left in it, and else one that begins with what was met
pub drawn : (world : Option WorldState) (old : WorldState → Trace) (looked looked' : Option (List Key)) (At : Trace → Type 0) (some : Trace) → At some
    → ((w : WorldState) → world ≡ Some w → (keys : List Key) × Grows looked looked' keys × ((later : Trace) × Skips (old w) keys later × At later))
    → Drawn world (IsGiven world old) looked looked' At
drawn None old looked looked' At some at draws = record { keys = []; looks = tt; whole = some; is = tt; later = some; skips = Skips-nil some; at = at }
drawn (Some w) old looked looked' At some at draws =
    let d = draws w refl in
    record { keys = d.0; looks = d.1; whole = old w; is = refl; later = d.2.0; skips = d.2.1; at = d.2.2 }

-- what was looked up in a pull is that of some stretch, whatever it answered
some_stretch : (old new : Trace) (result : Pulled) (looks : List Key) → Pulls old result looks new → (later : Trace) × Skips old looks later × ⊤
some_stretch old new (pulled.Value v) looks is = (After (Give (shown v)) new, is, tt)
some_stretch old new pulled.End looks is = (Ends Stop, is.0, tt)
some_stretch old new (pulled.Error kind place) looks is = (Ends (Error kind place), is.0, tt)
some_stretch old new (pulled.Failed place) looks is = (new, is.0, tt)
some_stretch old new pulled.Memory looks is = (is.0, is.1, tt)
some_stretch old new pulled.Closed looks is = let Looks : List Key → Type 0 = λ l. Skips old l old in (old, subst Looks (sym is) (Skips-nil old), tt)

pub drawn_somehow : (world : Option WorldState) (old new : WorldState → Trace) (result : Pulled) (looked looked' : Option (List Key))
    → ((w : WorldState) → world ≡ Some w → Draws looked (old w) result looked' (new w)) → Drawn world (IsGiven world old) looked looked' (λ t. ⊤)
drawn_somehow world old new result looked looked' draws =
    drawn world old looked looked' (λ t. ⊤) (Ends Stop) tt (λ w is. let d = draws w is in (d.0, d.1, some_stretch (old w) (new w) result d.0 d.2))

-- The next value of these traces was drawn, and what is left behind it is one of those.
pub record DrawnValue (world : Option WorldState) (old new : WorldState → Trace) (looked looked' : Option (List Key)) (v : Plain) : Type 0 where
  pub keys : List Key
  pub looks : LooksUp world looked looked' keys
  pub before : (left : Trace) → IsGiven world new left → (t : Trace) × IsGiven world old t × Skips t keys (After (Give v) left)

pub drawn_value : (world : Option WorldState) (old new : WorldState → Trace) (looked looked' : Option (List Key)) (v : Value)
    → ((w : WorldState) → world ≡ Some w → Draws looked (old w) (pulled.Value v) looked' (new w)) → DrawnValue world old new looked looked' (shown v)
drawn_value None old new looked looked' v draws = record { keys = []; looks = tt; before = λ left is. (After (Give (shown v)) left, tt, Skips-nil (After (Give (shown v)) left)) }
drawn_value (Some w) old new looked looked' v draws =
    let d = draws w refl in
    record {
      keys = d.0;
      looks = d.1;
      before = λ left is. let Behind : Trace → Type 0 = λ x. Skips (old w) d.0 (After (Give (shown v)) x) in (old w, refl, subst Behind (sym is) d.2);
    }

some_is_given : (world : Option WorldState) (given : WorldState → Trace) → IsGiven world given (some_given world given)
some_is_given None given = tt
some_is_given (Some w) given = refl

-- memory ran out behind a place that was drawn to
pub stays_drawn : (world : Option WorldState) (offset : ℤ) (span : Place) (room : Option ℕ) (P : Trace → Type 0) (At : Trace → Type 0) (old new : MachineView) → new.faults ≡ old.faults
    → Drawn world P old.looked new.looked At → Stays world (TellsSome offset span room P) old new
stays_drawn world offset span room P At old new same d =
    let some = can_be_told offset span room d.later in
    let Fails : ℕ → Type 0 = λ n. CountsFailed n old.faults new.faults in
    record {
      told = onto [] d.keys some.0;
      is = (d.whole, d.is, told_past offset span room d.whole d.keys d.later some.0 d.skips some.1);
      looks = record { keys = d.keys; looked = d.looks; unlooked = some.0.looks; whole = refl };
      rose = subst Fails (sym some.2) (CountsFailed-none old.faults new.faults same);
    }

-- memory ran out behind a look that failed
pub stays_faulted : (world : Option WorldState) (offset : ℤ) (span : Place) (room : Option ℕ) (P : Trace → Type 0) (place : Place) (old new : MachineView) → Rose old.faults new.faults
    → Drawn world P old.looked new.looked (LooksAt place) → Stays world (TellsSome offset span room P) old new
stays_faulted world offset span room P place old new rose d = record {
  told = onto [] d.keys (faulted place);
  is = (d.whole, d.is, told_past offset span room d.whole d.keys d.later (faulted place) d.skips (told_fault offset span room place d.later d.at));
  looks = record { keys = d.keys; looked = d.looks; unlooked = []; whole = refl };
  rose = CountsFailed-one old.faults new.faults rose;
}

-- the next value was drawn, and told where memory was left
value_step : (world : Option WorldState) (offset : ℤ) (span : Place) (room : Option ℕ) (old new : WorldState → Trace) (v : Plain) (looked looked' : Option (List Key)) (step : Step) (said : List ℕ)
    → (d : DrawnValue world old new looked looked' v) → ((t : Trace) → Comes (λ next. Tells offset span next t) (Tells offset span room (After (Give v) t)) step t said [] 0)
    → Comes (λ next. TellsSome offset span next (IsGiven world new)) (TellsSome offset span room (IsGiven world old)) step (some_given world new) said d.keys 0
value_step world offset span room old new v looked looked' (On next) said d comes = (
  λ u (left, is, told).
      let b = d.before left is in
      (b.0, b.1, told_past offset span room b.0 d.keys (After (Give v) left) (onto said [] u) b.2 ((comes left).0 u told)),
  refl,
)
value_step world offset span room old new v looked looked' (Out why) said d comes =
    let c = comes (some_given world new) in
    let b = d.before (some_given world new) (some_is_given world new) in
    record {
      told = onto [] d.keys c.told;
      is = (b.0, b.1, told_past offset span room b.0 d.keys (After (Give v) (some_given world new)) c.told b.2 c.is);
      goes = c.goes;
      bytes = c.bytes;
      looks = sym (append-nil d.keys) ∙ ap (λ l. d.keys ++ l) c.looks;
      failed = c.failed;
    }

pub step_at_value : (world : Option WorldState) (offset : ℤ) (span : Place) (room : Option ℕ) (old_left new_left : WorldState → Trace) (v : Plain) (left : Trace) (result : Result Step AllocError) (waits waits' : List ℕ) (old new : MachineView)
    → left ≡ some_given world new_left → DrawnValue world old_left new_left old.looked new.looked v → new.faults ≡ old.faults
    → IfOk result (λ step. TellsValue offset span (λ t. Tells offset span room (After (Give v) t)) step waits waits')
    → MatchResult result (λ step. TellsStep world (λ next. TellsSome offset span next (IsGiven world new_left)) (TellsSome offset span room (IsGiven world old_left)) step left waits old waits' new)
    (λ _. Stays world (TellsSome offset span room (IsGiven world old_left)) old new)
step_at_value world offset span room old_left new_left v left (Ok step) waits waits' old new same d steady value =
    let At : Trace → Type 0 = λ l. Comes (λ next. TellsSome offset span next (IsGiven world new_left)) (TellsSome offset span room (IsGiven world old_left)) step l value.said d.keys 0 in
    record {
      said = value.said;
      keys = d.keys;
      faults = 0;
      comes = subst At (sym same) (value_step world offset span room old_left new_left v old.looked new.looked step value.said d value.comes);
      appended = value.appended;
      looks = d.looks;
      rose = CountsFailed-none old.faults new.faults steady;
    }
step_at_value world offset span room old_left new_left v left (Err error) waits waits' old new same d steady value =
    let b = d.before (some_given world new_left) (some_is_given world new_left) in
    stays_drawn world offset span room (IsGiven world old_left) (λ t. t ≡ t) old new steady
    (record { keys = d.keys; looks = d.looks; whole = b.0; is = b.1; later = After (Give v) (some_given world new_left); skips = b.2; at = refl })

-- the question is over, and this is told of how it ended
pub step_at_end : (world : Option WorldState) (offset : ℤ) (span : Place) (room : Option ℕ) (later : Option ℕ → Telling → Type 0) (P At : Trace → Type 0) (rest : Trace) (told : Telling) (waits waits' : List ℕ) (old new : MachineView)
    → Drawn world P old.looked new.looked At → ((t : Trace) → At t → Tells offset span room t told) → told.looks ≡ [] → told.rest ≡ None → waits' ≡ waits ++ told.bytes → CountsFailed told.faults old.faults new.faults
    → TellsStep world later (TellsSome offset span room P) (Out left.Nothing) rest waits old waits' new
step_at_end world offset span room later P At rest told waits waits' old new d tells none over said rose = record {
  said = told.bytes;
  keys = d.keys;
  faults = told.faults;
  comes = record {
    told = onto [] d.keys told;
    is = (d.whole, d.is, told_past offset span room d.whole d.keys d.later told d.skips (tells d.later d.at));
    goes = over;
    bytes = refl;
    looks = sym (append-nil d.keys) ∙ ap (λ l. d.keys ++ l) (sym none);
    failed = refl;
  };
  appended = said;
  looks = d.looks;
  rose = rose;
}

-- ---- a telling that goes on

-- Some of it was said, of which a front was written and the rest waits; what is told of what is left goes on from there. No look failed.
pub record ToldSoFar (first : Telling → Type 0) (old : State) (rest : Telling → Type 0) (now : State) : Type 0 where
  pub said : List ℕ
  pub keys : List Key
  pub written : List ℕ
  pub goes : (u : Telling) → rest u → first (onto said keys u)
  pub appended : Appends old.sink.held now.sink.held written
  pub whole : old.waiting ++ said ≡ written ++ now.waiting
  pub looked : LooksUp old.machine.world old.machine.looked now.machine.looked keys
  pub steady : now.machine.faults ≡ old.machine.faults

pub ToldSoFar-start : (first : Telling → Type 0) (s : State) → ToldSoFar first s first s
ToldSoFar-start first s = record {
  said = [];
  keys = [];
  written = [];
  goes = λ u told. told;
  appended = Appends-nil s.sink.held;
  whole = append-nil s.waiting;
  looked = LooksUp-nil s.machine.world s.machine.looked;
  steady = refl;
}

-- what waits, with more behind it
grown : (waits said written mid new more : List ℕ) → waits ++ said ≡ written ++ mid → new ≡ mid ++ more → waits ++ (said ++ more) ≡ written ++ new
grown waits said written mid new more whole is = sym (append_assoc waits said more) ∙ ap (λ l. l ++ more) whole ∙ append_assoc written mid more ∙ ap (λ l. written ++ l) (sym is)

onto_onto : (a b : List ℕ) (k l : List Key) (u : Telling) → onto a k (onto b l u) ≡ onto (a ++ b) (k ++ l) u
onto_onto a b k l u =
    let With : List ℕ → List Key → Telling = λ x y. record u { bytes = x; looks = y } in
    ap (λ x. With x (k ++ (l ++ u.looks))) (sym (append_assoc a b u.bytes)) ∙ ap (λ y. With ((a ++ b) ++ u.bytes) y) (sym (append_assoc k l u.looks))

-- so many looks failed behind a stretch in which none did
fails_behind : (n a b c : ℕ) → b ≡ a → CountsFailed n b c → CountsFailed n a c
fails_behind n a b c same failed = let From : ℕ → Type 0 = λ x. CountsFailed n x c in subst From same failed

-- a value was told, and it goes on
pub ToldSoFar-on : (first : Telling → Type 0) (old : State) (rest : Telling → Type 0) (later : Option ℕ → Telling → Type 0) (step : Step) (next : Option ℕ) (left : Trace) (sink : SinkView) (waits waits' : List ℕ) (mid new : MachineView)
    → step ≡ On next → ToldSoFar first old rest (state_of sink waits mid) → TellsStep old.machine.world later rest step left waits mid waits' new
    → ToldSoFar first old (later next) (state_of sink waits' new)
ToldSoFar-on first old rest later step next left sink waits waits' mid new is before stepped =
    let At : Step → Type 0 = λ s. TellsStep old.machine.world later rest s left waits mid waits' new in
    let step : At (On next) = subst At is stepped in
    record {
      said = before.said ++ step.said;
      keys = before.keys ++ step.keys;
      written = before.written;
      goes = λ u told. subst first (onto_onto before.said step.said before.keys step.keys u) (before.goes (onto step.said step.keys u) (step.comes.0 u told));
      appended = before.appended;
      whole = grown old.waiting before.said before.written waits waits' step.said before.whole step.appended;
      looked = LooksUp-trans old.machine.world old.machine.looked mid.looked new.looked before.keys step.keys before.looked step.looks;
      steady = step.rose.steady step.comes.1 ∙ before.steady;
    }

-- some of what waited was written
pub ToldSoFar-flushed : (first : Telling → Type 0) (old : State) (rest : Telling → Type 0) (sink sink' : SinkView) (waits waits' : List ℕ) (machine : MachineView)
    → ToldSoFar first old rest (state_of sink waits machine) → Flushes sink.held sink'.held waits waits'
    → ToldSoFar first old rest (state_of sink' waits' machine)
ToldSoFar-flushed first old rest sink sink' waits waits' machine before flushed = record {
  said = before.said;
  keys = before.keys;
  written = before.written ++ flushed.0;
  goes = before.goes;
  appended = Appends-trans old.sink.held sink.held sink'.held before.written flushed.0 before.appended flushed.1;
  whole = before.whole ∙ ap (λ l. before.written ++ l) flushed.2 ∙ sym (append_assoc before.written flushed.0 waits');
  looked = before.looked;
  steady = before.steady;
}

-- it is over, or pauses
pub ToldSoFar-out : (first : Telling → Type 0) (old : State) (rest : Telling → Type 0) (later : Option ℕ → Telling → Type 0) (step : Step) (why : Left) (left : Trace) (sink : SinkView) (waits waits' : List ℕ) (mid new : MachineView)
    → step ≡ Out why → ToldSoFar first old rest (state_of sink waits mid) → TellsStep old.machine.world later rest step left waits mid waits' new
    → (told : Telling) × first told × (IsLeft why told.rest left × Says old (state_of sink waits' new) (told_run told))
ToldSoFar-out first old rest later step why left sink waits waits' mid new is before stepped =
    let At : Step → Type 0 = λ s. TellsStep old.machine.world later rest s left waits mid waits' new in
    let step : At (Out why) = subst At is stepped in
    let u : Telling = step.comes.told in
    let Looked : List Key → Type 0 = λ l. LooksUp old.machine.world mid.looked new.looked l in
    let Fails : ℕ → Type 0 = λ n. CountsFailed n mid.faults new.faults in
    let more : waits' ≡ waits ++ u.bytes = step.appended ∙ ap (λ l. waits ++ l) step.comes.bytes in (
      onto before.said before.keys u,
      before.goes u step.comes.is,
      (
        step.comes.goes,
        record {
          written = before.written;
          appended = before.appended;
          whole = grown old.waiting before.said before.written waits waits' u.bytes before.whole more;
          looked = LooksUp-trans old.machine.world old.machine.looked mid.looked new.looked before.keys u.looks before.looked (subst Looked step.comes.looks step.looks);
          faults = fails_behind u.faults old.machine.faults mid.faults new.faults before.steady (subst Fails step.comes.failed step.rose);
        },
      ),
    )

-- memory ran out in a step
pub ToldSoFar-stays : (first : Telling → Type 0) (old : State) (rest : Telling → Type 0) (sink : SinkView) (waits waits' : List ℕ) (mid new : MachineView)
    → ToldSoFar first old rest (state_of sink waits mid) → Stays old.machine.world rest mid new
    → (told : Telling) × first told × Stops old (state_of sink waits' new) (told_run told)
ToldSoFar-stays first old rest sink waits waits' mid new before stays =
    let u : Telling = stays.told in (
      onto before.said before.keys u,
      before.goes u stays.is,
      record {
        written = before.written;
        appended = before.appended;
        unsaid = waits ++ u.bytes;
        whole = grown old.waiting before.said before.written waits (waits ++ u.bytes) u.bytes before.whole refl;
        looks = LooksFront-behind old.machine.world old.machine.looked mid.looked new.looked before.keys u.looks before.looked stays.looks;
        faults = fails_behind u.faults old.machine.faults mid.faults new.faults before.steady stays.rose;
      },
    )

-- a write failed
pub ToldSoFar-unwritten : (first : Telling → Type 0) (old : State) (offset : ℤ) (span : Place) (room : Option ℕ) (given : WorldState → Trace) (sink sink' : SinkView) (waits waits' : List ℕ) (machine : MachineView)
    → ToldSoFar first old (TellsSome offset span room (IsGiven old.machine.world given)) (state_of sink waits machine) → AppendsSome sink.held sink'.held (IsFront waits)
    → (told : Telling) × first told × Stops old (state_of sink' waits' machine) (told_run told)
ToldSoFar-unwritten first old offset span room given sink sink' waits waits' machine before front =
    let world : Option WorldState = old.machine.world in
    let some = can_be_told offset span room (some_given world given) in
    let u : Telling = some.0 in
    let rest : List ℕ = front.1.0 in
    let Fails : ℕ → Type 0 = λ n. CountsFailed n old.machine.faults machine.faults in
    let behind : waits ++ u.bytes ≡ front.0 ++ (rest ++ u.bytes) = ap (λ l. l ++ u.bytes) front.1.1 ∙ append_assoc front.0 rest u.bytes in (
      onto before.said before.keys u,
      before.goes u (some_given world given, some_is_given world given, some.1),
      record {
        written = before.written ++ front.0;
        appended = Appends-trans old.sink.held sink.held sink'.held before.written front.0 before.appended front.2;
        unsaid = rest ++ u.bytes;
        whole = grown old.waiting before.said before.written waits (waits ++ u.bytes) u.bytes before.whole refl ∙ ap (λ l. before.written ++ l) behind ∙ sym (append_assoc before.written front.0 (rest ++ u.bytes));
        looks = LooksFront-behind world old.machine.looked machine.looked machine.looked before.keys u.looks before.looked (LooksFront-none world machine.looked u.looks);
        faults = subst Fails (sym some.2) (CountsFailed-none old.machine.faults machine.faults before.steady);
      },
    )

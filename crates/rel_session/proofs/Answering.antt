-- What is said of a line, piece by piece.
use Rattle.std.proofs.Common.{◌≡◌, ℕ, ◌+◌, ◌-◌, ◌≤◌, ℤ, List, [], ◌∷◌, ◌++◌, length, drop, map, Result, Ok, Err, None, Some, MatchResult, inl, inr, refl, sym, ap, ◌∙◌, append_assoc, append-nil, subst, arith}
use Rattle.std.proofs.lemmas.List.{drop-append-le, drop-map, length-append, length-map, map_push}
use Rattle.std.specs.declared.option.Option.{Option}
use Rattle.std.specs.Io.KnownBytes.{Appends, Keeps}
use Rattle.std.proofs.KnownBytes.{Appends-nil, Appends-trans, Keeps-refl}
use Rattle.desk_base.specs.Flow.{AppendsSome, IsFront}
use Rattle.desk_base.specs.Views.{SinkView, ClockView}
use Rattle.bf_machine.specs.Views.{MachineView}
use Rattle.bf_world.specs.Worlds.{WorldState}
use Rattle.rel_lexer.specs.declared.place.Place.{Place}
use Rattle.rel_trace.specs.Trace.{Trace}
use Rattle.rel_eval.specs.declared.question.Question.{Question}
use Rattle.rel_eval.specs.declared.refusal.Refusal.{Refusal}
use Rattle.rel_eval.specs.declared.refusal.Refusal.TheVariants.{At, NotDefined, Memory}
use Rattle.rel_eval.specs.Questions.{plan_of, question, refused, undefined}
use Rattle.rel_session.specs.declared.line.Line.{Line}
use Rattle.rel_session.specs.declared.paused.Left.{Left}
use Rattle.rel_session.specs.declared.paused.Left.TheVariants as left
use Rattle.rel_session.specs.declared.paused.Paused as code_paused
use Rattle.bf_machine.specs.Rises.{CountsFailed}
use Rattle.rel_session.specs.Devices.{Dates, Did, devices}
use Rattle.rel_session.specs.Printed.{said_question, said_error, said_nothing_paused, said_undefined}
use Rattle.rel_session.specs.Readings.{Readings}
use Rattle.rel_session.specs.Sessions.{Asks, Paused, Session, Run, nothing, saying, after, told_run, pausing, last_sixteen, IsGiven, TellsOf, AnswersText, GoesOnWith, Answers, RunsLine, IsFrontOfLine}
use Rattle.rel_session.specs.Tellings.{Telling, TellsSome, room_of}
use Rattle.rel_session.specs.Waiting.{IsLeft, State, state_of, paused_of, left_of, some_given, meaning_of, span_of, IsRead, IsStarted, IsOpened, last_fifteen, Says, Stops, SaysRefusal, Unwritten, Obeys, DoesLine, SaysAll, SaysDated, SaysFront, SaysOf, SaysOrStops, SaysOrStopsEarly, StopsEarly}
use Rattle.bf_machine.proofs.Telling.{CountsFailed-none, LooksUp-nil}
use Rattle.rel_session.proofs.Lasting.{LooksFront-none, LooksFront-all}
use Rattle.rel_session.proofs.Running.{Dates-nil}

-- some bytes are said at once, and no look is made
pub Says-bytes : (sink : SinkView) (old new : List ℕ) (machine : MachineView) (bytes : List ℕ) → new ≡ old ++ bytes → Says (state_of sink old machine) (state_of sink new machine) (saying bytes)
Says-bytes sink old new machine bytes is = record {
  written = [];
  appended = Appends-nil sink.held;
  whole = sym is;
  looked = LooksUp-nil machine.world machine.looked;
  faults = CountsFailed-none machine.faults machine.faults refl;
}

-- nothing is written
pub Unwritten-refl : (sink : SinkView) (old new : List ℕ) (machine : MachineView) → Unwritten (state_of sink old machine) (state_of sink new machine)
Unwritten-refl sink old new machine = record { keeps = Keeps-refl sink.held; looked = LooksUp-nil machine.world machine.looked; steady = refl }

-- what was said waits in full or in part, and memory runs out
pub Stops-Says : (old new : State) (run : Run) → Says old new run → Stops old new run
Stops-Says old new run says = record {
  written = says.written;
  appended = says.appended;
  unsaid = new.waiting;
  whole = says.whole;
  looks = LooksFront-all old.machine.world old.machine.looked new.machine.looked run.looks says.looked;
  faults = says.faults;
}

-- ---- a question's text

-- a refusal is said
pub answers_refusal : (reads : Readings) (world : Option WorldState) (moment offset : ℤ) (s : Session) (text : List ℕ) (refusal : Refusal) (sink : SinkView) (old new : List ℕ) (machine : MachineView)
    → IsRead reads text (Err refusal) → SaysRefusal refusal old new → SaysOf (AnswersText reads world moment offset s text) s (state_of sink old machine) (state_of sink new machine)
unfolding AnswersText IsRead
answers_refusal reads world moment offset s text (At kind place) sink old new machine prepares says =
    (saying (said_error kind place), (refused kind place, prepares, (refl, refl)), Says-bytes sink old new machine (said_error kind place) says)
answers_refusal reads world moment offset s text (NotDefined place words) sink old new machine prepares says =
    (saying (said_undefined place words), (undefined place words, prepares, (refl, refl)), Says-bytes sink old new machine (said_undefined place words) says)
answers_refusal reads world moment offset s text Memory sink old new machine prepares says = absurd says

-- what a started question has to give is what it means
given_at_start : (world : Option WorldState) (moment offset : ℤ) (q : Question) (started : code_paused.Paused) (t : Trace) → IsStarted moment offset q started → IsGiven world (left_of started.cursor) t
    → IsGiven world (λ w. meaning_of w moment offset q) t
given_at_start None moment offset q started t begins is = tt
given_at_start (Some w) moment offset q started t begins is = is ∙ begins.rest w

-- a question is told
pub answers_question : (reads : Readings) (world : Option WorldState) (moment offset : ℤ) (s : Session) (text : List ℕ) (started : code_paused.Paused) (run : Run) (s' : Session)
    → IsOpened reads moment offset text started → TellsOf offset s (IsGiven world (left_of started.cursor)) started.span run s' → AnswersText reads world moment offset s text run s'
unfolding AnswersText IsRead meaning_of span_of
answers_question reads world moment offset s text started run s' (q, is, begins) (told, (t, given, tells), ran, next) =
    let At : Place → Type 0 = λ p. TellsOf offset s (IsGiven world (λ w. meaning_of w moment offset q)) p run s' in
    (question (plan_of q), is, subst At begins.span (told, (t, given_at_start world moment offset q started t begins given, tells), ran, next))

-- ---- paused questions

-- nothing is paused, or the latest question goes on
pub goes_on_latest : (world : Option WorldState) (offset : ℤ) (s : Session) (paused before : List Paused) (latest : Paused) (run : Run) (s' : Session) → paused ≡ before ++ latest ∷ [] → s.paused ≡ before ++ latest ∷ []
    → TellsOf offset (record s { paused = before }) (IsGiven world (λ w. latest.rest)) latest.span run s' → GoesOnWith world offset s paused run s'
goes_on_latest world offset s [] before latest run s' is all tells =
    let long : 0 ≡ length before + 1 = ap length is ∙ length-append before (latest ∷ []) in
    absurd (omega arith)
goes_on_latest world offset s (first ∷ rest) before latest run s' is all tells = (before, latest, all, tells)

-- a question is paused, or over
pub pauses : (s new : Session) (why : Left) (told : Option Trace) (t : Trace) (span span' : Place) → why ≡ left.More → IsLeft why told t → span' ≡ span → new ≡ pausing s (Some t) span' → new ≡ pausing s told span
pauses s new why told t span span' more is same paused =
    let Why : Left → Type 0 = λ l. IsLeft l told t in
    let Told : Option Trace → Type 0 = λ x. new ≡ pausing s x span in
    let At : Place → Type 0 = λ p. new ≡ pausing s (Some t) p in
    subst Told (sym (subst Why more is)) (subst At same paused)

pub over : (s : Session) (why : Left) (told : Option Trace) (t : Trace) (span : Place) → why ≡ left.Nothing → IsLeft why told t → s ≡ pausing s told span
over s why told t span nothing is =
    let Why : Left → Type 0 = λ l. IsLeft l told t in
    let Told : Option Trace → Type 0 = λ x. s ≡ pausing s x span in
    subst Told (sym (subst Why nothing is)) refl

-- of seventeen the first is dropped, and of fewer none
last_sixteen_of : (all : List Paused) (latest : Paused) → length all ≤ 16 → last_sixteen (all ++ latest ∷ []) ≡ drop (length all - 15) all ++ latest ∷ []
last_sixteen_of all latest few =
    let long : length (all ++ latest ∷ []) ≡ length all + 1 = length-append all (latest ∷ []) in
    let same : length (all ++ latest ∷ []) - 16 ≡ length all - 15 = omega arith in
    ap (λ n. drop n (all ++ latest ∷ [])) same ∙ drop-append-le (length all - 15) all (latest ∷ []) (omega arith)

-- ---- a line

-- behind its echo
echoed : (old echo mid more written rest : List ℕ) → mid ≡ old ++ echo → mid ++ more ≡ written ++ rest → old ++ (echo ++ more) ≡ written ++ rest
echoed old echo mid more written rest is whole = sym (append_assoc old echo more) ∙ ap (λ l. l ++ more) (sym is) ∙ whole

-- its echo is no failed look
behind_echo : (n x y : ℕ) → CountsFailed n x y → CountsFailed (0 + n) x y
behind_echo n x y failed = let Fails : ℕ → Type 0 = λ m. CountsFailed m x y in let same : n ≡ 0 + n = omega arith in subst Fails same failed

line_says_all : (reads : Readings) (world : Option WorldState) (offset : ℤ) (s : Session) (line : List ℕ) (fixed : Option ℤ) (clock clock' : ClockView) (s' : Session) (sink : SinkView) (old mid : List ℕ) (machine : MachineView) (new : State)
    → mid ≡ old ++ said_question line → SaysAll fixed clock clock' (Obeys reads world offset s line) s' (state_of sink mid machine) new
    → SaysAll fixed clock clock' (RunsLine reads world offset s line) s' (state_of sink old machine) new
line_says_all reads world offset s line fixed clock clock' s' sink old mid machine new is all = record {
  moments = all.moments;
  run = after (saying (said_question line)) all.run;
  runs = (all.runs.0, all.runs.1, (all.run, all.runs.2, refl));
  says = record {
    written = all.says.written;
    appended = all.says.appended;
    whole = echoed old (said_question line) mid all.run.bytes all.says.written new.waiting is all.says.whole;
    looked = all.says.looked;
    faults = behind_echo all.run.faults machine.faults new.machine.faults all.says.faults;
  };
  dated = all.dated;
}

line_stops : (reads : Readings) (world : Option WorldState) (offset : ℤ) (s : Session) (line : List ℕ) (moments : List ℤ) (sink : SinkView) (old mid : List ℕ) (machine : MachineView) (new : State) → mid ≡ old ++ said_question line
    → StopsEarly (Obeys reads world offset s line moments) (state_of sink mid machine) new → StopsEarly (RunsLine reads world offset s line moments) (state_of sink old machine) new
line_stops reads world offset s line moments sink old mid machine new is (inl none) = inl (record { keeps = none.keeps; looked = none.looked; steady = none.steady })
line_stops reads world offset s line moments sink old mid machine new is (inr (run, s', obeys, stops)) =
    inr (
      after (saying (said_question line)) run,
      s',
      (obeys.0, obeys.1, (run, obeys.2, refl)),
      record {
        written = stops.written;
        appended = stops.appended;
        unsaid = stops.unsaid;
        whole = echoed old (said_question line) mid run.bytes stops.written stops.unsaid is stops.whole;
        looks = stops.looks;
        faults = behind_echo run.faults machine.faults new.machine.faults stops.faults;
      },
    )

line_says_front : (reads : Readings) (world : Option WorldState) (offset : ℤ) (s : Session) (line : List ℕ) (fixed : Option ℤ) (clock clock' : ClockView) (sink : SinkView) (old mid : List ℕ) (machine : MachineView) (new : State)
    → mid ≡ old ++ said_question line → SaysFront fixed clock clock' (Obeys reads world offset s line) (state_of sink mid machine) new
    → SaysFront fixed clock clock' (RunsLine reads world offset s line) (state_of sink old machine) new
line_says_front reads world offset s line fixed clock clock' sink old mid machine new is some = record {
  moments = some.moments;
  few = some.few;
  dated = some.dated;
  front = line_stops reads world offset s line some.moments sink old mid machine new is some.front;
}

-- nothing is said so far
pub says_nothing : (fixed : Option ℤ) (clock : ClockView) (Runs : List ℤ → Run → Session → Type 0) (sink : SinkView) (old new : List ℕ) (machine : MachineView)
    → SaysFront fixed clock clock Runs (state_of sink old machine) (state_of sink new machine)
says_nothing fixed clock Runs sink old new machine = record {
  moments = [];
  few = omega arith;
  dated = Dates-nil fixed clock.given;
  front = inl (Unwritten-refl sink old new machine);
}

-- ---- what a line does to the devices

-- all of it is written
line_ran : (reads : Readings) (offset : ℤ) (s : Session) (line : List ℕ) (fixed : Option ℤ) (clock clock' : ClockView) (s' : Session) (sink mid sink' : SinkView) (old waits : List ℕ) (machine machine' : MachineView)
    → old ≡ [] → SaysAll fixed clock clock' (RunsLine reads machine.world offset s line) s' (state_of sink old machine) (state_of mid waits machine') → Appends mid.held sink'.held waits
    → (moments : List ℤ) × (run : Run) × RunsLine reads machine.world offset s line moments run s' × Did machine.world fixed (devices sink machine clock) (devices sink' machine' clock') moments run
line_ran reads offset s line fixed clock clock' s' sink mid sink' old waits machine machine' none all flushed =
    let Written : List ℕ → Type 0 = λ l. Appends sink.held sink'.held l in
    let whole : all.run.bytes ≡ all.says.written ++ waits = ap (λ l. l ++ all.run.bytes) (sym none) ∙ all.says.whole in (
      all.moments,
      all.run,
      all.runs,
      record {
        written = subst Written (sym whole) (Appends-trans sink.held mid.held sink'.held all.says.written waits all.says.appended flushed);
        looked = all.says.looked;
        faults = all.says.faults;
        dated = all.dated;
      },
    )

-- a write at the end failed
line_unwritten : (reads : Readings) (offset : ℤ) (s : Session) (line : List ℕ) (fixed : Option ℤ) (clock clock' : ClockView) (s' : Session) (sink mid sink' : SinkView) (old waits : List ℕ) (machine machine' : MachineView)
    → old ≡ [] → SaysAll fixed clock clock' (RunsLine reads machine.world offset s line) s' (state_of sink old machine) (state_of mid waits machine') → AppendsSome mid.held sink'.held (IsFront waits)
    → (moments : List ℤ) × (front : Run) × IsFrontOfLine reads machine.world offset s line moments front × Did machine.world fixed (devices sink machine clock) (devices sink' machine' clock') moments front
line_unwritten reads offset s line fixed clock clock' s' sink mid sink' old waits machine machine' none all front =
    let whole : all.run.bytes ≡ all.says.written ++ waits = ap (λ l. l ++ all.run.bytes) (sym none) ∙ all.says.whole in
    let said : all.run.bytes ≡ (all.says.written ++ front.0) ++ front.1.0 = whole ∙ ap (λ l. all.says.written ++ l) front.1.1 ∙ sym (append_assoc all.says.written front.0 front.1.0) in (
      all.moments,
      record { bytes = all.says.written ++ front.0; looks = all.run.looks; faults = all.run.faults },
      inr (all.run, s', all.runs, record { written = (front.1.0, said); unlooked = []; looked = sym (append-nil all.run.looks); faults = refl }),
      record {
        written = Appends-trans sink.held mid.held sink'.held all.says.written front.0 all.says.appended front.2;
        looked = all.says.looked;
        faults = all.says.faults;
        dated = all.dated;
      },
    )

-- nothing, or a front of it
kept : (a b : Option (List ℕ)) → Keeps a b → Appends a b []
kept None b p = tt
kept (Some x) None p = absurd p
kept (Some x) (Some y) p = p ∙ sym (append-nil x)

began : (reads : Readings) (offset : ℤ) (s : Session) (line : List ℕ) (fixed : Option ℤ) (clock clock' : ClockView) (sink sink' : SinkView) (old waits : List ℕ) (machine machine' : MachineView) (moments : List ℤ)
    → old ≡ [] → length moments ≤ 1 → Dates fixed clock.given clock'.given moments
    → StopsEarly (RunsLine reads machine.world offset s line moments) (state_of sink old machine) (state_of sink' waits machine')
    → (moments : List ℤ) × (front : Run) × IsFrontOfLine reads machine.world offset s line moments front × Did machine.world fixed (devices sink machine clock) (devices sink' machine' clock') moments front
began reads offset s line fixed clock clock' sink sink' old waits machine machine' moments none few dated (inl unwritten) = (
  moments,
  nothing,
  inl (few, refl),
  record {
    written = kept sink.held sink'.held unwritten.keeps;
    looked = unwritten.looked;
    faults = CountsFailed-none machine.faults machine'.faults unwritten.steady;
    dated = dated;
  },
)
began reads offset s line fixed clock clock' sink sink' old waits machine machine' moments none few dated (inr (run, s', runs, stops)) =
    let whole : run.bytes ≡ stops.written ++ stops.unsaid = ap (λ l. l ++ run.bytes) (sym none) ∙ stops.whole in (
      moments,
      record { bytes = stops.written; looks = stops.looks.keys; faults = run.faults },
      inr (run, s', runs, record { written = (stops.unsaid, whole); unlooked = stops.looks.unlooked; looked = stops.looks.whole; faults = refl }),
      record {
        written = stops.appended;
        looked = stops.looks.looked;
        faults = stops.faults;
        dated = dated;
      },
    )

pub line_began : (reads : Readings) (offset : ℤ) (s : Session) (line : List ℕ) (fixed : Option ℤ) (clock clock' : ClockView) (sink sink' : SinkView) (old waits : List ℕ) (machine machine' : MachineView)
    → old ≡ [] → SaysFront fixed clock clock' (RunsLine reads machine.world offset s line) (state_of sink old machine) (state_of sink' waits machine')
    → (moments : List ℤ) × (front : Run) × IsFrontOfLine reads machine.world offset s line moments front × Did machine.world fixed (devices sink machine clock) (devices sink' machine' clock') moments front
line_began reads offset s line fixed clock clock' sink sink' old waits machine machine' none some =
    began reads offset s line fixed clock clock' sink sink' old waits machine machine' some.moments none some.few some.dated some.front

-- ---- the code's sessions

abbrev Held : Option WorldState → ℕ → List code_paused.Paused → Session
Held world page items = record { page = page; paused = map (paused_of world) items }

-- what a session keeps of a trace that is given is given
given_as_left : (world : Option WorldState) (given : WorldState → Trace) (t : Trace) → IsGiven world given t → IsGiven world (λ w. some_given world given) t
given_as_left None given t is = tt
given_as_left (Some w) given t is = is

-- the latest question goes on
pub goes_on_popped : (offset : ℤ) (world : Option WorldState) (page : ℕ) (items rest : List code_paused.Paused) (latest : code_paused.Paused) (run : Run) (s' : Session) → items ≡ rest ++ latest ∷ []
    → TellsOf offset (Held world page rest) (IsGiven world (left_of latest.cursor)) latest.span run s' → GoesOnWith world offset (Held world page items) (map (paused_of world) items) run s'
goes_on_popped offset world page items rest latest run s' is tells =
    let all : map (paused_of world) items ≡ map (paused_of world) rest ++ paused_of world latest ∷ [] = ap (map (paused_of world)) is ∙ map_push (paused_of world) rest latest in
    goes_on_latest world offset (Held world page items) (map (paused_of world) items) (map (paused_of world) rest) (paused_of world latest) run s' all all
    (tells.0, (tells.1.0, given_as_left world (left_of latest.cursor) tells.1.0 tells.1.1, tells.1.2), tells.2, tells.3)

none_left : {X : Type 0} (items : List X) → length items ≡ 0 → items ≡ []
none_left [] none = refl
none_left (x ∷ xs) none = absurd (omega arith)

-- no question is paused
pub goes_on_nowhere : (offset : ℤ) (world : Option WorldState) (page : ℕ) (items rest : List code_paused.Paused) → items ≡ rest ++ [] → length items ≡ 0
    → GoesOnWith world offset (Held world page items) (map (paused_of world) items) (saying said_nothing_paused) (Held world page rest)
goes_on_nowhere offset world page items rest is none =
    let Goes : List code_paused.Paused → Type 0 = λ l. GoesOnWith world offset (Held world page l) (map (paused_of world) l) (saying said_nothing_paused) (Held world page rest) in
    let over : rest ≡ [] = sym (is ∙ append-nil rest) ∙ none_left items none in
    subst Goes (sym (none_left items none)) (refl, ap (Held world page) over)

-- a question is paused behind the last fifteen
pub pauses_behind : (world : Option WorldState) (page page' : ℕ) (items new : List code_paused.Paused) (latest : code_paused.Paused) → page' ≡ page → length items ≤ 16 → new ≡ last_fifteen items ++ latest ∷ []
    → Held world page' new ≡ pausing (Held world page items) (Some (some_given world (left_of latest.cursor))) latest.span
pauses_behind world page page' items new latest same few is =
    let shown : List Paused = map (paused_of world) items in
    let long : length shown ≡ length items = length-map items (paused_of world) in
    let number : length items - 15 ≡ length shown - 15 = omega arith in
    let all : map (paused_of world) new ≡ last_sixteen (shown ++ paused_of world latest ∷ []) =
    ap (map (paused_of world)) is ∙ map_push (paused_of world) (last_fifteen items) latest ∙ ap (λ l. l ++ paused_of world latest ∷ []) (sym (drop-map (paused_of world) (length items - 15) items) ∙ ap (λ n. drop n shown) number)
    ∙ sym (last_sixteen_of shown (paused_of world latest) (omega arith)) in
    ap (λ n. record { page = n; paused = map (paused_of world) new }) same ∙ ap (λ l. record { page = page; paused = l }) all

-- ---- calls that are answered as they are

-- a page is told
pub tells_page : (offset : ℤ) (s : Session) (P : Trace → Type 0) (span : Place) (told : Telling) (room : Option ℕ) (s' : Session) → room ≡ room_of s.page → TellsSome offset span room P told → s' ≡ pausing s told.rest span → TellsOf offset s P span (told_run told) s'
tells_page offset s P span told room s' is tells next = let In : Option ℕ → Type 0 = λ r. TellsSome offset span r P told in (told, subst In is tells, refl, next)

-- nothing of it is written
pub Stops-nothing : (sink : SinkView) (old new : List ℕ) (machine : MachineView) (bytes : List ℕ) → Stops (state_of sink old machine) (state_of sink new machine) (saying bytes)
Stops-nothing sink old new machine bytes = record {
  written = [];
  appended = Appends-nil sink.held;
  unsaid = old ++ bytes;
  whole = refl;
  looks = LooksFront-none machine.world machine.looked [];
  faults = CountsFailed-none machine.faults machine.faults refl;
}

-- a run of one kind is one of another
abbrev Turns : (Run → Session → Type 0) → (Run → Session → Type 0) → Type 0
Turns Was Is = (run : Run) (s : Session) → Was run s → Is run s

stops_as : (old new : State) (Was Is : Run → Session → Type 0) → Turns Was Is → StopsEarly Was old new → StopsEarly Is old new
stops_as old new Was Is turn (inl none) = inl none
stops_as old new Was Is turn (inr (run, s, was, stops)) = inr (run, s, turn run s was, stops)

pub said_as : {T E : Type 0} (r : Result T E) (Was Is : Run → Session → Type 0) (now : Session) (old new : State) → Turns Was Is → SaysOrStops Was now old new r → SaysOrStops Is now old new r
said_as (Ok x) Was Is now old new turn said = (said.0, turn said.0 now said.1, said.2)
said_as (Err e) Was Is now old new turn said = (said.0, said.1, turn said.0 said.1 said.2, said.3)

pub said_early : {T E : Type 0} (r : Result T E) (Was Is : Run → Session → Type 0) (now : Session) (old new : State) → Turns Was Is → SaysOrStops Was now old new r → SaysOrStopsEarly Is now old new r
said_early (Ok x) Was Is now old new turn said = (said.0, turn said.0 now said.1, said.2)
said_early (Err e) Was Is now old new turn said = inr (said.0, said.1, turn said.0 said.1 said.2, said.3)

-- with the moments had
pub said_dated : {T E : Type 0} (r : Result T E) (Was : Run → Session → Type 0) (Runs : List ℤ → Run → Session → Type 0) (fixed : Option ℤ) (clock clock' : ClockView) (moments : List ℤ) (now : Session) (old new : State)
    → length moments ≤ 1 → Dates fixed clock.given clock'.given moments → Turns Was (Runs moments) → SaysOrStopsEarly Was now old new r → SaysDated fixed clock clock' Runs now old new r
said_dated (Ok x) Was Runs fixed clock clock' moments now old new few dated turn said = record { moments = moments; run = said.0; runs = turn said.0 now said.1; says = said.2; dated = dated }
said_dated (Err e) Was Runs fixed clock clock' moments now old new few dated turn said = record { moments = moments; few = few; dated = dated; front = stops_as old new Was (Runs moments) turn said }

-- what a line asks for is done
pub obeyed : {T E : Type 0} (r : Result T E) (reads : Readings) (world : Option WorldState) (offset : ℤ) (s : Session) (line : List ℕ) (what : Line) (fixed : Option ℤ) (clock clock' : ClockView) (now : Session) (old new : State) → Asks line what
    → SaysDated fixed clock clock' (Answers reads world offset s line what) now old new r → SaysDated fixed clock clock' (Obeys reads world offset s line) now old new r
obeyed (Ok x) reads world offset s line what fixed clock clock' now old new asks all = record { moments = all.moments; run = all.run; runs = (what, asks, all.runs); says = all.says; dated = all.dated }
obeyed (Err e) reads world offset s line what fixed clock clock' now old new asks some = record {
  moments = some.moments;
  few = some.few;
  dated = some.dated;
  front = stops_as old new (Answers reads world offset s line what some.moments) (Obeys reads world offset s line some.moments) (λ run s' is. (what, asks, is)) some.front;
}

-- bytes are said, and no moment is used
pub says_bytes : (fixed : Option ℤ) (clock : ClockView) (Runs : List ℤ → Run → Session → Type 0) (now : Session) (sink : SinkView) (old new : List ℕ) (machine : MachineView) (bytes : List ℕ) → new ≡ old ++ bytes → Runs [] (saying bytes) now
    → SaysAll fixed clock clock Runs now (state_of sink old machine) (state_of sink new machine)
says_bytes fixed clock Runs now sink old new machine bytes is runs = record { moments = []; run = saying bytes; runs = runs; says = Says-bytes sink old new machine bytes is; dated = Dates-nil fixed clock.given }

-- a line is said behind its echo
pub line_said : {T E : Type 0} (r : Result T E) (reads : Readings) (world : Option WorldState) (offset : ℤ) (s : Session) (line : List ℕ) (fixed : Option ℤ) (clock clock' : ClockView) (now : Session) (sink : SinkView) (old mid : List ℕ) (machine : MachineView) (new : State) → mid ≡ old ++ said_question line
    → SaysDated fixed clock clock' (Obeys reads world offset s line) now (state_of sink mid machine) new r → SaysDated fixed clock clock' (RunsLine reads world offset s line) now (state_of sink old machine) new r
line_said (Ok x) reads world offset s line fixed clock clock' now sink old mid machine new is all = line_says_all reads world offset s line fixed clock clock' now sink old mid machine new is all
line_said (Err e) reads world offset s line fixed clock clock' now sink old mid machine new is some = line_says_front reads world offset s line fixed clock clock' sink old mid machine new is some

-- a line is written, or a front of it
pub line_written : {T E : Type 0} (r : Result T E) (reads : Readings) (offset : ℤ) (s : Session) (line : List ℕ) (fixed : Option ℤ) (clock clock' : ClockView) (s' : Session) (sink mid sink' : SinkView) (old waits : List ℕ) (machine machine' : MachineView)
    → old ≡ [] → SaysAll fixed clock clock' (RunsLine reads machine.world offset s line) s' (state_of sink old machine) (state_of mid waits machine')
    → MatchResult r (λ _. Appends mid.held sink'.held waits) (λ _. AppendsSome mid.held sink'.held (IsFront waits))
    → DoesLine reads offset fixed s line s' (devices sink machine clock) (devices sink' machine' clock') r
line_written (Ok x) reads offset s line fixed clock clock' s' sink mid sink' old waits machine machine' none all flushed = line_ran reads offset s line fixed clock clock' s' sink mid sink' old waits machine machine' none all flushed
line_written (Err e) reads offset s line fixed clock clock' s' sink mid sink' old waits machine machine' none all front = line_unwritten reads offset s line fixed clock clock' s' sink mid sink' old waits machine machine' none all front

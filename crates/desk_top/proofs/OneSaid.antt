-- A command says one thing of an input, where no look fails.
use Rattle.std.proofs.Common.{◌≡◌, ℕ, zero, suc, ◌+◌, ◌-◌, ◌^◌, min, ◌<◌, ℤ, pos, Bool, true, false, cond, List, [], ◌∷◌, ◌++◌, length, All, None, Some, refl, sym, ap, ap₂, ◌∙◌, subst, arith, length-append}
use Rattle.std.proofs.lemmas.List.{append_cancel_left}
use Rattle.std.specs.declared.option.Option.{Option}
use Rattle.std.specs.Io.KnownBytes.{Appends}
use Rattle.desk_base.specs.Moments.{AppendsMoments}
use Rattle.desk_base.specs.Views.{SinkView}
use Rattle.office_text.specs.Made.{office_of}
use Rattle.office_text.specs.declared.order.Order.{Order}
use Rattle.office_text.specs.Offices.{AreOfficeLines}
use Rattle.office_rules.specs.Offices as played
use Rattle.office_rules.specs.Plays.{IsPlayed}
use Rattle.std.proofs.lemmas.List.Elements.{All-head, All-tail}
use Rattle.line_forms.specs.LineStates as states
use Rattle.bf_world.specs.declared.key.Key.{Key}
use Rattle.bf_world.specs.Worlds.{WorldState}
use Rattle.world_text.specs.Texts.{AreWorldLines, Describes}
use Rattle.line_forms.specs.BadLines.{AnswersBadLine}
use Rattle.line_forms.proofs.BadLines.{first_bad_line-one}
use Rattle.rel_session.specs.declared.line.Line.{Line}
use Rattle.rel_session.specs.declared.line.Line.TheVariants.{Question, Page, More, NoCommand}
use Rattle.bf_machine.specs.Looks.{LooksUp}
use Rattle.bf_machine.specs.Rises.{RoseBy}
use Rattle.rel_eval.specs.Questions.{Reads}
use Rattle.rel_session.specs.Devices.{Devices, DidAll}
use Rattle.rel_session.specs.Lines.{lines_of}
use Rattle.rel_session.specs.Readings.{Readings}
use Rattle.rel_session.specs.Sessions.{Answers, Asks, Run, Runs, Session, begins_with_colon, fresh}
use Rattle.desk_top.specs.declared.command.DeskCommand.{DeskCommand}
use Rattle.desk_top.specs.declared.command.DeskCommand.TheVariants.{Qna, QnaWorld, Check, Office, Make, Serve, Relay, Agent, Help}
use Rattle.desk_top.specs.declared.command.DeskCommand.TheVariants as of_command
use Rattle.site_check.specs.declared.finding.Finding.TheVariants.{Good}
use Rattle.site_check.specs.Lines.{finding_line}
use Rattle.desk_top.proofs.Ends.{OneFinding, OneFront, refusal_known}
use Rattle.desk_top.specs.AllDevices.{AllDevices, asking}
use Rattle.desk_top.specs.Commands.{AsksUpstream, HoldsTalks, UsesKeeper, help_text}
use Rattle.desk_top.specs.Said.{Did, DidDescribed, Refuses}
use Rattle.desk_top.specs.Tellings.{RanAlike, TellsAll}
use Rattle.desk_top.specs.OfficeInputs.{IsBadOffice, PlaysInput}
use Rattle.desk_top.specs.WorldInputs.{IsBadInput, IsWorldInput, bad_line}

-- what rel_session says of every run, in its law on them
abbrev pub OneRun : Readings → Type 0
OneRun reads = (w : WorldState) (offset : ℤ) (s : Session) (lines : List (List ℕ)) (moments : List ℤ) (a b : Run) → Runs reads (Some w) offset s lines moments a → Runs reads (Some w) offset s lines moments b → a.faults ≡ 0 → b.faults ≡ 0 → a ≡ b

-- how many of the lines are questions: each of these uses a moment
abbrev asked : List ℕ → ℕ
asked line = cond (begins_with_colon line) 0 1

abbrev questions : List (List ℕ) → ℕ
questions [] = 0
questions (line ∷ lines) = asked line + questions lines

asked_so : (line : List ℕ) (now : List ℤ) (colon : Bool) → begins_with_colon line ≡ colon → length now ≡ cond colon 0 1 → length now ≡ asked line
asked_so line now colon is many = many ∙ sym (ap (λ b. cond b 0 1) is)

count_answer : (world : Option WorldState) (offset : ℤ) (s : Session) (line : List ℕ) (what : Line) (now : List ℤ) (answer : Run) (s' : Session)
    → Asks line what → Answers Reads world offset s line what now answer s' → length now ≡ asked line
count_answer world offset s line Question now answer s' asks (moment, is, answers) = asked_so line now false asks (ap (length {A = ℤ}) is)
count_answer world offset s line (Page size) now answer s' asks answers = asked_so line now true (ap begins_with_colon asks.1) (ap (length {A = ℤ}) answers.0)
count_answer world offset s line More now answer s' asks answers = asked_so line now true (ap begins_with_colon asks) (ap (length {A = ℤ}) answers.0)
count_answer world offset s line NoCommand now answer s' asks answers = asked_so line now true asks.0 (ap (length {A = ℤ}) answers.0)

count_runs : (world : Option WorldState) (offset : ℤ) (s : Session) (lines : List (List ℕ)) (moments : List ℤ) (run : Run) → Runs Reads world offset s lines moments run → length moments ≡ questions lines
count_runs world offset s [] moments run (none, is) = ap (length {A = ℤ}) none
count_runs world offset s (line ∷ lines) moments run (now, later, all, (first, s', (what, asks, (answer, answers, said)), (rest, runs, is))) =
    ap (length {A = ℤ}) all ∙ length-append now later
    ∙ ap₂ ◌+◌ (count_answer world offset s line what now answer s' asks answers) (count_runs world offset s' lines later rest runs)

-- lists of one number, of the same length
all_same : (m : ℤ) (xs ys : List ℤ) → All (λ x. x ≡ m) xs → All (λ x. x ≡ m) ys → length xs ≡ length ys → xs ≡ ys
all_same m [] [] p q many = refl
all_same m [] (y ∷ ys) p q many = absurd (omega arith)
all_same m (x ∷ xs) [] p q many = absurd (omega arith)
all_same m (x ∷ xs) (y ∷ ys) p q many =
    let P : ℤ → Type 0 = λ z. z ≡ m in
    ap₂ ◌∷◌ (All-head P x xs p ∙ sym (All-head P y ys q)) (all_same m xs ys (All-tail P x xs p) (All-tail P y ys q) (omega arith))

no_faults : (n faults : ℕ) → faults < 2 ^ 64 - 1 → RoseBy n faults faults → n ≡ 0
no_faults zero faults below rose = refl
no_faults (suc n) faults below rose = absurd (omega arith)

-- no look failed where a count that could rise stayed
none_failed : (n old new : ℕ) → old < 2 ^ 64 - 1 → new ≡ old → RoseBy n old new → n ≡ 0
none_failed n old new below same rose = let Rises : ℕ → Type 0 = λ x. RoseBy n old x in no_faults n old below (subst Rises same rose)

-- what known bytes, keys or moments grow to is fixed by what they grow by
pub bytes_fixed : (old one other : Option (List ℕ)) (held bs cs : List ℕ) → old ≡ Some held → bs ≡ cs → Appends old one bs → Appends old other cs → one ≡ other
bytes_fixed None one other held bs cs holds same p q = absurd (cc)
bytes_fixed (Some xs) None other held bs cs holds same p q = absurd p
bytes_fixed (Some xs) (Some ys) None held bs cs holds same p q = absurd q
bytes_fixed (Some xs) (Some ys) (Some zs) held bs cs holds same p q = ap (λ (l : List ℕ). Some l) (p ∙ ap (λ l. xs ++ l) same ∙ sym q)

keys_fixed : (world : Option WorldState) (old one other : Option (List Key)) (w : WorldState) (looked bs cs : List Key) → world ≡ Some w → old ≡ Some looked → bs ≡ cs
    → LooksUp world old one bs → LooksUp world old other cs → one ≡ other
keys_fixed None old one other w looked bs cs shows keeps same p q = absurd (cc)
keys_fixed (Some v) None one other w looked bs cs shows keeps same p q = absurd (cc)
keys_fixed (Some v) (Some xs) None other w looked bs cs shows keeps same p q = absurd p
keys_fixed (Some v) (Some xs) (Some ys) None w looked bs cs shows keeps same p q = absurd q
keys_fixed (Some v) (Some xs) (Some ys) (Some zs) w looked bs cs shows keeps same p q = ap (λ (l : List Key). Some l) (p ∙ ap (λ l. xs ++ l) same ∙ sym q)

-- and the moments that they grew by by what they grew to
moments_fixed : (old one other : Option (List ℤ)) (given xs ys : List ℤ) → old ≡ Some given → one ≡ other → AppendsMoments old one xs → AppendsMoments old other ys → xs ≡ ys
moments_fixed None one other given xs ys gives same p q = absurd (cc)
moments_fixed (Some m) None other given xs ys gives same p q = absurd p
moments_fixed (Some m) (Some a) None given xs ys gives same p q = absurd q
moments_fixed (Some m) (Some a) (Some b) given xs ys gives same p q = let one : a ≡ b = cc in append_cancel_left m xs ys (sym p ∙ one ∙ q)

-- what questions to a machine whose world is told write and look up
abbrev pub SameRuns : Devices → Devices → Type 0
SameRuns one other = (one.sink.held ≡ other.sink.held) × (one.machine.looked ≡ other.machine.looked)

pub asked_once : (reads : Readings) → OneRun reads → (input : List ℕ) (old one other : Devices) → TellsAll old → RanAlike old one other
    → DidAll reads (pos 0) fresh (lines_of input) None old one → DidAll reads (pos 0) fresh (lines_of input) None old other → SameRuns one other
asked_once reads one_run input old one other tells alike (moments, run, runs, did) (moments', run', runs', did') =
    let In : List ℤ → Run → Option WorldState → Type 0 = λ m r v. Runs reads v (pos 0) fresh (lines_of input) m r in
    let Ran : List ℤ → Type 0 = λ m. In m run (Some tells.world) in
    let same : moments ≡ moments' = moments_fixed old.clock.given one.clock.given other.clock.given tells.given moments moments' tells.gives alike.moments did.dated did'.dated in
    let here : In moments run (Some tells.world) = subst (In moments run) tells.shows runs in
    let there : In moments' run' (Some tells.world) = subst (In moments' run') tells.shows runs' in
    let alone : run ≡ run' = one_run tells.world (pos 0) fresh (lines_of input) moments' run run' (subst Ran same here) there
    (none_failed run.faults old.machine.faults one.machine.faults tells.rises alike.one_steady did.faults.rose)
    (none_failed run'.faults old.machine.faults other.machine.faults tells.rises alike.other_steady did'.faults.rose) in (
      bytes_fixed old.sink.held one.sink.held other.sink.held tells.held run.bytes run'.bytes tells.holds (ap (λ r. r.bytes) alone) did.written did'.written,
      keys_fixed old.machine.world old.machine.looked one.machine.looked other.machine.looked tells.world tells.looked run.looks run'.looks tells.shows tells.keeps (ap (λ r. r.looks) alone) did.looked did'.looked,
    )

-- what questions to a described world write
described_once : OneRun Reads → (w : WorldState) (rest held : List ℕ) (old one other : SinkView) → old.held ≡ Some held → DidDescribed w rest old one → DidDescribed w rest old other → one.held ≡ other.held
described_once one_run w rest held old one other holds (moments, run, runs, all, none, is) (moments', run', runs', all', none', is') =
    let Ran : List ℤ → Type 0 = λ m. Runs Reads (Some w) w.offset fresh (lines_of rest) m run in
    let same : moments ≡ moments' = all_same w.moment moments moments' all all' (count_runs (Some w) w.offset fresh (lines_of rest) moments run runs ∙ sym (count_runs (Some w) w.offset fresh (lines_of rest) moments' run' runs')) in
    let alone : run ≡ run' = one_run w w.offset fresh (lines_of rest) moments' run run' (subst Ran same runs) runs' none none' in
    bytes_fixed old.held one.held other.held held run.bytes run'.bytes holds (ap (λ r. r.bytes) alone) is is'

-- an input has one world's text and one rest
one_rest : OneFront → (input : List ℕ) (w w' : WorldState) (rest rest' : List ℕ) → IsWorldInput input w rest → IsWorldInput input w' rest' → (w' ≡ w) × (rest' ≡ rest)
one_rest front input w w' rest rest' (text, splits, reads) (text', splits', reads') =
    let same : text' ≡ text = front input text' rest' text rest splits' splits in
    let P : List ℕ → Type 0 = λ t. Describes (states.lines_of t) w' in (
      reads.2 w' (subst P same reads'.1),
      append_cancel_left text rest' rest (ap (λ t. t ++ rest') (sym same) ∙ sym splits'.0 ∙ splits.0),
    )

world_once : OneRun Reads → OneFront → (input held : List ℕ) (old one other : SinkView) → old.held ≡ Some held
    → (w : WorldState) (rest : List ℕ) → IsWorldInput input w rest → DidDescribed w rest old one
    → (w' : WorldState) (rest' : List ℕ) → IsWorldInput input w' rest' → DidDescribed w' rest' old other → one.held ≡ other.held
world_once one_run front input held old one other holds w rest is did w' rest' is' did' =
    let same = one_rest front input w w' rest rest' is is' in
    let InWorld : WorldState → Type 0 = λ v. DidDescribed v rest' old other in
    let OfRest : List ℕ → Type 0 = λ l. DidDescribed w l old other in
    described_once one_run w rest held old one other holds did (subst OfRest same.1 (subst InWorld same.0 did'))

-- Orders print one text and leave one office.
abbrev pub OnePlay : Type 0
OnePlay = (orders : List Order) (written other : List ℕ) (one two : played.Office) → IsPlayed orders written one → IsPlayed orders other two
    → (written ≡ other) × (one ≡ two)

-- what the play of an office writes
office_once : OnePlay → (input held : List ℕ) (old one other : Option (List ℕ)) → old ≡ Some held → PlaysInput input old one
    → PlaysInput input old other → one ≡ other
office_once plays input held old one other holds (orders, reads, (written, (o, is), wrote)) (orders', reads', (written', (o', is'), wrote')) =
    let same : orders' ≡ orders = reads.2 orders' reads'.1 in
    let P : List Order → Type 0 = λ l. IsPlayed l written' o' in
    let alone = plays orders written written' o o' is (subst P same is') in
    bytes_fixed old one other held written written' holds alone.0 wrote wrote'

pub bytes_once : OneRun Reads → OneFinding → OneFront → OnePlay → (command : DeskCommand) (input : List ℕ) (old one other : AllDevices) → (HoldsTalks command → ⊥) → (AsksUpstream command → ⊥) → (UsesKeeper command → ⊥) → TellsAll (asking old)
    → RanAlike (asking old) (asking one) (asking other) → Did command input old one → Did command input old other → one.sink.held ≡ other.sink.held
bytes_once one_run finding front plays Qna input old one other no_talks no_link no_keeper tells alike did did' = (asked_once Reads one_run input (asking old) (asking one) (asking other) tells alike did did').0
bytes_once one_run finding front plays QnaWorld input old one other no_talks no_link no_keeper tells alike (v, rest, is, did) (v', rest', is', did') =
    world_once one_run front input tells.held old.sink one.sink other.sink tells.holds v rest is did v' rest' is' did'
bytes_once one_run finding front plays Check input old one other no_talks no_link no_keeper tells alike (fixlets, baselines, found, is) (fixlets', baselines', found', is') =
    let same = finding input (Good fixlets baselines) (Good fixlets' baselines') found found' (λ e. cc) (λ e. cc) in
    bytes_fixed old.sink.held one.sink.held other.sink.held tells.held (finding_line (Good fixlets baselines)) (finding_line (Good fixlets' baselines')) tells.holds (ap finding_line same) is is'
bytes_once one_run finding front plays Office input old one other no_talks no_link no_keeper tells alike did did' =
    office_once plays input tells.held old.sink.held one.sink.held other.sink.held tells.holds did did'
bytes_once one_run finding front plays (Make number) input old one other no_talks no_link no_keeper tells alike did did' =
    bytes_fixed old.sink.held one.sink.held other.sink.held tells.held (office_of number) (office_of number) tells.holds refl did did'
bytes_once one_run finding front plays (Serve asked) input old one other no_talks no_link no_keeper tells alike did did' = absurd (no_talks tt)
bytes_once one_run finding front plays (Relay asked) input old one other no_talks no_link no_keeper tells alike did did' = absurd (no_talks tt)
bytes_once one_run finding front plays (Agent asked) input old one other no_talks no_link no_keeper tells alike did did' = absurd (no_link tt)
bytes_once one_run finding front plays (of_command.Session asked) input old one other no_talks no_link no_keeper tells alike did did' = absurd (no_keeper tt)
bytes_once one_run finding front plays Help input old one other no_talks no_link no_keeper tells alike did did' =
    bytes_fixed old.sink.held one.sink.held other.sink.held tells.held help_text help_text tells.holds refl did did'

pub looks_once : OneRun Reads → (input : List ℕ) (old one other : AllDevices) → TellsAll (asking old) → RanAlike (asking old) (asking one) (asking other)
    → Did Qna input old one → Did Qna input old other → one.machine.looked ≡ other.machine.looked
looks_once one_run input old one other tells alike did did' = (asked_once Reads one_run input (asking old) (asking one) (asking other) tells alike did did').1

-- an input has one first bad line
one_bad_line : OneFront → (input : List ℕ) (m n : ℕ) → IsBadInput input m → IsBadInput input n → m ≡ n
one_bad_line front input m n (text, rest, splits, (i, first, is)) (text', rest', splits', bad') =
    let Answers : List ℕ → Type 0 = λ t. AnswersBadLine AreWorldLines t n in
    let same : text' ≡ text = front input text' rest' text rest splits' splits in
    let bad = subst Answers same bad' in
    is ∙ ap (λ k. min k (2 ^ 32 - 1)) (first_bad_line-one AreWorldLines text i bad.0 first bad.1) ∙ sym bad.2

one_bad_office : (input : List ℕ) (m n : ℕ) → IsBadOffice input m → IsBadOffice input n → m ≡ n
one_bad_office input m n (i, first, is) (k, other, is') =
    is ∙ ap (λ l. min l (2 ^ 32 - 1)) (first_bad_line-one AreOfficeLines input i k first other) ∙ sym is'

-- an input is refused in one way
pub refusal_once : OneFinding → OneFront → (command : DeskCommand) (input a b : List ℕ) → Refuses command input a → Refuses command input b → a ≡ b
refusal_once one front Qna input a b x y = absurd x
refusal_once one front QnaWorld input a b (m, bad, is) (n, bad', is') = is ∙ ap bad_line (one_bad_line front input m n bad bad') ∙ sym is'
refusal_once one front Check input a b (f, found, refusal, is) (g, found', refusal', is') =
    is ∙ ap finding_line (one input f g found found' (refusal_known f refusal) (refusal_known g refusal')) ∙ sym is'
refusal_once one front Office input a b (m, bad, is) (n, bad', is') = is ∙ ap bad_line (one_bad_office input m n bad bad') ∙ sym is'
refusal_once one front (Make number) input a b x y = absurd x
refusal_once one front (Serve asked) input a b x y = absurd x
refusal_once one front (Relay asked) input a b x y = absurd x
refusal_once one front (Agent asked) input a b x y = absurd x
refusal_once one front (of_command.Session asked) input a b x y = absurd x
refusal_once one front Help input a b x y = absurd x

-- The result before a fault of the machine is one: no other makes a line fail for it.
use Rattle.std.proofs.Common.{◌≡◌, ◌≢◌, ◌==◌, ℕ, ℤ, pos, Bool, true, false, if◌then◌else◌, is_some, List, [], ◌∷◌, ◌++◌, length, codes, Option, Some, None, refl, ◌⊎◌, inl, inr, arith}
use Rattle.std.specs.Prelude.{⊤}
use Rattle.std.specs.Str.{bytes_eq}
use Rattle.hex.specs.Hex.{encode_lower}
use Rattle.sha1.specs.Sha1.{sha1}
use Rattle.sha2.specs.Sha256.{sha256}
use Rattle.rel_value.specs.TimesRead.{time_of}
use Rattle.bf_world.specs.declared.command.Command.{Command}
use Rattle.bf_world.specs.declared.command.Command.TheVariants as command
use Rattle.bf_world.specs.declared.command.Acted.{Acted}
use Rattle.bf_world.specs.declared.command.Acted.TheVariants as of_act
use Rattle.bf_world.specs.declared.command.Polled.{Polled}
use Rattle.bf_world.specs.declared.command.Polled.TheVariants as of_poll
use Rattle.rel_sources.specs.Scenes.{value_of}
use Rattle.rel_eval.specs.declared.told.OneText.{OneText}
use Rattle.rel_eval.specs.declared.told.OneText.TheVariants as one_text
use Rattle.rel_eval.specs.declared.told.Truth.{Truth}
use Rattle.rel_eval.specs.declared.told.Truth.TheVariants as truth
use Rattle.script_text.specs.declared.line.Line.{Line}
use Rattle.script_text.specs.declared.line.Line.TheVariants as line
use Rattle.script_text.specs.declared.prefetch.Prefetch.{Prefetch}
use Rattle.script_text.specs.declared.template.Part2.{Part2}
use Rattle.script_text.specs.declared.template.Part2.TheVariants.{Plain, Expression}
use Rattle.script_text.specs.declared.template.Template.{Template}
use Rattle.script_text.specs.Trees.{PlainStatement, act, choice, Statements, no_statements, more_statements, Arms, no_arms, more_arms}
use Rattle.script_text.specs.Scripts.{PlainScript}
use Rattle.script_run.specs.declared.cause.Cause.{Cause}
use Rattle.script_run.specs.declared.cause.Cause.TheVariants.{NotContinued, MachineFault, ParameterTwice, WrongSize, WrongDigest, NotServed, BadDate}
use Rattle.script_run.specs.Walks.{Known, Settled, supplied, said, judged, acted, polled, fault_in, Next, Wants, Says, Tests, Pauses, Does, Polls, Fails, Walk, Rest, ending, failing, after_text, saying, after_truth, testing, pausing, after_act, acting, doing, with_exit, after_poll, polling, awaiting}
use Rattle.script_run.specs.LineWalks.{filling, filled, lining, ended, with_parameter, setting, timed, dated, line_walk, placing, after_supply, fetching}
use Rattle.script_run.specs.ScriptWalks.{walk, walk_all, walk_arms, fetch_all, script_walk}

-- A result can come from what comes next, whatever the machine.
abbrev pub CanCome : Next → Settled → Type 0
CanCome (Says n midway text) (said answer) = answer ≢ one_text.Memory
CanCome (Tests n text) (judged answer) = answer ≢ truth.Memory
CanCome (Pauses n text) (judged answer) = (answer ≢ truth.Memory) × (answer ≢ truth.True)
CanCome (Does n midway command) (acted answer) = answer ≢ of_act.Memory
CanCome (Polls n process) (polled answer) = answer ≢ of_poll.Running
CanCome (Wants n digest) (supplied bytes) = ⊤
CanCome _ _ = ⊥

-- no fault of the machine comes next
abbrev Begins : Walk → Type 0
Begins f = (n : ℕ) (w : Bool) → (f []).next ≢ Fails n w MachineFault

-- where one comes next, the result before it is one
abbrev pub Counts : Walk → Type 0
Counts f = (settled : List Settled) (result : Settled) (n : ℕ) (w : Bool) → CanCome (f settled).next result → (f (settled ++ result ∷ [])).next ≡ Fails n w MachineFault → fault_in result ≢ 0

abbrev BeginsAll : Rest → Type 0
BeginsAll rest = (known : Known) → Begins (rest known)

abbrev CountsAll : Rest → Type 0
CountsAll rest = (known : Known) → Counts (rest known)

record Honest (rest : Rest) : Type 0 where
  begins : BeginsAll rest
  counts : CountsAll rest

failing_counts : (n : ℕ) (midway : Bool) (cause : Cause) → CountsAll (failing n midway cause)
failing_counts n midway cause known settled result m w can is = absurd can

ending_honest : Honest ending
ending_honest = record { begins = λ known n w is. absurd (cc); counts = λ known settled result n w can is. absurd can }

failing_honest : (n : ℕ) (midway : Bool) (cause : Cause) → ((m : ℕ) (w : Bool) → Fails n midway cause ≢ Fails m w MachineFault) → Honest (failing n midway cause)
failing_honest n midway cause other = record { begins = λ known. other; counts = failing_counts n midway cause }

-- ---- what is asked
after_text_counts : (n : ℕ) (rest : List ℕ → Rest) (answer : OneText) → ((text : List ℕ) → Honest (rest text)) → CountsAll (after_text n rest answer)
after_text_counts n rest (one_text.Text text) h = (h text).counts
after_text_counts n rest (one_text.Error kind place) h = λ known settled result m w can is. absurd can
after_text_counts n rest (one_text.Failed place) h = λ known settled result m w can is. absurd can
after_text_counts n rest one_text.Memory h = λ known settled result m w can is. absurd can

after_text_faults : (n : ℕ) (rest : List ℕ → Rest) (answer : OneText) → ((text : List ℕ) → Honest (rest text)) → answer ≢ one_text.Memory →
    (known : Known) (m : ℕ) (w : Bool) → (after_text n rest answer known []).next ≡ Fails m w MachineFault → fault_in (said answer) ≢ 0
after_text_faults n rest (one_text.Text text) h can known m w is = absurd ((h text).begins known m w is)
after_text_faults n rest (one_text.Error kind place) h can known m w is = absurd (cc)
after_text_faults n rest (one_text.Failed place) h can known m w is = λ none. absurd (omega (arith, none))
after_text_faults n rest one_text.Memory h can known m w is = absurd (can refl)

saying_counts : (n : ℕ) (midway : Bool) (e : List ℕ) (rest : List ℕ → Rest) → ((text : List ℕ) → Honest (rest text)) → CountsAll (saying n midway e rest)
saying_counts n midway e rest h known [] (said answer) m w can is = after_text_faults n rest answer h can known m w is
saying_counts n midway e rest h known [] result m w can is = absurd can
saying_counts n midway e rest h known (said answer ∷ settled) result m w can is = after_text_counts n rest answer h known settled result m w can is
saying_counts n midway e rest h known (_ ∷ settled) result m w can is = absurd can

saying_honest : (n : ℕ) (midway : Bool) (e : List ℕ) (rest : List ℕ → Rest) → ((text : List ℕ) → Honest (rest text)) → Honest (saying n midway e rest)
saying_honest n midway e rest h = record { begins = λ known m w is. absurd (cc); counts = saying_counts n midway e rest h }

after_truth_counts : (n : ℕ) (met unmet : Rest) (answer : Truth) → CountsAll met → CountsAll unmet → CountsAll (after_truth n met unmet answer)
after_truth_counts n met unmet truth.True p q = p
after_truth_counts n met unmet truth.False p q = q
after_truth_counts n met unmet (truth.Error kind place) p q = λ known settled result m w can is. absurd can
after_truth_counts n met unmet (truth.Failed place) p q = λ known settled result m w can is. absurd can
after_truth_counts n met unmet truth.Memory p q = λ known settled result m w can is. absurd can

after_truth_faults : (n : ℕ) (met unmet : Rest) (answer : Truth) → (answer ≢ truth.True ⊎ BeginsAll met) → BeginsAll unmet → answer ≢ truth.Memory →
    (known : Known) (m : ℕ) (w : Bool) → (after_truth n met unmet answer known []).next ≡ Fails m w MachineFault → fault_in (judged answer) ≢ 0
after_truth_faults n met unmet truth.True (inl other) q can known m w is = absurd (other refl)
after_truth_faults n met unmet truth.True (inr p) q can known m w is = absurd (p known m w is)
after_truth_faults n met unmet truth.False p q can known m w is = absurd (q known m w is)
after_truth_faults n met unmet (truth.Error kind place) p q can known m w is = absurd (cc)
after_truth_faults n met unmet (truth.Failed place) p q can known m w is = λ none. absurd (omega (arith, none))
after_truth_faults n met unmet truth.Memory p q can known m w is = absurd (can refl)

testing_counts : (n : ℕ) (test : List ℕ) (met unmet : Rest) → Honest met → Honest unmet → CountsAll (testing n test met unmet)
testing_counts n test met unmet p q known [] (judged answer) m w can is = after_truth_faults n met unmet answer (inr p.begins) q.begins can known m w is
testing_counts n test met unmet p q known [] result m w can is = absurd can
testing_counts n test met unmet p q known (judged answer ∷ settled) result m w can is = after_truth_counts n met unmet answer p.counts q.counts known settled result m w can is
testing_counts n test met unmet p q known (_ ∷ settled) result m w can is = absurd can

testing_honest : (n : ℕ) (test : List ℕ) (met unmet : Rest) → Honest met → Honest unmet → Honest (testing n test met unmet)
testing_honest n test met unmet p q = record { begins = λ known m w is. absurd (cc); counts = testing_counts n test met unmet p q }

pausing_counts : (n : ℕ) (test : List ℕ) (rest : Rest) → Honest rest → CountsAll (pausing n test rest)
pausing_counts n test rest h known [] (judged answer) m w can is = after_truth_faults n (failing n true MachineFault) rest answer (inl can.1) h.begins can.0 known m w is
pausing_counts n test rest h known [] result m w can is = absurd can
pausing_counts n test rest h known (judged answer ∷ settled) result m w can is =
    after_truth_counts n (failing n true MachineFault) rest answer (failing_counts n true MachineFault) h.counts known settled result m w can is
pausing_counts n test rest h known (_ ∷ settled) result m w can is = absurd can

pausing_honest : (n : ℕ) (test : List ℕ) (rest : Rest) → Honest rest → Honest (pausing n test rest)
pausing_honest n test rest h = record { begins = λ known m w is. absurd (cc); counts = pausing_counts n test rest h }

-- ---- what is done
after_act_counts : (n : ℕ) (rest : Rest) (started : ℕ → Rest) (answer : Acted) → Honest rest → ((process : ℕ) → Honest (started process)) → CountsAll (after_act n rest started answer)
after_act_counts n rest started of_act.Done p q = p.counts
after_act_counts n rest started (of_act.Started process) p q = (q process.0).counts
after_act_counts n rest started (of_act.Refused reason) p q = λ known settled result m w can is. absurd can
after_act_counts n rest started of_act.Failed p q = λ known settled result m w can is. absurd can
after_act_counts n rest started of_act.Memory p q = λ known settled result m w can is. absurd can

after_act_faults : (n : ℕ) (rest : Rest) (started : ℕ → Rest) (answer : Acted) → Honest rest → ((process : ℕ) → Honest (started process)) → answer ≢ of_act.Memory →
    (known : Known) (m : ℕ) (w : Bool) → (after_act n rest started answer known []).next ≡ Fails m w MachineFault → fault_in (acted answer) ≢ 0
after_act_faults n rest started of_act.Done p q can known m w is = absurd (p.begins known m w is)
after_act_faults n rest started (of_act.Started process) p q can known m w is = absurd ((q process.0).begins known m w is)
after_act_faults n rest started (of_act.Refused reason) p q can known m w is = absurd (cc)
after_act_faults n rest started of_act.Failed p q can known m w is = λ none. absurd (omega (arith, none))
after_act_faults n rest started of_act.Memory p q can known m w is = absurd (can refl)

acting_counts : (n : ℕ) (midway : Bool) (c : Command) (rest : Rest) (started : ℕ → Rest) → Honest rest → ((process : ℕ) → Honest (started process)) → CountsAll (acting n midway c rest started)
acting_counts n midway c rest started p q known [] (acted answer) m w can is = after_act_faults n rest started answer p q can known m w is
acting_counts n midway c rest started p q known [] result m w can is = absurd can
acting_counts n midway c rest started p q known (acted answer ∷ settled) result m w can is = after_act_counts n rest started answer p q known settled result m w can is
acting_counts n midway c rest started p q known (_ ∷ settled) result m w can is = absurd can

acting_honest : (n : ℕ) (midway : Bool) (c : Command) (rest : Rest) (started : ℕ → Rest) → Honest rest → ((process : ℕ) → Honest (started process)) → Honest (acting n midway c rest started)
acting_honest n midway c rest started p q = record { begins = λ known m w is. absurd (cc); counts = acting_counts n midway c rest started p q }

doing_honest : (n : ℕ) (midway : Bool) (c : Command) (rest : Rest) → Honest rest → Honest (doing n midway c rest)
doing_honest n midway c rest h = acting_honest n midway c rest (λ process. rest) h (λ process. h)

after_poll_counts : (n : ℕ) (rest : Rest) (answer : Polled) → Honest rest → CountsAll (after_poll n rest answer)
after_poll_counts n rest (of_poll.Exited code) h = λ known. h.counts (with_exit code known)
after_poll_counts n rest of_poll.Failed h = λ known settled result m w can is. absurd can
after_poll_counts n rest of_poll.Running h = λ known settled result m w can is. absurd can

after_poll_faults : (n : ℕ) (rest : Rest) (answer : Polled) → Honest rest → answer ≢ of_poll.Running →
    (known : Known) (m : ℕ) (w : Bool) → (after_poll n rest answer known []).next ≡ Fails m w MachineFault → fault_in (polled answer) ≢ 0
after_poll_faults n rest (of_poll.Exited code) h can known m w is = absurd (h.begins (with_exit code known) m w is)
after_poll_faults n rest of_poll.Failed h can known m w is = λ none. absurd (omega (arith, none))
after_poll_faults n rest of_poll.Running h can known m w is = absurd (can refl)

polling_counts : (n process : ℕ) (rest : Rest) → Honest rest → CountsAll (polling n process rest)
polling_counts n process rest h known [] (polled answer) m w can is = after_poll_faults n rest answer h can known m w is
polling_counts n process rest h known [] result m w can is = absurd can
polling_counts n process rest h known (polled answer ∷ settled) result m w can is = after_poll_counts n rest answer h known settled result m w can is
polling_counts n process rest h known (_ ∷ settled) result m w can is = absurd can

polling_honest : (n process : ℕ) (rest : Rest) → Honest rest → Honest (polling n process rest)
polling_honest n process rest h = record { begins = λ known m w is. absurd (cc); counts = polling_counts n process rest h }

awaiting_honest : (n : ℕ) (midway : Bool) (c : Command) (rest : Rest) → Honest rest → Honest (awaiting n midway c rest)
awaiting_honest n midway c rest h = acting_honest n midway c rest (λ process. polling n process rest) h (λ process. polling_honest n process rest h)

-- ---- lines
filling_honest : (n : ℕ) (midway : Bool) (parts : List Part2) (text : List ℕ) (rest : Bool → List ℕ → Rest) → ((later : Bool) (more : List ℕ) → Honest (rest later more)) →
    Honest (filling n midway parts text rest)
filling_honest n midway [] text rest h = h midway text
filling_honest n midway (Plain plain ∷ parts) text rest h = filling_honest n midway parts (text ++ plain) rest h
filling_honest n midway (Expression e ∷ parts) text rest h =
    saying_honest n midway e (λ more. filling n true parts (text ++ more) rest) (λ more. filling_honest n true parts (text ++ more) rest h)

filled_honest : (n : ℕ) (midway : Bool) (template : Template) (rest : Bool → List ℕ → Rest) → ((later : Bool) (more : List ℕ) → Honest (rest later more)) →
    Honest (filled n midway template rest)
filled_honest n midway template rest h = filling_honest n midway template.parts [] rest h

lining_honest : (n : ℕ) (midway : Bool) (templates : List Template) (text : List ℕ) (rest : Bool → List ℕ → Rest) → ((later : Bool) (more : List ℕ) → Honest (rest later more)) →
    Honest (lining n midway templates text rest)
lining_honest n midway [] text rest h = h midway text
lining_honest n midway (template ∷ templates) text rest h =
    filling_honest n midway template.parts text (λ later more. lining n later templates (ended more) rest) (λ later more. lining_honest n later templates (ended more) rest h)

one_begins : (b : Bool) (f g : Walk) → Begins f → Begins g → Begins (if b then f else g)
one_begins true f g p q = p
one_begins false f g p q = q

one_counts : (b : Bool) (f g : Walk) → Counts f → Counts g → Counts (if b then f else g)
one_counts true f g p q = p
one_counts false f g p q = q

setting_honest : (n : ℕ) (midway : Bool) (name value : List ℕ) (rest : Rest) → Honest rest → Honest (setting n midway name value rest)
setting_honest n midway name value rest h = record {
  begins = λ known. one_begins (is_some (value_of name known.parameters)) (failing n midway ParameterTwice known) (rest (with_parameter name value known)) (λ m w is. absurd (cc)) (h.begins (with_parameter name value known));
  counts = λ known. one_counts (is_some (value_of name known.parameters)) (failing n midway ParameterTwice known) (rest (with_parameter name value known)) (failing_counts n midway ParameterTwice known) (h.counts (with_parameter name value known));
}

timed_honest : (n : ℕ) (midway : Bool) (o : Option ℕ) (rest : ℤ → Rest) → ((moment : ℤ) → Honest (rest moment)) → Honest (timed n midway o rest)
timed_honest n midway None rest h = failing_honest n midway BadDate (λ m w is. absurd (cc))
timed_honest n midway (Some moment) rest h = h (pos moment)

dated_honest : (n : ℕ) (midway : Bool) (template : Template) (rest : Bool → ℤ → Rest) → ((later : Bool) (moment : ℤ) → Honest (rest later moment)) → Honest (dated n midway template rest)
dated_honest n midway template rest h =
    filled_honest n midway template (λ later text. timed n later (time_of text) (rest later)) (λ later text. timed_honest n later (time_of text) (rest later) (h later))

line_honest : (n : ℕ) (what : Line) (rest : Rest) → Honest rest → Honest (line_walk n what rest)
line_honest n (line.Parameter name value) rest h = filled_honest n false value _ (λ midway text. setting_honest n midway name text rest h)
line_honest n (line.ContinueIf test) rest h = testing_honest n test rest (failing n true NotContinued) h (failing_honest n true NotContinued (λ m w is. absurd (cc)))
line_honest n (line.PauseWhile test) rest h = pausing_honest n test rest h
line_honest n (line.Create templates) rest h = lining_honest n false templates [] _ (λ midway text. doing_honest n midway (command.Write (codes "__createfile") text) rest h)
line_honest n (line.Append template) rest h = filled_honest n false template _ (λ midway text. doing_honest n midway (command.Append (codes "__appendfile") (ended text)) rest h)
line_honest n (line.Delete path) rest h = filled_honest n false path _ (λ midway text. doing_honest n midway (command.Delete text) rest h)
line_honest n (line.Copy from to) rest h = filled_honest n false from _ (λ midway text. filled_honest n midway to _ (λ later more. doing_honest n later (command.Copy text more) rest h))
line_honest n (line.Move from to) rest h = filled_honest n false from _ (λ midway text. filled_honest n midway to _ (λ later more. doing_honest n later (command.Move text more) rest h))
line_honest n (line.FolderCreate path) rest h = filled_honest n false path _ (λ midway text. doing_honest n midway (command.MakeFolder text) rest h)
line_honest n (line.FolderDelete path) rest h = filled_honest n false path _ (λ midway text. doing_honest n midway (command.DropFolder text) rest h)
line_honest n (line.Run template) rest h = filled_honest n false template _ (λ midway text. doing_honest n midway (command.Start text false) rest h)
line_honest n (line.Wait template) rest h = filled_honest n false template _ (λ midway text. awaiting_honest n midway (command.Start text false) rest h)
line_honest n (line.RunHidden template) rest h = filled_honest n false template _ (λ midway text. doing_honest n midway (command.Start text true) rest h)
line_honest n (line.WaitHidden template) rest h = filled_honest n false template _ (λ midway text. awaiting_honest n midway (command.Start text true) rest h)
line_honest n (line.Setting name value date) rest h =
    filled_honest n false name _ (λ midway text. filled_honest n midway value _ (λ later more. dated_honest n later date _ (λ last moment. doing_honest n last (command.Put text more moment) rest h)))
line_honest n (line.SettingDelete name date) rest h =
    filled_honest n false name _ (λ midway text. dated_honest n midway date _ (λ last moment. doing_honest n last (command.Drop text moment) rest h))

one_counts_all : (b : Bool) (f g : Rest) → CountsAll f → CountsAll g → CountsAll (if b then f else g)
one_counts_all true f g p q = p
one_counts_all false f g p q = q

one_begins_all : (b : Bool) (f g : Rest) → BeginsAll f → BeginsAll g → BeginsAll (if b then f else g)
one_begins_all true f g p q = p
one_begins_all false f g p q = q

placing_counts : (fetch : Prefetch) (bytes : List ℕ) (rest : Rest) → Honest rest → CountsAll (placing fetch bytes rest)
placing_counts fetch bytes rest h =
    one_counts_all (length bytes == fetch.size) _ (failing fetch.line true (WrongSize fetch.size (length bytes)))
    (one_counts_all (bytes_eq (sha1 bytes) fetch.sha1) _ (failing fetch.line true (WrongDigest (encode_lower fetch.sha1) (encode_lower (sha1 bytes))))
    (one_counts_all (bytes_eq (sha256 bytes) fetch.sha256) (doing fetch.line false (command.Place fetch.name bytes) rest)
    (failing fetch.line true (WrongDigest (encode_lower fetch.sha256) (encode_lower (sha256 bytes))))
    (doing_honest fetch.line false (command.Place fetch.name bytes) rest h).counts (failing_counts fetch.line true _))
    (failing_counts fetch.line true _))
    (failing_counts fetch.line true _)

after_supply_counts : (fetch : Prefetch) (rest : Rest) (bytes : Option (List ℕ)) → Honest rest → CountsAll (after_supply fetch rest bytes)
after_supply_counts fetch rest None h = failing_counts fetch.line true (NotServed fetch.sha256)
after_supply_counts fetch rest (Some bytes) h = placing_counts fetch bytes rest h

placing_begins : (fetch : Prefetch) (bytes : List ℕ) (rest : Rest) → Honest rest → BeginsAll (placing fetch bytes rest)
placing_begins fetch bytes rest h =
    one_begins_all (length bytes == fetch.size) _ (failing fetch.line true (WrongSize fetch.size (length bytes)))
    (one_begins_all (bytes_eq (sha1 bytes) fetch.sha1) _ (failing fetch.line true (WrongDigest (encode_lower fetch.sha1) (encode_lower (sha1 bytes))))
    (one_begins_all (bytes_eq (sha256 bytes) fetch.sha256) (doing fetch.line false (command.Place fetch.name bytes) rest)
    (failing fetch.line true (WrongDigest (encode_lower fetch.sha256) (encode_lower (sha256 bytes))))
    (doing_honest fetch.line false (command.Place fetch.name bytes) rest h).begins (λ known m w is. absurd (cc)))
    (λ known m w is. absurd (cc)))
    (λ known m w is. absurd (cc))

after_supply_begins : (fetch : Prefetch) (rest : Rest) (bytes : Option (List ℕ)) → Honest rest → BeginsAll (after_supply fetch rest bytes)
after_supply_begins fetch rest None h = λ known m w is. absurd (cc)
after_supply_begins fetch rest (Some bytes) h = placing_begins fetch bytes rest h

fetching_counts : (fetch : Prefetch) (rest : Rest) → Honest rest → CountsAll (fetching fetch rest)
fetching_counts fetch rest h known [] (supplied bytes) m w can is = absurd (after_supply_begins fetch rest bytes h known m w is)
fetching_counts fetch rest h known [] result m w can is = absurd can
fetching_counts fetch rest h known (supplied bytes ∷ settled) result m w can is = after_supply_counts fetch rest bytes h known settled result m w can is
fetching_counts fetch rest h known (_ ∷ settled) result m w can is = absurd can

fetching_honest : (fetch : Prefetch) (rest : Rest) → Honest rest → Honest (fetching fetch rest)
fetching_honest fetch rest h = record { begins = λ known m w is. absurd (cc); counts = fetching_counts fetch rest h }

-- ---- scripts
mutual
  walk_honest : (statement : PlainStatement) (rest : Rest) → Honest rest → Honest (walk statement rest)
  walk_honest (act n what) rest h = line_honest n what rest h
  walk_honest (choice arms other) rest h = walk_arms_honest arms rest (walk_all other rest) h (walk_all_honest other rest h)

  walk_all_honest : (statements : Statements) (rest : Rest) → Honest rest → Honest (walk_all statements rest)
  walk_all_honest no_statements rest h = h
  walk_all_honest (more_statements statements last) rest h = walk_all_honest statements (walk last rest) (walk_honest last rest h)

  walk_arms_honest : (arms : Arms) (rest other : Rest) → Honest rest → Honest other → Honest (walk_arms arms rest other)
  walk_arms_honest no_arms rest other h o = o
  walk_arms_honest (more_arms arms n test body) rest other h o =
      walk_arms_honest arms rest (testing n test (walk_all body rest) other) h (testing_honest n test (walk_all body rest) other (walk_all_honest body rest h) o)

fetch_all_honest : (fetches : List Prefetch) (rest : Rest) → Honest rest → Honest (fetch_all fetches rest)
fetch_all_honest [] rest h = h
fetch_all_honest (fetch ∷ fetches) rest h = fetching_honest fetch (fetch_all fetches rest) (fetch_all_honest fetches rest h)

script_honest : (script : PlainScript) → Honest (script_walk script)
script_honest script = fetch_all_honest script.prefetches (walk_all script.statements ending) (walk_all_honest script.statements ending ending_honest)

pub script_begins : (script : PlainScript) (known : Known) (n : ℕ) (w : Bool) → (script_walk script known []).next ≢ Fails n w MachineFault
script_begins script known = (script_honest script).begins known

pub script_counts : (script : PlainScript) (known : Known) → Counts (script_walk script known)
script_counts script known = (script_honest script).counts known

-- A line fails for a fault of the machine only midway.
use Rattle.std.proofs.Common.{◌≡◌, ℕ, ℤ, pos, Bool, true, false, if◌then◌else◌, is_some, List, [], ◌∷◌, ◌++◌, length, ◌==◌, Option, Some, None, refl, sym, ap, ◌∙◌}
use Rattle.std.specs.Str.{bytes_eq}
use Rattle.hex.specs.Hex.{encode_lower}
use Rattle.sha1.specs.Sha1.{sha1}
use Rattle.sha2.specs.Sha256.{sha256}
use Rattle.rel_value.specs.TimesRead.{time_of}
use Rattle.bf_world.specs.declared.command.Command.{Command}
use Rattle.bf_world.specs.declared.command.Command.TheVariants as command
use Rattle.bf_world.specs.declared.command.Acted.{Acted}
use Rattle.bf_world.specs.declared.command.Acted.TheVariants as of_act
use Rattle.bf_world.specs.declared.command.Polled.{Polled}
use Rattle.bf_world.specs.declared.command.Polled.TheVariants as of_poll
use Rattle.rel_sources.specs.Scenes.{value_of}
use Rattle.rel_eval.specs.declared.told.OneText.{OneText}
use Rattle.rel_eval.specs.declared.told.OneText.TheVariants as one_text
use Rattle.rel_eval.specs.declared.told.Truth.{Truth}
use Rattle.rel_eval.specs.declared.told.Truth.TheVariants as truth
use Rattle.script_text.specs.declared.line.Line.{Line}
use Rattle.script_text.specs.declared.line.Line.TheVariants as line
use Rattle.script_text.specs.declared.prefetch.Prefetch.{Prefetch}
use Rattle.script_text.specs.declared.template.Part2.{Part2}
use Rattle.script_text.specs.declared.template.Part2.TheVariants.{Plain, Expression}
use Rattle.script_text.specs.declared.template.Template.{Template}
use Rattle.script_text.specs.Trees.{PlainStatement, act, choice, Statements, no_statements, more_statements, Arms, no_arms, more_arms}
use Rattle.script_text.specs.Scripts.{PlainScript}
use Rattle.script_run.specs.declared.cause.Cause.{Cause}
use Rattle.script_run.specs.declared.cause.Cause.TheVariants.{Relevance, NotContinued, Refused, MachineFault, ParameterTwice, WrongSize, WrongDigest, NotServed, BadDate}
use Rattle.script_run.specs.Walks.{Known, Settled, supplied, said, judged, acted, polled, Next, Fails, Walk, Rest, ending, failing, after_text, saying, after_truth, testing, pausing, after_act, acting, doing, with_exit, after_poll, polling, awaiting}
use Rattle.script_run.specs.LineWalks.{filling, filled, lining, ended, with_parameter, setting, timed, dated, line_walk, placing, after_supply, fetching}
use Rattle.script_run.specs.ScriptWalks.{walk, walk_all, walk_arms, fetch_all, script_walk}

-- it isn't a fault of the machine that comes before anything of its line
abbrev is_marked : Next → Bool
is_marked (Fails n false MachineFault) = false
is_marked _ = true

abbrev AreMarked : Walk → Type 0
AreMarked f = (settled : List Settled) → is_marked (f settled).next ≡ true

abbrev IsMarked : Rest → Type 0
IsMarked rest = (known : Known) → AreMarked (rest known)

failing_marked : (n : ℕ) (cause : Cause) → IsMarked (failing n true cause)
failing_marked n cause known settled = refl

never_marked : (n : ℕ) → IsMarked (failing n true MachineFault)
never_marked n = failing_marked n MachineFault

twice_marked : (n : ℕ) (midway : Bool) → IsMarked (failing n midway ParameterTwice)
twice_marked n true known settled = refl
twice_marked n false known settled = refl

dates_marked : (n : ℕ) (midway : Bool) → IsMarked (failing n midway BadDate)
dates_marked n true known settled = refl
dates_marked n false known settled = refl

-- ---- what is asked
after_text_marked : (n : ℕ) (rest : List ℕ → Rest) (answer : OneText) → ((text : List ℕ) → IsMarked (rest text)) → IsMarked (after_text n rest answer)
after_text_marked n rest (one_text.Text text) h = h text
after_text_marked n rest (one_text.Error kind place) h = failing_marked n (Relevance kind place)
after_text_marked n rest (one_text.Failed place) h = never_marked n
after_text_marked n rest one_text.Memory h = never_marked n

saying_marked : (n : ℕ) (midway : Bool) (e : List ℕ) (rest : List ℕ → Rest) → ((text : List ℕ) → IsMarked (rest text)) → IsMarked (saying n midway e rest)
saying_marked n midway e rest h known [] = refl
saying_marked n midway e rest h known (said answer ∷ more) = after_text_marked n rest answer h known more
saying_marked n midway e rest h known (_ ∷ more) = never_marked n known more

after_truth_marked : (n : ℕ) (met unmet : Rest) (answer : Truth) → IsMarked met → IsMarked unmet → IsMarked (after_truth n met unmet answer)
after_truth_marked n met unmet truth.True p q = p
after_truth_marked n met unmet truth.False p q = q
after_truth_marked n met unmet (truth.Error kind place) p q = failing_marked n (Relevance kind place)
after_truth_marked n met unmet (truth.Failed place) p q = never_marked n
after_truth_marked n met unmet truth.Memory p q = never_marked n

testing_marked : (n : ℕ) (test : List ℕ) (met unmet : Rest) → IsMarked met → IsMarked unmet → IsMarked (testing n test met unmet)
testing_marked n test met unmet p q known [] = refl
testing_marked n test met unmet p q known (judged answer ∷ more) = after_truth_marked n met unmet answer p q known more
testing_marked n test met unmet p q known (_ ∷ more) = never_marked n known more

pausing_marked : (n : ℕ) (test : List ℕ) (rest : Rest) → IsMarked rest → IsMarked (pausing n test rest)
pausing_marked n test rest h known [] = refl
pausing_marked n test rest h known (judged answer ∷ more) = after_truth_marked n (failing n true MachineFault) rest answer (never_marked n) h known more
pausing_marked n test rest h known (_ ∷ more) = never_marked n known more

-- ---- what is done
after_act_marked : (n : ℕ) (rest : Rest) (started : ℕ → Rest) (answer : Acted) → IsMarked rest → ((process : ℕ) → IsMarked (started process)) → IsMarked (after_act n rest started answer)
after_act_marked n rest started of_act.Done p q = p
after_act_marked n rest started (of_act.Started process) p q = q process.0
after_act_marked n rest started (of_act.Refused reason) p q = failing_marked n (Refused reason)
after_act_marked n rest started of_act.Failed p q = never_marked n
after_act_marked n rest started of_act.Memory p q = never_marked n

acting_marked : (n : ℕ) (midway : Bool) (c : Command) (rest : Rest) (started : ℕ → Rest) → IsMarked rest → ((process : ℕ) → IsMarked (started process)) → IsMarked (acting n midway c rest started)
acting_marked n midway c rest started p q known [] = refl
acting_marked n midway c rest started p q known (acted answer ∷ more) = after_act_marked n rest started answer p q known more
acting_marked n midway c rest started p q known (_ ∷ more) = never_marked n known more

doing_marked : (n : ℕ) (midway : Bool) (c : Command) (rest : Rest) → IsMarked rest → IsMarked (doing n midway c rest)
doing_marked n midway c rest h = acting_marked n midway c rest (λ process. rest) h (λ process. h)

after_poll_marked : (n : ℕ) (rest : Rest) (answer : Polled) → IsMarked rest → IsMarked (after_poll n rest answer)
after_poll_marked n rest (of_poll.Exited code) h = λ known. h (with_exit code known)
after_poll_marked n rest of_poll.Failed h = never_marked n
after_poll_marked n rest of_poll.Running h = never_marked n

polling_marked : (n process : ℕ) (rest : Rest) → IsMarked rest → IsMarked (polling n process rest)
polling_marked n process rest h known [] = refl
polling_marked n process rest h known (polled answer ∷ more) = after_poll_marked n rest answer h known more
polling_marked n process rest h known (_ ∷ more) = never_marked n known more

awaiting_marked : (n : ℕ) (midway : Bool) (c : Command) (rest : Rest) → IsMarked rest → IsMarked (awaiting n midway c rest)
awaiting_marked n midway c rest h = acting_marked n midway c rest (λ process. polling n process rest) h (λ process. polling_marked n process rest h)

-- ---- lines
filling_marked : (n : ℕ) (midway : Bool) (parts : List Part2) (text : List ℕ) (rest : Bool → List ℕ → Rest) → ((later : Bool) (more : List ℕ) → IsMarked (rest later more)) → IsMarked (filling n midway parts text rest)
filling_marked n midway [] text rest h = h midway text
filling_marked n midway (Plain plain ∷ parts) text rest h = filling_marked n midway parts (text ++ plain) rest h
filling_marked n midway (Expression e ∷ parts) text rest h = saying_marked n midway e (λ more. filling n true parts (text ++ more) rest) (λ more. filling_marked n true parts (text ++ more) rest h)

filled_marked : (n : ℕ) (midway : Bool) (template : Template) (rest : Bool → List ℕ → Rest) → ((later : Bool) (more : List ℕ) → IsMarked (rest later more)) → IsMarked (filled n midway template rest)
filled_marked n midway template rest h = filling_marked n midway template.parts [] rest h

lining_marked : (n : ℕ) (midway : Bool) (templates : List Template) (text : List ℕ) (rest : Bool → List ℕ → Rest) → ((later : Bool) (more : List ℕ) → IsMarked (rest later more)) → IsMarked (lining n midway templates text rest)
lining_marked n midway [] text rest h = h midway text
lining_marked n midway (template ∷ templates) text rest h =
    filling_marked n midway template.parts text (λ later more. lining n later templates (ended more) rest) (λ later more. lining_marked n later templates (ended more) rest h)

either_marked : (b : Bool) (f g : Walk) → AreMarked f → AreMarked g → AreMarked (if b then f else g)
either_marked true f g p q = p
either_marked false f g p q = q

setting_marked : (n : ℕ) (midway : Bool) (name value : List ℕ) (rest : Rest) → IsMarked rest → IsMarked (setting n midway name value rest)
setting_marked n midway name value rest h known =
    either_marked (is_some (value_of name known.parameters)) (failing n midway ParameterTwice known) (rest (with_parameter name value known)) (twice_marked n midway known) (h (with_parameter name value known))

timed_marked : (n : ℕ) (midway : Bool) (o : Option ℕ) (rest : ℤ → Rest) → ((moment : ℤ) → IsMarked (rest moment)) → IsMarked (timed n midway o rest)
timed_marked n midway None rest h = dates_marked n midway
timed_marked n midway (Some moment) rest h = h (pos moment)

dated_marked : (n : ℕ) (midway : Bool) (template : Template) (rest : Bool → ℤ → Rest) → ((later : Bool) (moment : ℤ) → IsMarked (rest later moment)) → IsMarked (dated n midway template rest)
dated_marked n midway template rest h =
    filled_marked n midway template (λ later text. timed n later (time_of text) (rest later)) (λ later text. timed_marked n later (time_of text) (rest later) (h later))

line_marked : (n : ℕ) (what : Line) (rest : Rest) → IsMarked rest → IsMarked (line_walk n what rest)
line_marked n (line.Parameter name value) rest h = filled_marked n false value _ (λ midway text. setting_marked n midway name text rest h)
line_marked n (line.ContinueIf test) rest h = testing_marked n test rest (failing n true NotContinued) h (failing_marked n NotContinued)
line_marked n (line.PauseWhile test) rest h = pausing_marked n test rest h
line_marked n (line.Create templates) rest h = lining_marked n false templates [] _ (λ midway text. doing_marked n midway _ rest h)
line_marked n (line.Append template) rest h = filled_marked n false template _ (λ midway text. doing_marked n midway _ rest h)
line_marked n (line.Delete path) rest h = filled_marked n false path _ (λ midway text. doing_marked n midway _ rest h)
line_marked n (line.Copy from to) rest h = filled_marked n false from _ (λ midway text. filled_marked n midway to _ (λ later more. doing_marked n later _ rest h))
line_marked n (line.Move from to) rest h = filled_marked n false from _ (λ midway text. filled_marked n midway to _ (λ later more. doing_marked n later _ rest h))
line_marked n (line.FolderCreate path) rest h = filled_marked n false path _ (λ midway text. doing_marked n midway _ rest h)
line_marked n (line.FolderDelete path) rest h = filled_marked n false path _ (λ midway text. doing_marked n midway _ rest h)
line_marked n (line.Run template) rest h = filled_marked n false template _ (λ midway text. doing_marked n midway _ rest h)
line_marked n (line.Wait template) rest h = filled_marked n false template _ (λ midway text. awaiting_marked n midway _ rest h)
line_marked n (line.RunHidden template) rest h = filled_marked n false template _ (λ midway text. doing_marked n midway _ rest h)
line_marked n (line.WaitHidden template) rest h = filled_marked n false template _ (λ midway text. awaiting_marked n midway _ rest h)
line_marked n (line.Setting name value date) rest h =
    filled_marked n false name _ (λ midway text. filled_marked n midway value _ (λ later more. dated_marked n later date _ (λ last moment. doing_marked n last _ rest h)))
line_marked n (line.SettingDelete name date) rest h = filled_marked n false name _ (λ midway text. dated_marked n midway date _ (λ last moment. doing_marked n last _ rest h))

one_marked : (b : Bool) (f g : Rest) → IsMarked f → IsMarked g → IsMarked (if b then f else g)
one_marked true f g p q = p
one_marked false f g p q = q

placing_marked : (fetch : Prefetch) (bytes : List ℕ) (rest : Rest) → IsMarked rest → IsMarked (placing fetch bytes rest)
placing_marked fetch bytes rest h =
    one_marked (length bytes == fetch.size) _ (failing fetch.line true (WrongSize fetch.size (length bytes)))
    (one_marked (bytes_eq (sha1 bytes) fetch.sha1) _ (failing fetch.line true (WrongDigest (encode_lower fetch.sha1) (encode_lower (sha1 bytes))))
    (one_marked (bytes_eq (sha256 bytes) fetch.sha256) (doing fetch.line false (command.Place fetch.name bytes) rest)
    (failing fetch.line true (WrongDigest (encode_lower fetch.sha256) (encode_lower (sha256 bytes))))
    (doing_marked fetch.line false (command.Place fetch.name bytes) rest h) (failing_marked fetch.line (WrongDigest (encode_lower fetch.sha256) (encode_lower (sha256 bytes)))))
    (failing_marked fetch.line (WrongDigest (encode_lower fetch.sha1) (encode_lower (sha1 bytes)))))
    (failing_marked fetch.line (WrongSize fetch.size (length bytes)))

after_supply_marked : (fetch : Prefetch) (rest : Rest) (bytes : Option (List ℕ)) → IsMarked rest → IsMarked (after_supply fetch rest bytes)
after_supply_marked fetch rest None h = failing_marked fetch.line (NotServed fetch.sha256)
after_supply_marked fetch rest (Some bytes) h = placing_marked fetch bytes rest h

fetching_marked : (fetch : Prefetch) (rest : Rest) → IsMarked rest → IsMarked (fetching fetch rest)
fetching_marked fetch rest h known [] = refl
fetching_marked fetch rest h known (supplied bytes ∷ more) = after_supply_marked fetch rest bytes h known more
fetching_marked fetch rest h known (_ ∷ more) = never_marked fetch.line known more

-- ---- scripts
mutual
  walk_marked : (statement : PlainStatement) (rest : Rest) → IsMarked rest → IsMarked (walk statement rest)
  walk_marked (act n what) rest h = line_marked n what rest h
  walk_marked (choice arms other) rest h = walk_arms_marked arms rest (walk_all other rest) h (walk_all_marked other rest h)

  walk_all_marked : (statements : Statements) (rest : Rest) → IsMarked rest → IsMarked (walk_all statements rest)
  walk_all_marked no_statements rest h = h
  walk_all_marked (more_statements statements last) rest h = walk_all_marked statements (walk last rest) (walk_marked last rest h)

  walk_arms_marked : (arms : Arms) (rest other : Rest) → IsMarked rest → IsMarked other → IsMarked (walk_arms arms rest other)
  walk_arms_marked no_arms rest other h o = o
  walk_arms_marked (more_arms arms n test body) rest other h o =
      walk_arms_marked arms rest (testing n test (walk_all body rest) other) h (testing_marked n test (walk_all body rest) other (walk_all_marked body rest h) o)

fetch_all_marked : (fetches : List Prefetch) (rest : Rest) → IsMarked rest → IsMarked (fetch_all fetches rest)
fetch_all_marked [] rest h = h
fetch_all_marked (fetch ∷ fetches) rest h = fetching_marked fetch (fetch_all fetches rest) (fetch_all_marked fetches rest h)

ending_marked : IsMarked ending
ending_marked known settled = refl

fails_marked : (next : Next) (n : ℕ) (midway : Bool) → is_marked next ≡ true → next ≡ Fails n midway MachineFault → midway ≡ true
fails_marked next n true marked is = refl
fails_marked next n false marked is = let both : true ≡ false = sym marked ∙ ap is_marked is in absurd (cc)

-- where a fault of the machine comes next in a script, it is midway
pub script_marked : (script : PlainScript) (known : Known) (settled : List Settled) (n : ℕ) (midway : Bool) → (script_walk script known settled).next ≡ Fails n midway MachineFault → midway ≡ true
script_marked script known settled n midway is =
    fails_marked (script_walk script known settled).next n midway
    (fetch_all_marked script.prefetches (walk_all script.statements ending) (walk_all_marked script.statements ending ending_marked) known settled) is

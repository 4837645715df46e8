-- A script wants no more files than it has prefetch lines.
use Rattle.std.proofs.Common.{ℕ, suc, ◌+◌, ◌≤◌, ℤ, pos, Bool, true, false, if◌then◌else◌, List, [], ◌∷◌, ◌++◌, length, Option, Some, None, arith}
use Rattle.rel_eval.specs.declared.told.OneText.{OneText}
use Rattle.rel_eval.specs.declared.told.OneText.TheVariants as one_text
use Rattle.rel_eval.specs.declared.told.Truth.{Truth}
use Rattle.rel_eval.specs.declared.told.Truth.TheVariants as truth
use Rattle.bf_world.specs.declared.command.Command.{Command}
use Rattle.bf_world.specs.declared.command.Acted.{Acted}
use Rattle.bf_world.specs.declared.command.Acted.TheVariants as of_act
use Rattle.bf_world.specs.declared.command.Polled.{Polled}
use Rattle.bf_world.specs.declared.command.Polled.TheVariants as of_poll
use Rattle.script_text.specs.declared.line.Line.{Line}
use Rattle.script_text.specs.declared.line.Line.TheVariants as line
use Rattle.script_text.specs.declared.prefetch.Prefetch.{Prefetch}
use Rattle.script_text.specs.declared.template.Part2.{Part2}
use Rattle.script_text.specs.declared.template.Part2.TheVariants.{Plain, Expression}
use Rattle.script_text.specs.declared.template.Template.{Template}
use Rattle.script_text.specs.Trees.{PlainStatement, act, choice, Statements, no_statements, more_statements, Arms, no_arms, more_arms}
use Rattle.script_text.specs.Scripts.{PlainScript}
use Rattle.script_run.specs.declared.cause.Cause.{Cause}
use Rattle.script_run.specs.declared.cause.Cause.TheVariants.{MachineFault}
use Rattle.script_run.specs.Walks.{Known, supplied, said, judged, acted, polled, Walk, Rest, ending, failing, after_text, saying, after_truth, testing, pausing, after_act, acting, doing, with_exit, after_poll, polling, awaiting}
use Rattle.script_run.specs.LineWalks.{filling, filled, lining, ended, setting, timed, dated, line_walk, placing, after_supply, fetching}
use Rattle.script_run.specs.ScriptWalks.{walk, walk_all, walk_arms, fetch_all, script_walk}
use Rattle.agent_core.specs.Wants.{WantsAtMost}

-- whatever is known, no more files than so many are wanted
abbrev pub Few : ℕ → Rest → Type 0
Few most rest = (known : Known) → WantsAtMost (rest known) most

-- a result without a file adds none
behind : {count most : ℕ} → count ≤ most → 0 + count ≤ most
behind le = omega (arith, le)

pub ending_few : (most : ℕ) → Few most ending
ending_few most known [] = omega arith
ending_few most known (result ∷ results) = behind (ending_few most known results)

pub failing_few : (most n : ℕ) (midway : Bool) (cause : Cause) → Few most (failing n midway cause)
failing_few most n midway cause known [] = omega arith
failing_few most n midway cause known (result ∷ results) = behind (failing_few most n midway cause known results)

-- ---- what is asked
after_text_few : (most n : ℕ) (rest : List ℕ → Rest) (answer : OneText) → ((text : List ℕ) → Few most (rest text)) → Few most (after_text n rest answer)
after_text_few most n rest (one_text.Text text) few = few text
after_text_few most n rest (one_text.Error kind place) few = failing_few most n true _
after_text_few most n rest (one_text.Failed place) few = failing_few most n true _
after_text_few most n rest one_text.Memory few = failing_few most n true _

saying_few : (most n : ℕ) (midway : Bool) (e : List ℕ) (rest : List ℕ → Rest) → ((text : List ℕ) → Few most (rest text)) → Few most (saying n midway e rest)
saying_few most n midway e rest few known [] = omega arith
saying_few most n midway e rest few known (said answer ∷ results) = behind (after_text_few most n rest answer few known results)
saying_few most n midway e rest few known (_ ∷ results) = behind (failing_few most n true MachineFault known results)

after_truth_few : (most n : ℕ) (met unmet : Rest) (answer : Truth) → Few most met → Few most unmet → Few most (after_truth n met unmet answer)
after_truth_few most n met unmet truth.True p q = p
after_truth_few most n met unmet truth.False p q = q
after_truth_few most n met unmet (truth.Error kind place) p q = failing_few most n true _
after_truth_few most n met unmet (truth.Failed place) p q = failing_few most n true _
after_truth_few most n met unmet truth.Memory p q = failing_few most n true _

pub testing_few : (most n : ℕ) (test : List ℕ) (met unmet : Rest) → Few most met → Few most unmet → Few most (testing n test met unmet)
testing_few most n test met unmet p q known [] = omega arith
testing_few most n test met unmet p q known (judged answer ∷ results) = behind (after_truth_few most n met unmet answer p q known results)
testing_few most n test met unmet p q known (_ ∷ results) = behind (failing_few most n true MachineFault known results)

pausing_few : (most n : ℕ) (test : List ℕ) (rest : Rest) → Few most rest → Few most (pausing n test rest)
pausing_few most n test rest few known [] = omega arith
pausing_few most n test rest few known (judged answer ∷ results) = behind (after_truth_few most n (failing n true MachineFault) rest answer (failing_few most n true MachineFault) few known results)
pausing_few most n test rest few known (_ ∷ results) = behind (failing_few most n true MachineFault known results)

-- ---- what is done
after_act_few : (most n : ℕ) (rest : Rest) (started : ℕ → Rest) (answer : Acted) → Few most rest → ((process : ℕ) → Few most (started process)) → Few most (after_act n rest started answer)
after_act_few most n rest started of_act.Done p q = p
after_act_few most n rest started (of_act.Started process) p q = q process.0
after_act_few most n rest started (of_act.Refused reason) p q = failing_few most n true _
after_act_few most n rest started of_act.Failed p q = failing_few most n true _
after_act_few most n rest started of_act.Memory p q = failing_few most n true _

acting_few : (most n : ℕ) (midway : Bool) (c : Command) (rest : Rest) (started : ℕ → Rest) → Few most rest → ((process : ℕ) → Few most (started process)) → Few most (acting n midway c rest started)
acting_few most n midway c rest started p q known [] = omega arith
acting_few most n midway c rest started p q known (acted answer ∷ results) = behind (after_act_few most n rest started answer p q known results)
acting_few most n midway c rest started p q known (_ ∷ results) = behind (failing_few most n true MachineFault known results)

pub doing_few : (most n : ℕ) (midway : Bool) (c : Command) (rest : Rest) → Few most rest → Few most (doing n midway c rest)
doing_few most n midway c rest few = acting_few most n midway c rest (λ process. rest) few (λ process. few)

after_poll_few : (most n : ℕ) (rest : Rest) (answer : Polled) → Few most rest → Few most (after_poll n rest answer)
after_poll_few most n rest (of_poll.Exited code) few = λ known. few (with_exit code known)
after_poll_few most n rest of_poll.Failed few = failing_few most n true _
after_poll_few most n rest of_poll.Running few = failing_few most n true _

pub polling_few : (most n process : ℕ) (rest : Rest) → Few most rest → Few most (polling n process rest)
polling_few most n process rest few known [] = omega arith
polling_few most n process rest few known (polled answer ∷ results) = behind (after_poll_few most n rest answer few known results)
polling_few most n process rest few known (_ ∷ results) = behind (failing_few most n true MachineFault known results)

awaiting_few : (most n : ℕ) (midway : Bool) (c : Command) (rest : Rest) → Few most rest → Few most (awaiting n midway c rest)
awaiting_few most n midway c rest few = acting_few most n midway c rest (λ process. polling n process rest) few (λ process. polling_few most n process rest few)

-- ---- lines
filling_few : (most n : ℕ) (midway : Bool) (parts : List Part2) (text : List ℕ) (rest : Bool → List ℕ → Rest) → ((later : Bool) (more : List ℕ) → Few most (rest later more)) → Few most (filling n midway parts text rest)
filling_few most n midway [] text rest few = few midway text
filling_few most n midway (Plain plain ∷ parts) text rest few = filling_few most n midway parts (text ++ plain) rest few
filling_few most n midway (Expression e ∷ parts) text rest few =
    saying_few most n midway e (λ more. filling n true parts (text ++ more) rest) (λ more. filling_few most n true parts (text ++ more) rest few)

filled_few : (most n : ℕ) (midway : Bool) (template : Template) (rest : Bool → List ℕ → Rest) → ((later : Bool) (more : List ℕ) → Few most (rest later more)) → Few most (filled n midway template rest)
filled_few most n midway template rest few = filling_few most n midway template.parts [] rest few

lining_few : (most n : ℕ) (midway : Bool) (templates : List Template) (text : List ℕ) (rest : Bool → List ℕ → Rest) → ((later : Bool) (more : List ℕ) → Few most (rest later more)) → Few most (lining n midway templates text rest)
lining_few most n midway [] text rest few = few midway text
lining_few most n midway (template ∷ templates) text rest few =
    filling_few most n midway template.parts text (λ later more. lining n later templates (ended more) rest) (λ later more. lining_few most n later templates (ended more) rest few)

either_few : (most : ℕ) (b : Bool) (f g : Walk) → WantsAtMost f most → WantsAtMost g most → WantsAtMost (if b then f else g) most
either_few most true f g p q = p
either_few most false f g p q = q

setting_few : (most n : ℕ) (midway : Bool) (name value : List ℕ) (rest : Rest) → Few most rest → Few most (setting n midway name value rest)
setting_few most n midway name value rest few known = either_few most _ _ _ (failing_few most n midway _ known) (few _)

timed_few : (most n : ℕ) (midway : Bool) (o : Option ℕ) (rest : ℤ → Rest) → ((moment : ℤ) → Few most (rest moment)) → Few most (timed n midway o rest)
timed_few most n midway None rest few = failing_few most n midway _
timed_few most n midway (Some moment) rest few = few (pos moment)

dated_few : (most n : ℕ) (midway : Bool) (template : Template) (rest : Bool → ℤ → Rest) → ((later : Bool) (moment : ℤ) → Few most (rest later moment)) → Few most (dated n midway template rest)
dated_few most n midway template rest few = filled_few most n midway template _ (λ later text. timed_few most n later _ (rest later) (few later))

pub line_few : (most n : ℕ) (what : Line) (rest : Rest) → Few most rest → Few most (line_walk n what rest)
line_few most n (line.Parameter name value) rest few = filled_few most n false value _ (λ midway text. setting_few most n midway name text rest few)
line_few most n (line.ContinueIf test) rest few = testing_few most n test rest _ few (failing_few most n true _)
line_few most n (line.PauseWhile test) rest few = pausing_few most n test rest few
line_few most n (line.Create templates) rest few = lining_few most n false templates [] _ (λ midway text. doing_few most n midway _ rest few)
line_few most n (line.Append template) rest few = filled_few most n false template _ (λ midway text. doing_few most n midway _ rest few)
line_few most n (line.Delete path) rest few = filled_few most n false path _ (λ midway text. doing_few most n midway _ rest few)
line_few most n (line.Copy from to) rest few = filled_few most n false from _ (λ midway text. filled_few most n midway to _ (λ later more. doing_few most n later _ rest few))
line_few most n (line.Move from to) rest few = filled_few most n false from _ (λ midway text. filled_few most n midway to _ (λ later more. doing_few most n later _ rest few))
line_few most n (line.FolderCreate path) rest few = filled_few most n false path _ (λ midway text. doing_few most n midway _ rest few)
line_few most n (line.FolderDelete path) rest few = filled_few most n false path _ (λ midway text. doing_few most n midway _ rest few)
line_few most n (line.Run template) rest few = filled_few most n false template _ (λ midway text. doing_few most n midway _ rest few)
line_few most n (line.Wait template) rest few = filled_few most n false template _ (λ midway text. awaiting_few most n midway _ rest few)
line_few most n (line.RunHidden template) rest few = filled_few most n false template _ (λ midway text. doing_few most n midway _ rest few)
line_few most n (line.WaitHidden template) rest few = filled_few most n false template _ (λ midway text. awaiting_few most n midway _ rest few)
line_few most n (line.Setting name value date) rest few =
    filled_few most n false name _ (λ midway text. filled_few most n midway value _ (λ later more. dated_few most n later date _ (λ last moment. doing_few most n last _ rest few)))
line_few most n (line.SettingDelete name date) rest few = filled_few most n false name _ (λ midway text. dated_few most n midway date _ (λ last moment. doing_few most n last _ rest few))

-- ---- scripts
mutual
  pub walk_few : (most : ℕ) (statement : PlainStatement) (rest : Rest) → Few most rest → Few most (walk statement rest)
  walk_few most (act n what) rest few = line_few most n what rest few
  walk_few most (choice arms other) rest few = walk_arms_few most arms rest (walk_all other rest) few (walk_all_few most other rest few)

  pub walk_all_few : (most : ℕ) (statements : Statements) (rest : Rest) → Few most rest → Few most (walk_all statements rest)
  walk_all_few most no_statements rest few = few
  walk_all_few most (more_statements statements last) rest few = walk_all_few most statements (walk last rest) (walk_few most last rest few)

  walk_arms_few : (most : ℕ) (arms : Arms) (rest other : Rest) → Few most rest → Few most other → Few most (walk_arms arms rest other)
  walk_arms_few most no_arms rest other few o = o
  walk_arms_few most (more_arms arms n test body) rest other few o =
      walk_arms_few most arms rest (testing n test (walk_all body rest) other) few (testing_few most n test (walk_all body rest) other (walk_all_few most body rest few) o)

either_rest : (most : ℕ) (b : Bool) (f g : Rest) → Few most f → Few most g → Few most (if b then f else g)
either_rest most true f g p q = p
either_rest most false f g p q = q

pub placing_few : (most : ℕ) (fetch : Prefetch) (bytes : List ℕ) (rest : Rest) → Few most rest → Few most (placing fetch bytes rest)
placing_few most fetch bytes rest few = search (either_rest, doing_few, failing_few, few)

after_supply_few : (most : ℕ) (fetch : Prefetch) (rest : Rest) (bytes : Option (List ℕ)) → Few most rest → Few most (after_supply fetch rest bytes)
after_supply_few most fetch rest None few = failing_few most fetch.line true _
after_supply_few most fetch rest (Some bytes) few = placing_few most fetch bytes rest few

-- one more is wanted by a prefetch line
pub fetching_few : (most : ℕ) (fetch : Prefetch) (rest : Rest) → Few most rest → Few (suc most) (fetching fetch rest)
fetching_few most fetch rest few known [] = omega arith
fetching_few most fetch rest few known (supplied bytes ∷ results) = let later = after_supply_few most fetch rest bytes few known results in omega (arith, later)
fetching_few most fetch rest few known (_ ∷ results) = let later = failing_few most fetch.line true MachineFault known results in omega (arith, later)

fetch_all_few : (fetches : List Prefetch) (rest : Rest) → Few 0 rest → Few (length fetches) (fetch_all fetches rest)
fetch_all_few [] rest few = few
fetch_all_few (fetch ∷ fetches) rest few = fetching_few (length fetches) fetch (fetch_all fetches rest) (fetch_all_few fetches rest few)

pub script_few : (script : PlainScript) (known : Known) → WantsAtMost (script_walk script known) (length script.prefetches)
script_few script known = fetch_all_few script.prefetches (walk_all script.statements ending) (walk_all_few 0 script.statements ending (ending_few 0)) known

-- From a place before a line nothing of the line that comes next is settled, and no result has failed it. Other crates may cite these lemmas.
use Rattle.std.proofs.Common.{◌≡◌, ◌==◌, ℕ, ℤ, pos, Bool, true, false, if◌then◌else◌, is_some, List, [], ◌∷◌, ◌++◌, length, Option, Some, None, refl, subst, arith}
use Rattle.std.proofs.lemmas.Bool.Decides.{nat_tests}
use Rattle.std.specs.Str.{bytes_eq}
use Rattle.hex.specs.Hex.{encode_lower}
use Rattle.sha1.specs.Sha1.{sha1}
use Rattle.sha2.specs.Sha256.{sha256}
use Rattle.rel_value.specs.TimesRead.{time_of}
use Rattle.bf_world.specs.declared.command.Command.TheVariants as command
use Rattle.rel_sources.specs.Scenes.{value_of}
use Rattle.script_text.specs.declared.line.Line.{Line}
use Rattle.script_text.specs.declared.line.Line.TheVariants as line
use Rattle.script_text.specs.declared.prefetch.Prefetch.{Prefetch}
use Rattle.script_text.specs.declared.template.Part2.{Part2}
use Rattle.script_text.specs.declared.template.Part2.TheVariants.{Plain, Expression}
use Rattle.script_text.specs.declared.template.Template.{Template}
use Rattle.script_text.specs.declared.tree.Statement.{Statement}
use Rattle.script_text.specs.declared.tree.Arm.{Arm}
use Rattle.script_text.specs.Trees.{PlainStatement, act, choice, Statements, no_statements, more_statements, Arms, no_arms, more_arms}
use Rattle.script_text.specs.Views.{shown_statement, shown_statements}
use Rattle.script_run.specs.declared.cause.Cause.{Cause}
use Rattle.script_run.specs.declared.cause.Cause.TheVariants.{ParameterTwice, WrongSize, WrongDigest}
use Rattle.script_run.specs.declared.place.Place.{Place}
use Rattle.script_run.specs.declared.place.Place.TheVariants.{Ready, Wanting, Supplied, Placing, Doing, Waiting, Testing, Asking, Done, Failed}
use Rattle.script_run.specs.declared.todo.Todo.{Todo}
use Rattle.script_run.specs.declared.todo.Todo.TheVariants.{Fetches, Statements as StatementsLeft}
use Rattle.script_run.specs.declared.run.Run.{Run}
use Rattle.script_run.specs.Causes.{HasTexts}
use Rattle.script_run.specs.Walks.{Known, Next, Does, Fails, is_midway, Rest, failing, testing, doing}
use Rattle.script_run.specs.LineWalks.{filling, filled, lining, ended, with_parameter, setting, timed, dated, line_walk, placing}
use Rattle.script_run.specs.ScriptWalks.{walk, walk_all, walk_arms, fetch_all}
use Rattle.script_run.specs.Asking.{known_in}
use Rattle.script_run.specs.RunPlaces.{statements_walk, arms_walk, todo_walk, todos_walk, place_walk, around, from, IsBeforeLine}

-- nothing of what comes next is settled, and no result has failed it
abbrev pub IsFresh : Rest → Type 0
IsFresh rest = (known : Known) → is_midway (rest known []).next ≡ false

-- ---- lines

one_fresh : (b : Bool) (f g : Rest) (known : Known) → is_midway (f known []).next ≡ false → is_midway (g known []).next ≡ false →
    is_midway ((if b then f known else g known) []).next ≡ false
one_fresh true f g known p q = p
one_fresh false f g known p q = q

filling_fresh : (n : ℕ) (parts : List Part2) (text : List ℕ) (rest : Bool → List ℕ → Rest) → ((more : List ℕ) → IsFresh (rest false more)) →
    IsFresh (filling n false parts text rest)
filling_fresh n [] text rest fresh = fresh text
filling_fresh n (Plain plain ∷ parts) text rest fresh = filling_fresh n parts (text ++ plain) rest fresh
filling_fresh n (Expression expression ∷ parts) text rest fresh = λ known. refl

lining_fresh : (n : ℕ) (templates : List Template) (text : List ℕ) (rest : Bool → List ℕ → Rest) → ((more : List ℕ) → IsFresh (rest false more)) →
    IsFresh (lining n false templates text rest)
lining_fresh n [] text rest fresh = fresh text
lining_fresh n (template ∷ templates) text rest fresh =
    filling_fresh n template.parts text (λ midway more. lining n midway templates (ended more) rest) (λ more. lining_fresh n templates (ended more) rest fresh)

filled_fresh : (n : ℕ) (template : Template) (rest : Bool → List ℕ → Rest) → ((more : List ℕ) → IsFresh (rest false more)) → IsFresh (filled n false template rest)
filled_fresh n template rest fresh = filling_fresh n template.parts [] rest fresh

setting_fresh : (n : ℕ) (name value : List ℕ) (rest : Rest) → IsFresh rest → IsFresh (setting n false name value rest)
setting_fresh n name value rest fresh known =
    one_fresh (is_some (value_of name known.parameters)) (failing n false ParameterTwice) (λ before. rest (with_parameter name value before)) known refl (fresh (with_parameter name value known))

timed_fresh : (n : ℕ) (o : Option ℕ) (rest : ℤ → Rest) → ((moment : ℤ) → IsFresh (rest moment)) → IsFresh (timed n false o rest)
timed_fresh n None rest fresh = λ known. refl
timed_fresh n (Some moment) rest fresh = fresh (pos moment)

dated_fresh : (n : ℕ) (template : Template) (rest : Bool → ℤ → Rest) → ((moment : ℤ) → IsFresh (rest false moment)) → IsFresh (dated n false template rest)
dated_fresh n template rest fresh =
    filled_fresh n template (λ midway text. timed n midway (time_of text) (rest midway)) (λ text. timed_fresh n (time_of text) (rest false) fresh)

line_fresh : (n : ℕ) (what : Line) (rest : Rest) → IsFresh rest → IsFresh (line_walk n what rest)
line_fresh n (line.Parameter name value) rest fresh = filled_fresh n value _ (λ text. setting_fresh n name text rest fresh)
line_fresh n (line.ContinueIf test) rest fresh = λ known. refl
line_fresh n (line.PauseWhile test) rest fresh = λ known. refl
line_fresh n (line.Create templates) rest fresh = lining_fresh n templates [] _ (λ text known. refl)
line_fresh n (line.Append template) rest fresh = filled_fresh n template _ (λ text known. refl)
line_fresh n (line.Delete path) rest fresh = filled_fresh n path _ (λ text known. refl)
line_fresh n (line.Copy from to) rest fresh = filled_fresh n from _ (λ text. filled_fresh n to _ (λ more known. refl))
line_fresh n (line.Move from to) rest fresh = filled_fresh n from _ (λ text. filled_fresh n to _ (λ more known. refl))
line_fresh n (line.FolderCreate path) rest fresh = filled_fresh n path _ (λ text known. refl)
line_fresh n (line.FolderDelete path) rest fresh = filled_fresh n path _ (λ text known. refl)
line_fresh n (line.Run command) rest fresh = filled_fresh n command _ (λ text known. refl)
line_fresh n (line.Wait command) rest fresh = filled_fresh n command _ (λ text known. refl)
line_fresh n (line.RunHidden command) rest fresh = filled_fresh n command _ (λ text known. refl)
line_fresh n (line.WaitHidden command) rest fresh = filled_fresh n command _ (λ text known. refl)
line_fresh n (line.Setting name value date) rest fresh =
    filled_fresh n name _ (λ text. filled_fresh n value _ (λ more. dated_fresh n date _ (λ moment known. refl)))
line_fresh n (line.SettingDelete name date) rest fresh = filled_fresh n name _ (λ text. dated_fresh n date _ (λ moment known. refl))

either_next : (P : Next → Type 0) (b : Bool) (f g : Rest) (known : Known) → (b ≡ true → P (f known []).next) → (b ≡ false → P (g known []).next) → P ((if b then f else g) known []).next
either_next P true f g known p q = p refl
either_next P false f g known p q = q refl

-- what comes next of bytes that came: they are placed, or their size or a digest is wrong
pub placing_next : (P : Next → Type 0) (fetch : Prefetch) (bytes : List ℕ) (rest : Rest) (known : Known) → P (Does fetch.line false (command.Place fetch.name bytes)) →
    (length bytes == fetch.size ≡ false → P (Fails fetch.line true (WrongSize fetch.size (length bytes)))) → ((stated found : List ℕ) → P (Fails fetch.line true (WrongDigest stated found))) →
    P (placing fetch bytes rest known []).next
placing_next P fetch bytes rest known placed long wrong =
    either_next P (length bytes == fetch.size) _ (failing fetch.line true (WrongSize fetch.size (length bytes))) known
    (λ sized. either_next P (bytes_eq (sha1 bytes) fetch.sha1) _ (failing fetch.line true (WrongDigest (encode_lower fetch.sha1) (encode_lower (sha1 bytes)))) known
    (λ first. either_next P (bytes_eq (sha256 bytes) fetch.sha256) (doing fetch.line false (command.Place fetch.name bytes) rest)
    (failing fetch.line true (WrongDigest (encode_lower fetch.sha256) (encode_lower (sha256 bytes)))) known
    (λ second. placed) (λ second. wrong (encode_lower fetch.sha256) (encode_lower (sha256 bytes))))
    (λ first. wrong (encode_lower fetch.sha1) (encode_lower (sha1 bytes))))
    long

placing_fresh : (fetch : Prefetch) (bytes : List ℕ) (rest : Rest) → length bytes ≡ fetch.size → IsFresh (placing fetch bytes rest)
placing_fresh fetch bytes rest sized known =
    placing_next (λ next. is_midway next ≡ false) fetch bytes rest known refl (λ other. absurd (differ fetch.size (subst (λ n. n == fetch.size ≡ false) sized other))) (λ stated found. refl)
  where
    differ : (n : ℕ) → n == n ≡ false → ⊥
    differ n e = grind (arith, nat_tests, e)

-- ---- statements

mutual
  walk_fresh : (statement : PlainStatement) (rest : Rest) → IsFresh rest → IsFresh (walk statement rest)
  walk_fresh (act n what) rest fresh = line_fresh n what rest fresh
  walk_fresh (choice arms other) rest fresh = walk_arms_fresh arms rest (walk_all other rest) (walk_all_fresh other rest fresh)

  walk_all_fresh : (statements : Statements) (rest : Rest) → IsFresh rest → IsFresh (walk_all statements rest)
  walk_all_fresh no_statements rest fresh = fresh
  walk_all_fresh (more_statements statements last) rest fresh = walk_all_fresh statements (walk last rest) (walk_fresh last rest fresh)

  walk_arms_fresh : (arms : Arms) (rest other : Rest) → IsFresh other → IsFresh (walk_arms arms rest other)
  walk_arms_fresh no_arms rest other fresh = fresh
  walk_arms_fresh (more_arms arms n test body) rest other fresh =
      walk_arms_fresh arms rest (testing n test (walk_all body rest) other) (λ known. refl)

statements_fresh : (statements : List Statement) (rest : Rest) → IsFresh rest → IsFresh (statements_walk statements rest)
statements_fresh [] rest fresh = fresh
statements_fresh (statement ∷ statements) rest fresh = walk_fresh (shown_statement statement) (statements_walk statements rest) (statements_fresh statements rest fresh)

arms_fresh : (arms : List Arm) (rest other : Rest) → IsFresh other → IsFresh (arms_walk arms rest other)
arms_fresh [] rest other fresh = fresh
arms_fresh (arm ∷ arms) rest other fresh = λ known. refl

fetch_all_fresh : (fetches : List Prefetch) (rest : Rest) → IsFresh rest → IsFresh (fetch_all fetches rest)
fetch_all_fresh [] rest fresh = fresh
fetch_all_fresh (fetch ∷ fetches) rest fresh = λ known. refl

-- ---- what is left of a run

todo_fresh : (todo : Todo) (rest : Rest) → IsFresh rest → IsFresh (todo_walk todo rest)
todo_fresh (Fetches list) rest fresh = fetch_all_fresh list.items rest fresh
todo_fresh (StatementsLeft list) rest fresh = statements_fresh list.items rest fresh

todos_fresh : (todos : List Todo) → IsFresh (todos_walk todos)
todos_fresh [] = λ known. refl
todos_fresh (todo ∷ todos) = todo_fresh todo (todos_walk todos) (todos_fresh todos)

texts_fresh : (n : ℕ) (midway : Bool) (cause : Cause) → HasTexts cause → is_midway (Fails n midway cause) ≡ false
texts_fresh n midway (WrongDigest stated found) texts = refl
texts_fresh n midway cause texts = absurd texts

place_fresh : (place : Place) (rest : Rest) → IsFresh rest → IsBeforeLine place → IsFresh (place_walk place rest)
place_fresh Ready rest fresh before = fresh
place_fresh (Wanting fetch) rest fresh before = λ known. refl
place_fresh (Supplied fetch bytes) rest fresh sized = placing_fresh fetch bytes rest sized
place_fresh (Placing n name bytes) rest fresh before = λ known. refl
place_fresh (Doing n what) rest fresh before = line_fresh n what rest fresh
place_fresh (Waiting n process) rest fresh before = absurd before
place_fresh (Testing arms other) rest fresh before = arms_fresh arms.items rest (walk_all (shown_statements other) rest) (walk_all_fresh (shown_statements other) rest fresh)
place_fresh (Asking arm arms other) rest fresh before = λ known. refl
place_fresh Done rest fresh before = λ known. refl
place_fresh (Failed n midway cause) rest fresh texts = λ known. texts_fresh n midway cause texts

-- From a place before a line nothing of what comes next is settled.
pub fresh_from : (run : Run) → IsBeforeLine run.place → is_midway (from run []).next ≡ false
fresh_from run before = place_fresh run.place (around run) (todo_fresh run.current (todos_walk run.later.items) (todos_fresh run.later.items)) before (known_in run.kept.scene)

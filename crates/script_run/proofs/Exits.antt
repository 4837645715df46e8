-- The exit code that a run knows is that of its script.
use Rattle.std.proofs.Common.{◌≡◌, ℕ, ℤ, pos, Bool, true, false, cond, List, [], ◌∷◌, ◌++◌, append-nil, Option, Some, None, refl, sym, ap, ◌∙◌}
use Rattle.std.specs.Prelude.{is_some, length, ◌==◌, codes}
use Rattle.std.specs.Str.{bytes_eq}
use Rattle.hex.specs.Hex.{encode_lower}
use Rattle.sha1.specs.Sha1.{sha1}
use Rattle.sha2.specs.Sha256.{sha256}
use Rattle.rel_value.specs.TimesRead.{time_of}
use Rattle.bf_world.specs.declared.command.Command.TheVariants.{Write, Append, Delete, Copy, Move, MakeFolder, DropFolder, Start, Put, Drop, Place as PlaceFile}
use Rattle.rel_sources.specs.declared.pair.Pair.{Pair}
use Rattle.rel_sources.specs.Scenes.{value_of}
use Rattle.script_text.specs.declared.line.Line.{Line}
use Rattle.script_text.specs.declared.line.Line.TheVariants as line
use Rattle.script_text.specs.declared.prefetch.Prefetch.{Prefetch}
use Rattle.script_text.specs.declared.template.Part2.{Part2}
use Rattle.script_text.specs.declared.template.Part2.TheVariants.{Plain, Expression}
use Rattle.script_text.specs.declared.template.Template.{Template}
use Rattle.script_text.specs.declared.tree.Statement.{Statement}
use Rattle.script_text.specs.declared.tree.Arm.{Arm}
use Rattle.script_text.specs.Trees.{PlainStatement, act, choice, Statements, no_statements, more_statements, Arms, no_arms, more_arms}
use Rattle.script_text.specs.Views.{shown_statement, shown_statements}
use Rattle.script_text.specs.Scripts.{PlainScript}
use Rattle.script_run.specs.declared.cause.Cause.TheVariants.{ParameterTwice, WrongSize, WrongDigest}
use Rattle.script_run.specs.declared.place.Place.{Place}
use Rattle.script_run.specs.declared.place.Place.TheVariants.{Ready, Wanting, Supplied, Placing, Doing, Waiting, Testing, Asking, Done, Failed}
use Rattle.script_run.specs.declared.todo.Todo.{Todo}
use Rattle.script_run.specs.declared.todo.Todo.TheVariants.{Fetches, Statements as statements_left}
use Rattle.script_run.specs.declared.run.Run.{Run}
use Rattle.script_run.specs.Walks.{Known, Settled, Stop, Walk, Rest, failing, testing, doing, awaiting}
use Rattle.script_run.specs.LineWalks.{filling, filled, ended, lining, with_parameter, setting, timed, dated, line_walk, placing}
use Rattle.script_run.specs.ScriptWalks.{walk, walk_all, walk_arms, fetch_all, standing, exit_after}
use Rattle.script_run.specs.RunPlaces.{statements_walk, arms_walk, todo_walk, todos_walk, place_walk, around, from, Stands}
use Rattle.script_run.specs.Asking.{known_in}

-- until the next result comes, the exit code stays
abbrev pub KeepsExit : Rest → Type 0
KeepsExit rest = (known : Known) → (rest known []).known.exit ≡ known.exit

-- of two by a test
keeps_if : (b : Bool) (x y : Rest) → KeepsExit x → KeepsExit y → KeepsExit (cond b x y)
keeps_if true x y h k = h
keeps_if false x y h k = k

keeps_either : (b : Bool) (x y : Walk) (exit : Option ℤ) → (x []).known.exit ≡ exit → (y []).known.exit ≡ exit → (cond b x y []).known.exit ≡ exit
keeps_either true x y exit h k = h
keeps_either false x y exit h k = k

-- ---- lines
keeps_filling : (n : ℕ) (midway : Bool) (parts : List Part2) (text : List ℕ) (rest : Bool → List ℕ → Rest) → ((later : Bool) (more : List ℕ) → KeepsExit (rest later more)) →
    KeepsExit (filling n midway parts text rest)
keeps_filling n midway [] text rest h = h midway text
keeps_filling n midway (Plain plain ∷ parts) text rest h = keeps_filling n midway parts (text ++ plain) rest h
keeps_filling n midway (Expression expression ∷ parts) text rest h = λ known. refl

-- a template is asked
keeps_one : (n : ℕ) (midway : Bool) (template : Template) (rest : Bool → List ℕ → Rest) → ((later : Bool) (more : List ℕ) → KeepsExit (rest later more)) → KeepsExit (filled n midway template rest)
keeps_one n midway template rest h = keeps_filling n midway template.parts [] rest h

keeps_lining : (n : ℕ) (midway : Bool) (templates : List Template) (text : List ℕ) (rest : Bool → List ℕ → Rest) → ((later : Bool) (more : List ℕ) → KeepsExit (rest later more)) →
    KeepsExit (lining n midway templates text rest)
keeps_lining n midway [] text rest h = h midway text
keeps_lining n midway (template ∷ templates) text rest h =
    keeps_filling n midway template.parts text (λ later more. lining n later templates (ended more) rest) (λ later more. keeps_lining n later templates (ended more) rest h)

keeps_setting : (n : ℕ) (midway : Bool) (name value : List ℕ) (rest : Rest) → KeepsExit rest → KeepsExit (setting n midway name value rest)
keeps_setting n midway name value rest h = λ known.
    keeps_either (is_some (value_of name known.parameters)) (failing n midway ParameterTwice known) (rest (with_parameter name value known)) known.exit refl (h (with_parameter name value known))

keeps_timed : (n : ℕ) (midway : Bool) (moment : Option ℕ) (rest : ℤ → Rest) → ((at : ℤ) → KeepsExit (rest at)) → KeepsExit (timed n midway moment rest)
keeps_timed n midway None rest h = λ known. refl
keeps_timed n midway (Some moment) rest h = h (pos moment)

keeps_dated : (n : ℕ) (midway : Bool) (template : Template) (rest : Bool → ℤ → Rest) → ((later : Bool) (at : ℤ) → KeepsExit (rest later at)) → KeepsExit (dated n midway template rest)
keeps_dated n midway template rest h = keeps_one n midway template (λ later text. timed n later (time_of text) (rest later)) (λ later text. keeps_timed n later (time_of text) (rest later) (h later))

keeps_line : (n : ℕ) (what : Line) (rest : Rest) → KeepsExit rest → KeepsExit (line_walk n what rest)
keeps_line n (line.Parameter name value) rest h = keeps_one n false value (λ m text. setting n m name text rest) (λ m text. keeps_setting n m name text rest h)
keeps_line n (line.ContinueIf test) rest h = λ known. refl
keeps_line n (line.PauseWhile test) rest h = λ known. refl
keeps_line n (line.Create templates) rest h = keeps_lining n false templates [] (λ m text. doing n m (Write (codes "__createfile") text) rest) (λ m text known. refl)
keeps_line n (line.Append template) rest h = keeps_one n false template (λ m text. doing n m (Append (codes "__appendfile") (ended text)) rest) (λ m text known. refl)
keeps_line n (line.Delete path) rest h = keeps_one n false path (λ m text. doing n m (Delete text) rest) (λ m text known. refl)
keeps_line n (line.Copy from to) rest h =
    keeps_one n false from (λ m from. filled n m to (λ m to. doing n m (Copy from to) rest)) (λ m from. keeps_one n m to (λ m to. doing n m (Copy from to) rest) (λ m to known. refl))
keeps_line n (line.Move from to) rest h =
    keeps_one n false from (λ m from. filled n m to (λ m to. doing n m (Move from to) rest)) (λ m from. keeps_one n m to (λ m to. doing n m (Move from to) rest) (λ m to known. refl))
keeps_line n (line.FolderCreate path) rest h = keeps_one n false path (λ m text. doing n m (MakeFolder text) rest) (λ m text known. refl)
keeps_line n (line.FolderDelete path) rest h = keeps_one n false path (λ m text. doing n m (DropFolder text) rest) (λ m text known. refl)
keeps_line n (line.Run command) rest h = keeps_one n false command (λ m text. doing n m (Start text false) rest) (λ m text known. refl)
keeps_line n (line.Wait command) rest h = keeps_one n false command (λ m text. awaiting n m (Start text false) rest) (λ m text known. refl)
keeps_line n (line.RunHidden command) rest h = keeps_one n false command (λ m text. doing n m (Start text true) rest) (λ m text known. refl)
keeps_line n (line.WaitHidden command) rest h = keeps_one n false command (λ m text. awaiting n m (Start text true) rest) (λ m text known. refl)
keeps_line n (line.Setting name value date) rest h =
    keeps_one n false name (λ m name. filled n m value (λ m value. dated n m date (λ m moment. doing n m (Put name value moment) rest)))
    (λ m name. keeps_one n m value (λ m value. dated n m date (λ m moment. doing n m (Put name value moment) rest))
    (λ m value. keeps_dated n m date (λ m moment. doing n m (Put name value moment) rest) (λ m moment known. refl)))
keeps_line n (line.SettingDelete name date) rest h =
    keeps_one n false name (λ m name. dated n m date (λ m moment. doing n m (Drop name moment) rest)) (λ m name. keeps_dated n m date (λ m moment. doing n m (Drop name moment) rest) (λ m moment known. refl))

-- ---- lists
keeps_fetches : (fetches : List Prefetch) (rest : Rest) → KeepsExit rest → KeepsExit (fetch_all fetches rest)
keeps_fetches [] rest h = h
keeps_fetches (fetch ∷ fetches) rest h = λ known. refl

mutual
  keeps_walk : (statement : PlainStatement) (rest : Rest) → KeepsExit rest → KeepsExit (walk statement rest)
  keeps_walk (act line what) rest h = keeps_line line what rest h
  keeps_walk (choice arms other) rest h = keeps_arms arms rest (walk_all other rest) (keeps_all other rest h)

  keeps_all : (statements : Statements) (rest : Rest) → KeepsExit rest → KeepsExit (walk_all statements rest)
  keeps_all no_statements rest h = h
  keeps_all (more_statements statements last) rest h = keeps_all statements (walk last rest) (keeps_walk last rest h)

  keeps_arms : (arms : Arms) (rest other : Rest) → KeepsExit other → KeepsExit (walk_arms arms rest other)
  keeps_arms no_arms rest other h = h
  keeps_arms (more_arms arms line test body) rest other h = keeps_arms arms rest (testing line test (walk_all body rest) other) (λ known. refl)

keeps_statements : (statements : List Statement) (rest : Rest) → KeepsExit rest → KeepsExit (statements_walk statements rest)
keeps_statements [] rest h = h
keeps_statements (statement ∷ statements) rest h = keeps_walk (shown_statement statement) (statements_walk statements rest) (keeps_statements statements rest h)

keeps_todo : (todo : Todo) (rest : Rest) → KeepsExit rest → KeepsExit (todo_walk todo rest)
keeps_todo (Fetches list) rest h = keeps_fetches list.items rest h
keeps_todo (statements_left list) rest h = keeps_statements list.items rest h

keeps_todos : (todos : List Todo) → KeepsExit (todos_walk todos)
keeps_todos [] = λ known. refl
keeps_todos (todo ∷ todos) = keeps_todo todo (todos_walk todos) (keeps_todos todos)

-- ---- places
keeps_placing : (fetch : Prefetch) (bytes : List ℕ) (rest : Rest) → KeepsExit (placing fetch bytes rest)
keeps_placing fetch bytes rest =
    let placed = doing fetch.line false (PlaceFile fetch.name bytes) rest in
    let long = failing fetch.line true (WrongSize fetch.size (length bytes)) in
    let first = failing fetch.line true (WrongDigest (encode_lower fetch.sha1) (encode_lower (sha1 bytes))) in
    let second = failing fetch.line true (WrongDigest (encode_lower fetch.sha256) (encode_lower (sha256 bytes))) in
    let inner = cond (bytes_eq (sha256 bytes) fetch.sha256) placed second in
    keeps_if (length bytes == fetch.size) (cond (bytes_eq (sha1 bytes) fetch.sha1) inner first) long
    (keeps_if (bytes_eq (sha1 bytes) fetch.sha1) inner first (keeps_if (bytes_eq (sha256 bytes) fetch.sha256) placed second (λ known. refl) (λ known. refl)) (λ known. refl))
    (λ known. refl)

keeps_arm_list : (arms : List Arm) (rest other : Rest) → KeepsExit other → KeepsExit (arms_walk arms rest other)
keeps_arm_list [] rest other h = h
keeps_arm_list (arm ∷ arms) rest other h = λ known. refl

keeps_place : (place : Place) (rest : Rest) → KeepsExit rest → KeepsExit (place_walk place rest)
keeps_place Ready rest h = h
keeps_place (Wanting fetch) rest h = λ known. refl
keeps_place (Supplied fetch bytes) rest h = keeps_placing fetch bytes rest
keeps_place (Placing line name bytes) rest h = λ known. refl
keeps_place (Doing line what) rest h = keeps_line line what rest h
keeps_place (Waiting line process) rest h = λ known. refl
keeps_place (Testing arms other) rest h = keeps_arm_list arms.items rest (walk_all (shown_statements other) rest) (keeps_all (shown_statements other) rest h)
keeps_place (Asking arm arms other) rest h = λ known. refl
keeps_place Done rest h = λ known. refl
keeps_place (Failed line midway cause) rest h = λ known. refl

-- a run that stands for results knows the exit code that is known after them
pub exits : (script : PlainScript) (given : List Pair) (settled : List Settled) (run : Run) → Stands script given run settled → run.kept.scene.exit ≡ exit_after script given settled
exits script given settled run stood =
    let rest = keeps_todo run.current (todos_walk run.later.items) (keeps_todos run.later.items) in
    let here : (from run []).known.exit ≡ run.kept.scene.exit = keeps_place run.place (around run) rest (known_in run.kept.scene) in
    sym (ap (λ (l : List Settled). (standing script given l).known.exit) (sym (append-nil settled)) ∙ ap (λ (s : Stop). s.known.exit) (stood []) ∙ here)

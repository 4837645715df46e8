-- Commands in worlds that are the same but for the polls that are left. Other crates may cite these lemmas.
use Rattle.std.proofs.Common.{◌≡◌, ℕ, ◌-◌, ◌^◌, ℤ, Bool, true, false, cond, List, [], ◌∷◌, ◌++◌, length, map, set, Some, None, refl, sym, ap, ◌∙◌, subst}
use Rattle.std.specs.Prelude.{is_some, nat_lt}
use Rattle.std.specs.declared.option.Option.{Option}
use Rattle.std.specs.List.{slice_get}
use Rattle.std.specs.Option.{option_map}
use Rattle.std.proofs.Math.Seq.{map-set_same}
use Rattle.std.proofs.lemmas.List.{length-map, map-append}
use Rattle.std.proofs.lemmas.Option.{get_or_from_slice_get}
use Rattle.bf_world.specs.declared.parts.Node.TheVariants.{Folder}
use Rattle.bf_world.specs.declared.parts.Program.{Program}
use Rattle.bf_world.specs.declared.parts.Run.{Run}
use Rattle.bf_world.specs.declared.command.Command.{Command}
use Rattle.bf_world.specs.declared.command.Command.TheVariants as command
use Rattle.bf_world.specs.declared.command.Reason.{Reason}
use Rattle.bf_world.specs.declared.command.Reason.TheVariants as reason
use Rattle.bf_world.specs.declared.command.Acted.TheVariants as of_act
use Rattle.bf_world.specs.Done.{Outcome, outcome_of, refusal, checks, done, after, answer_of, with_file, with_folder, with_started, is_older, download}
use Rattle.bf_world.specs.Maps.{at, put, without}
use Rattle.bf_world.specs.Paths.{joined}
use Rattle.bf_world.specs.Places.{content_at, has_parent, is_file, is_folder, node_at, with_node, without_node}
use Rattle.bf_world.specs.Polled.{PollOutcome, polled, poll_answer, one_polled}
use Rattle.bf_world.specs.Shown.{entries_in}
use Rattle.bf_world.specs.Worlds.{WorldState}
use Rattle.bf_machine.specs.Steps.{SameButPolls}

pub SameButPolls-refl : (w : WorldState) → SameButPolls w w
SameButPolls-refl w = record { rest = refl; exits = refl }

pub SameButPolls-trans : {v w x : WorldState} → SameButPolls v w → SameButPolls w x → SameButPolls v x
SameButPolls-trans {v} {w} {x} p q = record {
  rest = q.rest ∙ ap (λ (u : WorldState). record u { started = x.started }) p.rest;
  exits = q.exits ∙ p.exits;
}

pub SameButPolls-sym : {v w : WorldState} → SameButPolls v w → SameButPolls w v
SameButPolls-sym {v} {w} p = record {
  rest = sym (ap (λ (u : WorldState). record u { started = v.started }) p.rest);
  exits = sym p.exits;
}

-- ---- what commands look at
folder-same : (w : WorldState) (runs : List Run) (path : List ℕ) → is_folder (record w { started = runs }) path ≡ is_folder w path
unfolding is_folder node_at
folder-same w runs path = refl

content-same : (w : WorldState) (runs : List Run) (path : List ℕ) → content_at (record w { started = runs }) path ≡ content_at w path
unfolding content_at node_at
content-same w runs path = refl

-- the checks of a command are the same, where as many programs were started
checks-same : (w : WorldState) (runs : List Run) (c : Command) → length runs ≡ length w.started
    → checks (record w { started = runs }) c ≡ checks w c
unfolding is_folder is_file has_parent node_at entries_in
checks-same w runs (command.Write path content) same = refl
checks-same w runs (command.Append path content) same = refl
checks-same w runs (command.Delete path) same = refl
checks-same w runs (command.Copy from to) same = refl
checks-same w runs (command.Move from to) same = refl
checks-same w runs (command.MakeFolder path) same = refl
checks-same w runs (command.DropFolder path) same = refl
checks-same w runs (command.Start line hidden) same =
    ap (λ (n : ℕ). (is_some (at line w.programs), reason.NotStarted) ∷ (nat_lt n (2 ^ 32 - 1), reason.NotStarted) ∷ []) same
checks-same w runs (command.Put name value date) same = refl
checks-same w runs (command.Drop name date) same = refl
checks-same w runs (command.Place name content) same = refl

-- ---- what commands change
-- one of two worlds, and one of two that are the same as they but for polls
chosen : (b : Bool) (v w v' w' : WorldState) → SameButPolls v v' → SameButPolls w w' → SameButPolls (cond b v w) (cond b v' w')
chosen true v w v' w' p q = p
chosen false v w v' w' p q = q

-- the world with these programs started is the same but for polls where their exits are
with-exits : (w : WorldState) (runs : List Run) → map (λ (run : Run). run.exit) runs ≡ map (λ (run : Run). run.exit) w.started
    → SameButPolls w (record w { started = runs })
with-exits w runs exits = record { rest = refl; exits = exits }

-- a program that is started once more
started-same : (w : WorldState) (runs : List Run) (program : Option Program)
    → map (λ (run : Run). run.exit) runs ≡ map (λ (run : Run). run.exit) w.started
    → SameButPolls (with_started program w) (with_started program (record w { started = runs }))
started-same w runs None exits = with-exits w runs exits
started-same w runs (Some program) exits = record {
  rest = refl;
  exits =
      let one = record { left = program.polls; exit = program.exit } ∷ [] in
      map-append (λ (run : Run). run.exit) runs one ∙ ap (λ l. l ++ program.exit ∷ []) exits
      ∙ sym (map-append (λ (run : Run). run.exit) w.started one);
}

folder-made : (w : WorldState) (runs : List Run) (path : List ℕ)
    → map (λ (run : Run). run.exit) runs ≡ map (λ (run : Run). run.exit) w.started
    → SameButPolls (with_folder path w) (with_folder path (record w { started = runs }))
folder-made w runs path exits =
    subst (λ (b : Bool). SameButPolls (with_folder path w) (cond b (record w { started = runs }) (with_node path Folder (record w { started = runs }))))
    (sym (folder-same w runs path))
    (chosen (is_folder w path) w (with_node path Folder w) (record w { started = runs }) (with_node path Folder (record w { started = runs }))
    (with-exits w runs exits) (record { rest = refl; exits = exits }))

-- a file at a path of the same worlds
file-put : (v w : WorldState) (path content : List ℕ) (moment : ℤ) → SameButPolls v w → SameButPolls (with_file path content moment v) (with_file path content moment w)
file-put v w path content moment p = record {
  rest = ap (λ (u : WorldState). with_file path content moment u) p.rest;
  exits = p.exits;
}

after-same : (w : WorldState) (runs : List Run) (c : Command) (moment : ℤ)
    → map (λ (run : Run). run.exit) runs ≡ map (λ (run : Run). run.exit) w.started
    → SameButPolls (after w c moment) (after (record w { started = runs }) c moment)
after-same w runs (command.Write path content) moment exits = record { rest = refl; exits = exits }
after-same w runs (command.Append path content) moment exits = record {
  rest = ap (λ (before : List ℕ). with_file path (before ++ content) moment (record w { started = runs })) (content-same w runs path);
  exits = exits;
}
after-same w runs (command.Delete path) moment exits = record { rest = refl; exits = exits }
after-same w runs (command.Copy from to) moment exits = record {
  rest = ap (λ (content : List ℕ). with_file to content moment (record w { started = runs })) (content-same w runs from);
  exits = exits;
}
after-same w runs (command.Move from to) moment exits = record {
  rest = ap (λ (content : List ℕ). without_node from (with_file to content moment (record w { started = runs }))) (content-same w runs from);
  exits = exits;
}
after-same w runs (command.MakeFolder path) moment exits = folder-made w runs path exits
after-same w runs (command.DropFolder path) moment exits = record { rest = refl; exits = exits }
after-same w runs (command.Start line hidden) moment exits = started-same w runs (at line w.programs) exits
after-same w runs (command.Put name value date) moment exits =
    chosen (is_older (at name w.settings) date) (record w { settings = put name (record { value = value; date = date }) w.settings }) w
    (record w { started = runs; settings = put name (record { value = value; date = date }) w.settings }) (record w { started = runs })
    (record { rest = refl; exits = exits }) (with-exits w runs exits)
after-same w runs (command.Drop name date) moment exits =
    chosen (is_older (at name w.settings) date) (record w { settings = without name w.settings }) w
    (record w { started = runs; settings = without name w.settings }) (record w { started = runs })
    (record { rest = refl; exits = exits }) (with-exits w runs exits)
after-same w runs (command.Place name content) moment exits =
    file-put (with_folder download w) (with_folder download (record w { started = runs })) (joined download name) content moment (folder-made w runs download exits)

answer-same : (w : WorldState) (runs : List Run) (c : Command) → length runs ≡ length w.started → answer_of (record w { started = runs }) c ≡ answer_of w c
answer-same w runs (command.Write path content) same = refl
answer-same w runs (command.Append path content) same = refl
answer-same w runs (command.Delete path) same = refl
answer-same w runs (command.Copy from to) same = refl
answer-same w runs (command.Move from to) same = refl
answer-same w runs (command.MakeFolder path) same = refl
answer-same w runs (command.DropFolder path) same = refl
answer-same w runs (command.Start line hidden) same = ap (λ (n : ℕ). of_act.Started (record { 0 = n })) same
answer-same w runs (command.Put name value date) same = refl
answer-same w runs (command.Drop name date) same = refl
answer-same w runs (command.Place name content) same = refl

-- ---- commands
-- two outcomes with one answer, whose worlds are the same but for polls
pub record AreAlike (one other : Outcome) : Type 0 where
  pub answer : other.answer ≡ one.answer
  pub same : SameButPolls one.after other.after

outcome-same : (w v : WorldState) (why : Option Reason) (one other : Outcome) → SameButPolls w v → AreAlike one other
    → AreAlike (outcome_of w why one) (outcome_of v why other)
outcome-same w v None one other same alike = alike
outcome-same w v (Some why) one other same alike = record { answer = refl; same = same }

done-runs : (w : WorldState) (runs : List Run) (c : Command) (moment : ℤ)
    → map (λ (run : Run). run.exit) runs ≡ map (λ (run : Run). run.exit) w.started
    → AreAlike (done w c moment) (done (record w { started = runs }) c moment)
done-runs w runs c moment exits =
    let long : length runs ≡ length w.started =
    sym (length-map runs (λ (run : Run). run.exit)) ∙ ap length exits ∙ length-map w.started (λ (run : Run). run.exit) in
    subst (λ (why : Option Reason). AreAlike (done w c moment)
    (outcome_of (record w { started = runs }) why
    (record { answer = answer_of (record w { started = runs }) c; after = after (record w { started = runs }) c moment })))
    (sym (ap refusal (checks-same w runs c long)))
    (outcome-same w (record w { started = runs }) (refusal (checks w c))
    (record { answer = answer_of w c; after = after w c moment })
    (record { answer = answer_of (record w { started = runs }) c; after = after (record w { started = runs }) c moment })
    (with-exits w runs exits)
    (record { answer = answer-same w runs c long; same = after-same w runs c moment exits }))

pub done-alike : (w other : WorldState) (c : Command) (moment : ℤ) → SameButPolls w other → AreAlike (done w c moment) (done other c moment)
done-alike w other c moment p =
    subst (λ (v : WorldState). AreAlike (done w c moment) (done v c moment)) (sym p.rest) (done-runs w other.started c moment p.exits)

-- ---- polls
-- the poll of a program that there is
poll-same : (w : WorldState) (number : ℕ) (found : Option Run) (outcome : PollOutcome) → slice_get w.started number ≡ found
    → option_map (λ run. record { answer = poll_answer run; after = record w { started = set w.started number (one_polled run) } }) found ≡ Some outcome
    → SameButPolls outcome.after w
poll-same w number None outcome is h = absurd (cc)
poll-same w number (Some run) outcome is h =
    let one : PollOutcome = record { answer = poll_answer run; after = record w { started = set w.started number (one_polled run) } } in
    let same : one ≡ outcome = cc in
    subst (λ (o : PollOutcome). SameButPolls o.after w) same (record {
      rest = refl;
      exits = sym (map-set_same (λ (r : Run). r.exit) w.started number (one_polled run) run
          (ap (λ (r : Run). r.exit) (sym (get_or_from_slice_get w.started number run run is))));
    })

-- a poll leaves the same world but for polls
pub polled-alike : (w : WorldState) (number : ℕ) (outcome : PollOutcome) → polled w number ≡ Some outcome → SameButPolls outcome.after w
polled-alike w number outcome h = poll-same w number (slice_get w.started number) outcome refl h

-- What preparing a question answers, and what an answer hands over and looks up.
use Rattle.std.specs.Prelude.{◌≡◌, ◌⊎◌, ⊤, Bool, true, false, ℕ, List, [], ◌∷◌, Result, Ok, Err}
use Rattle.std.specs.declared.option.Option.{Option}
use Rattle.bf_machine.specs.Told.{Grows}
use Rattle.bf_world.specs.declared.key.Key.{Key}
use Rattle.rel_grammar.specs.Trees.{Plain as Tree}
use Rattle.rel_value.specs.Plain.{Plain}
use Rattle.rel_trace.specs.Steps.{LooksAt}
use Rattle.rel_trace.specs.Trace.{Stop, Error, Event, Give, Trace, Ends, After}
use Rattle.rel_nodes.specs.Steps.{prepend, keys, gives}
use Rattle.rel_eval.specs.declared.question.Question.{Question}
use Rattle.rel_eval.specs.declared.refusal.Refusal.{Refusal}
use Rattle.rel_eval.specs.declared.refusal.Refusal.TheVariants.{At, NotDefined, Memory}
use Rattle.rel_eval.specs.declared.taker.Ended.{Ended}
use Rattle.rel_eval.specs.declared.taker.Ended.TheVariants as ended
use Rattle.rel_eval.specs.declared.taker.Take.{Take}
use Rattle.rel_eval.specs.declared.taker.Take.TheVariants as take
use Rattle.rel_eval.specs.Questions.{Reading, question, refused, undefined, Reads, TreeReads, plan_of}

-- The answer is what something is: a question comes exactly where it is one, with its plan, and a refusal exactly as it is refused. Want of
-- memory tells nothing of it.
abbrev pub PreparesAs : (Reading → Type 0) → Result Question Refusal → Type 0
PreparesAs Is (Ok prepared) = Is (question (plan_of prepared))
PreparesAs Is (Err (At kind place)) = Is (refused kind place)
PreparesAs Is (Err (NotDefined place words)) = Is (undefined place words)
PreparesAs Is (Err Memory) = ⊤

-- The answer is what the text is.
abbrev pub Prepares : List ℕ → Result Question Refusal → Type 0
Prepares text answer = PreparesAs (Reads text) answer

-- The answer is what the tree is.
abbrev pub PreparesTree : Tree → Result Question Refusal → Type 0
PreparesTree tree answer = PreparesAs (TreeReads tree) answer

-- what a taker does with a value: it was this, is handed the value, answers so and is that
abbrev pub Takes : Type 0 → Type 1
Takes T = T → Plain → Take → T → Type 0

-- It was handed these values one after another, and asked for more after each.
abbrev pub Took : {T : Type 0} → Takes T → T → List Plain → T → Type 0
Took takes old [] new = new ≡ old
Took {T} takes old (v ∷ vs) new = (next : T) × takes old v take.More next × Took takes next vs new

-- It was handed these values, asked for more after each, and then a last one, after which it answered so.
abbrev pub TookLast : {T : Type 0} → Takes T → T → List Plain → Plain → Take → T → Type 0
TookLast {T} takes old vs last answer new = (before : T) × Took takes old vs before × takes before last answer new

-- A trace was used from one place to a later one: its values were handed over and its looks made, and no more.
pub record Uses {T : Type 0} (takes : Takes T) (t : Trace) (old : T) (looks : List Key) (later : Trace) (new : T) : Type 0 where
  pub events : List Event
  pub whole : t ≡ prepend events later
  pub looked : looks ≡ keys events
  pub handed : Took takes old (gives events) new

-- It was used up to a value, after which the taker answered so, and no event past that value was made.
pub record UsesToLast {T : Type 0} (takes : Takes T) (t : Trace) (old : T) (answer : Take) (looks : List Key) (new : T) : Type 0 where
  pub events : List Event
  pub last : Plain
  pub later : Trace
  pub whole : t ≡ prepend events (After (Give last) later)
  pub looked : looks ≡ keys events
  pub handed : TookLast takes old (gives events) last answer new

-- How an answer ends: with the trace, at a value where the taker has enough, before a look that failed, or for want of memory, which
-- may come after any stretch.
abbrev pub Ending : {T : Type 0} → Takes T → Trace → T → Ended → List Key → T → Type 0
Ending takes t old ended.Stop looks new = Uses takes t old looks (Ends Stop) new
Ending takes t old ended.Enough looks new = UsesToLast takes t old take.Enough looks new
Ending takes t old (ended.Error kind place) looks new = Uses takes t old looks (Ends (Error kind place)) new
Ending takes t old (ended.Failed place) looks new = (u : Trace) × Uses takes t old looks u new × LooksAt place u
Ending takes t old ended.Memory looks new = ((u : Trace) × Uses takes t old looks u new) ⊎ UsesToLast takes t old take.Memory looks new

-- The keys that a machine tells grow by those of the looks that were made.
abbrev pub Answers : {T : Type 0} → Takes T → Option (List Key) → Trace → T → Ended → Option (List Key) → T → Type 0
Answers takes before t old result now new = (looks : List Key) × Grows before now looks × Ending takes t old result looks new

-- Enough comes exactly where the taker answered so, whatever the machine tells.
abbrev pub Handed : {T : Type 0} → Takes T → T → Ended → T → Type 0
Handed takes old ended.Enough new = (vs : List Plain) × (last : Plain) × TookLast takes old vs last take.Enough new
Handed takes old ended.Memory new = ((vs : List Plain) × Took takes old vs new) ⊎ ((vs : List Plain) × (last : Plain) × TookLast takes old vs last take.Memory new)
Handed takes old _ new = (vs : List Plain) × Took takes old vs new

-- a look failed
abbrev pub end_has_failed : Ended → Bool
end_has_failed (ended.Failed place) = true
end_has_failed _ = false

-- What is asked only looks, and the machine's count rises where a look fails, and else it stays. Other crates may cite these lemmas.
use Rattle.std.proofs.Common.{ℕ, ◌≡◌, ◌≢◌, ◌≤◌, List, [], ◌∷◌, inl, inr, Option, Some, None, refl, sym, ap, subst, arith}
use Rattle.desk_base.specs.Counts.{CountsFaults, CountsIf}
use Rattle.act_rules.specs.declared.row.Row.{Row}
use Rattle.fix_site.specs.declared.action.Action.{Action}
use Rattle.fix_site.specs.declared.action.Target.{Target}
use Rattle.fix_site.specs.declared.action.Target.TheVariants as target
use Rattle.fix_site.specs.declared.fixlet.Fixlet.{Fixlet}
use Rattle.fix_site.specs.declared.fixlet.Success.{Success}
use Rattle.fix_site.specs.declared.fixlet.Success.TheVariants as success
use Rattle.rel_eval.specs.declared.told.Truth.{Truth}
use Rattle.rel_eval.specs.declared.told.Truth.TheVariants as truth
use Rattle.rel_eval.specs.Singles.{truth_has_failed}
use Rattle.script_run.specs.Asking.{When}
use Rattle.bf_machine.proofs.Looking.{OnlyLooks-refl, OnlyLooks-trans}
use Rattle.bf_machine.specs.Views.{MachineView}
use Rattle.agent_attempt.specs.declared.found.Found.{Found}
use Rattle.agent_attempt.specs.declared.found.Found.TheVariants.{Yes, No, Failed, Memory}
use Rattle.agent_attempt.specs.ActionContents.{Content, single, group}
use Rattle.agent_attempt.specs.Relevance.{HasAsked, AllAre, Asking, Asks, AsksThen, ContentIs, FixletIs, IsDue, SomeIs, Succeeds, Targets, and_then, finds, found_of, opposite, or_else}

-- nothing was asked
pub still_quiet : (f : Found) (v : MachineView) → f ≢ Failed → HasAsked v f v
still_quiet f v isnt = record { only = OnlyLooks-refl v; counts = record { rose = λ e. absurd (isnt e); steady = λ n. refl; later = omega arith } }

finds_quiet : (f : Found) (old : MachineView) (answer : Found) (new : MachineView) → f ≢ Failed → finds f old answer new → HasAsked old answer new
finds_quiet f old answer new isnt h = subst (λ x. HasAsked old x new) (sym h.0) (subst (λ v. HasAsked old f v) (sym h.1) (still_quiet f old isnt))

truth_counts : (t : Truth) (old new : ℕ) → old ≤ new → CountsIf (truth_has_failed t) old new → CountsFaults (found_of t ≡ Failed) old new
truth_counts truth.True old new le cause = record { rose = λ e. absurd (cc); steady = λ n. cause; later = le }
truth_counts truth.False old new le cause = record { rose = λ e. absurd (cc); steady = λ n. cause; later = le }
truth_counts (truth.Error kind place) old new le cause = record { rose = λ e. absurd (cc); steady = λ n. cause; later = le }
truth_counts (truth.Failed place) old new le cause = record { rose = λ e. cause; steady = λ n. absurd (n refl); later = le }
truth_counts truth.Memory old new le cause = record { rose = λ e. absurd (cc); steady = λ n. cause; later = le }

pub asks_quiet : (at : When) (text : List ℕ) (old : MachineView) (answer : Found) (new : MachineView) → Asks at text old answer new → HasAsked old answer new
asks_quiet at text old answer new h =
    subst (λ x. HasAsked old x new) (sym h.2) (record { only = h.1.only; counts = truth_counts h.0 old.faults new.faults h.1.only.later h.1.cause })

-- one after another: the first didn't fail
both_quiet : (f : Found) (old between : MachineView) (answer : Found) (new : MachineView) → f ≢ Failed → HasAsked old f between → HasAsked between answer new → HasAsked old answer new
both_quiet f old between answer new isnt first next =
    let same : between.faults ≡ old.faults = first.counts.steady isnt in
    record { only = OnlyLooks-trans first.only next.only; counts = subst (λ n. CountsFaults (answer ≡ Failed) n new.faults) same next.counts }

-- the first was all
only_quiet : (f : Found) (old between : MachineView) (answer : Found) (new : MachineView) → HasAsked old f between → finds f between answer new → HasAsked old answer new
only_quiet f old between answer new first h =
    subst (λ x. HasAsked old x new) (sym h.0) (subst (λ v. HasAsked old f v) (sym h.1) first)

then_quiet : (f : Found) (next : Asking) (old between : MachineView) (answer : Found) (new : MachineView) → HasAsked old f between → (next between answer new → HasAsked between answer new) → and_then f next between answer new → HasAsked old answer new
then_quiet Yes next old between answer new first quiet h = both_quiet Yes old between answer new (λ e. absurd (cc)) first (quiet h)
then_quiet No next old between answer new first quiet h = only_quiet No old between answer new first h
then_quiet Failed next old between answer new first quiet h = only_quiet Failed old between answer new first h
then_quiet Memory next old between answer new first quiet h = only_quiet Memory old between answer new first h

else_quiet : (f : Found) (next : Asking) (old between : MachineView) (answer : Found) (new : MachineView) → HasAsked old f between → (next between answer new → HasAsked between answer new) → or_else f next between answer new → HasAsked old answer new
else_quiet Yes next old between answer new first quiet h = only_quiet Yes old between answer new first h
else_quiet No next old between answer new first quiet h = both_quiet No old between answer new (λ e. absurd (cc)) first (quiet h)
else_quiet Failed next old between answer new first quiet h = only_quiet Failed old between answer new first h
else_quiet Memory next old between answer new first quiet h = only_quiet Memory old between answer new first h

pub all_quiet : (at : When) (texts : List (List ℕ)) (old : MachineView) (answer : Found) (new : MachineView) → AllAre at texts old answer new → HasAsked old answer new
all_quiet at [] old answer new h = finds_quiet Yes old answer new (λ e. absurd (cc)) h
all_quiet at (text ∷ texts) old answer new h =
    then_quiet h.0 (AllAre at texts) old h.1 answer new (asks_quiet at text old h.0 h.1 h.2) (λ q. all_quiet at texts h.1 answer new q) h.3

pub fixlet_quiet : (at : When) (fixlet : Fixlet) (old : MachineView) (answer : Found) (new : MachineView) → FixletIs at fixlet old answer new → HasAsked old answer new
fixlet_quiet at fixlet old answer new (inl h) = all_quiet at fixlet.relevance old answer new h.1
fixlet_quiet at fixlet old answer new (inr h) = finds_quiet No old answer new (λ e. absurd (cc)) h.1

pub some_quiet : (at : When) (fixlets : List Fixlet) (old : MachineView) (answer : Found) (new : MachineView) → SomeIs at fixlets old answer new → HasAsked old answer new
some_quiet at [] old answer new h = finds_quiet No old answer new (λ e. absurd (cc)) h
some_quiet at (fixlet ∷ fixlets) old answer new h =
    else_quiet h.0 (SomeIs at fixlets) old h.1 answer new (fixlet_quiet at fixlet old h.0 h.1 h.2) (λ q. some_quiet at fixlets h.1 answer new q) h.3

pub content_quiet : (at : When) (content : Option Content) (old : MachineView) (answer : Found) (new : MachineView) → ContentIs at content old answer new → HasAsked old answer new
content_quiet at None old answer new h = finds_quiet No old answer new (λ e. absurd (cc)) h
content_quiet at (Some (single fixlet)) old answer new h = fixlet_quiet at fixlet old answer new h
content_quiet at (Some (group relevance components)) old answer new h =
    then_quiet h.0 (SomeIs at components) old h.1 answer new (all_quiet at relevance old h.0 h.1 h.2) (λ q. some_quiet at components h.1 answer new q) h.3

pub targets_quiet : (at : When) (computer : List ℕ) (t : Target) (old : MachineView) (answer : Found) (new : MachineView) → Targets at computer t old answer new → HasAsked old answer new
targets_quiet at computer target.All old answer new h = finds_quiet Yes old answer new (λ e. absurd (cc)) h
targets_quiet at computer (target.Computers names) old answer new (inl h) = finds_quiet Yes old answer new (λ e. absurd (cc)) h.1
targets_quiet at computer (target.Computers names) old answer new (inr h) = finds_quiet No old answer new (λ e. absurd (cc)) h.1
targets_quiet at computer (target.Where question) old answer new h = asks_quiet at question old answer new h

pub wanted_quiet : (at : When) (computer : List ℕ) (target : Target) (content : Option Content) (old : MachineView) (answer : Found) (new : MachineView)
    → AsksThen (Targets at computer target) (λ found. and_then found (ContentIs at content)) old answer new → HasAsked old answer new
wanted_quiet at computer target content old answer new a =
    then_quiet a.0 (ContentIs at content) old a.1 answer new (targets_quiet at computer target old a.0 a.1 a.2) (λ q. content_quiet at content a.1 answer new q) a.3

pub due_quiet : (at : When) (computer : List ℕ) (action : Action) (content : Option Content) (rows : List Row) (old : MachineView) (answer : Found) (new : MachineView)
    → IsDue at computer action content rows old answer new → HasAsked old answer new
due_quiet at computer action content rows old answer new (inl h) = wanted_quiet at computer action.target content old answer new h.1
due_quiet at computer action content rows old answer new (inr h) = finds_quiet No old answer new (λ e. absurd (cc)) h.1

-- ---- success
opposite_failed : (f : Found) → opposite f ≡ Failed → f ≡ Failed
opposite_failed Yes e = absurd (cc)
opposite_failed No e = absurd (cc)
opposite_failed Failed e = refl
opposite_failed Memory e = absurd (cc)

pub succeeds_quiet : (at : When) (fixlet : Fixlet) (rule : Success) (old : MachineView) (answer : Found) (new : MachineView) → Succeeds at fixlet rule old answer new → HasAsked old answer new
succeeds_quiet at fixlet success.Lines old answer new h = finds_quiet Yes old answer new (λ e. absurd (cc)) h
succeeds_quiet at fixlet success.Relevance old answer new (f, between, all, h) =
    let quiet = all_quiet at fixlet.relevance old f between all in
    subst (λ x. HasAsked old x new) (sym h.0) (subst (λ v. HasAsked old (opposite f) v) (sym h.1) (record {
      only = quiet.only;
      counts = record { rose = λ e. quiet.counts.rose (opposite_failed f e); steady = λ n. quiet.counts.steady (λ e. n (ap opposite e)); later = quiet.counts.later };
    }))
succeeds_quiet at fixlet (success.Clause question) old answer new h = asks_quiet at question old answer new h

-- Where no look fails and memory lasts, what is found of contents, targets and success rules is found in one way.
use Rattle.std.proofs.Common.{◌≡◌, ◌≢◌, ℕ, ◌-◌, ◌^◌, ◌<◌, ◌≤◌, List, [], ◌∷◌, inl, inr, Option, Some, None, sym, ap, subst, ◌∙◌, arith}
use Rattle.act_rules.specs.declared.row.Row.{Row}
use Rattle.fix_site.specs.declared.action.Action.{Action}
use Rattle.fix_site.specs.declared.action.Target.{Target}
use Rattle.fix_site.specs.declared.action.Target.TheVariants as target
use Rattle.fix_site.specs.declared.fixlet.Fixlet.{Fixlet}
use Rattle.fix_site.specs.declared.fixlet.Success.{Success}
use Rattle.fix_site.specs.declared.fixlet.Success.TheVariants as success
use Rattle.rel_eval.specs.declared.told.Truth.{Truth}
use Rattle.rel_eval.specs.declared.told.Truth.TheVariants as truth
use Rattle.script_run.specs.Asking.{When, scene_of}
use Rattle.bf_machine.specs.Views.{MachineView}
use Rattle.script_run.specs.ScriptWalks.{given_known}
use Rattle.agent_attempt.specs.declared.found.Found.{Found}
use Rattle.agent_attempt.specs.declared.found.Found.TheVariants.{Yes, No, Failed, Memory}
use Rattle.agent_attempt.specs.ActionContents.{Content, single, group}
use Rattle.agent_attempt.specs.Relevance.{AllAre, Asking, Asks, AsksThen, ContentIs, FixletIs, IsDue, SomeIs, Succeeds, Targets, and_then, finds, found_of, opposite, or_else}
use Rattle.agent_core.proofs.OneLook.{Calm, OnePlan, SameView, judges_same}
use Rattle.agent_attempt.proofs.Quiet.{all_quiet, asks_quiet, content_quiet, fixlet_quiet, some_quiet, targets_quiet}

module _ (plan : OnePlan) (faults : ℕ) (low : faults < 2 ^ 64 - 1) where
  abbrev Same : MachineView → MachineView → Type 0
  Same new other = SameView plan faults low new other

  -- what is asked is found in one way
  abbrev pub Once : Asking → Type 0
  Once ask = (old : MachineView) (a b : Found) (new other : MachineView) → Calm faults old → ask old a new → ask old b other → new.faults ≡ faults → other.faults ≡ faults → a ≢ Memory → b ≢ Memory → (a ≡ b) × Same new other

  -- and the machine's count is no less then
  abbrev Later : Asking → Type 0
  Later ask = (old : MachineView) (a : Found) (new : MachineView) → ask old a new → old.faults ≤ new.faults

  finds_once : (f : Found) → Once (finds f)
  finds_once f old a b new other calm p q e e' ample ample' = (p.0 ∙ sym q.0, (p.1 ∙ sym q.1, subst (Calm faults) (sym p.1) calm))

  finds_later : (f : Found) → Later (finds f)
  finds_later f old a new h = let same = ap (λ (v : MachineView). v.faults) h.1 in omega (arith, same)

  not_memory : (t : Truth) → found_of t ≢ Memory → t ≢ truth.Memory
  not_memory t ample e = ample (ap found_of e)

  pub asks_once : (at : When) (text : List ℕ) → Once (Asks at text)
  asks_once at text old a b new other calm (t, p, is) (u, q, is') e e' ample ample' =
      let same = judges_same plan faults low (scene_of at (given_known [])) text old t u new other calm p q e e' (not_memory t (λ m. ample (is ∙ m))) (not_memory u (λ m. ample' (is' ∙ m))) in
      (is ∙ ap found_of same.0 ∙ sym is', same.1)

  -- one thing, and then what comes after it: memory that ran out in the first ran out in all
  then_once : (first : Asking) (after : Found → Asking) → Once first → Later first → ((f : Found) → Once (after f)) → ((f : Found) → Later (after f)) → ((old : MachineView) (a : Found) (new : MachineView) → after Memory old a new → a ≡ Memory)
      → Once (AsksThen first after)
  then_once first after one later ones laters lacks old a b new other calm (f, mid, p, h) (g, far, q, k) e e' ample ample' =
      let low_mid = later old f mid p in
      let high_mid = laters f mid a new h in
      let low_far = later old g far q in
      let high_far = laters g far b other k in
      let start = calm.count in
      let same = one old f g mid far calm p q (omega (arith, low_mid, high_mid, start, e)) (omega (arith, low_far, high_far, start, e'))
      (λ m. ample (lacks mid a new (subst (λ x. after x mid a new) m h))) (λ m. ample' (lacks far b other (subst (λ x. after x far b other) m k))) in
      ones f mid a b new other same.1.1 h (subst (λ x. after x mid b other) (sym same.0) (subst (λ v. after g v b other) (sym same.1.0) k)) e e' ample ample'

  and_once : (next : Asking) → Once next → (f : Found) → Once (and_then f next)
  and_once next one Yes = one
  and_once next one No = finds_once No
  and_once next one Failed = finds_once Failed
  and_once next one Memory = finds_once Memory

  and_later : (next : Asking) → Later next → (f : Found) → Later (and_then f next)
  and_later next later Yes = later
  and_later next later No = finds_later No
  and_later next later Failed = finds_later Failed
  and_later next later Memory = finds_later Memory

  or_once : (next : Asking) → Once next → (f : Found) → Once (or_else f next)
  or_once next one Yes = finds_once Yes
  or_once next one No = one
  or_once next one Failed = finds_once Failed
  or_once next one Memory = finds_once Memory

  or_later : (next : Asking) → Later next → (f : Found) → Later (or_else f next)
  or_later next later Yes = finds_later Yes
  or_later next later No = later
  or_later next later Failed = finds_later Failed
  or_later next later Memory = finds_later Memory

  pub all_once : (at : When) (texts : List (List ℕ)) → Once (AllAre at texts)
  all_once at [] = finds_once Yes
  all_once at (text ∷ texts) =
      then_once (Asks at text) (λ f. and_then f (AllAre at texts)) (asks_once at text) (λ old a new h. (asks_quiet at text old a new h).only.later)
      (and_once (AllAre at texts) (all_once at texts)) (and_later (AllAre at texts) (λ old a new h. (all_quiet at texts old a new h).only.later)) (λ old a new h. h.0)

  pub fixlet_once : (at : When) (fixlet : Fixlet) → Once (FixletIs at fixlet)
  fixlet_once at fixlet old a b new other calm (inl p) (inl q) e e' ample ample' = all_once at fixlet.relevance old a b new other calm p.1 q.1 e e' ample ample'
  fixlet_once at fixlet old a b new other calm (inl p) (inr q) e e' ample ample' = absurd (q.0 p.0)
  fixlet_once at fixlet old a b new other calm (inr p) (inl q) e e' ample ample' = absurd (p.0 q.0)
  fixlet_once at fixlet old a b new other calm (inr p) (inr q) e e' ample ample' = finds_once No old a b new other calm p.1 q.1 e e' ample ample'

  some_once : (at : When) (fixlets : List Fixlet) → Once (SomeIs at fixlets)
  some_once at [] = finds_once No
  some_once at (fixlet ∷ fixlets) =
      then_once (FixletIs at fixlet) (λ f. or_else f (SomeIs at fixlets)) (fixlet_once at fixlet) (λ old a new h. (fixlet_quiet at fixlet old a new h).only.later)
      (or_once (SomeIs at fixlets) (some_once at fixlets)) (or_later (SomeIs at fixlets) (λ old a new h. (some_quiet at fixlets old a new h).only.later)) (λ old a new h. h.0)

  pub content_once : (at : When) (content : Option Content) → Once (ContentIs at content)
  content_once at None = finds_once No
  content_once at (Some (single fixlet)) = fixlet_once at fixlet
  content_once at (Some (group relevance components)) =
      then_once (AllAre at relevance) (λ f. and_then f (SomeIs at components)) (all_once at relevance) (λ old a new h. (all_quiet at relevance old a new h).only.later)
      (and_once (SomeIs at components) (some_once at components)) (and_later (SomeIs at components) (λ old a new h. (some_quiet at components old a new h).only.later)) (λ old a new h. h.0)

  targets_once : (at : When) (computer : List ℕ) (t : Target) → Once (Targets at computer t)
  targets_once at computer target.All old a b new other calm p q e e' ample ample' = finds_once Yes old a b new other calm p q e e' ample ample'
  targets_once at computer (target.Computers names) old a b new other calm (inl p) (inl q) e e' ample ample' = finds_once Yes old a b new other calm p.1 q.1 e e' ample ample'
  targets_once at computer (target.Computers names) old a b new other calm (inl p) (inr q) e e' ample ample' = absurd (q.0 p.0)
  targets_once at computer (target.Computers names) old a b new other calm (inr p) (inl q) e e' ample ample' = absurd (p.0 q.0)
  targets_once at computer (target.Computers names) old a b new other calm (inr p) (inr q) e e' ample ample' = finds_once No old a b new other calm p.1 q.1 e e' ample ample'
  targets_once at computer (target.Where text) old a b new other calm p q e e' ample ample' = asks_once at text old a b new other calm p q e e' ample ample'

  pub due_once : (at : When) (computer : List ℕ) (action : Action) (content : Option Content) (rows : List Row) → Once (IsDue at computer action content rows)
  due_once at computer action content rows old a b new other calm (inl p) (inl q) e e' ample ample' =
      then_once (Targets at computer action.target) (λ f. and_then f (ContentIs at content)) (targets_once at computer action.target) (λ old a new h. (targets_quiet at computer action.target old a new h).only.later)
      (and_once (ContentIs at content) (content_once at content)) (and_later (ContentIs at content) (λ old a new h. (content_quiet at content old a new h).only.later)) (λ old a new h. h.0) old a b new other calm p.1 q.1 e e' ample ample'
  due_once at computer action content rows old a b new other calm (inl p) (inr q) e e' ample ample' = absurd (q.0 p.0)
  due_once at computer action content rows old a b new other calm (inr p) (inl q) e e' ample ample' = absurd (p.0 q.0)
  due_once at computer action content rows old a b new other calm (inr p) (inr q) e e' ample ample' = finds_once No old a b new other calm p.1 q.1 e e' ample ample'

  pub succeeds_once : (at : When) (fixlet : Fixlet) (rule : Success) → Once (Succeeds at fixlet rule)
  succeeds_once at fixlet success.Lines = finds_once Yes
  succeeds_once at fixlet success.Relevance =
      then_once (AllAre at fixlet.relevance) (λ f. finds (opposite f)) (all_once at fixlet.relevance) (λ old a new h. (all_quiet at fixlet.relevance old a new h).only.later) (λ f. finds_once (opposite f)) (λ f. finds_later (opposite f)) (λ old a new h. h.0)
  succeeds_once at fixlet (success.Clause question) = asks_once at question

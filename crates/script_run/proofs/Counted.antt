-- What results count: the commands among them, and that a line fails for a fault of the machine only where there is one.
use Rattle.std.proofs.Common.{◌≡◌, ◌≢◌, Bool, true, false, ℕ, ◌+◌, ◌-◌, ◌^◌, ◌≤◌, max, min, List, [], ◌∷◌, ◌++◌, Option, refl, sym, ap, subst, ◌∙◌, append_assoc, append-nil, ◌⊎◌, inl, inr, arith}
use Rattle.desk_base.specs.Counts.{Rose}
use Rattle.bf_machine.specs.Rises.{RoseBy}
use Rattle.bf_machine.specs.Views.{MachineView}
use Rattle.rel_sources.specs.declared.pair.Pair.{Pair}
use Rattle.script_text.specs.Scripts.{PlainScript}
use Rattle.script_run.specs.declared.cause.Cause.TheVariants.{MachineFault}
use Rattle.script_run.specs.declared.ran.Ran.TheVariants.{Failed as FailedAt}
use Rattle.script_run.specs.Walks.{Known, Settled, supplied, said, judged, acted, polled, fault_in, faults_in, Next, Wants, Says, Tests, Pauses, Does, Polls, Fails, Walk}
use Rattle.script_run.specs.ScriptWalks.{given_known, standing, next, after, command_of, commands_in, commands}
use Rattle.script_run.specs.Asking.{When}
use Rattle.script_run.specs.RunSteps.{Settles, Comes, Any}
use Rattle.script_run.specs.Advances.{Advances}
use Rattle.script_run.proofs.Faults.{CanCome, Counts, script_counts}
use Rattle.script_run.proofs.Marked.{script_marked}

-- ---- commands
-- commands of results, and of further ones
pub commands_in_more : (f : Walk) (results more : List Settled) → commands_in f (results ++ more) ≡ commands_in f results ++ commands_in (λ later. f (results ++ later)) more
commands_in_more f [] more = refl
commands_in_more f (result ∷ results) more =
    ap (λ l. command_of (f []).next result ++ l) (commands_in_more (λ later. f (result ∷ later)) results more)
    ∙ sym (append_assoc (command_of (f []).next result) (commands_in (λ later. f (result ∷ later)) results) (commands_in (λ later. f (result ∷ (results ++ later))) more))

pub commands_added_up : (script : PlainScript) (given : List Pair) (settled results : List Settled) →
    commands script given (settled ++ results) ≡ commands script given settled ++ commands_in (after script given settled) results
commands_added_up script given settled results = commands_in_more (standing script given) settled results

-- ---- faults
can_come : (at : When) (known : Known) (next : Next) (old : MachineView) (result : Settled) (new : MachineView) → Settles at known next old result new → CanCome next result
can_come at known (Says n midway text) old (said answer) new h = h.0
can_come at known (Tests n text) old (judged answer) new h = h.0
can_come at known (Pauses n text) old (judged answer) new h = (h.0, h.1)
can_come at known (Does n midway command) old (acted answer) new h = h.0
can_come at known (Polls n process) old (polled answer) new h = h.0
can_come at known next old result new h = absurd h

-- among results after which a fault of the machine comes next there is one, unless it came next before them
comes_count : (at : When) (old : MachineView) (f : Walk) (results : List Settled) (new : MachineView) (n : ℕ) (w : Bool) → Counts f → Comes Any at old f results new →
    (f results).next ≡ Fails n w MachineFault → (faults_in results ≢ 0) ⊎ ((f []).next ≡ Fails n w MachineFault)
comes_count at old f [] new n w counts comes is = inr is
comes_count at old f (result ∷ results) new n w counts (p, (between, s, rest)) is =
    let can : CanCome (f []).next result = can_come at (f []).known (f []).next old result between s in
    let later = comes_count at between (λ more. f (result ∷ more)) results new n w (λ settled. counts (result ∷ settled)) rest is in
    inl (one_counted (fault_in result) (faults_in results) _ (λ before. counts [] result n w can before) later)
  where
    one_counted : (a b : ℕ) (Q : Type 0) → (Q → a ≢ 0) → (b ≢ 0) ⊎ Q → a + b ≢ 0
    one_counted a b Q p (inl some) none = some (omega (arith, none))
    one_counted a b Q p (inr q) none = p q (omega (arith, none))

some_rose : (n x y : ℕ) → n ≢ 0 → RoseBy n x y → Rose x y
some_rose n x y some rose = rises (2 ^ 64 - 1) n x y some rose
  where
    rises : (last n x y : ℕ) → n ≢ 0 → max x (min (x + n) last) ≤ y → max x (min (x + 1) last) ≤ y
    rises last n x y p q = grind arith

pub fault_counted : (at : When) (script : PlainScript) (given : List Pair) (settled : List Settled) (old : MachineView) (n : ℕ) (new : MachineView) (left : Walk) →
    Advances at old (after script given settled) (FailedAt n MachineFault) new left → Rose old.faults new.faults ⊎ (next script given settled ≡ Fails n true MachineFault)
fault_counted at script given settled old n new left a =
    let f : Walk = standing script given in
    let counts : Counts f = script_counts script (given_known given) in
    let later : Counts (after script given settled) = (λ more result m w can is. counts (settled ++ more) result m w can (ap (λ l. (f l).next) (append_assoc settled more (result ∷ [])) ∙ is)) in
    let is : (after script given settled a.results).next ≡ Fails n a.stops.0 MachineFault = ap (λ l. (after script given settled l).next) (sym (append-nil a.results)) ∙ a.stops.1 in
    counted (comes_count at old (after script given settled) a.results a.between n a.stops.0 later a.comes is)
  where
    counted : (faults_in a.results ≢ 0) ⊎ ((after script given settled []).next ≡ Fails n a.stops.0 MachineFault) → Rose old.faults new.faults ⊎ (next script given settled ≡ Fails n true MachineFault)
    counted (inl some) = inl (some_rose (faults_in a.results) old.faults new.faults some a.faults.rose)
    counted (inr before) =
        let is : next script given settled ≡ Fails n a.stops.0 MachineFault = ap (λ l. (standing script given l).next) (sym (append-nil settled)) ∙ before in
        inr (is ∙ ap (λ w. Fails n w MachineFault) (script_marked script (given_known given) settled n a.stops.0 is))

-- a file that comes is no fault
pub supply_counted : (script : PlainScript) (given : List Pair) (settled : List Settled) (wanting : ℕ) (digest : List ℕ) (bytes : Option (List ℕ)) (n : ℕ) (w : Bool) →
    next script given settled ≡ Wants wanting digest → next script given (settled ++ supplied bytes ∷ []) ≢ Fails n w MachineFault
supply_counted script given settled wanting digest bytes n w wants is =
    script_counts script (given_known given) settled (supplied bytes) n w (subst (λ (x : Next). CanCome x (supplied bytes)) (sym wants) tt) is refl

-- no fault of the machine comes before anything of its line
pub unmarked_never : (script : PlainScript) (given : List Pair) (settled : List Settled) (n : ℕ) → next script given settled ≢ Fails n false MachineFault
unmarked_never script given settled n is = let e : false ≡ true = script_marked script (given_known given) settled n false is in cc

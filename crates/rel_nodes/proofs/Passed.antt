-- What was passed over before a step, and the step behind it.
use Rattle.std.proofs.Common.{◌≡◌, ◌≤◌, ◌∙◌, ℕ, Bool, List, Some, arith, refl, subst, sym}
use Rattle.desk_base.specs.Counts.{CountsIf}
use Rattle.bf_machine.specs.Views.{MachineView, OnlyLooks}
use Rattle.bf_machine.proofs.Looking.{OnlyLooks-refl, OnlyLooks-trans}
use Rattle.bf_world.specs.Worlds.{WorldState}
use Rattle.bf_world.specs.declared.key.Key.{Key}
use Rattle.rel_trace.specs.declared.step.Step.{Step}
use Rattle.rel_trace.specs.declared.step.Step.TheVariants as step
use Rattle.rel_trace.specs.Steps.{AsRoom, Falls, Goes, has_failed, IsTold}
use Rattle.rel_nodes.specs.Steps.{Advances, PassedOver, Remainder, StepsOn, WentOn, has_room}
use Rattle.rel_nodes.proofs.Going.{advance_none, advance_over, advance_then, falls_then, over_falls, over_within, went_once, went_same}

-- quiet steps, and looks and turns that were counted
pub record Passed (old : MachineView) (n : ℕ) (x : Remainder) (new : MachineView) (n' : ℕ) (x' : Remainder) : Type 0 where
  pub goes : (w : WorldState) → old.world ≡ Some w → Advances old.looked n (x.trace w) step.Quiet new.looked n' (x'.trace w)
  pub steady : new.faults ≡ old.faults
  pub within : n' ≤ n
  pub nearer : n' ≡ n → x'.most ≤ x.most
  pub looks : OnlyLooks old new

pub passed_none : (a : MachineView) (n : ℕ) (x : Remainder) → Passed a n x a n x
passed_none a n x = record {
  goes = λ w h. advance_none a.looked n (x.trace w);
  steady = refl;
  within = omega arith;
  nearer = λ e. omega arith;
  looks = OnlyLooks-refl a;
}

over_steady : (r : Step) (m k a b : ℕ) → PassedOver m r k → CountsIf (has_failed r) a b → b ≡ a
over_steady step.Quiet m k a b on h = h
over_steady (step.Looked p) m k a b on h = h
over_steady (step.Turned p) m k a b on h = h
over_steady _ m k a b on h = absurd on

-- one more step is passed over
pub passed_on : {a b c : MachineView} {n m l k : ℕ} {x y z : Remainder} {r : Step} → Passed a n x b m y → StepsOn b m y r c l z → PassedOver l r k → Passed a n x c k z
passed_on {a} {b} {c} {n} {m} {l} {k} {x} {y} {z} {r} i e on =
    let less = over_within r l k on in
    record {
      goes = λ w h.
          advance_then a.looked b.looked c.looked n m k (x.trace w) (y.trace w) (z.trace w) step.Quiet (i.goes w h)
          (advance_over b.looked c.looked m l k (y.trace w) (z.trace w) r on (e.goes w (i.looks.world ∙ h)));
      steady = over_steady r l k b.faults c.faults on e.cause ∙ i.steady;
      within = omega (arith, less, e.within, i.within);
      nearer = λ q.
          omega (arith, over_falls r m l k y.most z.most e.within on e.falls (omega (arith, q, less, e.within, i.within)), i.nearer (omega (arith, q, less, e.within, i.within)));
      looks = OnlyLooks-trans i.looks e.looks;
    }

-- the step that is none to pass over
pub steps_after : {a b c : MachineView} {n m k : ℕ} {x y z : Remainder} {r : Step} → Passed a n x b m y → StepsOn b m y r c k z → StepsOn a n x r c k z
steps_after {a} {b} {c} {n} {m} {k} {x} {y} {z} {r} i e = record {
  goes = λ w h. advance_then a.looked b.looked c.looked n m k (x.trace w) (y.trace w) (z.trace w) r (i.goes w h) (e.goes w (i.looks.world ∙ h));
  cause = subst (λ f. CountsIf (has_failed r) f c.faults) i.steady e.cause;
  as_room = e.as_room;
  within = omega (arith, e.within, i.within);
  falls = λ q. falls_then r x.most y.most z.most (i.nearer (omega (arith, q, e.within, i.within))) (e.falls (omega (arith, q, e.within, i.within)));
  looks = OnlyLooks-trans i.looks e.looks;
}

-- the numbers of looks and turns in other words
pub steps_to : {a b : MachineView} {n m k : ℕ} {x y : Remainder} {r : Step} → k ≡ m → StepsOn a n x r b m y → StepsOn a n x r b k y
steps_to {a} {b} {n} {m} {k} {x} {y} {r} e h = subst (λ i. StepsOn a n x r b i y) (sym e) h

-- a step without looks and turns before it
pub steps_once : {a b : MachineView} {n : ℕ} {x y : Remainder} {r : Step} → WentOn (has_room n) a x r b y → StepsOn a n x r b n y
steps_once {a} {b} {n} {x} {y} {r} h = record {
  goes = λ w e. went_once a.looked b.looked n (x.trace w) (y.trace w) r (h.goes w e);
  cause = h.cause;
  as_room = h.as_room;
  within = omega arith;
  falls = λ e. h.falls;
  looks = h.looks;
}

told_cause : (r : Step) (count : ℕ) → IsTold r → CountsIf (has_failed r) count count
told_cause step.Quiet count t = absurd t
told_cause (step.Looked p) count t = absurd t
told_cause (step.Turned p) count t = absurd t
told_cause (step.Full p) count t = absurd t
told_cause (step.Failed p) count t = absurd t
told_cause _ count t = refl

told_room : (r : Step) (room : Bool) → IsTold r → AsRoom room r
told_room step.Quiet room t = absurd t
told_room (step.Looked p) room t = absurd t
told_room (step.Turned p) room t = absurd t
told_room (step.Full p) room t = absurd t
told_room (step.Failed p) room t = absurd t
told_room _ room t = tt

-- what is told without the machine
pub steps_told : (a : MachineView) (n : ℕ) (x y : Remainder) (r : Step) → ((w : WorldState) (l : List Key) → Goes l (x.trace w) r l (y.trace w)) → IsTold r → Falls r x.most y.most → StepsOn a n x r a n y
steps_told a n x y r goes told falls = steps_once (record {
  goes = λ w h. went_same a.looked a.looked (x.trace w) (y.trace w) r refl (λ l. goes w l);
  cause = told_cause r a.faults told;
  as_room = told_room r (has_room n) told;
  falls = falls;
  looks = OnlyLooks-refl a;
})

-- the step of a part becomes one of the form around it
pub steps_by : {a b : MachineView} {n m : ℕ} {x y x' y' : Remainder} {s r : Step} → StepsOn a n x s b m y →
    ((w : WorldState) → Advances a.looked n (x.trace w) s b.looked m (y.trace w) → Advances a.looked n (x'.trace w) r b.looked m (y'.trace w)) →
    has_failed r ≡ has_failed s → ((room : Bool) → AsRoom room s → AsRoom room r) → (Falls s x.most y.most → Falls r x'.most y'.most) →
    StepsOn a n x' r b m y'
steps_by {a} {b} {n} {m} {x} {y} {x'} {y'} {s} {r} h goes failed room falls = record {
  goes = λ w e. goes w (h.goes w e);
  cause = subst (λ c. CountsIf c a.faults b.faults) (sym failed) h.cause;
  as_room = room (has_room m) h.as_room;
  within = h.within;
  falls = λ e. falls (h.falls e);
  looks = h.looks;
}

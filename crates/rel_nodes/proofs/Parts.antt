-- A form with several parts goes on as its state does.
use Rattle.std.proofs.Common.{◌≡◌, ℕ, ℤ, refl, List, Bool, true, false, sym, ap, subst}
use Rattle.std.specs.declared.option.Option.{Option}
use Rattle.bf_world.specs.declared.key.Key.{Key}
use Rattle.bf_world.specs.Worlds.{WorldState}
use Rattle.rel_sources.specs.declared.scene.Scene.{Scene}
use Rattle.rel_trace.specs.declared.choice.Choice.{Choice}
use Rattle.rel_trace.specs.declared.choice.Choice.TheVariants.{Test, Yes, No}
use Rattle.rel_trace.specs.declared.draw.Draw.TheVariants.{Single, Exists}
use Rattle.rel_trace.specs.declared.one.One.{One}
use Rattle.rel_trace.specs.declared.one.One.TheVariants as one
use Rattle.rel_trace.specs.declared.step.Step.{Step}
use Rattle.rel_trace.specs.declared.two.Two.{Two}
use Rattle.rel_trace.specs.Trace.{Trace, none}
use Rattle.rel_trace.specs.Draws.{any, single_from}
use Rattle.rel_trace.specs.Folds.{folded}
use Rattle.rel_trace.specs.Ones.{is_done, one_left, unless}
use Rattle.rel_trace.specs.Steps.{Goes}
use Rattle.rel_trace.specs.Scopes.{Around}
use Rattle.rel_trace.specs.Twos.{on_second, two_left, second_around, begun}
use Rattle.rel_trace.specs.Choices.{choice_left, branch_left}
use Rattle.rel_nodes.specs.declared.node.Node.{Node}
use Rattle.rel_nodes.specs.Core.{Core, core}
use Rattle.rel_nodes.specs.Nodes.{shape, rest}
use Rattle.rel_nodes.specs.Steps.{Advances}
use Rattle.rel_nodes.proofs.Passing.{false_true, advance_on, one_passes, first_passes, second_left, second_passes, test_passes, yes_passes, no_passes, Passes}

pub second_advances : (w : WorldState) (s : Scene) (state state' : Two) (first second second' : Node) (a a2 : Around) (l l' : Option (List Key)) (n n' : ℕ) (x r : Step) →
    on_second state ≡ true →
    ((l l' : List Key) (t : Trace) (b b' f : Around → Trace) (a : Around) → Goes l (b (second_around state a)) x l' (b' (second_around state a)) → Goes l (two_left state t b f a) r l' (two_left state' t b' f a)) →
    a2 ≡ second_around state a → shape second' ≡ shape second → Advances l n (rest w s second a2) x l' n' (rest w s second' a2) →
    Advances l n (two_left state (rest w s first a) (rest w s second) (core w s (shape second)) a) r l' n' (two_left state' (rest w s first a) (rest w s second') (core w s (shape second')) a)
second_advances w s state state' first second second' a a2 l l' n n' x r on after e z h =
    subst (λ (c : Core). Advances l n (two_left state (rest w s first a) (rest w s second) (core w s (shape second)) a) r l' n' (two_left state' (rest w s first a) (rest w s second') (core w s c) a)) (sym z)
    (advance_on l l' n n' (rest w s second (second_around state a)) (rest w s second' (second_around state a))
    (two_left state (rest w s first a) (rest w s second) (core w s (shape second)) a) (two_left state' (rest w s first a) (rest w s second') (core w s (shape second)) a) x r
    (λ v. two_left state (rest w s first a) (λ y. v) (core w s (shape second)) a) (second_left state (rest w s first a) (rest w s second) (core w s (shape second)) a on) (second_passes state (rest w s first a) (core w s (shape second)) a on)
    (λ v m m'. after m m' (rest w s first a) (λ y. v) (rest w s second') (core w s (shape second)) a)
    (subst (λ (y : Around). Advances l n (rest w s second y) x l' n' (rest w s second' y)) e h))

pub first_advances : (w : WorldState) (s : Scene) (state state' : Two) (first first' second : Node) (a : Around) (l l' : Option (List Key)) (n n' : ℕ) (x r : Step) (begins : Bool) →
    on_second state ≡ false →
    ((l l' : List Key) (t t' : Trace) (b f : Around → Trace) (a : Around) → Goes l t x l' t' → Goes l (two_left state t b f a) r l' (two_left state' t' (begun begins b f) f a)) →
    Advances l n (rest w s first a) x l' n' (rest w s first' a) → begins ≡ false →
    Advances l n (two_left state (rest w s first a) (rest w s second) (core w s (shape second)) a) r l' n' (two_left state' (rest w s first' a) (rest w s second) (core w s (shape second)) a)
first_advances w s state state' first first' second a l l' n n' x r begins on after h e =
    subst (λ (y : Bool). Advances l n (two_left state (rest w s first a) (rest w s second) (core w s (shape second)) a) r l' n' (two_left state' (rest w s first' a) (begun y (rest w s second) (core w s (shape second))) (core w s (shape second)) a)) e
    (advance_on l l' n n' (rest w s first a) (rest w s first' a)
    (two_left state (rest w s first a) (rest w s second) (core w s (shape second)) a) (two_left state' (rest w s first' a) (begun begins (rest w s second) (core w s (shape second))) (core w s (shape second)) a) x r
    (λ v. two_left state v (rest w s second) (core w s (shape second)) a) refl (first_passes state (rest w s second) (core w s (shape second)) a on)
    (λ v m m'. after m m' v (rest w s first' a) (rest w s second) (core w s (shape second)) a)
    h)

pub begins_advances : (w : WorldState) (s : Scene) (state state' : Two) (first first' second second' : Node) (a : Around) (l l' : Option (List Key)) (n n' : ℕ) (x r : Step) (begins : Bool) →
    on_second state ≡ false →
    ((l l' : List Key) (t t' : Trace) (b f : Around → Trace) (a : Around) → Goes l t x l' t' → Goes l (two_left state t b f a) r l' (two_left state' t' (begun begins b f) f a)) →
    Advances l n (rest w s first a) x l' n' (rest w s first' a) → begins ≡ true → shape second' ≡ shape second → ((e : Around) → rest w s second' e ≡ core w s (shape second) e) →
    Advances l n (two_left state (rest w s first a) (rest w s second) (core w s (shape second)) a) r l' n' (two_left state' (rest w s first' a) (rest w s second') (core w s (shape second')) a)
begins_advances w s state state' first first' second second' a l l' n n' x r begins on after h e z whole =
    let same : rest w s second' ≡ core w s (shape second) = λ i y. whole y i in
    subst (λ (c : Core). Advances l n (two_left state (rest w s first a) (rest w s second) (core w s (shape second)) a) r l' n' (two_left state' (rest w s first' a) (rest w s second') (core w s c) a)) (sym z)
    (subst (λ (b : Around → Trace). Advances l n (two_left state (rest w s first a) (rest w s second) (core w s (shape second)) a) r l' n' (two_left state' (rest w s first' a) b (core w s (shape second)) a)) (sym same)
    (subst (λ (y : Bool). Advances l n (two_left state (rest w s first a) (rest w s second) (core w s (shape second)) a) r l' n' (two_left state' (rest w s first' a) (begun y (rest w s second) (core w s (shape second))) (core w s (shape second)) a)) e
    (advance_on l l' n n' (rest w s first a) (rest w s first' a)
    (two_left state (rest w s first a) (rest w s second) (core w s (shape second)) a) (two_left state' (rest w s first' a) (begun begins (rest w s second) (core w s (shape second))) (core w s (shape second)) a) x r
    (λ v. two_left state v (rest w s second) (core w s (shape second)) a) refl (first_passes state (rest w s second) (core w s (shape second)) a on)
    (λ v m m'. after m m' v (rest w s first' a) (rest w s second) (core w s (shape second)) a)
    h)))

-- the test of an `if` goes on
pub test_advances : (w : WorldState) (s : Scene) (state state' : Choice) (test test' chosen other : Node) (a : Around) (l l' : Option (List Key)) (n n' : ℕ) (x r : Step) (begins : Bool) →
    state ≡ Test →
    ((l l' : List Key) (t t' : Trace) (b c f g : Around → Trace) (a : Around) → Goes l t x l' t' → Goes l (choice_left state t b c f g a) r l' (choice_left state' t' (begun begins b f) (begun begins c g) f g a)) →
    Advances l n (rest w s test a) x l' n' (rest w s test' a) → begins ≡ false →
    Advances l n (choice_left state (rest w s test a) (rest w s chosen) (rest w s other) (core w s (shape chosen)) (core w s (shape other)) a) r
    l' n' (choice_left state' (rest w s test' a) (rest w s chosen) (rest w s other) (core w s (shape chosen)) (core w s (shape other)) a)
test_advances w s state state' test test' chosen other a l l' n n' x r begins i after h e =
    let old = choice_left state (rest w s test a) (rest w s chosen) (rest w s other) (core w s (shape chosen)) (core w s (shape other)) a in
    subst (λ (y : Bool). Advances l n old r l' n' (choice_left state' (rest w s test' a) (begun y (rest w s chosen) (core w s (shape chosen))) (begun y (rest w s other) (core w s (shape other))) (core w s (shape chosen)) (core w s (shape other)) a)) e
    (advance_on l l' n n' (rest w s test a) (rest w s test' a) old (choice_left state' (rest w s test' a) (begun begins (rest w s chosen) (core w s (shape chosen))) (begun begins (rest w s other) (core w s (shape other))) (core w s (shape chosen)) (core w s (shape other)) a) x r
    (λ v. choice_left state v (rest w s chosen) (rest w s other) (core w s (shape chosen)) (core w s (shape other)) a) refl
    (subst (λ (y : Choice). Passes (λ v. choice_left y v (rest w s chosen) (rest w s other) (core w s (shape chosen)) (core w s (shape other)) a)) (sym i) (test_passes (rest w s chosen) (rest w s other) (core w s (shape chosen)) (core w s (shape other)) a))
    (λ v m m'. after m m' v (rest w s test' a) (rest w s chosen) (rest w s other) (core w s (shape chosen)) (core w s (shape other)) a)
    h)

-- a branch that was begun anew is whole
pub fresh : (w : WorldState) (s : Scene) (n n' : Node) → ((e : Around) → rest w s n' e ≡ core w s (shape n) e) → rest w s n' ≡ core w s (shape n)
fresh w s n n' h = λ i y. h y i

-- the test of an `if` was decided, and its branches begin anew
pub decided_advances : (w : WorldState) (s : Scene) (state state' : Choice) (test test' chosen chosen' other other' : Node) (a : Around) (l l' : Option (List Key)) (n n' : ℕ) (x r : Step) (begins : Bool) →
    state ≡ Test →
    ((l l' : List Key) (t t' : Trace) (b c f g : Around → Trace) (a : Around) → Goes l t x l' t' → Goes l (choice_left state t b c f g a) r l' (choice_left state' t' (begun begins b f) (begun begins c g) f g a)) →
    Advances l n (rest w s test a) x l' n' (rest w s test' a) → begins ≡ true →
    shape chosen' ≡ shape chosen → rest w s chosen' ≡ core w s (shape chosen) → shape other' ≡ shape other → rest w s other' ≡ core w s (shape other) →
    Advances l n (choice_left state (rest w s test a) (rest w s chosen) (rest w s other) (core w s (shape chosen)) (core w s (shape other)) a) r
    l' n' (choice_left state' (rest w s test' a) (rest w s chosen') (rest w s other') (core w s (shape chosen')) (core w s (shape other')) a)
decided_advances w s state state' test test' chosen chosen' other other' a l l' n n' x r begins i after h e y1 y2 n1 n2 =
    let old = choice_left state (rest w s test a) (rest w s chosen) (rest w s other) (core w s (shape chosen)) (core w s (shape other)) a in
    let f = core w s (shape chosen) in
    let g = core w s (shape other) in
    subst (λ (c : Core). Advances l n old r l' n' (choice_left state' (rest w s test' a) (rest w s chosen') (rest w s other') (core w s c) (core w s (shape other')) a)) (sym y1)
    (subst (λ (c : Core). Advances l n old r l' n' (choice_left state' (rest w s test' a) (rest w s chosen') (rest w s other') f (core w s c) a)) (sym n1)
    (subst (λ (b : Around → Trace). Advances l n old r l' n' (choice_left state' (rest w s test' a) b (rest w s other') f g a)) (sym y2)
    (subst (λ (b : Around → Trace). Advances l n old r l' n' (choice_left state' (rest w s test' a) f b f g a)) (sym n2)
    (subst (λ (y : Bool). Advances l n old r l' n' (choice_left state' (rest w s test' a) (begun y (rest w s chosen) f) (begun y (rest w s other) g) f g a)) e
    (advance_on l l' n n' (rest w s test a) (rest w s test' a) old (choice_left state' (rest w s test' a) (begun begins (rest w s chosen) f) (begun begins (rest w s other) g) f g a) x r
    (λ v. choice_left state v (rest w s chosen) (rest w s other) f g a) refl
    (subst (λ (y : Choice). Passes (λ v. choice_left y v (rest w s chosen) (rest w s other) f g a)) (sym i) (test_passes (rest w s chosen) (rest w s other) f g a))
    (λ v m m'. after m m' v (rest w s test' a) (rest w s chosen) (rest w s other) f g a)
    h)))))

-- a branch of an `if` goes on
pub yes_advances : (w : WorldState) (s : Scene) (state state' : Choice) (test chosen chosen' other : Node) (a : Around) (l l' : Option (List Key)) (n n' : ℕ) (x r : Step) →
    ((l l' : List Key) (t : Trace) (b c b' c' f g : Around → Trace) (a : Around) → Goes l (branch_left state b c a) x l' (branch_left state b' c' a) → Goes l (choice_left state t b c f g a) r l' (choice_left state' t b' c' f g a)) →
    state ≡ Yes → shape chosen' ≡ shape chosen → Advances l n (rest w s chosen a) x l' n' (rest w s chosen' a) →
    Advances l n (choice_left state (rest w s test a) (rest w s chosen) (rest w s other) (core w s (shape chosen)) (core w s (shape other)) a) r
    l' n' (choice_left state' (rest w s test a) (rest w s chosen') (rest w s other) (core w s (shape chosen')) (core w s (shape other)) a)
yes_advances w s state state' test chosen chosen' other a l l' n n' x r after i z h =
    let old = choice_left state (rest w s test a) (rest w s chosen) (rest w s other) (core w s (shape chosen)) (core w s (shape other)) a in
    subst (λ (c : Core). Advances l n old r l' n' (choice_left state' (rest w s test a) (rest w s chosen') (rest w s other) (core w s c) (core w s (shape other)) a)) (sym z)
    (advance_on l l' n n' (branch_left state (rest w s chosen) (rest w s other) a) (branch_left state (rest w s chosen') (rest w s other) a)
    old (choice_left state' (rest w s test a) (rest w s chosen') (rest w s other) (core w s (shape chosen)) (core w s (shape other)) a) x r
    (λ v. choice_left state (rest w s test a) (λ e. v) (rest w s other) (core w s (shape chosen)) (core w s (shape other)) a)
    (subst (λ (y : Choice). choice_left y (rest w s test a) (rest w s chosen) (rest w s other) (core w s (shape chosen)) (core w s (shape other)) a ≡ choice_left y (rest w s test a) (λ e. branch_left y (rest w s chosen) (rest w s other) a) (rest w s other) (core w s (shape chosen)) (core w s (shape other)) a) (sym i) refl)
    (subst (λ (y : Choice). Passes (λ v. choice_left y (rest w s test a) (λ e. v) (rest w s other) (core w s (shape chosen)) (core w s (shape other)) a)) (sym i) (yes_passes (rest w s test a) (rest w s other) (core w s (shape chosen)) (core w s (shape other)) a))
    (λ v m m' k. after m m' (rest w s test a) (λ e. v) (rest w s other) (rest w s chosen') (rest w s other) (core w s (shape chosen)) (core w s (shape other)) a
    (subst (λ (y : Choice). Goes m (branch_left y (λ e. v) (rest w s other) a) x m' (branch_left state (rest w s chosen') (rest w s other) a)) (sym i) k))
    (subst (λ (y : Choice). Advances l n (branch_left y (rest w s chosen) (rest w s other) a) x l' n' (branch_left y (rest w s chosen') (rest w s other) a)) (sym i)
    h))

pub no_advances : (w : WorldState) (s : Scene) (state state' : Choice) (test chosen other other' : Node) (a : Around) (l l' : Option (List Key)) (n n' : ℕ) (x r : Step) →
    ((l l' : List Key) (t : Trace) (b c b' c' f g : Around → Trace) (a : Around) → Goes l (branch_left state b c a) x l' (branch_left state b' c' a) → Goes l (choice_left state t b c f g a) r l' (choice_left state' t b' c' f g a)) →
    state ≡ No → shape other' ≡ shape other → Advances l n (rest w s other a) x l' n' (rest w s other' a) →
    Advances l n (choice_left state (rest w s test a) (rest w s chosen) (rest w s other) (core w s (shape chosen)) (core w s (shape other)) a) r
    l' n' (choice_left state' (rest w s test a) (rest w s chosen) (rest w s other') (core w s (shape chosen)) (core w s (shape other')) a)
no_advances w s state state' test chosen other other' a l l' n n' x r after i z h =
    let old = choice_left state (rest w s test a) (rest w s chosen) (rest w s other) (core w s (shape chosen)) (core w s (shape other)) a in
    subst (λ (c : Core). Advances l n old r l' n' (choice_left state' (rest w s test a) (rest w s chosen) (rest w s other') (core w s (shape chosen)) (core w s c) a)) (sym z)
    (advance_on l l' n n' (branch_left state (rest w s chosen) (rest w s other) a) (branch_left state (rest w s chosen) (rest w s other') a)
    old (choice_left state' (rest w s test a) (rest w s chosen) (rest w s other') (core w s (shape chosen)) (core w s (shape other)) a) x r
    (λ v. choice_left state (rest w s test a) (rest w s chosen) (λ e. v) (core w s (shape chosen)) (core w s (shape other)) a)
    (subst (λ (y : Choice). choice_left y (rest w s test a) (rest w s chosen) (rest w s other) (core w s (shape chosen)) (core w s (shape other)) a ≡ choice_left y (rest w s test a) (rest w s chosen) (λ e. branch_left y (rest w s chosen) (rest w s other) a) (core w s (shape chosen)) (core w s (shape other)) a) (sym i) refl)
    (subst (λ (y : Choice). Passes (λ v. choice_left y (rest w s test a) (rest w s chosen) (λ e. v) (core w s (shape chosen)) (core w s (shape other)) a)) (sym i) (no_passes (rest w s test a) (rest w s chosen) (core w s (shape chosen)) (core w s (shape other)) a))
    (λ v m m' k. after m m' (rest w s test a) (rest w s chosen) (λ e. v) (rest w s chosen) (rest w s other') (core w s (shape chosen)) (core w s (shape other)) a
    (subst (λ (y : Choice). Goes m (branch_left y (rest w s chosen) (λ e. v) a) x m' (branch_left state (rest w s chosen) (rest w s other') a)) (sym i) k))
    (subst (λ (y : Choice). Advances l n (branch_left y (rest w s chosen) (rest w s other) a) x l' n' (branch_left y (rest w s chosen) (rest w s other') a)) (sym i)
    h))

-- a form with one part goes on
pub one_advances : (w : WorldState) (s : Scene) (state state' : One) (part part' : Node) (a : Around) (offset : ℤ) (l l' : Option (List Key)) (n n' : ℕ) (x r : Step) →
    is_done state ≡ false →
    ((l l' : List Key) (t t' : Trace) → Goes l t x l' t' → Goes l (one_left state a offset t) r l' (one_left state' a offset t')) →
    Advances l n (rest w s part a) x l' n' (rest w s part' a) →
    Advances l n (one_left state a offset (rest w s part a)) r l' n' (one_left state' a offset (rest w s part' a))
one_advances w s state state' part part' a offset l l' n n' x r waits after h =
    advance_on l l' n n' (rest w s part a) (rest w s part' a) (one_left state a offset (rest w s part a)) (one_left state' a offset (rest w s part' a)) x r
    (one_left state a offset) refl (one_passes state a offset waits) (λ v m m'. after m m' v (rest w s part' a)) h

-- a form with one part that is done has nothing left
pub done_left : (state : One) (a : Around) (offset : ℤ) (t : Trace) → is_done state ≡ true → one_left state a offset t ≡ none
done_left (one.Draw (Single p held done)) a offset t h = ap (λ b. unless b (single_from p held t)) h
done_left (one.Draw (Exists done)) a offset t h = ap (λ b. unless b (any t)) h
done_left (one.Fold f) a offset t h = ap (λ b. unless b (folded f.fold a.argument f.place f.held t)) h
done_left (one.Apply x) a offset t h = absurd (false_true h)

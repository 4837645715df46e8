-- A node never has more quiet steps before it than its plan allows. Other crates may cite these lemmas.
use Rattle.std.proofs.Common.{ℕ, ◌≡◌, ◌+◌, ◌*◌, ◌≤◌, ◌<◌, ap, arith, sym, subst, Bool, true, false, Option, Some, None}
use Rattle.rel_trace.specs.declared.choice.Choice.{Choice}
use Rattle.rel_trace.specs.declared.choice.Choice.TheVariants as choice
use Rattle.rel_trace.specs.declared.handing.Hand.{Hand}
use Rattle.rel_trace.specs.declared.handing.Hand.TheVariants.{Each, Argument, Left, Turned}
use Rattle.rel_trace.specs.declared.one.One.{One}
use Rattle.rel_trace.specs.declared.one.One.TheVariants as one
use Rattle.rel_trace.specs.declared.sequence.Order.{Order}
use Rattle.rel_trace.specs.declared.sequence.Order.TheVariants.{Then, Bar, Logical}
use Rattle.rel_trace.specs.declared.step.Step.{Step}
use Rattle.rel_trace.specs.declared.step.Step.TheVariants as step
use Rattle.rel_trace.specs.declared.two.Two.{Two}
use Rattle.rel_trace.specs.declared.two.Two.TheVariants as two
use Rattle.rel_trace.specs.Steps.{Falls}
use Rattle.rel_trace.specs.Ones.{draw_done, one_quiet, zero_if}
use Rattle.rel_trace.specs.Twos.{begun_quiet, first_quiet, half_quiet, hand_kind, holds, order_kind, ordered_quiet, then_quiet, two_kind, two_quiet}
use Rattle.rel_trace.specs.Choices.{branch_quiet, choice_quiet}
use Rattle.rel_nodes.specs.declared.walking.Walking.{Walking}
use Rattle.rel_nodes.specs.declared.pure.Pure.{Pure}
use Rattle.rel_nodes.specs.declared.pure.Pure.TheVariants as pure
use Rattle.rel_nodes.specs.declared.node.Node.{Node}
use Rattle.rel_nodes.specs.declared.node.Node.TheVariants as node
use Rattle.rel_nodes.specs.Nodes.{pure_shape, shape}
use Rattle.rel_nodes.specs.Measure.{two_cap, cap, property_quiet, quiet}
use Rattle.rel_nodes.proofs.Going.{nearer}
use Rattle.rel_nodes.proofs.Walked.{values_le}

zero_if_le : (b : Bool) (n : ℕ) → zero_if b n ≤ n
zero_if_le true n = omega arith
zero_if_le false n = omega arith

mul_mono : (a b c : ℕ) → a ≤ b → a * c ≤ b * c
mul_mono a b c h = grind arith

one_le : (s : One) (q : ℕ) → one_quiet s q ≤ q + 1
one_le (one.Draw d) q = zero_if_le (draw_done d) (q + 1)
one_le (one.Fold f) q = zero_if_le f.done (q + 1)
one_le (one.Apply a) q = omega arith

-- a larger second part leaves more
then_mono : (on : Bool) (q r r' c : ℕ) → r ≤ r' → then_quiet on q r c ≤ then_quiet on q r' c
then_mono true q r r' c h = h
then_mono false q r r' c h = omega arith

half_mono : (on : Bool) (q r r' : ℕ) → r ≤ r' → half_quiet on q r ≤ half_quiet on q r'
half_mono true q r r' h = omega arith
half_mono false q r r' h = omega arith

ordered_mono : (o : Order) (on : Bool) (q r r' c : ℕ) → r ≤ r' → ordered_quiet o on q r c ≤ ordered_quiet o on q r' c
ordered_mono Then on q r r' c h = then_mono on q r r' c h
ordered_mono Bar on q r r' c h = then_mono on q r r' c h
ordered_mono (Logical l) on q r r' c h = half_mono on (q * (c + 2)) r r' h

two_mono : (s : Two) (q r r' c : ℕ) → r ≤ r' → two_quiet s q r c ≤ two_quiet s q r' c
two_mono (two.Sequence s) q r r' c h = ordered_mono s.order s.on_second q r r' c h
two_mono (two.Handing s) q r r' c h = half_mono (holds s.held) (first_quiet s.hand q c) r r' h
two_mono (two.Filter s) q r r' c h = half_mono (holds s.held) q r r' h

-- at most as much as the parts' caps allow
then_le : (on : Bool) (q r a c : ℕ) → q ≤ a → r ≤ c → then_quiet on q r c ≤ a + (c + 1)
then_le true q r a c h k = omega arith
then_le false q r a c h k = omega arith

half_le : (on : Bool) (q r a c : ℕ) → q ≤ a → r ≤ c → half_quiet on q r ≤ a + (c + 1)
half_le true q r a c h k = omega arith
half_le false q r a c h k = omega arith

ordered_le : (o : Order) (on : Bool) (q r a c : ℕ) → q ≤ a → r ≤ c → ordered_quiet o on q r c ≤ two_cap (order_kind o) a c
ordered_le Then on q r a c h k = then_le on q r a c h k
ordered_le Bar on q r a c h k = then_le on q r a c h k
ordered_le (Logical l) on q r a c h k = half_le on (q * (c + 2)) r (a * (c + 2)) c (mul_mono q a (c + 2) h) k

handed_le : (way : Hand) (on : Bool) (q r a c : ℕ) → q ≤ a → r ≤ c → half_quiet on (first_quiet way q c) r ≤ two_cap (hand_kind way) a c
handed_le (Each p) on q r a c h k = half_le on q r a c h k
handed_le Argument on q r a c h k = half_le on (q * (c + 2)) r (a * (c + 2)) c (mul_mono q a (c + 2) h) k
handed_le Left on q r a c h k = half_le on (q * (c + 2)) r (a * (c + 2)) c (mul_mono q a (c + 2) h) k
handed_le (Turned p) on q r a c h k = half_le on q r a c h k

two_le : (s : Two) (q r a c : ℕ) → q ≤ a → r ≤ c → two_quiet s q r c ≤ two_cap (two_kind s) a c
two_le (two.Sequence s) q r a c h k = ordered_le s.order s.on_second q r a c h k
two_le (two.Handing s) q r a c h k = handed_le s.hand (holds s.held) q r a c h k
two_le (two.Filter s) q r a c h k = half_le (holds s.held) q r a c h k

choice_mono : (s : Choice) (q r r' w w' c d : ℕ) → r ≤ r' → w ≤ w' → choice_quiet s q r w c d ≤ choice_quiet s q r' w' c d
choice_mono choice.Test q r r' w w' c d h k = omega arith
choice_mono choice.Yes q r r' w w' c d h k = omega arith
choice_mono choice.No q r r' w w' c d h k = omega arith

choice_le : (s : Choice) (q r w a c d : ℕ) → q ≤ a → r ≤ c → w ≤ d → choice_quiet s q r w c d ≤ a * (c + d + 2) + (c + d + 1)
choice_le choice.Test q r w a c d h i j = omega (arith, mul_mono q a (c + d + 2) h)
choice_le choice.Yes q r w a c d h i j = omega (arith, mul_mono q a (c + d + 2) h)
choice_le choice.No q r w a c d h i j = omega (arith, mul_mono q a (c + d + 2) h)

property_le : (walk : Option Walking) → property_quiet walk ≤ 2
property_le None = omega arith
property_le (Some g) = omega (arith, values_le g.walk)

one_le_pure : (x : Pure) → 1 ≤ cap (pure_shape x)
one_le_pure (pure.Constant v) = omega arith
one_le_pure pure.It = omega arith
one_le_pure pure.Left = omega arith
one_le_pure (pure.Applied' p part apply) = omega arith
one_le_pure (pure.Single' p part place) = omega arith
one_le_pure (pure.Joined' p first q second) = omega arith

pub quiet_le_cap : (n : Node) → quiet n ≤ cap (shape n)
quiet_le_cap node.Nothing = omega arith
quiet_le_cap (node.Pure x is_given) = omega (arith, zero_if_le is_given 1, one_le_pure x)
quiet_le_cap (node.Property r) = property_le r.walk
quiet_le_cap (node.WithOne' p part state) = omega (arith, quiet_le_cap part, one_le state (quiet part))
quiet_le_cap (node.WithTwo' p a q b state) = two_le state (quiet a) (quiet b) (cap (shape a)) (cap (shape b)) (quiet_le_cap a) (quiet_le_cap b)
quiet_le_cap (node.WithChoice' p t q y r n state) = choice_le state (quiet t) (quiet y) (quiet n) (cap (shape t)) (cap (shape y)) (cap (shape n)) (quiet_le_cap t) (quiet_le_cap y) (quiet_le_cap n)

-- with as much that can be quiet as before
nearer_as : (most most' m k q q' : ℕ) → most' ≡ most → q' ≤ most' → k ≤ m → (k ≡ m → q' < q) → k * (most' + 1) + q' < m * (most + 1) + q
nearer_as most most' m k q q' e l h f =
    subst (λ x. k * (x + 1) + q' < m * (most + 1) + q) (sym e) (nearer m k most q q' h f (subst (λ x. q' ≤ x) e l))

-- what goes on comes nearer to its end by a look or a turn, and else by what is quiet
pub step_nearer : (n n' : Node) (m k : ℕ) → shape n' ≡ shape n → k ≤ m → (k ≡ m → quiet n' < quiet n) → k * (cap (shape n') + 1) + quiet n' < m * (cap (shape n) + 1) + quiet n
step_nearer n n' m k e h f = nearer_as (cap (shape n)) (cap (shape n')) m k (quiet n) (quiet n') (ap cap e) (quiet_le_cap n') h f

falls_below : (x : Step) (a b b' : ℕ) → Falls x a b → b' ≤ b → Falls x a b'
falls_below step.Quiet a b b' h k = omega arith
falls_below (step.Given v) a b b' h k = omega arith
falls_below _ a b b' h k = tt

-- the second part may begin anew
pub begins_falls : (state state' : Two) (first first' second second' : Node) (x r : Step) (begins : Bool) →
    ((q q' r2 c : ℕ) → Falls x q q' → Falls r (two_quiet state q r2 c) (two_quiet state' q' (begun_quiet begins r2 c) c)) →
    Falls x (quiet first) (quiet first') → begins ≡ true → shape second' ≡ shape second →
    Falls r (two_quiet state (quiet first) (quiet second) (cap (shape second))) (two_quiet state' (quiet first') (quiet second') (cap (shape second')))
begins_falls state state' first first' second second' x r begins after h e y =
    subst (λ c. Falls r (two_quiet state (quiet first) (quiet second) (cap (shape second))) (two_quiet state' (quiet first') (quiet second') (cap c))) (sym y)
    (falls_below r (two_quiet state (quiet first) (quiet second) (cap (shape second))) (two_quiet state' (quiet first') (cap (shape second)) (cap (shape second))) (two_quiet state' (quiet first') (quiet second') (cap (shape second)))
    (subst (λ (b : Bool). Falls r (two_quiet state (quiet first) (quiet second) (cap (shape second))) (two_quiet state' (quiet first') (begun_quiet b (quiet second) (cap (shape second))) (cap (shape second)))) e
    (after (quiet first) (quiet first') (quiet second) (cap (shape second)) h))
    (two_mono state' (quiet first') (quiet second') (cap (shape second)) (cap (shape second)) (subst (λ c. quiet second' ≤ cap c) y (quiet_le_cap second'))))

-- or it does not
pub first_falls : (state state' : Two) (first first' second : Node) (x r : Step) (begins : Bool) →
    ((q q' r2 c : ℕ) → Falls x q q' → Falls r (two_quiet state q r2 c) (two_quiet state' q' (begun_quiet begins r2 c) c)) →
    Falls x (quiet first) (quiet first') → begins ≡ false →
    Falls r (two_quiet state (quiet first) (quiet second) (cap (shape second))) (two_quiet state' (quiet first') (quiet second) (cap (shape second)))
first_falls state state' first first' second x r begins after h e =
    subst (λ (b : Bool). Falls r (two_quiet state (quiet first) (quiet second) (cap (shape second))) (two_quiet state' (quiet first') (begun_quiet b (quiet second) (cap (shape second))) (cap (shape second)))) e
    (after (quiet first) (quiet first') (quiet second) (cap (shape second)) h)

-- the second part goes on
pub second_falls : (state state' : Two) (first second second' : Node) (x r : Step) →
    ((q r2 r3 c : ℕ) → Falls x r2 r3 → Falls r (two_quiet state q r2 c) (two_quiet state' q r3 c)) →
    shape second' ≡ shape second → Falls x (quiet second) (quiet second') →
    Falls r (two_quiet state (quiet first) (quiet second) (cap (shape second))) (two_quiet state' (quiet first) (quiet second') (cap (shape second')))
second_falls state state' first second second' x r after z h =
    subst (λ c. Falls r (two_quiet state (quiet first) (quiet second) (cap (shape second))) (two_quiet state' (quiet first) (quiet second') (cap c))) (sym z)
    (after (quiet first) (quiet second) (quiet second') (cap (shape second)) h)

-- a test that is decided begins its branches anew
pub decided_falls : (state state' : Choice) (test test' chosen chosen' other other' : Node) (x r : Step) (begins : Bool) →
    ((q q' r2 w2 c e : ℕ) → Falls x q q' → Falls r (choice_quiet state q r2 w2 c e) (choice_quiet state' q' (begun_quiet begins r2 c) (begun_quiet begins w2 e) c e)) →
    Falls x (quiet test) (quiet test') → begins ≡ true → shape chosen' ≡ shape chosen → shape other' ≡ shape other →
    Falls r (choice_quiet state (quiet test) (quiet chosen) (quiet other) (cap (shape chosen)) (cap (shape other))) (choice_quiet state' (quiet test') (quiet chosen') (quiet other') (cap (shape chosen')) (cap (shape other')))
decided_falls state state' test test' chosen chosen' other other' x r begins after h e y n =
    let old = choice_quiet state (quiet test) (quiet chosen) (quiet other) (cap (shape chosen)) (cap (shape other)) in
    let c = cap (shape chosen) in
    let f = cap (shape other) in
    subst (λ k. Falls r old (choice_quiet state' (quiet test') (quiet chosen') (quiet other') (cap k) (cap (shape other')))) (sym y)
    (subst (λ k. Falls r old (choice_quiet state' (quiet test') (quiet chosen') (quiet other') c (cap k))) (sym n)
    (falls_below r old (choice_quiet state' (quiet test') c f c f) (choice_quiet state' (quiet test') (quiet chosen') (quiet other') c f)
    (subst (λ (b : Bool). Falls r old (choice_quiet state' (quiet test') (begun_quiet b (quiet chosen) c) (begun_quiet b (quiet other) f) c f)) e
    (after (quiet test) (quiet test') (quiet chosen) (quiet other) c f h))
    (choice_mono state' (quiet test') (quiet chosen') c (quiet other') f c f (subst (λ k. quiet chosen' ≤ cap k) y (quiet_le_cap chosen')) (subst (λ k. quiet other' ≤ cap k) n (quiet_le_cap other')))))

-- a test that goes on
pub test_falls : (state state' : Choice) (test test' chosen other : Node) (x r : Step) (begins : Bool) →
    ((q q' r2 w2 c e : ℕ) → Falls x q q' → Falls r (choice_quiet state q r2 w2 c e) (choice_quiet state' q' (begun_quiet begins r2 c) (begun_quiet begins w2 e) c e)) →
    Falls x (quiet test) (quiet test') → begins ≡ false →
    Falls r (choice_quiet state (quiet test) (quiet chosen) (quiet other) (cap (shape chosen)) (cap (shape other))) (choice_quiet state' (quiet test') (quiet chosen) (quiet other) (cap (shape chosen)) (cap (shape other)))
test_falls state state' test test' chosen other x r begins after h e =
    subst (λ (b : Bool). Falls r (choice_quiet state (quiet test) (quiet chosen) (quiet other) (cap (shape chosen)) (cap (shape other))) (choice_quiet state' (quiet test') (begun_quiet b (quiet chosen) (cap (shape chosen))) (begun_quiet b (quiet other) (cap (shape other))) (cap (shape chosen)) (cap (shape other)))) e
    (after (quiet test) (quiet test') (quiet chosen) (quiet other) (cap (shape chosen)) (cap (shape other)) h)

-- a branch that goes on
pub yes_falls : (state state' : Choice) (test chosen chosen' other : Node) (x r : Step) →
    ((q r2 w2 r3 w3 c e : ℕ) → Falls x (branch_quiet state r2 w2) (branch_quiet state r3 w3) → Falls r (choice_quiet state q r2 w2 c e) (choice_quiet state' q r3 w3 c e)) →
    state ≡ choice.Yes → shape chosen' ≡ shape chosen → Falls x (quiet chosen) (quiet chosen') →
    Falls r (choice_quiet state (quiet test) (quiet chosen) (quiet other) (cap (shape chosen)) (cap (shape other))) (choice_quiet state' (quiet test) (quiet chosen') (quiet other) (cap (shape chosen')) (cap (shape other)))
yes_falls state state' test chosen chosen' other x r after i z h =
    let old = choice_quiet state (quiet test) (quiet chosen) (quiet other) (cap (shape chosen)) (cap (shape other)) in
    subst (λ k. Falls r old (choice_quiet state' (quiet test) (quiet chosen') (quiet other) (cap k) (cap (shape other)))) (sym z)
    (after (quiet test) (quiet chosen) (quiet other) (quiet chosen') (quiet other) (cap (shape chosen)) (cap (shape other))
    (subst (λ (y : Choice). Falls x (branch_quiet y (quiet chosen) (quiet other)) (branch_quiet y (quiet chosen') (quiet other))) (sym i)
    h))

pub no_falls : (state state' : Choice) (test chosen other other' : Node) (x r : Step) →
    ((q r2 w2 r3 w3 c e : ℕ) → Falls x (branch_quiet state r2 w2) (branch_quiet state r3 w3) → Falls r (choice_quiet state q r2 w2 c e) (choice_quiet state' q r3 w3 c e)) →
    state ≡ choice.No → shape other' ≡ shape other → Falls x (quiet other) (quiet other') →
    Falls r (choice_quiet state (quiet test) (quiet chosen) (quiet other) (cap (shape chosen)) (cap (shape other))) (choice_quiet state' (quiet test) (quiet chosen) (quiet other') (cap (shape chosen)) (cap (shape other')))
no_falls state state' test chosen other other' x r after i z h =
    let old = choice_quiet state (quiet test) (quiet chosen) (quiet other) (cap (shape chosen)) (cap (shape other)) in
    subst (λ k. Falls r old (choice_quiet state' (quiet test) (quiet chosen) (quiet other') (cap (shape chosen)) (cap k))) (sym z)
    (after (quiet test) (quiet chosen) (quiet other) (quiet chosen) (quiet other') (cap (shape chosen)) (cap (shape other))
    (subst (λ (y : Choice). Falls x (branch_quiet y (quiet chosen) (quiet other)) (branch_quiet y (quiet chosen) (quiet other'))) (sym i)
    h))

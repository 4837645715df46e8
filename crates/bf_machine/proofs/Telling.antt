-- Lists that grow and counts that rise, step by step. Other crates may cite these lemmas.
use Rattle.std.proofs.Common.{◌≡◌, ℕ, ◌+◌, ◌-◌, ◌^◌, ◌≤◌, max, min, List, [], ◌++◌, None, Some, refl, sym, ap, ◌∙◌, append_assoc, append-nil, subst, arith}
use Rattle.std.specs.declared.option.Option.{Option}
use Rattle.desk_base.specs.Counts.{Rose}
use Rattle.bf_world.specs.declared.key.Key.{Key}
use Rattle.bf_world.specs.Worlds.{WorldState}
use Rattle.bf_machine.specs.Told.{Grows}
use Rattle.bf_machine.specs.Looks.{LooksUp}
use Rattle.bf_machine.specs.Rises.{CountsFailed, RoseBy}

pub Grows-nil : {T : Type 0} (a : Option (List T)) → Grows a a []
Grows-nil None = refl
Grows-nil (Some xs) = sym (append-nil xs)

pub Grows-trans : {T : Type 0} (a b c : Option (List T)) (xs ys : List T) → Grows a b xs → Grows b c ys → Grows a c (xs ++ ys)
Grows-trans None None c xs ys p q = q
Grows-trans None (Some b) c xs ys p q = absurd (cc)
Grows-trans (Some a) None c xs ys p q = absurd p
Grows-trans (Some a) (Some b) None xs ys p q = absurd q
Grows-trans (Some a) (Some b) (Some c) xs ys p q = q ∙ ap (λ l. l ++ ys) p ∙ append_assoc a xs ys

pub LooksUp-nil : (world : Option WorldState) (a : Option (List Key)) → LooksUp world a a []
LooksUp-nil None a = tt
LooksUp-nil (Some w) a = Grows-nil a

pub LooksUp-trans : (world : Option WorldState) (a b c : Option (List Key)) (xs ys : List Key) → LooksUp world a b xs → LooksUp world b c ys → LooksUp world a c (xs ++ ys)
LooksUp-trans None a b c xs ys p q = tt
LooksUp-trans (Some w) a b c xs ys p q = Grows-trans a b c xs ys p q

-- a count that stood still below some last value, and rose again
two_rises : (last a b x y z : ℕ) → max x (min (x + a) last) ≤ y → max y (min (y + b) last) ≤ z → max x (min (x + (a + b)) last) ≤ z
two_rises last a b x y z p q = grind arith

pub RoseBy-more : (a b x y z : ℕ) → RoseBy a x y → RoseBy b y z → RoseBy (a + b) x z
RoseBy-more a b x y z p q = two_rises (2 ^ 64 - 1) a b x y z p q

pub RoseBy-none : (x y : ℕ) → x ≤ y → RoseBy 0 x y
RoseBy-none x y p = grind arith

pub RoseBy-later : (a x y z : ℕ) → x ≤ y → RoseBy a y z → RoseBy a x z
RoseBy-later a x y z p q =
    let Rises : ℕ → Type 0 = λ n. RoseBy n x z in
    let same : 0 + a ≡ a = omega arith in
    subst Rises same (RoseBy-more 0 a x y z (RoseBy-none x y p) q)

pub later-RoseBy : (a x y : ℕ) → RoseBy a x y → x ≤ y
later-RoseBy a x y p = grind arith

-- how a count follows the calls that failed, stretch by stretch
pub CountsFailed-none : (a b : ℕ) → b ≡ a → CountsFailed 0 a b
CountsFailed-none a b same = record { rose = RoseBy-none a b (omega (arith, same)); steady = λ none. same }

pub CountsFailed-one : (a b : ℕ) → Rose a b → CountsFailed 1 a b
CountsFailed-one a b rose = record { rose = rose; steady = λ none. absurd (omega (arith, none)) }

pub CountsFailed-more : (m n a b c : ℕ) → CountsFailed m a b → CountsFailed n b c → CountsFailed (m + n) a c
CountsFailed-more m n a b c p q = record {
  rose = RoseBy-more m n a b c p.rose q.rose;
  steady = λ none. q.steady (omega (arith, none)) ∙ p.steady (omega (arith, none));
}

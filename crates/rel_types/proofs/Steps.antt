-- Steps one after another: what they give, and their first fault.
use Rattle.std.proofs.Common.{◌≡◌, refl, sym, ap, ◌∙◌, Option, Some, None, Ok, Err}
use Rattle.std.proofs.Common.{ℕ, List}
use Rattle.rel_lexer.specs.declared.place.Place.{Place}
use Rattle.rel_types.specs.declared.error.TypeError.{TypeError}
use Rattle.rel_types.specs.declared.error.TypeError.TheVariants.{Memory}
use Rattle.rel_types.specs.Outcomes.{Checked, after, defined, Fails, IsNotDefined}

pub after_ok : {A B : Type 0} (x : Checked A) (next : A → Checked B) (a : A) → x ≡ Ok a → after x next ≡ next a
unfolding after
after_ok x next a e = ap (λ y. after y next) e

pub after_err : {A B : Type 0} (x : Checked A) (next : A → Checked B) (e : TypeError) → x ≡ Err e → after x next ≡ Err e
unfolding after
after_err x next e h = ap (λ y. after y next) h

-- the next step gives what all give
pub gives : {A B : Type 0} (x : Checked A) (next : A → Checked B) (a : A) (r : Checked B) → x ≡ Ok a → next a ≡ r → after x next ≡ r
gives x next a r e h = after_ok x next a e ∙ h

-- a fault of the first step is the fault of all
pub fails_first : {A B : Type 0} (x : Checked A) (next : A → Checked B) (e : TypeError) → Fails x e → Fails (after x next) e
unfolding Fails
fails_first x next e h = λ n. after_err x next e (h n)

-- a fault of the next step is
pub fails_next : {A B : Type 0} (x : Checked A) (next : A → Checked B) (a : A) (e : TypeError) → x ≡ Ok a → Fails (next a) e → Fails (after x next) e
unfolding Fails
fails_next x next a e h f = λ n. after_ok x next a h ∙ f n

-- want of memory may come at any time
pub no_memory : {A : Type 0} (x : Checked A) → Fails x Memory
unfolding Fails
no_memory x = λ n. absurd (n refl)

pub fails_as : {A : Type 0} (x : Checked A) (e : TypeError) → x ≡ Err e → Fails x e
unfolding Fails
fails_as x e h = λ n. h

pub fails_at : {A : Type 0} (x : Checked A) (y : Checked A) (e : TypeError) → x ≡ y → Fails y e → Fails x e
unfolding Fails
fails_at x y e h f = λ n. h ∙ f n

pub fails_undefined : {A : Type 0} (at : Place) (words : List ℕ) (o : Option A) (e : TypeError) → o ≡ None → IsNotDefined at words e → Fails (defined at words o) e
unfolding Fails defined
fails_undefined at words o e h d = λ n. ap (defined at words) h ∙ ap Err (sym (d n))

pub defined_some : {A : Type 0} (at : Place) (words : List ℕ) (o : Option A) (a : A) → Some a ≡ o → defined at words o ≡ Ok a
unfolding defined
defined_some at words o a e = ap (defined at words) (sym e)

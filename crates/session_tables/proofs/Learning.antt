-- What was learned of the rows, in other words and call after call.
use Rattle.std.proofs.Common.{◌≡◌, ℕ, false, List, Option, None, Some, Result, Ok, Err, is_some, refl, ap, subst, ◌∙◌, arith}
use Rattle.std.specs.Result.{IsErrOf}
use Rattle.desk_base.specs.Counts.{CountsFaults}
use Rattle.bf_world.specs.declared.answer.Answer.{Answer}
use Rattle.bf_world.specs.declared.key.Key.{Key}
use Rattle.bf_world.specs.declared.parts.Node.{Node}
use Rattle.bf_world.specs.Places.{node_at}
use Rattle.bf_world.specs.Shown.{shown}
use Rattle.desk_keep.specs.declared.change.Change.{Change}
use Rattle.desk_keep.specs.Calls.{OnlyReads}
use Rattle.desk_keep.specs.Views.{KeeperView}
use Rattle.session_tables.specs.declared.stop.Stop.{Stop}
use Rattle.session_tables.specs.declared.stop.Stop.TheVariants as stop
use Rattle.session_tables.specs.Inside.{Learns}
use Rattle.session_tables.specs.Worlds.{tables_world}

-- ---- the same in other words
pub learned_as : {A : Type 0} (f g : List Change → A) (old : KeeperView) (r : Result A Stop) (new : KeeperView) → Learns f old r new
    → ((rows : List Change) → f rows ≡ g rows) → Learns g old r new
learned_as f g old (Ok a) new learns same = record { is = λ rows told. learns.is rows told ∙ same rows; only = learns.only }
learned_as f g old (Err e) new learns same = record { is = tt; only = learns.only }

-- of a key that is another name of it
pub shown_at : (old : KeeperView) (r : Result Answer Stop) (new : KeeperView) (k l : Key) → k ≡ l
    → Learns (λ rows. shown (tables_world rows) k) old r new → Learns (λ rows. shown (tables_world rows) l) old r new
shown_at old r new k l same learns =
    learned_as (λ rows. shown (tables_world rows) k) (λ rows. shown (tables_world rows) l) old r new learns (λ rows. ap (shown (tables_world rows)) same)

-- of a path
pub node_learned : (old : KeeperView) (r : Result (Option Node) Stop) (new : KeeperView) (p q : List ℕ) → p ≡ q
    → Learns (λ rows. node_at (tables_world rows) p) old r new → Learns (λ rows. node_at (tables_world rows) q) old r new
node_learned old r new p q same learns =
    learned_as (λ rows. node_at (tables_world rows) p) (λ rows. node_at (tables_world rows) q) old r new learns (λ rows. ap (node_at (tables_world rows)) same)

-- a call that failed in nothing failed in nothing, whatever it answered
only_ok : {A B : Type 0} (old new : KeeperView) (a : A) (b : B) → OnlyReads (IsErrOf (Ok a) stop.Keeper) old new → OnlyReads (IsErrOf (Ok b) stop.Keeper) old new
only_ok {A} {B} old new a b only = record {
  rows = only.rows;
  counts = record {
    rose = λ (e : IsErrOf (Ok b) stop.Keeper). absurd (cc);
    steady = λ _. only.counts.steady (λ (e : IsErrOf (Ok a) stop.Keeper). cc);
    later = only.counts.later;
  };
}

-- of what is made of it
pub learned_of : {A B : Type 0} (f : List Change → A) (g : List Change → B) (make : A → B) (old new : KeeperView) (a : A) (b : B) → Learns f old (Ok a) new
    → b ≡ make a → ((rows : List Change) → make (f rows) ≡ g rows) → Learns g old (Ok b) new
learned_of f g make old new a b learns made same = record {
  is = λ rows told. made ∙ ap make (learns.is rows told) ∙ same rows;
  only = only_ok old new a b learns.only;
}

-- ---- without a call
steady : (count : ℕ) (failed : Type 0) → (failed → ⊥) → CountsFaults failed count count
steady count failed not = record { rose = λ h. absurd (not h); steady = λ h. refl; later = omega arith }

pub known : {A : Type 0} (of : List Change → A) (view : KeeperView) (a : A) → ((rows : List Change) → a ≡ of rows) → Learns of view (Ok a) view
known of view a is = record {
  is = λ rows told. is rows;
  only = record { rows = refl; counts = steady view.faults (IsErrOf (Ok a) stop.Keeper) (λ e. cc) };
}

-- ---- after another call
only_after : {A B : Type 0} (old mid new : KeeperView) (a : A) (r : Result B Stop) → OnlyReads (IsErrOf (Ok a) stop.Keeper) old mid
    → OnlyReads (IsErrOf r stop.Keeper) mid new → OnlyReads (IsErrOf r stop.Keeper) old new
only_after {A} {B} old mid new a r first second =
    let same : mid.faults ≡ old.faults = first.counts.steady (λ (e : IsErrOf (Ok a) stop.Keeper). cc) in
    record {
      rows = second.rows ∙ first.rows;
      counts = subst (λ n. CountsFaults (IsErrOf r stop.Keeper) n new.faults) same second.counts;
    }

pub learned_after : {A B : Type 0} (f : List Change → A) (g h : List Change → B) (old mid new : KeeperView) (a : A) (r : Result B Stop)
    → Learns f old (Ok a) mid → Learns g mid r new → ((rows : List Change) → a ≡ f rows → g rows ≡ h rows) → Learns h old r new
learned_after f g h old mid new a (Ok b) first second same = record {
  is = λ rows told. second.is rows (first.only.rows ∙ told) ∙ same rows (first.is rows told);
  only = only_after old mid new a (Ok b) first.only second.only;
}
learned_after f g h old mid new a (Err e) first second same =
    record { is = tt; only = only_after old mid new a (Err e) first.only second.only }

-- ---- rows that aren't there
pub not_some : (o : Option Change) → is_some o ≡ false → o ≡ None
not_some None is = refl
not_some (Some row) is = absurd (cc)

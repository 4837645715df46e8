-- What a look at the tables is as a look at a machine.
use Rattle.std.proofs.Common.{◌≡◌, ◌++◌, ◌∷◌, [], ℕ, List, Option, None, Some, Ok, Err, append-nil, option_map, refl, sym, ap, ◌∙◌}
use Rattle.std.specs.Prelude.{unwrap_or}
use Rattle.bf_machine.specs.Looks.{LooksOn}
use Rattle.bf_machine.specs.Views.{OnlyLooks}
use Rattle.bf_machine.specs.declared.machine.Looked.TheVariants as of_look
use Rattle.bf_world.specs.declared.answer.Answer.{Answer}
use Rattle.bf_world.specs.declared.key.Key.{Key}
use Rattle.bf_world.specs.Answers.{HasAscendingNames, IsGoodAnswer}
use Rattle.bf_world.specs.Shown.{shown}
use Rattle.bf_world.specs.Worlds.{WorldState}
use Rattle.desk_keep.specs.declared.change.Change.{Change}
use Rattle.desk_keep.specs.Calls.{IfTold, OnlyReads}
use Rattle.desk_keep.specs.Views.{KeeperView}
use Rattle.session_tables.specs.declared.stop.Stop.TheVariants as stop
use Rattle.session_tables.specs.Inside.{Learns}
use Rattle.session_tables.specs.Worlds.{tables_view, tables_world}

-- an answer shows the world that is told
shows : (rows : Option (List Change)) (k : Key) (a : Answer) → IfTold rows (λ rows. a ≡ shown (tables_world rows) k)
    → (w : WorldState) → option_map tables_world rows ≡ Some w → a ≡ shown w k
shows None k a is w told = absurd (let none : None ≡ Some w = told in cc)
shows (Some rows) k a is w told = is rows refl ∙ ap (λ (o : Option WorldState). shown (unwrap_or o w) k) told

-- nothing but looks was done
only_looks : (failed : Type 0) (old new : KeeperView) (looked more : List Key) (holds : List ℕ) → OnlyReads failed old new
    → OnlyLooks (tables_view old looked holds) (tables_view new more holds)
only_looks failed old new looked more holds only = record {
  world = ap (option_map tables_world) only.rows;
  acted = refl;
  polled = refl;
  started = refl;
  later = only.counts.later;
  holds = refl;
}

pub look_answered : (old new : KeeperView) (looked more : List Key) (holds : List ℕ) (k : Key) (a : Answer)
    → Learns (λ rows. shown (tables_world rows) k) old (Ok a) new → IsGoodAnswer a → HasAscendingNames a → more ≡ looked ++ k ∷ []
    → LooksOn k (tables_view old looked holds) (of_look.Answer a) (tables_view new more holds)
look_answered old new looked more holds k a learns good ascending is = record {
  shows = shows old.rows k a learns.is;
  good = good;
  ascending = ascending;
  looked = is;
  only = only_looks _ old new looked more holds learns.only;
  counts = record {
    rose = λ e. absurd (let same : of_look.Answer a ≡ of_look.Failed = e in cc);
    steady = λ _. learns.only.counts.steady (λ e. cc);
    later = learns.only.counts.later;
  };
}

pub look_failed : (old new : KeeperView) (looked : List Key) (holds : List ℕ) (k : Key)
    → Learns (λ rows. shown (tables_world rows) k) old (Err stop.Keeper) new
    → LooksOn k (tables_view old looked holds) of_look.Failed (tables_view new looked holds)
look_failed old new looked holds k learns = record {
  shows = tt;
  good = tt;
  ascending = tt;
  looked = sym (append-nil looked);
  only = only_looks _ old new looked looked holds learns.only;
  counts = record {
    rose = λ _. learns.only.counts.rose refl;
    steady = λ other. absurd (other refl);
    later = learns.only.counts.later;
  };
}

pub look_forgotten : (old new : KeeperView) (looked : List Key) (holds : List ℕ) (k : Key)
    → Learns (λ rows. shown (tables_world rows) k) old (Err stop.Memory) new
    → LooksOn k (tables_view old looked holds) of_look.Memory (tables_view new looked holds)
look_forgotten old new looked holds k learns = record {
  shows = tt;
  good = tt;
  ascending = tt;
  looked = sym (append-nil looked);
  only = only_looks _ old new looked looked holds learns.only;
  counts = record {
    rose = λ e. absurd (let same : of_look.Memory ≡ of_look.Failed = e in cc);
    steady = λ _. learns.only.counts.steady (λ e. cc);
    later = learns.only.counts.later;
  };
}

-- `serve` says one thing, where nothing failed and all is told.
use Rattle.std.proofs.Common.{◌≡◌, ℕ, List, Some, Ok, sym, ap, ◌∙◌, subst, arith}
use Rattle.std.specs.declared.option.Option.{Option}
use Rattle.std.specs.Io.KnownBytes.{Appends}
use Rattle.desk_base.specs.Views.{SinkView}
use Rattle.desk_base.specs.declared.sink.Put.TheVariants as put
use Rattle.server_text.specs.Entries.{Entry}
use Rattle.server_core.specs.declared.limits.Limits.{Limits}
use Rattle.server_core.specs.DeskLimits.{desk_limits}
use Rattle.desk_serve.specs.OneServing.{IsSteady, LeaveAlike, TellsScene}
use Rattle.desk_serve.specs.ServeRuns.{Run, Runs, said, talk_count}
use Rattle.desk_serve.specs.ServeSteps.{Scene}
use Rattle.desk_top.specs.declared.command.ServeWords.{ServeWords}
use Rattle.desk_top.specs.Served.{OpensBoth, ServesAt}
use Rattle.desk_top.proofs.OneSaid.{bytes_fixed}

-- what desk_serve says of every two runs, in its law on them
abbrev pub OneServing : Type 0
OneServing = (limits : Limits) (coming written : List (List ℕ)) (accepted : List Entry) (old start one other : Scene) (run again : Run)
    → TellsScene coming written accepted old → TellsScene coming written accepted start → Runs limits old run one → Runs limits start again other
    → talk_count run ≡ talk_count again → IsSteady old one → IsSteady start other → (run ≡ again) × LeaveAlike one other

-- opening leaves what the keeper and the door tell, and fails nowhere
record OpenedSo (coming written : List (List ℕ)) (accepted : List Entry) (old opened new : Scene) : Type 0 where
  tells : TellsScene coming written accepted opened
  steady : IsSteady opened new
  held : opened.sink.held ≡ old.sink.held

opened_so : (asked : ServeWords) (coming written : List (List ℕ)) (accepted : List Entry) (old opened new : Scene) → OpensBoth asked old put.Done opened → TellsScene coming written accepted old → IsSteady old new
    → OpenedSo coming written accepted old opened new
opened_so asked coming written accepted old opened new both tells steady =
    let keeper : opened.keeper.faults ≡ old.keeper.faults = both.keeper.only.counts.steady (λ e. cc) in
    let door : opened.door.faults ≡ old.door.faults = both.door.counts.steady (λ e. cc) in
    let keeper_below = tells.keeper_rises in
    let door_below = tells.door_rises in record {
      tells = record {
        comes = both.door.coming ∙ tells.comes;
        holds = both.door.written ∙ tells.holds;
        tables = both.keeper.only.rows ∙ tells.tables;
        keeper_rises = omega (arith, keeper, keeper_below);
        door_rises = omega (arith, door, door_below);
      };
      steady = record { keeper = steady.keeper ∙ sym keeper; door = steady.door ∙ sym door };
      held = ap (λ (s : SinkView). s.held) both.sink;
    }

pub served_once : OneServing → (asked : ServeWords) (held : List ℕ) (coming written : List (List ℕ)) (accepted : List Entry) (old one other : Scene) → old.sink.held ≡ Some held → TellsScene coming written accepted old
    → ServesAt asked old (Ok tt) one → ServesAt asked old (Ok tt) other → IsSteady old one → IsSteady old other → (one.sink.held ≡ other.sink.held) × LeaveAlike one other
served_once law asked held coming written accepted old one other holds tells (opened, both, (run, is, goes)) (opened', both', (run', is', goes')) steady steady' =
    let so = opened_so asked coming written accepted old opened one both tells steady in
    let so' = opened_so asked coming written accepted old opened' other both' tells steady' in
    let alike = law desk_limits coming written accepted opened opened' one other run run' so.tells so'.tells goes.runs goes'.runs (is ∙ sym is') so.steady so'.steady in
    let P : Option (List ℕ) → Type 0 = λ h. Appends h one.sink.held (said run) in
    let Q : Option (List ℕ) → Type 0 = λ h. Appends h other.sink.held (said run') in
    (bytes_fixed old.sink.held one.sink.held other.sink.held held (said run) (said run') holds (ap said alike.0) (subst P so.held goes.lines) (subst Q so'.held goes'.lines), alike.1)

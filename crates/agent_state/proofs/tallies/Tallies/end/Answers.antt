use Rattle.std.proofs.Common.{◌≡◌, List, get_or, map, set, true, refl, Some, ap, sym, subst, ◌∙◌}
use Rattle.std.specs.List.Sorted.{IsStrictlyIncreasing}
use Rattle.act_rules.specs.Rows.{with_last}
use Rattle.act_rules.specs.Tallies.{StandsFor}
use Rattle.agent_text.specs.Histories.{PlainHistory, rows_at, with_history}
use Rattle.agent_state.specs.declared.tallies.ActionTally.{ActionTally}
use Rattle.agent_state.specs.Lookups.{TalliesStand}
use Rattle.line_forms.proofs.Rising.{rises_from_increasing}
use Rattle.agent_state.proofs.RowsAt.{are_rows, rows_here, rows_other}
use Rattle.agent_state.proofs.TallyLists.{id_of, ids_set, stand_changed, stand_others}
use Rattle.agent_state.proofs.tallies.Tallies.end.Goals as goal

pub invariant_of-self : goal.invariant_of-self
invariant_of-self c =
    let t : ActionTally = c.index_mut.result.now in
    subst IsStrictlyIncreasing (sym (ids_set c.self.inside.list.items c.in-Ok.place t (record t { tally = c.end.new.self }) c.index_mut.ensures.value refl)) c.self.invariant

pub returns-in-Ok : goal.returns-in-Ok
returns-in-Ok c = λ actions hs moment note are running stand.
    let id = c.args.action in
    let place = c.in-Ok.place in
    let ts = c.args.self.now in
    let t : ActionTally = c.index_mut.result.now in
    let new : ActionTally = record t { tally = c.end.new.self } in
    let up = rises_from_increasing id_of ts (subst (λ (l : List ActionTally). IsStrictlyIncreasing (map id_of l)) c.self.view_is c.self.invariant) in
    let at : t ≡ get_or ts place t = c.index_mut.ensures.value ∙ ap (λ (l : List ActionTally). get_or l place t) c.self.view_is in
    let rows = rows_at id hs in
    let told : PlainHistory = record { action = id; rows = with_last rows (λ row. record row { end = Some (moment, c.args.outcome); note = note }); pending = true } in
    subst (λ (l : List ActionTally). TalliesStand (set l place new) actions (with_history told hs)) (sym c.self.view_is)
    (stand_changed hs (with_history told hs) id (rows_other told hs) place ts actions t new up c.in-Ok.ensures.0 at (ap id_of at ∙ c.in-Ok.ensures.1 t) refl refl
    (λ retries stands. subst (StandsFor c.end.new.self retries) (sym (rows_here told hs)) (c.end.ensures.ended retries rows moment note (are_rows id hs are.good) running stands)) stand)

pub returns-in_default : goal.returns-in_default
returns-in_default c = λ actions hs moment note are running stand.
    let id = c.args.action in
    let told : PlainHistory = record { action = id; rows = with_last (rows_at id hs) (λ row. record row { end = Some (moment, c.args.outcome); note = note }); pending = true } in
    stand_others hs (with_history told hs) id (rows_other told hs) c.args.self.now actions c.in_default.ensures stand

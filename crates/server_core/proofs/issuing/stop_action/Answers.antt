use Rattle.std.proofs.Common.{rules, Some, [], ◌∷◌, ◌∙◌, ap, refl, sym}
use Rattle.desk_keep.specs.declared.change.Change.TheVariants as change
use Rattle.desk_keep.specs.declared.find.Find.TheVariants as find
use Rattle.desk_keep.specs.Keys.{asked_key}
use Rattle.server_text.specs.ActionStates.{is_stopped, stopped_text}
use Rattle.server_text.specs.Entries.{Stopped}
use Rattle.server_core.specs.AcceptedTables.{version_row}
use Rattle.server_core.proofs.Deciding.{accepted, batch_fits, next_is, own_id, stop_accepted, stop_puts, version_is_id}
use Rattle.server_core.proofs.issuing.stop_action.Goals as goal

pub put-requires : goal.put-requires
put-requires g c =
    let a = c.in-Some-Action in
    batch_fits a.id c.in_ok-stopped_text.field-0 a.digest c.in_ok-version_row.field-0 c.in-Some.version
    (own_id c.in_ok-id.field-0 (asked_key (find.Action c.args.id)) a.id a.text a.digest (a.is ∙ ap Some a.field-0-is) c.in_ok-id.ensures.good)
    (version_is_id c.in_ok-version.field-0 c.in-Some.version c.in-Some.is c.in_ok-version.ensures.good) c.in_ok-version_row.ensures

pub returns : goal.returns
returns g c = λ limits. record {
  plain = refl;
  answers = λ rows told.
      let a = c.in-Some-Action in
      let told2 = c.in_ok-id.ensures.learns.only.rows ∙ told in
      let told3 = c.in_ok-version.ensures.only.rows ∙ told2 in
      let there = c.in_ok-id.ensures.learns.is rows told in
      let is = a.is ∙ ap Some a.field-0-is in
      let next = next_is rows c.in_ok-version.field-0 c.in-Some.version c.in-Some.is (c.in_ok-version.ensures.next rows told2) in
      let text = c.in_ok-stopped_text.ensures ∙ ap stopped_text c.as_slice-2.ensures in
      let version = c.in_ok-version_row.ensures ∙ ap version_row next.0 in
      let runs = ap is_stopped (sym c.as_slice.ensures) ∙ sym c.is_stopped.ensures ∙ c.if-is_stopped.false in
      accepted limits rows (Stopped c.args.id) (change.Action a.id c.in_ok-stopped_text.field-0 a.digest ∷ c.in_ok-version_row.field-0 ∷ []) (g.K.Keeper.told c.put.new.keeper).rows
      (stop_accepted limits rows c.args.id c.in_ok-id.field-0 a.id a.text a.digest there is runs next.1)
      ((λ i. change.Action a.id (text i) a.digest ∷ version i ∷ []) ∙ stop_puts rows c.args.id c.in_ok-id.field-0 a.id a.text a.digest there is) (c.in_ok-put.ensures.ok rows told3);
  ends = search rules;
}

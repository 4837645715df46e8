use Rattle.std.proofs.Common.{rules, [], ◌∷◌, ◌∙◌, ap, refl}
use Rattle.sha2.specs.Sha256.{sha256}
use Rattle.fix_site.specs.Actions.{action_text}
use Rattle.desk_keep.specs.declared.change.Change.TheVariants as change
use Rattle.server_text.specs.Entries.{Issued}
use Rattle.server_core.specs.AcceptedTables.{version_row}
use Rattle.server_core.proofs.Deciding.{accepted, act_accepted, batch_fits, next_is, none_left, version_is_id}
use Rattle.server_core.proofs.issuing.issue_new_action.Goals as goal

pub put-requires : goal.put-requires
put-requires g c =
    batch_fits c.args.action.now.id c.in_ok-copy.field-0 c.digest.result c.in_ok-version_row.field-0 c.in-Some-2.version c.requires.good.id
    (version_is_id c.in_ok-version.field-0 c.in-Some-2.version c.in-Some-2.is c.in_ok-version.ensures.good) c.in_ok-version_row.ensures

pub returns : goal.returns
returns g c = record {
  plain = refl;
  answers = λ rows told.
      let told2 = c.in_ok-full.ensures.learns.only.rows ∙ told in
      let told3 = c.in_ok-version.ensures.only.rows ∙ told2 in
      let next = next_is rows c.in_ok-version.field-0 c.in-Some-2.version c.in-Some-2.is (c.in_ok-version.ensures.next rows told2) in
      let text = c.in_ok-copy.ensures ∙ c.requires.text in
      let digest = c.digest.ensures ∙ ap sha256 (c.as_slice-2.ensures ∙ c.requires.text) in
      let version = c.in_ok-version_row.ensures ∙ ap version_row next.0 in
      accepted c.args.limits rows (Issued c.args.action.now) (change.Action c.args.action.now.id c.in_ok-copy.field-0 c.digest.result ∷ c.in_ok-version_row.field-0 ∷ []) (g.K.Keeper.told c.put.new.keeper).rows
      (c.requires.fresh rows told ∙ act_accepted c.args.limits rows c.as_slice.result.now (action_text c.args.action.now) c.in_ok-full.field-0 (c.as_slice.ensures ∙ c.requires.text) (c.in_ok-full.ensures.learns.is rows told)
      (none_left c.in_ok-full.field-0 c.in_default.not-Some) next.1)
      (λ i. change.Action c.args.action.now.id (text i) (digest i) ∷ version i ∷ []) (c.in_ok-put.ensures.ok rows told3);
  ends = search rules;
}

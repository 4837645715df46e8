use Rattle.std.proofs.Common.{rules, ◌∙◌, refl, sym}
use Rattle.server_text.specs.Entries.{Reported}
use Rattle.server_core.proofs.Deciding.{accepted, none_left}
use Rattle.server_core.proofs.reporting.keep_new_report.Goals as goal

pub returns : goal.returns
returns g c = record {
  plain = refl;
  answers = λ rows told.
      let told2 = c.in_ok-full.ensures.learns.only.rows ∙ told in
      let told3 = c.in_ok-batch.ensures.learns.only.rows ∙ told2 in
      let room = c.requires.fresh rows told ∙ sym (c.in_ok-full.ensures.learns.is rows told) ∙ none_left c.in_ok-full.field-0 c.in_default.not-Some in
      accepted c.args.limits rows (Reported c.args.report.now) c.as_slice.result.now (g.K.Keeper.told c.put.new.keeper).rows room
      (c.as_slice.ensures ∙ c.in_ok-batch.ensures.learns.is rows told2) (c.in_ok-put.ensures.ok rows told3);
  ends = search rules;
}

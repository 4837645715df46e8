use Rattle.std.proofs.Common.{rules, ◌∙◌, ap}
use Rattle.std.specs.Prelude.{filter_map}
use Rattle.server_text.specs.declared.reply.Reply.TheVariants.{Sites}
use Rattle.server_text.specs.ToldRows.{site_version}
use Rattle.server_core.proofs.Deciding.{versions_listed}
use Rattle.server_core.proofs.asking.ask_sites.Goals as goal

pub returns-clause-learns : goal.returns-clause-learns
returns-clause-learns g c = record {
  is = λ rows told.
      ap Sites (c.in_ok-sites_in.ensures ∙ ap (filter_map site_version) (c.as_slice.ensures ∙ c.in_ok-rows.ensures.is rows told) ∙ versions_listed rows);
  only = search rules;
}

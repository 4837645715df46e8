use Rattle.std.proofs.Common.{filter, map, ap, ◌∙◌, rules}
use Rattle.std.proofs.lemmas.Fn.{filter_same}
use Rattle.rel_sources.specs.Rows.{is_of_sort, entry_item}
use Rattle.rel_sources.proofs.entries.Entries.new.Goals as goal

pub returns : goal.returns
returns c =
    ap (map (entry_item c.args.folders c.args.path)) (filter_same _ (is_of_sort c.args.folders) _ (λ x b f' k. search rules) _ _ c.retain.ensures.filtered ∙ ap (filter (is_of_sort c.args.folders)) c.into_vec-entries.ensures)

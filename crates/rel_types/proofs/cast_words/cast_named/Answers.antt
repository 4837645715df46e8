use Rattle.std.proofs.Common.{◌∙◌, ap, sym, option_map}
use Rattle.rel_types.proofs.Tables.{found_cast}
use Rattle.rel_types.proofs.cast_words.cast_named.Goals as goal

pub returns-in-Some : goal.returns-in-Some
returns-in-Some c = ap (option_map (λ x. x.now.cast)) (sym c.in-Some.is) ∙ found_cast c.args.words.now c.cast_rows.result.now c.row_named.result c.cast_rows.ensures c.row_named.ensures

pub returns-in-None : goal.returns-in-None
returns-in-None c = ap (option_map (λ x. x.now.cast)) (sym c.in-None.is) ∙ found_cast c.args.words.now c.cast_rows.result.now c.row_named.result c.cast_rows.ensures c.row_named.ensures

use Rattle.std.proofs.Common.{◌≡◌, sym, ◌∙◌, rules}
use Rattle.std.specs.List.{list_any}
use Rattle.std.proofs.lemmas.Iterator.{YieldsList-from_slice}
use Rattle.std.proofs.lemmas.Iterator.Search.{any_from_yields_List}
use borrow.Author.Tests.{tests}
use Rattle.group_text.proofs.AnalysisReading.{any_named, has_named, named}
use Rattle.group_text.proofs.analysis_reader.has_name.Goals as goal

pub returns : goal.returns
returns c =
    let ps = c.args.properties.now in
    let name = c.args.name.now in
    let is : c.any.result ≡ list_any (named name) ps =
    any_from_yields_List (named name) _ _ c.any.result c.any.ensures.ran (YieldsList-from_slice ps (cc)) (λ x b q k. search (rules, tests)) in
    ((λ yes. any_named ps name (sym is ∙ yes)), (λ has. is ∙ has_named ps name has))

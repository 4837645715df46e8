use Rattle.std.proofs.Common.{◌++◌, ◌∙◌, List, ℕ, codes, subst, sym}
use Rattle.desk_keep.specs.declared.find.Find.TheVariants as find
use Rattle.session_tables.specs.declared.spot.Spot.TheVariants as spot
use Rattle.session_tables.specs.Inside.{IsSpot}
use Rattle.session_tables.proofs.Spots.{no_site, site_there}
use Rattle.session_tables.proofs.spot.site_spot.Goals as goal

pub returns-then-not-is_shown_site : goal.returns-then-not-is_shown_site
returns-then-not-is_shown_site c = no_site c.args.name.now (sym c.is_shown_site.ensures ∙ c.if-not-is_shown_site.true)

pub returns : goal.returns
returns c =
    subst (λ (t : List ℕ). IsSpot (codes "/sites/" ++ c.args.name.now) (spot.Row (find.Site t))) (sym c.in_ok-from_str.ensures)
    (site_there c.args.name.now (sym c.is_shown_site.ensures ∙ c.if-not-is_shown_site.false))

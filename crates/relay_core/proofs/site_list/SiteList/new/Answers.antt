use Rattle.std.specs.List.Sorted.{IsStrictlySortedBy}
use Rattle.std.proofs.lemmas.List.Elements.{All-nil}
use Rattle.fix_site.specs.Sites.{IsSite}
use Rattle.relay_core.proofs.site_list.SiteList.new.Goals as goal

pub invariant_of-result : goal.invariant_of-result
unfolding IsStrictlySortedBy
invariant_of-result c = rw c.new.ensures.items (record { good = All-nil IsSite; ascending = tt })

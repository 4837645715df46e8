use Rattle.relay_cache.proofs.RequestLemmas.{given_again}
use Rattle.relay_cache.proofs.law.a_steady_upstream_gives_it_again.Goals as goal

pub returns : goal.returns
returns c = given_again

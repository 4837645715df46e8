use Rattle.relay_cache.proofs.RequestLemmas.{cached_was_given}
use Rattle.relay_cache.proofs.law.a_kept_file_was_given.Goals as goal

pub returns : goal.returns
returns c = cached_was_given

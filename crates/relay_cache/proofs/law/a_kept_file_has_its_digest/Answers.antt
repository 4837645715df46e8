use Rattle.std.proofs.lemmas.List.Elements.{All-contains}
use Rattle.relay_cache.specs.FileRequests.{GivesGenuine}
use Rattle.relay_cache.proofs.RequestLemmas.{genuine_after}
use Rattle.relay_cache.proofs.law.a_kept_file_has_its_digest.Goals as goal

pub returns : goal.returns
returns c = λ room requests all. genuine_after room requests (λ request here. All-contains GivesGenuine requests request all here)

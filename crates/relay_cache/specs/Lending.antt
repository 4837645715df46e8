-- What a cache ends as, once a reference into it has ended.
use Rattle.std.specs.Prelude.{◌≡◌, ⊤}
use Rattle.std.specs.Borrow.{Fml, MutBor, follows_so}
use mathlib.Core.Option.{none}
use Rattle.relay_cache.specs.CachedFiles.{CacheState}
use Rattle.relay_cache.specs.contracts.file_cache.FileCache.{the_row}

-- it is this one
abbrev pub EndsAs : MutBor CacheState → CacheState → Fml
EndsAs cache last = follows_so the_row the_row cache.ghost_name none (λ _ _. ⊤) (λ it. it ≡ last)

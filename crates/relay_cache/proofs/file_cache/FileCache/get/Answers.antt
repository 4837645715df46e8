use Rattle.std.proofs.Common.{None, refl, ap, ◌∙◌}
use Rattle.relay_cache.specs.CachedFiles.{CacheState, cached}
use Rattle.relay_cache.proofs.CacheLemmas.{cached_asked, genuine_cached, genuine_seen, seen, seen_promoted}
use Rattle.relay_cache.proofs.file_cache.FileCache.get.Goals as goal

pub invariant_of-self : goal.invariant_of-self
invariant_of-self c =
    let old = c.self.inside.files in let digest = c.args.digest.now in
    genuine_seen old c.promote.new.self digest None c.self.invariant tt
    (seen_promoted old c.promote.new.self digest c.promote.ensures.entries)

pub returns : goal.returns
returns c =
    let old = c.self.inside.files in let digest = c.args.digest.now in
    let e = seen_promoted old c.promote.new.self digest c.promote.ensures.entries in
    rw (← c.self.view_is) (
      (refl, λ _. tt, e),
      record {
        after = tt;
        found = c.peek.ensures ∙ ap (λ (s : CacheState). cached digest s.files) e ∙ cached_asked (seen old) digest;
        genuine = genuine_cached digest old.entries c.self.invariant.genuine;
      },
    )

use Rattle.std.proofs.Common.{◌≡◌, ℕ, Bool, List, true, false, not, Some, None, is_some, sym, ap, subst, ◌∙◌}
use Rattle.std.specs.Str.{bytes_eq}
use Rattle.std.proofs.lemmas.Bool.{not-false}
use Rattle.sha2.specs.Sha256.{sha256}
use Rattle.relay_cache.specs.CachedFiles.{PutsFile, cached}
use Rattle.relay_cache.specs.declared.kept.Kept.{Kept}
use Rattle.relay_cache.proofs.CacheLemmas.{exact, genuine_seen, is_missing, seen, seen_kept, seen_promoted, seen_put, still_missing, unmoved}
use Rattle.relay_cache.proofs.file_cache.FileCache.put.Goals as goal
use Rattle.relay_cache.proofs.file_cache.FileCache.put.Goals.{in-Ok, in-Err}

-- bytes that aren't refused have the digest
has : (bytes slice found digest : List ℕ) (differs : Bool) → slice ≡ bytes → found ≡ sha256 slice → differs ≡ not (bytes_eq found digest) → differs ≡ false
    → sha256 bytes ≡ digest
has bytes slice found digest differs whole hashed told so =
    ap sha256 (sym whole) ∙ sym hashed ∙ exact found digest (not-false (bytes_eq found digest) (sym told ∙ so))

pub invariant_of-self : goal.invariant_of-self
invariant_of-self c =
    let old = c.self.inside.files in let digest = c.args.digest.now in
    genuine_seen old c.promote.new.self digest None c.self.invariant tt
    (seen_promoted old c.promote.new.self digest c.promote.ensures.entries)

pub returns-then-promote : goal.returns-then-promote
returns-then-promote c =
    let old = c.self.inside.files in let digest = c.args.digest.now in let bytes = c.args.bytes.now in
    let sha = has bytes c.as_slice.result.now c.digest-found.result digest c.ne.result c.as_slice.ensures c.digest-found.ensures c.ne.ensures c.if-ne.false in
    let there : is_some (cached digest old.entries) ≡ true = sym c.promote.ensures.value ∙ c.if-promote.true in
    rw (← c.self.view_is) (sha, seen_kept old c.promote.new.self digest bytes there (seen_promoted old c.promote.new.self digest c.promote.ensures.entries))

pub put_new-requires : goal.put_new-requires
put_new-requires c =
    let old = c.self.inside.files in let digest = c.args.digest.now in
    let missing : is_some (cached digest old.entries) ≡ false = sym c.promote.ensures.value ∙ c.if-promote.false in
    still_missing old c.promote.new.self digest missing (seen_promoted old c.promote.new.self digest c.promote.ensures.entries)

pub invariant_of-self-2 : goal.invariant_of-self-2
invariant_of-self-2 c =
    let old = c.self.inside.files in let between = c.promote.new.self in let new = c.put_new.new.files in
    let digest = c.args.digest.now in let bytes = c.args.bytes.now in
    let sha = has bytes c.as_slice.result.now c.digest-found.result digest c.ne.result c.as_slice.ensures c.digest-found.ensures c.ne.ensures c.if-ne.false in
    let missing : is_some (cached digest old.entries) ≡ false = sym c.promote.ensures.value ∙ c.if-promote.false in
    let e = seen_promoted old between digest c.promote.ensures.entries in
    elim c.match-put_new.branch [
      | in-Ok w ↦ genuine_seen old new digest (Some bytes) c.self.invariant sha
          (seen_put old between digest missing e new bytes c.self.invariant.fits.least w.in-Ok.ensures.ok)
      | in-Err w ↦ genuine_seen old new digest None c.self.invariant tt (ap seen w.in-Err.ensures.err ∙ e)
    ]

pub returns : goal.returns
returns c =
    let old = c.self.inside.files in let between = c.promote.new.self in let new = c.put_new.new.files in
    let digest = c.args.digest.now in let bytes = c.args.bytes.now in
    let sha = has bytes c.as_slice.result.now c.digest-found.result digest c.ne.result c.as_slice.ensures c.digest-found.ensures c.ne.ensures c.if-ne.false in
    let missing : is_some (cached digest old.entries) ≡ false = sym c.promote.ensures.value ∙ c.if-promote.false in
    let e = seen_promoted old between digest c.promote.ensures.entries in
    rw (← c.self.view_is) (elim c.match-put_new.branch [
      | in-Ok w ↦ subst (λ (k : Kept). PutsFile (seen old) digest bytes k (seen new)) (sym w.result-is)
          (sha, seen_put old between digest missing e new bytes c.self.invariant.fits.least w.in-Ok.ensures.ok)
      | in-Err w ↦ subst (λ (k : Kept). PutsFile (seen old) digest bytes k (seen new)) (sym w.result-is)
          (sha, is_missing old between digest missing e, ap seen (w.in-Err.ensures.err ∙ unmoved old between digest missing e))
    ])

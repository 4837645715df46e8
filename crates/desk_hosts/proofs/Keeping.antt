-- What a cache keeps of what came of asking for a file.
use Rattle.std.proofs.Common.{◌≡◌, inl, inr, ℕ, Bool, true, false, List, Option, Some, None, refl, sym, ap, ◌∙◌, subst}
use Rattle.std.specs.Prelude.{bytes_eq, if◌then◌else◌}
use Rattle.std.proofs.lemmas.Slice.Eq.{bytes_eq-Decides}
use Rattle.sha2.specs.Sha256.{sha256}
use Rattle.relay_cache.specs.CachedFiles.{CacheState, PutsFile, after_ask, after_look, cached, with_files}
use Rattle.relay_cache.specs.declared.kept.Kept.TheVariants as kept
use Rattle.server_text.specs.declared.reply.Reply.TheVariants as reply
use Rattle.http_replies.specs.declared.answer.Answer.{Answer}
use Rattle.http_replies.specs.declared.answer.Answer.TheVariants as answer
use Rattle.desk_hosts.specs.declared.file.Came.TheVariants as came
use Rattle.desk_hosts.specs.HostCalls.{no_memory}
use Rattle.desk_hosts.specs.RelayFiles.{KeepsCame, KeepsGiven, given}

-- bytes that have the digest are given
matched : (digest bytes : List ℕ) → sha256 bytes ≡ digest → given digest (came.File bytes) ≡ Some bytes
matched digest bytes has = ap (λ (b : Bool). if b then Some bytes else None) ((bytes_eq-Decides (sha256 bytes) digest).1 has)

-- and others aren't
not_chosen : (digest bytes : List ℕ) (same : Bool) → bytes_eq (sha256 bytes) digest ≡ same → (sha256 bytes ≡ digest → ⊥)
    → ◌≡◌ {A = Option (List ℕ)} (if same then Some bytes else None) None
not_chosen digest bytes true e other = absurd (other ((bytes_eq-Decides (sha256 bytes) digest).0 e))
not_chosen digest bytes false e other = refl

-- the bytes were put
pub keeps_kept : (old new : CacheState) (digest bytes : List ℕ) → PutsFile old digest bytes kept.Kept new
    → KeepsCame old digest (came.File bytes) (answer.Reply (reply.Content bytes)) new
keeps_kept old new digest bytes put =
    subst (λ (o : Option (List ℕ)). KeepsGiven old digest answer.BadAnswer o (answer.Reply (reply.Content bytes)) new)
    (sym (matched digest bytes put.0)) (inl (refl, put.1))

-- they were refused
pub keeps_refused : (old new : CacheState) (digest bytes stated found : List ℕ) → PutsFile old digest bytes (kept.WrongDigest stated found) new
    → KeepsCame old digest (came.File bytes) answer.BadAnswer new
keeps_refused old new digest bytes stated found put =
    subst (λ (o : Option (List ℕ)). KeepsGiven old digest answer.BadAnswer o answer.BadAnswer new)
    (sym (not_chosen digest bytes (bytes_eq (sha256 bytes) digest) refl (λ has. put.0.differs (put.0.here ∙ has ∙ sym put.0.asked))))
    (refl, put.1)

-- there was no memory for them
pub keeps_short : (old new : CacheState) (digest bytes : List ℕ) → PutsFile old digest bytes kept.Memory new
    → KeepsCame old digest (came.File bytes) no_memory new
keeps_short old new digest bytes put =
    subst (λ (o : Option (List ℕ)). KeepsGiven old digest answer.BadAnswer o no_memory new) (sym (matched digest bytes put.0)) (inr (refl, put.2))

-- nothing came
pub keeps_nothing : (old : CacheState) (digest : List ℕ) (it : Answer) → KeepsCame old digest (came.Nothing it) it old
keeps_nothing old digest it = (refl, refl)

-- a cache that doesn't keep the file stays as it was
pub not_looked : (old : CacheState) (digest : List ℕ) → cached digest old.files ≡ None → with_files old (after_ask old digest None) ≡ old
not_looked old digest missing = ap (λ (o : Option (List ℕ)). with_files old (after_look old digest None o)) missing

-- The steps of a cache in the words of its definition.
use Rattle.std.proofs.Common.{◌≡◌, ◌≤◌, ◌-◌, ℕ, zero, suc, Bool, true, false, cond, List, [], ◌∷◌, take, All, IfSome, Option, Some, None, is_some, refl, sym, ap, ◌∙◌, subst, arith}
use Rattle.std.specs.List.{slice_index_or}
use Rattle.std.specs.Str.{bytes_eq}
use Rattle.std.specs.Option.{option_map, option_map_or}
use Rattle.std.specs.Map.{lookup_entry}
use Rattle.std.proofs.lemmas.Slice.Eq.{bytes_eq-Decides}
use Rattle.std.proofs.lemmas.List.Elements.{All-contains, All-contains_itself, All-cons, All-take}
use Rattle.std.proofs.lemmas.Map.Views.{Contains-from_lookup}
use Rattle.lru.specs.LruCache.{LruCache, lru_cache, promoted, put_entries}
use Rattle.lru.proofs.CallerLemmas.{Contains-remove_entry}
use Rattle.sha2.specs.Sha256.{sha256}
use Rattle.relay_cache.specs.CachedFiles.{File, CacheState, HasItsDigest, IsGenuine, cached, others, with_given, after_look, after_ask}

-- digests that are found equal are the same
pub exact : (x y : List ℕ) → bytes_eq x y ≡ true → x ≡ y
exact x y = (bytes_eq-Decides x y).0

-- the entry of a digest is the digest with the bytes that are kept
entry_at : (digest : List ℕ) (files : List File)
    → lookup_entry (bytes_eq digest) files ≡ option_map (λ bytes. (digest, bytes)) (cached digest files)
entry_at digest [] = refl
entry_at digest (file ∷ files) = (elim (bytes_eq digest file.0) as (λ b. bytes_eq digest file.0 ≡ b → cond b (Some file) (lookup_entry (bytes_eq digest) files) ≡ option_map (λ bytes. (digest, bytes)) (cond b (Some file.1) (cached digest files))) [
  | true ↦ λ e. ap (λ (d : List ℕ). Some (d, file.1)) (sym (exact digest file.0 e))
  | false ↦ λ e. entry_at digest files
]) refl

module _ (cache : CacheState) (digest : List ℕ) where
  brought_asked : (o : Option (List ℕ)) → option_map_or (λ e. e ∷ others digest cache.files) (option_map (λ bytes. (digest, bytes)) o) cache.files ≡ after_look cache digest None o
  brought_asked None = refl
  brought_asked (Some bytes) = refl

  -- a file that goes first where it is kept
  pub promoted_asked : promoted (bytes_eq digest) cache.files ≡ after_ask cache digest None
  promoted_asked =
      ap (λ (o : Option File). option_map_or (λ e. e ∷ others digest cache.files) o cache.files) (entry_at digest cache.files)
      ∙ brought_asked (cached digest cache.files)

  same_look : (given : Option (List ℕ)) (o : Option (List ℕ)) → is_some o ≡ true → after_look cache digest None o ≡ after_look cache digest given o
  same_look given None h = cc
  same_look given (Some bytes) h = refl

  -- what is given doesn't matter where the file is kept
  pub kept_asked : (given : Option (List ℕ)) → is_some (cached digest cache.files) ≡ true → after_ask cache digest None ≡ after_ask cache digest given
  kept_asked given h = same_look given (cached digest cache.files) h

  pub missing_asked : cached digest cache.files ≡ None → after_ask cache digest None ≡ cache.files
  missing_asked h = ap (after_look cache digest None) h

  pub given_asked : (bytes : List ℕ) → cached digest cache.files ≡ None → after_ask cache digest (Some bytes) ≡ take cache.room ((digest, bytes) ∷ cache.files)
  given_asked bytes h = ap (after_look cache digest (Some bytes)) h

  found_look : (o : Option (List ℕ)) → cached digest cache.files ≡ o → cached digest (after_look cache digest None o) ≡ o
  found_look None h = h
  found_look (Some bytes) h = ap (λ (b : Bool). cond b (Some bytes) (cached digest (others digest cache.files))) ((bytes_eq-Decides digest digest).1 refl)

  -- the file that was asked for is kept as before
  pub cached_asked : cached digest (after_ask cache digest None) ≡ cached digest cache.files
  cached_asked = found_look (cached digest cache.files) refl

take_first : {X : Type 0} (room : ℕ) (x : X) (xs : List X) → 1 ≤ room → x ∷ take (room - 1) xs ≡ take room (x ∷ xs)
take_first zero x xs h = absurd (omega (arith, h))
take_first (suc n) x xs h = let e : suc n - 1 ≡ n = omega arith in ap (λ (k : ℕ). x ∷ take k xs) e

-- a file that isn't there and is put
pub put_asked : (cache : CacheState) (digest bytes : List ℕ) → 1 ≤ cache.room → cached digest cache.files ≡ None
    → put_entries bytes_eq (lru_cache cache.files cache.room) digest bytes ≡ after_ask cache digest (Some bytes)
put_asked cache digest bytes least missing =
    ap (λ (o : Option File). option_map_or (λ e. (e.0, bytes) ∷ others digest cache.files) o ((digest, bytes) ∷ take (cache.room - 1) cache.files)) (entry_at digest cache.files ∙ ap (option_map (λ (b : List ℕ). (digest, b))) missing)
    ∙ take_first cache.room (digest, bytes) cache.files least ∙ sym (given_asked cache digest bytes missing)

-- the bytes that are kept have the digest
has_digest : (digest : List ℕ) (files : List File) → All HasItsDigest files → (o : Option (List ℕ)) → cached digest files ≡ o → IfSome o (λ bytes. sha256 bytes ≡ digest)
has_digest digest files all None e = tt
has_digest digest files all (Some bytes) e = All-contains HasItsDigest files (digest, bytes) all (Contains-from_lookup exact digest bytes files e)

pub genuine_cached : (digest : List ℕ) (files : List File) → All HasItsDigest files → IfSome (cached digest files) (λ bytes. sha256 bytes ≡ digest)
genuine_cached digest files all = has_digest digest files all (cached digest files) refl

genuine_others : (digest : List ℕ) (files : List File) → All HasItsDigest files → All HasItsDigest (others digest files)
genuine_others digest files all = λ k d h.
    All-contains HasItsDigest files (slice_index_or (others digest files) k d) all
    (Contains-remove_entry (bytes_eq digest) files (slice_index_or (others digest files) k d) (All-contains_itself (others digest files) k d h))

genuine_given : (cache : CacheState) (digest : List ℕ) (given : Option (List ℕ)) → All HasItsDigest cache.files → IfSome given (λ bytes. sha256 bytes ≡ digest)
    → All HasItsDigest (with_given cache digest given)
genuine_given cache digest None all h = all
genuine_given cache digest (Some bytes) all h =
    All-take HasItsDigest cache.room ((digest, bytes) ∷ cache.files) (All-cons HasItsDigest (digest, bytes) cache.files h all)

genuine_look : (cache : CacheState) (digest : List ℕ) (given : Option (List ℕ)) → All HasItsDigest cache.files → IfSome given (λ bytes. sha256 bytes ≡ digest)
    → (o : Option (List ℕ)) → IfSome o (λ bytes. sha256 bytes ≡ digest) → All HasItsDigest (after_look cache digest given o)
genuine_look cache digest given all h None k = genuine_given cache digest given all h
genuine_look cache digest given all h (Some bytes) k =
    All-cons HasItsDigest (digest, bytes) (others digest cache.files) k (genuine_others digest cache.files all)

-- each file has its digest after one was asked for
pub genuine_asked : (cache : CacheState) (digest : List ℕ) (given : Option (List ℕ)) → All HasItsDigest cache.files → IfSome given (λ bytes. sha256 bytes ≡ digest)
    → All HasItsDigest (after_ask cache digest given)
genuine_asked cache digest given all h =
    genuine_look cache digest given all h (cached digest cache.files) (genuine_cached digest cache.files all)

-- ---- the map of bounded size that holds the files
abbrev pub seen : LruCache (List ℕ) (List ℕ) → CacheState
seen files = record { room = files.cap; files = files.entries }

abbrev pub seen_after : LruCache (List ℕ) (List ℕ) → List ℕ → Option (List ℕ) → CacheState
seen_after old digest given = record { room = old.cap; files = after_ask (seen old) digest given }

none_of : {X : Type 0} (o : Option X) → is_some o ≡ false → o ≡ None
none_of None h = refl
none_of (Some x) h = cc

-- the file was looked for
pub seen_promoted : (old new : LruCache (List ℕ) (List ℕ)) (digest : List ℕ) → new ≡ lru_cache (promoted (bytes_eq digest) old.entries) old.cap
    → seen new ≡ seen_after old digest None
seen_promoted old new digest e =
    ap seen e ∙ ap (λ (files : List File). seen (lru_cache files old.cap)) (promoted_asked (seen old) digest)

pub genuine_seen : (old new : LruCache (List ℕ) (List ℕ)) (digest : List ℕ) (given : Option (List ℕ)) → IsGenuine old.cap old.entries
    → IfSome given (λ bytes. sha256 bytes ≡ digest) → seen new ≡ seen_after old digest given → IsGenuine new.cap new.entries
genuine_seen old new digest given all h e =
    subst (λ (cache : CacheState). IsGenuine cache.room cache.files) (sym e)
    (record { genuine = genuine_asked (seen old) digest given all.genuine h; fits = all.fits })

-- it was there, and was put
pub seen_kept : (old new : LruCache (List ℕ) (List ℕ)) (digest bytes : List ℕ) → is_some (cached digest old.entries) ≡ true
    → seen new ≡ seen_after old digest None → seen new ≡ seen_after old digest (Some bytes)
seen_kept old new digest bytes there e =
    e ∙ ap (λ (files : List File). seen (lru_cache files old.cap)) (kept_asked (seen old) digest (Some bytes) there)

-- it wasn't there
module _ (old between : LruCache (List ℕ) (List ℕ)) (digest : List ℕ) (missing : is_some (cached digest old.entries) ≡ false) (e : seen between ≡ seen_after old digest None) where
  pub is_missing : cached digest old.entries ≡ None
  is_missing = none_of (cached digest old.entries) missing

  pub unmoved : between ≡ old
  unmoved = ap (λ (cache : CacheState). lru_cache cache.files cache.room)
      (e ∙ ap (λ (files : List File). seen (lru_cache files old.cap)) (missing_asked (seen old) digest is_missing))

  pub still_missing : cached digest between.entries ≡ None
  still_missing = ap (λ (files : LruCache (List ℕ) (List ℕ)). cached digest files.entries) unmoved ∙ is_missing

  -- and was put
  pub seen_put : (new : LruCache (List ℕ) (List ℕ)) (bytes : List ℕ) → 1 ≤ old.cap
      → new ≡ lru_cache (put_entries bytes_eq between digest bytes) between.cap → seen new ≡ seen_after old digest (Some bytes)
  seen_put new bytes least put =
      ap seen put ∙ ap (λ (files : LruCache (List ℕ) (List ℕ)). seen (lru_cache (put_entries bytes_eq files digest bytes) files.cap)) unmoved
      ∙ ap (λ (files : List File). seen (lru_cache files old.cap)) (put_asked (seen old) digest bytes least is_missing)

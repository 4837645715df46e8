-- What is kept after a list of requests.
use Rattle.std.proofs.Common.{◌≡◌, ◌⊎◌, ℕ, List, [], ◌∷◌, All, Contains, Option, Some, None, refl, sym, ap, subst, inl, inr}
use Rattle.std.specs.Str.{bytes_eq}
use Rattle.std.proofs.lemmas.List.Elements.{All-contains, All-nil}
use Rattle.std.proofs.lemmas.Map.Views.{Contains-from_lookup}
use Rattle.lru.proofs.Splits.{Contains-head, Contains-tail, Contains-cons, Contains-nil}
use Rattle.lru.proofs.CallerLemmas.{Contains-remove_entry, Contains-take}
use Rattle.relay_cache.specs.CachedFiles.{File, CacheState, HasItsDigest, cached, others, with_given, after_look}
use Rattle.relay_cache.specs.FileRequests.{FileRequest, GivesGenuine, IsGivenBy, files_after}
use Rattle.relay_cache.proofs.CacheLemmas.{exact, genuine_asked}

-- the request that was given a file
abbrev request_of : File → FileRequest
request_of file = record { digest = file.0; given = Some file.1 }

module _ (cache : CacheState) (digest : List ℕ) (file : File) where
  given_or_there : (given : Option (List ℕ)) → Contains (with_given cache digest given) file
      → Contains cache.files file ⊎ (record { digest = digest; given = given } ≡ request_of file)
  given_or_there None c = inl c
  given_or_there (Some bytes) c = elim (Contains-cons (digest, bytes) cache.files file (Contains-take cache.room ((digest, bytes) ∷ cache.files) file c)) [
    | inl same ↦ inr (ap request_of same)
    | inr there ↦ inl there
  ]

  looked_or_there : (given o : Option (List ℕ)) → cached digest cache.files ≡ o → Contains (after_look cache digest given o) file
      → Contains cache.files file ⊎ (record { digest = digest; given = given } ≡ request_of file)
  looked_or_there given None e c = given_or_there given c
  looked_or_there given (Some bytes) e c = elim (Contains-cons (digest, bytes) (others digest cache.files) file c) [
    | inl same ↦ inl (subst (Contains cache.files) same (Contains-from_lookup exact digest bytes cache.files e))
    | inr there ↦ inl (Contains-remove_entry (bytes_eq digest) cache.files file there)
  ]

-- each kept file was given
was_given : (room : ℕ) (requests : List FileRequest) (file : File) → Contains (files_after room requests) file → Contains requests (request_of file)
was_given room [] file c = absurd (Contains-nil file c)
was_given room (request ∷ earlier) file c =
    let cache : CacheState = record { room = room; files = files_after room earlier } in
    elim (looked_or_there cache request.digest file request.given (cached request.digest cache.files) refl c) [
      | inl there ↦ Contains-tail request earlier (request_of file) (was_given room earlier file there)
      | inr same ↦ subst (Contains (request ∷ earlier)) same (Contains-head request earlier)
    ]

pub cached_was_given : (room : ℕ) (requests : List FileRequest) (digest bytes : List ℕ) → cached digest (files_after room requests) ≡ Some bytes
    → Contains requests (record { digest = digest; given = Some bytes })
cached_was_given room requests digest bytes e =
    was_given room requests (digest, bytes) (Contains-from_lookup exact digest bytes (files_after room requests) e)

pub genuine_after : (room : ℕ) (requests : List FileRequest) → ((request : FileRequest) → Contains requests request → GivesGenuine request) → All HasItsDigest (files_after room requests)
genuine_after room [] h = All-nil HasItsDigest
genuine_after room (request ∷ earlier) h =
    genuine_asked (record { room = room; files = files_after room earlier }) request.digest request.given
    (genuine_after room earlier (λ r c. h r (Contains-tail request earlier r c))) (h request (Contains-head request earlier))

steadily : (upstream : List ℕ → Option (List ℕ)) (digest bytes : List ℕ) → IsGivenBy upstream (record { digest = digest; given = Some bytes })
    → upstream digest ≡ Some bytes
steadily upstream digest bytes (inl never) = cc
steadily upstream digest bytes (inr same) = sym same

pub given_again : (upstream : List ℕ → Option (List ℕ)) (room : ℕ) (requests : List FileRequest) (digest bytes : List ℕ)
    → All (IsGivenBy upstream) requests → cached digest (files_after room requests) ≡ Some bytes → upstream digest ≡ Some bytes
given_again upstream room requests digest bytes all e =
    steadily upstream digest bytes
    (All-contains (IsGivenBy upstream) requests (record { digest = digest; given = Some bytes }) all (cached_was_given room requests digest bytes e))

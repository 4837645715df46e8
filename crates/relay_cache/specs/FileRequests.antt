-- The files that are kept after a list of requests.
use Rattle.std.specs.Prelude.{◌≡◌, ◌⊎◌, ℕ, List, [], ◌∷◌, None, IfSome}
use Rattle.std.specs.declared.option.Option.{Option}
use Rattle.sha2.specs.Sha256.{sha256}
use Rattle.relay_cache.specs.CachedFiles.{File, after_ask}

-- a request: the digest of the file, and the bytes that the upstream gave, where it was asked for the file and gave them
pub record FileRequest : Type 0 where
  pub digest : List ℕ
  pub given : Option (List ℕ)

-- the files that are kept after the requests, of which the latest comes first
abbrev pub files_after : ℕ → List FileRequest → List File
files_after room [] = []
files_after room (request ∷ earlier) =
    after_ask (record { room = room; files = files_after room earlier }) request.digest request.given

-- the bytes that were given have the digest
abbrev pub GivesGenuine : FileRequest → Type 0
GivesGenuine request = IfSome request.given (λ bytes. sha256 bytes ≡ request.digest)

-- the upstream was not asked, or gave what it gives for that digest
abbrev pub IsGivenBy : (List ℕ → Option (List ℕ)) → FileRequest → Type 0
IsGivenBy upstream request = (request.given ≡ None) ⊎ (request.given ≡ upstream request.digest)

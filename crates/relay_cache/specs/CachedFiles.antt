-- What a file cache keeps.
use Rattle.std.specs.Prelude.{◌≡◌, ◌≢◌, ◌≤◌, ℕ, bytes_eq, List, ◌∷◌, take, length, All, Some, None}
use Rattle.std.specs.declared.option.Option.{Option}
use Rattle.std.specs.List.{IsDistinct}
use Rattle.std.specs.Map.{keys_of, lookup, remove_entry}
use Rattle.sha2.specs.Sha256.{sha256}
use Rattle.relay_cache.specs.declared.kept.Kept.{Kept}
use Rattle.relay_cache.specs.declared.kept.Kept.TheVariants as kept

-- a file: its digest and its bytes
abbrev pub File : Type 0
File = List ℕ × List ℕ

-- how many files a cache has room for, and the kept ones, the one that was asked for last first
pub record CacheState : Type 0 where
  pub room : ℕ
  pub files : List File

abbrev pub with_files : CacheState → List File → CacheState
with_files cache files = record cache { files = files }

-- a cache has room for 1 to 64 files
pub record IsRoom (room : ℕ) : Type 0 where
  pub least : 1 ≤ room
  pub most : room ≤ 64

-- the digest of a file is the SHA-256 of its bytes
abbrev pub HasItsDigest : File → Type 0
HasItsDigest file = sha256 file.1 ≡ file.0

-- What holds of every cache.
pub record IsCache (cache : CacheState) : Type 0 where
  pub genuine : All HasItsDigest cache.files
  pub distinct : IsDistinct bytes_eq (keys_of cache.files)
  pub short : length cache.files ≤ cache.room
  pub fits : IsRoom cache.room

-- what of this isn't seen from a map of bounded size
pub record IsGenuine (room : ℕ) (files : List File) : Type 0 where
  pub genuine : All HasItsDigest files
  pub fits : IsRoom room

-- the bytes that are kept of the file of this digest
abbrev pub cached : List ℕ → List File → Option (List ℕ)
cached digest = lookup (bytes_eq digest)

-- the files without that of this digest
abbrev pub others : List ℕ → List File → List File
others digest = remove_entry (bytes_eq digest)

-- a file that isn't kept: where it was given it goes first, and the last one goes where there are then more than there is room for
abbrev pub with_given : CacheState → List ℕ → Option (List ℕ) → List File
with_given cache digest None = cache.files
with_given cache digest (Some bytes) = take cache.room ((digest, bytes) ∷ cache.files)

-- by what is kept of the file: it then goes first, whatever was given
abbrev pub after_look : CacheState → List ℕ → Option (List ℕ) → Option (List ℕ) → List File
after_look cache digest given None = with_given cache digest given
after_look cache digest given (Some bytes) = (digest, bytes) ∷ others digest cache.files

-- The files after the one of this digest was asked for, by the bytes that the upstream gave, if it gave any.
abbrev pub after_ask : CacheState → List ℕ → Option (List ℕ) → List File
after_ask cache digest given = after_look cache digest given (cached digest cache.files)

-- the bytes have this digest and not the stated one
pub record IsRefused (bytes digest stated found : List ℕ) : Type 0 where
  pub asked : stated ≡ digest
  pub here : found ≡ sha256 bytes
  pub differs : found ≢ stated

-- A file is put under a digest: it is kept where it has that digest, and refused where it hasn't. Memory may be wanting for one that isn't
-- kept.
abbrev pub PutsFile : CacheState → List ℕ → List ℕ → Kept → CacheState → Type 0
PutsFile old digest bytes kept.Kept new =
    (sha256 bytes ≡ digest) × (new ≡ with_files old (after_ask old digest (Some bytes)))
PutsFile old digest bytes (kept.WrongDigest stated found) new = IsRefused bytes digest stated found × (new ≡ old)
PutsFile old digest bytes kept.Memory new = (sha256 bytes ≡ digest) × (cached digest old.files ≡ None) × (new ≡ old)

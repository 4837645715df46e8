-- Digests as texts.
use Rattle.std.specs.Prelude.{◌≡◌, ℕ, List, length}
use Rattle.hex.specs.Hex.{IsBytes, encode_lower}

-- the text is these 32 bytes, each in two hexadecimal digits in lower case
abbrev pub IsDigest : List ℕ → List ℕ → Type 0
IsDigest text digest = (length digest ≡ 32) × IsBytes digest × (text ≡ encode_lower digest)

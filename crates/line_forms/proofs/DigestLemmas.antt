-- Digests and their texts.
use Rattle.std.proofs.Common.{◌≡◌, ℕ, List, length, Ok, ap, sym, ◌∙◌, arith}
use Rattle.hex.specs.Hex.{IsBytes, decode_sized}
use Rattle.hex.proofs.HexLemmas.{decode_sized-encode_lower, decode_sized-ok, decode_sized-twice, decode_of-ok}
use Rattle.line_forms.specs.Digests.{IsDigest}

-- a digest's text is decoded to it
pub decode-digest : (text digest : List ℕ) → IsDigest text digest → decode_sized text 32 ≡ Ok digest
decode-digest text digest is = ap (λ t. decode_sized t 32) is.2 ∙ decode_sized-encode_lower digest 32 is.0 is.1

pub digest-one : (text digest other : List ℕ) → IsDigest text digest → IsDigest text other → other ≡ digest
digest-one text digest other a b =
    let x = decode-digest text digest a in
    let y = decode-digest text other b in
    cc

-- what is decoded are 32 bytes
pub decoded-bytes : (text digest : List ℕ) → decode_sized text 32 ≡ Ok digest → (length digest ≡ 32) × IsBytes digest
decoded-bytes text digest is =
    let sized = decode_sized-ok text 32 digest is in
    let parts = decode_of-ok text digest (sym (decode_sized-twice text 32 sized) ∙ is) in
    (omega (arith, sized, parts.2), parts.3)

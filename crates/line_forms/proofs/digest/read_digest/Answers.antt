use Rattle.std.proofs.Common.{◌≡◌, Ok, sym, ap, ◌∙◌}
use Rattle.hex.specs.Hex.{decode_sized, encode_lower}
use Rattle.std.proofs.lemmas.Bool.{false≢true}
use Rattle.line_forms.proofs.DigestLemmas.{decode-digest, decoded-bytes}
use Rattle.line_forms.proofs.digest.read_digest.Goals as goal

pub returns-in_default : goal.returns-in_default
returns-in_default c = λ digest is.
    let e = decode-digest c.args.text.now digest is in
    let r = c.from_hex.ensures in
    cc

pub returns-then-not-is_text_of : goal.returns-then-not-is_text_of
returns-then-not-is_text_of c = λ digest is.
    let e = decode-digest c.args.text.now digest is in
    let r = c.from_hex.ensures in
    let same : digest ≡ c.in-Ok.digest = cc in
    false≢true (sym c.if-not-is_text_of.true ∙ c.is_text_of.ensures.1 (is.2 ∙ ap encode_lower same))

pub returns : goal.returns
returns c =
    let read : decode_sized c.args.text.now 32 ≡ Ok c.in-Ok.digest = sym c.from_hex.ensures ∙ c.in-Ok.is in
    let bytes = decoded-bytes c.args.text.now c.in-Ok.digest read in
    ((bytes.0, bytes.1, c.is_text_of.ensures.0 c.if-not-is_text_of.false), λ other is. let e = decode-digest c.args.text.now other is in cc)

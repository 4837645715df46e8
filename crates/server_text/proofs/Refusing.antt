-- The lines that are told of texts that aren't read.
use Rattle.std.proofs.Common.{◌≡◌, ℕ, List, refl, inl, inr}
use Rattle.std.specs.Prelude.{Ok, Err}
use Rattle.fix_site.specs.declared.site.Site.{Site}
use Rattle.fix_site.specs.declared.error.SiteError.TheVariants as error
use Rattle.fix_site.specs.Answers.{ReadsSite}
use Rattle.fix_site.specs.Pieces.{pieces_of}
use Rattle.site_check.specs.declared.finding.Finding.TheVariants as finding
use Rattle.site_check.specs.declared.refusal.PieceRefusal.{PieceRefusal}
use Rattle.site_check.specs.Findings.{FirstRefused}
use Rattle.server_text.specs.declared.text_error.TextError.{TextError}
use Rattle.server_text.specs.declared.text_error.TextError.TheVariants as text
use Rattle.server_text.specs.TextParts.{IsUnreadAction}
use Rattle.server_text.specs.RequestTexts.{IsRefusedSite, ReadsIssued, ReadsPublished, Tells, line_count, refused_line}

pub bad_line : (bytes : List ℕ) (line : ℕ) → ReadsSite bytes (Err (error.BadLine line)) → IsRefusedSite bytes line
bad_line bytes line reads = (finding.BadLine line, reads, refl)

pub twice_line : (bytes : List ℕ) (line : ℕ) → ReadsSite bytes (Err (error.TwiceId line)) → IsRefusedSite bytes line
twice_line bytes line reads = (finding.TwiceId line, reads, refl)

pub digest_line : (bytes stated found : List ℕ) (line : ℕ) → ReadsSite bytes (Err (error.WrongDigest stated found)) → line ≡ line_count bytes → IsRefusedSite bytes line
digest_line bytes stated found line reads is = (finding.WrongDigest stated found, reads, is)

pub whole_text : (bytes : List ℕ) → ReadsSite bytes (Err error.TooLong) → IsRefusedSite bytes 0
whole_text bytes reads = (finding.TooLong, reads, refl)

pub piece_line : (bytes : List ℕ) (site : Site) (refusal : PieceRefusal) (line : ℕ) → ReadsSite bytes (Ok site) → FirstRefused (pieces_of site) refusal → line ≡ refused_line refusal → ReadsPublished bytes (Err line)
piece_line bytes site refusal line reads first is = inl (finding.BadPiece refusal, (site, reads, first), is)

pub no_action : (bytes : List ℕ) (error : TextError) → IsUnreadAction bytes error → Tells (ReadsIssued bytes) (Err error)
no_action bytes (text.BadText line) h = inl h
no_action bytes text.Memory h = tt

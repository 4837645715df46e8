-- What is found in the text of a site.
use Rattle.std.specs.Prelude.{◌≡◌, ℕ, Bool, true, false, List, ◌∷◌, ◌++◌, All, count_by, Option, Some, None, Ok, Err, ⊤}
use Rattle.fix_site.specs.declared.block.Block.{Block}
use Rattle.fix_site.specs.declared.block.Block.TheVariants.{Fixlet as fixlet_block, Baseline as baseline_block}
use Rattle.fix_site.specs.declared.error.SiteError.TheVariants as site
use Rattle.fix_site.specs.declared.piece.Piece.{Piece}
use Rattle.fix_site.specs.declared.site.Site.{Site}
use Rattle.fix_site.specs.Answers.{ReadsSite}
use Rattle.fix_site.specs.Pieces.{pieces_of}
use Rattle.site_check.specs.declared.finding.Finding.{Finding}
use Rattle.site_check.specs.declared.finding.Finding.TheVariants.{Good, BadLine, TwiceId, WrongDigest, TooLong, BadPiece, Memory}
use Rattle.site_check.specs.declared.refusal.PieceRefusal.{PieceRefusal}
use Rattle.site_check.specs.Pieces.{IsGoodPiece, IsRefusedPiece}

abbrev pub is_fixlet : Block → Bool
is_fixlet (fixlet_block fixlet) = true
is_fixlet other = false

abbrev pub is_baseline : Block → Bool
is_baseline (baseline_block baseline) = true
is_baseline other = false

-- One of the pieces is refused so, and all before it are good.
pub record FirstRefused (pieces : List Piece) (refusal : PieceRefusal) : Type 0 where
  pub before : List Piece
  pub piece : Piece
  pub behind : List Piece
  pub splits : pieces ≡ before ++ piece ∷ behind
  pub good : All IsGoodPiece before
  pub wrong : IsRefusedPiece piece refusal

-- all pieces are good where nothing is wrong with them, and otherwise the first that isn't is refused so
abbrev pub JudgesPieces : List Piece → Option PieceRefusal → Type 0
JudgesPieces pieces None = All IsGoodPiece pieces
JudgesPieces pieces (Some refusal) = FirstRefused pieces refusal

-- The text is that of a site whose pieces are all good, with so many fixlets and baselines.
pub record IsGoodSite (text : List ℕ) (fixlets baselines : ℕ) : Type 0 where
  pub site : Site
  pub reads : ReadsSite text (Ok site)
  pub pieces : All IsGoodPiece (pieces_of site)
  pub fixlet_count : fixlets ≡ count_by is_fixlet site.blocks
  pub baseline_count : baselines ≡ count_by is_baseline site.blocks

-- The text is that of a site, whose first piece that is no good one is refused so.
abbrev pub HasRefusedPiece : List ℕ → PieceRefusal → Type 0
HasRefusedPiece text refusal = (site : Site) × ReadsSite text (Ok site) × FirstRefused (pieces_of site) refusal

-- what is found first in a site's text: in the whole of it, and then piece by piece
abbrev pub Finds : List ℕ → Finding → Type 0
Finds text (Good fixlets baselines) = IsGoodSite text fixlets baselines
Finds text (BadLine line) = ReadsSite text (Err (site.BadLine line))
Finds text (TwiceId line) = ReadsSite text (Err (site.TwiceId line))
Finds text (WrongDigest stated found) = ReadsSite text (Err (site.WrongDigest stated found))
Finds text TooLong = ReadsSite text (Err site.TooLong)
Finds text (BadPiece refusal) = HasRefusedPiece text refusal
Finds text Memory = ⊤

-- Sites and their texts.
use Rattle.std.specs.Prelude.{◌≡◌, ℕ, List, [], ◌∷◌, ◌++◌, length, flat_map, codes, decimal}
use Rattle.hex.specs.Hex.{IsBytes, encode_lower}
use Rattle.sha2.specs.Sha256.{sha256}
use Rattle.line_forms.specs.Names.{IsName}
use Rattle.line_forms.specs.Fields.{field_text}
use Rattle.line_forms.specs.FieldLists.{line_of}
use Rattle.line_forms.specs.Lines.{lines_text}
use Rattle.line_forms.specs.Numbers.{IsId}
use Rattle.fix_site.specs.declared.block.Block.{Block}
use Rattle.fix_site.specs.declared.site.Site.{Site}
use Rattle.fix_site.specs.Blocks.{AreBlocks, IsKindOf, HasId, block_id, id_line, block_lines}

-- a site that can be spelled
pub record IsSite (site : Site) : Type 0 where
  pub name : IsName site.name
  pub version : IsId site.version
  pub blocks : AreBlocks site.name site.blocks

-- the first line of a site
abbrev pub site_line : List ℕ → ℕ → List ℕ
site_line name version = field_text (codes "site") ++ line_of (name ∷ decimal version ∷ [])

-- the lines of a site before the last
abbrev pub body_lines : Site → List (List ℕ)
body_lines site = site_line site.name site.version ∷ flat_map block_lines site.blocks

-- the last line
abbrev pub digest_line : List ℕ → List ℕ
digest_line digest = field_text (codes "digest") ++ encode_lower digest

-- the site's digest: SHA-256 of all bytes before the last line
abbrev pub site_digest : Site → List ℕ
site_digest site = sha256 (lines_text (body_lines site))

-- the lines of a site, with this digest in the last
abbrev pub lines_with : Site → List ℕ → List (List ℕ)
lines_with site digest = body_lines site ++ digest_line digest ∷ []

-- the lines of a site
abbrev pub site_lines : Site → List (List ℕ)
site_lines site = lines_with site (site_digest site)

-- the one text of a site
abbrev pub site_text : Site → List ℕ
site_text site = lines_text (site_lines site)

-- 32 bytes
abbrev pub IsDigestValue : List ℕ → Type 0
IsDigestValue digest = (length digest ≡ 32) × IsBytes digest

-- these are the lines of a site, whatever digest the last states
abbrev pub AreSiteLines : List (List ℕ) → Type 0
AreSiteLines lines =
    (site : Site) × (digest : List ℕ) × IsSite site × IsDigestValue digest × (lines ≡ lines_with site digest)

-- The last of these lines is the first one of a block, whose id stood before; without it they begin a site that can have
-- blocks of this kind.
pub record EndsInTwiceId (lines : List (List ℕ)) : Type 0 where
  pub site : Site
  pub block : Block
  pub good : IsSite site
  pub kind : IsKindOf site.name block
  pub twice : HasId site.blocks (block_id block)
  pub are : lines ≡ body_lines site ++ id_line block ∷ []

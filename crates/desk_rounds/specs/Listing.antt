-- How the lines of listed sites, and the text of a site, are read. Only private functions cite these definitions.
use Rattle.std.specs.Prelude.{◌≡◌, ℕ, ◌-◌, List, [], ◌∷◌, ◌++◌, length, decimal, slice_get, IfSome, MatchOption, Option, Ok, Err, ⊤}
use Rattle.std.specs.declared.cmp.Ordering.TheVariants.{Less}
use Rattle.std.specs.declared.result.Result.{Result}
use Rattle.std.specs.Ordering.{nat_cmp}
use Rattle.std.specs.Cmp.Lexicographic.{slice_cmp}
use Rattle.line_forms.specs.Fields.{field_text}
use Rattle.fix_site.specs.Answers.{IsShort}
use Rattle.fix_site.specs.Sites.{IsSite, site_text}
use Rattle.fix_site.specs.declared.error.SiteError.{SiteError}
use Rattle.fix_site.specs.declared.error.SiteError.TheVariants as error
use Rattle.fix_site.specs.declared.site.Site.{Site}
use Rattle.server_text.specs.declared.site_versions.SiteVersion.{SiteVersion}
use Rattle.desk_rounds.specs.declared.asking.Miss.{Miss}
use Rattle.desk_rounds.specs.declared.asking.Miss.TheVariants.{NoAnswer, BadAnswer, Memory}
use Rattle.desk_rounds.specs.declared.listed.NamedVersion.{NamedVersion}
use Rattle.desk_rounds.specs.Replies.{AreListed, AreVersionsIn, IsListed}

-- the line of a listed site, without its LF
abbrev pub listed_line : SiteVersion → List ℕ
listed_line site = field_text site.name ++ decimal site.version

-- the site of a name and a version that were read
abbrev pub listed_site : NamedVersion → SiteVersion
listed_site named = record { name = named.name.now; version = named.version }

-- the name and the version of a line
abbrev pub ReadsLine : List ℕ → Option NamedVersion → Type 0
ReadsLine line found =
    MatchOption found ((site : SiteVersion) → IsListed site → ¬ (line ≡ listed_line site))
    (λ named. IsListed (listed_site named) × (line ≡ listed_line (listed_site named)))

-- the name comes behind that of the last of these
abbrev pub IsBehindLast : List SiteVersion → List ℕ → Type 0
IsBehindLast sites name = IfSome (slice_get sites (length sites - 1)) (λ last. slice_cmp nat_cmp last.name name ≡ Less)

-- The site of a line was appended to listed ones, or with it they would be none.
abbrev pub TakesVersion : List ℕ → List SiteVersion → Result Unit Miss → List SiteVersion → Type 0
TakesVersion line old (Ok done) new = (site : SiteVersion) × (line ≡ listed_line site) × (new ≡ old ++ site ∷ []) × AreListed new
TakesVersion line old (Err NoAnswer) new = ⊥
TakesVersion line old (Err BadAnswer) new = (site : SiteVersion) → line ≡ listed_line site → ¬ AreListed (old ++ site ∷ [])
TakesVersion line old (Err Memory) new = ⊤

-- the sites whose text it is
abbrev pub ReadsVersions : List ℕ → Result (List SiteVersion) Miss → Type 0
ReadsVersions text (Ok sites) = AreVersionsIn text sites
ReadsVersions text (Err NoAnswer) = ⊥
ReadsVersions text (Err BadAnswer) = (sites : List SiteVersion) → ¬ AreVersionsIn text sites
ReadsVersions text (Err Memory) = ⊤

-- ---- the text of a site
-- the text is that of a site of this name, which can be spelled
pub record IsNamedText (name text : List ℕ) (site : Site) : Type 0 where
  pub short : IsShort text
  pub good : IsSite site
  pub text_is : text ≡ site_text site
  pub named : site.name ≡ name

-- the site itself, if it has this name
abbrev pub HasName : List ℕ → Site → Result Site Miss → Type 0
HasName name site (Ok same) = (site.name ≡ name) × (same ≡ site)
HasName name site (Err why) = (why ≡ BadAnswer) × ¬ (site.name ≡ name)

-- what it is where a text isn't read as a site
abbrev pub miss_of : SiteError → Miss
miss_of error.Memory = Memory
miss_of other = BadAnswer

-- the site of this name whose text it is
abbrev pub ReadsNamed : List ℕ → List ℕ → Result Site Miss → Type 0
ReadsNamed name text (Ok site) = IsNamedText name text site
ReadsNamed name text (Err NoAnswer) = ⊥
ReadsNamed name text (Err BadAnswer) = (site : Site) → ¬ IsNamedText name text site
ReadsNamed name text (Err Memory) = ⊤

-- What a request asks, as its text was read.
use Rattle.std.specs.Prelude.{ℕ, List}
use Rattle.fix_site.specs.declared.site.Site.{Site}
use Rattle.fix_site.specs.declared.action.Action.{Action}
use Rattle.report_text.specs.declared.report.Report.{Report}

-- what a server may accept, and keep from then on
pub data Entry : Type 0 where
  Published : (site : Site) → Entry
  Issued : (action : Action) → Entry
  -- that the action of this id begins no more runs
  Stopped : (id : ℕ) → Entry
  Filed : (bytes : List ℕ) → Entry
  Reported : (report : Report) → Entry

-- what a request asks
pub data Asked : Type 0 where
  -- to accept this
  Enters : (entry : Entry) → Asked
  -- which sites there are
  Versions : Asked
  -- for the text of the site of this name, where its version is greater than this one
  SiteText : (name : List ℕ) (version : ℕ) → Asked
  -- for the file of this digest
  FileBytes : (digest : List ℕ) → Asked
  -- for the results of this computer
  Results : (computer : List ℕ) → Asked
  -- nothing: its text is refused at this line
  Bad : (line : ℕ) → Asked

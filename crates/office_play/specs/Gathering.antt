-- What a relay does that gathers, over the rows of the server's tables.
use Rattle.std.specs.Prelude.{◌≡◌, ℕ, List, ◌++◌}
use Rattle.desk_keep.specs.declared.change.Change.{Change}
use Rattle.relay_core.specs.Relays.{RelayState}
use Rattle.server_text.specs.declared.site_versions.SiteVersion.{SiteVersion}
use Rattle.server_text.specs.Entries.{Entry}
use Rattle.office_rules.specs.RelayWords.{TakesNewer, TakesText, site_reply}
use Rattle.office_play.specs.Kept.{AreRowsOf}

-- It asks for the site of a name, and takes what is answered: so it is for whatever the rows are the tables of.
abbrev pub TakesOver : List ℕ → List Change → List ℕ → RelayState → List ℕ → RelayState → List ℕ → Type 0
TakesOver name rows site old out new then =
    (accepted : List Entry) → AreRowsOf accepted rows
    → (said : List ℕ) × TakesText name (site_reply accepted old site) old said new × (then ≡ out ++ said)

-- It asks for each of these sites in turn.
abbrev pub TakesEachOver : List ℕ → List Change → List SiteVersion → RelayState → List ℕ → RelayState → List ℕ → Type 0
TakesEachOver name rows sites old out new then =
    (accepted : List Entry) → AreRowsOf accepted rows
    → (said : List ℕ) × TakesNewer name accepted sites old said new × (then ≡ out ++ said)

-- A row in its form is shown exactly where it has a path.
use Rattle.std.proofs.Common.{◌≡◌, ◌≢◌, ◌↔◌, ℕ, true, Decides, List, codes}
use Rattle.std.proofs.lemmas.Bool.{and_parts}
use Rattle.std.proofs.lemmas.Bool.Decides.{Decides-and, Decides-not}
use Rattle.std.proofs.lemmas.Slice.Eq.{bytes_eq-Decides}
use Rattle.line_forms.specs.Names.{IsName}
use Rattle.desk_keep.specs.declared.change.Change.{Change}
use Rattle.desk_keep.specs.declared.change.Change.TheVariants as change
use Rattle.desk_keep.specs.Forms.{Fits}
use Rattle.session_tables.specs.Paths.{HasPath, actionsite, find_of, is_shown, is_shown_id, is_shown_name, is_shown_site}
use Rattle.session_tables.proofs.Naming.{IsShownName, id-Decides, shown_name-Decides}
use Rattle.session_tables.proofs.Spots.{both_true}

named : (name : List ℕ) → IsName name → (is_shown_name name ≡ true) ↔ ((name ≢ codes ".") × (name ≢ codes ".."))
unfolding IsShownName
named name is =
    let decides = shown_name-Decides name in
    (λ h. ((decides.0 h).1, (decides.0 h).2), λ h. decides.1 (is, h.0, h.1))

site-Decides : (name : List ℕ) → Decides (is_shown_site name) (IsShownName name × (name ≢ actionsite))
unfolding is_shown_site
site-Decides name = Decides-and _ _ (shown_name-Decides name) (Decides-not _ (bytes_eq-Decides name actionsite))

sited : (name : List ℕ) → IsName name → (is_shown_site name ≡ true) ↔ ((name ≢ codes ".") × (name ≢ codes "..") × (name ≢ actionsite))
unfolding IsShownName
sited name is =
    let decides = site-Decides name in
    (λ h. ((decides.0 h).0.1, (decides.0 h).0.2, (decides.0 h).1), λ h. decides.1 ((is, h.0, h.1), h.2))

pub has_path : (row : Change) → Fits row → (is_shown (find_of row) ≡ true) ↔ HasPath row
has_path (change.Site name version text) fits = sited name fits.0
has_path (change.Action id text digest) fits = (λ h. tt, λ h. (id-Decides id).1 fits)
has_path (change.File digest bytes) fits = (λ h. absurd (cc), λ h. absurd h)
has_path (change.Computer name) fits = named name fits
has_path (change.Report computer seq digest) fits = (λ h. absurd (cc), λ h. absurd h)
has_path (change.Result result) fits =
    let computer = named result.computer fits.computer in
    let id : is_shown_id result.row.action ≡ true = (id-Decides result.row.action).1 fits.row.1.action in (
      λ h. computer.0 (and_parts (is_shown_name result.computer) (is_shown_id result.row.action) h).0,
      λ h. both_true (is_shown_name result.computer) (is_shown_id result.row.action) (computer.1 h) id,
    )

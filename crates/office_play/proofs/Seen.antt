-- Computers of the code as the computers that they are.
use Rattle.std.proofs.Common.{◌≡◌, ℕ, List, sym, ap, ◌∙◌}
use Rattle.std.specs.Prelude.{get_or, map, slice_set}
use Rattle.std.proofs.Math.ListN.{get_or-map}
use Rattle.std.proofs.lemmas.List.{map-set}
use Rattle.desk_keep.specs.declared.change.Change.{Change}
use Rattle.group_core.specs.Books.{BookState}
use Rattle.relay_core.specs.Relays.{RelayState}
use Rattle.office_play.specs.Kept.{KeptOffice}
use Rattle.office_play.specs.States.{ComputerState, OfficeState, kept_of, shown_computer, shown_entry}

-- the one at a place
pub entry_seen : (computers : List (List ℕ × ComputerState)) (place : ℕ) (entry : List ℕ × ComputerState)
    → entry ≡ get_or computers place entry → shown_entry entry ≡ get_or (map shown_entry computers) place (shown_entry entry)
entry_seen computers place entry is = ap shown_entry is ∙ sym (get_or-map shown_entry computers place entry)

-- the office with another one at a place
pub set_seen : (o : OfficeState) (place : ℕ) (entry : List ℕ × ComputerState)
    → kept_of (record o { computers = slice_set o.computers place entry })
    ≡ record (kept_of o) { computers = slice_set (kept_of o).computers place (shown_entry entry) }
set_seen o place entry =
    ap (λ c. record (kept_of o) { computers = c }) (map-set shown_entry o.computers place entry)

-- So it is where the code sees the office as it is, and sets a relay or a computer under the name that it had.
pub relay_changed : (seen old : OfficeState) (place : ℕ) (entry item : List ℕ × RelayState) (w : RelayState) → seen ≡ old
    → item ≡ (entry.0, w)
    → record (kept_of seen) { relays = slice_set seen.relays place item }
    ≡ record (kept_of old) { relays = slice_set old.relays place (entry.0, w) }
relay_changed seen old place entry item w is same =
    ap (λ (o : OfficeState). record (kept_of o) { relays = slice_set o.relays place item }) is
    ∙ ap (λ (e : List ℕ × RelayState). record (kept_of old) { relays = slice_set old.relays place e }) same

pub computer_changed : (seen old : OfficeState) (place : ℕ) (entry item : List ℕ × ComputerState) (w : ComputerState) → seen ≡ old
    → item ≡ (entry.0, w)
    → kept_of (record seen { computers = slice_set seen.computers place item })
    ≡ record (kept_of old) { computers = slice_set (kept_of old).computers place (entry.0, shown_computer w) }
computer_changed seen old place entry item w is same =
    ap (λ (o : OfficeState). kept_of (record o { computers = slice_set o.computers place item })) is
    ∙ set_seen old place item
    ∙ ap (λ (e : List ℕ × ComputerState). record (kept_of old) { computers = slice_set (kept_of old).computers place (shown_entry e) }) same

-- So it is of a computer that was asked to do something with the rows, which stayed.
pub computer_turned : (seen old : OfficeState) (place : ℕ) (then : List ℕ × ComputerState) (rows : List Change) → seen ≡ old
    → rows ≡ seen.rows
    → kept_of (record seen { rows = rows; computers = slice_set seen.computers place then })
    ≡ record (kept_of old) { computers = slice_set (kept_of old).computers place (shown_entry then) }
computer_turned seen old place then rows is still =
    ap (λ (r : List Change). kept_of (record seen { rows = r; computers = slice_set seen.computers place then })) still
    ∙ ap (λ (o : OfficeState). kept_of (record o { computers = slice_set o.computers place then })) is
    ∙ set_seen old place then

-- So it is of a computer that was measured, with another book.
pub computer_measured : (seen old : OfficeState) (place : ℕ) (then : List ℕ × ComputerState) (book : BookState) → seen ≡ old
    → kept_of (record seen { computers = slice_set seen.computers place then; book = book })
    ≡ record (kept_of old) { computers = slice_set (kept_of old).computers place (shown_entry then); book = book }
computer_measured seen old place then book is =
    ap (λ (o : OfficeState). kept_of (record o { computers = slice_set o.computers place then; book = book })) is
    ∙ ap (λ (o : KeptOffice). record o { book = book }) (set_seen old place then)

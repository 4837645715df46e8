-- What an analyst gives.
use Rattle.std.specs.Prelude.{◌≡◌, ◌⊎◌, ℕ, suc, ◌+◌, ◌^◌, ◌<◌, ℤ, List, [], ◌∷◌, length, map, ⊤}
use Rattle.std.specs.List.{IsDistinct}
use Rattle.std.specs.Str.{bytes_eq}
use Rattle.bf_machine.specs.Rises.{CountsFailed}
use Rattle.bf_machine.specs.Views.{MachineView}
use Rattle.line_forms.specs.Numbers.{last_id}
use Rattle.group_text.specs.declared.property.Property.{Property}
use Rattle.group_sample.specs.declared.sample.Sampled.{Sampled}
use Rattle.group_sample.specs.declared.sample.Sample.{Sample}
use Rattle.group_sample.specs.declared.analyst.Taken.{Taken}
use Rattle.group_sample.specs.declared.analyst.Taken.TheVariants as taken
use Rattle.group_sample.specs.Due.{AnalystState, due_of, after_sample}
use Rattle.group_sample.specs.Rows.{IsRowOf}

-- Each of these properties, in their order, has its row, or a look of its question failed: these are the rows, and so many failed.
abbrev pub Measures : (Property → Sampled → Type 0) → List Property → List Sampled → ℕ → Type 0
Measures IsRow [] rows failed = (rows ≡ []) × (failed ≡ 0)
Measures IsRow (p ∷ ps) rows failed =
    ((row : Sampled) × (more : List Sampled) × (rows ≡ row ∷ more) × IsRow p row × Measures IsRow ps more failed)
    ⊎ ((fewer : ℕ) × (failed ≡ suc fewer) × Measures IsRow ps rows fewer)

-- something is due, and a number is left for a sample
pub record HasSome (analyst : AnalystState) (due : List Property) : Type 0 where
  pub any : 0 < length due
  pub left : analyst.last < last_id

-- nothing is due, or the last number was used
abbrev pub HasNone : AnalystState → List Property → Type 0
HasNone analyst due = (due ≡ []) ⊎ (analyst.last ≡ last_id)

-- rows of fewer than 2^32 properties, each of which has one row at most
pub record AreRows (rows : List Sampled) : Type 0 where
  pub few : length rows < 2 ^ 32
  pub distinct : IsDistinct bytes_eq (map (λ (row : Sampled). row.property) rows)

-- A sample of the due properties that did not fail, each with its row, was given, with the next number.
pub record GivesSample (old : MachineView) (analyst : AnalystState) (due : List Property) (moment offset : ℤ) (sample : Sample)
    (new : MachineView) (after : AnalystState) : Type 0 where
  pub some : HasSome analyst due
  pub computer : sample.computer ≡ analyst.computer
  pub seq : sample.seq ≡ analyst.last + 1
  pub rows : Measures (IsRowOf old.world moment offset) due sample.rows sample.failed
  pub good : AreRows sample.rows
  pub counts : CountsFailed sample.failed old.faults new.faults
  pub after_is : after ≡ after_sample analyst sample

-- A sample, or nothing where there is nothing to take. Want of memory leaves the analyst.
abbrev pub GivesTaken : MachineView → AnalystState → List Property → ℤ → ℤ → Taken → MachineView → AnalystState → Type 0
GivesTaken old analyst due moment offset (taken.Sample sample) new after = GivesSample old analyst due moment offset sample new after
GivesTaken old analyst due moment offset taken.Nothing new after = HasNone analyst due × (new ≡ old) × (after ≡ analyst)
GivesTaken old analyst due moment offset taken.Memory new after = HasSome analyst due × (after ≡ analyst)

-- The same, of the properties that are due at the moment.
abbrev pub Takes : MachineView → AnalystState → List Property → ℤ → ℤ → Taken → MachineView → AnalystState → Type 0
Takes old analyst properties moment offset answer new after =
    GivesTaken old analyst (due_of analyst moment properties) moment offset answer new after

-- neither a look failed nor memory was wanting
abbrev pub HasNotFailed : Taken → Type 0
HasNotFailed (taken.Sample sample) = sample.failed ≡ 0
HasNotFailed taken.Nothing = ⊤
HasNotFailed taken.Memory = ⊥

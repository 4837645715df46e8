-- What holds of the values of a map, through changes.
use Rattle.std.proofs.Common.{◌≡◌, ℕ, List, [], ◌∷◌, Result, Ok, Err, OnOk, OnErr, All, Some, sym, subst}
use Rattle.std.specs.declared.option.Option.{Option}
use Rattle.std.specs.Map.{keys_of, values_of}
use Rattle.std.specs.BTreeMap.{is_at}
use Rattle.std.specs.Option.{IfSome}
use Rattle.std.proofs.lemmas.List.Elements.{All-head, All-tail}
use Rattle.std.proofs.lemmas.Map.Views.{All-keys-insert_entry, All-values-insert_entry, All-map-remove_entry, IfSome-lookup_from_All}
use Rattle.line_forms.specs.Versions.{IsVersion}
use Rattle.bf_world.specs.declared.answer.PackageRow.{PackageRow}
use Rattle.bf_world.specs.Maps.{byte_order, at, put, without}
use Rattle.bf_world.specs.Done.{given}

-- a value that is put, or isn't
pub sound-put : {V E : Type 0} (P : V → Type 0) (key : List ℕ) (value : V) (old new : List (List ℕ × V)) (r : Result (Unit {0}) E) → All P (values_of old) → P value → OnOk r (new ≡ put key value old) → OnErr r (new ≡ old) → All P (values_of new)
sound-put P key value old new (Ok u) all is ok err = subst (λ m. All P (values_of m)) (sym ok) (All-values-insert_entry byte_order key value P old all is)
sound-put P key value old new (Err e) all is ok err = subst (λ m. All P (values_of m)) (sym err) all

-- the same of a key
pub keys-put : {V E : Type 0} (P : List ℕ → Type 0) (key : List ℕ) (value : V) (old new : List (List ℕ × V)) (r : Result (Unit {0}) E) → All P (keys_of old) → P key → OnOk r (new ≡ put key value old) → OnErr r (new ≡ old) → All P (keys_of new)
keys-put P key value old new (Ok u) all is ok err = subst (λ m. All P (keys_of m)) (sym ok) (All-keys-insert_entry byte_order key value P old all is)
keys-put P key value old new (Err e) all is ok err = subst (λ m. All P (keys_of m)) (sym err) all

pub keys-without : {V : Type 0} (P : List ℕ → Type 0) (key : List ℕ) (old new : List (List ℕ × V)) → All P (keys_of old) → new ≡ without key old → All P (keys_of new)
keys-without P key old new all is = subst (λ m. All P (keys_of m)) (sym is) (All-map-remove_entry (is_at (byte_order key)) (λ e. e.0) P old all)

pub sound-without : {V : Type 0} (P : V → Type 0) (key : List ℕ) (old new : List (List ℕ × V)) → All P (values_of old) → new ≡ without key old → All P (values_of new)
sound-without P key old new all is = subst (λ m. All P (values_of m)) (sym is) (All-map-remove_entry (is_at (byte_order key)) (λ e. e.1) P old all)

-- a value that is found
pub sound-at : {V : Type 0} (P : V → Type 0) (key : List ℕ) (value : V) (m : List (List ℕ × V)) → All P (values_of m) → at key m ≡ Some value → P value
sound-at P key value m all is = let Q : Option _ → Type 0 = λ o. IfSome o P in subst Q is (IfSome-lookup_from_All P (is_at (byte_order key)) m all)

-- versions that are given
pub sound-given : (rows : List PackageRow) (packages : List (List ℕ × List ℕ)) → All (λ row. IsVersion row.version) rows → All IsVersion (values_of packages) → All IsVersion (values_of (given rows packages))
sound-given [] packages rows_are are = are
sound-given (row ∷ rows) packages rows_are are =
    sound-given rows (put row.name row.version packages) (All-tail (λ r. IsVersion r.version) row rows rows_are)
    (All-values-insert_entry byte_order row.name row.version IsVersion packages are (All-head (λ r. IsVersion r.version) row rows rows_are))

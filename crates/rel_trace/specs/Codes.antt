-- A code by which plain values are told apart: a list of marks, from which the value can be read again. No contract speaks of it.
use Rattle.std.specs.Prelude.{◌≡◌, ℕ, ℤ, pos, Bool, true, false, if◌then◌else◌, nat_eq, List, [], ◌∷◌}
use Rattle.std.proofs.Common.{refl, ap, ◌∙◌}
use Rattle.std.specs.Coded.{Coded, code_by, coded_ℕ, coded_ℤ, coded_list, coded×}
use Rattle.rel_value.specs.Plain.{Plain, boolean, integer, words, part, time, interval, version, file, folder, client, setting, process, a_package, system, action, tuple, Parts, no_parts, more_parts}

-- a number for the form, and what stands in it
abbrev pub Mark : Type 0
Mark = ℕ × (ℤ × (List ℕ × List ℕ))

abbrev pub mark : ℕ → ℤ → List ℕ → List ℕ → Mark
mark form z a b = (form, (z, (a, b)))

abbrev pub bare : ℕ → Mark
bare form = mark form (pos 0) [] []

-- the values and the lists of parts that were read and not used yet
abbrev pub Read : Type 0
Read = List Plain × List Parts

abbrev pub with_value : Plain → Read → Read
with_value v r = (v ∷ r.0, r.1)

abbrev pub lengthened : List Plain → List Parts → Read
lengthened (v ∷ vs) (ps ∷ qs) = (vs, more_parts ps v ∷ qs)
lengthened vs qs = (vs, qs)

abbrev pub closed : List Plain → List Parts → Read
closed vs (ps ∷ qs) = (tuple ps ∷ vs, qs)
closed vs [] = (vs, [])

abbrev pub truth_of : List ℕ → Bool
truth_of [] = false
truth_of (x ∷ xs) = true

abbrev pub part_of : List ℕ → List ℕ → Plain
part_of w (from ∷ (to ∷ more)) = part w from to
part_of w _ = client

-- the value of a form
abbrev pub value_of : ℕ → ℤ → List ℕ → List ℕ → Plain
value_of form z a b =
    if nat_eq form 0 then boolean (truth_of a) else (if nat_eq form 1 then integer z else (if nat_eq form 2 then words a else (
    if nat_eq form 3 then part_of a b else (if nat_eq form 4 then time z else (if nat_eq form 5 then interval z else (
    if nat_eq form 6 then version a else (if nat_eq form 7 then file a else (if nat_eq form 8 then folder a else (
    if nat_eq form 9 then client else (if nat_eq form 10 then setting a b z else (if nat_eq form 11 then process a else (
    if nat_eq form 12 then a_package a b else (if nat_eq form 13 then system a b else action)))))))))))))

abbrev pub mark_read : Mark → Read → Read
mark_read k r =
    if nat_eq k.0 20 then (r.0, no_parts ∷ r.1) else (if nat_eq k.0 21 then lengthened r.0 r.1 else (
    if nat_eq k.0 22 then closed r.0 r.1 else with_value (value_of k.0 k.1.0 k.1.1.0 k.1.1.1) r))

abbrev pub read : List Mark → Read → Read
read [] r = r
read (k ∷ ks) r = read ks (mark_read k r)

abbrev pub bits : Bool → List ℕ
bits true = 1 ∷ []
bits false = []

-- the marks of a value, and then more
abbrev mutual
  pub marks : Plain → List Mark → List Mark
  marks (boolean b) ks = mark 0 (pos 0) (bits b) [] ∷ ks
  marks (integer z) ks = mark 1 z [] [] ∷ ks
  marks (words t) ks = mark 2 (pos 0) t [] ∷ ks
  marks (part w from to) ks = mark 3 (pos 0) w (from ∷ (to ∷ [])) ∷ ks
  marks (time z) ks = mark 4 z [] [] ∷ ks
  marks (interval z) ks = mark 5 z [] [] ∷ ks
  marks (version ns) ks = mark 6 (pos 0) ns [] ∷ ks
  marks (file p) ks = mark 7 (pos 0) p [] ∷ ks
  marks (folder p) ks = mark 8 (pos 0) p [] ∷ ks
  marks client ks = bare 9 ∷ ks
  marks (setting n v d) ks = mark 10 d n v ∷ ks
  marks (process n) ks = mark 11 (pos 0) n [] ∷ ks
  marks (a_package n ns) ks = mark 12 (pos 0) n ns ∷ ks
  marks (system n ns) ks = mark 13 (pos 0) n ns ∷ ks
  marks action ks = bare 14 ∷ ks
  marks (tuple ps) ks = part_marks ps (bare 22 ∷ ks)

  pub part_marks : Parts → List Mark → List Mark
  part_marks no_parts ks = bare 20 ∷ ks
  part_marks (more_parts ps v) ks = part_marks ps (marks v (bare 21 ∷ ks))

mutual
  pub read-marks : (v : Plain) (ks : List Mark) (r : Read) → read (marks v ks) r ≡ read ks (with_value v r)
  read-marks (boolean true) ks r = refl
  read-marks (boolean false) ks r = refl
  read-marks (integer z) ks r = refl
  read-marks (words t) ks r = refl
  read-marks (part w from to) ks r = refl
  read-marks (time z) ks r = refl
  read-marks (interval z) ks r = refl
  read-marks (version ns) ks r = refl
  read-marks (file p) ks r = refl
  read-marks (folder p) ks r = refl
  read-marks client ks r = refl
  read-marks (setting n v d) ks r = refl
  read-marks (process n) ks r = refl
  read-marks (a_package n ns) ks r = refl
  read-marks (system n ns) ks r = refl
  read-marks action ks r = refl
  read-marks (tuple ps) ks r = read-part_marks ps (bare 22 ∷ ks) r

  pub read-part_marks : (ps : Parts) (ks : List Mark) (r : Read) → read (part_marks ps ks) r ≡ read ks (r.0, ps ∷ r.1)
  read-part_marks no_parts ks r = refl
  read-part_marks (more_parts ps v) ks r =
      read-part_marks ps (marks v (bare 21 ∷ ks)) r ∙ read-marks v (bare 21 ∷ ks) (r.0, ps ∷ r.1)

abbrev pub first_of : List Plain → Plain
first_of [] = client
first_of (v ∷ vs) = v

abbrev pub coded_plain : Coded Plain
coded_plain =
    code_by (List Mark) (coded_list (coded× coded_ℕ (coded× coded_ℤ (coded× (coded_list coded_ℕ) (coded_list coded_ℕ)))))
    (λ v. marks v []) (λ ks. first_of (read ks ([], [])).0) (λ v. ap (λ (r : Read). first_of r.0) (read-marks v [] ([], [])))

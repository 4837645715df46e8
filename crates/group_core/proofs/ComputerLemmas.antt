-- Computers in order, as one is put among them or written in its place.
use Rattle.std.proofs.Common.{ℕ, ◌≡◌, Bool, true, false, cond, List, [], ◌∷◌, get_or, set, Some, bytes_eq, refl, sym, ap, subst, ◌∙◌}
use Rattle.std.specs.Prelude.{Ok, Err}
use Rattle.std.specs.Ordering.{is_lt}
use Rattle.std.proofs.lemmas.List.Elements.{All-append, All-cons, All-filter, All-get_or}
use Rattle.bf_world.specs.Maps.{byte_order}
use Rattle.group_core.specs.declared.computers.Computer.{Computer}
use Rattle.group_core.specs.Lists.{AreComputers, Ascends, HasPlace, HasRoomAt, after, before, computer_name, one_of, row_name, rows_at, rows_in, with_one}
use Rattle.group_core.proofs.Sorting.{ascends_with, found_there, found_with, name_same, not_there, same_name, searched, written}
use Rattle.bf_world.proofs.MapLemmas.{order-same}

-- where the computer that is put has the rows of its name, each name has its rows
pub rows_with : (x : Computer) (xs : List Computer) → rows_at xs x.name ≡ x.rows.items → (other : List ℕ) → rows_at (with_one computer_name x xs) other ≡ rows_at xs other
rows_with x xs same other = ap rows_in (found_with computer_name x xs other) ∙ by (bytes_eq x.name other) refl
  where
    by : (b : Bool) → bytes_eq x.name other ≡ b → rows_in (cond b (Some x) (one_of computer_name other xs)) ≡ rows_at xs other
    by true is = sym same ∙ ap (rows_at xs) (same_name x.name other is)
    by false is = refl

-- the rows of its name are its own, and those of other names stay
pub rows_own : (x : Computer) (xs : List Computer) → rows_at (with_one computer_name x xs) x.name ≡ x.rows.items
rows_own x xs = ap rows_in (found_with computer_name x xs x.name ∙ ap (λ b. cond b (Some x) (one_of computer_name x.name xs)) (name_same x.name x.name refl))

pub computers_with : (x : Computer) (xs : List Computer) → AreComputers xs → Ascends row_name x.rows.items → AreComputers (with_one computer_name x xs)
computers_with x xs are own =
    let P : Computer → Type 0 = λ c. Ascends row_name c.rows.items in
    record {
      ascending = ascends_with computer_name x xs are.ascending;
      rows = All-append P (before computer_name x.name xs) (x ∷ after computer_name x.name xs)
          (All-filter (λ c. is_lt (byte_order (computer_name c) x.name)) P xs are.rows)
          (All-cons P x (after computer_name x.name xs) own (All-filter (λ c. is_lt (byte_order x.name (computer_name c))) P xs are.rows));
    }

-- ---- one is written in its place
-- at the place stands the computer of the name, which has its rows
pub rows_there : (xs : List Computer) (name : List ℕ) (place : ℕ) (x : Computer) → HasPlace computer_name xs name (Ok place) → x ≡ get_or xs place x → rows_at xs name ≡ x.rows.items
rows_there xs name place x here is =
    ap rows_in (found_there computer_name xs name place x here) ∙ ap (λ (c : Computer). c.rows.items) (sym is)

pub name_there : (xs : List Computer) (name : List ℕ) (place : ℕ) (x : Computer) → HasPlace computer_name xs name (Ok place) → x ≡ get_or xs place x → x.name ≡ name
name_there xs name place x here is = ap computer_name is ∙ here.3 x

pub ascends_there : (xs : List Computer) (name : List ℕ) (place : ℕ) (x : Computer) → AreComputers xs → HasPlace computer_name xs name (Ok place) → x ≡ get_or xs place x → Ascends row_name x.rows.items
ascends_there xs name place x are here is =
    let P : Computer → Type 0 = λ c. Ascends row_name c.rows.items in
    subst P (sym is) (All-get_or P xs place x here.0 are.rows)

-- another one of its name
pub set_is : (xs : List Computer) (name : List ℕ) (place : ℕ) (x y : Computer) → HasPlace computer_name xs name (Ok place) → x ≡ get_or xs place x → y.name ≡ x.name → set xs place y ≡ with_one computer_name y xs
set_is xs name place x y here is named = written computer_name xs name place y here (sym (named ∙ name_there xs name place x here is))

-- with the same rows
pub set_rows : (xs : List Computer) (name : List ℕ) (place : ℕ) (x y : Computer) → HasPlace computer_name xs name (Ok place) → x ≡ get_or xs place x → y.name ≡ x.name → y.rows.items ≡ x.rows.items → (other : List ℕ)
    → rows_at (set xs place y) other ≡ rows_at xs other
set_rows xs name place x y here is named same other =
    ap (λ l. rows_at l other) (set_is xs name place x y here is named)
    ∙ rows_with y xs (ap (rows_at xs) (named ∙ name_there xs name place x here is) ∙ rows_there xs name place x here is ∙ sym same) other

pub set_computers : (xs : List Computer) (name : List ℕ) (place : ℕ) (x y : Computer) → AreComputers xs → HasPlace computer_name xs name (Ok place) → x ≡ get_or xs place x → y.name ≡ x.name → Ascends row_name y.rows.items
    → AreComputers (set xs place y)
set_computers xs name place x y are here is named own = subst AreComputers (sym (set_is xs name place x y here is named)) (computers_with y xs are own)

-- ---- one without rows is put in
pub put_rows : (xs : List Computer) (name : List ℕ) (place : ℕ) (x : Computer) → HasPlace computer_name xs name (Err place) → name ≡ x.name → x.rows.items ≡ [] → (other : List ℕ)
    → rows_at (with_one computer_name x xs) other ≡ rows_at xs other
put_rows xs name place x here named none other =
    rows_with x xs (ap (rows_at xs) (sym named) ∙ ap rows_in (not_there computer_name xs name place here) ∙ sym none) other

-- ---- one gets other rows
-- where a computer of the name stands is its place
pub place_there : (xs : List Computer) (name : List ℕ) (more place : ℕ) → AreComputers xs → HasRoomAt xs name more place → HasPlace computer_name xs name (Ok place)
place_there xs name more place are room =
    searched computer_name xs name (Ok place) are.ascending room.inside (λ d. ap (λ n. byte_order n name) (room.named d) ∙ order-same name)

pub own_set : (xs : List Computer) (name : List ℕ) (place : ℕ) (x y : Computer) → HasPlace computer_name xs name (Ok place) → x ≡ get_or xs place x → y.name ≡ x.name → rows_at (set xs place y) name ≡ y.rows.items
own_set xs name place x y here is named =
    let same : y.name ≡ name = named ∙ name_there xs name place x here is in
    ap (λ l. rows_at l name) (set_is xs name place x y here is named) ∙ ap (rows_at (with_one computer_name y xs)) (sym same) ∙ rows_own y xs

pub other_set : (xs : List Computer) (name : List ℕ) (place : ℕ) (x y : Computer) → HasPlace computer_name xs name (Ok place) → x ≡ get_or xs place x → y.name ≡ x.name → (other : List ℕ) → (other ≡ name → ⊥)
    → rows_at (set xs place y) other ≡ rows_at xs other
other_set xs name place x y here is named other differs =
    ap (λ l. rows_at l other) (set_is xs name place x y here is named) ∙ ap rows_in (found_with computer_name y xs other) ∙ by (bytes_eq y.name other) refl
  where
    by : (b : Bool) → bytes_eq y.name other ≡ b → rows_in (cond b (Some y) (one_of computer_name other xs)) ≡ rows_at xs other
    by true e = absurd (differs (sym (same_name y.name other e) ∙ named ∙ name_there xs name place x here is))
    by false e = refl

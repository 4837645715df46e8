-- Texts of the first of a list that are made already. Only the code's contracts cite these definitions.
use Rattle.std.specs.Prelude.{◌≡◌, ◌≤◌, ◌⊎◌, ℕ, ◌+◌, List, [], ◌++◌, length, take, flat_map, sum_by}

-- of how many they are, how many bytes they need at most, and the texts, one behind another
pub record PlainMade : Type 0 where
  pub count : ℕ
  pub most : ℕ
  pub text : List ℕ

abbrev pub nothing_made : PlainMade
nothing_made = record { count = 0; most = 0; text = [] }

-- with the text of one more, which needs so many bytes at most
abbrev pub made_with : List ℕ → ℕ → PlainMade → PlainMade
made_with text most made = record { count = made.count + 1; most = made.most + most; text = made.text ++ text }

-- the one at this place isn't among them
abbrev pub Leaves : ℕ → PlainMade → PlainMade → Type 0
Leaves place old new = (new ≡ nothing_made) ⊎ ((new ≡ old) × (old.count ≤ place))

-- these are the texts of the first of these items, by how one is spelled and how many bytes it needs at most
pub record IsMadeOf {Item : Type 0} (spell : Item → List ℕ) (bytes : Item → ℕ) (items : List Item) (made : PlainMade) : Type 0 where
  pub within : made.count ≤ length items
  pub text : made.text ≡ flat_map spell (take made.count items)
  pub most : made.most ≡ sum_by bytes (take made.count items)

-- The words with which lines of a kind begin.
use Rattle.std.proofs.Common.{◌≡◌, ℕ, ◌+◌, ◌*◌, Bool, true, false, cond, nat_eq, List, [], ◌∷◌, map, refl}
use Rattle.std.specs.Char.{to_ascii_lowercase}
use Rattle.script_text.specs.declared.kind.Kind.{Kind}
use Rattle.script_text.specs.declared.kind.Kind.TheVariants.{Parameter, If, ElseIf, Else, EndIf, ContinueIf, PauseWhile, Create, Append, Delete, Copy, Move, FolderCreate, FolderDelete, Run, Wait, RunHidden, WaitHidden, Setting, SettingDelete, Prefetch}
use Rattle.script_text.specs.Forms.{words}
use Rattle.script_text.specs.Readings.{first_word}

-- a number for the letters of a word
abbrev pub key : List ℕ → ℕ
key [] = 1
key (b ∷ bs) = b + 256 * key bs

abbrev pub first_key : Kind → ℕ
first_key which = key (map to_ascii_lowercase (first_word (words which)))

-- the first of these kinds that begins with the word of this number
abbrev kind_among : ℕ → List Kind → Kind
kind_among n [] = Prefetch
kind_among n (k ∷ ks) = cond (nat_eq n (first_key k)) k (kind_among n ks)

abbrev pub kind_of : ℕ → Kind
kind_of n = kind_among n (Parameter ∷ If ∷ ElseIf ∷ Else ∷ EndIf ∷ ContinueIf ∷ PauseWhile ∷ Create ∷ Append ∷ Delete ∷ Copy ∷ Move
    ∷ FolderCreate ∷ Run ∷ Wait ∷ RunHidden ∷ WaitHidden ∷ Setting ∷ [])

-- whether it is the second of two kinds that begin with one word
abbrev pub is_second : Kind → Bool
is_second FolderDelete = true
is_second SettingDelete = true
is_second _ = false

abbrev second_of : Kind → Kind
second_of FolderCreate = FolderDelete
second_of Setting = SettingDelete
second_of k = k

abbrev pub kind_from : ℕ → Bool → Kind
kind_from n false = kind_of n
kind_from n true = second_of (kind_of n)

-- a kind is known from its first word, and from whether it is the second with it
pub known : (which : Kind) → which ≡ kind_from (first_key which) (is_second which)
known Parameter = refl
known If = refl
known ElseIf = refl
known Else = refl
known EndIf = refl
known ContinueIf = refl
known PauseWhile = refl
known Create = refl
known Append = refl
known Delete = refl
known Copy = refl
known Move = refl
known FolderCreate = refl
known FolderDelete = refl
known Run = refl
known Wait = refl
known RunHidden = refl
known WaitHidden = refl
known Setting = refl
known SettingDelete = refl
known Prefetch = refl

-- Paths as texts. Each test says of a text what the relation of the same name in `line_forms` says of it.
use Rattle.std.specs.Prelude.{ℕ, Bool, if◌then◌else◌, not, ◌&&◌, ◌||◌, ◌==◌, ◌-◌, nat_le, List, [], ◌∷◌, ◌++◌, length, codes}
use Rattle.std.specs.Str.{is_utf8, bytes_eq}
use Rattle.std.specs.List.{list_all, before_last, after_last, slice_index}
use Rattle.line_forms.specs.Cuts.{pieces}

-- `/`, which is a folder in every world
abbrev pub root : List ℕ
root = codes "/"

abbrev pub is_slash : ℕ → Bool
is_slash byte = byte == 47

-- not empty, `.` or `..`, and without `/` and bytes below 32
unfoldable pub is_part : List ℕ → Bool
is_part part =
    not (bytes_eq part []) && not (bytes_eq part (codes ".")) && not (bytes_eq part (codes ".."))
    && list_all (λ byte. nat_le 32 byte && not (is_slash byte)) part

-- the text without the `/` at its front, if it has one
abbrev pub unrooted : List ℕ → List ℕ
unrooted [] = []
unrooted (byte ∷ text) = if is_slash byte then text else byte ∷ text

-- `/`, or parts joined by `/`, with one `/` before them or none; at most 1,024 bytes of UTF-8
unfoldable pub is_path : List ℕ → Bool
is_path text =
    is_utf8 text && nat_le (length text) 1024
    && (bytes_eq text root || list_all is_part (pieces 47 (unrooted text)))

-- a path other than `/`, as a command may name
unfoldable pub is_free : List ℕ → Bool
is_free text = is_path text && not (bytes_eq text root)

-- the last part of a path: what stands behind its last `/`, or the whole path
unfoldable pub last_name : List ℕ → List ℕ
last_name path = after_last is_slash path

-- the path of the folder in which a path stands; nothing where that is the work folder or `/`
unfoldable pub parent_path : List ℕ → List ℕ
parent_path path = before_last is_slash path

-- the last byte of the path is `/`
abbrev pub ends_in_slash : List ℕ → Bool
ends_in_slash path = is_slash (slice_index path (length path - 1))

-- what stands between a folder's path and the name of what is in it
unfoldable pub slash_behind : List ℕ → List ℕ
slash_behind folder = if ends_in_slash folder then [] else root

-- the path of what has this name in a folder: a `/` stands between them, unless the folder's path ends in one
abbrev pub joined : List ℕ → List ℕ → List ℕ
joined folder name = folder ++ slash_behind folder ++ name

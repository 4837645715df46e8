-- What a row of the tables of names says: the words, what it asks of the argument and of the object, and what it gives.
use Rattle.std.specs.Prelude.{ℕ, Bool, true, false, ◌&&◌, ◌||◌, if◌then◌else◌, List, [], ◌∷◌, ◌++◌, Option, Some, None}
use Rattle.std.specs.List.{list_any}
use Rattle.std.specs.Str.{bytes_eq}
use Rattle.rel_value.specs.Plain.{PlainKind, booleans, integers, texts, text_parts, times, intervals, versions, files, folders, clients, settings, processes, packages, systems, actions, tuples, PlainKinds, no_kinds, more_kinds}
use Rattle.rel_types.specs.declared.head.Head.{Head}
use Rattle.rel_types.specs.declared.scalar.Scalar.{Scalar}
use Rattle.rel_types.specs.declared.scalar.Scalar.TheVariants.{Boolean, Integer, Text, Part, Time, Interval, Version, File, Folder, Client, Setting, Process, Package, System, Action}
use Rattle.rel_types.specs.declared.given.Given.{Given}
use Rattle.rel_types.specs.declared.given.Given.TheVariants as given

-- the kind of this name
abbrev pub scalar_kind : Scalar → PlainKind
scalar_kind Boolean = booleans
scalar_kind Integer = integers
scalar_kind Text = texts
scalar_kind Part = text_parts
scalar_kind Time = times
scalar_kind Interval = intervals
scalar_kind Version = versions
scalar_kind File = files
scalar_kind Folder = folders
scalar_kind Client = clients
scalar_kind Setting = settings
scalar_kind Process = processes
scalar_kind Package = packages
scalar_kind System = systems
scalar_kind Action = actions

-- the kinds of a tuple, from the first
abbrev pub kind_list : PlainKinds → List PlainKind
kind_list no_kinds = []
kind_list (more_kinds ks k) = kind_list ks ++ (k ∷ [])

abbrev pub is_integer : PlainKind → Bool
is_integer integers = true
is_integer _ = false

abbrev pub given_pair : PlainKind → PlainKind → Given
given_pair a b = if is_integer a && is_integer b then given.Integers else given.Tuple

-- a tuple of two integers, or another
abbrev pub given_list : List PlainKind → Given
given_list (a ∷ b ∷ []) = given_pair a b
given_list _ = given.Tuple

-- what is given, of this kind
abbrev pub given_kind : PlainKind → Given
given_kind booleans = given.Scalar Boolean
given_kind integers = given.Scalar Integer
given_kind texts = given.Scalar Text
given_kind text_parts = given.Scalar Part
given_kind times = given.Scalar Time
given_kind intervals = given.Scalar Interval
given_kind versions = given.Scalar Version
given_kind files = given.Scalar File
given_kind folders = given.Scalar Folder
given_kind clients = given.Scalar Client
given_kind settings = given.Scalar Setting
given_kind processes = given.Scalar Process
given_kind packages = given.Scalar Package
given_kind systems = given.Scalar System
given_kind actions = given.Scalar Action
given_kind (tuples ks) = given_list (kind_list ks)

abbrev pub given_by : Option PlainKind → Given
given_by None = given.Nothing
given_by (Some k) = given_kind k

abbrev pub same_scalar : Scalar → Scalar → Bool
same_scalar Boolean Boolean = true
same_scalar Integer Integer = true
same_scalar Text Text = true
same_scalar Part Part = true
same_scalar Time Time = true
same_scalar Interval Interval = true
same_scalar Version Version = true
same_scalar File File = true
same_scalar Folder Folder = true
same_scalar Client Client = true
same_scalar Setting Setting = true
same_scalar Process Process = true
same_scalar Package Package = true
same_scalar System System = true
same_scalar Action Action = true
same_scalar _ _ = false

-- where the first kind is wanted, the second may stand: a part stands wherever a text does
abbrev pub takes : Scalar → Scalar → Bool
takes Text Part = true
takes wanted offered = same_scalar wanted offered

-- what a row asks of an argument or an object
pub data Asked : Type 0 where
  -- a value of one of these kinds
  one_of : List Scalar → Asked
  -- nothing, or a value of one of these kinds
  none_or : List Scalar → Asked
  -- a tuple of two integers
  two_integers : Asked
  -- a value of any kind
  anything : Asked

abbrev pub admits : Asked → Given → Bool
admits (one_of kinds) (given.Scalar s) = list_any (λ wanted. takes wanted s) kinds
admits (none_or kinds) (given.Scalar s) = list_any (λ wanted. takes wanted s) kinds
admits (none_or kinds) given.Nothing = true
admits two_integers given.Integers = true
admits anything given.Nothing = false
admits anything _ = true
admits _ _ = false

pub record Row : Type 0 where
  pub head : Head
  pub singular : List ℕ
  -- the words for any number of values, if there are such words
  pub plural : Option (List ℕ)
  pub argument : Asked
  pub object : Asked
  pub gives : Scalar

-- these are the plural words, where there are some
abbrev pub are_words : List ℕ → Option (List ℕ) → Bool
are_words words None = false
are_words words (Some plural) = bytes_eq plural words

-- the row is that of these words, argument and object
abbrev pub fits : List ℕ → Given → Given → Row → Bool
fits words argument object row =
    (bytes_eq row.singular words || are_words words row.plural) && (admits row.argument argument && admits row.object object)

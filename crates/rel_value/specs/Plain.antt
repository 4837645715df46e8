-- Values and kinds without where they lie in memory. A list of parts grows at its end.
use Rattle.std.specs.Prelude.{ℕ, ℤ, Bool, List}

mutual
  pub data Plain : Type 0 where
    boolean : Bool → Plain
    integer : ℤ → Plain
    words : List ℕ → Plain
    -- a text, and where in it the part begins and ends
    part : List ℕ → ℕ → ℕ → Plain
    -- seconds since 1970-01-01 00:00:00 UTC
    time : ℤ → Plain
    -- seconds
    interval : ℤ → Plain
    -- the numbers
    version : List ℕ → Plain
    -- the path
    file : List ℕ → Plain
    folder : List ℕ → Plain
    client : Plain
    -- the name, the value and the date
    setting : List ℕ → List ℕ → ℤ → Plain
    -- the name
    process : List ℕ → Plain
    -- the name and the version
    a_package : List ℕ → List ℕ → Plain
    system : List ℕ → List ℕ → Plain
    action : Plain
    tuple : Parts → Plain

  pub data Parts : Type 0 where
    no_parts : Parts
    more_parts : Parts → Plain → Parts

mutual
  pub data PlainKind : Type 0 where
    booleans : PlainKind
    integers : PlainKind
    texts : PlainKind
    text_parts : PlainKind
    times : PlainKind
    intervals : PlainKind
    versions : PlainKind
    files : PlainKind
    folders : PlainKind
    clients : PlainKind
    settings : PlainKind
    processes : PlainKind
    packages : PlainKind
    systems : PlainKind
    actions : PlainKind
    tuples : PlainKinds → PlainKind

  pub data PlainKinds : Type 0 where
    no_kinds : PlainKinds
    more_kinds : PlainKinds → PlainKind → PlainKinds

-- the kind of a value
abbrev mutual
  pub kind_of : Plain → PlainKind
  kind_of (boolean b) = booleans
  kind_of (integer z) = integers
  kind_of (words t) = texts
  kind_of (part w from to) = text_parts
  kind_of (time z) = times
  kind_of (interval z) = intervals
  kind_of (version ns) = versions
  kind_of (file p) = files
  kind_of (folder p) = folders
  kind_of client = clients
  kind_of (setting n v d) = settings
  kind_of (process n) = processes
  kind_of (a_package n v) = packages
  kind_of (system n v) = systems
  kind_of action = actions
  kind_of (tuple ps) = tuples (kinds_of ps)

  pub kinds_of : Parts → PlainKinds
  kinds_of no_parts = no_kinds
  kinds_of (more_parts ps v) = more_kinds (kinds_of ps) (kind_of v)

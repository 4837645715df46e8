-- The text of each kind of value, at an offset in minutes east of UTC.
use Rattle.std.specs.Prelude.{ℕ, ℤ, if◌then◌else◌, List, [], ◌∷◌, ◌++◌, map, codes}
use Rattle.std.specs.Fmt.{decimal, signed_decimal}
use Rattle.std.specs.List.{join_with_byte}
use Rattle.rel_value.specs.Plain.{Plain, boolean, integer, words, part, time, interval, version, file, folder, client, setting, process, a_package, system, action, tuple, Parts, no_parts, more_parts}
use Rattle.rel_value.specs.Operands.{stretch}
use Rattle.rel_value.specs.Spellings.{time_text, interval_text}

-- the numbers joined by `.`
abbrev pub version_text : List ℕ → List ℕ
version_text numbers = join_with_byte 46 (map decimal numbers)

-- a comma stands between a part and those before it
abbrev pub comma_after : Parts → List ℕ
comma_after no_parts = []
comma_after (more_parts ps v) = codes ", "

-- a tuple inside a tuple stands in brackets
abbrev pub enclosed : Plain → List ℕ → List ℕ
enclosed (tuple ps) text = codes "( " ++ text ++ codes " )"
enclosed v text = text

-- the text of a value that is no tuple
abbrev pub single_text : ℤ → Plain → List ℕ
single_text offset (boolean b) = if b then codes "True" else codes "False"
single_text offset (integer z) = signed_decimal z
single_text offset (words t) = t
single_text offset (part w from to) = stretch w from to
single_text offset (time z) = time_text z offset
single_text offset (interval z) = interval_text z
single_text offset (version ns) = version_text ns
single_text offset (file p) = p
single_text offset (folder p) = p
single_text offset client = codes "client"
single_text offset (setting n v d) = n
single_text offset (process n) = n
single_text offset (a_package n ns) = n ++ 32 ∷ version_text ns
single_text offset (system n ns) = n ++ 32 ∷ version_text ns
single_text offset action = codes "action"
single_text offset (tuple ps) = []

-- the text of a value, and the texts of a tuple's parts
abbrev mutual
  pub text_of : ℤ → Plain → List ℕ
  text_of offset (tuple ps) = texts_of offset ps
  text_of offset v = single_text offset v

  pub texts_of : ℤ → Parts → List ℕ
  texts_of offset no_parts = []
  texts_of offset (more_parts ps v) = texts_of offset ps ++ comma_after ps ++ enclosed v (text_of offset v)

-- The aggregates, which take all values of their object together. They are singular.
use Rattle.std.specs.Prelude.{List, [], ◌∷◌, None, codes}
use Rattle.rel_types.specs.declared.head.Aggregate.TheVariants as of
use Rattle.rel_types.specs.declared.head.Head.TheVariants.{Aggregate}
use Rattle.rel_types.specs.declared.scalar.Scalar.TheVariants.{Boolean, Integer, Text, Time, Interval, Version}
use Rattle.rel_types.specs.Rows.{Row, Asked, one_of, none_or, anything}

abbrev nothing : Asked
nothing = none_or []

unfoldable pub aggregate_rows : List Row
aggregate_rows =
    record { head = Aggregate of.Number; singular = codes "number"; plural = None; argument = nothing; object = anything; gives = Integer } ∷
    record { head = Aggregate of.Sum; singular = codes "sum"; plural = None; argument = nothing; object = one_of (Integer ∷ []); gives = Integer } ∷
    record { head = Aggregate of.Sum; singular = codes "sum"; plural = None; argument = nothing; object = one_of (Interval ∷ []); gives = Interval } ∷
    record { head = Aggregate of.Maximum; singular = codes "maximum"; plural = None; argument = nothing; object = one_of (Integer ∷ []); gives = Integer } ∷
    record { head = Aggregate of.Maximum; singular = codes "maximum"; plural = None; argument = nothing; object = one_of (Interval ∷ []); gives = Interval } ∷
    record { head = Aggregate of.Maximum; singular = codes "maximum"; plural = None; argument = nothing; object = one_of (Time ∷ []); gives = Time } ∷
    record { head = Aggregate of.Maximum; singular = codes "maximum"; plural = None; argument = nothing; object = one_of (Version ∷ []); gives = Version } ∷
    record { head = Aggregate of.Maximum; singular = codes "maximum"; plural = None; argument = nothing; object = one_of (Text ∷ []); gives = Text } ∷
    record { head = Aggregate of.Minimum; singular = codes "minimum"; plural = None; argument = nothing; object = one_of (Integer ∷ []); gives = Integer } ∷
    record { head = Aggregate of.Minimum; singular = codes "minimum"; plural = None; argument = nothing; object = one_of (Interval ∷ []); gives = Interval } ∷
    record { head = Aggregate of.Minimum; singular = codes "minimum"; plural = None; argument = nothing; object = one_of (Time ∷ []); gives = Time } ∷
    record { head = Aggregate of.Minimum; singular = codes "minimum"; plural = None; argument = nothing; object = one_of (Version ∷ []); gives = Version } ∷
    record { head = Aggregate of.Minimum; singular = codes "minimum"; plural = None; argument = nothing; object = one_of (Text ∷ []); gives = Text } ∷
    record { head = Aggregate of.Conjunction; singular = codes "conjunction"; plural = None; argument = nothing; object = one_of (Boolean ∷ []); gives = Boolean } ∷
    record { head = Aggregate of.Disjunction; singular = codes "disjunction"; plural = None; argument = nothing; object = one_of (Boolean ∷ []); gives = Boolean } ∷
    record { head = Aggregate of.Concatenation; singular = codes "concatenation"; plural = None; argument = none_or (Text ∷ []); object = one_of (Text ∷ []); gives = Text } ∷
    []

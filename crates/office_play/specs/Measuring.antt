-- What is taken where a computer is measured.
use Rattle.std.specs.Prelude.{IfSome, Some, None}
use Rattle.std.specs.declared.option.Option.{Option}
use Rattle.group_sample.specs.declared.sample.Sample.{Sample}
use Rattle.group_sample.specs.declared.analyst.Taken.{Taken}
use Rattle.group_sample.specs.declared.analyst.Taken.TheVariants as taken
use Rattle.group_sample.specs.Samples.{AreRows}

-- a sample that was taken, if one was
abbrev pub taken_of : Option Sample → Taken
taken_of None = taken.Nothing
taken_of (Some sample) = taken.Sample sample

-- its rows can be put into a book
abbrev pub HasRows : Option Sample → Type 0
HasRows taken = IfSome taken (λ (sample : Sample). AreRows sample.rows)

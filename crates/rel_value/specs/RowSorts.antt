-- The sorts of values as the code tells them apart. Only private functions cite these definitions.
use Rattle.rel_value.specs.declared.sort.ValueSort.{ValueSort}
use Rattle.rel_value.specs.declared.sort.ValueSort.TheVariants.{Boolean, Integer, Text, Time, Interval, Version, Other}
use Rattle.rel_value.specs.Kinds.{Sort, truths, whole_numbers, words_or_parts, instants, spans, number_lists, others}

abbrev pub sorted : ValueSort → Sort
sorted Boolean = truths
sorted Integer = whole_numbers
sorted Text = words_or_parts
sorted Time = instants
sorted Interval = spans
sorted Version = number_lists
sorted Other = others

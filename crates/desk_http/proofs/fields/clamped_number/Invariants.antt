use Rattle.std.proofs.Common.{◌≡◌, ℕ, ◌-◌, ◌^◌, min, length}
use Rattle.std.specs.List.{list_all}
use Rattle.std.specs.Char.{is_ascii_digit}
use Rattle.std.specs.Str.Parse.{digits_value, digits_value_after}
use Rattle.desk_http.proofs.fields.clamped_number.Given as goal

abbrev pub invariant-loop-rest : goal.invariant-loop-rest
invariant-loop-rest l = record {
  number : ℕ;
  clamped : l.value ≡ min number (2 ^ 64 - 1);
  digits : digits_value_after 10 number l.rest ≡ digits_value 10 l.text;
  all : list_all is_ascii_digit l.text ≡ list_all is_ascii_digit l.rest;
}

abbrev pub decreases-loop-rest : goal.decreases-loop-rest
decreases-loop-rest l = length l.rest

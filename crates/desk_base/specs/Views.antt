-- What a source, a sink and a clock tell of themselves.
use Rattle.std.specs.Prelude.{ℕ, ℤ, List}
use Rattle.std.specs.declared.option.Option.{Option}

-- the bytes that are left and how often it was read, where it tells them, and its count of faults
pub record SourceView : Type 0 where
  pub left : Option (List ℕ)
  pub reads : Option ℕ
  pub faults : ℕ

-- the bytes that it holds, where it tells them, and its count of faults
pub record SinkView : Type 0 where
  pub held : Option (List ℕ)
  pub faults : ℕ

-- the moments that it gave, where it tells them, and its count of faults
pub record ClockView : Type 0 where
  pub given : Option (List ℤ)
  pub faults : ℕ

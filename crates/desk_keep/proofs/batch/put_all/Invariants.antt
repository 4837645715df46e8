use Rattle.std.proofs.Common.{◌≡◌, ◌≤◌, length, All, IfSome, vec_len, vec_capacity}
use Rattle.desk_keep.specs.Forms.{Fits}
use Rattle.desk_keep.specs.Inside.{WerePut}
use Rattle.desk_keep.proofs.batch.put_all.Given as goal

-- the rows so far were put, and what stood at their keys is kept
abbrev pub invariant-loop-row : goal.invariant-loop-row
invariant-loop-row l = record {
  count : vec_len l.before ≡ l.row-index;
  room : length l.batch ≤ vec_capacity l.before;
  fits : All (λ stood. IfSome stood Fits) l.before.items;
  put : WerePut l.batch l.before.items l.fn.rows l.rows;
}

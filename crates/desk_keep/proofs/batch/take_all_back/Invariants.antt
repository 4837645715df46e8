use Rattle.std.proofs.Common.{◌≤◌, List, length, All, IfSome, vec_len}
use Rattle.desk_keep.specs.declared.change.Change.{Change}
use Rattle.desk_keep.specs.Forms.{Fits}
use Rattle.desk_keep.specs.Tables.{AreRows}
use Rattle.desk_keep.specs.Inside.{WerePut}
use Rattle.desk_keep.proofs.batch.take_all_back.Given as goal

-- what is told stood at the keys of the first rows, which are put
abbrev pub invariant-loop-stood : goal.invariant-loop-stood
invariant-loop-stood l = record {
  few : vec_len l.before ≤ length l.batch;
  fits : All (λ stood. IfSome stood Fits) l.before.items;
  put : (start : List Change) → AreRows start → WerePut l.batch l.fn.before.items start l.fn.rows → WerePut l.batch l.before.items start l.rows;
}

abbrev pub decreases-loop-stood : goal.decreases-loop-stood
decreases-loop-stood l = vec_len l.before

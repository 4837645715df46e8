-- What the state of an `if` makes of the traces of its test and its branches.
use Rattle.std.specs.Prelude.{ℕ, ◌+◌, ◌*◌, Bool, true, false}
use Rattle.rel_trace.specs.declared.choice.Choice.{Choice}
use Rattle.rel_trace.specs.declared.choice.Choice.TheVariants.{Test, Yes, No}
use Rattle.rel_trace.specs.Trace.{Trace, follow, each}
use Rattle.rel_trace.specs.Joins.{chosen}
use Rattle.rel_trace.specs.Scopes.{Around}

-- the test, and then the branch that it chooses
abbrev pub choice_whole : Trace → (Around → Trace) → (Around → Trace) → Around → Trace
choice_whole a f g s = each a (chosen (f s) (g s))

-- `a` is what the test has left, `b` and `c` what the branches have left, and `f` and `g` what they are from their beginning
abbrev pub choice_left : Choice → Trace → (Around → Trace) → (Around → Trace) → (Around → Trace) → (Around → Trace) → Around → Trace
choice_left Test a b c f g s = choice_whole a f g s
choice_left Yes a b c f g s = follow (b s) (choice_whole a f g s)
choice_left No a b c f g s = follow (c s) (choice_whole a f g s)

-- what the branch that goes on has left
abbrev pub branch_left : Choice → (Around → Trace) → (Around → Trace) → Around → Trace
branch_left Test b c s = b s
branch_left Yes b c s = b s
branch_left No b c s = c s

abbrev pub is_test : Choice → Bool
is_test Test = true
is_test _ = false

-- how many quiet steps are left, where the test has q and the branches r and w, and at most c and d from their beginning
abbrev pub choice_quiet : Choice → ℕ → ℕ → ℕ → ℕ → ℕ → ℕ
choice_quiet Test q r w c d = q * (c + d + 2)
choice_quiet Yes q r w c d = q * (c + d + 2) + (r + 1)
choice_quiet No q r w c d = q * (c + d + 2) + (w + 1)

-- how many the branch that goes on has
abbrev pub branch_quiet : Choice → ℕ → ℕ → ℕ
branch_quiet Test r w = r
branch_quiet Yes r w = r
branch_quiet No r w = w

-- What a script does: prefetch lines first, in their order, and then its statements.
use Rattle.std.specs.Prelude.{ℤ, List, [], ◌∷◌, ◌++◌, Option, None}
use Rattle.bf_world.specs.declared.command.Command.{Command}
use Rattle.bf_machine.specs.Acts.{commands_added}
use Rattle.rel_sources.specs.declared.pair.Pair.{Pair}
use Rattle.script_text.specs.declared.prefetch.Prefetch.{Prefetch}
use Rattle.script_text.specs.Trees.{PlainStatement, act, choice, Statements, no_statements, more_statements, Arms, no_arms, more_arms}
use Rattle.script_text.specs.Scripts.{PlainScript}
use Rattle.script_run.specs.Walks.{Known, Settled, acted, Next, Does, Walk, Rest, ending, testing}
use Rattle.script_run.specs.LineWalks.{line_walk, fetching}

abbrev mutual
  -- a line does what its kind does, and of an `if` one body is done
  pub walk : PlainStatement → Rest → Rest
  walk (act line what) rest = line_walk line what rest
  walk (choice arms other) rest = walk_arms arms rest (walk_all other rest)

  -- statements one after another
  pub walk_all : Statements → Rest → Rest
  walk_all no_statements rest = rest
  walk_all (more_statements statements last) rest = walk_all statements (walk last rest)

  -- the body of the first arm whose test is true, and where there is none, what stands for the other body
  pub walk_arms : Arms → Rest → Rest → Rest
  walk_arms no_arms rest other = other
  walk_arms (more_arms arms line test body) rest other = walk_arms arms rest (testing line test (walk_all body rest) other)

-- prefetch lines one after another
abbrev pub fetch_all : List Prefetch → Rest → Rest
fetch_all [] rest = rest
fetch_all (fetch ∷ fetches) rest = fetching fetch (fetch_all fetches rest)

-- prefetch lines first, wherever they stand, and then the statements
abbrev pub script_walk : PlainScript → Rest
script_walk script = fetch_all script.prefetches (walk_all script.statements ending)

-- what is known at the beginning: the parameters that are given
abbrev pub given_known : List Pair → Known
given_known given = record { parameters = given; exit = None }

-- where a script with these parameters stands after these results
abbrev pub standing : PlainScript → List Pair → Walk
standing script given settled = script_walk script (given_known given) settled

-- what it does next
abbrev pub next : PlainScript → List Pair → List Settled → Next
next script given settled = (standing script given settled).next

-- the last exit code among the results
abbrev pub exit_after : PlainScript → List Pair → List Settled → Option ℤ
exit_after script given settled = (standing script given settled).known.exit

-- where it stands after these results and further ones
abbrev pub after : PlainScript → List Pair → List Settled → Walk
after script given settled more = standing script given (settled ++ more)

-- a command that was done, started or refused; none where it failed
abbrev pub command_of : Next → Settled → List Command
command_of (Does line midway command) (acted answer) = commands_added command answer
command_of _ _ = []

-- the commands among results
abbrev pub commands_in : Walk → List Settled → List Command
commands_in walk [] = []
commands_in walk (result ∷ results) = command_of (walk []).next result ++ commands_in (λ more. walk (result ∷ more)) results

-- what a script has done after these results
abbrev pub commands : PlainScript → List Pair → List Settled → List Command
commands script given settled = commands_in (standing script given) settled

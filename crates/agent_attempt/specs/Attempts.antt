-- Attempts that are held: their action and content as they were when they began, and how far they have come.
use Rattle.std.specs.Prelude.{ℕ, ◌+◌, ◌<◌, ℤ, List, [], ◌∷◌, codes, Option, None, ⊤}
use Rattle.rel_sources.specs.declared.pair.Pair.{Pair}
use Rattle.rel_value.specs.Plain.{time}
use Rattle.rel_value.specs.Texts.{text_of}
use Rattle.fix_site.specs.declared.action.Action.{Action}
use Rattle.fix_site.specs.declared.fixlet.Fixlet.{Fixlet}
use Rattle.script_run.specs.Walks.{Next, Polls, Walk}
use Rattle.agent_attempt.specs.declared.attempt.Part.{Part}
use Rattle.agent_attempt.specs.declared.attempt.Failure.{Failure}
use Rattle.agent_attempt.specs.ActionContents.{Content, single, group}

-- how far the component at hand has come
pub data PlainStage : Type 0 where
  -- it isn't known whether it is relevant
  coming : PlainStage
  -- its script has still to begin
  starting : PlainStage
  -- its script runs: where it stands after further results, and the SHA-256 of the file that it wants, if its last answer wanted one
  running : (rest : Walk) (wanted : Option (List ℕ)) → PlainStage
  -- its script is done, with this exit code, and its success has still to be judged
  judging : (exit : Option ℤ) → PlainStage

-- what the components before have come to: the first failure, and the exit code of the last that was run and succeeded
pub record Past : Type 0 where
  pub failure : Option Failure
  pub exit : Option ℤ

-- an attempt: the action, the number of its row, the offset of the turn in which it began, the component at hand and those that come
-- after it, how far that one has come, and what those before have come to
pub record PlainAttempt : Type 0 where
  pub action : Action
  pub row : ℕ
  pub offset : ℤ
  pub left : List Part
  pub stage : PlainStage
  pub past : Past

-- fixlets as components, counted from this number
abbrev pub numbered : ℕ → List Fixlet → List Part
numbered number [] = []
numbered number (fixlet ∷ fixlets) = record { component = number; fixlet = fixlet } ∷ numbered (number + 1) fixlets

-- the components of a content: a fixlet by itself is component 0
abbrev pub parts_of : Content → List Part
parts_of (single fixlet) = record { component = 0; fixlet = fixlet } ∷ []
parts_of (group relevance components) = numbered 1 components

-- A fixlet was found to be relevant before it begins. The components of a baseline are asked one by one.
abbrev pub first_stage : Content → PlainStage
first_stage (single fixlet) = starting
first_stage (group relevance components) = coming

-- an attempt at its beginning
abbrev pub new_attempt : Action → Content → ℕ → ℤ → PlainAttempt
new_attempt action content row offset = record {
  action = action;
  row = row;
  offset = offset;
  left = parts_of content;
  stage = first_stage content;
  past = record { failure = None; exit = None };
}

-- the one parameter with which a script begins: when its action was issued, by the clock of the turn in which the attempt began
abbrev pub issue_date : PlainAttempt → List Pair
issue_date a =
    record { name = codes "action issue date"; value = text_of a.offset (time a.action.issued) } ∷ []

-- the number of the program that comes to be polled next, if one does, is below that of the programs started so far
abbrev pub NextIsBelow : ℕ → Next → Type 0
NextIsBelow started (Polls line process) = process < started
NextIsBelow started _ = ⊤

-- the number of the program that an attempt waits for, if it waits for one, is below that of the programs started so far
abbrev pub StageWaitsBelow : ℕ → PlainStage → Type 0
StageWaitsBelow started (running rest wanted) = NextIsBelow started (rest []).next
StageWaitsBelow started _ = ⊤

-- Statements without where they lie in memory.
use Rattle.std.specs.Prelude.{ℕ, List}
use Rattle.script_text.specs.declared.line.Line.{Line}

-- Each list grows at its end.
mutual
  pub data PlainStatement : Type 0 where
    -- the number of the line
    act : ℕ → Line → PlainStatement
    -- the arms and the other body
    choice : Arms → Statements → PlainStatement

  pub data Statements : Type 0 where
    no_statements : Statements
    more_statements : Statements → PlainStatement → Statements

  pub data Arms : Type 0 where
    no_arms : Arms
    -- the number of the line, the test and the body
    more_arms : Arms → ℕ → List ℕ → Statements → Arms

pub record PlainArm : Type 0 where
  pub line : ℕ
  pub test : List ℕ
  pub body : Statements

-- Texts of a site that are read once, and what stands for them in the code. Only private functions and invariants cite these definitions.
use Rattle.std.specs.Prelude.{◌≡◌, ◌⊎◌, ◌↔◌, ℕ, Bool, List, [], Option, Some, None, Ok, Err, IsTrue}
use Rattle.rel_lexer.specs.declared.place.Place.{Place}
use Rattle.rel_trace.specs.declared.kind.RelKind.{RelKind}
use Rattle.rel_eval.specs.declared.question.Question.{Question}
use Rattle.rel_eval.specs.Questions.{IsRefusedAs, IsUndefined, IsPlanOf, plan_of}
use Rattle.script_text.specs.declared.error.ScriptError.{ScriptError}
use Rattle.script_text.specs.declared.script.Script.{Script}
use Rattle.script_text.specs.Readings.{shown_script}
use Rattle.script_text.specs.Scripts.{IsVerdict}
use Rattle.fix_site.specs.Contents.{IsFixlet}
use Rattle.fix_site.specs.declared.action.Target.{Target}
use Rattle.fix_site.specs.declared.action.Target.TheVariants as target
use Rattle.fix_site.specs.declared.fixlet.Fixlet.{Fixlet}
use Rattle.fix_site.specs.declared.fixlet.Success.{Success}
use Rattle.fix_site.specs.declared.fixlet.Success.TheVariants as success
use Rattle.agent_attempt.specs.Relevance.{HasScript}

-- the text is no question
abbrev pub IsNoQuestion : List ℕ → Type 0
IsNoQuestion text =
    ((kind : RelKind) × (place : Place) × IsRefusedAs text kind place) ⊎ ((place : Place) × (words : List ℕ) × IsUndefined text place words)

-- the text is this question, or none
abbrev pub IsReadAs : List ℕ → Option Question → Type 0
IsReadAs text None = IsNoQuestion text
IsReadAs text (Some question) = IsPlanOf text (plan_of question)

-- the lines are this script, or are refused
abbrev pub IsScriptOf : List (List ℕ) → Option Script → Type 0
IsScriptOf lines None = (error : ScriptError) × IsVerdict lines (Err error)
IsScriptOf lines (Some script) = IsVerdict lines (Ok (shown_script script))

-- the clauses that are kept, none where nothing is
abbrev pub clauses_in : Option (List (List ℕ)) → List (List ℕ)
clauses_in None = []
clauses_in (Some clauses) = clauses

-- the question of a success rule, if it has one
abbrev pub success_clause : Success → Option (List ℕ)
success_clause success.Lines = None
success_clause success.Relevance = None
success_clause (success.Clause question) = Some question

-- the question of a target, if it has one
abbrev pub target_clause : Target → Option (List ℕ)
target_clause target.All = None
target_clause (target.Computers names) = None
target_clause (target.Where question) = Some question

-- The question of the success rule and the script are those of a fixlet.
pub record AreTextsOf (fixlet : Fixlet) (rule : Option (List ℕ)) (read : Option Script) : Type 0 where
  pub good : IsFixlet fixlet
  pub success : rule ≡ success_clause fixlet.success
  pub script : IsScriptOf fixlet.script read

-- A fixlet has this id and these clauses, and a script or none.
pub record IsReadFixlet (fixlet : Fixlet) (own : ℕ) (clauses : List (List ℕ)) (has_script : Bool) : Type 0 where
  pub id : own ≡ fixlet.id
  pub relevance : clauses ≡ fixlet.relevance
  pub script : IsTrue has_script ↔ HasScript fixlet.script

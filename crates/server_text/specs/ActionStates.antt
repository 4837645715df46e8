-- The state in the text of an action.
use Rattle.std.specs.Prelude.{◌-◌, ℕ, Bool, true, nat_eq, List, [], ◌∷◌, ◌++◌, length, take}
use Rattle.std.specs.List.{ends_with}
use Rattle.line_forms.specs.Lines.{lines_text}
use Rattle.fix_site.specs.Actions.{end_line, state_line}

-- the last two lines of an action
abbrev pub state_end : Bool → List ℕ
state_end stopped = lines_text (state_line stopped ∷ end_line ∷ [])

-- whether this is the text of a stopped action
abbrev pub is_stopped : List ℕ → Bool
is_stopped text = ends_with nat_eq text (state_end true)

-- the text of an action before its last two lines
abbrev pub before_state : List ℕ → List ℕ
before_state text = take (length text - length (state_end (is_stopped text))) text

-- the text of the same action, stopped
abbrev pub stopped_text : List ℕ → List ℕ
stopped_text text = before_state text ++ state_end true

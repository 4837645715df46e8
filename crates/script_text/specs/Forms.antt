-- The forms of command lines.
use Rattle.std.specs.Prelude.{◌≡◌, ℕ, List, codes}
use Rattle.script_text.specs.declared.kind.Kind.{Kind}
use Rattle.script_text.specs.declared.kind.Kind.TheVariants as kind
use Rattle.script_text.specs.declared.line.Line.TheVariants as line
use Rattle.script_text.specs.declared.command.Command.{Command}
use Rattle.script_text.specs.declared.command.Command.TheVariants as command
use Rattle.script_text.specs.declared.command.Source.{Source}
use Rattle.script_text.specs.declared.template.Template.{Template}
use Rattle.script_text.specs.Items as item
use Rattle.script_text.specs.Items.{Item, Taken, took, brace_open, absent, IsTaken}

-- what a line is by itself
pub data Outcome : Type 0 where
  reads : Command → Outcome
  no_command : Outcome
  brace_not_closed : Outcome

-- A form says how a text is read.
abbrev pub Form : Type 1
Form = List ℕ → Outcome → Type 0

-- what comes of it where an item was taken, a brace in it isn't closed, or it is absent
abbrev pub Goes : {V : Type 0} → (V → Form) → Taken V → Outcome → Type 0
Goes next (took value rest) outcome = next value rest outcome
Goes next brace_open outcome = outcome ≡ brace_not_closed
Goes next absent outcome = outcome ≡ no_command

-- An item, and then what its value says. From the left the first item decides that can't be read.
unfoldable pub then : {V : Type 0} → Item V → (V → Form) → Form
then {V} first next text outcome = (taken : Taken V) × IsTaken first text taken × Goes next taken outcome

-- all is read
abbrev pub done : Command → Form
done found text outcome = outcome ≡ reads found

-- the line ends
abbrev pub ended : Command → Form
ended found = then item.line_end (λ _. done found)

abbrev pub word : List ℕ → Form → Form
word lower next = then (item.word lower) (λ _. next)

abbrev pub gap : Form → Form
gap next = then item.gap (λ _. next)

abbrev pub equals : Form → Form
equals next = then item.equals (λ _. next)

abbrev pub loose_equals : Form → Form
loose_equals next = then item.loose_equals (λ _. next)

-- nothing more
abbrev pub bare_form : Command → Form
bare_form found = ended found

-- ` {E}`
abbrev pub test_form : (List ℕ → Command) → Form
test_form make = gap (then item.braced (λ test. ended (make test)))

-- ` REST`
abbrev pub rest_form : (Template → Command) → Form
rest_form make = gap (then item.rest_of_line (λ rest. done (make rest)))

-- ` P`
abbrev pub path_form : (Template → Command) → Form
path_form make = gap (then item.path_of_line (λ path. done (make path)))

-- ` Q Q`
abbrev pub pair_form : (Template → Template → Command) → Form
pair_form make = gap (then item.quoted (λ first. gap (then item.quoted (λ second. ended (make first second)))))

-- ` WORD`
abbrev pub until_form : (List ℕ → Command) → Form
until_form make = gap (then item.field (λ closing. ended (make closing)))

-- ` "name" = Q`
abbrev pub parameter_form : (List ℕ → Template → Command) → Form
parameter_form make = gap (then item.quoted_name (λ name. gap (equals (gap
    (then item.quoted (λ value. ended (make name value)))))))

-- ` on Q for client`
abbrev pub date_form : (Template → Form) → Form
date_form next = gap (word (codes "on") (gap (then item.quoted (λ date.
    gap (word (codes "for") (gap (word (codes "client") (next date))))))))

-- ` Q=Q on Q for client`
abbrev pub setting_form : (Template → Template → Template → Command) → Form
setting_form make = gap (then item.quoted (λ name. loose_equals (then item.quoted (λ value.
    date_form (λ date. ended (make name value date))))))

-- ` Q on Q for client`
abbrev pub setting_delete_form : (Template → Template → Command) → Form
setting_delete_form make = gap (then item.quoted (λ name. date_form (λ date. ended (make name date))))

-- ` NAME sha1:HEX size:N URL sha256:HEX`
abbrev pub prefetch_form : (Source → Command) → Form
prefetch_form make =
    gap (then item.name_field (λ name. gap (then (item.digest_field (codes "sha1:") 20) (λ sha1.
    gap (then item.size_field (λ size. gap (then item.field (λ url.
    gap (then (item.digest_field (codes "sha256:") 32) (λ sha256.
    ended (make (record { name = name; sha1 = sha1; size = size; url = url; sha256 = sha256 }))))))))))))

-- one word, or two with blanks between them
pub data Words : Type 0 where
  one : List ℕ → Words
  two : List ℕ → List ℕ → Words

-- the words with which lines of a kind begin
abbrev pub words : Kind → Words
words kind.Parameter = one (codes "parameter")
words kind.If = one (codes "if")
words kind.ElseIf = one (codes "elseif")
words kind.Else = one (codes "else")
words kind.EndIf = one (codes "endif")
words kind.ContinueIf = two (codes "continue") (codes "if")
words kind.PauseWhile = two (codes "pause") (codes "while")
words kind.Create = two (codes "createfile") (codes "until")
words kind.Append = one (codes "appendfile")
words kind.Delete = one (codes "delete")
words kind.Copy = one (codes "copy")
words kind.Move = one (codes "move")
words kind.FolderCreate = two (codes "folder") (codes "create")
words kind.FolderDelete = two (codes "folder") (codes "delete")
words kind.Run = one (codes "run")
words kind.Wait = one (codes "wait")
words kind.RunHidden = one (codes "runhidden")
words kind.WaitHidden = one (codes "waithidden")
words kind.Setting = one (codes "setting")
words kind.SettingDelete = two (codes "setting") (codes "delete")
words kind.Prefetch = one (codes "prefetch")

-- what follows these words, and what its parts mean
abbrev pub form : Kind → Form
form kind.Parameter = parameter_form (λ name value. command.Do (line.Parameter name value))
form kind.If = test_form (λ test. command.If test)
form kind.ElseIf = test_form (λ test. command.ElseIf test)
form kind.Else = bare_form command.Else
form kind.EndIf = bare_form command.EndIf
form kind.ContinueIf = test_form (λ test. command.Do (line.ContinueIf test))
form kind.PauseWhile = test_form (λ test. command.Do (line.PauseWhile test))
form kind.Create = until_form (λ closing. command.Create closing)
form kind.Append = rest_form (λ text. command.Do (line.Append text))
form kind.Delete = path_form (λ path. command.Do (line.Delete path))
form kind.Copy = pair_form (λ from to. command.Do (line.Copy from to))
form kind.Move = pair_form (λ from to. command.Do (line.Move from to))
form kind.FolderCreate = path_form (λ path. command.Do (line.FolderCreate path))
form kind.FolderDelete = path_form (λ path. command.Do (line.FolderDelete path))
form kind.Run = rest_form (λ text. command.Do (line.Run text))
form kind.Wait = rest_form (λ text. command.Do (line.Wait text))
form kind.RunHidden = rest_form (λ text. command.Do (line.RunHidden text))
form kind.WaitHidden = rest_form (λ text. command.Do (line.WaitHidden text))
form kind.Setting = setting_form (λ name value date. command.Do (line.Setting name value date))
form kind.SettingDelete = setting_delete_form (λ name date. command.Do (line.SettingDelete name date))
form kind.Prefetch = prefetch_form (λ source. command.Prefetch source)

-- the words, and then more
abbrev pub after_words : Words → Form → Form
after_words (one first) next = word first next
after_words (two first second) next = word first (gap (word second next))

-- a line of this kind
abbrev pub kind_form : Kind → Form
kind_form which = after_words (words which) (form which)

-- Each form reads a text in one way at most.
use Rattle.std.proofs.Common.{◌≡◌, ℕ, List, sym, subst, ◌∙◌}
use Rattle.std.specs.Prelude.{codes}
use Rattle.script_text.specs.declared.kind.Kind.{Kind}
use Rattle.script_text.specs.declared.kind.Kind.TheVariants as kind
use Rattle.script_text.specs.declared.command.Command.{Command}
use Rattle.script_text.specs.declared.command.Command.TheVariants as command
use Rattle.script_text.specs.declared.command.Source.{Source}
use Rattle.script_text.specs.declared.template.Template.{Template}
use Rattle.script_text.specs.Items.{Item, Taken, took, brace_open, absent, field, word, name_field, size_field, digest_field, gap, equals, loose_equals, quoted_name, braced, quoted, rest_of_line, path_of_line}
use Rattle.script_text.specs.Forms.{Outcome, Form, Goes, then, done, ended, pair_form, parameter_form, date_form, setting_form, setting_delete_form, prefetch_form, Words, one, two, words, form, after_words, kind_form}
use Rattle.script_text.proofs.OneItem.{IsSingle, field_single, word_single, name_single, size_single, digest_single, gap_single, equals_single, loose_equals_single, quoted_name_single, braced_single, quoted_single, rest_single, path_single, end_single}

-- a text is read so in one way
abbrev pub ReadsOne : Form → Type 0
ReadsOne f = (text : List ℕ) (o p : Outcome) → f text o → f text p → o ≡ p

goes_one : {V : Type 0} (next : V → Form) → ((v : V) → ReadsOne (next v)) → (t : Taken V) (o p : Outcome) → Goes next t o → Goes next t p → o ≡ p
goes_one next each (took v r) o p x y = each v r o p x y
goes_one next each brace_open o p x y = x ∙ sym y
goes_one next each absent o p x y = x ∙ sym y

then_one : {V : Type 0} (item : Item V) (next : V → Form) → IsSingle item → ((v : V) → ReadsOne (next v)) → ReadsOne (then item next)
unfolding then
then_one item next s each text o p x y =
    goes_one next each y.0 o p (subst (λ t. Goes next t o) (s text x.0 y.0 x.1 y.1) x.2) y.2

done_one : (c : Command) → ReadsOne (done c)
done_one c text o p x y = x ∙ sym y

ended_one : (c : Command) → ReadsOne (ended c)
ended_one c = then_one _ _ end_single (λ _. done_one c)

gap_one : (next : Form) → ReadsOne next → ReadsOne (then gap (λ _. next))
gap_one next h = then_one gap (λ _. next) gap_single (λ _. h)

word_one : (lower : List ℕ) (next : Form) → ReadsOne next → ReadsOne (then (word lower) (λ _. next))
word_one lower next h = then_one (word lower) (λ _. next) (word_single lower) (λ _. h)

-- a blank, one item, and the end
last_one : {V : Type 0} (item : Item V) (make : V → Command) → IsSingle item → ReadsOne (then gap (λ _. then item (λ v. ended (make v))))
last_one item make s = gap_one _ (then_one item (λ v. ended (make v)) s (λ v. ended_one (make v)))

-- a blank, and an item to the end of the line
rest_one : {V : Type 0} (item : Item V) (make : V → Command) → IsSingle item → ReadsOne (then gap (λ _. then item (λ v. done (make v))))
rest_one item make s = gap_one _ (then_one item (λ v. done (make v)) s (λ v. done_one (make v)))

pair_one : (make : Template → Template → Command) → ReadsOne (pair_form make)
pair_one make = gap_one _ (then_one quoted _ quoted_single (λ first. last_one quoted (make first) quoted_single))

parameter_one : (make : List ℕ → Template → Command) → ReadsOne (parameter_form make)
parameter_one make =
    gap_one _ (then_one quoted_name _ quoted_name_single (λ name.
    gap_one _ (then_one equals _ equals_single (λ _. last_one quoted (make name) quoted_single))))

date_one : (next : Template → Form) → ((date : Template) → ReadsOne (next date)) → ReadsOne (date_form next)
date_one next h =
    gap_one _ (word_one (codes "on") _ (gap_one _ (then_one quoted _ quoted_single (λ date.
    gap_one _ (word_one (codes "for") _ (gap_one _ (word_one (codes "client") _ (h date))))))))

setting_one : (make : Template → Template → Template → Command) → ReadsOne (setting_form make)
setting_one make =
    gap_one _ (then_one quoted _ quoted_single (λ name.
    then_one loose_equals _ loose_equals_single (λ _.
    then_one quoted _ quoted_single (λ value. date_one _ (λ date. ended_one (make name value date))))))

setting_delete_one : (make : Template → Template → Command) → ReadsOne (setting_delete_form make)
setting_delete_one make = gap_one _ (then_one quoted _ quoted_single (λ name. date_one _ (λ date. ended_one (make name date))))

prefetch_one : (make : Source → Command) → ReadsOne (prefetch_form make)
prefetch_one make =
    gap_one _ (then_one name_field _ name_single (λ name.
    gap_one _ (then_one (digest_field (codes "sha1:") 20) _ (digest_single (codes "sha1:") 20) (λ sha1.
    gap_one _ (then_one size_field _ size_single (λ size.
    gap_one _ (then_one field _ field_single (λ url.
    last_one (digest_field (codes "sha256:") 32) _ (digest_single (codes "sha256:") 32)))))))))

form_one : (which : Kind) → ReadsOne (form which)
form_one kind.Parameter = parameter_one _
form_one kind.If = last_one braced _ braced_single
form_one kind.ElseIf = last_one braced _ braced_single
form_one kind.Else = ended_one _
form_one kind.EndIf = ended_one _
form_one kind.ContinueIf = last_one braced _ braced_single
form_one kind.PauseWhile = last_one braced _ braced_single
form_one kind.Create = last_one field _ field_single
form_one kind.Append = rest_one rest_of_line _ rest_single
form_one kind.Delete = rest_one path_of_line _ path_single
form_one kind.Copy = pair_one _
form_one kind.Move = pair_one _
form_one kind.FolderCreate = rest_one path_of_line _ path_single
form_one kind.FolderDelete = rest_one path_of_line _ path_single
form_one kind.Run = rest_one rest_of_line _ rest_single
form_one kind.Wait = rest_one rest_of_line _ rest_single
form_one kind.RunHidden = rest_one rest_of_line _ rest_single
form_one kind.WaitHidden = rest_one rest_of_line _ rest_single
form_one kind.Setting = setting_one _
form_one kind.SettingDelete = setting_delete_one _
form_one kind.Prefetch = prefetch_one (λ source. command.Prefetch source)

words_one : (w : Words) (next : Form) → ReadsOne next → ReadsOne (after_words w next)
words_one (one first) next h = word_one first next h
words_one (two first second) next h = word_one first _ (gap_one _ (word_one second next h))

-- a text is read as a line of this kind in one way
pub kind_one : (which : Kind) → ReadsOne (kind_form which)
kind_one which = words_one (words which) (form which) (form_one which)

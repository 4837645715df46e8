-- All kinds of lines.
use Rattle.std.proofs.Common.{suc, zero, ◌≡◌, ℕ, ◌+◌, ◌<◌, List, [], ◌∷◌, length, get_or, refl, subst, arith, lit<, below_more}
use Rattle.script_text.specs.declared.kind.Kind.{Kind}
use Rattle.script_text.specs.declared.kind.Kind.TheVariants.{Parameter, If, ElseIf, Else, EndIf, ContinueIf, PauseWhile, Create, Append, Delete, Copy, Move, FolderCreate, FolderDelete, Run, Wait, RunHidden, WaitHidden, Setting, SettingDelete, Prefetch}
use Rattle.script_text.specs.declared.error.Refusal.TheVariants as refusal
use Rattle.script_text.specs.Forms.{no_command, kind_form}
use Rattle.script_text.specs.Lines.{CommandReads}
use Rattle.script_text.specs.Readings.{NotOfForm}

abbrev kinds : List Kind
kinds = Parameter ∷ If ∷ ElseIf ∷ Else ∷ EndIf ∷ ContinueIf ∷ PauseWhile ∷ Create ∷ Append ∷ Delete ∷ Copy ∷ Move ∷ FolderCreate ∷ FolderDelete ∷ Run ∷ Wait ∷ RunHidden ∷ WaitHidden ∷ Setting ∷ SettingDelete ∷ Prefetch ∷ []

abbrev IsNone : List ℕ → ℕ → Type 0
IsNone text n = (k : ℕ) (d : Kind) → k < n → kind_form (get_or kinds k d) text no_command

each_kind : (text : List ℕ) → IsNone text 21 → (which : Kind) → kind_form which text no_command
each_kind text f Parameter = f 0 Parameter (lit< tt)
each_kind text f If = f 1 If (lit< tt)
each_kind text f ElseIf = f 2 If (lit< tt)
each_kind text f Else = f 3 If (lit< tt)
each_kind text f EndIf = f 4 If (lit< tt)
each_kind text f ContinueIf = f 5 If (lit< tt)
each_kind text f PauseWhile = f 6 If (lit< tt)
each_kind text f Create = f 7 If (lit< tt)
each_kind text f Append = f 8 If (lit< tt)
each_kind text f Delete = f 9 If (lit< tt)
each_kind text f Copy = f 10 If (lit< tt)
each_kind text f Move = f 11 If (lit< tt)
each_kind text f FolderCreate = f 12 If (lit< tt)
each_kind text f FolderDelete = f 13 If (lit< tt)
each_kind text f Run = f 14 If (lit< tt)
each_kind text f Wait = f 15 If (lit< tt)
each_kind text f RunHidden = f 16 If (lit< tt)
each_kind text f WaitHidden = f 17 If (lit< tt)
each_kind text f Setting = f 18 If (lit< tt)
each_kind text f SettingDelete = f 19 If (lit< tt)
each_kind text f Prefetch = f 20 If (lit< tt)

-- a line of no kind is no command
pub no_kind : (text : List ℕ) → IsNone text 21 → NotOfForm CommandReads text refusal.NoCommand
unfolding NotOfForm
no_kind text f = each_kind text f

pub brace_kind : (text : List ℕ) (which : Kind) → NotOfForm (kind_form which) text refusal.BraceNotClosed → NotOfForm CommandReads text refusal.BraceNotClosed
unfolding NotOfForm
brace_kind text which h = (which, h)

get_or_any : (xs : List Kind) (i : ℕ) (d e : Kind) → i < length xs → get_or xs i d ≡ get_or xs i e
get_or_any [] i d e l = absurd (omega arith)
get_or_any (x ∷ xs) zero d e l = refl
get_or_any (x ∷ xs) (suc i) d e l = get_or_any xs i d e (omega arith)

pub none_more : (text : List ℕ) (i : ℕ) (d : Kind) → i < 21 → IsNone text i → NotOfForm (kind_form (get_or kinds i d)) text refusal.NoCommand → IsNone text (i + 1)
unfolding NotOfForm
none_more text i d l f h = λ k e b.
    let P : ℕ → Type 0 = λ n. (e : Kind) → kind_form (get_or kinds n e) text no_command in
    below_more P i (λ n m g. f n g m) (λ e. subst (λ w. kind_form w text no_command) (get_or_any kinds i d e l) h) k b e

-- A line is one thing by itself.
use Rattle.std.proofs.Common.{◌≡◌, ◌≢◌, ℕ, ◌<◌, ◌⊎◌, Bool, true, false, List, [], ◌∷◌, ◌++◌, reverse, map, length, get_or, refl, sym, ap, subst, ◌∙◌, inl, inr, arith}
use Rattle.std.specs.Prelude.{codes}
use Rattle.std.specs.Char.{to_ascii_lowercase}
use Rattle.std.proofs.lemmas.Bool.{false≢true}
use Rattle.std.proofs.lemmas.List.{reverse-append, reverse-reverse}
use Rattle.script_text.specs.declared.kind.Kind.{Kind}
use Rattle.script_text.specs.declared.kind.Kind.TheVariants as kind
use Rattle.script_text.specs.declared.command.Command.TheVariants as command
use Rattle.script_text.specs.declared.template.Template.{Template}
use Rattle.script_text.specs.Bytes.{Each, is_blank, is_in_field, StopsAt, SplitsRun}
use Rattle.script_text.specs.Items.{took, brace_open, absent, word, gap, quoted}
use Rattle.script_text.specs.Forms.{Outcome, reads, no_command, brace_not_closed, Form, then, Words, one, two, words, form, after_words, kind_form}
use Rattle.script_text.specs.Lines.{IsTrimmed, IsNothing, CommandReads, LineReads}
use Rattle.script_text.specs.Readings.{first_word}
use Rattle.script_text.proofs.Cutting.{run_one}
use Rattle.script_text.proofs.KindWords.{key, first_key, is_second, kind_from, known}
use Rattle.script_text.proofs.OneForm.{kind_one}

-- what is no command begins with the first item
word_goes : (lower : List ℕ) (next : Form) (text : List ℕ) (o : Outcome) → then (word lower) (λ _. next) text o → o ≢ no_command → (rest : List ℕ) × (word lower).Takes text tt rest × next rest o
unfolding then
word_goes lower next text o (took tt rest, t, g) n = (rest, t, g)
word_goes lower next text o (brace_open, t, g) n = absurd t
word_goes lower next text o (absent, t, g) n = absurd (n g)

gap_goes : (next : Form) (text : List ℕ) (o : Outcome) → then gap (λ _. next) text o → o ≢ no_command → (rest : List ℕ) × gap.Takes text tt rest × next rest o
unfolding then
gap_goes next text o (took tt rest, t, g) n = (rest, t, g)
gap_goes next text o (brace_open, t, g) n = absurd t
gap_goes next text o (absent, t, g) n = absurd (n g)

quoted_goes : (next : Template → Form) (text : List ℕ) (o : Outcome) → then quoted next text o → o ≢ no_command → (inner : List ℕ) × (text ≡ 34 ∷ inner)
unfolding then
quoted_goes next text o (took value rest, t, g) n = (t.0, t.1)
quoted_goes next text o (brace_open, t, g) n = (t.0, t.1)
quoted_goes next text o (absent, t, g) n = absurd (n g)

-- two words with which a text begins differ in case at most, and one text follows
words_same : (v w text r s : List ℕ) → (word v).Takes text tt r → (word w).Takes text tt s → (map to_ascii_lowercase v ≡ map to_ascii_lowercase w) × (r ≡ s)
words_same v w text r s x y =
    let same = run_one is_in_field text x.0 y.0 r s x.1.1 y.1.1 in
    (sym x.2 ∙ ap (map to_ascii_lowercase) same.0 ∙ y.2, same.1)

first_goes : (w : Words) (next : Form) (text : List ℕ) (o : Outcome) → after_words w next text o → o ≢ no_command → (rest : List ℕ) × (word (first_word w)).Takes text tt rest
first_goes (one f) next text o h n = let g = word_goes f next text o h n in (g.0, g.1)
first_goes (two f s) next text o h n = let g = word_goes f _ text o h n in (g.0, g.1)

-- two pairs of words with which a text begins have the second in common where they have the first
seconds_same : (f s t : List ℕ) (next other : Form) (text : List ℕ) (o p : Outcome) → after_words (two f s) next text o → after_words (two f t) other text p → o ≢ no_command → p ≢ no_command → map to_ascii_lowercase s ≡ map to_ascii_lowercase t
seconds_same f s t next other text o p x y m n =
    let a = word_goes f _ text o x m in
    let b = word_goes f _ text p y n in
    let c = gap_goes _ a.0 o a.2 m in
    let d = gap_goes _ b.0 p b.2 n in
    let behind = (words_same f f text a.0 b.0 a.1 b.1).1 in
    let e = word_goes s _ c.0 o c.2 m in
    let g = word_goes t _ d.0 p d.2 n in
    let left = (run_one is_blank b.0 c.1.0 d.1.0 c.0 d.0 (subst (λ z. SplitsRun is_blank z c.1.0 c.0) behind c.1.2) d.1.2).1 in
    (words_same s t d.0 e.0 g.0 (subst (λ z. (word s).Takes z tt e.0) left e.1) g.1).0

folder_one : (text : List ℕ) (o p : Outcome) → kind_form kind.FolderDelete text o → kind_form kind.FolderCreate text p → o ≢ no_command → p ≢ no_command → ⊥
folder_one text o p x y m n =
    let same = seconds_same (codes "folder") (codes "delete") (codes "create") (form kind.FolderDelete) (form kind.FolderCreate) text o p x y m n in
    let first : List ℕ → ℕ = λ l. get_or l 0 0 in
    let letters = ap first same in
    omega arith

-- no word of letters begins with a quote
quote_word : (inner field rest : List ℕ) → 34 ∷ inner ≡ field ++ rest → 0 < length field → map to_ascii_lowercase field ≡ map to_ascii_lowercase (codes "delete") → ⊥
quote_word inner [] rest e l s = omega arith
quote_word inner (b ∷ bs) rest e l s =
    let first = ap (λ l. get_or l 0 0) e in
    let letters = ap (λ l. get_or l 0 0) s in
    let upper = ap to_ascii_lowercase first in
    omega arith

-- a second word stands where a quote could
second_or_quote : (f s : List ℕ) (next : Form) (other : Template → Form) (text : List ℕ) (o p : Outcome) → after_words (two f s) next text o → after_words (one f) (then gap (λ _. then quoted other)) text p → o ≢ no_command → p ≢ no_command → (inner rest : List ℕ) × (word s).Takes (34 ∷ inner) tt rest
second_or_quote f s next other text o p x y m n =
    let a = word_goes f _ text o x m in
    let b = word_goes f _ text p y n in
    let c = gap_goes _ a.0 o a.2 m in
    let d = gap_goes _ b.0 p b.2 n in
    let behind = (words_same f f text a.0 b.0 a.1 b.1).1 in
    let e = word_goes s next c.0 o c.2 m in
    let q = quoted_goes other d.0 p d.2 n in
    let left = (run_one is_blank b.0 c.1.0 d.1.0 c.0 d.0 (subst (λ z. SplitsRun is_blank z c.1.0 c.0) behind c.1.2) d.1.2).1 in
    (q.0, e.0, subst (λ z. (word s).Takes z tt e.0) (left ∙ q.1) e.1)

setting_one : (text : List ℕ) (o p : Outcome) → kind_form kind.SettingDelete text o → kind_form kind.Setting text p → o ≢ no_command → p ≢ no_command → ⊥
setting_one text o p x y m n =
    let h = second_or_quote (codes "setting") (codes "delete") (form kind.SettingDelete) _ text o p x y m n in
    quote_word h.0 h.2.0 h.1 h.2.1.1.splits h.2.1.0 h.2.2

not_second : (j k : Kind) (text : List ℕ) (o p : Outcome) → true ≡ is_second j → false ≡ is_second k → first_key j ≡ first_key k → kind_form j text o → kind_form k text p → o ≢ no_command → p ≢ no_command → ⊥
not_second kind.FolderDelete k text o p t f e x y m n =
    let is : k ≡ kind.FolderCreate = known k ∙ ap (λ s. kind_from (first_key k) s) (sym f) ∙ ap (λ l. kind_from l false) (sym e) in
    folder_one text o p x (subst (λ w. kind_form w text p) is y) m n
not_second kind.SettingDelete k text o p t f e x y m n =
    let is : k ≡ kind.Setting = known k ∙ ap (λ s. kind_from (first_key k) s) (sym f) ∙ ap (λ l. kind_from l false) (sym e) in
    setting_one text o p x (subst (λ w. kind_form w text p) is y) m n
not_second _ k text o p t f e x y m n = false≢true (sym t)

agree : (a b : Bool) → (true ≡ a → false ≡ b → ⊥) → (true ≡ b → false ≡ a → ⊥) → a ≡ b
agree true true f g = refl
agree true false f g = absurd (f refl refl)
agree false true f g = absurd (g refl refl)
agree false false f g = refl

-- a text is a line of one kind at most
kinds_same : (j k : Kind) (text : List ℕ) (o p : Outcome) → kind_form j text o → kind_form k text p → o ≢ no_command → p ≢ no_command → j ≡ k
kinds_same j k text o p x y m n =
    let a = first_goes (words j) (form j) text o x m in
    let b = first_goes (words k) (form k) text p y n in
    let first : first_key j ≡ first_key k = ap key (words_same _ _ text a.0 b.0 a.1 b.1).0 in
    let second = agree (is_second j) (is_second k) (λ t f. not_second j k text o p t f first x y m n) (λ t f. not_second k j text p o t f (sym first) y x n m) in
    known j ∙ ap (λ l. kind_from l (is_second j)) first ∙ ap (kind_from (first_key k)) second ∙ sym (known k)

some_kind_one : (j k : Kind) (text : List ℕ) (o p : Outcome) → kind_form j text o → kind_form k text p → o ≢ no_command → p ≢ no_command → o ≡ p
some_kind_one j k text o p x y m n =
    kind_one k text o p (subst (λ w. kind_form w text o) (kinds_same j k text o p x y m n) x) y

commands_one : (text : List ℕ) (o p : Outcome) → CommandReads text o → CommandReads text p → o ≡ p
commands_one text no_command no_command x y = refl
commands_one text no_command (reads c) x y = kind_one y.0 text _ _ (x y.0) y.1
commands_one text no_command brace_not_closed x y = kind_one y.0 text _ _ (x y.0) y.1
commands_one text (reads c) no_command x y = kind_one x.0 text _ _ x.1 (y x.0)
commands_one text brace_not_closed no_command x y = kind_one x.0 text _ _ x.1 (y x.0)
commands_one text (reads c) (reads d) x y = some_kind_one x.0 y.0 text _ _ x.1 y.1 (λ e. cc) (λ e. cc)
commands_one text (reads c) brace_not_closed x y = some_kind_one x.0 y.0 text _ _ x.1 y.1 (λ e. cc) (λ e. cc)
commands_one text brace_not_closed (reads d) x y = some_kind_one x.0 y.0 text _ _ x.1 y.1 (λ e. cc) (λ e. cc)
commands_one text brace_not_closed brace_not_closed x y = refl

each_append : (p : ℕ → Bool) (xs ys : List ℕ) → Each p xs → Each p ys → Each p (xs ++ ys)
each_append p [] ys h k = k
each_append p (x ∷ xs) ys h k = (h.0, each_append p xs ys h.1 k)

each_behind : (p : ℕ → Bool) (xs ys : List ℕ) → Each p (xs ++ ys) → Each p ys
each_behind p [] ys h = h
each_behind p (x ∷ xs) ys h = each_behind p xs ys h.1

each_reverse : (p : ℕ → Bool) (xs : List ℕ) → Each p xs → Each p (reverse xs)
each_reverse p [] h = tt
each_reverse p (x ∷ xs) h =
    subst (Each p) (sym (reverse-append (x ∷ []) xs)) (each_append p (reverse xs) (x ∷ []) (each_reverse p xs h.1) (h.0, tt))

-- what stands before the blanks at the end is one text
ends_same : (a b c d : List ℕ) → a ++ c ≡ b ++ d → Each is_blank c → Each is_blank d → StopsAt is_blank (reverse a) → StopsAt is_blank (reverse b) → a ≡ b
ends_same a b c d e bc bd sa sb =
    let same = run_one is_blank (reverse (a ++ c)) (reverse c) (reverse d) (reverse a) (reverse b)
    (record { splits = reverse-append a c; passing = each_reverse is_blank c bc; stops = sa })
    (record { splits = ap reverse e ∙ reverse-append b d; passing = each_reverse is_blank d bd; stops = sb }) in
    sym (reverse-reverse a) ∙ ap reverse same.1 ∙ reverse-reverse b

-- blanks hold nothing else
only_blanks : (line before behind front rest : List ℕ) (b : ℕ) → line ≡ before ++ behind → Each is_blank before → Each is_blank behind → line ≡ front ++ b ∷ rest → is_blank b ≡ false → ⊥
only_blanks line before behind front rest b e f g h n =
    let all = subst (Each is_blank) (sym e ∙ h) (each_append is_blank before behind f g) in
    false≢true (sym n ∙ (each_behind is_blank front (b ∷ rest) all).0)

trimmed_one : (line a b : List ℕ) → IsTrimmed line a → IsTrimmed line b → a ≡ b
trimmed_one line [] [] x y = refl
trimmed_one line [] (b ∷ bs) x y = absurd (only_blanks line x.before x.behind y.before (bs ++ y.behind) b x.splits x.blank_before x.blank_behind y.splits y.begins)
trimmed_one line (a ∷ as') [] x y = absurd (only_blanks line y.before y.behind x.before (as' ++ x.behind) a y.splits y.blank_before y.blank_behind x.splits x.begins)
trimmed_one line (a ∷ as') (b ∷ bs) x y =
    let same = run_one is_blank line x.before y.before ((a ∷ as') ++ x.behind) ((b ∷ bs) ++ y.behind)
    (record { splits = x.splits; passing = x.blank_before; stops = x.begins })
    (record { splits = y.splits; passing = y.blank_before; stops = y.begins }) in
    ends_same (a ∷ as') (b ∷ bs) x.behind y.behind same.1 x.blank_behind y.blank_behind x.ends y.ends

abbrev IsSo : List ℕ → Outcome → Type 0
IsSo text o = (IsNothing text × (o ≡ reads command.Nothing)) ⊎ (¬ IsNothing text × CommandReads text o)

so_one : (text : List ℕ) (o p : Outcome) → IsSo text o → IsSo text p → o ≡ p
so_one text o p (inl x) (inl y) = x.1 ∙ sym y.1
so_one text o p (inl x) (inr y) = absurd (y.0 x.0)
so_one text o p (inr x) (inl y) = absurd (x.0 y.0)
so_one text o p (inr x) (inr y) = commands_one text o p x.1 y.1

-- a line is one thing by itself
pub line_one : (line : List ℕ) (o p : Outcome) → LineReads line o → LineReads line p → o ≡ p
line_one line o p x y = so_one y.0 o p (subst (λ t. IsSo t o) (trimmed_one line x.0 y.0 x.1 y.1) x.2) y.2

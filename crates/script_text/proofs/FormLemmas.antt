-- Forms, item by item.
use Rattle.std.proofs.Common.{◌≡◌, ℕ, Some, None, List, [], refl, subst}
use Rattle.script_text.specs.declared.error.Refusal.{Refusal}
use Rattle.script_text.specs.declared.error.Refusal.TheVariants as refusal
use Rattle.std.specs.Prelude.{Result, Ok, Err, MatchResult}
use Rattle.script_text.specs.declared.command.Command.{Command}
use denote.Ref.{Bor}
use Rattle.script_text.specs.Items.{word, gap, Item, took, brace_open, absent}
use Rattle.script_text.specs.Forms.{Words, one, two, after_words, Form, Outcome, reads, no_command, brace_not_closed, then, done}
use Rattle.script_text.specs.Readings.{NotTaken, NotOfForm, first_word, second_word}

-- the first item is taken, and what follows is read so
pub goes_on : {V : Type 0} (item : Item V) (next : V → Form) (text : List ℕ) (value : V) (rest : List ℕ) (outcome : Outcome) → item.Takes text value rest → next value rest outcome → then item next text outcome
unfolding then
goes_on item next text value rest outcome t h = (took value rest, t, h)

-- the first item isn't taken
pub fails : {V : Type 0} (item : Item V) (next : V → Form) (text : List ℕ) (e : Refusal) → NotTaken item text e → NotOfForm (then item next) text e
unfolding then NotOfForm
fails item next text refusal.NoCommand h = (absent, h, refl)
fails item next text refusal.BraceNotClosed h = (brace_open, h, refl)
fails item next text refusal.Memory h = tt

-- the first item is taken, and what follows isn't of the form
pub fails_later : {V : Type 0} (item : Item V) (next : V → Form) (text : List ℕ) (value : V) (rest : List ℕ) (e : Refusal) → item.Takes text value rest → NotOfForm (next value) rest e → NotOfForm (then item next) text e
unfolding then NotOfForm
fails_later item next text value rest refusal.NoCommand t h = (took value rest, t, h)
fails_later item next text value rest refusal.BraceNotClosed t h = (took value rest, t, h)
fails_later item next text value rest refusal.Memory t h = tt

-- want of memory is no fact about the text
pub no_memory : (form : Form) (text : List ℕ) → NotOfForm form text refusal.Memory
unfolding NotOfForm
no_memory form text = tt

-- a blank, and an item to the end of the line
pub last_item : {V : Type 0} (item : Item V) (make : V → Command) (text rest : List ℕ) (r : Result V Refusal) → gap.Takes text tt rest → MatchResult r (λ v. item.Takes rest v []) (λ e. NotTaken item rest e) → MatchResult r (λ v. then gap (λ _. then item (λ x. done (make x))) text (reads (make v))) (λ e. NotOfForm (then gap (λ _. then item (λ x. done (make x)))) text e)
last_item item make text rest (Ok v) g h = goes_on _ _ _ tt rest _ g (goes_on _ _ _ v [] _ h refl)
last_item item make text rest (Err e) g h = fails_later _ _ _ tt rest _ g (fails _ _ _ _ h)

-- the words of a kind
pub first_fails : (w : Words) (next : Form) (text seen : List ℕ) (e : Refusal) → seen ≡ first_word w → NotTaken (word seen) text e → NotOfForm (after_words w next) text e
first_fails (one f) next text seen e s h = fails _ _ _ _ (subst (λ x. NotTaken (word x) text e) s h)
first_fails (two f g) next text seen e s h = fails _ _ _ _ (subst (λ x. NotTaken (word x) text e) s h)

pub one_goes : (w : Words) (next : Form) (text rest seen : List ℕ) (outcome : Outcome) → seen ≡ first_word w → None ≡ second_word w → (word seen).Takes text tt rest → next rest outcome → after_words w next text outcome
one_goes (one f) next text rest seen outcome s n t h = goes_on _ _ _ tt rest _ (subst (λ x. (word x).Takes text tt rest) s t) h
one_goes (two f g) next text rest seen outcome s n t h = let m = n in cc

pub gap_fails : (w : Words) (next : Form) (text rest seen second : List ℕ) (e : Refusal) → seen ≡ first_word w → Some second ≡ second_word w → (word seen).Takes text tt rest → NotTaken gap rest e → NotOfForm (after_words w next) text e
gap_fails (one f) next text rest seen second e s n t h = let m = n in cc
gap_fails (two f g) next text rest seen second e s n t h = fails_later _ _ _ tt rest _ (subst (λ x. (word x).Takes text tt rest) s t) (fails _ _ _ _ h)

some_same : (a b : List ℕ) → Some a ≡ Some b → a ≡ b
some_same a b e = let f = e in cc

pub second_goes : (w : Words) (next : Form) (text rest left seen second : List ℕ) (r : Result (Bor (List ℕ)) Refusal) → seen ≡ first_word w → Some second ≡ second_word w → (word seen).Takes text tt rest → gap.Takes rest tt left → MatchResult r (λ r. (word second).Takes left tt r.now) (λ e. NotTaken (word second) left e) → MatchResult r (λ r. (outcome : Outcome) → next r.now outcome → after_words w next text outcome) (λ e. NotOfForm (after_words w next) text e)
second_goes (one f) next text rest left seen second r s n t g h = absurd (let m = n in cc)
second_goes (two f x) next text rest left seen second (Ok r) s n t g h = λ outcome k.
    goes_on _ _ _ tt rest _ (subst (λ x. (word x).Takes text tt rest) s t) (goes_on _ _ _ tt left _ g (goes_on _ _ _ tt r.now _ (subst (λ x. (word x).Takes left tt r.now) (some_same second x n) h) k))
second_goes (two f x) next text rest left seen second (Err e) s n t g h =
    fails_later _ _ _ tt rest _ (subst (λ x. (word x).Takes text tt rest) s t) (fails_later _ _ _ tt left _ g (fails _ _ _ _ (subst (λ x. NotTaken (word x) left e) (some_same second x n) h)))

-- what holds of the rest holds of the text
pub carried : (f g : Form) (text rest : List ℕ) (r : Result Command Refusal) → ((outcome : Outcome) → f rest outcome → g text outcome) → MatchResult r (λ c. f rest (reads c)) (λ e. NotOfForm f rest e) → MatchResult r (λ c. g text (reads c)) (λ e. NotOfForm g text e)
unfolding NotOfForm
carried f g text rest (Ok c) i h = i (reads c) h
carried f g text rest (Err refusal.NoCommand) i h = i no_command h
carried f g text rest (Err refusal.BraceNotClosed) i h = i brace_not_closed h
carried f g text rest (Err refusal.Memory) i h = tt

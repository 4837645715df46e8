-- What one more line makes of lines that are read so far is one thing.
use Rattle.std.proofs.Common.{◌≡◌, ◌≢◌, ℕ, ◌+◌, ◌<◌, ◌⊎◌, List, [], ◌∷◌, ◌++◌, length, refl, sym, ap, subst, ◌∙◌, inl, inr, arith}
use Rattle.script_text.specs.declared.command.Command.{Command}
use Rattle.script_text.specs.declared.command.Command.TheVariants as command
use Rattle.script_text.specs.declared.error.ScriptError.{ScriptError}
use Rattle.script_text.specs.declared.template.Template.{Template}
use Rattle.script_text.specs.declared.piece.Ending.TheVariants as ending
use Rattle.script_text.specs.Templates.{IsTemplate}
use Rattle.script_text.specs.Forms.{Outcome, reads, no_command, brace_not_closed}
use Rattle.script_text.specs.Lines.{LineReads}
use Rattle.script_text.specs.Blocks.{Block, no_lines, skipped, fetched, acted, created, chosen, chosen_else, begun, filled, first_test, next_test, closing_word}
use Rattle.script_text.specs.Parts.{Around, top, in_arm, in_else, Inner, within, creating, Part, depth}
use Rattle.script_text.specs.Scripts.{IsMisplaced, IsWrongOutcome, IsWrongInner, IsWrongAt}
use Rattle.script_text.specs.Held.{inside, in_file}
use Rattle.script_text.proofs.OneTemplate.{template_one, template_or_open}
use Rattle.script_text.proofs.OneLine.{line_one}

-- what an `elseif`, an `else` and an `endif` make
abbrev IsNextArm : Around → Block → ℕ → List ℕ → Part → Type 0
IsNextArm (in_arm a ts) b n t p = p ≡ inside (in_arm a (next_test ts b n t)) no_lines
IsNextArm _ b n t p = ⊥

abbrev IsElse : Around → Block → ℕ → Part → Type 0
IsElse (in_arm a ts) b n p = p ≡ inside (in_else a ts b n) no_lines
IsElse _ b n p = ⊥

abbrev IsEnd : Around → Block → ℕ → Part → Type 0
IsEnd top b n p = ⊥
IsEnd (in_arm a ts) b n p = p ≡ inside a (chosen ts b n)
IsEnd (in_else a ts c m) b n p = p ≡ inside a (chosen_else ts c m b n)

-- what a command makes
abbrev pub Places : Around → Block → ℕ → Command → Part → Type 0
Places a b n command.Nothing p = p ≡ inside a (skipped b n)
Places a b n (command.Do l) p = p ≡ inside a (acted b n l)
Places a b n (command.If t) p = (depth a < 64) × (p ≡ inside (in_arm a (first_test b n t)) no_lines)
Places a b n (command.ElseIf t) p = IsNextArm a b n t p
Places a b n command.Else p = IsElse a b n p
Places a b n command.EndIf p = IsEnd a b n p
Places a b n (command.Create w) p = p ≡ in_file a (begun b n w)
Places a b n (command.Prefetch s) p = p ≡ inside a (fetched b n s)

abbrev TurnsInner : Around → Inner → ℕ → List ℕ → Part → Type 0
TurnsInner a (within b) n line p = (c : Command) × LineReads line (reads c) × Places a b n c p
TurnsInner a (creating k) n line p = ((line ≡ closing_word k) × (p ≡ inside a (created k n)))
    ⊎ ((t : Template) × (line ≢ closing_word k) × IsTemplate ending.Text line t [] × (p ≡ in_file a (filled k n t)))

-- what a line makes
abbrev pub Turns : Part → ℕ → List ℕ → Part → Type 0
Turns q n line p = TurnsInner q.around q.inner n line p

-- what lines make
abbrev pub Reaches : Part → ℕ → List (List ℕ) → Part → Type 0
Reaches q n [] p = q ≡ p
Reaches q n (line ∷ lines) p = (r : Part) × Turns q n line r × Reaches r (n + 1) lines p

same : (p q r : Part) → p ≡ r → q ≡ r → p ≡ q
same p q r e f = e ∙ sym f

places_one : (a : Around) (b : Block) (n : ℕ) (c : Command) (p q : Part) → Places a b n c p → Places a b n c q → p ≡ q
places_one a b n command.Nothing p q x y = same p q _ x y
places_one a b n (command.Do l) p q x y = same p q _ x y
places_one a b n (command.If t) p q x y = same p q _ x.1 y.1
places_one top b n (command.ElseIf t) p q x y = absurd x
places_one (in_arm a ts) b n (command.ElseIf t) p q x y = same p q _ x y
places_one (in_else a ts c m) b n (command.ElseIf t) p q x y = absurd x
places_one top b n command.Else p q x y = absurd x
places_one (in_arm a ts) b n command.Else p q x y = same p q _ x y
places_one (in_else a ts c m) b n command.Else p q x y = absurd x
places_one top b n command.EndIf p q x y = absurd x
places_one (in_arm a ts) b n command.EndIf p q x y = same p q _ x y
places_one (in_else a ts c m) b n command.EndIf p q x y = same p q _ x y
places_one a b n (command.Create w) p q x y = same p q _ x y
places_one a b n (command.Prefetch s) p q x y = same p q _ x y

reads_same : (c d : Command) → reads c ≡ reads d → c ≡ d
reads_same c d e = let f = e in cc

turns_inner_one : (a : Around) (i : Inner) (n : ℕ) (line : List ℕ) (p q : Part) → TurnsInner a i n line p → TurnsInner a i n line q → p ≡ q
turns_inner_one a (within b) n line p q x y =
    let c = reads_same x.0 y.0 (line_one line (reads x.0) (reads y.0) x.1 y.1) in
    places_one a b n y.0 p q (subst (λ d. Places a b n d p) c x.2) y.2
turns_inner_one a (creating k) n line p q (inl x) (inl y) = same p q _ x.1 y.1
turns_inner_one a (creating k) n line p q (inl x) (inr y) = absurd (y.1 x.0)
turns_inner_one a (creating k) n line p q (inr x) (inl y) = absurd (x.1 y.0)
turns_inner_one a (creating k) n line p q (inr x) (inr y) =
    let t = (template_one ending.Text line x.0 y.0 [] [] x.2 y.2).0 in
    x.3 ∙ ap (λ t. in_file a (filled k n t)) t ∙ sym y.3

turns_one : (q : Part) (n : ℕ) (line : List ℕ) (p r : Part) → Turns q n line p → Turns q n line r → p ≡ r
turns_one q n line p r x y = turns_inner_one q.around q.inner n line p r x y

-- the same lines make one thing
pub reaches_one : (q : Part) (n : ℕ) (lines : List (List ℕ)) (p r : Part) → Reaches q n lines p → Reaches q n lines r → p ≡ r
reaches_one q n [] p r x y = sym x ∙ y
reaches_one q n (line ∷ lines) p r x y =
    let next = turns_one q n line x.0 y.0 x.1 y.1 in
    reaches_one y.0 (n + 1) lines p r (subst (λ z. Reaches z (n + 1) lines p) next x.2) y.2

pub reaches_more : (q r p : Part) (n m : ℕ) (front back : List (List ℕ)) → m ≡ n + length front → Reaches q n front r → Reaches r m back p → Reaches q n (front ++ back) p
reaches_more q r p n m [] back e x y =
    let start : m ≡ n = omega arith in
    subst (λ k. Reaches q k back p) start (subst (λ z. Reaches z m back p) (sym x) y)
reaches_more q r p n m (line ∷ front) back e x y = (x.0, x.1, reaches_more x.0 r p (n + 1) m front back (omega arith) x.2 y)

pub reaches_cut : (q p : Part) (n m : ℕ) (front back : List (List ℕ)) → m ≡ n + length front → Reaches q n (front ++ back) p → (r : Part) × Reaches q n front r × Reaches r m back p
reaches_cut q p n m [] back e x =
    let start : n ≡ m = omega arith in
    (q, refl, subst (λ k. Reaches q k back p) start x)
reaches_cut q p n m (line ∷ front) back e x =
    let h = reaches_cut x.0 p (n + 1) m front back (omega arith) x.2 in
    (h.0, (x.0, x.1, h.1), h.2)

-- a command that can't stand there makes nothing
misplaced : (a : Around) (b : Block) (n : ℕ) (c : Command) (e : ScriptError) (p : Part) → IsMisplaced a n c e → Places a b n c p → ⊥
misplaced a b n (command.If t) e p x y = let full = x.0 in let room = y.0 in omega arith
misplaced top b n (command.ElseIf t) e p x y = y
misplaced (in_arm a ts) b n (command.ElseIf t) e p x y = x.0
misplaced (in_else a ts c m) b n (command.ElseIf t) e p x y = y
misplaced top b n command.Else e p x y = y
misplaced (in_arm a ts) b n command.Else e p x y = x.0
misplaced (in_else a ts c m) b n command.Else e p x y = y
misplaced top b n command.EndIf e p x y = y
misplaced (in_arm a ts) b n command.EndIf e p x y = let f = x.0 in cc
misplaced (in_else a ts c m) b n command.EndIf e p x y = let f = x.0 in cc
misplaced a b n command.Nothing e p x y = x
misplaced a b n (command.Do l) e p x y = x
misplaced a b n (command.Create w) e p x y = x
misplaced a b n (command.Prefetch s) e p x y = x

wrong_outcome : (a : Around) (b : Block) (n : ℕ) (o : Outcome) (c : Command) (e : ScriptError) (p : Part) → o ≡ reads c → IsWrongOutcome a n o e → Places a b n c p → ⊥
wrong_outcome a b n o c e p is x y = misplaced a b n c e p (subst (λ o. IsWrongOutcome a n o e) is x) y

wrong_inner : (a : Around) (i : Inner) (n : ℕ) (line : List ℕ) (e : ScriptError) (p : Part) → IsWrongInner a i n line e → TurnsInner a i n line p → ⊥
wrong_inner a (within b) n line e p x y = wrong_outcome a b n x.0 y.0 e p (line_one line x.0 (reads y.0) x.1 y.1) x.2 y.2
wrong_inner a (creating k) n line e p x (inl y) = x.0 y.0
wrong_inner a (creating k) n line e p x (inr y) = template_or_open ending.Text line y.0 [] y.2 x.1

-- a line that is refused makes nothing
pub wrong_or_read : (q : Part) (n : ℕ) (line : List ℕ) (e : ScriptError) (p : Part) → IsWrongAt q n line e → Turns q n line p → ⊥
wrong_or_read q n line e p x y = wrong_inner q.around q.inner n line e p x y

same_error : (e f g : ScriptError) → e ≡ g → f ≡ g → e ≡ f
same_error e f g x y = x ∙ sym y

misplaced_one : (a : Around) (n : ℕ) (c : Command) (e f : ScriptError) → IsMisplaced a n c e → IsMisplaced a n c f → e ≡ f
misplaced_one a n (command.If t) e f x y = same_error e f _ x.1 y.1
misplaced_one a n (command.ElseIf t) e f x y = same_error e f _ x.1 y.1
misplaced_one a n command.Else e f x y = same_error e f _ x.1 y.1
misplaced_one a n command.EndIf e f x y = same_error e f _ x.1 y.1
misplaced_one a n command.Nothing e f x y = absurd x
misplaced_one a n (command.Do l) e f x y = absurd x
misplaced_one a n (command.Create w) e f x y = absurd x
misplaced_one a n (command.Prefetch s) e f x y = absurd x

wrong_outcome_one : (a : Around) (n : ℕ) (o : Outcome) (e f : ScriptError) → IsWrongOutcome a n o e → IsWrongOutcome a n o f → e ≡ f
wrong_outcome_one a n no_command e f x y = same_error e f _ x y
wrong_outcome_one a n brace_not_closed e f x y = same_error e f _ x y
wrong_outcome_one a n (reads c) e f x y = misplaced_one a n c e f x y

wrong_inner_one : (a : Around) (i : Inner) (n : ℕ) (line : List ℕ) (e f : ScriptError) → IsWrongInner a i n line e → IsWrongInner a i n line f → e ≡ f
wrong_inner_one a (within b) n line e f x y =
    wrong_outcome_one a n y.0 e f (subst (λ o. IsWrongOutcome a n o e) (line_one line x.0 y.0 x.1 y.1) x.2) y.2
wrong_inner_one a (creating k) n line e f x y = same_error e f _ x.2 y.2

-- a line is refused for one cause
pub wrong_one : (q : Part) (n : ℕ) (line : List ℕ) (e f : ScriptError) → IsWrongAt q n line e → IsWrongAt q n line f → e ≡ f
wrong_one q n line e f x y = wrong_inner_one q.around q.inner n line e f x y

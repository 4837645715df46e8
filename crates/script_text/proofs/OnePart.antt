-- Lines are read so far in one way.
use Rattle.std.proofs.Common.{◌≡◌, ℕ, ◌+◌, ◌≤◌, List, [], ◌∷◌, ◌++◌, length, refl, sym, ap, subst, inl, inr, arith}
use Rattle.script_text.specs.declared.command.Command.{Command}
use Rattle.script_text.specs.declared.command.Command.TheVariants as command
use Rattle.script_text.specs.Blocks.{Block, no_lines, skipped, fetched, acted, created, chosen, chosen_else, Tests, first_test, next_test, Created, begun, filled, Mark, is_command, is_content, is_closing, closing_word, Marked, at, block_marks, tests_marks, created_marks, IsShallow, AreShallow, AreShallowBefore}
use Rattle.script_text.specs.Parts.{Around, top, in_arm, in_else, Inner, within, creating, Part, whole, around_marks, inner_marks, depth, room, IsShallowAround, IsShallowInner}
use Rattle.script_text.specs.Scripts.{IsMark, AreLines, IsPartOf}
use Rattle.script_text.specs.Held.{inside, in_file}
use Rattle.script_text.proofs.Steps.{less_room}
use Rattle.script_text.proofs.NextParts.{Places, Turns, Reaches, reaches_one, reaches_more}

lines_cut : (n : ℕ) (ms others : List Marked) (lines : List (List ℕ)) → AreLines n (ms ++ others) lines → (front back : List (List ℕ)) × (lines ≡ front ++ back) × AreLines n ms front × AreLines (n + length front) others back
lines_cut n [] others lines h =
    let start : n ≡ n + length {A = List ℕ} [] = omega arith in
    ([], lines, refl, tt, subst (λ k. AreLines k others lines) start h)
lines_cut n (m ∷ ms) others [] h = absurd h
lines_cut n (m ∷ ms) others (line ∷ lines) h =
    let r = lines_cut (n + 1) ms others lines h.2 in
    let start : (n + 1) + length r.0 ≡ n + length (line ∷ r.0) = omega arith in
    (line ∷ r.0, r.1, ap (λ l. line ∷ l) r.2, (h.0, h.1, r.3), subst (λ k. AreLines k others r.1) start r.4)

-- lines that spell these marks make this
abbrev Makes : Part → List Marked → Part → Type 0
Makes q ms p = (n : ℕ) (lines : List (List ℕ)) → AreLines n ms lines → Reaches q n lines p

makes_nothing : (q : Part) → Makes q [] q
makes_nothing q n [] h = refl
makes_nothing q n (line ∷ lines) h = absurd h

makes_more : (q r p : Part) (ms others : List Marked) → Makes q ms r → Makes r others p → Makes q (ms ++ others) p
makes_more q r p ms others x y n lines h =
    let c = lines_cut n ms others lines h in
    subst (λ l. Reaches q n l p) (sym c.2) (reaches_more q r p n (n + length c.0) c.0 c.1 refl (x n c.0 c.3) (y (n + length c.0) c.1 c.4))

makes_one : (q p : Part) (k : ℕ) (m : Mark) → ((line : List ℕ) → IsMark line m → Turns q k line p) → Makes q (at k m ∷ []) p
makes_one q p k m f n [] h = absurd h
makes_one q p k m f n (line ∷ []) h = (p, subst (λ j. Turns q j line p) h.0 (f line h.1), refl)
makes_one q p k m f n (line ∷ other ∷ lines) h = absurd h.2

-- one more command
makes_command : (q : Part) (ms : List Marked) (a : Around) (b : Block) (p : Part) (n : ℕ) (c : Command) → Makes q ms (inside a b) → Places a b n c p → Makes q (ms ++ at n (is_command c) ∷ []) p
makes_command q ms a b p n c x y =
    makes_more q (inside a b) p ms _ x (makes_one (inside a b) p n (is_command c) (λ line h. (c, h, y)))

mutual
  block_made : (b : Block) (a : Around) → IsShallow (room a) b → Makes (inside a no_lines) (block_marks b) (inside a b)
  block_made no_lines a h = makes_nothing (inside a no_lines)
  block_made (skipped b n) a h = makes_command _ (block_marks b) a b _ n command.Nothing (block_made b a h) refl
  block_made (fetched b n s) a h = makes_command _ (block_marks b) a b _ n (command.Prefetch s) (block_made b a h) refl
  block_made (acted b n l) a h = makes_command _ (block_marks b) a b _ n (command.Do l) (block_made b a h) refl
  block_made (created c n) a h =
      makes_more _ (in_file a c) _ (created_marks c) _ (created_made c a h) (makes_one (in_file a c) _ n (is_closing (closing_word c)) (λ line e. inl (e, refl)))
  block_made (chosen ts b n) a h =
      makes_command _ _ (in_arm a ts) b _ n command.EndIf
      (makes_more _ _ _ (tests_marks ts) (block_marks b) (tests_made ts a h.1 h.0)
      (block_made b (in_arm a ts) (subst (λ m. IsShallow m b) (less_room (depth a) (omega (arith, h.1))) h.2))) refl
  block_made (chosen_else ts b m o n) a h =
      makes_command _ _ (in_else a ts b m) o _ n command.EndIf
      (makes_more _ _ _ (tests_marks ts ++ (block_marks b ++ at m (is_command command.Else) ∷ [])) (block_marks o)
      (makes_more _ _ _ (tests_marks ts) (block_marks b ++ at m (is_command command.Else) ∷ []) (tests_made ts a h.1 h.0)
      (makes_command _ (block_marks b) (in_arm a ts) b _ m command.Else
      (block_made b (in_arm a ts) (subst (λ m. IsShallow m b) (less_room (depth a) (omega (arith, h.1))) h.2)) refl))
      (block_made o (in_else a ts b m) (subst (λ m. IsShallow m o) (less_room (depth a) (omega (arith, h.1))) h.3))) refl

  tests_made : (ts : Tests) (a : Around) → 1 ≤ room a → AreShallow (room a) ts → Makes (inside a no_lines) (tests_marks ts) (inside (in_arm a ts) no_lines)
  tests_made (first_test b n t) a r h = makes_command _ (block_marks b) a b _ n (command.If t) (block_made b a h) (omega arith, refl)
  tests_made (next_test ts b n t) a r h =
      makes_command _ _ (in_arm a ts) b _ n (command.ElseIf t)
      (makes_more _ _ _ (tests_marks ts) (block_marks b) (tests_made ts a r h.0)
      (block_made b (in_arm a ts) (subst (λ m. IsShallow m b) (less_room (depth a) (omega (arith, r))) h.2))) refl

  created_made : (c : Created) (a : Around) → AreShallowBefore (room a) c → Makes (inside a no_lines) (created_marks c) (in_file a c)
  created_made (begun b n w) a h = makes_command _ (block_marks b) a b _ n (command.Create w) (block_made b a h) refl
  created_made (filled c n t) a h =
      makes_more _ (in_file a c) _ (created_marks c) _ (created_made c a h)
      (makes_one (in_file a c) _ n (is_content (closing_word c) t) (λ line e. inr (t, e.0, e.1, refl)))

around_made : (a : Around) → IsShallowAround a → Makes (whole no_lines) (around_marks a) (inside a no_lines)
around_made top h = makes_nothing (whole no_lines)
around_made (in_arm a ts) h = makes_more _ _ _ (around_marks a) (tests_marks ts) (around_made a h.0) (let d = h.1 in tests_made ts a (omega arith) h.2)
around_made (in_else a ts b n) h =
    let d = h.1 in
    let r : 1 ≤ room a = omega arith in
    makes_more _ _ _ (around_marks a) _ (around_made a h.0)
    (makes_more _ _ _ (tests_marks ts) (block_marks b ++ at n (is_command command.Else) ∷ []) (tests_made ts a r h.2)
    (makes_command _ (block_marks b) (in_arm a ts) b _ n command.Else
    (block_made b (in_arm a ts) (subst (λ m. IsShallow m b) (less_room (depth a) (omega (arith, r))) h.3)) refl))

inner_made : (i : Inner) (a : Around) → IsShallowInner (room a) i → Makes (inside a no_lines) (inner_marks i) (record { around = a; inner = i })
inner_made (within b) a h = block_made b a h
inner_made (creating c) a h = created_made c a h

-- lines make what they are read as
pub part_made : (lines : List (List ℕ)) (p : Part) → IsPartOf lines p → Reaches (whole no_lines) 1 lines p
part_made lines p h =
    makes_more (whole no_lines) (inside p.around no_lines) p (around_marks p.around) (inner_marks p.inner)
    (around_made p.around h.shallow.0) (inner_made p.inner p.around h.shallow.1) 1 lines h.spelled

-- lines are read so far in one way
pub part_one : (lines : List (List ℕ)) (p q : Part) → IsPartOf lines p → IsPartOf lines q → p ≡ q
part_one lines p q x y = reaches_one (whole no_lines) 1 lines p q (part_made lines p x) (part_made lines q y)

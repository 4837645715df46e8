-- What one more line makes.
use Rattle.std.proofs.Common.{suc, ◌≡◌, ◌≢◌, ℕ, ◌+◌, ◌-◌, ◌<◌, ◌≤◌, List, [], ◌∷◌, ◌++◌, length, map, Option, Some, None, Ok, Err, refl, sym, ap, subst, ◌∙◌, arith, append_assoc, length-append}
use Rattle.std.specs.Prelude.{unwrap_or, Result, MatchResult}
use Rattle.script_text.specs.declared.tree.Statement.TheVariants.{Do}
use Rattle.script_text.specs.declared.error.Refusal.{Refusal}
use Rattle.script_text.specs.declared.error.Refusal.TheVariants as refusal
use Rattle.script_text.specs.declared.piece.Ending.TheVariants as ending
use Rattle.script_text.specs.Templates.{IsTemplate}
use Rattle.script_text.specs.Forms.{reads, no_command, brace_not_closed}
use Rattle.script_text.specs.Lines.{LineReads}
use Rattle.script_text.specs.Refusals.{numbered}
use Rattle.script_text.proofs.Shown.{shown-Do}
use Rattle.std.specs.Option.{option_map}
use Rattle.std.specs.List.{slice_get}
use Rattle.script_text.specs.declared.command.Source.{Source}
use Rattle.script_text.specs.declared.template.Template.{Template}
use Rattle.script_text.specs.declared.line.Line.TheVariants.{Create}
use Rattle.std.proofs.lemmas.List.{append-nil, map-append, length-map}
use Rattle.std.proofs.lemmas.Grind.{flat_map-append}
use Rattle.script_text.specs.declared.command.Command.{Command}
use Rattle.script_text.specs.declared.command.Command.TheVariants as command
use Rattle.script_text.specs.declared.line.Line.{Line}
use Rattle.script_text.specs.declared.error.ScriptError.{ScriptError}
use Rattle.script_text.specs.declared.error.ScriptError.TheVariants as error
use Rattle.script_text.specs.declared.reader.Open.{Open}
use Rattle.script_text.specs.declared.reader.Test.{Test}
use Rattle.script_text.specs.declared.reader.OpenCreate.{OpenCreate}
use Rattle.script_text.specs.declared.reader.Reader.{Reader}
use Rattle.script_text.specs.declared.script.Script.{Script}
use Rattle.script_text.specs.Trees.{Statements, no_statements, more_statements, act, Arms, no_arms, more_arms}
use Rattle.script_text.specs.Views.{shown_statement, shown_statements, shown_arms}
use Rattle.script_text.specs.Blocks.{Block, no_lines, chosen, chosen_else, first_test, next_test, Created, Marked, at, is_command, block_marks, block_tree, IsShallow, last_line, last_test, opened_at, whole_arms, created, filled, created_marks, created_at, created_lines, closing_word, is_closing, is_content, skipped, fetched, acted, begun}
use Rattle.script_text.specs.Parts.{Around, top, in_arm, in_else, Inner, within, creating, Part, whole, around_marks, part_marks, depth, IsShallowAround, IsShallowPart, not_closed, outermost, open_first, open_inner}
use Rattle.script_text.specs.Scripts.{fetch_at, fetches_of, fetches, script_of}
use Rattle.script_text.specs.Readings.{shown_script, NotOfForm}
use Rattle.script_text.specs.Held.{PlainOpen, shown_open, arm_open, else_open, around_open, inner_statements, inner_create, Stands, ExtendsBy, inside, closed_if, else_command, HasNumber, Finishes, in_file, Extends, Refuses, Misplaces}

pub fetches-snoc : (ms : List Marked) (m : Marked) → fetches (ms ++ m ∷ []) ≡ fetches ms ++ fetches_of m.number m.mark
fetches-snoc ms m = flat_map-append (λ (m : Marked). fetches_of m.number m.mark) ms (m ∷ []) ∙ ap (λ l. fetches ms ++ l) (append-nil (fetches_of m.number m.mark))

-- what must be shown of one more line
pub extend : (p p' : Part) (m : Marked) (self r : Reader) → part_marks p' ≡ part_marks p ++ m ∷ [] → (IsShallowPart p → IsShallowPart p') → Stands p self → r.prefetches ≡ self.prefetches ++ fetches_of m.number m.mark → map shown_open r.open.items ≡ around_open p'.around → shown_statements r.statements ≡ inner_statements p'.inner → r.create ≡ inner_create p'.inner → ExtendsBy p m r
extend p p' m self r marks shallow s f o t k = record {
  part = p';
  marks = marks;
  shallow = shallow;
  stands = record {
    prefetches = f ∙ ap (λ l. l ++ fetches_of m.number m.mark) s.prefetches ∙ sym (ap fetches marks ∙ fetches-snoc (part_marks p) m);
    opens = o;
    statements = t;
    create = k;
  };
}

pub depth-length : (a : Around) → length (around_open a) ≡ depth a
depth-length top = refl
depth-length (in_arm a ts) = length-append (around_open a) (arm_open ts ∷ []) ∙ ap (λ n. n + 1) (depth-length a)
depth-length (in_else a ts b n) = length-append (around_open a) (else_open ts b ∷ []) ∙ ap (λ n. n + 1) (depth-length a)

depth_most : (a : Around) → IsShallowAround a → depth a ≤ 64
depth_most top h = omega arith
depth_most (in_arm a ts) h = let d = h.1 in omega arith
depth_most (in_else a ts b n) h = let d = h.1 in omega arith

pub open_count : (a : Around) (items : List Open) → map shown_open items ≡ around_open a → length items ≡ depth a
open_count a items e = sym (length-map items shown_open) ∙ ap length e ∙ depth-length a

-- an `if`
pub if_step : (a : Around) (b : Block) (n : ℕ) (t : List ℕ) (self r : Reader) (o : Open) → length self.open.items ≢ 64 → Stands (inside a b) self → r.prefetches ≡ self.prefetches → r.open.items ≡ self.open.items ++ o ∷ [] → o.line ≡ n → o.before ≡ self.statements → shown_arms o.arms ≡ no_arms → o.arm ≡ Some (record { line = n; test = t }) → shown_statements r.statements ≡ no_statements → r.create ≡ self.create → ExtendsBy (inside a b) (at n (is_command (command.If t))) r
if_step a b n t self r o l s f i ol ob oa om st k =
    extend (inside a b) (inside (in_arm a (first_test b n t)) no_lines) (at n (is_command (command.If t))) self r
    (append-nil (around_marks a ++ (block_marks b ++ at n (is_command (command.If t)) ∷ [])) ∙ sym (append_assoc (around_marks a) (block_marks b) (at n (is_command (command.If t)) ∷ [])))
    (λ h. let m = depth_most a h.0 in let e = open_count a self.open.items s.opens in ((h.0, omega arith, h.1), tt))
    s (f ∙ sym (append-nil self.prefetches))
    (ap (map shown_open) i ∙ map-append shown_open self.open.items (o ∷ []) ∙ ap (λ l. l ++ shown_open o ∷ []) s.opens
    ∙ ap (λ x. around_open a ++ x ∷ []) (let tree = ap shown_statements ob ∙ s.statements in let z : shown_open o ≡ arm_open (first_test b n t) = cc in z))
    st (k ∙ s.create)

snoc_same : {X : Type 0} (xs ys : List X) (x y : X) → xs ++ x ∷ [] ≡ ys ++ y ∷ [] → (xs ≡ ys) × (x ≡ y)
snoc_same [] [] x y e = (refl, (let f = e in cc))
snoc_same [] (z ∷ ys) x y e = absurd (let a = ap length e in let b = length-append ys (y ∷ []) in let c : length (z ∷ (ys ++ y ∷ [])) ≡ suc (length (ys ++ y ∷ [])) = refl in omega arith)
snoc_same (z ∷ xs) [] x y e = absurd (let a = ap length e in let b = length-append xs (x ∷ []) in let c : length (z ∷ (xs ++ x ∷ [])) ≡ suc (length (xs ++ x ∷ [])) = refl in omega arith)
snoc_same (z ∷ xs) (w ∷ ys) x y e =
    let head : z ≡ w = (let f = e in cc) in
    let tail : xs ++ x ∷ [] ≡ ys ++ y ∷ [] = (let f = e in cc) in
    let h = snoc_same xs ys x y tail in
    let i = h.0 in
    ((let q : z ∷ xs ≡ w ∷ ys = cc in q), h.1)

-- what the innermost open `if` is
pub popped : (items rest : List Open) (o : Open) (opens : List PlainOpen) (last : PlainOpen) → items ≡ rest ++ o ∷ [] → map shown_open items ≡ opens ++ last ∷ [] → (map shown_open rest ≡ opens) × (shown_open o ≡ last)
popped items rest o opens last e h = snoc_same (map shown_open rest) opens (shown_open o) last (sym (map-append shown_open rest (o ∷ [])) ∙ sym (ap (map shown_open) e) ∙ h)

pub none_popped : (items rest : List Open) (o : Open) → items ≡ rest ++ o ∷ [] → map shown_open items ≡ [] → ⊥
none_popped items rest o e h =
    let a = ap length (sym (map-append shown_open rest (o ∷ [])) ∙ sym (ap (map shown_open) e) ∙ h) in
    let b = length-append (map shown_open rest) (shown_open o ∷ []) in
    let c : length (shown_open o ∷ []) ≡ 1 = refl in
    omega arith

pub top_where_none : (a : Around) (items : List Open) → map shown_open items ≡ around_open a → length items ≡ 0 → a ≡ top
top_where_none top items h l = refl
top_where_none (in_arm a ts) items h l = absurd (let c = open_count (in_arm a ts) items h in omega arith)
top_where_none (in_else a ts b n) items h l = absurd (let c = open_count (in_else a ts b n) items h in omega arith)

some_none : {X : Type 0} (x : X) → Some x ≡ None → ⊥
some_none x e = let f = e in cc

pub less_room : (a : ℕ) → a < 64 → (64 - a) - 1 ≡ 64 - (a + 1)
less_room a h = omega arith

-- an `endif`
pub end_step : (a : Around) (b : Block) (n : ℕ) (self r : Reader) (rest : List Open) (o : Open) → Stands (inside a b) self → self.open.items ≡ rest ++ o ∷ [] → r.prefetches ≡ self.prefetches → r.open.items ≡ rest → shown_statements r.statements ≡ closed_if (shown_open o) (shown_statements self.statements) → r.create ≡ self.create → ExtendsBy (inside a b) (at n (is_command command.EndIf)) r
end_step top b n self r rest o s e f i t k = absurd (none_popped self.open.items rest o e s.opens)
end_step (in_arm a ts) b n self r rest o s e f i t k =
    let p = popped self.open.items rest o (around_open a) (arm_open ts) e s.opens in
    extend (inside (in_arm a ts) b) (inside a (chosen ts b n)) (at n (is_command command.EndIf)) self r
    (simp append_assoc)
    (λ h. let d = h.0.1 in (h.0.0, (h.0.2, omega arith, subst (λ m. IsShallow m b) (sym (less_room (depth a) d)) h.1)))
    s (f ∙ sym (append-nil self.prefetches)) (ap (map shown_open) i ∙ p.0)
    (t ∙ ap (λ x. closed_if x (shown_statements self.statements)) p.1 ∙ ap (closed_if (arm_open ts)) s.statements) (k ∙ s.create)
end_step (in_else a ts c m) b n self r rest o s e f i t k =
    let p = popped self.open.items rest o (around_open a) (else_open ts c) e s.opens in
    extend (inside (in_else a ts c m) b) (inside a (chosen_else ts c m b n)) (at n (is_command command.EndIf)) self r
    (simp append_assoc)
    (λ h. let d = h.0.1 in (h.0.0, (h.0.2, omega arith, h.0.3, subst (λ m. IsShallow m b) (sym (less_room (depth a) d)) h.1)))
    s (f ∙ sym (append-nil self.prefetches)) (ap (map shown_open) i ∙ p.0)
    (t ∙ ap (λ x. closed_if x (shown_statements self.statements)) p.1 ∙ ap (closed_if (else_open ts c)) s.statements) (k ∙ s.create)

same_open : (x y : PlainOpen) → x.line ≡ y.line → x.before ≡ y.before → x.arms ≡ y.arms → x.arm ≡ y.arm → x ≡ y
same_open x y a b c d =
    let make : ℕ → Statements → Arms → Option Test → PlainOpen = λ l t u m. record { line = l; before = t; arms = u; arm = m } in
    ap (λ l. make l x.before x.arms x.arm) a ∙ ap (λ t. make y.line t x.arms x.arm) b ∙ ap (λ u. make y.line y.before u x.arm) c ∙ ap (λ m. make y.line y.before y.arms m) d

same_arms : (x a b : Arms) (last : Test) (n : ℕ) (t : List ℕ) (s u : Statements) → x ≡ more_arms a last.line last.test s → a ≡ b → Some last ≡ Some (let z : Test = record { line = n; test = t } in z) → s ≡ u → x ≡ more_arms b n t u
same_arms x a b last n t s u e f g h = cc

same_test : (w : Test) (n : ℕ) (m : Option Test) → m ≡ Some w → w.line ≡ n → m ≡ Some (let z : Test = record { line = n; test = w.test } in z)
same_test w n m e h =
    let make : ℕ → Test = λ l. record { line = l; test = w.test } in
    e ∙ ap (λ l. Some (make l)) h

same_part : (p : Part) (b : Block) → p.around ≡ top → p.inner ≡ within b → p ≡ whole b
same_part p b e f =
    let make : Around → Inner → Part = λ a i. record { around = a; inner = i } in
    ap (λ a. make a p.inner) e ∙ ap (λ i. make top i) f

same_inside : (p : Part) (b : Block) → p.inner ≡ within b → p ≡ inside p.around b
same_inside p b f =
    let make : Inner → Part = λ i. record { around = p.around; inner = i } in
    ap make f

-- an `elseif` or `else`
pub else_step : (a : Around) (b : Block) (n : ℕ) (arm : Option Test) (self r : Reader) (rest : List Open) (o q : Open) (last : Test) → Stands (inside a b) self → HasNumber arm n → self.open.items ≡ rest ++ o ∷ [] → o.arm ≡ Some last → r.prefetches ≡ self.prefetches → r.open.items ≡ rest ++ q ∷ [] → q.line ≡ o.line → q.before ≡ o.before → shown_arms q.arms ≡ more_arms (shown_arms o.arms) last.line last.test (shown_statements self.statements) → q.arm ≡ arm → shown_statements r.statements ≡ no_statements → r.create ≡ self.create → ExtendsBy (inside a b) (at n (is_command (else_command arm))) r
else_step top b n arm self r rest o q last s hn e la f i ql qb qa qm t k = absurd (none_popped self.open.items rest o e s.opens)
else_step (in_else a ts c m) b n arm self r rest o q last s hn e la f i ql qb qa qm t k =
    absurd (let p = popped self.open.items rest o (around_open a) (else_open ts c) e s.opens in some_none last (sym la ∙ ap (λ (x : PlainOpen). x.arm) p.1))
else_step (in_arm a ts) b n None self r rest o q last s hn e la f i ql qb qa qm t k =
    let p = popped self.open.items rest o (around_open a) (arm_open ts) e s.opens in
    let shown = p.1 in
    let tree = s.statements in
    let line = ap (λ (x : PlainOpen). x.line) shown in
    let before = ap shown_statements qb ∙ ap (λ (x : PlainOpen). x.before) shown in
    let arms = ap (λ (x : PlainOpen). x.arms) shown in
    let test : Some last ≡ Some (record { line = last_line ts; test = last_test ts }) = sym la ∙ ap (λ (x : PlainOpen). x.arm) shown in
    extend (inside (in_arm a ts) b) (inside (in_else a ts b n) no_lines) (at n (is_command command.Else)) self r
    (simp (append_assoc, append-nil))
    (λ h. let d = h.0.1 in ((h.0.0, d, h.0.2, subst (λ m. IsShallow m b) (sym (less_room (depth a) d)) h.1), tt))
    s (f ∙ sym (append-nil self.prefetches))
    (ap (map shown_open) i ∙ map-append shown_open rest (q ∷ []) ∙ ap (λ l. l ++ shown_open q ∷ []) p.0
    ∙ ap (λ x. around_open a ++ x ∷ []) (same_open (shown_open q) (else_open ts b) (ql ∙ line) before (same_arms (shown_arms q.arms) (shown_arms o.arms) (whole_arms ts) last (last_line ts) (last_test ts) (shown_statements self.statements) (block_tree b) qa arms test tree) qm))
    t (k ∙ s.create)
else_step (in_arm a ts) b n (Some w) self r rest o q last s hn e la f i ql qb qa qm t k =
    let p = popped self.open.items rest o (around_open a) (arm_open ts) e s.opens in
    let shown = p.1 in
    let tree = s.statements in
    let line = ap (λ (x : PlainOpen). x.line) shown in
    let before = ap shown_statements qb ∙ ap (λ (x : PlainOpen). x.before) shown in
    let arms = ap (λ (x : PlainOpen). x.arms) shown in
    let test : Some last ≡ Some (record { line = last_line ts; test = last_test ts }) = sym la ∙ ap (λ (x : PlainOpen). x.arm) shown in
    extend (inside (in_arm a ts) b) (inside (in_arm a (next_test ts b n w.test)) no_lines) (at n (is_command (command.ElseIf w.test))) self r
    (simp (append_assoc, append-nil))
    (λ h. let d = h.0.1 in ((h.0.0, d, (h.0.2, omega arith, subst (λ m. IsShallow m b) (sym (less_room (depth a) d)) h.1)), tt))
    s (f ∙ sym (append-nil self.prefetches))
    (ap (map shown_open) i ∙ map-append shown_open rest (q ∷ []) ∙ ap (λ l. l ++ shown_open q ∷ []) p.0
    ∙ ap (λ x. around_open a ++ x ∷ []) (same_open (shown_open q) (arm_open (next_test ts b n w.test)) (ql ∙ line) before (same_arms (shown_arms q.arms) (shown_arms o.arms) (whole_arms ts) last (last_line ts) (last_test ts) (shown_statements self.statements) (block_tree b) qa arms test tree) (same_test w n q.arm qm hn)))
    t (k ∙ s.create)

-- the number of the first open `if`
abbrev head_line : List PlainOpen → Option ℕ
head_line [] = None
head_line (x ∷ xs) = Some x.line

head-snoc : (xs : List PlainOpen) (x : PlainOpen) → head_line (xs ++ x ∷ []) ≡ Some (unwrap_or (head_line xs) x.line)
head-snoc [] x = refl
head-snoc (y ∷ xs) x = refl

outermost_head : (a : Around) → outermost a ≡ head_line (around_open a)
outermost_head top = refl
outermost_head (in_arm a ts) = ap (λ o. Some (unwrap_or o (opened_at ts))) (outermost_head a) ∙ sym (head-snoc (around_open a) (arm_open ts))
outermost_head (in_else a ts b n) = ap (λ o. Some (unwrap_or o (opened_at ts))) (outermost_head a) ∙ sym (head-snoc (around_open a) (else_open ts b))

head_map : (items : List Open) → head_line (map shown_open items) ≡ option_map (λ (o : Open). o.line) (slice_get items 0)
head_map [] = refl
head_map (x ∷ xs) = refl

pub outermost_is : (p : Part) (self : Reader) → Stands p self → outermost p.around ≡ option_map (λ (o : Open). o.line) (slice_get self.open.items 0)
outermost_is p self s = outermost_head p.around ∙ ap head_line (sym s.opens) ∙ head_map self.open.items

pub if_open : (p : Part) (n : ℕ) → outermost p.around ≡ Some n → not_closed p ≡ Some (error.IfNotClosed n)
if_open p n e = ap (λ o. open_first o p.inner) e

create_open : (i : Inner) (k : OpenCreate) → Some k ≡ inner_create i → open_inner i ≡ Some (error.CreateNotClosed k.line)
create_open (within b) k e = absurd (some_none k e)
create_open (creating c) k e = let f : k ≡ record { line = created_at c; word = closing_word c; lines = created_lines c } = (let g = e in cc) in ap (λ (x : OpenCreate). Some (error.CreateNotClosed x.line)) (sym f)

pub file_open : (p : Part) (k : OpenCreate) → outermost p.around ≡ None → Some k ≡ inner_create p.inner → not_closed p ≡ Some (error.CreateNotClosed k.line)
file_open p k e c = ap (λ o. open_first o p.inner) e ∙ create_open p.inner k c

top_outermost : (a : Around) → outermost a ≡ None → a ≡ top
top_outermost top e = refl
top_outermost (in_arm a ts) e = absurd (some_none _ e)
top_outermost (in_else a ts b n) e = absurd (some_none _ e)

pub within_create : (i : Inner) → None ≡ inner_create i → (b : Block) × (i ≡ within b)
within_create (within b) e = (b, refl)
within_create (creating c) e = absurd (some_none _ (sym e))

whole_finish : (b : Block) (self : Reader) (script : Script) → Stands (whole b) self → script.prefetches ≡ self.prefetches → script.statements ≡ self.statements → shown_script script ≡ script_of b
whole_finish b self script s f t = let g = f ∙ s.prefetches in let h = ap shown_statements t ∙ s.statements in cc

pub all_closed : (p : Part) (self : Reader) (script : Script) → outermost p.around ≡ None → None ≡ inner_create p.inner → Stands p self → script.prefetches ≡ self.prefetches → script.statements ≡ self.statements → Finishes p (Ok script)
all_closed p self script e c s f t =
    let a = top_outermost p.around e in
    let w = within_create p.inner c in
    let i = w.1 in
    let same = same_part p w.0 a i in
    (w.0, same, whole_finish w.0 self script (subst (λ q. Stands q self) same s) f t)

-- the line that closes a `createfile`
pub close_step : (a : Around) (c : Created) (n : ℕ) (self r : Reader) → Stands (in_file a c) self → r.prefetches ≡ self.prefetches → r.open.items ≡ self.open.items → shown_statements r.statements ≡ more_statements (shown_statements self.statements) (act (created_at c) (Create (created_lines c))) → r.create ≡ None → ExtendsBy (in_file a c) (at n (is_closing (closing_word c))) r
close_step a c n self r s f i t k =
    extend (in_file a c) (inside a (created c n)) (at n (is_closing (closing_word c))) self r
    (sym (append_assoc (around_marks a) (created_marks c) (at n (is_closing (closing_word c)) ∷ [])))
    (λ h. h) s (f ∙ sym (append-nil self.prefetches)) (ap (map shown_open) i ∙ s.opens)
    (t ∙ ap (λ x. more_statements x (act (created_at c) (Create (created_lines c)))) s.statements) k

-- one more line of a `createfile`
pub fill_step : (a : Around) (c : Created) (n : ℕ) (t : Template) (self r : Reader) → Stands (in_file a c) self → r.prefetches ≡ self.prefetches → r.open.items ≡ self.open.items → shown_statements r.statements ≡ shown_statements self.statements → r.create ≡ Some (record { line = created_at c; word = closing_word c; lines = created_lines c ++ t ∷ [] }) → ExtendsBy (in_file a c) (at n (is_content (closing_word c) t)) r
fill_step a c n t self r s f i st k =
    extend (in_file a c) (in_file a (filled c n t)) (at n (is_content (closing_word c) t)) self r
    (sym (append_assoc (around_marks a) (created_marks c) (at n (is_content (closing_word c) t) ∷ [])))
    (λ h. h) s (f ∙ sym (append-nil self.prefetches)) (ap (map shown_open) i ∙ s.opens) (st ∙ s.statements) k

-- a line that does nothing
pub skip_step : (a : Around) (b : Block) (n : ℕ) (self : Reader) → Stands (inside a b) self → ExtendsBy (inside a b) (at n (is_command command.Nothing)) self
skip_step a b n self s =
    extend (inside a b) (inside a (skipped b n)) (at n (is_command command.Nothing)) self self
    (sym (append_assoc (around_marks a) (block_marks b) (at n (is_command command.Nothing) ∷ [])))
    (λ h. h) s (sym (append-nil self.prefetches)) s.opens s.statements s.create

-- a prefetch line
pub fetch_step : (a : Around) (b : Block) (n : ℕ) (x : Source) (self r : Reader) → Stands (inside a b) self → r.prefetches ≡ self.prefetches ++ fetch_at n x ∷ [] → r.open.items ≡ self.open.items → shown_statements r.statements ≡ shown_statements self.statements → r.create ≡ self.create → ExtendsBy (inside a b) (at n (is_command (command.Prefetch x))) r
fetch_step a b n x self r s f i t k =
    extend (inside a b) (inside a (fetched b n x)) (at n (is_command (command.Prefetch x))) self r
    (sym (append_assoc (around_marks a) (block_marks b) (at n (is_command (command.Prefetch x)) ∷ [])))
    (λ h. h) s f (ap (map shown_open) i ∙ s.opens) (t ∙ s.statements) (k ∙ s.create)

-- a line that does something
pub act_step : (a : Around) (b : Block) (n : ℕ) (l : Line) (self r : Reader) → Stands (inside a b) self → r.prefetches ≡ self.prefetches → r.open.items ≡ self.open.items → shown_statements r.statements ≡ more_statements (shown_statements self.statements) (act n l) → r.create ≡ self.create → ExtendsBy (inside a b) (at n (is_command (command.Do l))) r
act_step a b n l self r s f i t k =
    extend (inside a b) (inside a (acted b n l)) (at n (is_command (command.Do l))) self r
    (sym (append_assoc (around_marks a) (block_marks b) (at n (is_command (command.Do l)) ∷ [])))
    (λ h. h) s (f ∙ sym (append-nil self.prefetches)) (ap (map shown_open) i ∙ s.opens) (t ∙ ap (λ x. more_statements x (act n l)) s.statements) (k ∙ s.create)

-- a `createfile`
pub begin_step : (a : Around) (b : Block) (n : ℕ) (w : List ℕ) (self r : Reader) → Stands (inside a b) self → r.prefetches ≡ self.prefetches → r.open.items ≡ self.open.items → shown_statements r.statements ≡ shown_statements self.statements → r.create ≡ Some (record { line = n; word = w; lines = [] }) → ExtendsBy (inside a b) (at n (is_command (command.Create w))) r
begin_step a b n w self r s f i t k =
    extend (inside a b) (in_file a (begun b n w)) (at n (is_command (command.Create w))) self r
    (sym (append_assoc (around_marks a) (block_marks b) (at n (is_command (command.Create w)) ∷ [])))
    (λ h. h) s (f ∙ sym (append-nil self.prefetches)) (ap (map shown_open) i ∙ s.opens) (t ∙ s.statements) k

some_file : (f g : OpenCreate) → Some f ≡ Some g → f ≡ g
some_file f g e = let h = e in cc

-- a line that is the word of the open `createfile`
pub close_file : (a : Around) (k : Created) (n : ℕ) (line : List ℕ) (self r : Reader) (f : OpenCreate) → Stands (in_file a k) (record self { create = Some f }) → line ≡ f.word → r.prefetches ≡ self.prefetches → r.open.items ≡ self.open.items → shown_statements r.statements ≡ more_statements (shown_statements self.statements) (shown_statement (Do f.line (Create f.lines))) → r.create ≡ None → Extends (in_file a k) n line r
close_file a k n line self r f s e g i t c =
    let same = some_file f _ s.create in
    record {
      mark = is_closing (closing_word k);
      spelled = e ∙ ap (λ (x : OpenCreate). x.word) same;
      extends = close_step a k n (record self { create = Some f }) r s g i
          (t ∙ ap (more_statements (shown_statements self.statements)) (shown-Do f.line (Create f.lines) ∙ ap (λ (x : OpenCreate). act x.line (Create x.lines)) same)) c;
    }

same_file : (f : OpenCreate) (k : Created) (lines : List Template) (t : Template) → f ≡ (let z : OpenCreate = record { line = created_at k; word = closing_word k; lines = created_lines k } in z) → lines ≡ f.lines ++ t ∷ [] → (let z : OpenCreate = record { line = f.line; word = f.word; lines = lines } in z) ≡ (let z : OpenCreate = record { line = created_at k; word = closing_word k; lines = created_lines k ++ t ∷ [] } in z)
same_file f k lines t e h =
    let make : ℕ → List ℕ → List Template → OpenCreate = λ n w l. record { line = n; word = w; lines = l } in
    ap (make f.line f.word) h ∙ ap (λ (x : OpenCreate). make x.line x.word (x.lines ++ t ∷ [])) e

-- a line of the open `createfile`
pub fill_file : (a : Around) (k : Created) (n : ℕ) (line : List ℕ) (t : Template) (self r : Reader) (f : OpenCreate) (lines : List Template) → Stands (in_file a k) (record self { create = Some f }) → (line ≡ f.word → ⊥) → IsTemplate ending.Text line t [] → r.prefetches ≡ self.prefetches → r.open.items ≡ self.open.items → shown_statements r.statements ≡ shown_statements self.statements → lines ≡ f.lines ++ t ∷ [] → r.create ≡ Some (record { line = f.line; word = f.word; lines = lines }) → Extends (in_file a k) n line r
fill_file a k n line t self r f lines s d h g i st l c =
    let same = some_file f _ s.create in
    record {
      mark = is_content (closing_word k) t;
      spelled = ((λ e. d (e ∙ sym (ap (λ (x : OpenCreate). x.word) same))), h);
      extends = fill_step a k n t (record self { create = Some f }) r s g i st (c ∙ ap (λ (x : OpenCreate). Some x) (same_file f k lines t same l));
    }

misplaced_wrong : (a : Around) (b : Block) (n : ℕ) (line : List ℕ) (c : Command) (e : ScriptError) → LineReads line (reads c) → Misplaces a n c e → Refuses (inside a b) n line e
misplaced_wrong a b n line c (error.NoCommand m) l h = (reads c, l, h)
misplaced_wrong a b n line c (error.IfNotClosed m) l h = (reads c, l, h)
misplaced_wrong a b n line c (error.StrayElse m) l h = (reads c, l, h)
misplaced_wrong a b n line c (error.BraceNotClosed m) l h = (reads c, l, h)
misplaced_wrong a b n line c (error.CreateNotClosed m) l h = (reads c, l, h)
misplaced_wrong a b n line c error.Memory l h = tt

inside_read : (a : Around) (b : Block) (n : ℕ) (line : List ℕ) (c : Command) (r : Result Reader ScriptError) → LineReads line (reads c) → MatchResult r (λ x. ExtendsBy (inside a b) (at n (is_command c)) x) (λ e. Misplaces a n c e) → MatchResult r (λ x. Extends (inside a b) n line x) (λ e. Refuses (inside a b) n line e)
inside_read a b n line c (Ok x) l h = record { mark = is_command c; spelled = l; extends = h }
inside_read a b n line c (Err e) l h = misplaced_wrong a b n line c e l h

stands_inside : (p : Part) (b : Block) (self now : Reader) → Stands p self → p.inner ≡ within b → now.prefetches ≡ self.prefetches → now.open.items ≡ self.open.items → shown_statements now.statements ≡ shown_statements self.statements → now.create ≡ None → Stands (inside p.around b) now
stands_inside p b self now s e f i t k = record {
  prefetches = f ∙ s.prefetches ∙ ap (λ q. fetches (part_marks q)) (same_inside p b e);
  opens = ap (map shown_open) i ∙ s.opens;
  statements = t ∙ s.statements ∙ ap inner_statements e;
  create = k;
}

-- a command, where no `createfile` is open
pub command_read : (p : Part) (n : ℕ) (line : List ℕ) (self now : Reader) (c : Command) (r : Result Reader ScriptError) → Stands p self → None ≡ self.create → now.prefetches ≡ self.prefetches → now.open.items ≡ self.open.items → shown_statements now.statements ≡ shown_statements self.statements → now.create ≡ None → LineReads line (reads c) → ((a : Around) (b : Block) → Stands (inside a b) now → MatchResult r (λ x. ExtendsBy (inside a b) (at n (is_command c)) x) (λ e. Misplaces a n c e)) → MatchResult r (λ x. Extends p n line x) (λ e. Refuses p n line e)
command_read p n line self now c r s o f i t k l h =
    let w = within_create p.inner (o ∙ s.create) in
    subst (λ q. MatchResult r (λ x. Extends q n line x) (λ e. Refuses q n line e)) (sym (same_inside p w.0 w.1))
    (inside_read p.around w.0 n line c r l (h p.around w.0 (stands_inside p w.0 self now s w.1 f i t k)))

inside_refused : (a : Around) (b : Block) (n : ℕ) (line : List ℕ) (e : Refusal) → NotOfForm LineReads line e → Refuses (inside a b) n line (numbered n e)
unfolding NotOfForm
inside_refused a b n line refusal.NoCommand h = (no_command, h, refl)
inside_refused a b n line refusal.BraceNotClosed h = (brace_not_closed, h, refl)
inside_refused a b n line refusal.Memory h = tt

-- a line that is refused by itself
pub line_refused : (p : Part) (n : ℕ) (line : List ℕ) (self : Reader) (e : Refusal) → Stands p self → None ≡ self.create → NotOfForm LineReads line e → Refuses p n line (numbered n e)
line_refused p n line self e s o h =
    let w = within_create p.inner (o ∙ s.create) in
    subst (λ q. Refuses q n line (numbered n e)) (sym (same_inside p w.0 w.1)) (inside_refused p.around w.0 n line e h)

pub new_file : (n : ℕ) (w : List ℕ) (lines : List Template) → lines ≡ [] → Some (let z : OpenCreate = record { line = n; word = w; lines = lines } in z) ≡ Some (let z : OpenCreate = record { line = n; word = w; lines = [] } in z)
new_file n w lines e =
    let make : List Template → OpenCreate = λ l. record { line = n; word = w; lines = l } in
    ap (λ l. Some (make l)) e

-- What a run of the machine says of the grammar.
use Rattle.std.proofs.Common.{◌≡◌, ℕ, suc, ◌≤◌, ◌<◌, List, [], ◌∷◌, ◌++◌, length, Option, Some, None, Bool, true, false, cond, refl, sym, ◌∙◌, ap, subst, append_assoc, arith}
use Rattle.std.specs.Prelude.{nat_lt}
use Rattle.std.proofs.lemmas.Bool.{ltb-true, ltb-false, le-ltb}
use Rattle.std.proofs.lemmas.List.{append_cancel_left}
use Rattle.rel_grammar.specs.Shapes.{Shaped}
use Rattle.rel_grammar.specs.Grammar.{Question}
use Rattle.rel_grammar.specs.Spelling.{Mark, shapes_of}
use Rattle.rel_grammar.specs.Sentences.{question_marks, Sentence, BeginsAt, IsShallow, EndsThere, IsUnparsed, IsTooDeep}
use Rattle.rel_grammar.specs.Machine.{State, Step, to, accepts, fails, step, Outcome, reading, wrong, concluded, followed, go_on, start, Answer, parsed, no_parse, too_deep, ended, taken, go}
use Rattle.rel_grammar.proofs.Complete.{complete}
use Rattle.rel_grammar.proofs.Sound.{marks, IsSound, step_sound, can_end}

append-nil : {A : Type 0} (ms : List A) → ms ++ [] ≡ ms
append-nil [] = refl
append-nil (t ∷ ts) = ap (λ l. t ∷ l) (append-nil ts)

tokens-append : (a b : List Mark) → shapes_of (a ++ b) ≡ shapes_of a ++ shapes_of b
tokens-append [] b = refl
tokens-append (m ∷ a) b = ap (λ l. m.token ∷ l) (tokens-append a b)

-- Without the limit.
abbrev plain : Answer → Outcome → Type 0
plain (parsed q) o = o ≡ reading q
plain (no_parse left) o = o ≡ wrong left
plain (too_deep left) o = Unit {0}

plain_ended : (r : Step) → plain (ended r) (concluded r)
plain_ended (to d s) = refl
plain_ended (accepts q) = refl
plain_ended fails = refl

plain_cond : (b : Bool) (left : List Shaped) (a : Answer) (o : Outcome) → plain a o → plain (cond b (too_deep left) a) o
plain_cond true left a o h = tt
plain_cond false left a o h = h

plain_taken : (r : Step) (left : List Shaped) (f : State → Answer) (g : State → Outcome) → ((s : State) → plain (f s) (g s)) → plain (taken left f r) (followed left g r)
plain_taken (to d s) left f g h = plain_cond (nat_lt 64 d) left (f s) (g s) (h s)
plain_taken (accepts q) left f g h = refl
plain_taken fails left f g h = refl

no_limit : (ts : List Shaped) (f : Option Shaped → Step) → plain (go f ts) (go_on f ts)
no_limit [] f = plain_ended (f None)
no_limit (t ∷ ts) f = plain_taken (f (Some t)) (t ∷ ts) (λ s. go (step s) ts) (λ s. go_on (step s) ts) (λ s. no_limit ts (step s))

-- What a run from a state tells: the marks that it read.
pub record Parsed (m : List Mark) (ts : List Shaped) (q : Question) : Type 0 where
  pub read : List Mark
  pub tokens : ts ≡ shapes_of read
  pub all : question_marks q ≡ m ++ read
  pub shallow : IsShallow read

pub record Unparsed (m : List Mark) (ts left : List Shaped) : Type 0 where
  pub read : List Mark
  pub splits : ts ≡ shapes_of read ++ left
  pub begins : BeginsAt (m ++ read)
  pub shallow : IsShallow read

pub record Deep (m : List Mark) (ts left : List Shaped) : Type 0 where
  pub read : List Mark
  pub first : Mark
  pub more : List Shaped
  pub splits : ts ≡ shapes_of read ++ left
  pub left_is : left ≡ first.token ∷ more
  pub begins : BeginsAt (m ++ (read ++ (first ∷ [])))
  pub shallow : IsShallow read
  pub deep : 64 < first.depth

abbrev Tells : List Mark → List Shaped → Answer → Type 0
Tells m ts (parsed q) = Parsed m ts q
Tells m ts (no_parse left) = Unparsed m ts left
Tells m ts (too_deep left) = Deep m ts left

abbrev one : ℕ → Shaped → Mark
one d t = record { token = t; depth = d }

-- One more mark in front.
more_tells : (a : Answer) (m : List Mark) (k : Mark) (ts : List Shaped) → k.depth ≤ 64 → Tells (m ++ (k ∷ [])) ts a → Tells m (k.token ∷ ts) a
more_tells (parsed q) m k ts low h = record { read = k ∷ h.read; tokens = ap (λ l. k.token ∷ l) h.tokens; all = h.all ∙ append_assoc m (k ∷ []) h.read; shallow = (low, h.shallow) }
more_tells (no_parse left) m k ts low h = record { read = k ∷ h.read; splits = ap (λ l. k.token ∷ l) h.splits; begins = subst BeginsAt (append_assoc m (k ∷ []) h.read) h.begins; shallow = (low, h.shallow) }
more_tells (too_deep left) m k ts low h = record { read = k ∷ h.read; first = h.first; more = h.more; splits = ap (λ l. k.token ∷ l) h.splits; left_is = h.left_is; begins = subst BeginsAt (append_assoc m (k ∷ []) (h.read ++ (h.first ∷ []))) h.begins; shallow = (low, h.shallow); deep = h.deep }

stop_tells : (s : State) (left : List Shaped) → Unparsed (marks s) left left
stop_tells s left = record { read = []; splits = refl; begins = subst BeginsAt (sym (append-nil (marks s))) (can_end s); shallow = tt }

end_tells : (s : State) (r : Step) → IsSound (marks s) None r → Tells (marks s) [] (ended r)
end_tells s (to d s') h = absurd h
end_tells s (accepts q) h = record { read = []; tokens = refl; all = h ∙ sym (append-nil (marks s)); shallow = tt }
end_tells s fails h = stop_tells s []

limit_tells : (b : Bool) (d : ℕ) (m : List Mark) (s : State) (t : Shaped) (ts : List Shaped) (a : Answer) → nat_lt 64 d ≡ b → marks s ≡ m ++ (one d t ∷ []) → Tells (marks s) ts a → Tells m (t ∷ ts) (cond b (too_deep (t ∷ ts)) a)
limit_tells true d m s t ts a e is h = record { read = []; first = one d t; more = ts; splits = refl; left_is = refl; begins = subst BeginsAt is (can_end s); shallow = tt; deep = ltb-true 64 d e }
limit_tells false d m s t ts a e is h = let low : d ≤ 64 = ltb-false 64 d e in more_tells a m (one d t) ts low (subst (λ l. Tells l ts a) is h)

take_tells : (s : State) (t : Shaped) (ts : List Shaped) (f : State → Answer) (r : Step) → IsSound (marks s) (Some t) r → ((s' : State) → Tells (marks s') ts (f s')) → Tells (marks s) (t ∷ ts) (taken (t ∷ ts) f r)
take_tells s t ts f (to d s') h more = limit_tells (nat_lt 64 d) d (marks s) s' t ts (f s') refl h (more s')
take_tells s t ts f (accepts q) h more = absurd h
take_tells s t ts f fails h more = stop_tells s (t ∷ ts)

tells : (ts : List Shaped) (s : State) → Tells (marks s) ts (go (step s) ts)
tells [] s = end_tells s (step s None) (step_sound s None)
tells (t ∷ ts) s = take_tells s t ts (λ s'. go (step s') ts) (step s (Some t)) (step_sound s (Some t)) (λ s'. tells ts s')

-- Where a run fails at a token, it fails there whatever follows.
abbrev IsNoLonger : ℕ → Outcome → Type 0
IsNoLonger n (reading q) = Unit {0}
IsNoLonger n (wrong left) = length left ≤ n

no_longer_more : (o : Outcome) (n : ℕ) → IsNoLonger n o → IsNoLonger (suc n) o
no_longer_more (reading q) n h = tt
no_longer_more (wrong left) n h = omega arith

no_longer_ended : (r : Step) → IsNoLonger 0 (concluded r)
no_longer_ended (to d s) = omega arith
no_longer_ended (accepts q) = tt
no_longer_ended fails = omega arith

no_longer_followed : (r : Step) (t : Shaped) (ts : List Shaped) (g : State → Outcome) → ((s : State) → IsNoLonger (length ts) (g s)) → IsNoLonger (suc (length ts)) (followed (t ∷ ts) g r)
no_longer_followed (to d s) t ts g h = no_longer_more (g s) (length ts) (h s)
no_longer_followed (accepts q) t ts g h = omega arith
no_longer_followed fails t ts g h = omega arith

no_longer : (ts : List Shaped) (f : Option Shaped → Step) → IsNoLonger (length ts) (go_on f ts)
no_longer [] f = no_longer_ended (f None)
no_longer (t ∷ ts) f = no_longer_followed (f (Some t)) t ts (λ s. go_on (step s) ts) (λ s. no_longer ts (step s))

no_fit : (o : Outcome) (left : List Shaped) (n : ℕ) → o ≡ wrong left → n < length left → IsNoLonger n o → ⊥
no_fit o left n e lt h = let k : length left ≤ n = subst (IsNoLonger n) e h in absurd (omega arith)

-- with t the first token that is left, whatever follows
here_followed : (r : Step) (t : Shaped) (more more' : List Shaped) → followed (t ∷ more) (λ s. go_on (step s) more) r ≡ wrong (t ∷ more) → followed (t ∷ more') (λ s. go_on (step s) more') r ≡ wrong (t ∷ more')
here_followed (to d s) t more more' e = absurd (no_fit (go_on (step s) more) (t ∷ more) (length more) e (omega arith) (no_longer more (step s)))
here_followed (accepts q) t more more' e = refl
here_followed fails t more more' e = refl

there_followed : (r : Step) (x : Shaped) (ts ts' left left' : List Shaped) → followed (x ∷ ts) (λ s. go_on (step s) ts) r ≡ wrong left → length left ≤ length ts → ((s : State) → go_on (step s) ts ≡ wrong left → go_on (step s) ts' ≡ wrong left') → followed (x ∷ ts') (λ s. go_on (step s) ts') r ≡ wrong left'
there_followed (to d s) x ts ts' left left' e le h = h s e
there_followed (accepts q) x ts ts' left left' e le h = absurd (no_fit (wrong (x ∷ ts)) (x ∷ ts) (length ts) refl (omega arith) (subst (IsNoLonger (length ts)) (sym e) le))
there_followed fails x ts ts' left left' e le h = absurd (no_fit (wrong (x ∷ ts)) (x ∷ ts) (length ts) refl (omega arith) (subst (IsNoLonger (length ts)) (sym e) le))

length-after : (front left : List Shaped) → length left ≤ length (front ++ left)
length-after [] left = omega arith
length-after (x ∷ front) left = omega (arith, length-after front left)

whatever_follows : (front : List Shaped) (t : Shaped) (more more' : List Shaped) (f : Option Shaped → Step) → go_on f (front ++ (t ∷ more)) ≡ wrong (t ∷ more) → go_on f (front ++ (t ∷ more')) ≡ wrong (t ∷ more')
whatever_follows [] t more more' f e = here_followed (f (Some t)) t more more' e
whatever_follows (x ∷ front) t more more' f e =
    there_followed (f (Some x)) x (front ++ (t ∷ more)) (front ++ (t ∷ more')) (t ∷ more) (t ∷ more') e (length-after front (t ∷ more)) (λ s. whatever_follows front t more more' (step s))

-- No sentence begins with what the machine refuses.
ends_there : (before left : List Shaped) → go_on (step start) (before ++ left) ≡ wrong left → EndsThere before left
ends_there before [] e = λ q is.
    let read : go_on (step start) (before ++ []) ≡ reading q = ap (go_on (step start)) (append-nil before ∙ is) ∙ complete q in
    cc
ends_there before (t ∷ more) e = λ b.
    let read : go_on (step start) ((before ++ (t ∷ [])) ++ b.1) ≡ reading b.0 = ap (go_on (step start)) b.2 ∙ complete b.0 in
    let refused : go_on (step start) (before ++ (t ∷ b.1)) ≡ wrong (t ∷ b.1) = whatever_follows before t more b.1 (step start) e in
    let same : (before ++ (t ∷ [])) ++ b.1 ≡ before ++ (t ∷ b.1) = append_assoc before (t ∷ []) b.1 in
    let again : go_on (step start) (before ++ (t ∷ b.1)) ≡ reading b.0 = ap (go_on (step start)) (sym same) ∙ read in
    cc

-- The three answers of a run from the start.
pub read_exactly : (ts : List Shaped) (q : Question) → go (step start) ts ≡ parsed q → Sentence ts q × IsShallow (question_marks q)
read_exactly ts q e =
    let h : Parsed [] ts q = subst (Tells [] ts) e (tells ts start) in
    (h.tokens ∙ ap shapes_of (sym h.all), subst IsShallow (sym h.all) h.shallow)

pub refused_exactly : (ts left : List Shaped) → go (step start) ts ≡ no_parse left → IsUnparsed ts left
refused_exactly ts left e =
    let h : Unparsed [] ts left = subst (Tells [] ts) e (tells ts start) in
    let wrong_there : go_on (step start) ts ≡ wrong left = subst (λ a. plain a (go_on (step start) ts)) e (no_limit ts (step start)) in
    record { before = h.read; splits = h.splits; begins = h.begins; shallow = h.shallow; ends = ends_there (shapes_of h.read) left (ap (go_on (step start)) (sym h.splits) ∙ wrong_there) }

pub deep_exactly : (ts left : List Shaped) → go (step start) ts ≡ too_deep left → IsTooDeep ts left
deep_exactly ts left e =
    let h : Deep [] ts left = subst (Tells [] ts) e (tells ts start) in
    record { before = h.read; first = h.first; more = h.more; splits = h.splits; left_is = h.left_is; begins = h.begins; shallow = h.shallow; deep = h.deep }

-- No list of tokens has two readings.
reading-injective : (p q : Question) → reading p ≡ reading q → p ≡ q
reading-injective p q e = cc

pub one_reading : (p q : Question) → shapes_of (question_marks p) ≡ shapes_of (question_marks q) → p ≡ q
one_reading p q e = reading-injective p q (sym (complete p) ∙ ap (go_on (step start)) e ∙ complete q)

-- A shallow sentence is answered.
abbrev Rest : List Mark → Outcome → Type 0
Rest m (reading q) = (ms : List Mark) × (question_marks q ≡ m ++ ms)
Rest m (wrong left) = Unit {0}

rest_more : (o : Outcome) (m m' : List Mark) (k : Mark) → m' ≡ m ++ (k ∷ []) → Rest m' o → Rest m o
rest_more (reading q) m m' k e h = (k ∷ h.0, h.1 ∙ ap (λ l. l ++ h.0) e ∙ append_assoc m (k ∷ []) h.0)
rest_more (wrong left) m m' k e h = tt

rest_ended : (m : List Mark) (r : Step) → IsSound m None r → Rest m (concluded r)
rest_ended m (to d s) h = absurd h
rest_ended m (accepts q) h = ([], h ∙ sym (append-nil m))
rest_ended m fails h = tt

rest_followed : (m : List Mark) (t : Shaped) (ts : List Shaped) (g : State → Outcome) (r : Step) → IsSound m (Some t) r → ((s : State) → Rest (marks s) (g s)) → Rest m (followed (t ∷ ts) g r)
rest_followed m t ts g (to d s) h more = rest_more (g s) m (marks s) (one d t) h (more s)
rest_followed m t ts g (accepts q) h more = absurd h
rest_followed m t ts g fails h more = tt

rest : (ts : List Shaped) (s : State) → Rest (marks s) (go_on (step s) ts)
rest [] s = rest_ended (marks s) (step s None) (step_sound s None)
rest (t ∷ ts) s = rest_followed (marks s) t ts (λ s'. go_on (step s') ts) (step s (Some t)) (step_sound s (Some t)) (λ s'. rest ts s')

shallow_ended : (q : Question) (r : Step) → concluded r ≡ reading q → ended r ≡ parsed q
shallow_ended q (to d s) e = cc
shallow_ended q (accepts p) e = cc
shallow_ended q fails e = cc

under_limit : (d : ℕ) (left : List Shaped) (a : Answer) → d ≤ 64 → cond (nat_lt 64 d) (too_deep left) a ≡ a
under_limit d left a h = ap (λ b. cond b (too_deep left) a) (le-ltb 64 d h)

first_shallow : (m ms ms' : List Mark) (k : Mark) (all : List Mark) → all ≡ m ++ ms → all ≡ m ++ (k ∷ ms') → IsShallow ms → IsShallow (k ∷ ms')
first_shallow m ms ms' k all e f h = subst IsShallow (append_cancel_left m ms (k ∷ ms') (sym e ∙ f)) h

shallow_followed : (q : Question) (s : State) (t : Shaped) (ts : List Shaped) (ms : List Mark) (r : Step) → IsSound (marks s) (Some t) r → question_marks q ≡ marks s ++ ms → IsShallow ms → followed (t ∷ ts) (λ s'. go_on (step s') ts) r ≡ reading q → ((s' : State) (ms' : List Mark) → question_marks q ≡ marks s' ++ ms' → IsShallow ms' → go_on (step s') ts ≡ reading q → go (step s') ts ≡ parsed q) → taken (t ∷ ts) (λ s'. go (step s') ts) r ≡ parsed q
shallow_followed q s t ts ms (to d s') h e low r more =
    let k : Rest (marks s') (reading q) = subst (Rest (marks s')) r (rest ts s') in
    let f : question_marks q ≡ marks s ++ (one d t ∷ k.0) = k.1 ∙ ap (λ l. l ++ k.0) h ∙ append_assoc (marks s) (one d t ∷ []) k.0 in
    let both : IsShallow (one d t ∷ k.0) = first_shallow (marks s) ms k.0 (one d t) (question_marks q) e f low in
    under_limit d (t ∷ ts) (go (step s') ts) both.0 ∙ more s' k.0 k.1 both.1 r
shallow_followed q s t ts ms (accepts p) h e low r more = absurd h
shallow_followed q s t ts ms fails h e low r more = cc

shallow : (ts : List Shaped) (q : Question) (s : State) (ms : List Mark) → question_marks q ≡ marks s ++ ms → IsShallow ms → go_on (step s) ts ≡ reading q → go (step s) ts ≡ parsed q
shallow [] q s ms e low r = shallow_ended q (step s None) r
shallow (t ∷ ts) q s ms e low r = shallow_followed q s t ts ms (step s (Some t)) (step_sound s (Some t)) e low r (λ s' ms' e' low' r'. shallow ts q s' ms' e' low' r')

pub answered : (ts : List Shaped) (q : Question) → Sentence ts q → IsShallow (question_marks q) → go (step start) ts ≡ parsed q
answered ts q is low = shallow ts q start (question_marks q) refl low (ap (go_on (step start)) is ∙ complete q)

-- How deep a token stands is fixed by the tokens up to it.
pub record Walk (m : List Mark) (ts : List Shaped) (q q' : Question) : Type 0 where
  pub read : List Mark
  pub tokens : shapes_of read ≡ ts
  pub more : List Mark
  pub more' : List Mark
  pub all : question_marks q ≡ m ++ (read ++ more)
  pub all' : question_marks q' ≡ m ++ (read ++ more')

walk_more : (q q' : Question) (m m' : List Mark) (d : ℕ) (t : Shaped) (ts : List Shaped) → m' ≡ m ++ (one d t ∷ []) → Walk m' ts q q' → Walk m (t ∷ ts) q q'
walk_more q q' m m' d t ts e w = record {
  read = one d t ∷ w.read;
  tokens = ap (λ l. t ∷ l) w.tokens;
  more = w.more;
  more' = w.more';
  all = w.all ∙ ap (λ l. l ++ (w.read ++ w.more)) e ∙ append_assoc m (one d t ∷ []) (w.read ++ w.more);
  all' = w.all' ∙ ap (λ l. l ++ (w.read ++ w.more')) e ∙ append_assoc m (one d t ∷ []) (w.read ++ w.more');
}

walk_followed : (q q' : Question) (s : State) (t : Shaped) (ts a b : List Shaped) (r : Step) → IsSound (marks s) (Some t) r → followed (t ∷ (ts ++ a)) (λ s'. go_on (step s') (ts ++ a)) r ≡ reading q → followed (t ∷ (ts ++ b)) (λ s'. go_on (step s') (ts ++ b)) r ≡ reading q' → ((s' : State) → go_on (step s') (ts ++ a) ≡ reading q → go_on (step s') (ts ++ b) ≡ reading q' → Walk (marks s') ts q q') → Walk (marks s) (t ∷ ts) q q'
walk_followed q q' s t ts a b (to d s') h e f more = walk_more q q' (marks s) (marks s') d t ts h (more s' e f)
walk_followed q q' s t ts a b (accepts p) h e f more = absurd h
walk_followed q q' s t ts a b fails h e f more = absurd (let no_way : wrong (t ∷ (ts ++ a)) ≡ reading q = e in let never : ⊥ = cc in never)

walk : (ts : List Shaped) (q q' : Question) (s : State) (a b : List Shaped) → go_on (step s) (ts ++ a) ≡ reading q → go_on (step s) (ts ++ b) ≡ reading q' → Walk (marks s) ts q q'
walk [] q q' s a b e f =
    let k : Rest (marks s) (reading q) = subst (Rest (marks s)) e (rest a s) in
    let k' : Rest (marks s) (reading q') = subst (Rest (marks s)) f (rest b s) in
    record { read = []; tokens = refl; more = k.0; more' = k'.0; all = k.1; all' = k'.1 }
walk (t ∷ ts) q q' s a b e f = walk_followed q q' s t ts a b (step s (Some t)) (step_sound s (Some t)) e f (λ s' e' f'. walk ts q q' s' a b e' f')

same_front : (a b x y : List Mark) → a ++ x ≡ b ++ y → shapes_of a ≡ shapes_of b → a ≡ b
same_front [] [] x y e h = refl
same_front [] (n ∷ b) x y e h = cc
same_front (m ∷ a) [] x y e h = cc
same_front (m ∷ a) (n ∷ b) x y e h =
    let head : m ≡ n = cc in
    let tail : a ++ x ≡ b ++ y = cc in
    let tokens : shapes_of a ≡ shapes_of b = cc in
    let more : a ≡ b = same_front a b x y tail tokens in
    cc

pub one_depth : (p q : Question) (a b x y : List Mark) → question_marks p ≡ a ++ x → question_marks q ≡ b ++ y → shapes_of a ≡ shapes_of b → a ≡ b
one_depth p q a b x y e f h =
    let ra : go_on (step start) (shapes_of a ++ shapes_of x) ≡ reading p = ap (go_on (step start)) (sym (ap shapes_of e ∙ tokens-append a x)) ∙ complete p in
    let rb : go_on (step start) (shapes_of a ++ shapes_of y) ≡ reading q = ap (go_on (step start)) (ap (λ l. l ++ shapes_of y) h ∙ sym (ap shapes_of f ∙ tokens-append b y)) ∙ complete q in
    let w : Walk [] (shapes_of a) p q = walk (shapes_of a) p q start (shapes_of x) (shapes_of y) ra rb in
    same_front a w.read x w.more (sym e ∙ w.all) (sym w.tokens) ∙ sym (same_front b w.read y w.more' (sym f ∙ w.all') (sym h ∙ sym w.tokens))

-- Tokens are parsed in one way: they have one tree, or one refusal.
use Rattle.std.proofs.Common.{◌≡◌, ◌≢◌, ◌⊎◌, inl, inr, ℕ, ◌≤◌, ◌<◌, List, [], ◌∷◌, ◌++◌, Result, Ok, Err, refl, sym, ◌∙◌, ap, subst, append_assoc, arith}
use Rattle.std.proofs.lemmas.List.{map-append, append-nil}
use Rattle.rel_grammar.specs.declared.error.ParseError.{ParseError}
use Rattle.rel_grammar.specs.declared.error.ParseError.TheVariants.{NoParse, TooDeep, Memory}
use Rattle.rel_grammar.specs.Shapes.{Shaped}
use Rattle.rel_grammar.specs.Grammar.{Question}
use Rattle.rel_grammar.specs.Spelling.{Mark, shapes_of}
use Rattle.rel_grammar.specs.Sentences.{deepest, question_marks, Sentence, Begins, BeginsAt, IsShallow, EndsThere, IsUnparsed, IsTooDeep}
use Rattle.rel_grammar.specs.Trees.{Plain, question_tree}
use Rattle.rel_grammar.specs.Answers.{place_of, Parsed}
use Rattle.rel_grammar.proofs.Exact.{one_reading, one_depth}

-- The second front of a list is the first and more.
abbrev Longer : List Shaped → List Shaped → List Shaped → List Shaped → Type 0
Longer a b x y = (c : List Shaped) × (b ≡ a ++ c) × (x ≡ c ++ y)

longer_next : (s t : Shaped) (a b x y : List Shaped) → s ≡ t → Longer a b x y ⊎ Longer b a y x → Longer (s ∷ a) (t ∷ b) x y ⊎ Longer (t ∷ b) (s ∷ a) y x
longer_next s t a b x y e (inl r) = inl (r.0, ap (λ k. k ∷ b) (sym e) ∙ ap (λ l. s ∷ l) r.1, r.2)
longer_next s t a b x y e (inr r) = inr (r.0, ap (λ k. k ∷ a) e ∙ ap (λ l. t ∷ l) r.1, r.2)

-- Of two fronts of one list, one is the other and more.
longer : (a b x y : List Shaped) → a ++ x ≡ b ++ y → Longer a b x y ⊎ Longer b a y x
longer [] b x y e = inl (b, refl, e)
longer (s ∷ a) [] x y e = inr (s ∷ a, refl, sym e)
longer (s ∷ a) (t ∷ b) x y e =
    let first : s ≡ t = cc in
    let rest : a ++ x ≡ b ++ y = cc in
    longer_next s t a b x y first (longer a b x y rest)

one_more : (a : List Shaped) (t : Shaped) (c : List Shaped) → a ++ (t ∷ c) ≡ (a ++ (t ∷ [])) ++ c
one_more a t c = sym (append_assoc a (t ∷ []) c)

shapes-append : (a b : List Mark) → shapes_of (a ++ b) ≡ shapes_of a ++ shapes_of b
shapes-append a b = map-append (λ m. m.token) a b

-- marks whose shapes begin so
cut_marks : (m : List Mark) (s c : List Shaped) → shapes_of m ≡ s ++ c → (a : List Mark) × (b : List Mark) × (m ≡ a ++ b) × (shapes_of a ≡ s)
cut_marks m [] c e = ([], m, refl, refl)
cut_marks [] (t ∷ s) c e = let never : ⊥ = cc in absurd never
cut_marks (x ∷ m) (t ∷ s) c e =
    let first : x.token ≡ t = cc in
    let rest : shapes_of m ≡ s ++ c = cc in
    let r = cut_marks m s c rest in
    (x ∷ r.0, r.1, ap (λ l. x ∷ l) r.2, ap (λ k. k ∷ shapes_of r.0) first ∙ ap (λ l. t ∷ l) r.3)

shallow_front : (a b : List Mark) → IsShallow (a ++ b) → IsShallow a
shallow_front [] b h = tt
shallow_front (m ∷ a) b h = (h.0, shallow_front a b h.1)

last_is_shallow : (a : List Mark) (m : Mark) → IsShallow (a ++ (m ∷ [])) → m.depth ≤ deepest
last_is_shallow [] m h = h.0
last_is_shallow (x ∷ a) m h = last_is_shallow a m h.1

-- What begins a sentence may be cut short.
begins_front : (m : List Mark) (s c : List Shaped) → BeginsAt m → shapes_of m ≡ s ++ c → Begins s
begins_front m s c b e =
    (b.0, c ++ shapes_of b.1, sym (append_assoc s c (shapes_of b.1)) ∙ ap (λ l. l ++ shapes_of b.1) (sym e) ∙ sym (shapes-append m b.1) ∙ ap shapes_of (sym b.2))

begins_before : (a b : List Mark) → BeginsAt (a ++ b) → BeginsAt a
begins_before a b h = (h.0, b ++ h.1, h.2 ∙ append_assoc a b h.1)

begins_whole : (q : Question) → BeginsAt (question_marks q)
begins_whole q = (q, [], sym (append-nil (question_marks q)))

-- No shallow marks begin as ones of which the last is too deep.
never_deep : (m before : List Mark) (first : Mark) (c : List Shaped) → BeginsAt m → IsShallow m → BeginsAt (before ++ (first ∷ [])) → deepest < first.depth → shapes_of m ≡ shapes_of (before ++ (first ∷ [])) ++ c → ⊥
never_deep m before first c b shallow d deep e =
    let r = cut_marks m (shapes_of (before ++ (first ∷ []))) c e in
    let front : question_marks b.0 ≡ r.0 ++ (r.1 ++ b.1) = b.2 ∙ ap (λ l. l ++ b.1) r.2 ∙ append_assoc r.0 r.1 b.1 in
    let same : r.0 ≡ before ++ (first ∷ []) = one_depth b.0 d.0 r.0 (before ++ (first ∷ [])) (r.1 ++ b.1) d.1 front d.2 r.3 in
    let short : IsShallow r.0 = shallow_front r.0 r.1 (subst IsShallow r.2 shallow) in
    let last : first.depth ≤ deepest = last_is_shallow before first (subst IsShallow same short) in
    omega (arith, last, deep)

no_longer : (a left y : List Shaped) (t : Shaped) → EndsThere a left → left ≡ t ∷ y → Begins (a ++ (t ∷ [])) → ⊥
no_longer a [] y t ends e b = let never : ⊥ = cc in never
no_longer a (s ∷ left) y t ends e b = let same : t ≡ s = cc in ends (subst (λ k. Begins (a ++ (k ∷ []))) same b)

-- Nothing that begins a sentence goes past the first wrong token.
never_past : (ts left : List Shaped) (a : IsUnparsed ts left) (m : List Mark) (t : Shaped) (c y : List Shaped) → BeginsAt m → shapes_of m ≡ shapes_of a.before ++ (t ∷ c) → left ≡ t ∷ y → ⊥
never_past ts left a m t c y b e is =
    no_longer (shapes_of a.before) left y t a.ends is (begins_front m (shapes_of a.before ++ (t ∷ [])) c b (e ∙ one_more (shapes_of a.before) t c))

unparsed_later : (ts l k : List Shaped) (a : IsUnparsed ts l) (b : IsUnparsed ts k) (c : List Shaped) → shapes_of b.before ≡ shapes_of a.before ++ c → l ≡ c ++ k → l ≡ k
unparsed_later ts l k a b [] e is = is
unparsed_later ts l k a b (t ∷ c) e is = absurd (never_past ts l a b.before t c (c ++ k) b.begins e is)

unparsed_either : (ts l k : List Shaped) (a : IsUnparsed ts l) (b : IsUnparsed ts k) → Longer (shapes_of a.before) (shapes_of b.before) l k ⊎ Longer (shapes_of b.before) (shapes_of a.before) k l → l ≡ k
unparsed_either ts l k a b (inl r) = unparsed_later ts l k a b r.0 r.1 r.2
unparsed_either ts l k a b (inr r) = sym (unparsed_later ts k l b a r.0 r.1 r.2)

-- The first wrong token is one.
one_unparsed : (ts l k : List Shaped) → IsUnparsed ts l → IsUnparsed ts k → l ≡ k
one_unparsed ts l k a b = unparsed_either ts l k a b (longer (shapes_of a.before) (shapes_of b.before) l k (sym a.splits ∙ b.splits))

-- up to the token that is too deep, and it
up_to : (ts l : List Shaped) → IsTooDeep ts l → List Mark
up_to ts l a = a.before ++ (a.first ∷ [])

up_to_shapes : (ts l : List Shaped) (a : IsTooDeep ts l) (c : List Shaped) → shapes_of a.before ++ (a.first.token ∷ c) ≡ shapes_of (a.before ++ (a.first ∷ [])) ++ c
up_to_shapes ts l a c = one_more (shapes_of a.before) a.first.token c ∙ ap (λ s. s ++ c) (sym (shapes-append a.before (a.first ∷ [])))

-- Shallow marks don't go past a token that is too deep.
never_past_deep : (ts left : List Shaped) (a : IsTooDeep ts left) (m : List Mark) (t : Shaped) (c y : List Shaped) → BeginsAt m → IsShallow m → shapes_of m ≡ shapes_of a.before ++ (t ∷ c) → left ≡ t ∷ y → ⊥
never_past_deep ts left a m t c y b shallow e is =
    let left_is = a.left_is in
    let same : t ≡ a.first.token = cc in
    let front : shapes_of m ≡ shapes_of (a.before ++ (a.first ∷ [])) ++ c = e ∙ ap (λ k. shapes_of a.before ++ (k ∷ c)) same ∙ up_to_shapes ts left a c in
    never_deep m a.before a.first c b shallow a.begins a.deep front

deep_later : (ts l k : List Shaped) (a : IsTooDeep ts l) (b : IsTooDeep ts k) (c : List Shaped) → shapes_of b.before ≡ shapes_of a.before ++ c → l ≡ c ++ k → l ≡ k
deep_later ts l k a b [] e is = is
deep_later ts l k a b (t ∷ c) e is = absurd (never_past_deep ts l a b.before t c (c ++ k) (begins_before b.before (b.first ∷ []) b.begins) b.shallow e is)

deep_either : (ts l k : List Shaped) (a : IsTooDeep ts l) (b : IsTooDeep ts k) → Longer (shapes_of a.before) (shapes_of b.before) l k ⊎ Longer (shapes_of b.before) (shapes_of a.before) k l → l ≡ k
deep_either ts l k a b (inl r) = deep_later ts l k a b r.0 r.1 r.2
deep_either ts l k a b (inr r) = sym (deep_later ts k l b a r.0 r.1 r.2)

-- The first token that is too deep is one.
one_too_deep : (ts l k : List Shaped) → IsTooDeep ts l → IsTooDeep ts k → l ≡ k
one_too_deep ts l k a b = deep_either ts l k a b (longer (shapes_of a.before) (shapes_of b.before) l k (sym a.splits ∙ b.splits))

unparsed_before : (ts l k : List Shaped) (a : IsUnparsed ts l) (b : IsTooDeep ts k) (c : List Shaped) → shapes_of b.before ≡ shapes_of a.before ++ c → l ≡ c ++ k → ⊥
unparsed_before ts l k a b [] e is =
    let front : shapes_of (b.before ++ (b.first ∷ [])) ≡ shapes_of a.before ++ (b.first.token ∷ []) = shapes-append b.before (b.first ∷ []) ∙ ap (λ s. s ++ (b.first.token ∷ [])) (e ∙ append-nil (shapes_of a.before)) in
    never_past ts l a (b.before ++ (b.first ∷ [])) b.first.token [] b.more b.begins front (is ∙ b.left_is)
unparsed_before ts l k a b (t ∷ c) e is = never_past ts l a b.before t c (c ++ k) (begins_before b.before (b.first ∷ []) b.begins) e is

unparsed_after : (ts l k : List Shaped) (a : IsUnparsed ts l) (b : IsTooDeep ts k) (c : List Shaped) → shapes_of a.before ≡ shapes_of b.before ++ c → k ≡ c ++ l → ⊥
unparsed_after ts l k a b [] e is = unparsed_before ts l k a b [] (sym (e ∙ append-nil (shapes_of b.before)) ∙ sym (append-nil (shapes_of a.before))) (sym is)
unparsed_after ts l k a b (t ∷ c) e is = never_past_deep ts k b a.before t c (c ++ l) a.begins a.shallow e is

unparsed_or_deep : (ts l k : List Shaped) (a : IsUnparsed ts l) (b : IsTooDeep ts k) → Longer (shapes_of a.before) (shapes_of b.before) l k ⊎ Longer (shapes_of b.before) (shapes_of a.before) k l → ⊥
unparsed_or_deep ts l k a b (inl r) = unparsed_before ts l k a b r.0 r.1 r.2
unparsed_or_deep ts l k a b (inr r) = unparsed_after ts l k a b r.0 r.1 r.2

-- A token is not wrong and another too deep.
not_both : (ts l k : List Shaped) → IsUnparsed ts l → IsTooDeep ts k → ⊥
not_both ts l k a b = unparsed_or_deep ts l k a b (longer (shapes_of a.before) (shapes_of b.before) l k (sym a.splits ∙ b.splits))

-- A sentence is not refused.
sentence_is_parsed : (ts left : List Shaped) (q : Question) → Sentence ts q → IsUnparsed ts left → ⊥
sentence_is_parsed ts [] q s a = a.ends q (sym (append-nil (shapes_of a.before)) ∙ sym a.splits ∙ s)
sentence_is_parsed ts (t ∷ left) q s a = never_past ts (t ∷ left) a (question_marks q) t left left (begins_whole q) (sym s ∙ a.splits) refl

shallow_is_parsed : (ts left : List Shaped) (q : Question) → Sentence ts q → IsShallow (question_marks q) → IsTooDeep ts left → ⊥
shallow_is_parsed ts left q s shallow a =
    let front : shapes_of (question_marks q) ≡ shapes_of a.before ++ (a.first.token ∷ a.more) = sym s ∙ a.splits ∙ ap (λ l. shapes_of a.before ++ l) a.left_is in
    never_past_deep ts left a (question_marks q) a.first.token a.more a.more (begins_whole q) shallow front a.left_is

pub one_answer : (end : ℕ) (ts : List Shaped) (a b : Result Plain ParseError) → a ≢ Err Memory → b ≢ Err Memory → Parsed end ts a → Parsed end ts b → a ≡ b
one_answer end ts (Ok t) (Ok u) f g h k =
    let same : h.0 ≡ k.0 = one_reading h.0 k.0 (sym h.1 ∙ k.1) in
    ap Ok (h.3 ∙ ap question_tree same ∙ sym k.3)
one_answer end ts (Ok t) (Err (NoParse p)) f g h k = absurd (sentence_is_parsed ts k.0 h.0 h.1 k.1)
one_answer end ts (Ok t) (Err (TooDeep p)) f g h k = absurd (shallow_is_parsed ts k.0 h.0 h.1 h.2 k.1)
one_answer end ts (Ok t) (Err Memory) f g h k = absurd (g refl)
one_answer end ts (Err (NoParse p)) (Ok t) f g h k = absurd (sentence_is_parsed ts h.0 k.0 k.1 h.1)
one_answer end ts (Err (NoParse p)) (Err (NoParse q)) f g h k = ap (λ x. Err (NoParse x)) (h.2 ∙ ap (place_of end) (one_unparsed ts h.0 k.0 h.1 k.1) ∙ sym k.2)
one_answer end ts (Err (NoParse p)) (Err (TooDeep q)) f g h k = absurd (not_both ts h.0 k.0 h.1 k.1)
one_answer end ts (Err (NoParse p)) (Err Memory) f g h k = absurd (g refl)
one_answer end ts (Err (TooDeep p)) (Ok t) f g h k = absurd (shallow_is_parsed ts h.0 k.0 k.1 k.2 h.1)
one_answer end ts (Err (TooDeep p)) (Err (NoParse q)) f g h k = absurd (not_both ts k.0 h.0 k.1 h.1)
one_answer end ts (Err (TooDeep p)) (Err (TooDeep q)) f g h k = ap (λ x. Err (TooDeep x)) (h.2 ∙ ap (place_of end) (one_too_deep ts h.0 k.0 h.1 k.1) ∙ sym k.2)
one_answer end ts (Err (TooDeep p)) (Err Memory) f g h k = absurd (g refl)
one_answer end ts (Err Memory) b f g h k = absurd (f refl)

-- A text has one list of tokens, or one first fault. Other crates may cite these lemmas.
use Rattle.std.proofs.Common.{◌≡◌, ◌≢◌, ℕ, ◌+◌, ◌<◌, ◌≤◌, List, [], ◌∷◌, ◌++◌, length, Result, Ok, Err, ◌⊎◌, inl, inr, refl, sym, ap, subst, ◌∙◌, length-append, arith}
use Rattle.std.specs.List.{AllByRecursion}
use Rattle.std.specs.Str.{IsValidUpTo}
use Rattle.rel_lexer.specs.declared.token_list.Tokens.{Tokens}
use Rattle.rel_lexer.specs.declared.error.LexError.{LexError}
use Rattle.rel_lexer.specs.declared.error.LexError.TheVariants.{BadByte, BadEscape, UnclosedString, UnclosedComment, TooLong, BadNumber, Memory}
use Rattle.rel_lexer.specs.Pieces.{Piece, blank, comment, word, number, string, sign, open_comment, open_string, stray, bytes_of, Stands, Lexes, end_of}
use Rattle.rel_lexer.specs.Tokens.{byte_at, tokens_of, IsGood, IsFault, FirstFault, AreTokens, IsRefused, Lexed}
use Rattle.rel_lexer.proofs.Lexing.{more_than_nothing}
use Rattle.rel_lexer.proofs.OneWay.{one_front}

-- bytes of a piece are not nothing
not_nothing : (p : Piece) (text rest : List ℕ) → text ≡ [] → text ≡ bytes_of p ++ rest → ⊥
not_nothing p text rest e i = let n = more_than_nothing p in let k = ap length (sym e ∙ i) ∙ length-append (bytes_of p) rest in omega arith

same_pieces : (ps qs : List Piece) (text : List ℕ) → Lexes ps text [] → Lexes qs text [] → ps ≡ qs
same_pieces [] [] text h g = refl
same_pieces [] (q ∷ qs) text h g = absurd (not_nothing q text g.0 h g.1)
same_pieces (p ∷ ps) [] text h g = absurd (not_nothing p text h.0 g h.1)
same_pieces (p ∷ ps) (q ∷ qs) text h g =
    let first = one_front p q h.0 g.0 (sym h.1 ∙ g.1) h.2 g.2 in
    let more = same_pieces ps qs h.0 h.3 (subst (λ l. Lexes qs l []) (sym first.1) g.3) in
    ap (λ x. x ∷ ps) first.0 ∙ ap (λ l. q ∷ l) more

good_no_fault : (at : ℕ) (p : Piece) (e : LexError) → IsGood p → IsFault at p e → ⊥
good_no_fault at (blank b) e g f = f
good_no_fault at (comment body) e g f = f
good_no_fault at (word b bs) e g f = f
good_no_fault at (number b bs) e g f = let k = f.0 in omega arith
good_no_fault at (string raw) e g f = elim f [ inl bad ↦ bad.0 g.0 | inr bad ↦ bad.1 g.1 ]
good_no_fault at (sign s) e g f = f
good_no_fault at (open_comment body) e g f = g
good_no_fault at (open_string raw) e g f = g
good_no_fault at (stray b) e g f = g

tokens_no_fault : (ps before : List Piece) (piece : Piece) (text rest : List ℕ) (at : ℕ) (e : LexError) → Lexes ps text [] → AllByRecursion IsGood ps → Lexes before text (bytes_of piece ++ rest) → Stands piece rest → IsFault at piece e → ⊥
tokens_no_fault [] [] piece text rest at e h g l s f = not_nothing piece text rest h l
tokens_no_fault [] (q ∷ before) piece text rest at e h g l s f = not_nothing q text l.0 h l.1
tokens_no_fault (p ∷ ps) [] piece text rest at e h g l s f =
    let first = one_front p piece h.0 rest (sym h.1 ∙ l) h.2 s in
    good_no_fault at piece e (subst (λ x. IsGood x) first.0 g.0) f
tokens_no_fault (p ∷ ps) (q ∷ before) piece text rest at e h g l s f =
    let first = one_front p q h.0 l.0 (sym h.1 ∙ l.1) h.2 l.2 in
    tokens_no_fault ps before piece h.0 rest at e h.3 g.1 (subst (λ t. Lexes before t (bytes_of piece ++ rest)) (sym first.1) l.3) s f

-- the longest front that is UTF-8 is one
valid_once : (raw : List ℕ) (n m : ℕ) → IsValidUpTo raw n → IsValidUpTo raw m → n ≡ m
valid_once raw n m h g =
    let below : n < m → ⊥ = λ l. h.longest m l g.front in
    let above : m < n → ⊥ = λ l. g.longest n l h.front in
    omega arith

one_fault : (at : ℕ) (p : Piece) (a b : LexError) → IsFault at p a → IsFault at p b → a ≡ b
one_fault at (blank c) a b f g = absurd f
one_fault at (comment body) a b f g = absurd f
one_fault at (word c cs) a b f g = absurd f
one_fault at (number c cs) a b f g = f.1 ∙ sym g.1
one_fault at (string raw) a b f g = elim f [
  | inl bad ↦ elim g [
    | inl worse ↦ bad.1.2 ∙ ap (λ n. BadByte (byte_at (at + 1 + n))) (valid_once raw bad.1.0 worse.1.0 bad.1.1 worse.1.1) ∙ sym worse.1.2
    | inr worse ↦ absurd (bad.0 worse.0)
  ]
  | inr bad ↦ elim g [
    | inl worse ↦ absurd (worse.0 bad.0)
    | inr worse ↦ bad.2 ∙ sym worse.2
  ]
]
one_fault at (sign s) a b f g = absurd f
one_fault at (open_comment body) a b f g = f ∙ sym g
one_fault at (open_string raw) a b f g = f ∙ sym g
one_fault at (stray c) a b f g = f ∙ sym g

same_fault : (before before' : List Piece) (p q : Piece) (text rest rest' : List ℕ) (at : ℕ) (a b : LexError) → Lexes before text (bytes_of p ++ rest) → AllByRecursion IsGood before → Stands p rest → IsFault (end_of at before) p a → Lexes before' text (bytes_of q ++ rest') → AllByRecursion IsGood before' → Stands q rest' → IsFault (end_of at before') q b → a ≡ b
same_fault [] [] p q text rest rest' at a b h g s f h' g' s' f' =
    let first = one_front p q rest rest' (sym h ∙ h') s s' in
    one_fault at q a b (subst (λ x. IsFault at x a) first.0 f) f'
same_fault [] (x ∷ before') p q text rest rest' at a b h g s f h' g' s' f' =
    let first = one_front p x rest h'.0 (sym h ∙ h'.1) s h'.2 in
    absurd (good_no_fault at p a (subst (λ y. IsGood y) (sym first.0) g'.0) f)
same_fault (x ∷ before) [] p q text rest rest' at a b h g s f h' g' s' f' =
    let first = one_front x q h.0 rest' (sym h.1 ∙ h') h.2 s' in
    absurd (good_no_fault at q b (subst (λ y. IsGood y) first.0 g.0) f')
same_fault (x ∷ before) (y ∷ before') p q text rest rest' at a b h g s f h' g' s' f' =
    let first = one_front x y h.0 h'.0 (sym h.1 ∙ h'.1) h.2 h'.2 in
    same_fault before before' p q h.0 rest rest' (at + length (bytes_of x)) a b h.3 g.1 s f
    (subst (λ t. Lexes before' t (bytes_of q ++ rest')) (sym first.1) h'.3) g'.1 s'
    (subst (λ z. IsFault (end_of (at + length (bytes_of z)) before') q b) (sym first.0) f')

same_tokens : (s t : Tokens) → s.list ≡ t.list → s.end ≡ t.end → s ≡ t
same_tokens s t e i = ap (λ l. record { list = l; end = s.end }) e ∙ ap (λ n. record { list = t.list; end = n }) i

-- a refusal for the length, or for a fault
abbrev Refusal : List ℕ → LexError → Type 0
Refusal text e = ((65536 < length text) × (e ≡ TooLong)) ⊎ ((length text ≤ 65536) × FirstFault text e)

refusal : (text : List ℕ) (e : LexError) → e ≢ Memory → IsRefused text e → Refusal text e
refusal text TooLong n h = inl (h, refl)
refusal text Memory n h = absurd (n refl)
refusal text (BadByte p) n h = inr h
refusal text (BadEscape p) n h = inr h
refusal text (UnclosedString p) n h = inr h
refusal text (UnclosedComment p) n h = inr h
refusal text (BadNumber p) n h = inr h

never_both : (text : List ℕ) (t : Tokens) (e : LexError) → AreTokens text t → Refusal text e → ⊥
never_both text t e h r = elim r [
  | inl long ↦ (let n = long.0 in let m = h.short in omega arith)
  | inr bad ↦ (let f = bad.1 in tokens_no_fault h.pieces f.before f.piece text f.rest (end_of 0 f.before) e h.lexes h.good f.lexes f.stands f.fault)
]

one_refusal : (text : List ℕ) (a b : LexError) → Refusal text a → Refusal text b → a ≡ b
one_refusal text a b r s = elim r [
  | inl long ↦ elim s [
    | inl longer ↦ long.1 ∙ sym longer.1
    | inr bad ↦ absurd (let n = long.0 in let m = bad.0 in omega arith)
  ]
  | inr bad ↦ elim s [
    | inl long ↦ absurd (let n = long.0 in let m = bad.0 in omega arith)
    | inr worse ↦ (let f = bad.1 in let g = worse.1 in same_fault f.before g.before f.piece g.piece text f.rest g.rest 0 a b f.lexes f.good f.stands f.fault g.lexes g.good g.stands g.fault)
  ]
]

pub one_answer : (text : List ℕ) (a b : Result Tokens LexError) → a ≢ Err Memory → b ≢ Err Memory → Lexed text a → Lexed text b → a ≡ b
one_answer text (Ok s) (Ok t) n m h g = ap (λ x. Ok x) (same_tokens s t (h.list ∙ ap (tokens_of 0) (same_pieces h.pieces g.pieces text h.lexes g.lexes) ∙ sym g.list) (h.end ∙ sym g.end))
one_answer text (Ok s) (Err b) n m h g = absurd (never_both text s b h (refusal text b (λ e. m (ap (λ x. Err x) e)) g))
one_answer text (Err a) (Ok t) n m h g = absurd (never_both text t a g (refusal text a (λ e. n (ap (λ x. Err x) e)) h))
one_answer text (Err a) (Err b) n m h g = ap (λ x. Err x) (one_refusal text a b (refusal text a (λ e. n (ap (λ x. Err x) e)) h) (refusal text b (λ e. m (ap (λ x. Err x) e)) g))

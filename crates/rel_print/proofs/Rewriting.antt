-- How parts of a reading are written, and read once more.
use Rattle.std.proofs.Common.{◌≡◌, ℕ, ℤ, ◌+◌, ◌≤◌, pos, List, [], ◌∷◌, ◌++◌, length, map, refl, sym, ap, ◌∙◌, subst, append_assoc, IsUtf8, arith}
use Rattle.std.proofs.lemmas.List.{map-append}
use Rattle.std.specs.List.{AllByRecursion}
use Rattle.rel_lexer.specs.declared.place.Place.{Place}
use Rattle.rel_lexer.specs.declared.sign.Sign.TheVariants as lex
use Rattle.rel_lexer.specs.declared.token.TokenKind.TheVariants as lexed
use Rattle.rel_lexer.specs.Bytes.{is_in_word, StopsAt}
use Rattle.rel_lexer.specs.Pieces.{Piece, Lexes}
use Rattle.rel_lexer.specs.Tokens.{IsGood}
use Rattle.rel_lexer.specs.Tokens as tokens
use Rattle.rel_grammar.specs.declared.vocabulary.Reserved.TheVariants as the
use Rattle.rel_print.specs.declared.pen.Last.{Last}
use Rattle.rel_print.specs.declared.pen.Last.TheVariants as last
use Rattle.rel_print.specs.declared.pen.Pen.{Pen}
use Rattle.rel_grammar.proofs.PlainWords.{IsPlainWord}
use Rattle.rel_grammar.specs.Shapes.{Kind, sign, reserved, not_of_is, word, number, string, word_spelling, reserved_spelling, Shaped, kind_of}
use Rattle.rel_grammar.specs.Spelling.{Mark, mark, shapes_of}
use Rattle.rel_grammar.specs.Sentences.{IsShallow, deepest}
use Rattle.rel_lexer.specs.Signs.{IsWhole, spelling}
use Rattle.std.specs.Fmt.{signed_decimal}
use Rattle.rel_print.specs.Pages.{gap, run_together, escaped}
use Rattle.std.proofs.Common.{Option, Some, None}

-- a token that needs no brackets before `whose` or `of`
pub data Alone : Type 0 where
  alone_number : ℤ → Alone
  alone_string : List ℕ → Alone
  alone_it : Alone

abbrev pub alone_kind : Alone → Kind
alone_kind (alone_number n) = number n
alone_kind (alone_string t) = string t
alone_kind alone_it = reserved the.It

-- tokens, and those of them that stay when brackets round such a token are left out
pub data Cut : Type 0 where
  none : Cut
  keep : Kind → Cut → Cut
  bared : Alone → Cut → Cut

abbrev pub full : Cut → List Kind
full none = []
full (keep k c) = k ∷ full c
full (bared a c) = sign lex.OpenBracket ∷ alone_kind a ∷ sign lex.CloseBracket ∷ full c

abbrev pub short : Cut → List Kind
short none = []
short (keep k c) = k ∷ short c
short (bared a c) = alone_kind a ∷ short c

abbrev pub join : Cut → Cut → Cut
join none d = d
join (keep k c) d = keep k (join c d)
join (bared a c) d = bared a (join c d)

pub full-join : (c d : Cut) → full (join c d) ≡ full c ++ full d
full-join none d = refl
full-join (keep k c) d = ap (λ l. k ∷ l) (full-join c d)
full-join (bared a c) d = ap (λ l. sign lex.OpenBracket ∷ alone_kind a ∷ sign lex.CloseBracket ∷ l) (full-join c d)

pub short-join : (c d : Cut) → short (join c d) ≡ short c ++ short d
short-join none d = refl
short-join (keep k c) d = ap (λ l. k ∷ l) (short-join c d)
short-join (bared a c) d = ap (λ l. alone_kind a ∷ l) (short-join c d)

-- a token by itself
abbrev pub untag : Kind → Kind
untag not_of_is = reserved the.Not
untag k = k

abbrev pub kinds : List Mark → List Kind
kinds = map (λ m. m.token.kind)

abbrev pub shape_kinds : List Shaped → List Kind
shape_kinds = map (λ t. t.kind)

-- a token that a text can have
abbrev pub IsGoodKind : Kind → Type 0
IsGoodKind (word w) = IsPlainWord (word_spelling w) × (kind_of (lexed.Word (word_spelling w)) ≡ word w)
IsGoodKind (number n) = (m : ℕ) × (n ≡ pos m) × (m ≤ 9223372036854775807)
IsGoodKind (string t) = IsUtf8 t
IsGoodKind _ = Unit {0}

abbrev pub AllGood : List Kind → Type 0
AllGood = AllByRecursion IsGoodKind

pub all-front : {X : Type 0} (P : X → Type 0) (a b : List X) → AllByRecursion P (a ++ b) → AllByRecursion P a
all-front P [] b h = tt
all-front P (x ∷ a) b h = (h.0, all-front P a b h.1)

pub all-back : {X : Type 0} (P : X → Type 0) (a b : List X) → AllByRecursion P (a ++ b) → AllByRecursion P b
all-back P [] b h = h
all-back P (x ∷ a) b h = all-back P a b h.1

pub all-both : {X : Type 0} (P : X → Type 0) (a b : List X) → AllByRecursion P a → AllByRecursion P b → AllByRecursion P (a ++ b)
all-both P [] b h k = k
all-both P (x ∷ a) b h k = (h.0, all-both P a b h.1 k)

-- what may follow what a text ends with
abbrev pub MayFollow : Last → List ℕ → Type 0
MayFollow last.Word rest = StopsAt is_in_word rest
MayFollow last.Number rest = StopsAt Rattle.std.specs.Char.is_ascii_digit rest
MayFollow (last.Sign s) rest = IsWhole s rest
MayFollow last.Other rest = Unit {0}

-- The text is these pieces, before whatever may follow.
abbrev pub Holds : Pen → List Piece → Type 0
Holds pen ps = (rest : List ℕ) → MayFollow pen.last rest → Lexes ps (pen.text ++ rest) rest

abbrev pub kind_list : Option Rattle.rel_lexer.specs.declared.token.TokenKind.TokenKind → List Kind
kind_list None = []
kind_list (Some k) = kind_of k ∷ []

-- the kinds of the tokens of pieces
abbrev pub piece_kinds : List Piece → List Kind
piece_kinds [] = []
piece_kinds (p ∷ ps) = kind_list (tokens.kind_of p) ++ piece_kinds ps

pub piece_kinds-append : (a b : List Piece) → piece_kinds (a ++ b) ≡ piece_kinds a ++ piece_kinds b
piece_kinds-append [] b = refl
piece_kinds-append (p ∷ a) b = ap (λ l. kind_list (tokens.kind_of p) ++ l) (piece_kinds-append a b) ∙ sym (append_assoc (kind_list (tokens.kind_of p)) (piece_kinds a) (piece_kinds b))

-- Pieces are written behind these.
pub record Adds (pen : Pen) (ps : List Piece) (raw : List Kind) : Type 0 where
  pub pieces : List Piece
  pub holds : Holds pen (ps ++ pieces)
  pub good : AllByRecursion IsGood pieces
  pub kinds_are : piece_kinds pieces ≡ raw

-- What is written are tokens of these kinds.
abbrev pub Spells : (Pen → Pen) → List Kind → Type 0
Spells write raw = (pen : Pen) (ps : List Piece) → Holds pen ps → Adds (write pen) ps raw

pub spells-seq : (v w : Pen → Pen) (a b : List Kind) → Spells v a → Spells w b → Spells (λ pen. w (v pen)) (a ++ b)
spells-seq v w a b s t = λ pen ps h.
    let x = s pen ps h in
    let y = t (v pen) (ps ++ x.pieces) x.holds in
    record {
      pieces = x.pieces ++ y.pieces;
      holds = subst (λ l. Holds (w (v pen)) l) (append_assoc ps x.pieces y.pieces) y.holds;
      good = all-both IsGood x.pieces y.pieces x.good y.good;
      kinds_are = piece_kinds-append x.pieces y.pieces ∙ ap (λ l. l ++ piece_kinds y.pieces) x.kinds_are ∙ ap (λ l. a ++ l) y.kinds_are;
    }

pub spells-same : (v w : Pen → Pen) (a b : List Kind) → ((pen : Pen) → v pen ≡ w pen) → a ≡ b → Spells v a → Spells w b
spells-same v w a b e h s = λ pen ps k. subst (λ l. Adds (w pen) ps l) h (subst (λ p. Adds p ps a) (e pen) (s pen ps k))

-- What a token ends a text with, and how many bytes it has.
abbrev pub class : Kind → Last
class (word w) = last.Word
class (reserved r) = last.Word
class not_of_is = last.Word
class (number n) = last.Number
class (string t) = last.Other
class (sign s) = last.Sign s

abbrev pub size : Kind → ℕ
size (word w) = length (word_spelling w)
size (reserved r) = length (reserved_spelling r)
size not_of_is = 3
size (number n) = length (signed_decimal n)
size (string t) = length (34 ∷ (escaped t ++ 34 ∷ []))
size (sign s) = length (spelling s)

-- how many bytes tokens have behind what a text ends with, the needed blanks included, and what it then ends with
abbrev pub cost : Last → List Kind → ℕ
cost l [] = 0
cost l (k ∷ ks) = (length (gap (run_together l (class k))) + size k) + cost (class k) ks

abbrev pub end : Last → List Kind → Last
end l [] = l
end l (k ∷ ks) = end (class k) ks

pub end-append : (l : Last) (a b : List Kind) → end l (a ++ b) ≡ end (end l a) b
end-append l [] b = refl
end-append l (k ∷ a) b = end-append (class k) a b

pub cost-append : (l : Last) (a b : List Kind) → cost l (a ++ b) ≡ cost l a + cost (end l a) b
cost-append l [] b = omega arith
cost-append l (k ∷ a) b = omega (arith, cost-append (class k) a b)

-- So many bytes are written.
abbrev pub Costs : (Pen → Pen) → List Kind → Type 0
Costs write raw = (pen : Pen) → ((write pen).last ≡ end pen.last raw) × (length (write pen).text ≡ length pen.text + cost pen.last raw)

pub costs-seq : (v w : Pen → Pen) (a b : List Kind) → Costs v a → Costs w b → Costs (λ pen. w (v pen)) (a ++ b)
costs-seq v w a b s t = λ pen.
    let x = s pen in
    let y = t (v pen) in
    let last_cost : cost (v pen).last b ≡ cost (end pen.last a) b = ap (λ l. cost l b) x.0 in
    (y.0 ∙ ap (λ l. end l b) x.0 ∙ sym (end-append pen.last a b), omega (arith, x.1, y.1, last_cost, cost-append pen.last a b))

pub costs-same : (v w : Pen → Pen) (a b : List Kind) → ((pen : Pen) → v pen ≡ w pen) → a ≡ b → Costs v a → Costs w b
costs-same v w a b e h c = λ pen. subst (λ l. ((w pen).last ≡ end pen.last l) × (length (w pen).text ≡ length pen.text + cost pen.last l)) h (subst (λ (p : Pen). (p.last ≡ end pen.last a) × (length p.text ≡ length pen.text + cost pen.last a)) (e pen) (c pen))

-- A reading with these tokens that is as good.
pub record Back {Y : Type 0} (marks : ℕ → Y → List Mark) (same : Y → Type 0) (old : ℕ → List Mark) (ts : List Shaped) : Type 0 where
  pub y : Y
  pub is : (d : ℕ) → shapes_of (marks d y) ≡ ts
  pub alike : same y
  pub shallow : (d : ℕ) → IsShallow (old d) → IsShallow (marks d y)

-- A part of a reading that is written so: which tokens stay, how they are spelled, and that they read as a part as good.
pub record Redone {Y : Type 0} (marks : ℕ → Y → List Mark) (same : Y → Type 0) (old : ℕ → List Mark) (write : Pen → Pen) : Type 0 where
  pub cut : Cut
  pub whole : (d : ℕ) → full cut ≡ kinds (old d)
  pub spells : AllGood (short cut) → Spells write (map untag (short cut))
  pub costs : Costs write (map untag (short cut))
  pub back : (ts : List Shaped) → shape_kinds ts ≡ short cut → Back marks same old ts

-- tokens whose kinds are two lists
record Splits (ts : List Shaped) (a b : List Kind) : Type 0 where
  pub front : List Shaped
  pub rest : List Shaped
  pub is : ts ≡ front ++ rest
  pub front_kinds : shape_kinds front ≡ a
  pub rest_kinds : shape_kinds rest ≡ b

tail_same : (k l : Kind) (a b : List Kind) → k ∷ a ≡ l ∷ b → a ≡ b
tail_same k l a b e = cc

head_same : (k l : Kind) (a b : List Kind) → k ∷ a ≡ l ∷ b → k ≡ l
head_same k l a b e = cc

split : (ts : List Shaped) (a b : List Kind) → shape_kinds ts ≡ a ++ b → Splits ts a b
split ts [] b e = record { front = []; rest = ts; is = refl; front_kinds = refl; rest_kinds = e }
split [] (k ∷ a) b e = cc
split (t ∷ ts) (k ∷ a) b e =
    let s = split ts a b (tail_same _ _ _ _ e) in
    record {
      front = t ∷ s.front;
      rest = s.rest;
      is = ap (λ l. t ∷ l) s.is;
      front_kinds = ap (λ l. t.kind ∷ l) s.front_kinds ∙ ap (λ h. h ∷ a) (head_same _ _ _ _ e);
      rest_kinds = s.rest_kinds;
    }

-- two parts, one after the other
pub seq : {Y Z : Type 0} {ym : ℕ → Y → List Mark} {zm : ℕ → Z → List Mark} {ys : Y → Type 0} {zs : Z → Type 0} {m n : ℕ → List Mark} {v w : Pen → Pen}
    → Redone ym ys m v → Redone zm zs n w
    → Redone {Y = Y × Z} (λ d p. ym d p.0 ++ zm d p.1) (λ p. ys p.0 × zs p.1) (λ d. m d ++ n d) (λ pen. w (v pen))
seq {Y} {Z} {ym} {zm} {ys} {zs} {m} {n} {v} {w} r s = record {
  cut = join r.cut s.cut;
  whole = λ d. full-join r.cut s.cut ∙ ap (λ l. l ++ full s.cut) (r.whole d) ∙ ap (λ l. kinds (m d) ++ l) (s.whole d) ∙ sym (map-append (λ (x : Mark). x.token.kind) (m d) (n d));
  spells = λ g.
      let h : AllGood (short r.cut ++ short s.cut) = subst AllGood (short-join r.cut s.cut) g in
      spells-same (λ pen. w (v pen)) (λ pen. w (v pen)) (map untag (short r.cut) ++ map untag (short s.cut)) (map untag (short (join r.cut s.cut))) (λ pen. refl)
      (sym (map-append untag (short r.cut) (short s.cut)) ∙ ap (map untag) (sym (short-join r.cut s.cut)))
      (spells-seq v w (map untag (short r.cut)) (map untag (short s.cut)) (r.spells (all-front IsGoodKind (short r.cut) (short s.cut) h)) (s.spells (all-back IsGoodKind (short r.cut) (short s.cut) h)));
  costs = costs-same (λ pen. w (v pen)) (λ pen. w (v pen)) (map untag (short r.cut) ++ map untag (short s.cut)) (map untag (short (join r.cut s.cut))) (λ pen. refl)
      (sym (map-append untag (short r.cut) (short s.cut)) ∙ ap (map untag) (sym (short-join r.cut s.cut)))
      (costs-seq v w (map untag (short r.cut)) (map untag (short s.cut)) r.costs s.costs);
  back = λ ts e.
      let p = split ts (short r.cut) (short s.cut) (e ∙ short-join r.cut s.cut) in
      let a = r.back p.front p.front_kinds in
      let b = s.back p.rest p.rest_kinds in
      record {
        y = (a.y, b.y);
        is = λ d. map-append (λ (x : Mark). x.token) (ym d a.y) (zm d b.y) ∙ ap (λ l. l ++ shapes_of (zm d b.y)) (a.is d) ∙ ap (λ l. p.front ++ l) (b.is d) ∙ sym p.is;
        alike = (a.alike, b.alike);
        shallow = λ d h. all-both (λ x. x.depth ≤ deepest) (ym d a.y) (zm d b.y) (a.shallow d (all-front (λ x. x.depth ≤ deepest) (m d) (n d) h)) (b.shallow d (all-back (λ x. x.depth ≤ deepest) (m d) (n d) h));
      };
}

-- a part of another kind, of the same tokens
pub remade : {Y Z : Type 0} {ym : ℕ → Y → List Mark} {zm : ℕ → Z → List Mark} {ys : Y → Type 0} {zs : Z → Type 0} {m : ℕ → List Mark} {w : Pen → Pen}
    → (f : Y → Z) → ((d : ℕ) (y : Y) → zm d (f y) ≡ ym d y) → ((y : Y) → ys y → zs (f y)) → Redone ym ys m w → Redone zm zs m w
remade {Y} {Z} {ym} {zm} {ys} {zs} {m} {w} f e g r = record {
  cut = r.cut;
  whole = r.whole;
  spells = r.spells;
  costs = r.costs;
  back = λ ts h.
      let b = r.back ts h in
      record {
        y = f b.y;
        is = λ d. ap shapes_of (e d b.y) ∙ b.is d;
        alike = g b.y b.alike;
        shallow = λ d k. subst IsShallow (sym (e d b.y)) (b.shallow d k);
      };
}

-- deeper by one
pub deeper : {Y : Type 0} {ym : ℕ → Y → List Mark} {ys : Y → Type 0} {m : ℕ → List Mark} {w : Pen → Pen}
    → Redone ym ys m w → Redone (λ d y. ym (d + 1) y) ys (λ d. m (d + 1)) w
deeper {Y} {ym} {ys} {m} {w} r = record {
  cut = r.cut;
  whole = λ d. r.whole (d + 1);
  spells = r.spells;
  costs = r.costs;
  back = λ ts h.
      let b = r.back ts h in
      record { y = b.y; is = λ d. b.is (d + 1); alike = b.alike; shallow = λ d k. b.shallow (d + 1) k };
}

-- what is written comes to the same
pub rewritten : {Y : Type 0} {ym : ℕ → Y → List Mark} {ys : Y → Type 0} {m : ℕ → List Mark} {v w : Pen → Pen}
    → ((pen : Pen) → v pen ≡ w pen) → Redone ym ys m v → Redone ym ys m w
rewritten {Y} {ym} {ys} {m} {v} {w} e r = record {
  cut = r.cut;
  whole = r.whole;
  spells = λ g. spells-same v w (map untag (short r.cut)) (map untag (short r.cut)) e refl (r.spells g);
  costs = costs-same v w (map untag (short r.cut)) (map untag (short r.cut)) e refl r.costs;
  back = r.back;
}

pub one_token : (k : Kind) (ts : List Shaped) → shape_kinds ts ≡ k ∷ [] → (p : Place) × (record { kind = k; place = p } ∷ [] ≡ ts)
one_token k [] e = cc
one_token k (t ∷ []) e = (t.place, ap (λ (x : Kind). record { kind = x; place = t.place } ∷ []) (sym (head_same _ _ _ _ e)))
one_token k (t ∷ u ∷ ts) e = absurd (more_tokens (t.kind) k (u.kind) (shape_kinds ts) e)
  where
    more_tokens : (a k b : Kind) (l : List Kind) → a ∷ b ∷ l ≡ k ∷ [] → ⊥
    more_tokens a k b l h = cc

-- one token
pub tok : (k : Kind) (p : Place) (w : Pen → Pen) → (IsGoodKind k → Spells w (untag k ∷ [])) → Costs w (untag k ∷ []) → Redone {Y = Place} (λ d q. mark d k q ∷ []) (λ q. Unit {0}) (λ d. mark d k p ∷ []) w
tok k p w s c = record {
  cut = keep k none;
  whole = λ d. refl;
  spells = λ g. s g.0;
  costs = c;
  back = λ ts e.
      let t = one_token k ts e in
      record { y = t.0; is = λ d. t.1; alike = tt; shallow = λ d h. h };
}

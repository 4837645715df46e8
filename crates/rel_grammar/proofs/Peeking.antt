-- The shapes of the next tokens.
use Rattle.std.proofs.Common.{◌≡◌, ℕ, List, [], ◌∷◌, length, Bool, true, false, arith, refl, sym, ◌∙◌, ap, subst}
use Rattle.rel_lexer.specs.declared.token.Token.{Token}
use Rattle.rel_grammar.specs.declared.vocabulary.Reserved.TheVariants as the
use Rattle.rel_grammar.specs.declared.vocabulary.Fixed.{Fixed}
use Rattle.rel_grammar.specs.declared.vocabulary.Fixed.TheVariants as fixed
use Rattle.rel_grammar.specs.Shapes.{Kind, reserved, not_of_is, kind_of, kind_after, is_is, shaped_after, all_shaped}
use Rattle.rel_grammar.specs.Answers.{place_of}
use Rattle.rel_grammar.specs.Reads.{Begins, Lacks, fixed_kind, shaped_at}
use Rattle.rel_grammar.proofs.WordShapes.{never_by_itself}

-- a token told to be this one, and what follows it
pub begins_fixed : (behind : Bool) (ts : List Token) (t : Token) (left : List Token) (f : Fixed) → ts ≡ t ∷ left → kind_of t.kind ≡ fixed_kind f → Begins (kind_after behind (fixed_kind f)) (shaped_after behind ts) t.place (shaped_after (is_is (fixed_kind f)) left)
begins_fixed behind ts t left f e k = ap (shaped_after behind) e ∙ ap (λ x. shaped_at (kind_after behind x) t.place ∷ shaped_after (is_is x) left) k

-- a kind told by itself is told after `is` too
abbrev un_after : Kind → Kind
un_after not_of_is = reserved the.Not
un_after k = k

undone : (behind : Bool) (k : Kind) → (k ≡ not_of_is → ⊥) → un_after (kind_after behind k) ≡ k
undone false not_of_is h = absurd (h refl)
undone false _ h = refl
undone true (reserved the.Not) h = refl
undone true not_of_is h = absurd (h refl)
undone true _ h = refl

never_fixed : (f : Fixed) → fixed_kind f ≡ not_of_is → ⊥
never_fixed (fixed.Sign s) e = let no : ⊥ = cc in no
never_fixed (fixed.Reserved s) e = let no : ⊥ = cc in no
never_fixed (fixed.Helper s) e = let no : ⊥ = cc in no

-- a token told not to be this one
pub lacks_fixed : (behind : Bool) (ts : List Token) (t : Token) (left : List Token) (f : Fixed) → ts ≡ t ∷ left → (kind_of t.kind ≡ fixed_kind f → ⊥) → Lacks (kind_after behind (fixed_kind f)) (shaped_after behind ts)
lacks_fixed behind ts t left f e h = subst (λ l. Lacks (kind_after behind (fixed_kind f)) (shaped_after behind l)) (sym e) (λ i. h (sym (undone behind (kind_of t.kind) (never_by_itself t.kind)) ∙ ap un_after i ∙ undone behind (fixed_kind f) (never_fixed f)))

pub lacks_none : (behind : Bool) (ts : List Token) (k : Kind) → length ts ≡ 0 → Lacks k (shaped_after behind ts)
lacks_none behind [] k h = tt
lacks_none behind (t ∷ ts) k h = absurd (omega arith)

pub lacks_kind : (ts : List Token) (t : Token) (left : List Token) (k : Kind) → ts ≡ t ∷ left → (kind_of t.kind ≡ k → ⊥) → Lacks k (all_shaped ts)
lacks_kind ts t left k e h = subst (λ l. Lacks k (all_shaped l)) (sym e) h

pub place_none : (behind : Bool) (end : ℕ) (ts : List Token) → length ts ≡ 0 → record { from = end; to = end } ≡ place_of end (shaped_after behind ts)
place_none behind end [] h = refl
place_none behind end (t ∷ ts) h = absurd (omega arith)

pub place_first : (behind : Bool) (end : ℕ) (ts : List Token) (t : Token) (left : List Token) → ts ≡ t ∷ left → t.place ≡ place_of end (shaped_after behind ts)
place_first behind end ts t left e = ap (λ l. place_of end (shaped_after behind l)) (sym e)

pub length-shaped : (behind : Bool) (ts : List Token) → length (shaped_after behind ts) ≡ length ts
length-shaped behind [] = refl
length-shaped behind (t ∷ ts) = let h : length (shaped_after (is_is (kind_of t.kind)) ts) ≡ length ts = length-shaped (is_is (kind_of t.kind)) ts in omega arith

-- after `is`, tokens that begin with no `not` are told as elsewhere
untold_at : (k : Kind) → (kind_after true k ≡ not_of_is → ⊥) → kind_after true k ≡ kind_after false k
untold_at (reserved the.Not) h = absurd (h refl)
untold_at _ h = refl

pub untold : (ts : List Token) → Lacks not_of_is (shaped_after true ts) → shaped_after true ts ≡ shaped_after false ts
untold [] h = refl
untold (t ∷ ts) h = ap (λ k. shaped_at k t.place ∷ shaped_after (is_is (kind_of t.kind)) ts) (untold_at (kind_of t.kind) h)

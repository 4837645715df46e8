-- The words that the grammar knows, and the shapes that they give. Other crates may cite these lemmas.
use Rattle.std.proofs.Common.{◌≡◌, ℕ, List, [], ◌∷◌, Bool, true, false, ◌||◌, cond, refl, sym, ◌∙◌, ap, subst}
use Rattle.std.specs.Bool.{Decides}
use Rattle.std.specs.List.{list_any}
use Rattle.std.specs.Str.{bytes_eq}
use Rattle.std.proofs.lemmas.Slice.Eq.{bytes_eq-Decides}
use Rattle.rel_grammar.specs.declared.vocabulary.Reserved.{Reserved}
use Rattle.rel_grammar.specs.declared.vocabulary.Reserved.TheVariants.{Of, Whose, It, As, If, Then, Else, And, Or, Not, Exists, Exist, Mod, Is, Contains, Contained, Starts, Ends, Does}
use Rattle.rel_grammar.specs.declared.vocabulary.Helper.{Helper}
use Rattle.rel_grammar.specs.declared.vocabulary.Helper.TheVariants.{By, With, Contain, Start, End}
use Rattle.rel_lexer.specs.declared.token.TokenKind.{TokenKind}
use Rattle.rel_lexer.specs.declared.token.TokenKind.TheVariants as lexed
use Rattle.rel_grammar.specs.Shapes.{Kind, reserved, not_of_is, word, AnyWord, helper, word_spelling, reserved_spelling, helper_spelling, all_reserved, all_helpers, reserved_of, helper_of, kind_of}
use Rattle.rel_grammar.specs.Reads.{IsWord, IsNoWord}

-- each known word has its own shape
pub reserved_found : (r : Reserved) → reserved_of (reserved_spelling r) all_reserved ≡ reserved r
reserved_found Of = refl
reserved_found Whose = refl
reserved_found It = refl
reserved_found As = refl
reserved_found If = refl
reserved_found Then = refl
reserved_found Else = refl
reserved_found And = refl
reserved_found Or = refl
reserved_found Not = refl
reserved_found Exists = refl
reserved_found Exist = refl
reserved_found Mod = refl
reserved_found Is = refl
reserved_found Contains = refl
reserved_found Contained = refl
reserved_found Starts = refl
reserved_found Ends = refl
reserved_found Does = refl

pub helper_found : (h : Helper) → reserved_of (helper_spelling h) all_reserved ≡ word (helper h)
helper_found By = refl
helper_found With = refl
helper_found Contain = refl
helper_found Start = refl
helper_found End = refl

same : (w v : List ℕ) (b : Bool) → bytes_eq w v ≡ b → b ≡ true → w ≡ v
same w v b e h = (bytes_eq-Decides w v).0 (e ∙ h)

-- a shape tells the word
helper_tells_at : (w : List ℕ) (h : Helper) (x : AnyWord) (b : Bool) → bytes_eq w (helper_spelling h) ≡ b → word_spelling x ≡ w → word_spelling (cond b (helper h) x) ≡ w
helper_tells_at w h x true e k = sym (same w (helper_spelling h) true e refl)
helper_tells_at w h x false e k = k

pub helper_tells : (w : List ℕ) (hs : List Helper) → word_spelling (helper_of w hs) ≡ w
helper_tells w [] = refl
helper_tells w (h ∷ hs) = helper_tells_at w h (helper_of w hs) (bytes_eq w (helper_spelling h)) refl (helper_tells w hs)

same_reserved : (x r : Reserved) → reserved x ≡ reserved r → x ≡ r
same_reserved x r e = cc

same_word : (x a : AnyWord) → word x ≡ word a → x ≡ a
same_word x a e = cc

reserved_tells_at : (w : List ℕ) (x r : Reserved) (k : Kind) (b : Bool) → bytes_eq w (reserved_spelling x) ≡ b → (k ≡ reserved r → w ≡ reserved_spelling r) → cond b (reserved x) k ≡ reserved r → w ≡ reserved_spelling r
reserved_tells_at w x r k true e h i = same w (reserved_spelling x) true e refl ∙ ap reserved_spelling (same_reserved x r i)
reserved_tells_at w x r k false e h i = h i

pub reserved_tells : (w : List ℕ) (rs : List Reserved) (r : Reserved) → reserved_of w rs ≡ reserved r → w ≡ reserved_spelling r
reserved_tells w [] r i = cc
reserved_tells w (x ∷ xs) r i = reserved_tells_at w x r (reserved_of w xs) (bytes_eq w (reserved_spelling x)) refl (reserved_tells w xs r) i

word_tells_at : (w : List ℕ) (x : Reserved) (a : AnyWord) (k : Kind) (b : Bool) → (k ≡ word a → w ≡ word_spelling a) → cond b (reserved x) k ≡ word a → w ≡ word_spelling a
word_tells_at w x a k true h i = cc
word_tells_at w x a k false h i = h i

pub word_tells : (w : List ℕ) (rs : List Reserved) (a : AnyWord) → reserved_of w rs ≡ word a → w ≡ word_spelling a
word_tells w [] a i = sym (helper_tells w all_helpers) ∙ ap word_spelling (same_word (helper_of w all_helpers) a i)
word_tells w (x ∷ xs) a i = word_tells_at w x a (reserved_of w xs) (bytes_eq w (reserved_spelling x)) (word_tells w xs a) i

-- a word is the reserved word or the helper that is spelled so
pub reserved_decides : (w : List ℕ) (r : Reserved) → Decides (bytes_eq w (reserved_spelling r)) (reserved_of w all_reserved ≡ reserved r)
reserved_decides w r = (
  (λ e. ap (λ v. reserved_of v all_reserved) ((bytes_eq-Decides w (reserved_spelling r)).0 e) ∙ reserved_found r),
  (λ e. (bytes_eq-Decides w (reserved_spelling r)).1 (reserved_tells w all_reserved r e)),
)

pub helper_decides : (w : List ℕ) (h : Helper) → Decides (bytes_eq w (helper_spelling h)) (reserved_of w all_reserved ≡ word (helper h))
helper_decides w h = (
  (λ e. ap (λ v. reserved_of v all_reserved) ((bytes_eq-Decides w (helper_spelling h)).0 e) ∙ helper_found h),
  (λ e. (bytes_eq-Decides w (helper_spelling h)).1 (word_tells w all_reserved (helper h) e)),
)

-- a word that is no reserved word may stand in a name, and no other may
abbrev pub spelled : List ℕ → Reserved → Bool
spelled w r = bytes_eq w (reserved_spelling r)

free_at : (w : List ℕ) (x : Reserved) (k : Kind) (b c : Bool) → (c ≡ false → k ≡ word (helper_of w all_helpers)) → (b || c) ≡ false → cond b (reserved x) k ≡ word (helper_of w all_helpers)
free_at w x k true c h e = cc
free_at w x k false c h e = h e

pub free : (w : List ℕ) (rs : List Reserved) → list_any (spelled w) rs ≡ false → reserved_of w rs ≡ word (helper_of w all_helpers)
free w [] e = refl
free w (x ∷ xs) e = free_at w x (reserved_of w xs) (spelled w x) (list_any (spelled w) xs) (free w xs) e

taken_at : (w : List ℕ) (x : Reserved) (a : AnyWord) (k : Kind) (b c : Bool) → (c ≡ true → k ≡ word a → ⊥) → (b || c) ≡ true → cond b (reserved x) k ≡ word a → ⊥
taken_at w x a k true c h e i = let never : ⊥ = cc in never
taken_at w x a k false c h e i = h e i

pub taken : (w : List ℕ) (rs : List Reserved) → list_any (spelled w) rs ≡ true → (a : AnyWord) → reserved_of w rs ≡ word a → ⊥
taken w [] e a i = let never : ⊥ = cc in never
taken w (x ∷ xs) e a i = taken_at w x a (reserved_of w xs) (spelled w x) (list_any (spelled w) xs) (λ h j. taken w xs h a j) e i

pub is_free : (w : List ℕ) → list_any (spelled w) all_reserved ≡ false → IsWord (reserved_of w all_reserved) w
is_free w e = (helper_of w all_helpers, free w all_reserved e, sym (helper_tells w all_helpers))

-- no token by itself has the shape of a `not` after `is`
never_at : (w : List ℕ) (x : Reserved) (k : Kind) (b : Bool) → (k ≡ not_of_is → ⊥) → cond b (reserved x) k ≡ not_of_is → ⊥
never_at w x k true h i = let never : ⊥ = cc in never
never_at w x k false h i = h i

never : (w : List ℕ) (rs : List Reserved) → reserved_of w rs ≡ not_of_is → ⊥
never w [] i = let no : ⊥ = cc in no
never w (x ∷ xs) i = never_at w x (reserved_of w xs) (bytes_eq w (reserved_spelling x)) (never w xs) i

pub never_by_itself : (k : TokenKind) → kind_of k ≡ not_of_is → ⊥
never_by_itself (lexed.Word w) i = never w all_reserved i
never_by_itself (lexed.Text t) i = let no : ⊥ = cc in no
never_by_itself (lexed.Number n) i = let no : ⊥ = cc in no
never_by_itself (lexed.Sign s) i = let no : ⊥ = cc in no

-- the same from what the code compared
pub reserved_test : (w v : List ℕ) (r : Reserved) (b : Bool) → b ≡ bytes_eq w v → v ≡ reserved_spelling r → Decides b (reserved_of w all_reserved ≡ reserved r)
reserved_test w v r b d e = subst (λ x. Decides x (reserved_of w all_reserved ≡ reserved r)) (sym (d ∙ ap (bytes_eq w) e)) (reserved_decides w r)

pub helper_test : (w v : List ℕ) (r : Helper) (b : Bool) → b ≡ bytes_eq w v → v ≡ helper_spelling r → Decides b (reserved_of w all_reserved ≡ word (helper r))
helper_test w v r b d e = subst (λ x. Decides x (reserved_of w all_reserved ≡ word (helper r))) (sym (d ∙ ap (bytes_eq w) e)) (helper_decides w r)

pub free_kind : (k : TokenKind) (w : List ℕ) (b : Bool) → k ≡ lexed.Word w → b ≡ list_any (spelled w) all_reserved → b ≡ false → IsWord (kind_of k) w
free_kind k w b e t h = subst (λ x. IsWord (kind_of x) w) (sym e) (is_free w (sym t ∙ h))

pub taken_kind : (k : TokenKind) (w : List ℕ) (b : Bool) → k ≡ lexed.Word w → b ≡ list_any (spelled w) all_reserved → b ≡ true → IsNoWord (kind_of k)
taken_kind k w b e t h = λ a i. taken w all_reserved (sym t ∙ h) a (ap kind_of (sym e) ∙ i)

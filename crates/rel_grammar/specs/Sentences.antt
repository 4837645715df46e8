-- Sentences, what begins them, how deep their tokens stand, and where tokens cease to be a sentence.
use Rattle.std.specs.Prelude.{◌≡◌, ℕ, ◌≤◌, ◌<◌, List, [], ◌∷◌, ◌++◌}
use Rattle.std.specs.List.{AllByRecursion}
use Rattle.rel_grammar.specs.Shapes.{Shaped}
use Rattle.rel_grammar.specs.Grammar.{Question}
use Rattle.rel_grammar.specs.Spelling.{Mark, collection_marks, shapes_of}

-- the depth above which no token of a question may stand
abbrev pub deepest : ℕ
deepest = 64

-- each token of the question with its depth
abbrev pub question_marks : Question → List Mark
question_marks = collection_marks 0

-- The tokens are those of this reading.
abbrev pub Sentence : List Shaped → Question → Type 0
Sentence ts q = ts ≡ shapes_of (question_marks q)

-- With some tokens after them, these make a sentence.
abbrev pub Begins : List Shaped → Type 0
Begins ts = (q : Question) × (more : List Shaped) × Sentence (ts ++ more) q

-- Some sentence begins with these tokens, which stand so deep in it.
abbrev pub BeginsAt : List Mark → Type 0
BeginsAt ms = (q : Question) × (more : List Mark) × (question_marks q ≡ ms ++ more)

abbrev pub IsShallow : List Mark → Type 0
IsShallow = AllByRecursion (λ m. m.depth ≤ deepest)

-- Nothing is left, and the tokens are no sentence; or with the first that is left they begin none.
abbrev pub EndsThere : List Shaped → List Shaped → Type 0
EndsThere before [] = (q : Question) → Sentence before q → ⊥
EndsThere before (t ∷ more) = Begins (before ++ (t ∷ [])) → ⊥

-- The tokens are those before, and those that are left from the first one on with which the tokens so far begin no sentence; or
-- none is left, and all of them begin a sentence and are none. None before is too deep.
pub record IsUnparsed (ts left : List Shaped) : Type 0 where
  pub before : List Mark
  pub splits : ts ≡ shapes_of before ++ left
  pub begins : BeginsAt before
  pub shallow : IsShallow before
  pub ends : EndsThere (shapes_of before) left

-- The tokens are those before, and those that are left from the first one on that is too deep; with it the tokens so far begin a
-- sentence.
pub record IsTooDeep (ts left : List Shaped) : Type 0 where
  pub before : List Mark
  pub first : Mark
  pub more : List Shaped
  pub splits : ts ≡ shapes_of before ++ left
  pub left_is : left ≡ first.token ∷ more
  pub begins : BeginsAt (before ++ (first ∷ []))
  pub shallow : IsShallow before
  pub deep : deepest < first.depth

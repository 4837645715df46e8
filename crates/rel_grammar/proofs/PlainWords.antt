-- The known words are words in lower case; and what a token is behind the word `is`. Other crates may cite these lemmas.
use Rattle.std.proofs.Common.{◌≡◌, ◌⊎◌, inl, inr, ℕ, Bool, true, List, [], ◌∷◌, map, refl}
use Rattle.std.specs.Char.{to_ascii_lowercase}
use Rattle.rel_lexer.specs.Bytes.{begins_word, is_in_word}
use Rattle.rel_lexer.specs.Pieces.{Each}
use Rattle.rel_grammar.specs.declared.vocabulary.Reserved.{Reserved}
use Rattle.rel_grammar.specs.declared.vocabulary.Reserved.TheVariants as the
use Rattle.rel_grammar.specs.declared.vocabulary.Helper.{Helper}
use Rattle.rel_grammar.specs.declared.vocabulary.Helper.TheVariants as aid
use Rattle.rel_grammar.specs.Shapes.{Kind, reserved, not_of_is, reserved_spelling, helper_spelling, kind_after}

-- a word in lower case
abbrev pub IsPlainWord : List ℕ → Type 0
IsPlainWord [] = ⊥
IsPlainWord (b ∷ bs) = (begins_word b ≡ true) × Each is_in_word bs × (map to_ascii_lowercase (b ∷ bs) ≡ b ∷ bs)

pub plain_reserved : (r : Reserved) → IsPlainWord (reserved_spelling r)
plain_reserved the.Of = (refl, (refl, tt), refl)
plain_reserved the.Whose = (refl, (refl, (refl, (refl, (refl, tt)))), refl)
plain_reserved the.It = (refl, (refl, tt), refl)
plain_reserved the.As = (refl, (refl, tt), refl)
plain_reserved the.If = (refl, (refl, tt), refl)
plain_reserved the.Then = (refl, (refl, (refl, (refl, tt))), refl)
plain_reserved the.Else = (refl, (refl, (refl, (refl, tt))), refl)
plain_reserved the.And = (refl, (refl, (refl, tt)), refl)
plain_reserved the.Or = (refl, (refl, tt), refl)
plain_reserved the.Not = (refl, (refl, (refl, tt)), refl)
plain_reserved the.Exists = (refl, (refl, (refl, (refl, (refl, (refl, tt))))), refl)
plain_reserved the.Exist = (refl, (refl, (refl, (refl, (refl, tt)))), refl)
plain_reserved the.Mod = (refl, (refl, (refl, tt)), refl)
plain_reserved the.Is = (refl, (refl, tt), refl)
plain_reserved the.Contains = (refl, (refl, (refl, (refl, (refl, (refl, (refl, (refl, tt))))))), refl)
plain_reserved the.Contained = (refl, (refl, (refl, (refl, (refl, (refl, (refl, (refl, (refl, tt)))))))), refl)
plain_reserved the.Starts = (refl, (refl, (refl, (refl, (refl, (refl, tt))))), refl)
plain_reserved the.Ends = (refl, (refl, (refl, (refl, tt))), refl)
plain_reserved the.Does = (refl, (refl, (refl, (refl, tt))), refl)

pub plain_helper : (h : Helper) → IsPlainWord (helper_spelling h)
plain_helper aid.By = (refl, (refl, tt), refl)
plain_helper aid.With = (refl, (refl, (refl, (refl, tt))), refl)
plain_helper aid.Contain = (refl, (refl, (refl, (refl, (refl, (refl, (refl, tt)))))), refl)
plain_helper aid.Start = (refl, (refl, (refl, (refl, (refl, tt)))), refl)
plain_helper aid.End = (refl, (refl, (refl, tt)), refl)

-- A token behind another is the same, or it is a `not`.
pub after_cases : (b : Bool) (k : Kind) → (kind_after b k ≡ k) ⊎ ((kind_after b k ≡ not_of_is) × (k ≡ reserved the.Not))
after_cases true (reserved the.Not) = inr (refl, refl)
after_cases _ k = inl refl

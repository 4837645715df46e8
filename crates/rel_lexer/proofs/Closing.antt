-- The first `*/` of some bytes, one byte after another.
use Rattle.std.proofs.Common.{◌≡◌, ℕ, List, [], ◌∷◌, ◌++◌, Option, Some, None, MatchOption, ◌+◌, length, refl, ap, sym, ◌∙◌, append_assoc, arith}
use Rattle.std.proofs.lemmas.List.{append-nil}
use Rattle.rel_lexer.specs.Bytes.{NotNext, HasNoClose}
use Rattle.rel_lexer.specs.declared.place.Place.{Place}
use Rattle.rel_lexer.specs.declared.error.LexError.TheVariants.{UnclosedComment}
use Rattle.rel_lexer.specs.Pieces.{comment, open_comment}
use Rattle.rel_lexer.specs.Reads.{LeavesAfterClose, Takes, Faults}

-- what is left after the first `*/`, if there is one
abbrev pub ClosesTo : List ℕ → Option (List ℕ) → Type 0
ClosesTo bytes answer = MatchOption answer (HasNoClose bytes) (λ rest. LeavesAfterClose bytes rest)

front_of : (body rest : List ℕ) → NotNext 47 (body ++ 42 ∷ 47 ∷ rest) → NotNext 47 body
front_of [] rest h = tt
front_of (b ∷ body) rest h = h

pub later : (b : ℕ) (bs : List ℕ) → (b ≡ 42 → NotNext 47 bs) → (answer : Option (List ℕ)) → ClosesTo bs answer → ClosesTo (b ∷ bs) answer
later b bs n None h = (n, h)
later b bs n (Some rest) h = record {
  body = b ∷ h.body;
  splits = ap (λ l. b ∷ l) h.splits;
  first = (λ e. let k : NotNext 47 bs = n e in front_of h.body rest (rw h.splits at k), h.first);
}

pub here : (rest : List ℕ) (b : ℕ) (more left : List ℕ) → rest ≡ b ∷ more → b ≡ 42 → more ≡ 47 ∷ left → ClosesTo rest (Some left)
here rest b more left e i j = record { body = []; splits = e ∙ ap (λ x. x ∷ more) i ∙ ap (λ l. 42 ∷ l) j; first = tt }

pub nowhere : (rest : List ℕ) → length rest ≡ 0 → ClosesTo rest None
nowhere [] e = tt
nowhere (b ∷ bs) e = absurd (omega arith)

pub takes_comment : (bytes rest : List ℕ) → LeavesAfterClose bytes rest → Takes (47 ∷ 42 ∷ bytes) None rest
takes_comment bytes rest h = record { piece = comment h.body; splits = ap (λ l. 47 ∷ 42 ∷ l) (h.splits ∙ sym (append_assoc h.body (42 ∷ 47 ∷ []) rest)); stands = h.first; good = tt; kind_is = refl }

pub open_comment_fault : (at : ℕ) (bytes : List ℕ) (place : Place) → HasNoClose bytes → place ≡ record { from = at; to = at + (2 + length bytes) } → Faults at (47 ∷ 42 ∷ bytes) (UnclosedComment place)
open_comment_fault at bytes place h p = record { piece = open_comment bytes; rest = []; splits = ap (λ l. 47 ∷ 42 ∷ l) (sym (append-nil bytes)); stands = (h, refl); fault = ap (λ x. UnclosedComment x) (p ∙ ap (λ n. record { from = at; to = at + n }) (omega arith)) }

-- The fields of a line, and the line that they spell. Other crates may cite these lemmas.
use Rattle.std.proofs.Common.{ℕ, ◌≡◌, ◌<◌, List, [], ◌∷◌, ◌++◌, length, sym, ap, ◌∙◌, arith, All, length-append, append-nil}
use Rattle.std.proofs.lemmas.List.{nil_from_length}
use Rattle.std.proofs.lemmas.List.Elements.{All-weaker}
use Rattle.line_forms.specs.Cuts.{Lacks}
use Rattle.line_forms.specs.FieldLists.{fields_of, line_of}
use Rattle.line_forms.proofs.Pieces.{join-pieces, pieces-join}
use Rattle.line_forms.proofs.PlainLemmas.{IsPlain, lacks_plain}

-- fields without spaces are read again from their line
pub fields_again : (fields : List (List ℕ)) → 0 < length fields → All IsPlain fields → fields_of (line_of fields) ≡ fields
fields_again fields some plain = pieces-join 32 fields some (All-weaker IsPlain (Lacks 32) (λ field h. lacks_plain 32 field (omega arith) h) fields plain)

-- and known by it
pub fields_one : (fields others : List (List ℕ)) → 0 < length fields → 0 < length others → All IsPlain fields → All IsPlain others → line_of fields ≡ line_of others → fields ≡ others
fields_one fields others some any plain clear e = sym (fields_again fields some plain) ∙ ap fields_of e ∙ fields_again others any clear

-- the fields of a text that is a line of these
pub again : (text : List ℕ) (fields : List (List ℕ)) → 0 < length fields → All IsPlain fields → text ≡ line_of fields → fields_of text ≡ fields
again text fields some plain e = ap fields_of e ∙ fields_again fields some plain

-- where as many fields were taken as spell a line, nothing is left of it
pub none_left : (text : List ℕ) (fields taken new : List (List ℕ)) → 0 < length fields → All IsPlain fields → length taken ≡ length fields → fields_of text ≡ taken ++ new → (new ≡ [] → ⊥) → text ≡ line_of fields → ⊥
none_left text fields taken new some plain as_many is left e =
    let count : length (taken ++ new) ≡ length fields = ap (length {A = List ℕ}) (sym is ∙ again text fields some plain e) in
    left (nil_from_length new (omega (arith, count, length-append taken new, as_many)))

-- and where nothing is left, they spell the line
pub spelled_by : (text : List ℕ) (taken new : List (List ℕ)) → fields_of text ≡ taken ++ new → new ≡ [] → text ≡ line_of taken
spelled_by text taken new is none = sym (join-pieces 32 text) ∙ ap line_of (is ∙ ap (λ l. taken ++ l) none ∙ append-nil taken)

-- five fields and those behind them
pub five_same : {a b c d e f g h i j : List ℕ} {x y : List (List ℕ)} → a ∷ b ∷ c ∷ d ∷ e ∷ x ≡ f ∷ g ∷ h ∷ i ∷ j ∷ y → (a ≡ f) × (b ≡ g) × (c ≡ h) × (d ≡ i) × (e ≡ j) × (x ≡ y)
five_same h = (cc, cc, cc, cc, cc, cc)

pub five_alike : {a b c d e f g h i j : List ℕ} {x y : List (List ℕ)} → a ≡ f → b ≡ g → c ≡ h → d ≡ i → e ≡ j → x ≡ y → a ∷ b ∷ c ∷ d ∷ e ∷ x ≡ f ∷ g ∷ h ∷ i ∷ j ∷ y
five_alike k l m n o p = cc

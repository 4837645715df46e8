-- Which words ask for `agent`.
use Rattle.std.proofs.Common.{◌≡◌, ◌≢◌, ◌<◌, ℕ, ℤ, List, [], ◌∷◌, Option, None, Some, get_or, length, sym, ap, ◌∙◌, subst, arith}
use Rattle.std.specs.Prelude.{IfSome, codes, decimal}
use Rattle.std.specs.Fmt.{signed_decimal}
use Rattle.line_forms.specs.Numbers.{IsOffsetText}
use Rattle.desk_top.specs.declared.command.AgentWords.{AgentWords}
use Rattle.desk_top.specs.declared.command.DeskCommand.TheVariants.{Agent}
use Rattle.desk_top.specs.Commands.{Asks, IsNamed, IsOneTo, NamesPlaces, agent_words, second_words}
use Rattle.desk_top.proofs.WordsOfServe.{SpellsNone, none_more}
use denote.Ref.{Bor}

-- ---- the seven words
-- fewer than three words stand behind the command
pub no_places_behind : (words : List (List ℕ)) (upstream pocket work name offset count : List ℕ) (last : List (List ℕ)) → length words < 3 → codes "agent" ∷ words ≢ agent_words upstream pocket work name offset count last
no_places_behind words upstream pocket work name offset count last few e =
    let same = ap (length {A = List ℕ}) e in
    omega (arith, same, few)

-- or behind these
pub no_values_behind : (words : List (List ℕ)) (first second third : List ℕ) (others : List (List ℕ)) (upstream pocket work name offset count : List ℕ) (last : List (List ℕ)) → words ≡ first ∷ second ∷ third ∷ others → length others < 3
    → codes "agent" ∷ words ≢ agent_words upstream pocket work name offset count last
no_values_behind words first second third others upstream pocket work name offset count last is few e =
    let same = ap (length {A = List ℕ}) e in
    let long = ap (length {A = List ℕ}) is in
    omega (arith, same, long, few)

-- ---- the word of the second upstream
-- two words or more name none
pub too_many : (words : List (List ℕ)) (word : List ℕ) (others : List (List ℕ)) → words ≡ word ∷ others → (length others ≡ 0 → ⊥) → (second : Option (Bor (List ℕ))) → IfSome second IsNamed → words ≢ second_words second
too_many words word others is more None named e = let none : ◌≡◌ {A = List (List ℕ)} (word ∷ others) [] = sym is ∙ e in cc
too_many words word others is more (Some second) named e =
    let same : ◌≡◌ {A = List (List ℕ)} (word ∷ others) (second.now ∷ []) = sym is ∙ e in
    let none : others ≡ [] = cc in
    more (ap (length {A = List ℕ}) none)

-- and neither does an empty one
pub not_named : (words : List (List ℕ)) (word : List ℕ) (others : List (List ℕ)) → words ≡ word ∷ others → word ≡ [] → (second : Option (Bor (List ℕ))) → IfSome second IsNamed → words ≢ second_words second
not_named words word others is empty None named e = let none : ◌≡◌ {A = List (List ℕ)} (word ∷ others) [] = sym is ∙ e in cc
not_named words word others is empty (Some second) named e =
    let same : ◌≡◌ {A = List (List ℕ)} (word ∷ others) (second.now ∷ []) = sym is ∙ e in
    let spelled : word ≡ second.now = cc in
    let none = ap (length {A = ℕ}) (sym spelled ∙ empty) in
    omega (arith, none, named)

pub has_second : (words : List (List ℕ)) (word : Bor (List ℕ)) (others : List (List ℕ)) → words ≡ word.now ∷ others → length others ≡ 0 → 0 < length word.now → IfSome (Some word) IsNamed × (words ≡ second_words (Some word))
has_second words word others is none named = (named, is ∙ ap (λ l. word.now ∷ l) (none_more others none))

-- ---- all words
-- the words behind the seventh one
abbrev behind_seventh : List (List ℕ) → List (List ℕ)
behind_seventh (a ∷ b ∷ c ∷ d ∷ e ∷ f ∷ g ∷ words) = words
behind_seventh words = []

-- what the words would be
record AreSix (words : List (List ℕ)) (asked : AgentWords) : Type 0 where
  upstream : get_or words 1 [] ≡ asked.upstream.now
  pocket : get_or words 2 [] ≡ asked.pocket.now
  work : get_or words 3 [] ≡ asked.work.now
  name : get_or words 4 [] ≡ asked.name.now
  offset : get_or words 5 [] ≡ signed_decimal asked.offset
  count : get_or words 6 [] ≡ decimal asked.count

are_six : (words : List (List ℕ)) (asked : AgentWords) → Asks words (Agent asked) → AreSix words asked
are_six words asked asks = record {
  upstream = ap (λ w. get_or w 1 []) asks.1;
  pocket = ap (λ w. get_or w 2 []) asks.1;
  work = ap (λ w. get_or w 3 []) asks.1;
  name = ap (λ w. get_or w 4 []) asks.1;
  offset = ap (λ w. get_or w 5 []) asks.1;
  count = ap (λ w. get_or w 6 []) asks.1;
}

pub no_words : (words : List (List ℕ)) → ((upstream pocket work name offset count : List ℕ) (last : List (List ℕ)) → words ≢ agent_words upstream pocket work name offset count last) → (asked : AgentWords)
    → Asks words (Agent asked) → ⊥
no_words words none asked asks = none asked.upstream.now asked.pocket.now asked.work.now asked.name.now (signed_decimal asked.offset) (decimal asked.count) (second_words asked.second) asks.1

module _ (words : List (List ℕ)) (upstream pocket work name offset count : List ℕ) (others : List (List ℕ)) where
  abbrev pub AreWords : Type 0
  AreWords = words ≡ agent_words upstream pocket work name offset count others

  pub no_count : AreWords → SpellsNone 1000000 count → (asked : AgentWords) → Asks words (Agent asked) → ⊥
  no_count is none asked asks = none asked.count asks.0.count (sym (ap (λ w. get_or w 6 []) is) ∙ (are_six words asked asks).count)

  pub no_offset : AreWords → ((minutes : ℤ) → IsOffsetText offset minutes → ⊥) → (asked : AgentWords) → Asks words (Agent asked) → ⊥
  no_offset is none asked asks = none asked.offset (asks.0.offset, sym (ap (λ w. get_or w 5 []) is) ∙ (are_six words asked asks).offset)

  pub no_places : AreWords → (NamesPlaces upstream pocket work name → ⊥) → (asked : AgentWords) → Asks words (Agent asked) → ⊥
  no_places is none asked asks =
      let six = are_six words asked asks in
      let places = asks.0.places in
      let first : asked.upstream.now ≡ upstream = sym six.upstream ∙ ap (λ w. get_or w 1 []) is in
      let second : asked.pocket.now ≡ pocket = sym six.pocket ∙ ap (λ w. get_or w 2 []) is in
      let third : asked.work.now ≡ work = sym six.work ∙ ap (λ w. get_or w 3 []) is in
      let fourth : asked.name.now ≡ name = sym six.name ∙ ap (λ w. get_or w 4 []) is in
      let A : List ℕ → Type 0 = λ l. NamesPlaces l asked.pocket.now asked.work.now asked.name.now in
      let B : List ℕ → Type 0 = λ l. NamesPlaces upstream l asked.work.now asked.name.now in
      let C : List ℕ → Type 0 = λ l. NamesPlaces upstream pocket l asked.name.now in
      let D : List ℕ → Type 0 = λ l. NamesPlaces upstream pocket work l in
      none (subst D fourth (subst C third (subst B second (subst A first places))))

  pub no_second : AreWords → ((second : Option (Bor (List ℕ))) → IfSome second IsNamed → others ≢ second_words second) → (asked : AgentWords) → Asks words (Agent asked) → ⊥
  no_second is none asked asks = none asked.second asks.0.second (ap behind_seventh (sym is ∙ asks.1))

pub asks_agent : (words : List (List ℕ)) (asked : AgentWords) (offset count : List ℕ) (others : List (List ℕ))
    → words ≡ agent_words asked.upstream.now asked.pocket.now asked.work.now asked.name.now offset count others → IsOffsetText offset asked.offset → count ≡ decimal asked.count → others ≡ second_words asked.second
    → NamesPlaces asked.upstream.now asked.pocket.now asked.work.now asked.name.now → IsOneTo 1000000 asked.count → IfSome asked.second IsNamed → Asks words (Agent asked)
asks_agent words asked offset count others is offset_is count_is second_is places some second = (
  record { places = places; offset = offset_is.0; count = some; second = second },
  is ∙ ap (λ l. agent_words asked.upstream.now asked.pocket.now asked.work.now asked.name.now l count others) offset_is.1
      ∙ ap (λ l. agent_words asked.upstream.now asked.pocket.now asked.work.now asked.name.now (signed_decimal asked.offset) l others) count_is
      ∙ ap (λ l. agent_words asked.upstream.now asked.pocket.now asked.work.now asked.name.now (signed_decimal asked.offset) (decimal asked.count) l) second_is,
)

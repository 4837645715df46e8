-- Which words ask for `relay`.
use Rattle.std.proofs.Common.{◌≡◌, ◌≢◌, ◌<◌, ℕ, List, [], ◌∷◌, Option, None, Some, length, sym, ap, ◌∙◌, arith}
use Rattle.std.specs.Prelude.{IfSome, codes, decimal}
use Rattle.relay_cache.specs.CachedFiles.{IsRoom}
use Rattle.desk_top.specs.declared.command.DeskCommand.TheVariants.{Relay}
use Rattle.desk_top.specs.declared.command.RelayWords.{RelayWords}
use Rattle.desk_top.specs.Commands.{Asks, IsOneTo, relay_words, room_words, with_others}
use Rattle.desk_top.proofs.WordsOfServe.{SpellsNone, fourth, none_more, second, third}

-- fewer than three words stand behind the command
pub too_few : (words : List (List ℕ)) (command first upstream count : List ℕ) (others : List (List ℕ)) → length words < 3 → command ∷ words ≢ with_others command first upstream count others
too_few words command first upstream count others few e =
    let same = ap (length {A = List ℕ}) e in
    omega (arith, same, few)

-- ---- the word of how many files there is room for
-- two words or more spell no room
pub too_many : (words : List (List ℕ)) (word : List ℕ) (others : List (List ℕ)) → words ≡ word ∷ others → (length others ≡ 0 → ⊥) → (room : Option ℕ) → IfSome room IsRoom → words ≢ room_words room
too_many words word others is more None fits e = let none : ◌≡◌ {A = List (List ℕ)} (word ∷ others) [] = sym is ∙ e in cc
too_many words word others is more (Some room) fits e =
    let same : ◌≡◌ {A = List (List ℕ)} (word ∷ others) (decimal room ∷ []) = sym is ∙ e in
    let none : others ≡ [] = cc in
    more (ap (length {A = List ℕ}) none)

-- and neither does one that is no number
pub no_number : (words : List (List ℕ)) (word : List ℕ) (others : List (List ℕ)) → words ≡ word ∷ others → SpellsNone 64 word → (room : Option ℕ) → IfSome room IsRoom → words ≢ room_words room
no_number words word others is none None fits e = let empty : ◌≡◌ {A = List (List ℕ)} (word ∷ others) [] = sym is ∙ e in cc
no_number words word others is none (Some room) fits e =
    let same : ◌≡◌ {A = List (List ℕ)} (word ∷ others) (decimal room ∷ []) = sym is ∙ e in
    let spelled : word ≡ decimal room = cc in
    none room (fits.least, fits.most) spelled

pub has_room : (words : List (List ℕ)) (word : List ℕ) (others : List (List ℕ)) (room : ℕ) → words ≡ word ∷ others → length others ≡ 0 → word ≡ decimal room → IsOneTo 64 room
    → IfSome (Some room) IsRoom × (words ≡ room_words (Some room))
has_room words word others room is none spelled one = (
  record { least = one.0; most = one.1 },
  is ∙ ap (λ w. w ∷ others) spelled ∙ ap (λ l. decimal room ∷ l) (none_more others none),
)

-- ---- all words
-- the words behind the fourth one
abbrev behind_fourth : List (List ℕ) → List (List ℕ)
behind_fourth (a ∷ b ∷ c ∷ d ∷ words) = words
behind_fourth words = []

pub no_words : (words : List (List ℕ)) → ((first upstream count : List ℕ) (others : List (List ℕ)) → words ≢ with_others (codes "relay") first upstream count others) → (asked : RelayWords) → Asks words (Relay asked) → ⊥
no_words words none asked asks = none (decimal asked.port) asked.upstream.now (decimal asked.count) (room_words asked.room) asks.1

module _ (words : List (List ℕ)) (port upstream count : List ℕ) (others : List (List ℕ)) (is : words ≡ relay_words port upstream count others) where
  pub no_port : SpellsNone 65535 port → (asked : RelayWords) → Asks words (Relay asked) → ⊥
  no_port none asked asks = none asked.port asks.0.port (ap second (sym is ∙ asks.1))

  pub no_count : SpellsNone 1000000 count → (asked : RelayWords) → Asks words (Relay asked) → ⊥
  no_count none asked asks = none asked.count asks.0.count (ap fourth (sym is ∙ asks.1))

  pub no_upstream : upstream ≡ [] → (asked : RelayWords) → Asks words (Relay asked) → ⊥
  no_upstream empty asked asks =
      let none : length asked.upstream.now ≡ 0 = ap (length {A = ℕ}) (sym (ap third (sym is ∙ asks.1)) ∙ empty) in
      let some = asks.0.upstream in
      omega (arith, none, some)

  pub no_room : ((room : Option ℕ) → IfSome room IsRoom → others ≢ room_words room) → (asked : RelayWords) → Asks words (Relay asked) → ⊥
  no_room none asked asks = none asked.room asks.0.room (ap behind_fourth (sym is ∙ asks.1))

pub asks_relay : (words : List (List ℕ)) (asked : RelayWords) (port count : List ℕ) (others : List (List ℕ)) → words ≡ relay_words port asked.upstream.now count others → port ≡ decimal asked.port → count ≡ decimal asked.count
    → others ≡ room_words asked.room → IsOneTo 65535 asked.port → 0 < length asked.upstream.now → IsOneTo 1000000 asked.count → IfSome asked.room IsRoom → Asks words (Relay asked)
asks_relay words asked port count others is port_is count_is room_is one upstream some room = (
  record { port = one; upstream = upstream; count = some; room = room },
  is ∙ ap (λ l. relay_words l asked.upstream.now count others) port_is ∙ ap (λ l. relay_words (decimal asked.port) asked.upstream.now l others) count_is
      ∙ ap (λ l. relay_words (decimal asked.port) asked.upstream.now (decimal asked.count) l) room_is,
)

-- Which words ask for `session`.
use Rattle.std.proofs.Common.{◌≡◌, ◌≢◌, ◌<◌, ◌↔◌, ℕ, List, [], ◌∷◌, length, codes, drop, None, Some, is_some, refl, sym, ap, ◌∙◌, arith}
use Rattle.std.specs.Prelude.{IsTrue, MatchOption}
use Rattle.std.specs.declared.option.Option.{Option}
use Rattle.desk_top.specs.declared.command.DeskCommand.{DeskCommand}
use Rattle.desk_top.specs.declared.command.DeskCommand.TheVariants.{Qna, QnaWorld, Check, Office, Make, Serve, Relay, Agent, Session, Help}
use Rattle.desk_top.specs.declared.command.SessionWords.{SessionWords}
use Rattle.desk_top.specs.Commands.{Asks, AsksSome, FindsKeeper}
use Rattle.desk_top.proofs.WordsOfServe.{none_more, second}

pub no_words : (words : List (List ℕ)) → ((others : List (List ℕ)) → words ≢ codes "session" ∷ others) → (asked : SessionWords) → Asks words (Session asked) → ⊥
no_words words none asked asks = none (asked.keep.now ∷ []) asks.1

pub no_keep : (words others : List (List ℕ)) → words ≡ codes "session" ∷ others → length others ≡ 0 → (asked : SessionWords) → Asks words (Session asked) → ⊥
no_keep words others is none asked asks =
    let both : length others ≡ 1 = ap (λ (l : List (List ℕ)). length (drop 1 l)) (sym is ∙ asks.1) in
    omega (arith, none, both)

pub more_words : (words others : List (List ℕ)) (keep : List ℕ) → words ≡ codes "session" ∷ keep ∷ others → length others ≢ 0 → (asked : SessionWords) → Asks words (Session asked) → ⊥
more_words words others keep is some asked asks =
    some (ap (λ (l : List (List ℕ)). length (drop 2 l)) (sym is ∙ asks.1))

pub empty_keep : (words others : List (List ℕ)) (keep : List ℕ) → words ≡ codes "session" ∷ keep ∷ others → length keep ≡ 0 → (asked : SessionWords) → Asks words (Session asked) → ⊥
empty_keep words others keep is none asked asks =
    let same : keep ≡ asked.keep.now = ap second (sym is ∙ asks.1) in
    let empty : length asked.keep.now ≡ 0 = ap (length {A = ℕ}) (sym same) ∙ none in
    let some = asks.0 in
    omega (arith, empty, some)

pub asks_session : (words others : List (List ℕ)) (asked : SessionWords) → words ≡ codes "session" ∷ asked.keep.now ∷ others → length others ≡ 0 → 0 < length asked.keep.now
    → Asks words (Session asked)
asks_session words others asked is none some =
    (some, is ∙ ap (λ (l : List (List ℕ)). codes "session" ∷ asked.keep.now ∷ l) (none_more others none))

-- the words ask of what is kept where they ask for `session`
no_finding : (words : List (List ℕ)) → ((asked : SessionWords) → Asks words (Session asked) → ⊥) → (command : DeskCommand) → Asks words command → FindsKeeper command → ⊥
no_finding words none Qna asks finds = finds
no_finding words none QnaWorld asks finds = finds
no_finding words none Check asks finds = finds
no_finding words none Office asks finds = finds
no_finding words none (Make number) asks finds = finds
no_finding words none (Serve asked) asks finds = finds
no_finding words none (Relay asked) asks finds = finds
no_finding words none (Agent asked) asks finds = finds
no_finding words none (Session asked) asks finds = none asked asks
no_finding words none Help asks finds = finds

pub finds : (words : List (List ℕ)) (asked : Option SessionWords) → MatchOption asked ((other : SessionWords) → Asks words (Session other) → ⊥) (λ it. Asks words (Session it))
    → IsTrue (is_some asked) ↔ AsksSome words FindsKeeper
finds words None none = (λ is. absurd (cc), λ some. absurd (no_finding words none some.0 some.1 some.2))
finds words (Some asked) asks = (λ is. (Session asked, asks, tt), λ some. refl)

-- Which words ask for `serve`, and which for no command.
use Rattle.std.proofs.Common.{◌≡◌, ◌≢◌, ◌<◌, ℕ, List, [], ◌∷◌, length, refl, sym, ap, ◌∙◌, arith}
use Rattle.std.specs.Prelude.{decimal}
use Rattle.desk_top.specs.declared.command.DeskCommand.TheVariants.{Qna, QnaWorld, Check, Office, Make, Serve, Relay, Agent, Session, Help}
use Rattle.desk_top.specs.declared.command.ServeWords.{ServeWords}
use Rattle.desk_top.specs.Commands.{AskNoDevices, Asks, IsNoCommand, IsOneTo, serve_words, words_of}

-- a list without items
pub none_more : {A : Type 0} (xs : List A) → length xs ≡ 0 → xs ≡ []
none_more [] h = refl
none_more (x ∷ xs) h = absurd (omega arith)

-- the second, the third and the fourth word
abbrev pub second : List (List ℕ) → List ℕ
second (a ∷ b ∷ words) = b
second words = []

abbrev pub third : List (List ℕ) → List ℕ
third (a ∷ b ∷ c ∷ words) = c
third words = []

abbrev pub fourth : List (List ℕ) → List ℕ
fourth (a ∷ b ∷ c ∷ d ∷ words) = d
fourth words = []

-- no number that is one's own is spelled where it should be
abbrev pub SpellsNone : ℕ → List ℕ → Type 0
SpellsNone most word = (number : ℕ) → IsOneTo most number → word ≢ decimal number

pub no_words : (words : List (List ℕ)) → ((port keep count : List ℕ) → words ≢ serve_words port keep count) → (asked : ServeWords) → Asks words (Serve asked) → ⊥
no_words words none asked asks = none (decimal asked.port) asked.keep.now (decimal asked.count) asks.1

pub no_port : (words : List (List ℕ)) (port keep count : List ℕ) → words ≡ serve_words port keep count → SpellsNone 65535 port → (asked : ServeWords) → Asks words (Serve asked) → ⊥
no_port words port keep count is none asked asks = none asked.port asks.0.port (ap second (sym is ∙ asks.1))

pub no_count : (words : List (List ℕ)) (port keep count : List ℕ) → words ≡ serve_words port keep count → SpellsNone 1000000 count → (asked : ServeWords) → Asks words (Serve asked) → ⊥
no_count words port keep count is none asked asks = none asked.count asks.0.count (ap fourth (sym is ∙ asks.1))

pub no_keep : (words : List (List ℕ)) (port keep count : List ℕ) → words ≡ serve_words port keep count → keep ≡ [] → (asked : ServeWords) → Asks words (Serve asked) → ⊥
no_keep words port keep count is empty asked asks =
    let none : length asked.keep.now ≡ 0 = ap (length {A = ℕ}) (sym (ap third (sym is ∙ asks.1)) ∙ empty) in
    let some = asks.0.keep in
    omega (arith, none, some)

pub asks_serve : (words : List (List ℕ)) (asked : ServeWords) (port count : List ℕ) → words ≡ serve_words port asked.keep.now count → port ≡ decimal asked.port → count ≡ decimal asked.count
    → IsOneTo 65535 asked.port → 0 < length asked.keep.now → IsOneTo 1000000 asked.count → Asks words (Serve asked)
asks_serve words asked port count is port_is count_is one keep some = (
  record { port = one; keep = keep; count = some },
  is ∙ ap (λ l. serve_words l asked.keep.now count) port_is ∙ ap (λ l. serve_words (decimal asked.port) asked.keep.now l) count_is,
)

pub no_command : (words : List (List ℕ)) → words ≢ words_of Qna → words ≢ words_of QnaWorld → words ≢ words_of Check → words ≢ words_of Office → words ≢ words_of Help → ((number : ℕ) → Asks words (Make number) → ⊥)
    → AskNoDevices words → IsNoCommand words
no_command words a b c office d make none Qna asks = a asks.1
no_command words a b c office d make none QnaWorld asks = b asks.1
no_command words a b c office d make none Check asks = c asks.1
no_command words a b c office d make none Office asks = office asks.1
no_command words a b c office d make none (Make number) asks = make number asks
no_command words a b c office d make none (Serve asked) asks = none.serve asked asks
no_command words a b c office d make none (Relay asked) asks = none.relay asked asks
no_command words a b c office d make none (Agent asked) asks = none.agent asked asks
no_command words a b c office d make none (Session asked) asks = none.session asked asks
no_command words a b c office d make none Help asks = d asks.1

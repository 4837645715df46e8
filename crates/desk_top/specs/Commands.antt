-- The table of commands.
use Rattle.std.specs.Prelude.{◌≡◌, ◌<◌, ◌≤◌, ⊤, ℕ, List, [], ◌∷◌, ◌++◌, length, codes, decimal, flat_map, IfSome, None, Some}
use Rattle.std.specs.declared.option.Option.{Option}
use Rattle.std.specs.Fmt.{signed_decimal}
use Rattle.line_forms.specs.Names.{IsName}
use Rattle.line_forms.specs.Numbers.{IsOffset}
use Rattle.relay_cache.specs.CachedFiles.{IsRoom}
use Rattle.desk_top.specs.declared.command.DeskCommand.{DeskCommand}
use Rattle.desk_top.specs.declared.command.DeskCommand.TheVariants.{Qna, QnaWorld, Check, Office, Make, Serve, Relay, Agent, Session, Help}
use Rattle.desk_top.specs.declared.command.AgentWords.{AgentWords}
use Rattle.desk_top.specs.declared.command.RelayWords.{RelayWords}
use Rattle.desk_top.specs.declared.command.ServeWords.{ServeWords}
use Rattle.desk_top.specs.declared.command.SessionWords.{SessionWords}
use denote.Ref.{Bor}

-- the words of a command, with these three behind it, and others behind them
abbrev pub with_others : List ℕ → List ℕ → List ℕ → List ℕ → List (List ℕ) → List (List ℕ)
with_others command first second third others = command ∷ first ∷ second ∷ third ∷ others

abbrev pub with_three : List ℕ → List ℕ → List ℕ → List ℕ → List (List ℕ)
with_three command first second third = with_others command first second third []

-- the words of `serve`, with these behind it
abbrev pub serve_words : List ℕ → List ℕ → List ℕ → List (List ℕ)
serve_words port keep count = with_three (codes "serve") port keep count

-- the words of `relay`, with these behind it, and the last one or none
abbrev pub relay_words : List ℕ → List ℕ → List ℕ → List (List ℕ) → List (List ℕ)
relay_words port upstream count last = with_others (codes "relay") port upstream count last

-- the word of how many files there is room for, where there is a cache
abbrev pub room_words : Option ℕ → List (List ℕ)
room_words None = []
room_words (Some room) = decimal room ∷ []

-- the words of `agent`, with these behind it, and the last one or none
abbrev pub agent_words : List ℕ → List ℕ → List ℕ → List ℕ → List ℕ → List ℕ → List (List ℕ) → List (List ℕ)
agent_words upstream pocket work name offset count last =
    codes "agent" ∷ upstream ∷ pocket ∷ work ∷ name ∷ offset ∷ count ∷ last

-- the word of where the second upstream is, where there is one
abbrev pub second_words : Option (Bor (List ℕ)) → List (List ℕ)
second_words None = []
second_words (Some second) = second.now ∷ []

-- the words of `session`, with this behind it
abbrev pub session_words : List ℕ → List (List ℕ)
session_words keep = codes "session" ∷ keep ∷ []

-- the words of a command
abbrev pub words_of : DeskCommand → List (List ℕ)
words_of Qna = codes "qna" ∷ []
words_of QnaWorld = codes "qna" ∷ codes "--world" ∷ []
words_of Check = codes "check" ∷ []
words_of Office = codes "office" ∷ []
words_of (Make number) = codes "make" ∷ decimal number ∷ []
words_of (Serve asked) = serve_words (decimal asked.port) asked.keep.now (decimal asked.count)
words_of (Relay asked) = relay_words (decimal asked.port) asked.upstream.now (decimal asked.count) (room_words asked.room)
words_of (Agent asked) =
    agent_words asked.upstream.now asked.pocket.now asked.work.now asked.name.now (signed_decimal asked.offset) (decimal asked.count)
    (second_words asked.second)
words_of (Session asked) = session_words asked.keep.now
words_of Help = codes "--help" ∷ []

-- the number is one from 1 to the most
abbrev pub IsOneTo : ℕ → ℕ → Type 0
IsOneTo most number = (1 ≤ number) × (number ≤ most)

-- what stands behind `serve` is a port, a text that isn't empty, and a number of conversations
pub record AreServed (asked : ServeWords) : Type 0 where
  pub port : IsOneTo 65535 asked.port
  pub keep : 0 < length asked.keep.now
  pub count : IsOneTo 1000000 asked.count

-- what stands behind `relay` is a port, a text that isn't empty, a number of conversations, and the room of a cache, if it has one
pub record AreRelayed (asked : RelayWords) : Type 0 where
  pub port : IsOneTo 65535 asked.port
  pub upstream : 0 < length asked.upstream.now
  pub count : IsOneTo 1000000 asked.count
  pub room : IfSome asked.room IsRoom

-- the texts of three places, which aren't empty, and a computer's name
pub record NamesPlaces (upstream pocket work name : List ℕ) : Type 0 where
  pub upstream_some : 0 < length upstream
  pub pocket_some : 0 < length pocket
  pub work_some : 0 < length work
  pub is_name : IsName name

-- a place that is named: its text isn't empty
abbrev pub IsNamed : Bor (List ℕ) → Type 0
IsNamed place = 0 < length place.now

-- what stands behind `agent` are such texts, an offset, a number of rounds, and the text of a second upstream, if there is one
pub record AreRounded (asked : AgentWords) : Type 0 where
  pub places : NamesPlaces asked.upstream.now asked.pocket.now asked.work.now asked.name.now
  pub offset : IsOffset asked.offset
  pub count : IsOneTo 1000000 asked.count
  pub second : IfSome asked.second IsNamed

-- the numbers and the texts of a command are ones that it takes
abbrev pub IsCommand : DeskCommand → Type 0
IsCommand (Make number) = IsOneTo 2000 number
IsCommand (Serve asked) = AreServed asked
IsCommand (Relay asked) = AreRelayed asked
IsCommand (Agent asked) = AreRounded asked
IsCommand (Session asked) = 0 < length asked.keep.now
IsCommand _ = ⊤

-- the words ask for the command
abbrev pub Asks : List (List ℕ) → DeskCommand → Type 0
Asks words command = IsCommand command × (words ≡ words_of command)

-- the words ask for some command, of which P holds
abbrev pub AsksSome : List (List ℕ) → (DeskCommand → Type 0) → Type 0
AsksSome words P = (command : DeskCommand) × Asks words command × P command

-- the words ask for `serve`, and P holds of what stands behind it
abbrev pub AsksServe : List (List ℕ) → (ServeWords → Type 0) → Type 0
AsksServe words P = (asked : ServeWords) × Asks words (Serve asked) × P asked

-- the words ask for `relay`, and P holds of what stands behind it
abbrev pub AsksRelay : List (List ℕ) → (RelayWords → Type 0) → Type 0
AsksRelay words P = (asked : RelayWords) × Asks words (Relay asked) × P asked

-- the words ask for `agent`, and P holds of what stands behind it
abbrev pub AsksAgent : List (List ℕ) → (AgentWords → Type 0) → Type 0
AsksAgent words P = (asked : AgentWords) × Asks words (Agent asked) × P asked

-- the words are those of no command
abbrev pub IsNoCommand : List (List ℕ) → Type 0
IsNoCommand words = (command : DeskCommand) → ¬ Asks words command

-- the command reads the source
abbrev pub ReadsSource : DeskCommand → Type 0
ReadsSource Qna = ⊤
ReadsSource QnaWorld = ⊤
ReadsSource Check = ⊤
ReadsSource Office = ⊤
ReadsSource (Make number) = ⊥
ReadsSource (Serve asked) = ⊥
ReadsSource (Relay asked) = ⊥
ReadsSource (Agent asked) = ⊥
ReadsSource (Session asked) = ⊤
ReadsSource Help = ⊥

-- the command holds conversations over the door
abbrev pub HoldsTalks : DeskCommand → Type 0
HoldsTalks (Serve asked) = ⊤
HoldsTalks (Relay asked) = ⊤
HoldsTalks _ = ⊥

-- the command answers from the keeper
abbrev pub UsesKeeper : DeskCommand → Type 0
UsesKeeper (Serve asked) = ⊤
UsesKeeper (Session asked) = ⊤
UsesKeeper _ = ⊥

-- the command asks an upstream by the link
abbrev pub AsksUpstream : DeskCommand → Type 0
AsksUpstream (Relay asked) = ⊤
AsksUpstream (Agent asked) = ⊤
AsksUpstream _ = ⊥

-- the command is an agent's, which keeps its state in the pocket and changes the machine
abbrev pub IsAgents : DeskCommand → Type 0
IsAgents (Agent asked) = ⊤
IsAgents _ = ⊥

-- the command asks of what is kept, and makes nothing
abbrev pub FindsKeeper : DeskCommand → Type 0
FindsKeeper (Session asked) = ⊤
FindsKeeper _ = ⊥

-- the words ask for none of these commands; only a private function cites this
pub record AskNoDevices (words : List (List ℕ)) : Type 0 where
  pub serve : (asked : ServeWords) → ¬ Asks words (Serve asked)
  pub relay : (asked : RelayWords) → ¬ Asks words (Relay asked)
  pub agent : (asked : AgentWords) → ¬ Asks words (Agent asked)
  pub session : (asked : SessionWords) → ¬ Asks words (Session asked)

-- what is written where the words are those of no command
abbrev pub usage_line : List ℕ
usage_line = codes "usage: desk --help\n"

-- a word, and a space before it
abbrev pub spaced : List ℕ → List ℕ
spaced word = codes " " ++ word

-- the help's line of a command with these words
abbrev pub help_line : List (List ℕ) → List ℕ
help_line words = codes "desk" ++ flat_map spaced words ++ codes "\n"

-- a line for each command, in which words in capitals stand for its numbers and texts
unfoldable pub help_text : List ℕ
help_text =
    help_line (words_of Qna)
    ++ help_line (words_of QnaWorld)
    ++ help_line (words_of Check)
    ++ help_line (words_of Office)
    ++ help_line (codes "make" ∷ codes "N" ∷ [])
    ++ help_line (serve_words (codes "PORT") (codes "KEEP") (codes "N"))
    ++ help_line (relay_words (codes "PORT") (codes "UPSTREAM") (codes "N") [])
    ++ help_line (agent_words (codes "UPSTREAM") (codes "POCKET") (codes "WORK") (codes "NAME") (codes "OFFSET") (codes "N") [])
    ++ help_line (session_words (codes "KEEP"))
    ++ help_line (relay_words (codes "PORT") (codes "UPSTREAM") (codes "N") (codes "CACHE" ∷ []))
    ++ help_line
    (agent_words (codes "UPSTREAM") (codes "POCKET") (codes "WORK") (codes "NAME") (codes "OFFSET") (codes "N") (codes "SECOND" ∷ []))
    ++ help_line (words_of Help)

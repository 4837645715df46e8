-- What each kind of line does. The templates of a line are asked from the left, before its command.
use Rattle.std.specs.Prelude.{ℕ, ℤ, pos, Bool, true, false, if◌then◌else◌, ◌==◌, List, [], ◌∷◌, ◌++◌, length, codes, is_some, Option, Some, None}
use Rattle.std.specs.Str.{bytes_eq}
use Rattle.hex.specs.Hex.{encode_lower}
use Rattle.sha1.specs.Sha1.{sha1}
use Rattle.sha2.specs.Sha256.{sha256}
use Rattle.rel_value.specs.TimesRead.{time_of}
use Rattle.bf_world.specs.declared.command.Command.TheVariants.{Write, Append, Delete, Copy, Move, MakeFolder, DropFolder, Start, Put, Drop, Place}
use Rattle.rel_sources.specs.Scenes.{value_of}
use Rattle.script_text.specs.declared.line.Line.{Line}
use Rattle.script_text.specs.declared.line.Line.TheVariants as line
use Rattle.script_text.specs.declared.prefetch.Prefetch.{Prefetch}
use Rattle.script_text.specs.declared.template.Part2.{Part2}
use Rattle.script_text.specs.declared.template.Part2.TheVariants.{Plain, Expression}
use Rattle.script_text.specs.declared.template.Template.{Template}
use Rattle.script_run.specs.declared.cause.Cause.TheVariants.{NotContinued, ParameterTwice, WrongSize, WrongDigest, NotServed, BadDate}
use Rattle.script_run.specs.Walks.{Known, supplied, Wants, stop, Rest, failing, never, saying, testing, pausing, doing, awaiting}

-- The text of a template's parts, behind this text. The rest is told too whether an expression of the line is settled by then.
abbrev pub filling : ℕ → Bool → List Part2 → List ℕ → (Bool → List ℕ → Rest) → Rest
filling n midway [] text rest = rest midway text
filling n midway (Plain plain ∷ parts) text rest = filling n midway parts (text ++ plain) rest
filling n midway (Expression expression ∷ parts) text rest = saying n midway expression (λ more. filling n true parts (text ++ more) rest)

-- the text of a template
abbrev pub filled : ℕ → Bool → Template → (Bool → List ℕ → Rest) → Rest
filled n midway template rest = filling n midway template.parts [] rest

-- a line with its end
abbrev pub ended : List ℕ → List ℕ
ended text = text ++ 10 ∷ []

-- the lines of a file, behind this text
abbrev pub lining : ℕ → Bool → List Template → List ℕ → (Bool → List ℕ → Rest) → Rest
lining n midway [] text rest = rest midway text
lining n midway (template ∷ templates) text rest =
    filling n midway template.parts text (λ midway more. lining n midway templates (ended more) rest)

-- a parameter has this value from then on
abbrev pub with_parameter : List ℕ → List ℕ → Known → Known
with_parameter name value known = record known { parameters = known.parameters ++ record { name = name; value = value } ∷ [] }

-- a parameter is set, unless it was set before
abbrev pub setting : ℕ → Bool → List ℕ → List ℕ → Rest → Rest
setting n midway name value rest known =
    if is_some (value_of name known.parameters) then failing n midway ParameterTwice known else rest (with_parameter name value known)

-- the moment that was read goes on, and none is a bad date
abbrev pub timed : ℕ → Bool → Option ℕ → (ℤ → Rest) → Rest
timed n midway None rest = failing n midway BadDate
timed n midway (Some moment) rest = rest (pos moment)

-- the moment that a template's text tells
abbrev pub dated : ℕ → Bool → Template → (Bool → ℤ → Rest) → Rest
dated n midway template rest = filled n midway template (λ midway text. timed n midway (time_of text) (rest midway))

-- what the line of this number does
abbrev pub line_walk : ℕ → Line → Rest → Rest
line_walk n (line.Parameter name value) rest = filled n false value (λ midway text. setting n midway name text rest)
line_walk n (line.ContinueIf test) rest = testing n test rest (failing n true NotContinued)
line_walk n (line.PauseWhile test) rest = pausing n test rest
line_walk n (line.Create templates) rest =
    lining n false templates [] (λ midway text. doing n midway (Write (codes "__createfile") text) rest)
line_walk n (line.Append template) rest =
    filled n false template (λ midway text. doing n midway (Append (codes "__appendfile") (ended text)) rest)
line_walk n (line.Delete path) rest = filled n false path (λ midway path. doing n midway (Delete path) rest)
line_walk n (line.Copy from to) rest =
    filled n false from (λ midway from. filled n midway to (λ midway to. doing n midway (Copy from to) rest))
line_walk n (line.Move from to) rest =
    filled n false from (λ midway from. filled n midway to (λ midway to. doing n midway (Move from to) rest))
line_walk n (line.FolderCreate path) rest = filled n false path (λ midway path. doing n midway (MakeFolder path) rest)
line_walk n (line.FolderDelete path) rest = filled n false path (λ midway path. doing n midway (DropFolder path) rest)
line_walk n (line.Run command) rest = filled n false command (λ midway text. doing n midway (Start text false) rest)
line_walk n (line.Wait command) rest = filled n false command (λ midway text. awaiting n midway (Start text false) rest)
line_walk n (line.RunHidden command) rest = filled n false command (λ midway text. doing n midway (Start text true) rest)
line_walk n (line.WaitHidden command) rest = filled n false command (λ midway text. awaiting n midway (Start text true) rest)
line_walk n (line.Setting name value date) rest =
    filled n false name (λ midway name. filled n midway value (λ midway value.
    dated n midway date (λ midway moment. doing n midway (Put name value moment) rest)))
line_walk n (line.SettingDelete name date) rest =
    filled n false name (λ midway name. dated n midway date (λ midway moment. doing n midway (Drop name moment) rest))

-- bytes that came for a file are placed where they have its size, and then its digests
abbrev pub placing : Prefetch → List ℕ → Rest → Rest
placing fetch bytes rest =
    if length bytes == fetch.size then
    (if bytes_eq (sha1 bytes) fetch.sha1 then
    (if bytes_eq (sha256 bytes) fetch.sha256 then doing fetch.line false (Place fetch.name bytes) rest
    else failing fetch.line true (WrongDigest (encode_lower fetch.sha256) (encode_lower (sha256 bytes))))
    else failing fetch.line true (WrongDigest (encode_lower fetch.sha1) (encode_lower (sha1 bytes))))
    else failing fetch.line true (WrongSize fetch.size (length bytes))

-- what was supplied for a file
abbrev pub after_supply : Prefetch → Rest → Option (List ℕ) → Rest
after_supply fetch rest None = failing fetch.line true (NotServed fetch.sha256)
after_supply fetch rest (Some bytes) = placing fetch bytes rest

-- a prefetch line: its file is wanted, compared and placed
abbrev pub fetching : Prefetch → Rest → Rest
fetching fetch rest known [] = stop known (Wants fetch.line fetch.sha256)
fetching fetch rest known (supplied bytes ∷ more) = after_supply fetch rest bytes known more
fetching fetch rest known (_ ∷ more) = never fetch.line known more

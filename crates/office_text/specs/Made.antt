-- The office text that is made for a number of computers.
use Rattle.std.specs.Prelude.{ℕ, zero, suc, ◌+◌, ◌*◌, ◌/◌, ◌%◌, List, [], ◌∷◌, ◌++◌, flat_map, codes, decimal}
use Rattle.std.specs.List.{range_with_len}
use Rattle.hex.specs.Hex.{encode_lower}
use Rattle.sha2.specs.Sha256.{sha256}
use Rattle.line_forms.specs.FieldLists.{line_of}
use Rattle.line_forms.specs.Fields.{field_text}
use Rattle.line_forms.specs.Lines.{lines_text}

-- the site before its digest
unfoldable pub site_body : List (List ℕ)
site_body =
    codes "site desk 1"
    ∷ codes "fixlet 1"
    ∷ codes "title Upgrade agentd"
    ∷ codes "relevance exists packages whose (name of it = \"agentd\" and version of it < \"1.2\")"
    ∷ codes "success relevance"
    ∷ codes "| wait upgrade agentd"
    ∷ codes "end"
    ∷ []

-- the digest: SHA-256 of all bytes of the site before its line
unfoldable pub site_digest : List ℕ
site_digest = sha256 (lines_text site_body)

-- the site
abbrev pub site_lines : List (List ℕ)
site_lines = site_body ++ (field_text (codes "digest") ++ encode_lower site_digest) ∷ []

-- the action that runs the fixlet on every computer
unfoldable pub action_lines : List (List ℕ)
action_lines =
    codes "action 1"
    ∷ codes "issued 0"
    ∷ codes "content desk 1"
    ∷ codes "members stop"
    ∷ codes "target all"
    ∷ codes "start none"
    ∷ codes "until none"
    ∷ codes "hours none"
    ∷ codes "days 1111111"
    ∷ codes "retries 0 0"
    ∷ codes "reapply never"
    ∷ codes "state open"
    ∷ codes "end"
    ∷ []

-- the number that is drawn behind this one
abbrev pub next_draw : ℕ → ℕ
next_draw drawn = (1103515245 * drawn + 12345) % 2147483648

-- the number that is drawn at this place, counted from 1, where the draws begin with this one
abbrev pub draw_at : ℕ → ℕ → ℕ
draw_at first zero = first
draw_at first (suc place) = next_draw (draw_at first place)

-- the second number of the version of `agentd` on the computer at this place: 0 or 1
abbrev pub minor : ℕ → ℕ → ℕ
minor number place = draw_at number place / 65536 % 2

-- the name of the computer at this place
abbrev pub computer_name : ℕ → List ℕ
computer_name place = codes "c" ++ decimal place

-- the computer at this place, on which `agentd` has this second number
unfoldable pub computer_lines : ℕ → ℕ → List (List ℕ)
computer_lines place digit =
    line_of (codes "computer" ∷ computer_name place ∷ codes "r1" ∷ [])
    ∷ codes "world"
    ∷ line_of (codes "name" ∷ computer_name place ∷ [])
    ∷ codes "system 12.4 Debian"
    ∷ codes "offset 0"
    ∷ codes "moment 1000"
    ∷ (codes "package 1." ++ decimal digit ++ codes " agentd")
    ∷ codes "program 0 0 upgrade agentd"
    ∷ codes "gives 1.2 agentd"
    ∷ codes "end"
    ∷ []

-- the turn of the computer at this place, and its report
unfoldable pub turn_lines : ℕ → List (List ℕ)
turn_lines place =
    line_of (codes "turn" ∷ computer_name place ∷ codes "1000" ∷ [])
    ∷ line_of (codes "report" ∷ computer_name place ∷ [])
    ∷ []

-- the places of so many computers: 1, 2 and on
abbrev pub places : ℕ → List ℕ
places number = range_with_len 1 number

-- the lines of so many computers, and of their turns
abbrev pub computers_lines : ℕ → List (List ℕ)
computers_lines number = flat_map (λ place. computer_lines place (minor number place)) (places number)

abbrev pub turns_lines : ℕ → List (List ℕ)
turns_lines number = flat_map turn_lines (places number)

-- the lines for so many computers
abbrev pub made_lines : ℕ → List (List ℕ)
made_lines number =
    (codes "office" ∷ codes "publish" ∷ [])
    ++ site_lines
    ++ (codes "act" ∷ action_lines)
    ++ (codes "relay r1" ∷ computers_lines number)
    ++ (codes "gather r1" ∷ turns_lines number)
    ++ (codes "forward r1" ∷ codes "end" ∷ [])

-- the text for so many computers
abbrev pub office_of : ℕ → List ℕ
office_of number = lines_text (made_lines number)

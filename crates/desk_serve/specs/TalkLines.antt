-- What is printed of a conversation.
use Rattle.std.specs.Prelude.{ℕ, List, [], ◌++◌, codes, decimal}
use Rattle.desk_http.specs.declared.talk.Met.{Met}
use Rattle.desk_http.specs.declared.talk.Met.TheVariants as met

-- its line; a conversation in which memory ran out has none
abbrev pub talk_line : Met → List ℕ
talk_line (met.Answered status) = codes "answered " ++ decimal status ++ codes "\n"
talk_line met.Closed = codes "closed\n"
talk_line met.DoorFault = codes "door fault\n"
talk_line met.Memory = []

-- What a host answers.
use Rattle.std.specs.Prelude.{⊤}
use Rattle.http.specs.StatusCode.{IsStatusCode}
use Rattle.desk_http.specs.declared.host.Called.{Called}
use Rattle.desk_http.specs.declared.host.Called.TheVariants.{Answer, Memory}

-- an answer has a status from 100 to 999
abbrev pub HasStatus : Called → Type 0
HasStatus (Answer status body) = IsStatusCode status
HasStatus Memory = ⊤

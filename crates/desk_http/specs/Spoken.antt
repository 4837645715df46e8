-- The bytes of a response.
use Rattle.std.specs.Prelude.{ℕ, ◌++◌, ◌==◌, List, length, codes, decimal, unwrap_or, if◌then◌else◌}
use Rattle.http.specs.StatusCode.{reason_phrase, code_digits}
use Rattle.desk_http.specs.declared.request.Refusal.{Refusal}
use Rattle.desk_http.specs.declared.request.Refusal.TheVariants.{BadRequest, NoSuch, TooLong}

-- the words that go with a status: those of the registry of status codes, but for 413 the newer ones
unfoldable pub reason : ℕ → List ℕ
reason status = if status == 413 then codes "Content Too Large" else unwrap_or (reason_phrase status) (codes "")

-- the head of a response with a body of so many bytes
unfoldable pub spoken_head : ℕ → ℕ → List ℕ
spoken_head status count =
    codes "HTTP/1.1 " ++ code_digits status ++ codes " " ++ reason status
    ++ codes "\r\nContent-Length: " ++ decimal count ++ codes "\r\nConnection: close\r\n\r\n"

-- The response of a status and a body.
abbrev pub spoken : ℕ → List ℕ → List ℕ
spoken status body = spoken_head status (length body) ++ body

-- the status and the body of each refusal
abbrev pub status_of : Refusal → ℕ
status_of BadRequest = 400
status_of NoSuch = 404
status_of TooLong = 413

abbrev pub text_of : Refusal → List ℕ
text_of BadRequest = codes "bad request\n"
text_of NoSuch = codes "no such\n"
text_of TooLong = codes "too long\n"

-- the body at want of memory, whose status is 503
abbrev pub memory_text : List ℕ
memory_text = codes "memory\n"

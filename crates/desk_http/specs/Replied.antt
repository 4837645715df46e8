-- What the bytes of a reply say.
use Rattle.std.specs.Prelude.{◌≡◌, ℕ, ◌≤◌, List, length, map, Some, ⊤}
use Rattle.httparse.specs.Grammar.{ResponseHead, ReadsResponse, print_response, status_code}
use Rattle.httparse.specs.Spans.{name_and_value}
use Rattle.desk_http.specs.declared.reply.ReadReply.{ReadReply}
use Rattle.desk_http.specs.declared.reply.ReadReply.TheVariants.{Reply, Bad, Memory}
use Rattle.desk_http.specs.Fields.{reply_length}

-- The bytes are a head of at most 16,384 bytes and 64 fields, with this status, and the body, whose length it states.
pub record IsReply (bytes : List ℕ) (status : ℕ) (body : List ℕ) : Type 0 where
  pub head : ResponseHead
  pub reads : ReadsResponse bytes head body
  pub short : length (print_response head) ≤ 16384
  pub few : length head.fields ≤ 64
  pub code : status ≡ status_code head
  pub stated : reply_length (map name_and_value head.fields) ≡ Some (length body)

-- the bytes are no reply
abbrev pub IsNoReply : List ℕ → Type 0
IsNoReply bytes = (status : ℕ) (body : List ℕ) → ¬ IsReply bytes status body

-- What is read of the bytes.
abbrev pub ReadsReply : List ℕ → ReadReply → Type 0
ReadsReply bytes (Reply status body) = IsReply bytes status body
ReadsReply bytes Bad = IsNoReply bytes
ReadsReply bytes Memory = ⊤

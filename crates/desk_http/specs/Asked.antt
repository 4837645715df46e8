-- The bytes of a request.
use Rattle.std.specs.Prelude.{ℕ, ◌++◌, List, length, codes, decimal}
use Rattle.route_rules.specs.declared.method.Asking.{Asking}
use Rattle.route_rules.specs.Routes.{method_word}

-- The request of a method, a path and a body.
unfoldable pub ask_text : Asking → List ℕ → List ℕ → List ℕ
ask_text asking path body =
    method_word asking ++ codes " " ++ path ++ codes " HTTP/1.1\r\nHost: desk\r\nContent-Length: " ++ decimal (length body)
    ++ codes "\r\n\r\n" ++ body

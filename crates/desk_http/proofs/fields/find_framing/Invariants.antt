use Rattle.std.proofs.Common.{◌≡◌, ℕ, List, ◌++◌, length, map, All}
use Rattle.httparse.specs.Spans.{IsHeaderWithin, header_bytes}
use Rattle.desk_http.specs.Reading.{IsFraming}
use Rattle.desk_http.proofs.fields.find_framing.Given as goal

abbrev pub invariant-loop-rest : goal.invariant-loop-rest
invariant-loop-rest l = record {
  seen : List (List ℕ × List ℕ);
  found : IsFraming l.buf seen (record { coding = l.coding; host = l.host; size = l.size });
  whole : map (header_bytes l.buf) l.fields ≡ seen ++ map (header_bytes l.buf) l.rest;
  within : All (IsHeaderWithin (length l.buf)) l.rest;
}

abbrev pub decreases-loop-rest : goal.decreases-loop-rest
decreases-loop-rest l = length l.rest

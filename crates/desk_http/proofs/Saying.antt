-- The responses that are written out, and what one write after another does.
use Rattle.std.proofs.Common.{◌≡◌, ℕ, List, ◌++◌, Option, None, Some, codes, refl, sym, ap, subst, ◌∙◌, append_assoc}
use Rattle.std.specs.Fmt.{digits}
use Rattle.std.specs.Io.KnownBytes.{Appends}
use Rattle.desk_base.specs.Counts.{CountsFaults}
use Rattle.desk_base.specs.Flow.{AppendsFront, Puts}
use Rattle.desk_base.specs.declared.sink.Put.{Put}
use Rattle.desk_base.specs.declared.sink.Put.TheVariants as put
use Rattle.desk_door.specs.Doors.{DoorView, WritesOut, here}
use Rattle.desk_http.specs.Spoken.{spoken, spoken_head, reason, memory_text}

pub said_bad : spoken 400 (codes "bad request\n") ≡ codes "HTTP/1.1 400 Bad Request\r\nContent-Length: 12\r\nConnection: close\r\n\r\nbad request\n"
unfolding spoken_head reason digits
said_bad = refl

pub said_none : spoken 404 (codes "no such\n") ≡ codes "HTTP/1.1 404 Not Found\r\nContent-Length: 8\r\nConnection: close\r\n\r\nno such\n"
unfolding spoken_head reason digits
said_none = refl

pub said_long : spoken 413 (codes "too long\n") ≡ codes "HTTP/1.1 413 Content Too Large\r\nContent-Length: 9\r\nConnection: close\r\n\r\ntoo long\n"
unfolding spoken_head reason digits
said_long = refl

pub said_memory : spoken 503 memory_text ≡ codes "HTTP/1.1 503 Service Unavailable\r\nContent-Length: 7\r\nConnection: close\r\n\r\nmemory\n"
unfolding spoken_head reason digits
said_memory = refl

pub ruleset said_refusals = (said_bad, said_none, said_long)

-- a front of the second piece, behind the first
front_behind : (x y z : Option (List ℕ)) (a b : List ℕ) → Appends x y a → AppendsFront y z b → AppendsFront x z (a ++ b)
front_behind None y z a b p q = tt
front_behind (Some x) None z a b p q = absurd p
front_behind (Some x) (Some y) None a b p q = absurd q
front_behind (Some x) (Some y) (Some z) a b p q =
    (a ++ q.0, q.1, ap (λ l. a ++ l) q.2 ∙ sym (append_assoc a q.0 q.1), q.3 ∙ ap (λ l. l ++ q.0) p ∙ append_assoc x a q.0)

both_append : (x y z : Option (List ℕ)) (a b : List ℕ) → Appends x y a → Appends y z b → Appends x z (a ++ b)
both_append None y z a b p q = tt
both_append (Some x) None z a b p q = absurd p
both_append (Some x) (Some y) None a b p q = absurd q
both_append (Some x) (Some y) (Some z) a b p q = q ∙ ap (λ l. l ++ b) p ∙ append_assoc x a b

both_put : (x y z : Option (List ℕ)) (a b : List ℕ) (answer : Put) → Appends x y a → Puts y z answer b → Puts x z answer (a ++ b)
both_put x y z a b put.Done p q = both_append x y z a b p q
both_put x y z a b put.Failed p q = front_behind x y z a b p q

-- two pieces, the second where the first was written whole
pub writes_both : (a b : List ℕ) (old mid new : DoorView) (answer : Put) → WritesOut a old put.Done mid → WritesOut b mid answer new → WritesOut (a ++ b) old answer new
writes_both a b old mid new answer p q = record {
  puts = both_put (here old.written) (here mid.written) (here new.written) a b answer p.puts q.puts;
  earlier = q.earlier ∙ p.earlier;
  nowhere = λ none. q.nowhere (p.nowhere none);
  ports = q.ports ∙ p.ports;
  coming = q.coming ∙ p.coming;
  left = q.left ∙ p.left;
  ended = q.ended ∙ p.ended;
  counts = subst (λ n. CountsFaults (answer ≡ put.Failed) n new.faults) (p.counts.steady (λ e. cc e)) q.counts;
}

-- or the first of them alone
front_of : (x y : Option (List ℕ)) (a b : List ℕ) → AppendsFront x y a → AppendsFront x y (a ++ b)
front_of None y a b p = tt
front_of (Some x) None a b p = absurd p
front_of (Some x) (Some y) a b p = (p.0, p.1 ++ b, ap (λ l. l ++ b) p.2 ∙ append_assoc p.0 p.1 b, p.3)

pub writes_first : (a b : List ℕ) (old new : DoorView) → WritesOut a old put.Failed new → WritesOut (a ++ b) old put.Failed new
writes_first a b old new p = record {
  puts = front_of (here old.written) (here new.written) a b p.puts;
  earlier = p.earlier;
  nowhere = p.nowhere;
  ports = p.ports;
  coming = p.coming;
  left = p.left;
  ended = p.ended;
  counts = p.counts;
}

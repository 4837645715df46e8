-- Bytes that are taken one piece after another.
use Rattle.std.proofs.Common.{◌≡◌, ℕ, ◌+◌, ◌≤◌, List, [], ◌++◌, Option, None, Some, length, length-append, sym, ap, subst, ◌∙◌, arith, append-nil, append_assoc}
use Rattle.std.specs.Io.KnownBytes.{Consumes, Keeps, IsAtEnd}
use Rattle.std.proofs.KnownBytes.{Consumes-kept, Consumes-nil, Consumes-trans}
use Rattle.desk_http.specs.Reading.{Grew, TakesAtMost}

pub taken_on : (old mid new : Option (List ℕ)) (buf buf' : List ℕ) → Consumes old mid buf → Grew mid new buf buf' → Consumes old new buf'
taken_on old mid new buf buf' taken grew =
    subst (λ l. Consumes old new l) (sym grew.2) (Consumes-trans old mid new buf grew.0 taken grew.1)

pub grew_none : (old : Option (List ℕ)) (buf : List ℕ) → Grew old old buf buf
grew_none old buf = ([], Consumes-nil old, sym (append-nil buf))

pub grew_on : (old mid new : Option (List ℕ)) (buf buf' buf'' : List ℕ) → Grew old mid buf buf' → Grew mid new buf' buf'' → Grew old new buf buf''
grew_on old mid new buf buf' buf'' p q =
    (p.0 ++ q.0, Consumes-trans old mid new p.0 q.0 p.1 q.1, q.2 ∙ ap (λ l. l ++ q.0) p.2 ∙ append_assoc buf p.0 q.0)

pub grew_kept : (old mid new : Option (List ℕ)) (buf buf' buf'' : List ℕ) → Grew old mid buf buf' → Keeps mid new → buf'' ≡ buf' → Grew old new buf buf''
grew_kept old mid new buf buf' buf'' p kept same = (p.0, Consumes-kept old mid new p.0 p.1 kept, same ∙ p.2)

pub at_most : (old new : Option (List ℕ)) (buf : List ℕ) (most : ℕ) → Consumes old new buf → length buf ≤ most → TakesAtMost old new most
at_most old new buf most taken few = (buf, taken, few)

pub at_most_kept : (old mid new : Option (List ℕ)) (buf : List ℕ) (most : ℕ) → Consumes old mid buf → Keeps mid new → length buf ≤ most → TakesAtMost old new most
at_most_kept old mid new buf most taken kept few = (buf, Consumes-kept old mid new buf taken kept, few)

pub at_most_more : (old mid new : Option (List ℕ)) (buf bytes : List ℕ) (most : ℕ) → Consumes old mid buf → Consumes mid new bytes → length buf + length bytes ≤ most → TakesAtMost old new most
at_most_more old mid new buf bytes most taken more few =
    (buf ++ bytes, Consumes-trans old mid new buf bytes taken more, omega (arith, few, length-append buf bytes))

pub at_most_both : (old mid new : Option (List ℕ)) (buf : List ℕ) (some most : ℕ) → Consumes old mid buf → TakesAtMost mid new some → length buf + some ≤ most → TakesAtMost old new most
at_most_both old mid new buf some most taken more few =
    at_most_more old mid new buf more.0 most taken more.1 (omega (arith, few, more.2))

pub closed_at : (old mid new : Option (List ℕ)) (buf : List ℕ) → Consumes old mid buf → buf ≡ [] → Keeps mid new → IsAtEnd new → IsAtEnd old × Keeps old new
closed_at None mid new buf taken empty kept end = (tt, tt)
closed_at (Some xs) None new buf taken empty kept end = absurd taken
closed_at (Some xs) (Some ys) None buf taken empty kept end = absurd kept
closed_at (Some xs) (Some ys) (Some zs) buf taken empty kept end =
    let same : xs ≡ ys = taken ∙ ap (λ l. l ++ ys) empty in
    (same ∙ sym kept ∙ end, kept ∙ sym same)

-- how long what has grown is
pub grew_length : (old new : Option (List ℕ)) (buf buf' : List ℕ) (grew : Grew old new buf buf') → length buf' ≡ length buf + length grew.0
grew_length old new buf buf' grew = ap length grew.2 ∙ length-append buf grew.0

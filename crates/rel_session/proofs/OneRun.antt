-- Where no look fails one thing is said of lines.
use Rattle.std.proofs.Common.{◌≡◌, ℕ, zero, suc, ◌+◌, ℤ, Bool, true, false, List, [], ◌∷◌, ◌++◌, drop, get_or, None, Some, inl, inr, refl, sym, ap, ◌∙◌, subst, arith}
use Rattle.std.proofs.lemmas.Bool.{false≢true}
use Rattle.std.proofs.lemmas.Fmt.{decimal_injective}
use Rattle.std.proofs.lemmas.List.{append_cancel_left, same_from_push}
use Rattle.std.specs.Prelude.{codes, decimal}
use Rattle.std.specs.declared.option.Option.{Option}
use Rattle.bf_world.specs.Worlds.{WorldState}
use Rattle.rel_lexer.specs.declared.place.Place.{Place}
use Rattle.rel_value.specs.Texts.{text_of}
use Rattle.rel_trace.specs.Trace.{Stop, Error, Look, Turn, Give, Trace, Ends, After}
use Rattle.rel_nodes.specs.Spans.{span_of_node}
use Rattle.rel_eval.specs.Cuts.{meaning}
use Rattle.rel_eval.specs.Questions.{Reading, question, refused, undefined}
use Rattle.rel_session.specs.declared.line.Line.{Line}
use Rattle.rel_session.specs.declared.line.Line.TheVariants.{Question, Page, More, NoCommand}
use Rattle.rel_session.specs.Printed.{said_question, said_value}
use Rattle.rel_session.specs.Readings.{OneReading, Readings}
use Rattle.rel_session.specs.Sessions.{Paused, Session, Run, saying, after, pausing, scene_at, more_line, begins_with_colon, IsPageLine, Asks, IsGiven, TellsOf, AnswersReading, AnswersText, GoesOnWith, Answers, RunsLine, Runs}
use Rattle.rel_session.specs.Tellings.{Telling, onto, GoesOn, Tells, room_of}

-- ---- a telling

goes_on_once : (room : Option ℕ) (t : Trace) (tells : Option ℕ → Telling → Type 0) → ((left : Option ℕ) (x y : Telling) → tells left x → tells left y → x.faults ≡ 0 → y.faults ≡ 0 → x ≡ y)
    → (x y : Telling) → GoesOn room t tells x → GoesOn room t tells y → x.faults ≡ 0 → y.faults ≡ 0 → x ≡ y
goes_on_once None t tells one x y p q a b = one None x y p q a b
goes_on_once (Some zero) t tells one x y p q a b = p ∙ sym q
goes_on_once (Some (suc n)) t tells one x y p q a b = one (Some n) x y p q a b

-- a telling in which a look failed has one such look
one_failed : (x u : Telling) → x ≡ u → u.faults ≡ 1 → x.faults ≡ 0 → ⊥
one_failed x u is fault none = let one : x.faults ≡ u.faults = ap (λ l. l.faults) is in absurd (omega arith)

pub tells_once : (offset : ℤ) (span : Place) (room : Option ℕ) (t : Trace) (x y : Telling) → Tells offset span room t x → Tells offset span room t y → x.faults ≡ 0 → y.faults ≡ 0 → x ≡ y
unfolding Tells
tells_once offset span room (Ends Stop) x y p q a b = p ∙ sym q
tells_once offset span room (Ends (Error kind place)) x y p q a b = p ∙ sym q
tells_once offset span room (After (Look place key) t) x y (inl p) q a b = absurd (one_failed x _ p refl a)
tells_once offset span room (After (Look place key) t) x y (inr p) (inl q) a b = absurd (one_failed y _ q refl b)
tells_once offset span room (After (Look place key) t) x y (inr (u, told, is)) (inr (v, told', is')) a b =
    let same : u ≡ v = tells_once offset span room t u v told told' (sym (ap (λ l. l.faults) is) ∙ a) (sym (ap (λ l. l.faults) is') ∙ b) in
    is ∙ ap (onto [] (key ∷ [])) same ∙ sym is'
tells_once offset span room (After (Turn place) t) x y p q a b = tells_once offset span room t x y p q a b
tells_once offset span room (After (Give v) t) x y (inl (long, p)) (inl (long', q)) a b = p ∙ sym q
tells_once offset span room (After (Give v) t) x y (inl (long, p)) (inr (short, q)) a b = absurd (omega arith)
tells_once offset span room (After (Give v) t) x y (inr (short, p)) (inl (long, q)) a b = absurd (omega arith)
tells_once offset span room (After (Give v) t) x y (inr (short, (u, goes, is))) (inr (short', (w, goes', is'))) a b =
    let same : u ≡ w = goes_on_once room t (λ left. Tells offset span left t) (λ left x' y' p q. tells_once offset span left t x' y' p q) u w goes goes' (sym (ap (λ l. l.faults) is) ∙ a) (sym (ap (λ l. l.faults) is') ∙ b) in
    is ∙ ap (onto (said_value (text_of offset v)) []) same ∙ sym is'

-- ---- a line

-- the two are one
abbrev SameEnd : Run → Run → Session → Session → Type 0
SameEnd x y s s' = (x ≡ y) × (s ≡ s')

tells_of_once : (offset : ℤ) (s : Session) (given : WorldState → Trace) (w : WorldState) (span : Place) (x y : Run) (a b : Session) → TellsOf offset s (IsGiven (Some w) given) span x a → TellsOf offset s (IsGiven (Some w) given) span y b
    → x.faults ≡ 0 → y.faults ≡ 0 → SameEnd x y a b
tells_of_once offset s given w span x y a b (told, (t, is, tells), ran, next) (told', (t', is', tells'), ran', next') none none' =
    let Of : Trace → Type 0 = λ z. Tells offset span (room_of s.page) z told' in
    let same : told ≡ told' = tells_once offset span (room_of s.page) t told told' tells (subst Of (is' ∙ sym is) tells') (sym (ap (λ r. r.faults) ran) ∙ none) (sym (ap (λ r. r.faults) ran') ∙ none') in
    (ran ∙ ap (λ u. record { bytes = u.bytes; looks = u.looks; faults = u.faults }) same ∙ sym ran', next ∙ ap (λ u. pausing s u.rest span) same ∙ sym next')

reading_answers_once : (w : WorldState) (moment offset : ℤ) (s : Session) (reading : Reading) (x y : Run) (a b : Session) → AnswersReading (Some w) moment offset s reading x a → AnswersReading (Some w) moment offset s reading y b → x.faults ≡ 0 → y.faults ≡ 0 → SameEnd x y a b
reading_answers_once w moment offset s (question plan) x y a b p q none none' = tells_of_once offset s (λ v. meaning v (scene_at moment offset) plan) w (span_of_node plan) x y a b p q none none'
reading_answers_once w moment offset s (refused kind place) x y a b p q none none' = (p.0 ∙ sym q.0, p.1 ∙ sym q.1)
reading_answers_once w moment offset s (undefined place words) x y a b p q none none' = (p.0 ∙ sym q.0, p.1 ∙ sym q.1)

text_answers_once : (reads : Readings) → OneReading reads → (w : WorldState) (moment offset : ℤ) (s : Session) (text : List ℕ) (x y : Run) (a b : Session) → AnswersText reads (Some w) moment offset s text x a → AnswersText reads (Some w) moment offset s text y b → x.faults ≡ 0 → y.faults ≡ 0 → SameEnd x y a b
unfolding AnswersText
text_answers_once reads only w moment offset s text x y a b p q none none' =
    let Answered : Reading → Type 0 = λ r. AnswersReading (Some w) moment offset s r y b in
    reading_answers_once w moment offset s p.0 x y a b p.2 (subst Answered (sym (only text p.0 q.0 p.1 q.1)) q.2) none none'

goes_on_with_once : (w : WorldState) (offset : ℤ) (s : Session) (paused : List Paused) (x y : Run) (a b : Session) → GoesOnWith (Some w) offset s paused x a → GoesOnWith (Some w) offset s paused y b → x.faults ≡ 0 → y.faults ≡ 0 → SameEnd x y a b
goes_on_with_once w offset s [] x y a b p q none none' = (p.0 ∙ sym q.0, p.1 ∙ sym q.1)
goes_on_with_once w offset s (first ∷ rest) x y a b (before, latest, is, tells) (before', latest', is', tells') none none' =
    let same = same_from_push before before' latest latest' (sym is ∙ is') in
    let Before : List Paused → Type 0 = λ l. TellsOf offset (record s { paused = l }) (IsGiven (Some w) (λ v. latest'.rest)) latest'.span y b in
    let Latest : Paused → Type 0 = λ l. TellsOf offset (record s { paused = before }) (IsGiven (Some w) (λ v. l.rest)) l.span y b in
    tells_of_once offset (record s { paused = before }) (λ v. latest.rest) w latest.span x y a b tells (subst Latest (sym same.1) (subst Before (sym same.0) tells')) none none'

page_begins : (line : List ℕ) (size : ℕ) → IsPageLine line size → begins_with_colon line ≡ true
page_begins line size is = ap begins_with_colon is.1

more_begins : (line : List ℕ) → line ≡ more_line → begins_with_colon line ≡ true
more_begins line is = ap begins_with_colon is

page_or_more : (line : List ℕ) (size : ℕ) → IsPageLine line size → line ≡ more_line → ⊥
page_or_more line size is more =
    let p : get_or line 1 0 ≡ 112 = ap (λ l. get_or l 1 0) is.1 in
    let m : get_or line 1 0 ≡ 109 = ap (λ l. get_or l 1 0) more in
    absurd (omega arith)

other : (colon : Bool) → colon ≡ false → colon ≡ true → ⊥
other colon no_colon one = false≢true (sym no_colon ∙ one)

asks_once : (line : List ℕ) (x y : Line) → Asks line x → Asks line y → x ≡ y
asks_once line Question Question p q = refl
asks_once line Question (Page size) p q = absurd (other _ p (page_begins line size q))
asks_once line Question More p q = absurd (other _ p (more_begins line q))
asks_once line Question NoCommand p q = absurd (other _ p q.0)
asks_once line (Page size) Question p q = absurd (other _ q (page_begins line size p))
asks_once line (Page size) (Page size') p q = ap Page (decimal_injective size size' (omega (arith, p.0)) (omega (arith, q.0)) (append_cancel_left (codes ":page ") (decimal size) (decimal size') (sym p.1 ∙ q.1)))
asks_once line (Page size) More p q = absurd (page_or_more line size p q)
asks_once line (Page size) NoCommand p q = absurd (q.2 size p)
asks_once line More Question p q = absurd (other _ q (more_begins line p))
asks_once line More (Page size) p q = absurd (page_or_more line size q p)
asks_once line More More p q = refl
asks_once line More NoCommand p q = absurd (q.1 p)
asks_once line NoCommand Question p q = absurd (other _ q p.0)
asks_once line NoCommand (Page size) p q = absurd (p.2 size q)
asks_once line NoCommand More p q = absurd (p.1 q)
asks_once line NoCommand NoCommand p q = refl

-- the moments behind those that a line used are the same too
abbrev SameLine : List ℤ → List ℤ → Run → Run → Session → Session → Type 0
SameLine later later' x y a b = (later ≡ later') × (x ≡ y) × (a ≡ b)

head_same : (x y : ℤ) (xs ys : List ℤ) → x ∷ xs ≡ y ∷ ys → (x ≡ y) × (xs ≡ ys)
head_same x y xs ys e = (ap (λ l. get_or l 0 x) e, ap (λ l. drop 1 l) e)

none_used : (now now' later later' : List ℤ) → now ≡ [] → now' ≡ [] → now ++ later ≡ now' ++ later' → later ≡ later'
none_used now now' later later' p q is = sym (ap (λ l. l ++ later) p) ∙ is ∙ ap (λ l. l ++ later') q

answers_once : (reads : Readings) → OneReading reads → (w : WorldState) (offset : ℤ) (s : Session) (line : List ℕ) (what : Line) (now now' later later' : List ℤ) (x y : Run) (a b : Session)
    → Answers reads (Some w) offset s line what now x a → Answers reads (Some w) offset s line what now' y b → now ++ later ≡ now' ++ later' → x.faults ≡ 0 → y.faults ≡ 0 → SameLine later later' x y a b
answers_once reads only w offset s line Question now now' later later' x y a b (moment, is, p) (moment', is', q) all none none' =
    let same = head_same moment moment' later later' (sym (ap (λ l. l ++ later) is) ∙ all ∙ ap (λ l. l ++ later') is') in
    let At : ℤ → Type 0 = λ m. AnswersText reads (Some w) m offset s line y b in
    let one = text_answers_once reads only w moment offset s line x y a b p (subst At (sym same.0) q) none none' in
    (same.1, one.0, one.1)
answers_once reads only w offset s line (Page size) now now' later later' x y a b (is, ran, next) (is', ran', next') all none none' = (none_used now now' later later' is is' all, ran ∙ sym ran', next ∙ sym next')
answers_once reads only w offset s line More now now' later later' x y a b (is, p) (is', q) all none none' =
    let one = goes_on_with_once w offset s s.paused x y a b p q none none' in
    (none_used now now' later later' is is' all, one.0, one.1)
answers_once reads only w offset s line NoCommand now now' later later' x y a b (is, ran, next) (is', ran', next') all none none' = (none_used now now' later later' is is' all, ran ∙ sym ran', next ∙ sym next')

line_runs_once : (reads : Readings) → OneReading reads → (w : WorldState) (offset : ℤ) (s : Session) (line : List ℕ) (now now' later later' : List ℤ) (x y : Run) (a b : Session)
    → RunsLine reads (Some w) offset s line now x a → RunsLine reads (Some w) offset s line now' y b → now ++ later ≡ now' ++ later' → x.faults ≡ 0 → y.faults ≡ 0 → SameLine later later' x y a b
line_runs_once reads only w offset s line now now' later later' x y a b (what, asks, (answer, p, is)) (what', asks', (answer', q, is')) all none none' =
    let Asked : Line → Type 0 = λ l. Answers reads (Some w) offset s line l now' answer' b in
    let zero : 0 + answer.faults ≡ 0 = sym (ap (λ r. r.faults) is) ∙ none in
    let zero' : 0 + answer'.faults ≡ 0 = sym (ap (λ r. r.faults) is') ∙ none' in
    let one = answers_once reads only w offset s line what now now' later later' answer answer' a b p (subst Asked (sym (asks_once line what what' asks asks')) q) all (omega arith) (omega arith) in
    (one.0, is ∙ ap (after (saying (said_question line))) one.1 ∙ sym is', one.2)

-- ---- lines

pub runs_once : (reads : Readings) → OneReading reads → (w : WorldState) (offset : ℤ) (s : Session) (lines : List (List ℕ)) (moments : List ℤ) (a b : Run) → Runs reads (Some w) offset s lines moments a → Runs reads (Some w) offset s lines moments b → a.faults ≡ 0 → b.faults ≡ 0 → a ≡ b
runs_once reads only w offset s [] moments a b p q none none' = p.1 ∙ sym q.1
runs_once reads only w offset s (line ∷ lines) moments a b (now, later, all, (first, next, ran, (rest, runs, is))) (now', later', all', (first', next', ran', (rest', runs', is'))) none none' =
    let sum : first.faults + rest.faults ≡ 0 = sym (ap (λ r. r.faults) is) ∙ none in
    let sum' : first'.faults + rest'.faults ≡ 0 = sym (ap (λ r. r.faults) is') ∙ none' in
    let one = line_runs_once reads only w offset s line now now' later later' first first' next next' ran ran' (sym all ∙ all') (omega arith) (omega arith) in
    let Later : List ℤ → Type 0 = λ l. Runs reads (Some w) offset next lines l rest' in
    let Next : Session → Type 0 = λ z. Runs reads (Some w) offset z lines later' rest' in
    let others : rest ≡ rest' = runs_once reads only w offset next lines later rest rest' runs (subst Later (sym one.0) (subst Next (sym one.2) runs')) (omega arith) (omega arith) in
    is ∙ ap (λ r. after r rest) one.1 ∙ ap (after first') others ∙ sym is'

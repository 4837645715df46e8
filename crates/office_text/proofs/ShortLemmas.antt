-- Orders of one line, and the fields of their lines.
use Rattle.std.proofs.Common.{ℕ, ◌≡◌, ◌+◌, ◌<◌, ◌==◌, ◌||◌, if◌then◌else◌, List, [], ◌∷◌, ◌++◌, length, Option, Some, None, refl, sym, ap, subst, ◌∙◌, arith, append-nil, length-append}
use Rattle.std.specs.Prelude.{codes, decimal, IsSomeAnd, MatchOption, map}
use Rattle.std.specs.Fmt.{signed_decimal}
use Rattle.std.proofs.lemmas.List.{nil_from_length}
use Rattle.line_forms.specs.FieldLists.{fields_of, line_of}
use Rattle.line_forms.proofs.Passing.{cons_head, cons_tail}
use Rattle.line_forms.proofs.Pieces.{join-pieces}
use Rattle.group_text.specs.Groups.{group_line, match_line}
use Rattle.group_text.specs.Properties.{property_line}
use Rattle.office_text.specs.declared.order.Order.{Order}
use Rattle.office_text.specs.declared.order.Order.TheVariants as order
use Rattle.office_text.specs.declared.word.Word.{Word}
use Rattle.office_text.specs.declared.word.Word.TheVariants as word
use Rattle.office_text.specs.OrderLines.{first_fields, first_line, IsBody, IsEnd, IsSiteEnd}
use Rattle.office_text.specs.OrderReadings.{keyword, IsShort, TakesArguments, TakesField}
use Rattle.office_text.proofs.Fronts.{Lines, nothing, nothing_last, ends_some}
use Rattle.office_text.proofs.BodyLemmas.{content_ends, world_ends}
use Rattle.office_text.proofs.FieldLemmas.{first_again}
use Rattle.office_text.proofs.WordLemmas.{word_sum}

-- the first of some fields
abbrev pub HasFirst : List ℕ → Lines → Lines → Lines → Type 0
HasFirst field old fields more = (rest : Lines) × (fields ≡ field ∷ rest) × (old ≡ rest ++ more)

pub first_of : (o : Order) (field : List ℕ) (old more : Lines) → field ∷ old ≡ first_fields o ++ more → HasFirst field old (first_fields o) more
first_of o field old more e = split (first_fields o) (some o) e
  where
    some : (o : Order) → 0 < length (first_fields o)
    some (order.Publish text) = omega arith
    some other = omega arith

    split : (fields : Lines) → 0 < length fields → field ∷ old ≡ fields ++ more → HasFirst field old fields more
    split [] h e = absurd (omega (arith, h))
    split (x ∷ fields) h e = (fields, ap (λ z. z ∷ fields) (sym (cons_head field x old (fields ++ more) e)), cons_tail field x old (fields ++ more) e)

-- what was found, put into an order
pub mapped : {V : Type 0} (make : V → Order) (taken : Option V) (answer : Option Order) → MatchOption taken (answer ≡ None) (λ v. IsSomeAnd answer (λ o. o ≡ make v)) → MatchOption taken (answer ≡ None) (λ v. answer ≡ Some (make v))
mapped make None answer h = h
mapped make (Some v) None h = absurd h
mapped make (Some v) (Some o) h = ap Some h

-- what the arm of a word takes, which has one field behind it
pub arm : {V : Type 0} (before : List Order) (w : Word) (Is : V → Type 0) (text_of : V → List ℕ) (make : V → Order) (old new : Lines) (taken : Option V) (answer : Option Order) →
    ((v : V) → Is v → IsShort before (make v)) → ((v : V) → IsShort before (make v) → Is v) → ((v : V) → first_fields (make v) ≡ keyword w ∷ text_of v ∷ []) →
    ((o : Order) (rest : Lines) → first_fields o ≡ keyword w ∷ rest → (v : V) × (o ≡ make v)) →
    MatchOption taken (answer ≡ None) (λ v. answer ≡ Some (make v)) → TakesField Is text_of old new taken → TakesArguments before w old new answer
arm {V} before w Is text_of make old new None answer can back spell which e takes =
    let P : Option Order → Type 0 = TakesArguments before w old new in
    subst P (sym e) (λ o more short h.
    let f = first_of o (keyword w) old more h in
    let v = which o f.0 f.1 in
    let S : Order → Type 0 = IsShort before in
    let rest : f.0 ≡ text_of v.0 ∷ [] = cons_tail (keyword w) (keyword w) f.0 (text_of v.0 ∷ []) (sym f.1 ∙ ap first_fields v.1 ∙ spell v.0) in
    takes v.0 more (back v.0 (subst S v.1 short)) (f.2 ∙ ap (λ l. l ++ more) rest))
arm {V} before w Is text_of make old new (Some v) answer can back spell which e takes =
    let P : Option Order → Type 0 = TakesArguments before w old new in
    subst P (sym e) (can v takes.0, ap (λ l. keyword w ∷ l) takes.1 ∙ ap (λ l. l ++ new) (sym (spell v)))

-- a second field is missing
pub no_second : {V : Type 0} (before : List Order) (w : Word) (Is : List ℕ → Type 0) (Also : V → Type 0) (text_of : V → List ℕ) (make : List ℕ → V → Order) (name : List ℕ) (old mid new : Lines) →
    ((o : Order) (rest : Lines) → first_fields o ≡ keyword w ∷ rest → (n : List ℕ) × (v : V) × (o ≡ make n v)) → ((n : List ℕ) (v : V) → first_fields (make n v) ≡ keyword w ∷ n ∷ text_of v ∷ []) →
    ((n : List ℕ) (v : V) → IsShort before (make n v) → Also v) → old ≡ name ∷ mid → TakesField Also text_of mid new None → TakesArguments before w old new None
no_second {V} before w Is Also text_of make name old mid new which spell back first none o more short h =
    let f = first_of o (keyword w) old more h in
    let v = which o f.0 f.1 in
    let S : Order → Type 0 = IsShort before in
    let rest : f.0 ≡ v.0 ∷ text_of v.1 ∷ [] = cons_tail (keyword w) (keyword w) f.0 (v.0 ∷ text_of v.1 ∷ []) (sym f.1 ∙ ap first_fields v.2 ∙ spell v.0 v.1) in
    let all : name ∷ mid ≡ v.0 ∷ text_of v.1 ∷ more = sym first ∙ f.2 ∙ ap (λ l. l ++ more) rest in
    none v.1 more (back v.0 v.1 (subst S v.2 short)) (cons_tail name v.0 mid (text_of v.1 ∷ more) all)

-- a first field is missing
pub no_first : {V : Type 0} (before : List Order) (w : Word) (Is : List ℕ → Type 0) (text_of : V → List ℕ) (make : List ℕ → V → Order) (old mid new : Lines) →
    ((o : Order) (rest : Lines) → first_fields o ≡ keyword w ∷ rest → (n : List ℕ) × (v : V) × (o ≡ make n v)) → ((n : List ℕ) (v : V) → first_fields (make n v) ≡ keyword w ∷ n ∷ text_of v ∷ []) →
    ((n : List ℕ) (v : V) → IsShort before (make n v) → Is n) → TakesField Is (λ n. n) old mid None → TakesArguments before w old new None
no_first {V} before w Is text_of make old mid new which spell back none o more short h =
    let f = first_of o (keyword w) old more h in
    let v = which o f.0 f.1 in
    let S : Order → Type 0 = IsShort before in
    let rest : f.0 ≡ v.0 ∷ text_of v.1 ∷ [] = cons_tail (keyword w) (keyword w) f.0 (v.0 ∷ text_of v.1 ∷ []) (sym f.1 ∙ ap first_fields v.2 ∙ spell v.0 v.1) in
    none v.0 (text_of v.1 ∷ more) (back v.0 v.1 (subst S v.2 short)) (f.2 ∙ ap (λ l. l ++ more) rest)

-- an order of one line has one of the words
abbrev HasWord : Order → Type 0
HasWord o = (w : Word) × (rest : Lines) × (first_fields o ≡ keyword w ∷ rest)

short_word : (o : Order) → IsBody o [] → HasWord o
short_word (order.Publish text) is = absurd (ends_some IsSiteEnd is.0)
short_word (order.Act text) is = absurd (ends_some IsEnd is.0)
short_word (order.Stop id) is = (word.Stop, decimal id ∷ [], refl)
short_word (order.File bytes) is = absurd (ends_some IsEnd (content_ends bytes [] is))
short_word (order.Relay name) is = (word.Relay, name ∷ [], refl)
short_word (order.Computer name relay world) is = absurd (ends_some IsEnd (world_ends [] world is.0))
short_word (order.Gather relay) is = (word.Gather, relay ∷ [], refl)
short_word (order.Turn name moment) is = (word.Turn, name ∷ signed_decimal moment ∷ [], refl)
short_word (order.Restart name) is = (word.Restart, name ∷ [], refl)
short_word (order.Send name seq) is = (word.Send, name ∷ decimal seq ∷ [], refl)
short_word (order.Push relay) is = (word.Push, relay ∷ [], refl)
short_word (order.Deliver message) is = (word.Deliver, decimal message ∷ [], refl)
short_word (order.Report name) is = (word.Report, name ∷ [], refl)
short_word (order.Forward relay) is = (word.Forward, relay ∷ [], refl)
short_word (order.Forget relay) is = (word.Forget, relay ∷ [], refl)
short_word (order.Analysis analysis) is = absurd (nothing_last (map property_line analysis.properties) (codes "end") (cons_tail (codes "analysis") (codes "analysis") _ _ is.lines_are))
short_word (order.Group group) is = absurd (nothing (match_line group.any) _ (cons_tail (group_line group.name) (group_line group.name) _ _ is.lines_are))
short_word (order.Measure name moment) is = (word.Measure, name ∷ signed_decimal moment ∷ [], refl)
short_word (order.Members group) is = (word.Members, group ∷ [], refl)
short_word (order.Target group text) is = absurd (ends_some IsEnd is.0.0)

-- how many fields a first line has, by the sum of its word
abbrev count_of : ℕ → ℕ
count_of s = if s == 99879 || s == 116457 || s == 115426 || s == 109754 then 3 else if s == 112759 || s == 97312 || s == 102416 || s == 97868 then 1 else 2

count_is : (o : Order) → length (first_fields o) ≡ count_of (word_sum (first_fields o))
count_is (order.Publish text) = refl
count_is other = refl

-- the first fields of an order don't go on to those of another
pub no_more_fields : (a b : Order) (rest : Lines) → first_fields b ≡ first_fields a ++ rest → rest ≡ []
no_more_fields a b rest e = none (first_fields a) (first_fields b) (count_is a) (count_is b) e
  where
    none : (x y : Lines) → length x ≡ count_of (word_sum x) → length y ≡ count_of (word_sum y) → y ≡ x ++ rest → rest ≡ []
    none [] y h k e = absurd (let z : 0 ≡ 2 = h in omega arith)
    none (f ∷ x) y h k e =
        let same : length y ≡ length (f ∷ x) = k ∙ ap (λ l. count_of (word_sum l)) e ∙ sym h in
        let long : length y ≡ length (f ∷ x) + length rest = ap (length {A = List ℕ}) e ∙ length-append (f ∷ x) rest in
        nil_from_length rest (omega arith)

-- ---- the line of an order
line_fields : (line : List ℕ) (o : Order) (before : List Order) → IsShort before o → line ≡ first_line o → fields_of line ≡ first_fields o
line_fields line o before short e = ap fields_of e ∙ first_again o [] short.0.form short.1

-- it has no field, or its first one is no word
pub no_field : (before : List Order) (line : List ℕ) → fields_of line ≡ [] → (o : Order) → IsShort before o → ¬ (line ≡ first_line o)
no_field before line none o short e =
    let w = short_word o short.1 in
    nothing (keyword w.0) w.1 (sym none ∙ line_fields line o before short e ∙ w.2)

pub no_word : (before : List Order) (line field : List ℕ) (rest : Lines) → fields_of line ≡ field ∷ rest → ((w : Word) → ¬ (field ≡ keyword w)) → (o : Order) → IsShort before o → ¬ (line ≡ first_line o)
no_word before line field rest is none o short e =
    let w = short_word o short.1 in
    none w.0 (cons_head field (keyword w.0) rest w.1 (sym is ∙ line_fields line o before short e ∙ w.2))

-- the fields behind its word are those of no order
pub no_arguments : (before : List Order) (line field : List ℕ) (w : Word) (old new : Lines) → fields_of line ≡ field ∷ old → field ≡ keyword w → TakesArguments before w old new None → (o : Order) → IsShort before o → ¬ (line ≡ first_line o)
no_arguments before line field w old new is same none o short e =
    none o [] short (ap (λ l. l ∷ old) (sym same) ∙ sym is ∙ line_fields line o before short e ∙ sym (append-nil (first_fields o)))

-- or others stand behind them
pub more_fields : (before : List Order) (line field : List ℕ) (w : Word) (old new : Lines) (order : Order) → fields_of line ≡ field ∷ old → field ≡ keyword w → keyword w ∷ old ≡ first_fields order ++ new → (new ≡ [] → ⊥) → (o : Order) → IsShort before o → ¬ (line ≡ first_line o)
more_fields before line field w old new a is same taken some o short e =
    some (no_more_fields a o new (sym (line_fields line o before short e) ∙ is ∙ ap (λ l. l ∷ old) same ∙ taken))

pub line_is : (line field : List ℕ) (w : Word) (old new : Lines) (order : Order) → fields_of line ≡ field ∷ old → field ≡ keyword w → keyword w ∷ old ≡ first_fields order ++ new → new ≡ [] → line ≡ first_line order
line_is line field w old new a is same taken none =
    sym (join-pieces 32 line) ∙ ap line_of (is ∙ ap (λ l. l ∷ old) same ∙ taken ∙ ap (λ l. first_fields a ++ l) none ∙ append-nil (first_fields a))

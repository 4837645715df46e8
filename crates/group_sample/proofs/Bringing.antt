-- What a pull brings a row, and how the row goes on.
use Rattle.std.proofs.Common.{ℕ, suc, ◌≡◌, ◌+◌, ◌-◌, ◌<◌, ◌≤◌, ℤ, Bool, true, false, List, [], ◌∷◌, ◌++◌, length, All, Option, Result, Ok, Err, IfOk, refl, sym, ap, subst, ◌∙◌, arith, append-nil, length-append}
use Rattle.std.specs.declared.alloc.AllocError.{AllocError}
use Rattle.std.proofs.lemmas.Bool.{le-leb, leb-true, lt-leb}
use Rattle.std.proofs.lemmas.List.Elements.{All-push}
use Rattle.bf_world.specs.declared.key.Key.{Key}
use Rattle.bf_world.specs.Worlds.{WorldState}
use Rattle.rel_lexer.specs.declared.place.Place.{Place}
use Rattle.rel_value.specs.Plain.{Plain}
use Rattle.rel_value.specs.declared.value.Value.{Value}
use Rattle.rel_value.specs.Texts.{text_of}
use Rattle.rel_value.specs.Views.{shown}
use Rattle.rel_trace.specs.declared.kind.RelKind.{RelKind}
use Rattle.rel_trace.specs.Trace.{Stop, Error, Give, Trace, Ends, After}
use Rattle.rel_eval.specs.declared.cursor.Pulled.TheVariants as pulled
use Rattle.rel_eval.specs.Pulls.{Draws}
use Rattle.group_sample.specs.declared.drawing.Brought.{Brought}
use Rattle.group_sample.specs.declared.drawing.Brought.TheVariants as brought
use Rattle.group_sample.specs.declared.drawing.Drawn.{Drawn}
use Rattle.group_sample.specs.Rows.{is_short, most_values}
use Rattle.group_sample.specs.Drawing.{Brings, BringsShort, IsBroughtBy, IsWithin, behind, brought_failed, drawn, ended}
use Rattle.group_sample.proofs.RowDrawing.{behind_both, long_value, short_value, skipped}

-- ---- what a pull brings
pub value_brings : (a b : Option (List Key)) (offset : ℤ) (value : Value) (text : List ℕ) (t rest : Trace) → Draws a t (pulled.Value value) b rest → is_short (text_of offset (shown value)) ≡ true → text ≡ text_of offset (shown value)
    → Brings offset t (brought.Value text) rest
value_brings a b offset value text t rest draws short is room =
    skipped offset room t (After (Give (shown value)) rest) draws.0 draws.2 ∙ short_value offset room (shown value) rest short
    ∙ ap (λ (x : List ℕ). behind (x ∷ []) (drawn offset room rest)) (sym is)

pub long_brings : (a b : Option (List Key)) (offset : ℤ) (value : Value) (t rest : Trace) → Draws a t (pulled.Value value) b rest → is_short (text_of offset (shown value)) ≡ false → Brings offset t (brought.Last true) rest
long_brings a b offset value t rest draws long room =
    skipped offset room t (After (Give (shown value)) rest) draws.0 draws.2 ∙ long_value offset room (shown value) rest long

pub end_brings : (a b : Option (List Key)) (offset : ℤ) (t rest : Trace) → Draws a t pulled.End b rest → Brings offset t (brought.Last false) rest
end_brings a b offset t rest draws room = skipped offset room t (Ends Stop) draws.0 draws.2.0

pub error_brings : (a b : Option (List Key)) (offset : ℤ) (kind : RelKind) (place : Place) (t rest : Trace) → Draws a t (pulled.Error kind place) b rest → Brings offset t (brought.Last true) rest
error_brings a b offset kind place t rest draws room = skipped offset room t (Ends (Error kind place)) draws.0 draws.2.0

pub short_text : (text : List ℕ) → is_short text ≡ true → length text ≤ 1024
short_text text e = leb-true (length text) 1024 e

-- a value, in each world that is told
pub value_brought : (a b : Option (List Key)) (offset : ℤ) (value : Value) (Told : WorldState → Type 0) (old new : WorldState → Trace) (r : Result Brought AllocError) → ((w : WorldState) → Told w → Draws a (old w) (pulled.Value value) b (new w))
    → IfOk r (IsBroughtBy offset (shown value)) → IfOk r (λ x. (w : WorldState) → Told w → Brings offset (old w) x (new w))
value_brought a b offset value Told old new (Ok (brought.Value text)) draws is = λ w told. value_brings a b offset value text (old w) (new w) (draws w told) is.0 is.1
value_brought a b offset value Told old new (Ok (brought.Last error)) draws is = λ w told room. long_brings a b offset value (old w) (new w) (draws w told) is.0 room ∙ ap ended (sym is.1)
value_brought a b offset value Told old new (Ok brought.Nothing) draws is = absurd is
value_brought a b offset value Told old new (Err e) draws is = tt

pub value_short : (offset : ℤ) (value : Value) (r : Result Brought AllocError) → IfOk r (IsBroughtBy offset (shown value)) → IfOk r BringsShort
value_short offset value (Ok (brought.Value text)) is = let P : List ℕ → Type 0 = λ x. length x ≤ 1024 in subst P (sym is.1) (short_text (text_of offset (shown value)) is.0)
value_short offset value (Ok (brought.Last error)) is = tt
value_short offset value (Ok brought.Nothing) is = absurd is
value_short offset value (Err e) is = tt

pub value_answered : (offset : ℤ) (value : Value) (r : Result Brought AllocError) → IfOk r (IsBroughtBy offset (shown value)) → brought_failed r ≡ false
value_answered offset value (Ok (brought.Value text)) is = refl
value_answered offset value (Ok (brought.Last error)) is = refl
value_answered offset value (Ok brought.Nothing) is = absurd is
value_answered offset value (Err e) is = refl

-- ---- how a row goes on
-- so many texts were drawn of all, and this is left
abbrev pub GoesOn : ℤ → Drawn → List (List ℕ) → Trace → Type 0
GoesOn offset whole texts left = whole ≡ behind texts (drawn offset (most_values - length texts) left)

pub goes_first : (offset : ℤ) (whole t : Trace) → whole ≡ t → GoesOn offset (drawn offset most_values whole) [] t
goes_first offset whole t same = ap (drawn offset most_values) same

room_left : (texts : List (List ℕ)) → length texts < most_values → most_values - length texts ≡ suc (most_values - (length texts + 1))
room_left texts few = omega arith

pub goes_value : (offset : ℤ) (whole : Drawn) (texts : List (List ℕ)) (text : List ℕ) (t rest : Trace) → GoesOn offset whole texts t → length texts < most_values → Brings offset t (brought.Value text) rest → GoesOn offset whole (texts ++ text ∷ []) rest
goes_value offset whole texts text t rest so few brings =
    let count : length (texts ++ text ∷ []) ≡ length texts + 1 = length-append texts (text ∷ []) in
    so ∙ ap (λ n. behind texts (drawn offset n t)) (room_left texts few) ∙ ap (behind texts) (brings (most_values - (length texts + 1)))
    ∙ behind_both texts (text ∷ []) (drawn offset (most_values - (length texts + 1)) rest) ∙ ap (λ n. behind (texts ++ text ∷ []) (drawn offset (most_values - n) rest)) (sym count)

pub goes_last : (offset : ℤ) (whole : Drawn) (texts : List (List ℕ)) (error : Bool) (t rest : Trace) → GoesOn offset whole texts t → length texts < most_values → Brings offset t (brought.Last error) rest
    → whole ≡ record { values = texts; error = error }
goes_last offset whole texts error t rest so few brings =
    so ∙ ap (λ n. behind texts (drawn offset n t)) (room_left texts few) ∙ ap (behind texts) (brings (most_values - (length texts + 1)))
    ∙ ap (λ values. let row : Drawn = record { values = values; error = error } in row) (append-nil texts)

pub goes_full : (offset : ℤ) (whole : Drawn) (texts : List (List ℕ)) (t : Trace) → GoesOn offset whole texts t → most_values ≤ length texts → whole ≡ record { values = texts; error = false }
goes_full offset whole texts t so many =
    let none : most_values - length texts ≡ 0 = omega arith in
    so ∙ ap (λ n. behind texts (drawn offset n t)) none ∙ ap (λ values. let row : Drawn = record { values = values; error = false } in row) (append-nil texts)

-- ---- the texts so far
-- what is drawn is known by its parts
pub drawn_parts : (d : Drawn) (texts : List (List ℕ)) (error : Bool) → d.values ≡ texts → d.error ≡ error → d ≡ record { values = texts; error = error }
drawn_parts d texts error v e = λ i. record { values = v i; error = e i }

pub few_more : (texts new : List (List ℕ)) (text : List ℕ) → new ≡ texts ++ text ∷ [] → length texts < most_values → length new ≤ most_values
few_more texts new text put few =
    let count : length new ≡ length texts + 1 = ap (length {A = List ℕ}) put ∙ length-append texts (text ∷ []) in omega arith

pub fewer_left : (texts new : List (List ℕ)) (text : List ℕ) → new ≡ texts ++ text ∷ [] → length texts < most_values → most_values - length new < most_values - length texts
fewer_left texts new text put few =
    let count : length new ≡ length texts + 1 = ap (length {A = List ℕ}) put ∙ length-append texts (text ∷ []) in omega arith

pub short_more : (texts new : List (List ℕ)) (text : List ℕ) → new ≡ texts ++ text ∷ [] → All (λ t. length t ≤ 1024) texts → length text ≤ 1024 → All (λ t. length t ≤ 1024) new
short_more texts new text put are is =
    let P : List ℕ → Type 0 = λ t. length t ≤ 1024 in
    let A : List (List ℕ) → Type 0 = All P in
    subst A (sym put) (All-push P texts text are is)

pub within_bounds : (d : Drawn) (texts : List (List ℕ)) → d.values ≡ texts → length texts ≤ most_values → All (λ t. length t ≤ 1024) texts → IsWithin d
within_bounds d texts v few short =
    let F : List (List ℕ) → Type 0 = λ l. length l ≤ most_values in
    let A : List (List ℕ) → Type 0 = All (λ t. length t ≤ 1024) in
    record { few = subst F (sym v) few; short = subst A (sym v) short }

-- ---- a value's text
pub text_long : (offset : ℤ) (value : Plain) (text : List ℕ) → text ≡ text_of offset value → 1024 < length text → is_short (text_of offset value) ≡ false
text_long offset value text is long = ap is_short (sym is) ∙ lt-leb (length text) 1024 long

pub text_short : (offset : ℤ) (value : Plain) (text : List ℕ) → text ≡ text_of offset value → length text ≤ 1024 → is_short (text_of offset value) ≡ true
text_short offset value text is short = ap is_short (sym is) ∙ le-leb (length text) 1024 short

pub text_longest : (offset : ℤ) (value : Plain) → 1048576 < length (text_of offset value) → is_short (text_of offset value) ≡ false
text_longest offset value long = lt-leb (length (text_of offset value)) 1024 (omega (arith, long))

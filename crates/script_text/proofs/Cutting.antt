-- Where texts may be cut, and runs of bytes.
use Rattle.std.proofs.Common.{suc, zero, ◌≡◌, ℕ, ◌-◌, ◌<◌, ◌≤◌, Bool, true, false, List, [], ◌∷◌, ◌++◌, length, get_or, take, drop, reverse, Some, refl, sym, ap, subst, ◌∙◌, arith, add-one, lit<}
use Rattle.std.specs.Str.{IsUtf8, IsCharBoundary}
use Rattle.std.specs.List.{slice_get}
use Rattle.std.proofs.lemmas.Str.{IsCharBoundary-start, IsCharBoundary-before_ascii, IsCharBoundary-after_ascii, IsUtf8-drop}
use Rattle.std.proofs.lemmas.Bool.{false≢true}
use Rattle.std.proofs.lemmas.Bool.Decides.{nat_tests}
use Rattle.std.proofs.lemmas.List.{take-append-drop, reverse-append}
use Rattle.std.proofs.Math.Seq.{take-suc}
use Rattle.script_text.specs.declared.run.Run.{Run}
use Rattle.script_text.specs.declared.run.Run.TheVariants as run
use Rattle.script_text.specs.Bytes.{is_blank, is_in_field, Each, StopsAt, SplitsRun}
use Rattle.script_text.specs.Runs.{passes}
use Rattle.script_text.specs.Readings.{DropsBlanks}

pub begins_ascii : (text bytes : List ℕ) (b : ℕ) → bytes ≡ text → Some b ≡ slice_get bytes 0 → b < 128 → IsUtf8 text → IsCharBoundary text 1
begins_ascii text [] b e f h u = absurd (let x = f in cc)
begins_ascii text (y ∷ ys) b e f h u =
    let g : b ≡ y = (let x = f in cc) in
    subst (λ l. IsCharBoundary l 1) e (IsCharBoundary-after_ascii (y ∷ ys) 0 (subst IsUtf8 (sym e) u) (omega arith) (subst (λ n. n < 128) g h))

blank_ascii : (b : ℕ) → is_blank b ≡ true → b < 128
blank_ascii b h = grind (arith, nat_tests)

not_field : (b : ℕ) → is_in_field b ≡ false → b < 128
not_field b h = grind (arith, nat_tests)

not_plain : (b : ℕ) → passes run.Plain b ≡ false → b < 128
not_plain b h = grind (arith, nat_tests)

not_quoted : (b : ℕ) → passes run.QuotedPlain b ≡ false → b < 128
not_quoted b h = grind (arith, nat_tests)

not_name : (b : ℕ) → passes run.Name b ≡ false → b < 128
not_name b h = grind (arith, nat_tests)

behind_blanks : (text : List ℕ) (i : ℕ) → IsUtf8 text → i ≤ length text → ((k : ℕ) → k < i → is_blank (get_or text k 0) ≡ true) → IsCharBoundary text i
behind_blanks text zero u l f = IsCharBoundary-start text u
behind_blanks text (suc j) u l f = subst (IsCharBoundary text) (add-one j) (IsCharBoundary-after_ascii text j u (omega arith) (blank_ascii (get_or text j 0) (f j (omega arith))))

-- a run may be cut off where it ends
pub run_boundary : (r : Run) (text : List ℕ) (i : ℕ) → IsUtf8 text → i < length text → ((k : ℕ) → k < i → passes r (get_or text k 0) ≡ true) → passes r (get_or text i 0) ≡ false → IsCharBoundary text i
run_boundary run.Blanks text i u l f n = behind_blanks text i u (omega arith) f
run_boundary run.Field text i u l f n = IsCharBoundary-before_ascii text i l (not_field (get_or text i 0) n)
run_boundary run.Plain text i u l f n = IsCharBoundary-before_ascii text i l (not_plain (get_or text i 0) n)
run_boundary run.QuotedPlain text i u l f n = IsCharBoundary-before_ascii text i l (not_quoted (get_or text i 0) n)
run_boundary run.Name text i u l f n = IsCharBoundary-before_ascii text i l (not_name (get_or text i 0) n)

pub each_take : (p : ℕ → Bool) (xs : List ℕ) (n : ℕ) → n ≤ length xs → ((k : ℕ) → k < n → p (get_or xs k 0) ≡ true) → Each p (take n xs)
each_take p xs zero l f = tt
each_take p [] (suc n) l f = absurd (omega arith)
each_take p (x ∷ xs) (suc n) l f = (f 0 (omega arith), each_take p xs n (omega arith) (λ k h. f (suc k) (omega arith)))

each_drop : (p : ℕ → Bool) (xs : List ℕ) (n : ℕ) → ((k : ℕ) → n ≤ k → k < length xs → p (get_or xs k 0) ≡ true) → Each p (drop n xs)
each_drop p [] zero f = tt
each_drop p (x ∷ xs) zero f = (f 0 (omega arith) (omega arith), each_drop p xs zero (λ k h l. f (suc k) (omega arith) (omega arith)))
each_drop p [] (suc n) f = tt
each_drop p (x ∷ xs) (suc n) f = each_drop p xs n (λ k h l. f (suc k) (omega arith) (omega arith))

stops_drop : (p : ℕ → Bool) (xs : List ℕ) (n : ℕ) → (n < length xs → p (get_or xs n 0) ≡ false) → StopsAt p (drop n xs)
stops_drop p [] zero f = tt
stops_drop p (x ∷ xs) zero f = f (omega arith)
stops_drop p [] (suc n) f = tt
stops_drop p (x ∷ xs) (suc n) f = stops_drop p xs n (λ l. f (omega arith))

-- a text is cut at the first byte that fails
pub splits_at : (p : ℕ → Bool) (text front rest : List ℕ) (n : ℕ) → n ≤ length text → ((k : ℕ) → k < n → p (get_or text k 0) ≡ true) → (n < length text → p (get_or text n 0) ≡ false) → front ≡ take n text → rest ≡ drop n text → SplitsRun p text front rest
splits_at p text front rest n l f s a b = record {
  splits = sym (take-append-drop n text) ∙ ap (λ x. x ++ drop n text) (sym a) ∙ ap (λ x. front ++ x) (sym b);
  passing = subst (Each p) (sym a) (each_take p text n l f);
  stops = subst (StopsAt p) (sym b) (stops_drop p text n s);
}

reverse_stops : (p : ℕ → Bool) (text : List ℕ) (n : ℕ) → n ≤ length text → (0 < n → p (get_or text (n - 1) 0) ≡ false) → StopsAt p (reverse (take n text))
reverse_stops p text zero l f = tt
reverse_stops p text (suc m) l f =
    let e = take-suc text m 0 (omega arith) in
    let g = reverse-append (take m text) (get_or text m 0 ∷ []) in
    let m_is : suc m - 1 ≡ m = omega arith in
    rw (e, g) (subst (λ k. p (get_or text k 0) ≡ false) m_is (f (omega arith)))

-- what is left of a text without the blanks at its end
pub drops_blanks : (text kept : List ℕ) (n : ℕ) → n ≤ length text → ((k : ℕ) → n ≤ k → k < length text → is_blank (get_or text k 0) ≡ true) → (0 < n → is_blank (get_or text (n - 1) 0) ≡ false) → kept ≡ take n text → DropsBlanks text kept
drops_blanks text kept n l f s e =
    (drop n text, sym (take-append-drop n text) ∙ ap (λ x. x ++ drop n text) (sym e), each_drop is_blank text n f, subst (λ x. StopsAt is_blank (reverse x)) (sym e) (reverse_stops is_blank text n l s))

cons_parts : (x y : ℕ) (xs ys : List ℕ) → x ∷ xs ≡ y ∷ ys → (x ≡ y) × (xs ≡ ys)
cons_parts x y xs ys e = ((let f = e in cc), (let f = e in cc))

run_same : (p : ℕ → Bool) (text a b r s : List ℕ) → text ≡ a ++ r → text ≡ b ++ s → Each p a → Each p b → StopsAt p r → StopsAt p s → (a ≡ b) × (r ≡ s)
run_same p text [] [] r s e f ea eb sr ss = (refl, sym e ∙ f)
run_same p text [] (y ∷ b) r s e f ea eb sr ss = absurd (false≢true (sym (subst (StopsAt p) (sym e ∙ f) sr) ∙ eb.0))
run_same p text (x ∷ a) [] r s e f ea eb sr ss = absurd (false≢true (sym (subst (StopsAt p) (sym f ∙ e) ss) ∙ ea.0))
run_same p text (x ∷ a) (y ∷ b) r s e f ea eb sr ss =
    let c = cons_parts x y (a ++ r) (b ++ s) (sym e ∙ f) in
    let h = run_same p (a ++ r) a b r s refl c.1 ea.1 eb.1 sr ss in
    let i = c.0 in let j = h.0 in let k = h.1 in
    ((let q : x ∷ a ≡ y ∷ b = cc in q), k)

-- a text is cut in one way
pub run_one : (p : ℕ → Bool) (text a b r s : List ℕ) → SplitsRun p text a r → SplitsRun p text b s → (a ≡ b) × (r ≡ s)
run_one p text a b r s x y = run_same p text a b r s x.splits y.splits x.passing y.passing x.stops y.stops

drop_past : (xs : List ℕ) (b : ℕ) (ys : List ℕ) → drop (suc (length xs)) (xs ++ b ∷ ys) ≡ ys
drop_past [] b ys = refl
drop_past (x ∷ xs) b ys = drop_past xs b ys

drop_front : (xs ys : List ℕ) → drop (length xs) (xs ++ ys) ≡ ys
drop_front [] ys = refl
drop_front (x ∷ xs) ys = drop_front xs ys

get_past : (xs : List ℕ) (b : ℕ) (ys : List ℕ) → get_or (xs ++ b ∷ ys) (length xs) 0 ≡ b
get_past [] b ys = refl
get_past (x ∷ xs) b ys = get_past xs b ys

short_front : (xs : List ℕ) (b : ℕ) (ys : List ℕ) → length xs < length (xs ++ b ∷ ys)
short_front [] b ys = omega arith
short_front (x ∷ xs) b ys = let h = short_front xs b ys in omega arith

-- what follows an ASCII byte of a text is a text
pub utf8_behind : (text xs : List ℕ) (b : ℕ) (ys : List ℕ) → IsUtf8 text → text ≡ xs ++ b ∷ ys → b < 128 → IsUtf8 ys
utf8_behind text xs b ys u e l =
    let v = subst IsUtf8 e u in
    let at = IsCharBoundary-after_ascii (xs ++ b ∷ ys) (length xs) v (short_front xs b ys) (subst (λ n. n < 128) (sym (get_past xs b ys)) l) in
    let at' = subst (IsCharBoundary (xs ++ b ∷ ys)) (add-one (length xs)) at in
    subst IsUtf8 (drop_past xs b ys) (IsUtf8-drop (xs ++ b ∷ ys) (suc (length xs)) v at')

-- what begins with an ASCII byte in a text is a text
pub utf8_from : (text xs : List ℕ) (b : ℕ) (ys : List ℕ) → IsUtf8 text → text ≡ xs ++ b ∷ ys → b < 128 → IsUtf8 (b ∷ ys)
utf8_from text xs b ys u e l =
    let v = subst IsUtf8 e u in
    let at = IsCharBoundary-before_ascii (xs ++ b ∷ ys) (length xs) (short_front xs b ys) (subst (λ n. n < 128) (sym (get_past xs b ys)) l) in
    subst IsUtf8 (drop_front xs (b ∷ ys)) (IsUtf8-drop (xs ++ b ∷ ys) (length xs) v at)

pub utf8_behind_braces : (rest run left behind : List ℕ) → IsUtf8 rest → rest ≡ run ++ left → left ≡ 123 ∷ 123 ∷ behind → IsUtf8 behind
utf8_behind_braces rest run left behind u e f =
    utf8_behind (123 ∷ 123 ∷ behind) (123 ∷ []) 123 behind (utf8_from rest run 123 (123 ∷ behind) u (e ∙ ap (λ l. run ++ l) f) (lit< tt)) refl (lit< tt)

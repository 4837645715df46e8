-- Templates, part by part.
use Rattle.std.proofs.Common.{suc, ◌≡◌, ◌≢◌, ℕ, ◌<◌, ◌≤◌, ◌⊎◌, Bool, true, false, cond, List, [], ◌∷◌, ◌++◌, length, refl, sym, ap, subst, ◌∙◌, inl, inr, arith, append_assoc, length-append}
use Rattle.std.specs.Prelude.{nat_eq}
use Rattle.std.proofs.lemmas.Bool.{false≢true, eqb-true}
use Rattle.std.proofs.lemmas.Bool.Decides.{nat_tests}
use Rattle.std.specs.Str.{IsUtf8}
use Rattle.std.proofs.lemmas.Str.{IsUtf8-nil}
use Rattle.script_text.proofs.Cutting.{utf8_behind, utf8_from}
use Rattle.script_text.specs.declared.piece.Ending.{Ending}
use Rattle.script_text.specs.declared.piece.Ending.TheVariants as ending
use Rattle.script_text.specs.declared.template.Part2.{Part2}
use Rattle.script_text.specs.declared.template.Part2.TheVariants.{Plain, Expression}
use Rattle.script_text.specs.Bytes.{Each, StopsAt, NotNext, SplitsRun}
use Rattle.script_text.specs.Templates.{IsOpened, OpensNone, doubled, is_plain, EndsPlain, IsPlain, IsPart, AreParts, IsAtEnd}
use Rattle.script_text.specs.Readings.{BeginsDoubled, is_verbatim}

each-append : (p : ℕ → Bool) (xs ys : List ℕ) → Each p xs → Each p ys → Each p (xs ++ ys)
each-append p [] ys h k = k
each-append p (x ∷ xs) ys h k = (h.0, each-append p xs ys h.1 k)

doubled-append : (xs ys : List ℕ) → doubled (xs ++ ys) ≡ doubled xs ++ doubled ys
doubled-append [] ys = refl
doubled-append (x ∷ xs) ys = elim (nat_eq x 123) as (λ t. cond t (123 ∷ 123 ∷ doubled (xs ++ ys)) (x ∷ doubled (xs ++ ys)) ≡ cond t (123 ∷ 123 ∷ doubled xs) (x ∷ doubled xs) ++ doubled ys)
    [ true ↦ ap (λ l. 123 ∷ 123 ∷ l) (doubled-append xs ys) | false ↦ ap (λ l. x ∷ l) (doubled-append xs ys) ]

verbatim_brace : (e : Ending) (b : ℕ) → is_verbatim e b ≡ true → nat_eq b 123 ≡ false
verbatim_brace ending.Text b h = grind (arith, nat_tests)
verbatim_brace ending.Quote b h = grind (arith, nat_tests)

verbatim_plain : (e : Ending) (b : ℕ) → is_verbatim e b ≡ true → is_plain e b ≡ true
verbatim_plain ending.Text b h = refl
verbatim_plain ending.Quote b h = grind (arith, nat_tests)

doubled-run : (e : Ending) (xs : List ℕ) → Each (is_verbatim e) xs → doubled xs ≡ xs
doubled-run e [] h = refl
doubled-run e (x ∷ xs) h = ap (λ t. cond t (123 ∷ 123 ∷ doubled xs) (x ∷ doubled xs)) (verbatim_brace e x h.0) ∙ ap (λ l. x ∷ l) (doubled-run e xs h.1)

plain-run : (e : Ending) (xs : List ℕ) → Each (is_verbatim e) xs → Each (is_plain e) xs
plain-run e [] h = tt
plain-run e (x ∷ xs) h = (verbatim_plain e x h.0, plain-run e xs h.1)

-- plain text so far
pub record IsPlainSoFar (e : Ending) (text plain rest : List ℕ) : Type 0 where
  pub splits : text ≡ doubled plain ++ rest
  pub passing : Each (is_plain e) plain

pub plain_none : (e : Ending) (text plain : List ℕ) → plain ≡ [] → IsPlainSoFar e text plain text
plain_none e text plain h = record {
  splits = ap (λ p. doubled p ++ text) (sym h);
  passing = subst (Each (is_plain e)) (sym h) tt;
}

pub plain_run : (e : Ending) (text plain rest run left more : List ℕ) → IsPlainSoFar e text plain rest → SplitsRun (is_verbatim e) rest run left → more ≡ plain ++ run → IsPlainSoFar e text more left
plain_run e text plain rest run left more h s m = record {
  splits = h.splits ∙ ap (λ r. doubled plain ++ r) (s.splits ∙ ap (λ r. r ++ left) (sym (doubled-run e run s.passing))) ∙ sym (append_assoc (doubled plain) (doubled run) left) ∙ ap (λ r. r ++ left) (sym (doubled-append plain run) ∙ ap doubled (sym m));
  passing = subst (Each (is_plain e)) (sym m) (each-append (is_plain e) plain run h.passing (plain-run e run s.passing));
}

pub brace_plain : (e : Ending) → is_plain e 123 ≡ true
brace_plain ending.Text = refl
brace_plain ending.Quote = refl

pub plain_brace : (e : Ending) (text plain left behind more : List ℕ) → IsPlainSoFar e text plain left → left ≡ 123 ∷ 123 ∷ behind → more ≡ plain ++ 123 ∷ [] → IsPlainSoFar e text more behind
plain_brace e text plain left behind more h s m = record {
  splits = h.splits ∙ ap (λ r. doubled plain ++ r) s ∙ sym (append_assoc (doubled plain) (123 ∷ 123 ∷ []) behind) ∙ ap (λ r. r ++ behind) (sym (doubled-append plain (123 ∷ [])) ∙ ap doubled (sym m));
  passing = subst (Each (is_plain e)) (sym m) (each-append (is_plain e) plain (123 ∷ []) h.passing (brace_plain e, tt));
}

not_verbatim_text : (b : ℕ) → is_verbatim ending.Text b ≡ false → b ≡ 123
not_verbatim_text b h = grind (arith, nat_tests)

not_verbatim_quote : (b : ℕ) → is_verbatim ending.Quote b ≡ false → (b ≡ 123) ⊎ (is_plain ending.Quote b ≡ false)
not_verbatim_quote b h = elim (nat_eq b 123) as (λ t. t ≡ nat_eq b 123 → (b ≡ 123) ⊎ (is_plain ending.Quote b ≡ false))
    [ true ↦ (λ e. inl (eqb-true b 123 (sym e))) | false ↦ (λ e. inr (grind (arith, nat_tests))) ] refl

not_next_brace : (b : ℕ) (bs : List ℕ) → b ≡ 123 → ¬ BeginsDoubled (b ∷ bs) → NotNext 123 bs
not_next_brace b [] e n = tt
not_next_brace b (c ∷ cs) e n = λ f. n (cs, (let x = e in cc))

opens : (b : ℕ) (bs : List ℕ) → b ≡ 123 → ¬ BeginsDoubled (b ∷ bs) → IsOpened (b ∷ bs) bs
opens b bs e n = (ap (λ x. x ∷ bs) e, not_next_brace b bs e n)

stops_plain : (e : Ending) (b : ℕ) (bs : List ℕ) → is_verbatim e b ≡ false → ¬ BeginsDoubled (b ∷ bs) → EndsPlain e (b ∷ bs)
stops_plain ending.Text b bs h n = inl (opens b bs (not_verbatim_text b h) n)
stops_plain ending.Quote b bs h n = elim (not_verbatim_quote b h) [ inl e ↦ inl (opens b bs e n) | inr e ↦ inr e ]

ends_plain : (e : Ending) (left : List ℕ) → StopsAt (is_verbatim e) left → ¬ BeginsDoubled left → EndsPlain e left
ends_plain e [] s n = tt
ends_plain e (b ∷ bs) s n = stops_plain e b bs s n

pub plain_whole : (e : Ending) (text plain left : List ℕ) → IsPlainSoFar e text plain left → StopsAt (is_verbatim e) left → ¬ BeginsDoubled left → IsPlain e text plain left
plain_whole e text plain left h s n = record { splits = h.splits; passing = h.passing; ends = ends_plain e left s n }

pub doubled_shorter : (p : ℕ → Bool) (rest run left behind : List ℕ) → SplitsRun p rest run left → left ≡ 123 ∷ 123 ∷ behind → length behind < length rest
doubled_shorter p rest run left behind s e =
    let a = ap length s.splits in
    let b = length-append run left in
    let c : length left ≡ suc (suc (length behind)) = ap length e in
    omega arith

stays : (e : Ending) (text : List ℕ) → ¬ IsAtEnd e text → OpensNone text → text ≢ [] → ¬ EndsPlain e text
stays ending.Text [] a o n h = n refl
stays ending.Quote [] a o n h = n refl
stays ending.Text (b ∷ bs) a o n h = elim h [ inl i ↦ o bs i | inr i ↦ false≢true (sym i) ]
stays ending.Quote (b ∷ bs) a o n h = elim h [ inl i ↦ o bs i | inr i ↦ a (bs, ap (λ x. x ∷ bs) (let q : b ≡ 34 = grind (arith, nat_tests) in q)) ]

pub parts-snoc : (e : Ending) (text : List ℕ) (ps : List Part2) (left : List ℕ) (p : Part2) (rest : List ℕ) → AreParts e text ps left → IsPart e left p rest → AreParts e text (ps ++ p ∷ []) rest
parts-snoc e text [] left p rest h i = (rest, subst (λ t. IsPart e t p rest) (sym h) i, refl)
parts-snoc e text (q ∷ ps) left p rest h i = (h.0, h.1, parts-snoc e h.0 ps left p rest h.2 i)

pub doubled_long : (xs : List ℕ) → length xs ≤ length (doubled xs)
doubled_long [] = omega arith
doubled_long (x ∷ xs) = let h = doubled_long xs in elim (nat_eq x 123) as (λ t. suc (length xs) ≤ length (cond t (123 ∷ 123 ∷ doubled xs) (x ∷ doubled xs)))
    [ true ↦ omega arith | false ↦ omega arith ]

pub part_shorter : (e : Ending) (text : List ℕ) (p : Part2) (rest : List ℕ) → IsPart e text p rest → length rest < length text
part_shorter e text (Plain plain) rest h =
    let a = ap length h.1.splits in
    let b = length-append (doubled plain) rest in
    let c = doubled_long plain in
    let d = h.0 in
    omega arith
part_shorter e text (Expression x) rest h =
    let a = ap length h.1.0 in
    let b = ap length h.2.splits in
    let c = length-append x (125 ∷ rest) in
    let d : length (125 ∷ rest) ≡ suc (length rest) = refl in
    let g : length (123 ∷ h.0) ≡ suc (length h.0) = refl in
    omega arith

plain_utf8 : (e : Ending) (text front rest : List ℕ) → IsUtf8 text → text ≡ front ++ rest → EndsPlain e rest → IsUtf8 rest
plain_utf8 e text front [] u s h = IsUtf8-nil
plain_utf8 ending.Text text front (b ∷ bs) u s h = utf8_from text front b bs u s (elim h [ inl i ↦ (let q : b ≡ 123 = (let x = i.0 in cc) in omega arith) | inr i ↦ absurd (false≢true (sym i)) ])
plain_utf8 ending.Quote text front (b ∷ bs) u s h = utf8_from text front b bs u s (elim h [ inl i ↦ (let q : b ≡ 123 = (let x = i.0 in cc) in omega arith) | inr i ↦ grind (arith, nat_tests) ])

-- what follows a part of a text is a text
pub part_utf8 : (e : Ending) (text : List ℕ) (p : Part2) (rest : List ℕ) → IsUtf8 text → IsPart e text p rest → IsUtf8 rest
part_utf8 e text (Plain plain) rest u h = plain_utf8 e text (doubled plain) rest u h.1.splits h.1.ends
part_utf8 e text (Expression x) rest u h =
    utf8_behind text (123 ∷ x) 125 rest u (h.1.0 ∙ ap (λ l. 123 ∷ l) h.2.splits) (omega arith)

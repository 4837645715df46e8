-- Texts of the first of a list that are made already: they stay those where the list changes behind them, and one more is added.
use Rattle.std.proofs.Common.{ℕ, zero, suc, ◌≡◌, ◌+◌, ◌-◌, ◌++◌, ◌<◌, ◌≤◌, ◌⊎◌, inl, inr, List, [], ◌∷◌, Bool, true, false, cond, length, take, drop, map, set, get_or, append-nil, take-append-drop, length-append, refl, sym, ap, subst, ◌∙◌, arith}
use Rattle.std.specs.List.{insert, remove}
use Rattle.std.specs.Prelude.{flat_map, fold, sum_by}
use Rattle.std.proofs.lemmas.List.{drop-map, length-map, length-set, take-append-le, take-map, take-set-le, take_more, take_rest}
use Rattle.std.proofs.lemmas.List.Concat.{flat_map-append}
use Rattle.std.proofs.lemmas.List.Sums.{sum_by-append}
use Rattle.agent_text.specs.Histories.{PlainHistory, with_reported}
use Rattle.agent_text.specs.HistoryLines.{history_text}
use Rattle.agent_text.specs.KeptTexts.{Joins}
use Rattle.agent_text.specs.MadeTexts.{IsMadeOf, Leaves, PlainMade, made_with, nothing_made}
use Rattle.agent_text.specs.MostBytes.{history_bytes}

module _ {Plain : Type 0} (spell : Plain → List ℕ) (bytes : Plain → ℕ) where
  pub made_none : (xs : List Plain) → IsMadeOf spell bytes xs nothing_made
  made_none [] = record { within = omega arith; text = refl; most = refl }
  made_none (x ∷ xs) = record { within = omega arith; text = refl; most = refl }

  -- of another list that has the same first ones
  made_same : (xs ys : List Plain) (made : PlainMade) → made.count ≤ length ys → take made.count ys ≡ take made.count xs → IsMadeOf spell bytes xs made → IsMadeOf spell bytes ys made
  made_same xs ys made long same is = record {
    within = long;
    text = is.text ∙ ap (flat_map spell) (sym same);
    most = is.most ∙ ap (sum_by bytes) (sym same);
  }

  -- with one more
  pub made_more : (xs : List Plain) (made : PlainMade) (place : ℕ) (d : Plain) → made.count ≡ place → place < length xs → IsMadeOf spell bytes xs made
      → IsMadeOf spell bytes xs (made_with (spell (get_or xs place d)) (bytes (get_or xs place d)) made)
  made_more xs made place d here inside is =
      let x = get_or xs place d in
      let front = take place xs in
      let more : take (made.count + 1) xs ≡ front ++ x ∷ [] = ap (λ n. take (n + 1) xs) here ∙ take_more xs place d inside in
      let text : made.text ≡ flat_map spell front = is.text ∙ ap (λ n. flat_map spell (take n xs)) here in
      let most : made.most ≡ sum_by bytes front = is.most ∙ ap (λ n. sum_by bytes (take n xs)) here in
      let sum : sum_by bytes (x ∷ []) ≡ bytes x = omega arith in
      record {
        within = omega (arith, here, inside);
        text =
            (λ j. text j ++ sym (append-nil (spell x)) j) ∙ sym (flat_map-append spell front (x ∷ [])) ∙ ap (flat_map spell) (sym more);
        most = omega (arith, most, sum, sum_by-append bytes front (x ∷ []), ap (sum_by bytes) more);
      }

-- ---- these texts, and those of the others
module _ {Item : Type 0} (spell : Item → List ℕ) (bytes : Item → ℕ) (xs : List Item) (made : PlainMade) (is : IsMadeOf spell bytes xs made) where
  abbrev others : List ℕ
  others = flat_map spell (drop made.count xs)

  pub made_parts : flat_map spell xs ≡ made.text ++ others
  made_parts = ap (flat_map spell) (sym (take-append-drop made.count xs)) ∙ flat_map-append spell (take made.count xs) (drop made.count xs) ∙ ap (λ l. l ++ others) (sym is.text)

  pub made_long : length (flat_map spell xs) ≡ length made.text + length others
  made_long = ap (length {A = ℕ}) made_parts ∙ length-append made.text others

  pub made_most : sum_by bytes xs ≡ made.most + sum_by bytes (drop made.count xs)
  made_most =
      ap (sum_by bytes) (sym (take-append-drop made.count xs)) ∙ sum_by-append bytes (take made.count xs) (drop made.count xs) ∙ ap (λ n. n + sum_by bytes (drop made.count xs)) (sym is.most)

shorter : {Item : Type 0} (n i : ℕ) (xs : List Item) → n ≤ i → n ≤ length xs → n ≤ length (take i xs)
shorter n zero xs apart inside = omega arith
shorter n (suc i) [] apart inside = omega arith
shorter zero (suc i) (x ∷ xs) apart inside = omega arith
shorter (suc n) (suc i) (x ∷ xs) apart inside = let rest = shorter n i xs (omega arith) (omega arith) in omega (arith, rest)

-- ---- a list that changes at a place where these texts end, if there are any
module _ {Item Plain : Type 0} (show : Item → Plain) (spell : Plain → List ℕ) (bytes : Plain → ℕ) (items : List Item) (place : ℕ) (old now : PlainMade) where
  changed : (new : List Item) → (old.count ≤ place → old.count ≤ length items → (old.count ≤ length new) × (take old.count new ≡ take old.count items))
      → Leaves place old now → IsMadeOf spell bytes (map show items) old → IsMadeOf spell bytes (map show new) now
  changed new same (inl none) is = subst (IsMadeOf spell bytes (map show new)) (sym none) (made_none spell bytes (map show new))
  changed new same (inr left) is =
      let both = same left.1 (omega (arith, is.within, length-map items show)) in
      subst (IsMadeOf spell bytes (map show new)) (sym left.0)
      (made_same spell bytes (map show items) (map show new) old (omega (arith, both.0, length-map new show))
      (take-map show old.count new ∙ ap (map show) both.1 ∙ sym (take-map show old.count items)) is)

  pub made_set : (x : Item) → Leaves place old now → IsMadeOf spell bytes (map show items) old → IsMadeOf spell bytes (map show (set items place x)) now
  made_set x = changed (set items place x) (λ apart inside. (omega (arith, inside, length-set items place x), take-set-le old.count items place x apart))

  -- the first ones before the place, and anything behind it
  front_same : (behind : List Item) → old.count ≤ place → old.count ≤ length items
      → (old.count ≤ length (take place items ++ behind)) × (take old.count (take place items ++ behind) ≡ take old.count items)
  front_same behind apart inside =
      let parts : items ≡ take place items ++ drop place items = sym (take-append-drop place items) in
      let long : old.count ≤ length (take place items) = shorter old.count place items apart inside in (
        omega (arith, long, length-append (take place items) behind),
        take-append-le old.count (take place items) behind long ∙ sym (take-append-le old.count (take place items) (drop place items) long) ∙ ap (take old.count) (sym parts),
      )

  pub made_inserted : (x : Item) → Leaves place old now → IsMadeOf spell bytes (map show items) old → IsMadeOf spell bytes (map show (insert items place x)) now
  made_inserted x = changed (insert items place x) (front_same (x ∷ drop place items))

  pub made_removed : Leaves place old now → IsMadeOf spell bytes (map show items) old → IsMadeOf spell bytes (map show (remove items place)) now
  made_removed = changed (remove items place) (front_same (drop (suc place) items))

-- ---- reports change no lines
reported_long : (most : ℕ) (hs : List PlainHistory) → length (with_reported most hs) ≡ length hs
reported_long most [] = refl
reported_long zero (h ∷ hs) = refl
reported_long (suc most) (h ∷ hs) = by_pending h.pending (reported_long most hs) (reported_long (suc most) hs)
  where
    by_pending : (b : Bool) → length (with_reported most hs) ≡ length hs → length (with_reported (suc most) hs) ≡ length hs
        → length (cond b (record h { pending = false } ∷ with_reported most hs) (h ∷ with_reported (suc most) hs)) ≡ suc (length hs)
    by_pending true fewer same = ap suc fewer
    by_pending false fewer same = ap suc same

reported_texts : (n most : ℕ) (hs : List PlainHistory) → flat_map history_text (take n (with_reported most hs)) ≡ flat_map history_text (take n hs)
reported_texts n most [] = refl
reported_texts n zero (h ∷ hs) = refl
reported_texts zero (suc most) (h ∷ hs) = refl
reported_texts (suc n) (suc most) (h ∷ hs) = by_pending h.pending (reported_texts n most hs) (reported_texts n (suc most) hs)
  where
    by_pending : (b : Bool) → flat_map history_text (take n (with_reported most hs)) ≡ flat_map history_text (take n hs) → flat_map history_text (take n (with_reported (suc most) hs)) ≡ flat_map history_text (take n hs)
        → flat_map history_text (take (suc n) (cond b (record h { pending = false } ∷ with_reported most hs) (h ∷ with_reported (suc most) hs))) ≡ history_text h ++ flat_map history_text (take n hs)
    by_pending true fewer same = ap (λ l. history_text h ++ l) fewer
    by_pending false fewer same = ap (λ l. history_text h ++ l) same

-- the sum from any number on
abbrev bytes_on : ℕ → List PlainHistory → ℕ
bytes_on start hs = fold (λ n h. n + history_bytes h) start hs

reported_bytes : (start n most : ℕ) (hs : List PlainHistory) → bytes_on start (take n (with_reported most hs)) ≡ bytes_on start (take n hs)
reported_bytes start n most [] = refl
reported_bytes start n zero (h ∷ hs) = refl
reported_bytes start zero (suc most) (h ∷ hs) = refl
reported_bytes start (suc n) (suc most) (h ∷ hs) = by_pending h.pending (reported_bytes (start + history_bytes h) n most hs) (reported_bytes (start + history_bytes h) n (suc most) hs)
  where
    by_pending : (b : Bool) → bytes_on (start + history_bytes h) (take n (with_reported most hs)) ≡ bytes_on (start + history_bytes h) (take n hs)
        → bytes_on (start + history_bytes h) (take n (with_reported (suc most) hs)) ≡ bytes_on (start + history_bytes h) (take n hs)
        → bytes_on start (take (suc n) (cond b (record h { pending = false } ∷ with_reported most hs) (h ∷ with_reported (suc most) hs))) ≡ bytes_on (start + history_bytes h) (take n hs)
    by_pending true fewer same = fewer
    by_pending false fewer same = same

pub made_reported : (most : ℕ) (hs : List PlainHistory) (made : PlainMade) → IsMadeOf history_text history_bytes hs made → IsMadeOf history_text history_bytes (with_reported most hs) made
made_reported most hs made is = record {
  within = omega (arith, is.within, reported_long most hs);
  text = is.text ∙ sym (reported_texts made.count most hs);
  most = is.most ∙ sym (reported_bytes 0 made.count most hs);
}

-- ---- the lines of one more
pub made_joined : (hs : List PlainHistory) (place : ℕ) (h : PlainHistory) (old now : PlainMade) → place < length hs → get_or hs place h ≡ h → Joins place h old now
    → IsMadeOf history_text history_bytes hs old → IsMadeOf history_text history_bytes hs now
made_joined hs place h old now inside there (inl same) is = subst (IsMadeOf history_text history_bytes hs) (sym same) is
made_joined hs place h old now inside there (inr added) is =
    subst (IsMadeOf history_text history_bytes hs) (ap (λ (x : PlainHistory). made_with (history_text x) (history_bytes x) old) there ∙ sym added.1)
    (made_more history_text history_bytes hs old place h added.0 inside is)

-- ---- what is shown of items
pub rest_shown : {Item Plain : Type 0} (show : Item → Plain) (items : List Item) (n : ℕ) → map show (take (length items - n) (drop n items)) ≡ drop n (map show items)
rest_shown show items n = ap (map show) (take_rest items n) ∙ sym (drop-map show n items)

sum_shown_on : {Item Plain : Type 0} (show : Item → Plain) (bytes : Plain → ℕ) (start : ℕ) (items : List Item) → fold (λ n x. n + bytes (show x)) start items ≡ fold (λ n x. n + bytes x) start (map show items)
sum_shown_on show bytes start [] = refl
sum_shown_on show bytes start (x ∷ items) = sum_shown_on show bytes (start + bytes (show x)) items

pub sum_shown : {Item Plain : Type 0} (show : Item → Plain) (bytes : Plain → ℕ) (items : List Item) → sum_by (λ x. bytes (show x)) items ≡ sum_by bytes (map show items)
sum_shown show bytes items = sum_shown_on show bytes 0 items

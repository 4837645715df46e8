-- A list that is taken one by one: what is done so far, and what is left.
use Rattle.std.proofs.Common.{◌≡◌, List, [], ◌∷◌, ◌++◌, length, map, All, ap, sym, subst, ◌∙◌, append-nil}
use Rattle.std.proofs.lemmas.List.{append_assoc, length-map, map-append, nil_from_length}
use Rattle.std.proofs.lemmas.List.Elements.{All-head, All-tail}

all_behind : {X : Type 0} (P : X → Type 0) (before after : List X) → All P (before ++ after) → All P after
all_behind P [] after all = all
all_behind P (x ∷ before) after all = all_behind P before after (All-tail P x (before ++ after) all)

module _ {X : Type 0} (before left whole : List X) where
  -- the next is as all are
  pub next_good : (P : X → Type 0) (x : X) (later : List X) → left ≡ x ∷ later → before ++ left ≡ whole → All P whole → P x
  next_good P x later at is all =
      All-head P x later (all_behind P before (x ∷ later) (subst (All P) (sym is ∙ ap (λ l. before ++ l) at) all))

  -- with the next behind those before
  pub next_done : (more : List X) (x : X) (later : List X) → left ≡ x ∷ later → more ≡ before ++ x ∷ [] → before ++ left ≡ whole → more ++ later ≡ whole
  next_done more x later at one is = ap (λ l. l ++ later) one ∙ append_assoc before (x ∷ []) later ∙ ap (λ l. before ++ l) (sym at) ∙ is

  -- where none is left all are done
  pub all_done : length left ≡ 0 → before ++ left ≡ whole → before ≡ whole
  all_done none is = sym (append-nil before) ∙ ap (λ l. before ++ l) (sym (nil_from_length left none)) ∙ is

-- each of a list is taken, and shown, one by one
module _ {X Y : Type 0} (shown : X → Y) where
  -- what is taken so far is kept, and shows what stood there
  pub kept_more : (before more : List X) (left whole : List Y) (x : X) (y : Y) (later : List Y) → left ≡ y ∷ later → more ≡ before ++ x ∷ [] → shown x ≡ y → map shown before ++ left ≡ whole →
      map shown more ++ later ≡ whole
  kept_more before more left whole x y later at one is so =
      next_done (map shown before) left whole (map shown more) y later at
      (ap (map shown) one ∙ map-append shown before (x ∷ []) ∙ ap (λ b. map shown before ++ b ∷ []) is) so

  -- what is left shows what is still to be done
  pub done_more : (before more : List Y) (left : List X) (whole : List Y) (x : X) (later : List X) → left ≡ x ∷ later → more ≡ before ++ shown x ∷ [] → before ++ map shown left ≡ whole → more ++ map shown later ≡ whole
  done_more before more left whole x later at one so =
      next_done before (map shown left) whole more (shown x) (map shown later) (ap (map shown) at) one so

  pub done_all : (before : List Y) (left : List X) (whole : List Y) → length left ≡ 0 → before ++ map shown left ≡ whole → before ≡ whole
  done_all before left whole none so = all_done before (map shown left) whole (length-map left shown ∙ none) so

-- those that are left are as all are
pub first_good : {X : Type 0} (P : X → Type 0) (left : List X) (x : X) (later : List X) → left ≡ x ∷ later → All P left → P x
first_good P left x later at all = All-head P x later (subst (All P) at all)

pub others_good : {X : Type 0} (P : X → Type 0) (left : List X) (x : X) (later : List X) → left ≡ x ∷ later → All P left → All P later
others_good P left x later at all = All-tail P x later (subst (All P) at all)

-- Items of a part, one after another: how those that are left go on with those that are done.
use Rattle.std.proofs.Common.{◌≡◌, ℕ, ◌+◌, ◌<◌, ◌≤◌, List, [], ◌∷◌, ◌++◌, drop, get_or, length, refl, sym, ap, ◌∙◌, subst, append-nil, append_assoc, add-one}
use Rattle.std.proofs.Math.Seq.{drop-cons}
use Rattle.std.proofs.lemmas.Grind.{flat_map-append}
use Rattle.std.proofs.lemmas.List.{drop_all}
use Rattle.desk_rounds.specs.declared.part.Next.{Next}
use Rattle.desk_rounds.specs.declared.part.Next.TheVariants as next
use Rattle.desk_rounds.specs.Lines.{Line, line_text, lines_text}
use Rattle.desk_rounds.specs.Parts.{DoesEach, Part}

module _ {S T : Type 0} (does : T → Part S) where
  -- whatever comes of the items that are left, from here on, comes of all of them from the beginning, behind these lines
  abbrev pub Goes : List T → S → List Line → List T → S → Type 0
  Goes items old said left now =
      (then : Next) (more : List Line) (new : S) → DoesEach does left now then more new → DoesEach does items old then (said ++ more) new

  pub goes_first : (items : List T) (old : S) → Goes items old [] items old
  goes_first items old = λ then more new h. h

  -- one more is done
  pub goes_on : (items : List T) (old : S) (said : List Line) (item : T) (left : List T) (now : S) (one : List Line) (later : S)
      → Goes items old said (item ∷ left) now → does item now next.Item one later → Goes items old (said ++ one) left later
  goes_on items old said item left now one later goes it = λ then more new h.
      subst (λ l. DoesEach does items old then l new) (sym (append_assoc said one more))
      (goes then (one ++ more) new (next.Item, one, later, it, (more, h, refl)))

  -- none is left
  pub goes_done : (items : List T) (old : S) (said : List Line) (now : S) → Goes items old said [] now
      → DoesEach does items old next.Item said now
  goes_done items old said now goes =
      subst (λ l. DoesEach does items old next.Item l now) (append-nil said) (goes next.Item [] now (refl, refl, refl))

  -- one ends the part
  pub goes_part : (items : List T) (old : S) (said : List Line) (item : T) (left : List T) (now : S) (one : List Line) (new : S)
      → Goes items old said (item ∷ left) now → does item now next.Part one new → DoesEach does items old next.Part (said ++ one) new
  goes_part items old said item left now one new goes it =
      goes next.Part one new (next.Part, one, new, it, (refl, refl, refl))

  -- or the round
  pub goes_memory : (items : List T) (old : S) (said : List Line) (item : T) (left : List T) (now : S) (one : List Line) (new : S)
      → Goes items old said (item ∷ left) now → does item now next.Memory one new → DoesEach does items old next.Memory (said ++ one) new
  goes_memory items old said item left now one new goes it =
      goes next.Memory one new (next.Memory, one, new, it, (refl, refl, refl))

-- ---- lines
pub printed_first : (before : List ℕ) → before ≡ before ++ lines_text []
printed_first before = sym (append-nil before)

pub printed_more : (before mid after : List ℕ) (said one : List Line) → mid ≡ before ++ lines_text said → after ≡ mid ++ lines_text one
    → after ≡ before ++ lines_text (said ++ one)
printed_more before mid after said one h k =
    k ∙ ap (λ l. l ++ lines_text one) h ∙ append_assoc before (lines_text said) (lines_text one)
    ∙ ap (λ l. before ++ l) (sym (flat_map-append line_text said one))

-- ---- an item of a list
pub left_at : {T : Type 0} (items : List T) (i : ℕ) (item : T) → i < length items → item ≡ get_or items i item
    → drop i items ≡ item ∷ drop (i + 1) items
left_at items i item inside is =
    drop-cons items i item inside ∙ (λ k. sym is k ∷ drop (sym (add-one i) k) items)

pub none_left : {T : Type 0} (items : List T) (i : ℕ) → length items ≤ i → drop i items ≡ []
none_left items i end = drop_all i items end

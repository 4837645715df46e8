-- What is written of a play and of fronts of it.
use Rattle.std.proofs.Common.{◌≡◌, ℕ, List, [], ◌∷◌, ◌++◌, inl, inr, refl, sym, ap, subst, ◌∙◌, append_assoc, append-nil}
use Rattle.desk_base.specs.Flow.{IsFront}
use Rattle.office_text.specs.declared.order.Order.{Order}
use Rattle.office_rules.specs.Deeds.{Deed, DoesEach}
use Rattle.office_rules.specs.Endings.{ending_text}
use Rattle.office_rules.specs.Offices.{Office, empty_office}
use Rattle.office_rules.specs.Plays.{IsFrontOfNext, IsFrontOfPlay, IsPlayed, PlaysOrder}
use Rattle.office_rules.proofs.OneGroupWord.{IsWellNamed}
use Rattle.office_rules.proofs.OnePlay.{Laws, all_once, plays_once}
use Rattle.office_rules.proofs.WellNamed.{all_named}

pub front_of_itself : (orders : List Order) (written : List ℕ) (o : Office) → IsPlayed orders written o → IsFrontOfPlay orders written
front_of_itself orders written o played = record {
  before = orders;
  after = [];
  said = played.said;
  front = ending_text o;
  o = o;
  orders_are = sym (append-nil orders);
  plays = played.plays;
  next = ([], sym (append-nil (ending_text o)));
  written_is = played.written_is;
}

-- what is done for a list is done for its front and then for the rest
split_each : {T : Type 0} (Does : T → Deed) (xs ys : List T) (old : Office) (said : List ℕ) (new : Office) → DoesEach Does (xs ++ ys) old said new
    → (mid : Office) × (a : List ℕ) × (b : List ℕ) × DoesEach Does xs old a mid × DoesEach Does ys mid b new × (said ≡ a ++ b)
split_each Does [] ys old said new h = (old, [], said, (refl, refl), h, refl)
split_each Does (x ∷ xs) ys old said new (m, one, other, p, q, is) =
    let r = split_each Does xs ys m other new q in
    (r.0, one ++ r.1, r.2, (m, one, r.1, p, r.3, refl), r.4, is ∙ ap (λ (l : List ℕ). one ++ l) r.5 ∙ sym (append_assoc one r.1 r.2))

next_front : Laws → (after : List Order) (mid : Office) (b front : List ℕ) (o : Office) → IsWellNamed mid.book → DoesEach PlaysOrder after mid b o → IsFrontOfNext after mid front → IsFront (b ++ ending_text o) front
next_front laws [] mid b front o good p (r, is) = (r, (λ j. p.0 j ++ ending_text (p.1 j)) ∙ is)
next_front laws (x ∷ xs) mid b front o good p (inl e) = (b ++ ending_text o, ap (λ (l : List ℕ). l ++ (b ++ ending_text o)) (sym e))
next_front laws (x ∷ xs) mid b front o good (m, one, other, p, q, is) (inr (said, new, plays, (r, begins))) =
    let same = plays_once laws x mid good said one new m plays p in
    let first : one ≡ front ++ r = sym same.0 ∙ begins in (
      r ++ (other ++ ending_text o),
      ap (λ (l : List ℕ). l ++ ending_text o) is ∙ append_assoc one other (ending_text o) ∙ ap (λ (l : List ℕ). l ++ (other ++ ending_text o)) first ∙ append_assoc front r (other ++ ending_text o),
    )

pub front_begins : Laws → (orders : List Order) (written front : List ℕ) (o : Office) → IsPlayed orders written o → IsFrontOfPlay orders front → IsFront written front
front_begins laws orders written front o p f =
    let whole = subst (λ (l : List Order). DoesEach PlaysOrder l empty_office p.said o) f.orders_are p.plays in
    let s = split_each PlaysOrder f.before f.after empty_office p.said o whole in
    let same = all_once laws f.before f.said s.1 f.o s.0 f.plays s.3 in
    let more = subst (λ (m : Office). DoesEach PlaysOrder f.after m s.2 o) (sym same.1) s.4 in
    let good = all_named f.before f.said f.o f.plays in
    let rest = next_front laws f.after f.o s.2 f.front o good more f.next in (
      rest.0,
      p.written_is ∙ ap (λ (l : List ℕ). l ++ ending_text o) s.5 ∙ append_assoc s.1 s.2 (ending_text o) ∙ (λ j. sym same.0 j ++ rest.1 j) ∙ sym (append_assoc f.said f.front rest.0)
          ∙ ap (λ (l : List ℕ). l ++ rest.0) (sym f.written_is),
    )

-- Deeds one after another, as they are played.
use Rattle.std.proofs.Common.{ℕ, List, [], ◌∷◌, ◌++◌, refl, sym, ap, subst, ◌∙◌}
use Rattle.std.proofs.lemmas.List.{append_assoc, append-nil}
use Rattle.server_text.specs.Entries.{Entry}
use Rattle.office_rules.specs.Deeds.{Deed, DoesBoth, DoesEach}
use Rattle.office_rules.specs.Offices.{Office}
use Rattle.office_play.specs.Kept.{HasAccepted, KeptOffice, office_of}
use Rattle.office_play.specs.Links.{IsGoodOffice}
use Rattle.office_play.specs.Played.{Plays}

-- one after another
pub plays_both : (First Second : Deed) (a b c : KeptOffice) (x y z : List ℕ) → Plays First a x b y → Plays Second b y c z
    → Plays (DoesBoth First Second) a x c z
plays_both First Second a b c x y z p q accepted rows =
    let one = p accepted rows in
    let two = q one.later one.rows in
    record {
      later = two.later;
      said = one.said ++ two.said;
      does = (office_of one.later b, one.said, two.said, one.does, two.does, refl);
      rows = two.rows;
      out_is = two.out_is ∙ ap (λ t. t ++ two.said) one.out_is ∙ append_assoc x one.said two.said;
      good = two.good;
    }

-- What is one deed is another.
pub plays_as : (Does Other : Deed) (a b : KeptOffice) (x y : List ℕ)
    → ((accepted : List Entry) (said : List ℕ) (new : Office) → Does (office_of accepted a) said new → Other (office_of accepted a) said new)
    → Plays Does a x b y → Plays Other a x b y
plays_as Does Other a b x y is p accepted rows =
    let did = p accepted rows in
    record {
      later = did.later;
      said = did.said;
      does = is accepted did.said (office_of did.later b) did.does;
      rows = did.rows;
      out_is = did.out_is;
      good = did.good;
    }

-- What is played leaves a good office, whose rows are the tables of something.
pub still_good : (Does : Deed) (a b : KeptOffice) (x y : List ℕ) → Plays Does a x b y → HasAccepted a.rows → IsGoodOffice b
still_good Does a b x y p has = (p has.0 has.1).good

pub still_accepted : (Does : Deed) (a b : KeptOffice) (x y : List ℕ) → Plays Does a x b y → HasAccepted a.rows → HasAccepted b.rows
still_accepted Does a b x y p has = let did = p has.0 has.1 in (did.later, did.rows)

module _ {T : Type 0} (Does : T → Deed) where
  -- one more after those so far
  pub each_push : (done : List T) (t : T) (a b c : Office) (x y : List ℕ) → DoesEach Does done a x b → Does t b y c
      → DoesEach Does (done ++ t ∷ []) a (x ++ y) c
  each_push [] t a b c x y p q =
      (c, y, [], subst (λ (o : Office). Does t o y c) p.1 q, (refl, refl), ap (λ l. l ++ y) p.0 ∙ sym (append-nil y))
  each_push (s ∷ done) t a b c x y p q =
      (p.0, p.1, p.2 ++ y, p.3, each_push done t p.0 b c p.2 y p.4 q, ap (λ l. l ++ y) p.5 ∙ append_assoc p.1 p.2 y)

  pub plays_push : (done : List T) (t : T) (a b c : KeptOffice) (x y z : List ℕ) → Plays (DoesEach Does done) a x b y
      → Plays (Does t) b y c z → Plays (DoesEach Does (done ++ t ∷ [])) a x c z
  plays_push done t a b c x y z p q accepted rows =
      let one = p accepted rows in
      let two = q one.later one.rows in
      record {
        later = two.later;
        said = one.said ++ two.said;
        does = each_push done t (office_of accepted a) (office_of one.later b) (office_of two.later c) one.said two.said one.does two.does;
        rows = two.rows;
        out_is = two.out_is ∙ ap (λ t. t ++ two.said) one.out_is ∙ append_assoc x one.said two.said;
        good = two.good;
      }

  -- none yet
  pub plays_none : (a : KeptOffice) (x : List ℕ) → IsGoodOffice a → Plays (DoesEach Does []) a x a x
  plays_none a x good accepted rows =
      record { later = accepted; said = []; does = (refl, refl); rows = rows; out_is = sym (append-nil x); good = good }

-- A play as far as it went, and how it goes on or ends.
use Rattle.std.proofs.Common.{◌≡◌, ◌≢◌, ℕ, arith, length, List, [], ◌∷◌, ◌++◌, Option, Some, None, inl, inr, refl, sym, ap, subst, ◌∙◌}
use Rattle.std.specs.Prelude.{Result, Ok, Err, OnErr, IsErrOf, flat_map}
use Rattle.std.specs.Io.KnownBytes.{Appends, Keeps}
use Rattle.std.specs.Map.{keys_of}
use Rattle.std.proofs.KnownBytes.{Appends-nil, Appends-trans}
use Rattle.std.proofs.lemmas.List.{append_assoc, append-nil}
use Rattle.std.proofs.lemmas.List.Concat.{flat_map-append}
use Rattle.desk_base.specs.Counts.{CountsFaults}
use Rattle.desk_base.specs.Flow.{AppendsFront, AppendsSome, IsFront}
use Rattle.desk_base.proofs.Flowing.{AppendsSome-front}
use Rattle.server_text.specs.Entries.{Entry}
use Rattle.office_text.specs.declared.order.Order.{Order}
use Rattle.office_rules.specs.Endings.{ending_text}
use Rattle.office_rules.specs.Offices.{IsSoundOffice, Office, empty_office}
use Rattle.office_rules.specs.Plays.{IsFrontOfNext, IsFrontOfPlay, IsPlayed, Obeys, PlaysAll, PlaysOrder}
use Rattle.office_play.specs.Kept.{AreRowsOf, KeptOffice, empty_kept, office_of}
use Rattle.office_play.specs.Links.{AddsNames, IsGoodOffice, added_computers, added_relays}
use Rattle.office_play.specs.declared.play.PlayEnd.{PlayEnd}
use Rattle.office_play.specs.declared.play.PlayEnd.TheVariants as end
use Rattle.office_play.specs.Played.{Did}
use Rattle.office_play.specs.Plays.{WritesOr, WritesOrder, WritesPlay, end_of}
use Rattle.office_play.proofs.Deeds.{each_push}

-- These orders were played, what is printed of them was written, and this is the office then; these are left.
pub record SoFar (orders done rest : List Order) (office : KeptOffice) (start now : Option (List ℕ)) : Type 0 where
  pub parts : orders ≡ done ++ rest
  pub accepted : List Entry
  pub said : List ℕ
  pub plays : PlaysAll done said (office_of accepted office)
  pub rows : AreRowsOf accepted office.rows
  pub good : IsGoodOffice office
  pub written : Appends start now said
  pub relays : keys_of office.relays ≡ flat_map added_relays done
  pub computers : keys_of office.computers ≡ flat_map added_computers done

sound_of : (accepted : List Entry) (o : KeptOffice) → IsGoodOffice o → IsSoundOffice (office_of accepted o)
sound_of accepted o good = record {
  computers = λ i d h. (good.computers i d h).sound;
  relays = λ i d h. (good.relays i d h).sites;
}

played : (order : Order) (accepted : List Entry) (old new : KeptOffice) (out then : List ℕ)
    (did : Did (Obeys order) accepted old out new then) → PlaysOrder order (office_of accepted old) did.said (office_of did.later new)
played order accepted old new out then did = record { obeys = did.does; sound = sound_of did.later new did.good }

nothing_kept : (a b : Option (List ℕ)) → Keeps a b → Appends a b []
nothing_kept None b h = tt
nothing_kept (Some x) None h = absurd h
nothing_kept (Some x) (Some y) h = h ∙ sym (append-nil x)

-- ---- the beginning
pub begins : (orders : List Order) (a : Option (List ℕ)) → SoFar orders [] orders empty_kept a a
begins orders a = record {
  parts = refl;
  accepted = [];
  said = [];
  plays = (refl, refl);
  rows = record { rows_are = refl; are_accepted = tt };
  good = record {
    relays = λ i d h. absurd (omega (arith, h));
    relays_found = λ name. refl;
    computers = λ i d h. absurd (omega (arith, h));
    computers_found = λ name. refl;
    messages = λ i d h. absurd (omega (arith, h));
    book = refl;
  };
  written = Appends-nil a;
  relays = refl;
  computers = refl;
}

-- ---- one order more
more_names : (keys added before all : List (List ℕ)) → all ≡ keys ++ added → keys ≡ before → all ≡ before ++ added
more_names keys added before all is same = is ∙ ap (λ k. k ++ added) same

more_added : (added : Order → List (List ℕ)) (done : List Order) (order : Order)
    → flat_map added (done ++ order ∷ []) ≡ flat_map added done ++ added order
more_added added done order =
    flat_map-append added done (order ∷ []) ∙ ap (λ l. flat_map added done ++ l) (append-nil (added order))

pub goes_on : (orders done rest : List Order) (order : Order) (old new : KeptOffice) (start held then : Option (List ℕ)) (piece : List ℕ)
    (s : SoFar orders done (order ∷ rest) old start held) → Did (Obeys order) s.accepted old [] new piece → Appends held then piece
    → AddsNames (added_relays order) (added_computers order) old new → SoFar orders (done ++ order ∷ []) rest new start then
goes_on orders done rest order old new start held then piece s did written names = record {
  parts = s.parts ∙ sym (append_assoc done (order ∷ []) rest);
  accepted = did.later;
  said = s.said ++ did.said;
  plays = each_push PlaysOrder done order empty_office (office_of s.accepted old) (office_of did.later new) s.said did.said s.plays
      (played order s.accepted old new [] piece did);
  rows = did.rows;
  good = did.good;
  written = Appends-trans start held then s.said did.said s.written (subst (λ (p : List ℕ). Appends held then p) did.out_is written);
  relays = more_names _ _ _ _ names.relays_are s.relays ∙ sym (more_added added_relays done order);
  computers = more_names _ _ _ _ names.computers_are s.computers ∙ sym (more_added added_computers done order);
}

-- ---- the end
front_of_play : (orders done rest : List Order) (office : KeptOffice) (start held then : Option (List ℕ)) (front : List ℕ)
    (s : SoFar orders done rest office start held) → IsFrontOfNext rest (office_of s.accepted office) front → Appends held then front
    → AppendsSome start then (IsFrontOfPlay orders)
front_of_play orders done rest office start held then front s next written = (
  s.said ++ front,
  record {
    before = done;
    after = rest;
    said = s.said;
    front = front;
    o = office_of s.accepted office;
    orders_are = s.parts;
    plays = s.plays;
    next = next;
    written_is = refl;
  },
  Appends-trans start held then s.said front s.written written,
)

-- memory ran out in an order
pub stops_empty : (orders done rest : List Order) (order : Order) (office : KeptOffice) (start held then : Option (List ℕ))
    → SoFar orders done (order ∷ rest) office start held → Keeps held then → AppendsSome start then (IsFrontOfPlay orders)
stops_empty orders done rest order office start held then s kept =
    front_of_play orders done (order ∷ rest) office start held then [] s (inl refl) (nothing_kept held then kept)

-- a write of what is printed of an order failed
pub stops_in_order : (orders done rest : List Order) (order : Order) (old new : KeptOffice) (start held then : Option (List ℕ))
    (piece : List ℕ) (s : SoFar orders done (order ∷ rest) old start held) → Did (Obeys order) s.accepted old [] new piece
    → AppendsFront held then piece → AppendsSome start then (IsFrontOfPlay orders)
stops_in_order orders done rest order old new start held then piece s did written =
    let some = AppendsSome-front held then piece written in
    front_of_play orders done (order ∷ rest) old start held then some.0 s
    (inr (did.said, office_of did.later new, played order s.accepted old new [] piece did, subst (λ (p : List ℕ). IsFront p some.0) did.out_is some.1)) some.2

-- An order was not played to its end.
pub stops_by : (orders done rest : List Order) (order : Order) (old new : KeptOffice) (start held then : Option (List ℕ)) (how : PlayEnd)
    (s : SoFar orders done (order ∷ rest) old start held) → WritesOrder order s.accepted old held (Err how) new then → how ≢ end.Done
    → WritesPlay orders how start then
stops_by orders done rest order old new start held then end.Memory s written never = stops_empty orders done rest order old start held then s written
stops_by orders done rest order old new start held then end.Failed s written never =
    stops_in_order orders done rest order old new start held then written.0 s written.1 written.2
stops_by orders done rest order old new start held then end.Done s written never = absurd (never refl)

-- all was written
pub ends : (orders done : List Order) (office : KeptOffice) (start held then : Option (List ℕ)) (s : SoFar orders done [] office start held)
    → Appends held then (ending_text (office_of s.accepted office)) → AppendsSome start then (λ written. (o : Office) × IsPlayed orders written o)
ends orders done office start held then s written =
    let text = ending_text (office_of s.accepted office) in (
      s.said ++ text,
      (
        office_of s.accepted office,
        record {
          said = s.said;
          plays = subst (λ (l : List Order). PlaysAll l s.said (office_of s.accepted office)) (sym (s.parts ∙ append-nil done)) s.plays;
          written_is = refl;
        },
      ),
      Appends-trans start held then s.said text s.written written,
    )

-- a front of the end was written, or nothing of it
pub stops_at_end : (orders done : List Order) (office : KeptOffice) (start held then : Option (List ℕ))
    (s : SoFar orders done [] office start held) → AppendsFront held then (ending_text (office_of s.accepted office))
    → AppendsSome start then (IsFrontOfPlay orders)
stops_at_end orders done office start held then s written =
    let some = AppendsSome-front held then (ending_text (office_of s.accepted office)) written in
    front_of_play orders done [] office start held then some.0 s some.1 some.2

pub stops_before_end : (orders done : List Order) (office : KeptOffice) (start held then : Option (List ℕ))
    → SoFar orders done [] office start held → Keeps held then → AppendsSome start then (IsFrontOfPlay orders)
stops_before_end orders done office start held then s kept =
    front_of_play orders done [] office start held then [] s (ending_text (office_of s.accepted office), refl) (nothing_kept held then kept)

-- however the end was written
pub ends_by : (orders done : List Order) (office : KeptOffice) (start held then : Option (List ℕ)) (answer : Result (Unit {0}) PlayEnd)
    (s : SoFar orders done [] office start held) → WritesOr (ending_text (office_of s.accepted office)) held answer then
    → ¬ IsErrOf answer end.Done → WritesPlay orders (end_of answer) start then
ends_by orders done office start held then (Ok done_so) s written never = ends orders done office start held then s written
ends_by orders done office start held then (Err end.Memory) s written never = stops_before_end orders done office start held then s written
ends_by orders done office start held then (Err end.Failed) s written never = stops_at_end orders done office start held then s written
ends_by orders done office start held then (Err end.Done) s written never = absurd (never refl)

-- ---- an order that was played
-- A write ends as it should, or fails.
pub wrote_order : (order : Order) (accepted : List Entry) (old : KeptOffice) (held : Option (List ℕ)) (answer : Result (Unit {0}) PlayEnd)
    (new : KeptOffice) (then : Option (List ℕ)) (piece : List ℕ) → Did (Obeys order) accepted old [] new piece
    → WritesOr piece held answer then → OnErr answer (IsErrOf answer end.Failed) → WritesOrder order accepted old held answer new then
wrote_order order accepted old held (Ok done) new then piece did written only = (piece, did, written)
wrote_order order accepted old held (Err end.Memory) new then piece did written only = absurd cc
wrote_order order accepted old held (Err end.Failed) new then piece did written only = (piece, did, written)
wrote_order order accepted old held (Err end.Done) new then piece did written only = (piece, did, written)

-- An order that was played to its end left what it printed.
pub played_order : (order : Order) (accepted : List Entry) (old : KeptOffice) (held : Option (List ℕ)) (new : KeptOffice)
    (then : Option (List ℕ)) → WritesOrder order accepted old held (Ok tt) new then
    → (piece : List ℕ) × Did (Obeys order) accepted old [] new piece × Appends held then piece
played_order order accepted old held new then written = written

-- ---- how the whole ended
-- A failed write is that of what came before the end.
pub failed_so : (answer : Result (Unit {0}) PlayEnd) (old new : ℕ) → CountsFaults (IsErrOf answer end.Failed) old new
    → CountsFaults (end_of answer ≡ end.Failed) old new
failed_so (Ok done) old new counts =
    record { rose = λ e. absurd cc; steady = λ never. counts.steady (λ e. absurd cc); later = counts.later }
failed_so (Err how) old new counts = record {
  rose = λ e. counts.rose (ap Err e);
  steady = λ never. counts.steady (λ e. never (error_is (Err how) (Err end.Failed) how end.Failed refl refl e));
  later = counts.later;
}
  where
    error_is : (r s : Result (Unit {0}) PlayEnd) (a b : PlayEnd) → r ≡ Err a → s ≡ Err b → r ≡ s → a ≡ b
    error_is r s a b p q e = cc

-- Where memory ran out, no write failed and the end wasn't come to.
never_failed_so : (answer : Result (Unit {0}) PlayEnd) → answer ≡ Err end.Memory → answer ≡ Err end.Failed → ⊥
never_failed_so answer is failed = cc

pub memory_counts : (answer : Result (Unit {0}) PlayEnd) (faults : ℕ) → answer ≡ Err end.Memory
    → CountsFaults (IsErrOf answer end.Failed) faults faults
memory_counts answer faults is =
    record { rose = λ failed. absurd (never_failed_so answer is failed); steady = λ never. refl; later = omega arith }

pub memory_never : (answer : Result (Unit {0}) PlayEnd) → answer ≡ Err end.Memory → ¬ IsErrOf answer end.Done
memory_never answer is done = cc

-- A write that ends with an error failed.
pub failed_never : (answer : Result (Unit {0}) PlayEnd) → OnErr answer (IsErrOf answer end.Failed) → ¬ IsErrOf answer end.Done
failed_never (Ok done_so) only done = cc
failed_never (Err how) only done = cc

-- ---- orders that are left
nothing_left : (l : List Order) → length l ≡ 0 → l ≡ []
nothing_left [] none = refl
nothing_left (x ∷ xs) none = absurd (omega (arith, none))

-- where none is left
pub all_done : (orders done rest : List Order) (office : KeptOffice) (start now : Option (List ℕ)) → SoFar orders done rest office start now
    → length rest ≡ 0 → SoFar orders done [] office start now
all_done orders done rest office start now s none =
    subst (λ (l : List Order). SoFar orders done l office start now) (nothing_left rest none) s

-- The words of messages, as they are played.
use Rattle.std.proofs.Common.{◌≡◌, ℕ, zero, suc, ◌+◌, List, [], ◌∷◌, ◌++◌, ◌≤◌, length, Option, Some, None, refl, sym, ap, subst, ◌∙◌}
use Rattle.std.specs.Prelude.{codes, decimal, slice_get}
use Rattle.std.proofs.lemmas.List.Elements.{All-get_or}
use Rattle.std.proofs.lemmas.Option.{get_or_from_slice_get, slice_get_past, slice_get_within}
use Rattle.delivery.specs.Messages.{Message, named}
use Rattle.delivery.specs.Schedules.{message_at}
use Rattle.office_rules.specs.Deeds.{DoesBoth, DoesEach}
use Rattle.office_rules.specs.MessageWords.{Delivers, DeliversAnswered, DeliversAt, DeliversFound, ReportsAll, ReportsOne, Sends, shown_numbers}
use Rattle.office_rules.specs.OfficeLines.{nothing_line}
use Rattle.office_rules.specs.Offices.{PlayedComputer}
use Rattle.office_play.specs.Kept.{KeptOffice, office_of}
use Rattle.office_play.specs.Links.{CanArrive, IsGoodOffice}
use Rattle.office_play.specs.Played.{Plays}
use Rattle.office_play.proofs.Deeds.{plays_as, plays_both}

-- ---- messages by their numbers
pub message_found : (number place : ℕ) (messages : List Message) (message : Message) → number ≡ suc place
    → slice_get messages place ≡ Some message → Some message ≡ message_at number messages
message_found number place messages message is got = sym (ap (λ n. message_at n messages) is ∙ got)

pub message_none : (number place : ℕ) (messages : List Message) → number ≡ suc place → length messages ≤ place
    → None ≡ message_at number messages
message_none number place messages is past = sym (ap (λ n. message_at n messages) is ∙ slice_get_past messages place past)

-- ---- deliver
-- A message of an office can arrive.
pub message_can : (o : KeptOffice) (number : ℕ) (message : Message) → message_at number o.messages ≡ Some message → IsGoodOffice o
    → CanArrive o.relays o.computers message
message_can o zero message h good = absurd cc
message_can o (suc number) message h good =
    subst (CanArrive o.relays o.computers) (get_or_from_slice_get o.messages number message message h)
    (All-get_or (CanArrive o.relays o.computers) o.messages number message (slice_get_within o.messages number message h) good.messages)

pub delivers_found : (old new : KeptOffice) (number : ℕ) (message : Message) (out written : List ℕ)
    → message_at number old.messages ≡ Some message → Plays (Delivers number message) old out new written
    → Plays (DeliversAt number) old out new written
delivers_found old new number message out written is p =
    plays_as (Delivers number message) (DeliversAt number) old new out written
    (λ accepted said n d. subst (λ (f : Option Message). DeliversFound number f (office_of accepted old) said n) (sym is) d) p

pub delivers_none : (old : KeptOffice) (number : ℕ) (out written : List ℕ) → message_at number old.messages ≡ None → IsGoodOffice old
    → written ≡ out ++ nothing_line (codes "deliver" ∷ decimal number ∷ []) → Plays (DeliversAt number) old out old written
delivers_none old number out written none good said accepted rows = record {
  later = accepted;
  said = nothing_line (codes "deliver" ∷ decimal number ∷ []);
  does = subst (λ (f : Option Message). DeliversFound number f (office_of accepted old) (nothing_line (codes "deliver" ∷ decimal number ∷ [])) (office_of accepted old)) (sym none)
      (refl, refl);
  rows = rows;
  out_is = said;
  good = good;
}

-- ---- a message and its answer, and a report
pub delivers_answered : (a b c : KeptOffice) (number : ℕ) (x y z : List ℕ) → Plays (DeliversAt number) a x b y
    → Plays (DeliversAt (length a.messages + 1)) b y c z → Plays (DeliversAnswered number) a x c z
delivers_answered a b c number x y z p q =
    plays_as (DoesBoth (DeliversAt number) (DeliversAt (length a.messages + 1))) (DeliversAnswered number) a c x z (λ accepted said n d. d)
    (plays_both (DeliversAt number) (DeliversAt (length a.messages + 1)) a b c x y z p q)

pub reports_one : (a b c : KeptOffice) (name : List ℕ) (seq : ℕ) (x y z : List ℕ) → Plays (Sends name seq) a x b y
    → Plays (DeliversAnswered (length a.messages + 1)) b y c z → Plays (ReportsOne name seq) a x c z
reports_one a b c name seq x y z p q =
    plays_as (DoesBoth (Sends name seq) (DeliversAnswered (length a.messages + 1))) (ReportsOne name seq) a c x z (λ accepted said n d. d)
    (plays_both (Sends name seq) (DeliversAnswered (length a.messages + 1)) a b c x y z p q)

pub reports_all : (a b : KeptOffice) (name : List ℕ) (computer : PlayedComputer) (x y : List ℕ) → named name a.computers ≡ Some computer
    → Plays (DoesEach (ReportsOne name) (shown_numbers computer.agent)) a x b y → Plays (ReportsAll name) a x b y
reports_all a b name computer x y here p =
    plays_as (DoesEach (ReportsOne name) (shown_numbers computer.agent)) (ReportsAll name) a b x y (λ accepted said n d. (computer, here, d)) p

-- Queues that are sent, and messages that arrive one after another.
use Rattle.std.proofs.Common.{◌≡◌, ℕ, zero, suc, ◌+◌, ◌<◌, ◌≤◌, arith, List, [], ◌∷◌, ◌++◌, length, take, Some, refl, sym, ap, subst, ◌∙◌}
use Rattle.std.specs.Prelude.{codes, get_or, slice_get}
use Rattle.std.specs.List.{range_with_len}
use Rattle.std.proofs.lemmas.List.{length_push, take_more, append_assoc}
use Rattle.std.proofs.lemmas.Option.{get_or_from_slice_get, slice_get_read, slice_get_within}
use Rattle.report_text.specs.declared.report.Report.{Report}
use Rattle.relay_core.specs.Relays.{RelayState}
use Rattle.delivery.specs.Messages.{ReportToServer, named}
use Rattle.office_rules.specs.Deeds.{DoesEach}
use Rattle.office_rules.specs.MessageWords.{DeliversAnswered, Forwards, Pushes, PushesQueue}
use Rattle.office_rules.specs.OfficeLines.{nothing_line}
use Rattle.office_rules.specs.Offices.{Office}
use Rattle.office_play.specs.Kept.{HasAccepted, KeptOffice, office_of}
use Rattle.office_play.specs.Links.{IsGoodOffice, IsGoodRelay, IsPlaceOf, IsReportOf}
use Rattle.office_play.specs.Messages.{DispatchesToServer, IsQueuedAt}
use Rattle.office_play.specs.Played.{Plays}
use Rattle.office_play.proofs.Deeds.{plays_as, plays_push}
use Rattle.office_play.proofs.Places.{at_place, named_holds, some_is}

-- ---- one report of a queue
-- The report that was read at a place of the queue is the one that is queued there.
pub queued_is : (o : KeptOffice) (name : List ℕ) (at : ℕ) (report read : Report) (place : ℕ) (entry : List ℕ × RelayState)
    → IsPlaceOf name o.relays place → entry ≡ get_or o.relays place entry → at < length entry.1.queue
    → read ≡ get_or entry.1.queue at read → IsQueuedAt o name at report → report ≡ read
queued_is o name at report read place entry is here within got queued =
    let found = at_place name o.relays place entry is.first here in
    let same : queued.0 ≡ entry.1 = some_is queued.0 entry.1 (sym queued.1 ∙ found.1) in
    some_is report read
    (sym queued.2 ∙ ap (λ (r : RelayState). slice_get r.queue at) same ∙ slice_get_read entry.1.queue (length entry.1.queue) at read refl within got)

-- where it is queued, the place is one of the queue
pub queued_within : (o : KeptOffice) (name : List ℕ) (at : ℕ) (report : Report) (place : ℕ) (entry : List ℕ × RelayState)
    → IsPlaceOf name o.relays place → entry ≡ get_or o.relays place entry → IsQueuedAt o name at report → at < length entry.1.queue
queued_within o name at report place entry is here queued =
    let found = at_place name o.relays place entry is.first here in
    let same : queued.0 ≡ entry.1 = some_is queued.0 entry.1 (sym queued.1 ∙ found.1) in
    slice_get_within entry.1.queue at report (sym (ap (λ (r : RelayState). slice_get r.queue at) same) ∙ queued.2)

-- It is of a computer that is there.
pub queued_good : (o : KeptOffice) (name : List ℕ) (at : ℕ) (read : Report) (place : ℕ) (entry : List ℕ × RelayState)
    → IsPlaceOf name o.relays place → entry ≡ get_or o.relays place entry → at < length entry.1.queue
    → read ≡ get_or entry.1.queue at read → IsGoodOffice o → IsReportOf o.computers read
queued_good o name at read place entry is here within got good =
    let relay = named_holds (λ (e : List ℕ × RelayState). IsGoodRelay o.computers e.1) name o.relays place entry is here good.relays in
    subst (IsReportOf o.computers) (sym got) (relay.queue at read within)

-- something is queued at each place of the queue
pub some_queued : (queue : List Report) (at : ℕ) → at < length queue → (report : Report) × (slice_get queue at ≡ Some report)
some_queued [] at h = absurd (omega (arith, h))
some_queued (report ∷ queue) zero h = (report, refl)
some_queued (report ∷ queue) (suc at) h = some_queued queue at (omega (arith, h))

-- ---- a queue
pub push_more : (name : List ℕ) (queue : List Report) (at : ℕ) (report : Report) (a b c : KeptOffice) (x y z : List ℕ)
    → slice_get queue at ≡ Some report → Plays (DoesEach (DispatchesToServer name) (take at queue)) a x b y
    → Plays (DispatchesToServer name report) b y c z → Plays (DoesEach (DispatchesToServer name) (take (at + 1) queue)) a x c z
push_more name queue at report a b c x y z is p q =
    let one : take (at + 1) queue ≡ take at queue ++ report ∷ [] =
    take_more queue at report (slice_get_within queue at report is)
    ∙ ap (λ (r : Report). take at queue ++ r ∷ []) (get_or_from_slice_get queue at report report is) in
    subst (λ l. Plays (DoesEach (DispatchesToServer name) l) a x c z) (sym one)
    (plays_push (DispatchesToServer name) (take at queue) report a b c x y z p q)

as_queue : (name : List ℕ) (queue : List Report) (o : Office) (said : List ℕ) (n : Office) → 0 < length queue
    → DoesEach (DispatchesToServer name) queue o said n → PushesQueue name queue o said n
as_queue name [] o said n some d = absurd (omega (arith, some))
as_queue name (first ∷ more) o said n some d = d

pub pushes_all : (name : List ℕ) (relay : RelayState) (a b : KeptOffice) (x y : List ℕ) → named name a.relays ≡ Some relay
    → 0 < length relay.queue → Plays (DoesEach (DispatchesToServer name) relay.queue) a x b y → Plays (Pushes name) a x b y
pushes_all name relay a b x y found some p =
    plays_as (DoesEach (DispatchesToServer name) relay.queue) (Pushes name) a b x y
    (λ accepted said n d. (relay, found, as_queue name relay.queue (office_of accepted a) said n some d)) p

as_nothing : (name : List ℕ) (queue : List Report) (o : Office) → length queue ≡ 0
    → PushesQueue name queue o (nothing_line (codes "push" ∷ name ∷ [])) o
as_nothing name [] o none = (refl, refl)
as_nothing name (first ∷ more) o none = absurd (omega (arith, none))

pub pushes_nothing : (name : List ℕ) (relay : RelayState) (a : KeptOffice) (x y : List ℕ) → named name a.relays ≡ Some relay
    → length relay.queue ≡ 0 → IsGoodOffice a → y ≡ x ++ nothing_line (codes "push" ∷ name ∷ []) → Plays (Pushes name) a x a y
pushes_nothing name relay a x y found none good said accepted rows = record {
  later = accepted;
  said = nothing_line (codes "push" ∷ name ∷ []);
  does = (relay, found, as_nothing name relay.queue (office_of accepted a) none);
  rows = rows;
  out_is = said;
  good = good;
}

-- ---- how many were sent
each_count : (name : List ℕ) (queue : List Report) (o : Office) (said : List ℕ) (n : Office)
    → DoesEach (DispatchesToServer name) queue o said n → length n.messages ≡ length o.messages + length queue
each_count name [] o said n d =
    let same : length n.messages ≡ length o.messages = ap (λ (p : Office). length p.messages) d.1 in omega (arith, same)
each_count name (report ∷ queue) o said n d =
    let one : length d.0.messages ≡ length o.messages + 1 =
    ap (λ (p : Office). length p.messages) d.3.1 ∙ length_push o.messages (ReportToServer name report) in
    let rest = each_count name queue d.0 d.2 n d.4 in
    omega (arith, one, rest)

pushed_count : (name : List ℕ) (queue : List Report) (o : Office) (said : List ℕ) (n : Office) → PushesQueue name queue o said n
    → length n.messages ≡ length o.messages + length queue
pushed_count name [] o said n d =
    let same : length n.messages ≡ length o.messages = ap (λ (p : Office). length p.messages) d.1 in omega (arith, same)
pushed_count name (first ∷ more) o said n d = each_count name (first ∷ more) o said n d

-- ---- a queue that is sent, and each of its messages with its answer
pub range_push : (a n : ℕ) → range_with_len a (suc n) ≡ range_with_len a n ++ (a + n) ∷ []
range_push a zero = let e : a ≡ a + 0 = omega arith in ap (λ k. k ∷ []) e
range_push a (suc n) =
    let e : (a + 1) + n ≡ a + suc n = omega arith in
    ap (λ l. a ∷ l) (range_push (a + 1) n ∙ ap (λ k. range_with_len (a + 1) n ++ k ∷ []) e)

pub deliver_more : (first number : ℕ) (a b c : KeptOffice) (x y z : List ℕ) (done more : ℕ) → number ≡ first + done → more ≡ suc done
    → Plays (DoesEach DeliversAnswered (range_with_len first done)) a x b y → Plays (DeliversAnswered number) b y c z
    → Plays (DoesEach DeliversAnswered (range_with_len first more)) a x c z
deliver_more first number a b c x y z done more is next p q =
    let one : range_with_len first more ≡ range_with_len first done ++ number ∷ [] =
    ap (range_with_len first) next ∙ range_push first done ∙ ap (λ k. range_with_len first done ++ k ∷ []) (sym is) in
    subst (λ l. Plays (DoesEach DeliversAnswered l) a x c z) (sym one)
    (plays_push DeliversAnswered (range_with_len first done) number a b c x y z p q)

pub forwards : (name : List ℕ) (a b c : KeptOffice) (x y z : List ℕ) (count : ℕ) → count + length a.messages ≡ length b.messages
    → Plays (Pushes name) a x b y
    → Plays (DoesEach DeliversAnswered (range_with_len (length a.messages + 1) count)) b y c z → Plays (Forwards name) a x c z
forwards name a b c x y z count count_is p q accepted rows =
    let one = p accepted rows in
    let two = q one.later one.rows in
    let relay : RelayState = one.does.0 in
    let pushed = pushed_count name relay.queue (office_of accepted a) one.said (office_of one.later b) one.does.2 in
    let same : count ≡ length relay.queue = omega (arith, count_is, pushed) in
    record {
      later = two.later;
      said = one.said ++ two.said;
      does = (
        relay,
        one.does.1,
        (
          office_of one.later b,
          one.said,
          two.said,
          one.does.2,
          subst (λ n. DoesEach DeliversAnswered (range_with_len (length a.messages + 1) n) (office_of one.later b) two.said (office_of two.later c)) same two.does,
          refl,
        ),
      );
      rows = two.rows;
      out_is = two.out_is ∙ ap (λ t. t ++ two.said) one.out_is ∙ append_assoc x one.said two.said;
      good = two.good;
    }

-- A queue that is sent leaves no fewer messages.
pub pushes_grow : (name : List ℕ) (a b : KeptOffice) (x y : List ℕ) → Plays (Pushes name) a x b y → HasAccepted a.rows
    → length a.messages ≤ length b.messages
pushes_grow name a b x y p has =
    let one = p has.0 has.1 in
    let relay : RelayState = one.does.0 in
    let more = pushed_count name relay.queue (office_of has.0 a) one.said (office_of one.later b) one.does.2 in
    omega (arith, more)

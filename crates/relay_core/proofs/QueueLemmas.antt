-- What becomes of the states of keys as reports come, become known and are forgotten.
use Rattle.std.specs.Prelude.{◌≡◌, ℕ, nat_eq, Bool, true, false, cond, ◌&&◌, not, List, [], ◌∷◌, ◌++◌, map, Some, None}
use Rattle.std.specs.declared.option.Option.{Option}
use Rattle.std.specs.declared.cmp.Ordering.{Ordering}
use Rattle.std.specs.declared.cmp.Ordering.TheVariants.{Less, Equal, Greater}
use Rattle.std.specs.Option.{option_or, option_map, is_some, IsSome}
use Rattle.std.specs.Ordering.{nat_cmp, is_eq, ordering_then}
use Rattle.std.specs.Cmp.{IsEquivalence, and_equiv, on_equiv, nat_eq_equiv, unsigned_ties, first_so, second_so}
use Rattle.std.specs.Cmp.Lexicographic.{slice_cmp, pointwise, nat_list_eq_equiv, texts_ties, bytes_decides}
use Rattle.std.specs.Map.{lookup, keys_of}
use Rattle.std.specs.List.{IsDistinct, All, AllByRecursion, list_any, position_from}
use Rattle.std.specs.BTreeMap.{BTreeMap, get, is_at}
use Rattle.std.proofs.Common.{arith, ◌<◌, ◌≤◌, ◌+◌, suc, length, get_or, take, drop, refl, sym, ap, ◌∙◌, subst, append_assoc}
use Rattle.std.proofs.lemmas.Bool.{eqb-true}
use Rattle.std.proofs.lemmas.List.{map-append, map_push, take-append-drop}
use Rattle.std.proofs.Math.Seq.{drop-cons}
use Rattle.std.proofs.lemmas.List.Elements.{filter-append}
use Rattle.std.proofs.lemmas.Map.Made.{lookup-map_values, keys_of-map_values, is_some-lookup}
use Rattle.std.proofs.lemmas.List.Sums.{length-filter, count_by-le-length}
use Rattle.std.proofs.lemmas.Map.Keys.{IsDistinct-push}
use Rattle.report_text.specs.declared.report.Report.{Report}
use Rattle.report_text.specs.Reports.{IsReport}
use Rattle.relay_core.specs.declared.key.Key.{Key}
use Rattle.relay_core.specs.declared.report_queue.KeyState.{KeyState}
use Rattle.relay_core.specs.declared.report_queue.KeyState.TheVariants.{Queued, Held}
use Rattle.relay_core.specs.ReportKeys.{HasDistinctKeys, ReportKey, key_of, same_key, report_digest, digested, held_digest, queued_digest}
use Rattle.relay_core.specs.ReportsUp.{without}
use Rattle.relay_core.specs.Indexes.{QueueState, shown_key, key_cmp, all_keys, states_by, key_states, state_of, IsState, FindsState, Writes}
use Rattle.relay_core.proofs.KeyLists.{lookup-append, all_later, lookup-push, lookup-rest, lookup-moved, lookup-later, apart_from_entries, entries_distinct, later_distinct, moved_distinct}

-- ---- keys

pub same_key_equiv : IsEquivalence same_key
same_key_equiv = and_equiv (on_equiv (λ (key : ReportKey). key.seq) nat_eq_equiv) (on_equiv (λ (key : ReportKey). key.computer) nat_list_eq_equiv)

pub same_key_is : (key other : ReportKey) → same_key key other ≡ true → key ≡ other
same_key_is key other same =
    let seq : key.seq ≡ other.seq = eqb-true _ _ (first_so (nat_eq key.seq other.seq) (pointwise nat_eq key.computer other.computer) same) in
    let computer : key.computer ≡ other.computer = (bytes_decides _ _).0 (second_so (nat_eq key.seq other.seq) (pointwise nat_eq key.computer other.computer) same) in
    λ i. record { computer = computer i; seq = seq i }

and_turned : (r s : Ordering) → is_eq (ordering_then r s) ≡ (is_eq s && is_eq r)
and_turned Less Less = refl
and_turned Less Equal = refl
and_turned Less Greater = refl
and_turned Equal Less = refl
and_turned Equal Equal = refl
and_turned Equal Greater = refl
and_turned Greater Less = refl
and_turned Greater Equal = refl
and_turned Greater Greater = refl

-- the order tells keys apart as they are
pub at_is_same : (key other : Key) → is_at (key_cmp key) other ≡ same_key (shown_key key) (shown_key other)
at_is_same key other =
    and_turned (slice_cmp nat_cmp key.computer.bytes other.computer.bytes) (nat_cmp key.seq other.seq)
    ∙ (λ i. sym (unsigned_ties key.seq other.seq) i && sym (texts_ties key.computer.bytes other.computer.bytes) i)

keys_digested : (queue : List Report) → keys_of (map digested queue) ≡ map key_of queue
keys_digested [] = refl
keys_digested (report ∷ queue) = ap (λ keys. key_of report ∷ keys) (keys_digested queue)

-- the keys of the queue are distinct as those of the held and the queued ones are
pub queue_distinct : (reports : QueueState) → IsDistinct same_key (keys_of (all_keys reports)) → HasDistinctKeys reports.queue
queue_distinct reports distinct =
    subst (IsDistinct same_key) (keys_digested reports.queue)
    (later_distinct same_key (keys_of reports.held) (keys_of (map digested reports.queue))
    (subst (IsDistinct same_key) (map-append (λ e. e.0) reports.held (map digested reports.queue)) distinct))

-- ---- the states of a queue

pub keys_of-key_states : (reports : QueueState) → keys_of (key_states reports) ≡ keys_of (all_keys reports)
keys_of-key_states reports =
    map-append (λ e. e.0) (states_by Held reports.held) (states_by Queued (map digested reports.queue))
    ∙ (λ i. keys_of-map_values Held reports.held i ++ keys_of-map_values Queued (map digested reports.queue) i)
    ∙ sym (map-append (λ e. e.0) reports.held (map digested reports.queue))

some_of_two : (held : Option KeyState) (queued : Option (List ℕ)) → IsSome queued → IsSome (option_or held (option_map Queued queued))
some_of_two None None some = some
some_of_two None (Some digest) some = refl
some_of_two (Some state) queued some = refl

state-parts : (reports : QueueState) (key : ReportKey)
    → state_of reports key ≡ option_or (option_map Held (held_digest reports.held key)) (option_map Queued (queued_digest reports.queue key))
state-parts reports key =
    lookup-append (same_key key) (states_by Held reports.held) (states_by Queued (map digested reports.queue))
    ∙ (λ i. option_or (lookup-map_values Held (same_key key) reports.held i) (lookup-map_values Queued (same_key key) (map digested reports.queue) i))

decided : (held queued : Option (List ℕ)) → ((digest : List ℕ) → held ≡ Some digest → queued ≡ None)
    → IsState held queued (option_or (option_map Held held) (option_map Queued queued))
decided None None alone = (refl, refl)
decided None (Some digest) alone = (refl, refl)
decided (Some digest) queued alone = (refl, alone digest refl)

-- where no key stands twice, the state of a key says what is held and what is queued
pub finds_state : (reports : QueueState) (key : ReportKey) → IsDistinct same_key (keys_of (all_keys reports)) → FindsState reports key (state_of reports key)
finds_state reports key distinct =
    subst (FindsState reports key) (sym (state-parts reports key))
    (decided (held_digest reports.held key) (queued_digest reports.queue key)
    (λ digest found. lookup-later same_key_equiv reports.held (map digested reports.queue) key digest distinct found))

-- the key of a queued report has a state
pub queued_state : (reports : QueueState) (key : ReportKey) → IsSome (queued_digest reports.queue key) → IsSome (state_of reports key)
queued_state reports key queued =
    subst IsSome (sym (state-parts reports key))
    (some_of_two (option_map Held (held_digest reports.held key)) (queued_digest reports.queue key) queued)

-- a new key has no state
new_state : (reports : QueueState) (key : ReportKey) → FindsState reports key None → state_of reports key ≡ None
new_state reports key new =
    state-parts reports key ∙ (λ i. option_or (option_map Held (new.0 i)) (option_map Queued (new.1 i)))

-- ---- what a map of states has: the state of each key

abbrev pub Finds : BTreeMap Key KeyState → QueueState → Type 0
Finds states reports = (key : Key) → get key_cmp states key ≡ state_of reports (shown_key key)

written : (m : BTreeMap Key KeyState) (reports : QueueState) (key : Key) (shown : ReportKey) (state : Option KeyState) (n : BTreeMap Key KeyState) → Finds m reports → shown_key key ≡ shown
    → Writes m key state n → (other : Key) → get key_cmp n other ≡ cond (same_key shown (shown_key other)) state (state_of reports (shown_key other))
written m reports key shown state n finds is writes other =
    writes other ∙ (λ i. cond (at_is_same key other i) state (finds other i)) ∙ ap (λ k. cond (same_key k (shown_key other)) state (state_of reports (shown_key other))) is

-- ---- a report that comes

states-push : (held : List (ReportKey × List ℕ)) (queue : List Report) (report : Report)
    → key_states (record { queue = queue ++ report ∷ []; held = held }) ≡ key_states (record { queue = queue; held = held }) ++ (key_of report, Queued (report_digest report)) ∷ []
states-push held queue report =
    ap (λ l. states_by Held held ++ states_by Queued l) (map_push digested queue report)
    ∙ ap (λ l. states_by Held held ++ l) (map_push (λ (e : ReportKey × List ℕ). (e.0, Queued e.1)) (map digested queue) (digested report))
    ∙ sym (append_assoc (states_by Held held) (states_by Queued (map digested queue)) ((key_of report, Queued (report_digest report)) ∷ []))

pub finds_pushed : (m : BTreeMap Key KeyState) (held : List (ReportKey × List ℕ)) (queue : List Report) (key : Key) (digest : List ℕ) (report : Report) (n : BTreeMap Key KeyState)
    → Finds m (record { queue = queue; held = held }) → shown_key key ≡ key_of report → digest ≡ report_digest report
    → FindsState (record { queue = queue; held = held }) (shown_key key) None → Writes m key (Some (Queued digest)) n
    → Finds n (record { queue = queue ++ report ∷ []; held = held })
finds_pushed m held queue key digest report n finds is of new writes other =
    let old : QueueState = record { queue = queue; held = held } in
    written m old key (key_of report) (Some (Queued digest)) n finds is writes other
    ∙ ap (λ d. cond (same_key (key_of report) (shown_key other)) (Some (Queued d)) (state_of old (shown_key other))) of
    ∙ sym (lookup-push same_key_equiv (key_of report) (Queued (report_digest report)) (shown_key other) (key_states old)
    (ap (state_of old) (sym is) ∙ new_state old (shown_key key) new))
    ∙ ap (lookup (same_key (shown_key other))) (sym (states-push held queue report))

pub distinct_pushed : (held : List (ReportKey × List ℕ)) (queue : List Report) (report : Report) → IsDistinct same_key (keys_of (all_keys (record { queue = queue; held = held })))
    → FindsState (record { queue = queue; held = held }) (key_of report) None
    → IsDistinct same_key (keys_of (all_keys (record { queue = queue ++ report ∷ []; held = held })))
distinct_pushed held queue report distinct new =
    let old : QueueState = record { queue = queue; held = held } in
    let grown : keys_of (all_keys (record { queue = queue ++ report ∷ []; held = held })) ≡ keys_of (all_keys old) ++ key_of report ∷ [] =
    ap (λ l. keys_of (held ++ l)) (map_push digested queue report)
    ∙ ap keys_of (sym (append_assoc held (map digested queue) (digested report ∷ [])))
    ∙ map_push (λ (e : ReportKey × List ℕ). e.0) (all_keys old) (digested report) in
    let absent : list_any (same_key (key_of report)) (keys_of (all_keys old)) ≡ false =
    sym (is_some-lookup (same_key (key_of report)) (all_keys old))
    ∙ ap is_some (lookup-append (same_key (key_of report)) held (map digested queue) ∙ (λ i. option_or (new.0 i) (new.1 i))) in
    subst (IsDistinct same_key) (sym grown) (IsDistinct-push same_key_equiv (keys_of (all_keys old)) (key_of report) distinct absent)

-- ---- a key that is forgotten

states-forget : (held : List (ReportKey × List ℕ)) (key : ReportKey) (digest : List ℕ) (queue : List Report)
    → key_states (record { queue = queue; held = held ++ (key, digest) ∷ [] }) ≡ states_by Held held ++ (key, Held digest) ∷ states_by Queued (map digested queue)
states-forget held key digest queue =
    ap (λ l. l ++ states_by Queued (map digested queue)) (map_push (λ (e : ReportKey × List ℕ). (e.0, Held e.1)) held (key, digest))
    ∙ append_assoc (states_by Held held) ((key, Held digest) ∷ []) (states_by Queued (map digested queue))

keys_distinct : (reports : QueueState) → IsDistinct same_key (keys_of (all_keys reports)) → IsDistinct same_key (keys_of (key_states reports))
keys_distinct reports distinct = subst (IsDistinct same_key) (sym (keys_of-key_states reports)) distinct

all_distinct : (reports : QueueState) → IsDistinct same_key (keys_of (key_states reports)) → IsDistinct same_key (keys_of (all_keys reports))
all_distinct reports distinct = subst (IsDistinct same_key) (keys_of-key_states reports) distinct

forget_parts : (held : List (ReportKey × List ℕ)) (key : ReportKey) (digest : List ℕ) (queue : List Report)
    → IsDistinct same_key (keys_of (all_keys (record { queue = queue; held = held ++ (key, digest) ∷ [] })))
    → IsDistinct same_key (keys_of (states_by Held held ++ (key, Held digest) ∷ states_by Queued (map digested queue)))
forget_parts held key digest queue distinct =
    subst (λ l. IsDistinct same_key (keys_of l)) (states-forget held key digest queue)
    (keys_distinct (record { queue = queue; held = held ++ (key, digest) ∷ [] }) distinct)

pub finds_forgotten : (m : BTreeMap Key KeyState) (held : List (ReportKey × List ℕ)) (key : Key) (digest : List ℕ) (queue : List Report) (n : BTreeMap Key KeyState)
    → Finds m (record { queue = queue; held = held ++ (shown_key key, digest) ∷ [] })
    → IsDistinct same_key (keys_of (all_keys (record { queue = queue; held = held ++ (shown_key key, digest) ∷ [] })))
    → Writes m key None n → Finds n (record { queue = queue; held = held })
finds_forgotten m held key digest queue n finds distinct writes other =
    written m (record { queue = queue; held = held ++ (shown_key key, digest) ∷ [] }) key (shown_key key) None n finds refl writes other
    ∙ ap (λ l. cond (same_key (shown_key key) (shown_key other)) None (lookup (same_key (shown_key other)) l)) (states-forget held (shown_key key) digest queue)
    ∙ sym (lookup-rest same_key_equiv (states_by Held held) (shown_key key) (Held digest) (states_by Queued (map digested queue)) (shown_key other)
    (forget_parts held (shown_key key) digest queue distinct))

pub distinct_forgotten : (held : List (ReportKey × List ℕ)) (key : ReportKey) (digest : List ℕ) (queue : List Report)
    → IsDistinct same_key (keys_of (all_keys (record { queue = queue; held = held ++ (key, digest) ∷ [] })))
    → IsDistinct same_key (keys_of (all_keys (record { queue = queue; held = held })))
distinct_forgotten held key digest queue distinct =
    all_distinct (record { queue = queue; held = held })
    (entries_distinct same_key_equiv (states_by Held held) key (Held digest) (states_by Queued (map digested queue)) (forget_parts held key digest queue distinct))

-- ---- a report that becomes known

states-split : (held : List (ReportKey × List ℕ)) (before : List Report) (report : Report) (after : List Report)
    → key_states (record { queue = before ++ report ∷ after; held = held })
    ≡ (states_by Held held ++ states_by Queued (map digested before)) ++ (key_of report, Queued (report_digest report)) ∷ states_by Queued (map digested after)
states-split held before report after =
    ap (λ l. states_by Held held ++ states_by Queued l) (map-append digested before (report ∷ after))
    ∙ ap (λ l. states_by Held held ++ l) (map-append (λ (e : ReportKey × List ℕ). (e.0, Queued e.1)) (map digested before) (digested report ∷ map digested after))
    ∙ sym (append_assoc (states_by Held held) (states_by Queued (map digested before)) ((key_of report, Queued (report_digest report)) ∷ states_by Queued (map digested after)))

states-join : (held : List (ReportKey × List ℕ)) (before after : List Report)
    → (states_by Held held ++ states_by Queued (map digested before)) ++ states_by Queued (map digested after) ≡ states_by Held held ++ states_by Queued (map digested (before ++ after))
states-join held before after =
    append_assoc (states_by Held held) (states_by Queued (map digested before)) (states_by Queued (map digested after))
    ∙ ap (λ l. states_by Held held ++ l) (sym (map-append (λ (e : ReportKey × List ℕ). (e.0, Queued e.1)) (map digested before) (map digested after)))
    ∙ ap (λ l. states_by Held held ++ states_by Queued l) (sym (map-append digested before after))

split_parts : (held : List (ReportKey × List ℕ)) (before : List Report) (report : Report) (after : List Report)
    → IsDistinct same_key (keys_of (all_keys (record { queue = before ++ report ∷ after; held = held })))
    → IsDistinct same_key (keys_of ((states_by Held held ++ states_by Queued (map digested before)) ++ (key_of report, Queued (report_digest report)) ∷ states_by Queued (map digested after)))
split_parts held before report after distinct =
    subst (λ l. IsDistinct same_key (keys_of l)) (states-split held before report after)
    (keys_distinct (record { queue = before ++ report ∷ after; held = held }) distinct)

pub finds_held : (m : BTreeMap Key KeyState) (held : List (ReportKey × List ℕ)) (key : Key) (digest : List ℕ) (before : List Report) (report : Report) (after : List Report) (n : BTreeMap Key KeyState)
    → Finds m (record { queue = before ++ report ∷ after; held = held })
    → IsDistinct same_key (keys_of (all_keys (record { queue = before ++ report ∷ after; held = held })))
    → shown_key key ≡ key_of report → Writes m key (Some (Held digest)) n
    → Finds n (record { queue = before ++ after; held = (shown_key key, digest) ∷ held })
finds_held m held key digest before report after n finds distinct is writes other =
    written m (record { queue = before ++ report ∷ after; held = held }) key (key_of report) (Some (Held digest)) n finds is writes other
    ∙ ap (λ l. cond (same_key (key_of report) (shown_key other)) (Some (Held digest)) (lookup (same_key (shown_key other)) l)) (states-split held before report after)
    ∙ sym (lookup-moved same_key_equiv (states_by Held held ++ states_by Queued (map digested before)) (key_of report) (Queued (report_digest report)) (Held digest)
    (states_by Queued (map digested after)) (shown_key other) (split_parts held before report after distinct))
    ∙ ap (λ l. lookup (same_key (shown_key other)) ((key_of report, Held digest) ∷ l)) (states-join held before after)
    ∙ ap (λ k. lookup (same_key (shown_key other)) ((k, Held digest) ∷ (states_by Held held ++ states_by Queued (map digested (before ++ after))))) (sym is)

pub distinct_held : (held : List (ReportKey × List ℕ)) (key : ReportKey) (digest : List ℕ) (before : List Report) (report : Report) (after : List Report)
    → IsDistinct same_key (keys_of (all_keys (record { queue = before ++ report ∷ after; held = held }))) → key ≡ key_of report
    → IsDistinct same_key (keys_of (all_keys (record { queue = before ++ after; held = (key, digest) ∷ held })))
distinct_held held key digest before report after distinct is =
    subst (λ k. IsDistinct same_key (keys_of (all_keys (record { queue = before ++ after; held = (k, digest) ∷ held })))) (sym is)
    (all_distinct (record { queue = before ++ after; held = (key_of report, digest) ∷ held })
    (subst (λ l. IsDistinct same_key (keys_of ((key_of report, Held digest) ∷ l))) (states-join held before after)
    (moved_distinct same_key_equiv (states_by Held held ++ states_by Queued (map digested before)) (key_of report) (Queued (report_digest report)) (Held digest)
    (states_by Queued (map digested after)) (split_parts held before report after distinct))))

-- ---- the place of a report

-- where no report has the key, none is found
pub not_placed : (key : ReportKey) (queue : List Report) (i : ℕ) → position_from (λ report. same_key key (key_of report)) i queue ≡ None → queued_digest queue key ≡ None
not_placed key [] i none = refl
not_placed key (report ∷ queue) i none =
    elim (same_key key (key_of report)) as (λ b. cond b (Some i) (position_from (λ other. same_key key (key_of other)) (i + 1) queue) ≡ None
    → cond b (Some (report_digest report)) (queued_digest queue key) ≡ None) [
      | true ↦ λ none. cc
      | false ↦ λ none. not_placed key queue (i + 1) none
    ] none

-- no report has a name of more than 64 bytes
pub long_name : (key : ReportKey) (queue : List Report) → All IsReport queue → 64 < length key.computer → queued_digest queue key ≡ None
long_name key [] good long = refl
long_name key (report ∷ queue) good long =
    elim (same_key key (key_of report)) as (λ b. same_key key (key_of report) ≡ b → cond b (Some (report_digest report)) (queued_digest queue key) ≡ None) [
      | true ↦ λ same.
          let is : length key.computer ≡ length report.computer = ap (λ (k : ReportKey). length k.computer) (same_key_is key (key_of report) same) in
          absurd (omega (arith, (good 0 report (omega arith)).computer.1))
      | false ↦ λ other. long_name key queue (λ k d inside. good (suc k) d (omega arith)) long
    ] refl

-- a list around one of its elements
pub split_at : {X : Type 0} (xs : List X) (i : ℕ) (x : X) → i < length xs → x ≡ get_or xs i x → xs ≡ take i xs ++ x ∷ drop (suc i) xs
split_at xs i x inside is =
    sym (take-append-drop i xs) ∙ ap (λ l. take i xs ++ l) (drop-cons xs i x inside ∙ ap (λ y. y ∷ drop (suc i) xs) (sym is))

-- ---- the queue without a report

kept_all : (key : ReportKey) (queue : List Report) → AllByRecursion (λ other. same_key key other ≡ false) (keys_of (states_by Queued (map digested queue))) → without key queue ≡ queue
kept_all key [] apart = refl
kept_all key (report ∷ queue) apart =
    subst (λ b. cond (not b) (report ∷ without key queue) (without key queue) ≡ report ∷ queue) (sym apart.0) (ap (λ l. report ∷ l) (kept_all key queue apart.1))

pub without-held : (held : List (ReportKey × List ℕ)) (key : ReportKey) (before : List Report) (report : Report) (after : List Report)
    → IsDistinct same_key (keys_of (all_keys (record { queue = before ++ report ∷ after; held = held }))) → key ≡ key_of report
    → without key (before ++ report ∷ after) ≡ before ++ after
without-held held key before report after distinct is =
    let apart : AllByRecursion (λ other. same_key (key_of report) other ≡ false) (keys_of (states_by Held held ++ states_by Queued (map digested (before ++ after)))) =
    subst (λ l. AllByRecursion (λ other. same_key (key_of report) other ≡ false) (keys_of l)) (states-join held before after)
    (apart_from_entries same_key_equiv (states_by Held held ++ states_by Queued (map digested before)) (key_of report) (Queued (report_digest report))
    (states_by Queued (map digested after)) (split_parts held before report after distinct)) in
    let queued : AllByRecursion (λ other. same_key (key_of report) other ≡ false) (keys_of (states_by Queued (map digested (before ++ after)))) =
    all_later (λ other. same_key (key_of report) other ≡ false) (keys_of (states_by Held held)) (keys_of (states_by Queued (map digested (before ++ after))))
    (subst (AllByRecursion (λ other. same_key (key_of report) other ≡ false)) (map-append (λ e. e.0) (states_by Held held) (states_by Queued (map digested (before ++ after)))) apart) in
    ap (λ k. without k (before ++ report ∷ after)) is
    ∙ filter-append (λ other. not (same_key (key_of report) (key_of other))) before (report ∷ after)
    ∙ ap (λ b. without (key_of report) before ++ cond (not b) (report ∷ without (key_of report) after) (without (key_of report) after)) (same_key_equiv.refl (key_of report))
    ∙ sym (filter-append (λ other. not (same_key (key_of report) (key_of other))) before after)
    ∙ kept_all (key_of report) (before ++ after) queued

pub length-without : (key : ReportKey) (queue : List Report) → length (without key queue) ≤ length queue
length-without key queue =
    let passes : Report → Bool = λ report. not (same_key key (key_of report)) in
    rw (length-filter passes queue) (count_by-le-length passes queue)

-- What a relay answers to a report that was made, and what it keeps after a report and after it was told what is held.
use Rattle.std.specs.Prelude.{◌≡◌, ℕ, nat_lt, Bool, true, false, cond, List, [], ◌∷◌, ◌++◌, All, length, map, not, slice_index_or, Some, None}
use Rattle.std.specs.declared.option.Option.{Option}
use Rattle.std.proofs.Common.{refl, sym, ap, ◌∙◌, subst}
use Rattle.std.proofs.lemmas.List.Elements.{All-cons, All-filter, All-map, All-push, All-take}
use Rattle.std.proofs.lemmas.Slice.Eq.{bytes_eq-Decides}
use Rattle.report_text.specs.declared.report.Report.{Report}
use Rattle.report_text.specs.declared.answer.Verdict.{Verdict}
use Rattle.report_text.specs.declared.answer.Verdict.TheVariants.{Carried, Conflict, Full, Stored}
use Rattle.relay_core.specs.ReportKeys.{ReportKey, digested, held_digest, key_of, queued_digest, report_digest, same_key}
use Rattle.relay_core.specs.ReportsUp.{compared, has_place, held_verdict, is_queued, limited, queue_verdict, up_verdict, with_held, without}
use Rattle.server_text.specs.Entries.{Entry}
use Rattle.server_core.specs.TableViews.{IsHeld}
use Rattle.delivery.specs.Messages.{Carrier, carrier_of, relay_of}
use Rattle.delivery.specs.Arrivals.{carried, told}
use Rattle.delivery.proofs.Accepting.{held_is}
use Rattle.delivery.proofs.Lists.{all_looked, same_key_is}
use Rattle.delivery.proofs.Rights.{AreMade, AreRightEntries, HasKey, History, IsMade, IsRightCarrier, IsRightVerdict}

stored_no : (kept : List ℕ) → Stored ≡ Conflict kept → ⊥
stored_no kept e = cc

carried_no : (kept : List ℕ) → Carried ≡ Conflict kept → ⊥
carried_no kept e = cc

full_no : (limit : ℕ) (kept : List ℕ) → Full limit ≡ Conflict kept → ⊥
full_no limit kept e = cc

carried_stored : Carried ≡ Stored → ⊥
carried_stored e = cc

full_stored : (limit : ℕ) → Full limit ≡ Stored → ⊥
full_stored limit e = cc

compared_same : (same : Verdict) (there digest : List ℕ) → there ≡ digest → compared same there digest ≡ same
compared_same same there digest is = ap (λ (b : Bool). cond b same (Conflict there)) ((bytes_eq-Decides there digest).1 is)

module _ (made : History) (accepted : List Entry) (are : AreMade made) (entries : AreRightEntries made accepted) (carrier : Carrier)
    (right : IsRightCarrier made accepted carrier) (report : Report) (is_made : IsMade made report) where
  abbrev Right : Verdict → Type 0
  Right verdict = IsRightVerdict accepted report.computer report.seq verdict

  stored_right : HasKey accepted report.computer report.seq → Right Stored
  stored_right has = record { stored = λ e. has; agreed = stored_no }

  carried_verdict : Right Carried
  carried_verdict = record { stored = λ e. absurd (carried_stored e); agreed = carried_no }

  full_right : (limit : ℕ) → Right (Full limit)
  full_right limit = record { stored = λ e. absurd (full_stored limit e); agreed = full_no limit }

  -- the digest that is known of its key
  known : (digest : List ℕ) → held_digest carrier.held (key_of report) ≡ Some digest → IsHeld accepted report.computer report.seq digest
  known digest found =
      let looked = all_looked (λ (entry : ReportKey × List ℕ). IsHeld accepted entry.0.computer entry.0.seq entry.1) (same_key (key_of report)) carrier.held
      digest right.held found in
      subst (λ (key : ReportKey). IsHeld accepted key.computer key.seq digest) (sym (same_key_is (key_of report) looked.0 looked.1)) looked.2

  -- an entry of the queue's digests is that of a report that was made
  abbrev OfMade : ReportKey × List ℕ → Type 0
  OfMade entry = (queued : Report) × IsMade made queued × (digested queued ≡ entry)

  of_queue : All OfMade (map digested carrier.queue)
  of_queue = All-map OfMade digested carrier.queue (λ k d in_. (slice_index_or carrier.queue k d, right.queue k d in_, refl))

  -- the digest that is queued of its key
  queued : (digest : List ℕ) → queued_digest carrier.queue (key_of report) ≡ Some digest → digest ≡ report_digest report
  queued digest found =
      let looked = all_looked OfMade (same_key (key_of report)) (map digested carrier.queue) digest of_queue found in
      let is = looked.2.2 in
      let key : key_of looked.2.0 ≡ key_of report = ap (λ (e : ReportKey × List ℕ). e.0) is ∙ sym (same_key_is (key_of report) looked.0 looked.1) in
      sym (ap (λ (e : ReportKey × List ℕ). e.1) is) ∙ ap report_digest (are.one looked.2.0 report looked.2.1 is_made key)

  limited_right : Right (limited (relay_of carrier))
  limited_right =
      elim (nat_lt (length carrier.queue) carrier.limit) as (λ b. Right (cond b Carried (Full carrier.limit))) [
        | true ↦ carried_verdict
        | false ↦ full_right carrier.limit
      ]

  queue_right : Right (queue_verdict (queued_digest carrier.queue (key_of report)) (relay_of carrier) report)
  queue_right =
      elim (queued_digest carrier.queue (key_of report)) as (λ o. queued_digest carrier.queue (key_of report) ≡ o
      → Right (queue_verdict o (relay_of carrier) report)) [
        | None ↦ λ e. limited_right
        | Some digest ↦ λ e. subst Right (sym (compared_same Carried digest (report_digest report) (queued digest e))) carried_verdict
      ] refl

  -- The verdict is Stored only where the report is held, and never a conflict.
  pub verdict_right : Right (up_verdict (relay_of carrier) report)
  verdict_right =
      elim (held_digest carrier.held (key_of report)) as (λ o. held_digest carrier.held (key_of report) ≡ o
      → Right (held_verdict o (relay_of carrier) report)) [
        | None ↦ λ e. queue_right
        | Some digest ↦ λ e.
            let held = known digest e in
            subst Right (sym (compared_same Stored digest (report_digest report) (held_is made accepted are entries report is_made digest held)))
            (stored_right (held.0, held.1, held.2))
      ] refl

  pub carried_right : IsRightCarrier made accepted (carried report carrier)
  carried_right =
      elim (has_place (relay_of carrier) (key_of report)) as (λ b. IsRightCarrier made accepted
      (carrier_of (cond b (record (relay_of carrier) { queue = carrier.queue ++ report ∷ [] }) (relay_of carrier)))) [
        | true ↦ record { queue = All-push (IsMade made) carrier.queue report right.queue is_made; held = right.held }
        | false ↦ record { queue = right.queue; held = right.held }
      ]

module _ (made : History) (accepted : List Entry) (key : ReportKey) (carrier : Carrier) (right : IsRightCarrier made accepted carrier) where
  abbrev Held : ReportKey × List ℕ → Type 0
  Held entry = IsHeld accepted entry.0.computer entry.0.seq entry.1

  told_digest : (digest : List ℕ) → IsHeld accepted key.computer key.seq digest → IsRightCarrier made accepted (told key (Some digest) carrier)
  told_digest digest held =
      elim (is_queued (relay_of carrier) key) as (λ b. IsRightCarrier made accepted (carrier_of
      (cond b (record (relay_of carrier) { queue = without key carrier.queue; held = with_held key digest carrier.held }) (relay_of carrier)))) [
        | true ↦ record {
          queue = All-filter (λ report. not (same_key key (key_of report))) (IsMade made) carrier.queue right.queue;
          held = All-take Held 10000 ((key, digest) ∷ carrier.held) (All-cons Held (key, digest) carrier.held held right.held);
        }
        | false ↦ record { queue = right.queue; held = right.held }
      ]

  -- what it is told to be held is held
  pub told_right : (digest : Option (List ℕ)) → ((kept : List ℕ) → digest ≡ Some kept → IsHeld accepted key.computer key.seq kept)
      → IsRightCarrier made accepted (told key digest carrier)
  told_right None holds = right
  told_right (Some digest) holds = told_digest digest (holds digest refl)

-- What holds of an office before a deed and holds after it.
use Rattle.std.proofs.Common.{◌≡◌, ℕ, List, [], ◌∷◌, ◌++◌, Option, Some, None, sym, subst, ◌∙◌}
use Rattle.report_text.specs.declared.report.Report.{Report}
use Rattle.delivery.specs.Messages.{Message, ReportToRelay, ReportToServer}
use Rattle.delivery.specs.Schedules.{message_at}
use Rattle.office_rules.specs.Deeds.{Deed, DoesBoth, DoesEach}
use Rattle.office_rules.specs.MessageWords.{Delivers, DeliversAnswered, DeliversAt, DeliversFound, Dispatches, Forwards, Pushes, PushesQueue, ReportsAll, ReportsOne, Sends, SendsFound, next_number, shown_numbers, shown_report}
use Rattle.office_rules.specs.Offices.{Office}
use Rattle.office_rules.proofs.OneDeed.{IsOneFrom, nothing_once}

module _ (P : Office → Type 0) where
  abbrev pub KeepsFrom : Office → Deed → Type 0
  KeepsFrom old D = (said : List ℕ) (new : Office) → P old → D old said new → P new

  abbrev pub Keeps : Deed → Type 0
  Keeps D = (old : Office) → KeepsFrom old D

  -- it holds of what an office is
  pub stays : (then new : Office) → new ≡ then → P then → P new
  stays then new is h = subst P (sym is) h

  -- ---- one after another
  pub both_keep : (First Second : Deed) (old : Office) → KeepsFrom old First → Keeps Second → KeepsFrom old (DoesBoth First Second)
  both_keep First Second old one then said new h (mid, a, b, p, q, is) = then mid b new (one a mid h p) q

  pub each_keeps : {T : Type 0} (Does : T → Deed) → ((x : T) → Keeps (Does x)) → (xs : List T) → Keeps (DoesEach Does xs)
  each_keeps Does one [] = λ old said new h p. stays old new p.1 h
  each_keeps Does one (x ∷ xs) = λ old. both_keep (Does x) (DoesEach Does xs) old (one x old) (each_keeps Does one xs)

  -- where each comes to one thing while it holds, all do
  pub each_kept_once : {T : Type 0} (Does : T → Deed) → ((x : T) → Keeps (Does x)) → ((x : T) (old : Office) → P old → IsOneFrom old (Does x)) → (xs : List T) (old : Office) → P old → IsOneFrom old (DoesEach Does xs)
  each_kept_once Does keep one [] old h = nothing_once old
  each_kept_once Does keep one (x ∷ xs) old h = λ said other new two (mid, a, b, p, q, is) (far, c, d, p', q', is').
      let first = one x old h a c mid far p p' in
      let more = each_kept_once Does keep one xs mid (keep x old a mid h p) b d new two q (subst (λ (o : Office). DoesEach Does xs o d two) (sym first.1) q') in
      (is ∙ (λ j. first.0 j ++ more.0 j) ∙ sym is', more.1)

  -- ---- reports on their way
  module _ (sent : (old : Office) (messages : List Message) → P old → P (record old { messages = messages })) where
    dispatches_keep : (message : Message) (report : Report) (to : List ℕ) → Keeps (Dispatches message report to)
    dispatches_keep message report to old said new h p = stays _ new p.1 (sent old _ h)

    sends_found_keep : (name : List ℕ) (seq : ℕ) (relay : List ℕ) (report : Option Report) → Keeps (SendsFound name seq relay report)
    sends_found_keep name seq relay None old said new h p = stays old new p.1 h
    sends_found_keep name seq relay (Some report) old said new h p = dispatches_keep (ReportToRelay relay report) report relay old said new h p

    pub sends_keep : (name : List ℕ) (seq : ℕ) → Keeps (Sends name seq)
    sends_keep name seq old said new h (computer, here, p) = sends_found_keep name seq computer.relay (shown_report seq computer.agent) old said new h p

    queue_keeps : (name : List ℕ) (queue : List Report) → Keeps (PushesQueue name queue)
    queue_keeps name [] old said new h p = stays old new p.1 h
    queue_keeps name (first ∷ more) old said new h p =
        each_keeps (λ (report : Report). Dispatches (ReportToServer name report) report _) (λ report. dispatches_keep (ReportToServer name report) report _) (first ∷ more) old said new h p

    pub pushes_keep : (name : List ℕ) → Keeps (Pushes name)
    pushes_keep name old said new h (relay, here, p) = queue_keeps name relay.queue old said new h p

    module _ (arrives : (number : ℕ) (message : Message) → Keeps (Delivers number message)) where
      found_delivers_keep : (number : ℕ) (message : Option Message) → Keeps (DeliversFound number message)
      found_delivers_keep number None old said new h p = stays old new p.1 h
      found_delivers_keep number (Some message) old said new h p = arrives number message old said new h p

      pub delivers_keep : (number : ℕ) → Keeps (DeliversAt number)
      delivers_keep number old said new h p = found_delivers_keep number (message_at number old.messages) old said new h p

      answered_keeps : (number : ℕ) → Keeps (DeliversAnswered number)
      answered_keeps number old said new h p = both_keep (DeliversAt number) (DeliversAt (next_number old)) old (delivers_keep number old) (delivers_keep (next_number old)) said new h p

      reports_one_keeps : (name : List ℕ) (seq : ℕ) → Keeps (ReportsOne name seq)
      reports_one_keeps name seq old said new h p = both_keep (Sends name seq) (DeliversAnswered (next_number old)) old (sends_keep name seq old) (answered_keeps (next_number old)) said new h p

      pub reports_keep : (name : List ℕ) → Keeps (ReportsAll name)
      reports_keep name old said new h (computer, here, p) = each_keeps (ReportsOne name) (reports_one_keeps name) (shown_numbers computer.agent) old said new h p

      pub forwards_keep : (name : List ℕ) → Keeps (Forwards name)
      forwards_keep name old said new h (relay, here, p) = both_keep (PushesQueue name relay.queue) _ old (queue_keeps name relay.queue old) (each_keeps DeliversAnswered answered_keeps _) said new h p

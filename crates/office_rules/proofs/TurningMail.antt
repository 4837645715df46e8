-- What the turns of a computer are to the delivery of reports. Other crates may cite these lemmas.
use Rattle.std.proofs.Common.{◌≡◌, ◌≢◌, ◌⊎◌, ℕ, ◌+◌, Bool, true, false, cond, List, [], ◌∷◌, ◌++◌, inl, inr, Option, Some, refl, sym, ap, subst, ◌∙◌}
use Rattle.std.specs.Prelude.{All, bytes_eq, nat_lt}
use Rattle.std.specs.Map.{set_value}
use Rattle.std.proofs.lemmas.List.Elements.{All-head, All-tail}
use Rattle.line_forms.specs.Numbers.{last_id}
use Rattle.report_text.specs.declared.answer.Gathered.{Gathered}
use Rattle.report_text.specs.declared.answer.Gathered.TheVariants as gathered
use Rattle.report_text.specs.declared.report.Report.{Report}
use Rattle.report_text.specs.declared.report_row.ReportRow.{ReportRow}
use Rattle.report_text.specs.Reports.{IsReport}
use Rattle.fix_site.specs.declared.site.Site.{Site}
use Rattle.script_run.specs.Asking.{When}
use Rattle.agent_state.specs.Changes.{GathersSite, SuppliesState}
use Rattle.agent_state.specs.States.{IsSound, State}
use Rattle.agent_core.specs.declared.turned.Turned.{Turned}
use Rattle.agent_core.specs.declared.turned.Turned.TheVariants.{Memory, PocketFault, Wants}
use Rattle.agent_core.specs.Devices.{Devices}
use Rattle.agent_core.specs.Schedules.{IsMailOf, IsStep as IsMailStep, Mail, made, report_of, saved}
use Rattle.agent_core.specs.Turns.{Turn}
use Rattle.server_core.specs.DeskLimits.{desk_limits}
use Rattle.turn_lines.specs.Givers.{Gives, GiverView}
use Rattle.turn_lines.specs.TurnsWithFiles.{Closes, Fetch, FetchesAll, with_begun}
use Rattle.delivery.specs.Messages.{named}
use Rattle.delivery.specs.Schedules.{Computer, IsSchedule, Make, Network, Save, Step, reached, with_mail}
use Rattle.office_rules.specs.ComputerWords.{GathersEach}
use Rattle.office_rules.specs.WordSteps.{AreOfTurn, AreOfTurns}
use Rattle.office_rules.proofs.Networks.{reached_both, schedule_both}
use Rattle.office_rules.proofs.OneDeed.{some_is}
use Rattle.office_rules.proofs.UnderNames.{set_again, set_found, set_named, unchanged}

-- ---- the law that it stands on
abbrev pub TurnsAreSteps : Type 0
TurnsAreSteps = (at : When) (s s2 : State) (d d2 : Devices) (answer : Turned) (m : Mail) → Turn at s d answer s2 d2 → IsSound s2 → answer ≢ PocketFault → answer ≢ Memory → IsMailOf m s d.pocket.saved
    → (m2 : Mail) × IsMailStep m m2 × IsMailOf m2 s2 d2.pocket.saved × ((s.unsaved ≡ true) ⊎ (m ≡ saved m) → m2 ≡ saved m2)

-- ---- what leaves the mail
mail_same : (m : Mail) (s s2 : State) (told : Option (Option (List ℕ))) → s2.computer ≡ s.computer → s2.next ≡ s.next → s2.reports ≡ s.reports → IsMailOf m s told → IsMailOf m s2 told
mail_same m s s2 told computer next outbox is = record { computer = is.computer ∙ sym computer; next = is.next ∙ sym next; outbox = is.outbox ∙ sym outbox; kept = is.kept }

gathered_mail : (m : Mail) (site : Site) (answer : Gathered) (s s2 : State) (told : Option (Option (List ℕ))) → GathersSite s site answer s2 → IsMailOf m s told → IsMailOf m s2 told
gathered_mail m site gathered.New s s2 told h is = mail_same m s s2 told (ap (λ (x : State). x.computer) h.1) (ap (λ (x : State). x.next) h.1) (ap (λ (x : State). x.reports) h.1) is
gathered_mail m site (gathered.Older version) s s2 told h is = subst (λ (x : State). IsMailOf m x told) (sym h.2) is
gathered_mail m site gathered.Memory s s2 told h is = subst (λ (x : State). IsMailOf m x told) (sym h) is

pub gathers_mail : (m : Mail) (sites : List Site) (s s2 : State) (told : Option (Option (List ℕ))) → GathersEach sites s s2 → IsMailOf m s told → IsMailOf m s2 told
gathers_mail m [] s s2 told h is = subst (λ (x : State). IsMailOf m x told) (sym h) is
gathers_mail m (site ∷ sites) s s2 told (answer, mid, p, ample, rest) is = gathers_mail m sites mid s2 told rest (gathered_mail m site answer s mid told p is)

supplied_mail : (m : Mail) (s : State) (digest : List ℕ) (bytes : Option (List ℕ)) (s2 : State) (told : Option (Option (List ℕ))) → SuppliesState s digest bytes true s2 → IsMailOf m s told → IsMailOf m s2 told
supplied_mail m s digest bytes s2 told h is = mail_same m s s2 told (ap (λ (x : State). x.computer) h.0) (ap (λ (x : State). x.next) h.0) (ap (λ (x : State). x.reports) h.0) is

-- ---- a turn
-- Steps can be taken, and change the mail of this computer alone to this one.
pub record Moves (name : List ℕ) (there : Computer) (mail : Mail) (n : Network) (steps : List Step) : Type 0 where
  pub schedule : IsSchedule desk_limits n steps
  pub accepted : (reached desk_limits n steps).accepted ≡ n.accepted
  pub messages : (reached desk_limits n steps).messages ≡ n.messages
  pub relays : (reached desk_limits n steps).relays ≡ n.relays
  pub computers : (reached desk_limits n steps).computers ≡ set_value (bytes_eq name) n.computers (record there { mail = mail })

-- what a turn is: its steps, and the mail then
pub record TurnMoves (name : List ℕ) (there : Computer) (n : Network) (s : State) (told : Option (Option (List ℕ))) (AreOf : List Step → Type 0) : Type 0 where
  pub mail : Mail
  pub steps : List Step
  pub are : AreOf steps
  pub moves : Moves name there mail n steps
  pub is : IsMailOf mail s told
  pub own : mail.computer ≡ there.mail.computer

module _ (name : List ℕ) (n : Network) (there : Computer) (here : named name n.computers ≡ Some there) where
  keeps : Moves name there there.mail n []
  keeps = record { schedule = tt; accepted = refl; messages = refl; relays = refl; computers = unchanged name n.computers there here }

  saves : Moves name there (saved there.mail) n (Save name ∷ [])
  saves = record { schedule = (tt, tt); accepted = refl; messages = refl; relays = refl; computers = set_named name (with_mail saved) n.computers there here }

  makes : (rows : List ReportRow) → IsReport (report_of rows there.mail) → Moves name there (made rows there.mail) n (Make name rows ∷ [])
  makes rows good = record {
    schedule = ((λ found at. subst (λ (c : Computer). IsReport (report_of rows c.mail)) (some_is there found (sym here ∙ at)) good), tt);
    accepted = refl;
    messages = refl;
    relays = refl;
    computers = set_named name (with_mail (made rows)) n.computers there here;
  }

made_own : (rows : List ReportRow) (m : Mail) → (made rows m).computer ≡ m.computer
made_own rows m = by (nat_lt m.next last_id)
  where
    by : (b : Bool) → (cond b (saved (record m { outbox = m.outbox ++ report_of rows m ∷ []; next = m.next + 1 })) m).computer ≡ m.computer
    by true = refl
    by false = refl

last_good : (reports : List Report) (report : Report) → All IsReport (reports ++ report ∷ []) → IsReport report
last_good [] report good = All-head IsReport report [] good
last_good (first ∷ reports) report good = last_good reports report (All-tail IsReport first (reports ++ report ∷ []) good)

-- the report that is made can be spelled, or none is made
made_good : (rows : List ReportRow) (m m2 : Mail) (s2 : State) (told : Option (Option (List ℕ))) → m2 ≡ made rows m → IsSound s2 → IsMailOf m2 s2 told → IsReport (report_of rows m) ⊎ (m2 ≡ m)
made_good rows m m2 s2 told e sound is = by (nat_lt m.next last_id) refl
  where
    after : Mail
    after = saved (record m { outbox = m.outbox ++ report_of rows m ∷ []; next = m.next + 1 })

    by : (b : Bool) → nat_lt m.next last_id ≡ b → IsReport (report_of rows m) ⊎ (m2 ≡ m)
    by true left =
        let grown : m2 ≡ after = e ∙ ap (λ (b : Bool). cond b after m) left in
        let outbox : s2.reports ≡ m.outbox ++ report_of rows m ∷ [] = sym is.outbox ∙ ap (λ (x : Mail). x.outbox) grown in
        inl (last_good m.outbox (report_of rows m) (subst (All IsReport) outbox sound.saved.reports.good))
    by false left = inr (e ∙ ap (λ (b : Bool). cond b after m) left)

module _ (law : TurnsAreSteps) (name : List ℕ) (at : When) where
  turn_moves : (n : Network) (there : Computer) → named name n.computers ≡ Some there → (s s2 : State) (d d2 : Devices) (answer : Turned) → Turn at s d answer s2 d2 → IsSound s2 → answer ≢ PocketFault → answer ≢ Memory
      → IsMailOf there.mail s d.pocket.saved → TurnMoves name there n s2 d2.pocket.saved (AreOfTurn name)
  turn_moves n there here s s2 d d2 answer turn sound fault memory is = by step.1
    where
      step : (m2 : Mail) × IsMailStep there.mail m2 × IsMailOf m2 s2 d2.pocket.saved × ((s.unsaved ≡ true) ⊎ (there.mail ≡ saved there.mail) → m2 ≡ saved m2)
      step = law at s s2 d d2 answer there.mail turn sound fault memory is

      nothing : step.0 ≡ there.mail → TurnMoves name there n s2 d2.pocket.saved (AreOfTurn name)
      nothing e = record {
        mail = step.0;
        steps = [];
        are = inl refl;
        moves = subst (λ (m : Mail). Moves name there m n []) (sym e) (keeps name n there here);
        is = step.2;
        own = ap (λ (m : Mail). m.computer) e;
      }

      making : (rows : List ReportRow) → step.0 ≡ made rows there.mail → IsReport (report_of rows there.mail) ⊎ (step.0 ≡ there.mail) → TurnMoves name there n s2 d2.pocket.saved (AreOfTurn name)
      making rows e (inl good) = record {
        mail = step.0;
        steps = Make name rows ∷ [];
        are = inr (inr (rows, refl));
        moves = subst (λ (m : Mail). Moves name there m n (Make name rows ∷ [])) (sym e) (makes name n there here rows good);
        is = step.2;
        own = ap (λ (m : Mail). m.computer) e ∙ made_own rows there.mail;
      }
      making rows e (inr same) = nothing same

      by : IsMailStep there.mail step.0 → TurnMoves name there n s2 d2.pocket.saved (AreOfTurn name)
      by (inl e) = nothing e
      by (inr (inl e)) = record {
        mail = step.0;
        steps = Save name ∷ [];
        are = inr (inl refl);
        moves = subst (λ (m : Mail). Moves name there m n (Save name ∷ [])) (sym e) (saves name n there here);
        is = step.2;
        own = ap (λ (m : Mail). m.computer) e;
      }
      by (inr (inr (rows, good, e))) = making rows e (made_good rows there.mail step.0 s2 d2.pocket.saved e sound step.2)

  moves_both : (n : Network) (there : Computer) (m m2 : Mail) (xs ys : List Step) → named name n.computers ≡ Some there → (one : Moves name there m n xs) → Moves name (record there { mail = m }) m2 (reached desk_limits n xs) ys
      → Moves name there m2 n (xs ++ ys)
  moves_both n there m m2 xs ys here one other =
      let far = reached_both desk_limits n xs ys in
      record {
        schedule = schedule_both desk_limits n xs ys one.schedule other.schedule;
        accepted = ap (λ (x : Network). x.accepted) far ∙ other.accepted ∙ one.accepted;
        messages = ap (λ (x : Network). x.messages) far ∙ other.messages ∙ one.messages;
        relays = ap (λ (x : Network). x.relays) far ∙ other.relays ∙ one.relays;
        computers = ap (λ (x : Network). x.computers) far ∙ other.computers
            ∙ ap (λ (l : List (List ℕ × Computer)). set_value (bytes_eq name) l (record there { mail = m2 })) one.computers
            ∙ set_again name n.computers (record there { mail = m }) (record there { mail = m2 });
      }

  pub turns_move : (fetches : List Fetch) (n : Network) (there : Computer) → named name n.computers ≡ Some there → (s mid s2 : State) (d e d2 : Devices) (last : Turned) → FetchesAll at s d fetches mid e → Turn at mid e last s2 d2
      → IsSound s2 → last ≢ PocketFault → last ≢ Memory → IsMailOf there.mail s d.pocket.saved → TurnMoves name there n s2 d2.pocket.saved (AreOfTurns name fetches)
  turns_move [] n there here s mid s2 d e d2 last h turn sound fault memory is =
      turn_moves n there here mid s2 e d2 last turn sound fault memory
      (subst (λ (x : State). IsMailOf there.mail x e.pocket.saved) (sym h.0) (subst (λ (x : Devices). IsMailOf there.mail s x.pocket.saved) (sym h.1) is))
  turns_move (fetch ∷ fetches) n there here s mid s2 d e d2 last (between, then, one, rest) turn sound fault memory is =
      let wants : Turned = Wants fetch.id fetch.began fetch.digest in
      let first = turn_moves n there here s one.turned d then wants one.turns one.sound (λ x. absurd (cc)) (λ x. absurd (cc)) is in
      let n2 : Network = reached desk_limits n first.steps in
      let new : Computer = record there { mail = first.mail } in
      let here2 : named name n2.computers ≡ Some new =
      ap (λ (l : List (List ℕ × Computer)). named name l) first.moves.computers ∙ set_found name n.computers there new here in
      let more = turns_move fetches n2 new here2 between mid s2 then e d2 last rest turn sound fault memory
      (supplied_mail first.mail one.turned fetch.digest fetch.bytes between then.pocket.saved one.supplies first.is) in
      record {
        mail = more.mail;
        steps = first.steps ++ more.steps;
        are = (first.steps, more.steps, first.are, more.are, refl);
        moves = moves_both n there first.mail more.mail first.steps more.steps here first.moves more.moves;
        is = more.is;
        own = more.own ∙ first.own;
      }

-- ---- the last turn
-- where the word's turns don't end for want of memory, the last doesn't
module _ {S : Type 0} (gives : Gives S) where
  pub memory_lasts : (begun : Bool) (last made_last : Turned) (g : GiverView S) (answer : Turned) (g2 : GiverView S) → made_last ≡ with_begun begun last → Closes gives made_last g answer g2 → answer ≢ Memory → last ≢ Memory
  memory_lasts begun last made_last g answer g2 e closes memory = λ is.
      memory (subst (λ (x : Turned). Closes gives x g answer g2) (e ∙ ap (λ (x : Turned). with_begun begun x) is) closes).1

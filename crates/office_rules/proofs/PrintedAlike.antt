-- What is printed of commands is what they were answered, since both worlds of a computer stay the same but for polls left.
use Rattle.std.proofs.Common.{◌≡◌, ℕ, ℤ, Bool, true, false, cond, inl, inr, List, [], ◌∷◌, ◌++◌, Option, Some, None, refl, sym, ap, subst, ◌∙◌, arith}
use Rattle.std.specs.Prelude.{bytes_eq}
use Rattle.std.specs.Map.{set_value}
use Rattle.bf_world.specs.declared.command.Command.{Command}
use Rattle.bf_world.specs.Worlds.{WorldState}
use Rattle.bf_machine.specs.Steps.{Answered, AnswersAs, SameButPolls, Steady, Step, TakesAll, answered_in, answers_from, commands_of, world_after}
use Rattle.bf_machine.specs.Told.{Grows}
use Rattle.bf_machine.specs.Views.{MachineView}
use Rattle.script_run.specs.Asking.{When}
use Rattle.agent_state.specs.States.{State}
use Rattle.agent_core.specs.declared.turned.Turned.{Turned}
use Rattle.agent_core.specs.declared.turned.Turned.TheVariants.{Wants}
use Rattle.agent_core.specs.Devices.{Devices}
use Rattle.agent_core.specs.Turns.{Turn}
use Rattle.relay_core.specs.Relays.{RelayState}
use Rattle.server_text.specs.Entries.{Entry}
use Rattle.fix_site.specs.declared.site.Site.{Site}
use Rattle.office_text.specs.declared.order.Order.{Order}
use Rattle.office_text.specs.declared.order.Order.TheVariants as order
use Rattle.delivery.specs.Messages.{Message, ReportToRelay, ReportToServer, VerdictToComputer, ReplyToRelay, changed, named, replaced}
use Rattle.turn_lines.specs.DoLines.{do_lines}
use Rattle.turn_lines.specs.Givers.{Gives, GiverView}
use Rattle.turn_lines.specs.TurnLines.{turn_line}
use Rattle.turn_lines.specs.TurnsWithFiles.{Fetch, FetchesAll, TurnsWithFiles}
use Rattle.office_rules.specs.ComputerWords.{RestartsAt, TurnsAt, TurnsComputer, devices_of, turn_time}
use Rattle.office_rules.specs.Deeds.{AtComputer, AtRelay}
use Rattle.office_rules.specs.GroupWords.{Measures, TargetsGroup}
use Rattle.office_rules.specs.MessageWords.{Delivers, Tells}
use Rattle.office_rules.specs.Offices.{Office, PlayedComputer, empty_office}
use Rattle.office_rules.specs.Plays.{IsPlayed, Obeys, PlaysOrder}
use Rattle.office_rules.specs.RelayWords.{ForgetsAt, GathersAt}
use Rattle.office_rules.specs.PrintedAnswers.{AreAlike, PrintsAnswers}
use Rattle.office_rules.proofs.KeptDeeds.{Keeps, KeepsFrom, delivers_keep, each_keeps, forwards_keep, pushes_keep, reports_keep, sends_keep, stays}
use Rattle.office_rules.proofs.OneDeed.{some_is}

abbrev IsAlike : PlayedComputer → Type 0
IsAlike c = SameButPolls c.world c.again

-- ---- the laws that it stands on
abbrev pub ActsByStep : Type 0
ActsByStep = (at : When) (s s2 : State) (d d2 : Devices) (answer : Turned) → Turn at s d answer s2 d2 → (steps : List Step) × TakesAll at.moment d.machine steps d2.machine

abbrev pub AnswersAlike : Type 0
AnswersAlike = (moment : ℤ) (old new : MachineView) (steps : List Step) (w other : WorldState) → old.world ≡ Some w → SameButPolls w other → Steady old new → TakesAll moment old steps new
    → AnswersAs moment old (answered_in steps) new other

-- ---- turns on a machine
steps_after : (moment : ℤ) (old : MachineView) (xs : List Step) (mid : MachineView) (ys : List Step) (new : MachineView) → TakesAll moment old xs mid → TakesAll moment mid ys new → TakesAll moment old (xs ++ ys) new
steps_after moment old [] mid ys new h k = subst (λ (v : MachineView). TakesAll moment v ys new) h k
steps_after moment old (x ∷ xs) mid ys new (between, takes, rest) k = (between, takes, steps_after moment between xs mid ys new rest k)

fetched_steps : ActsByStep → (at : When) (fetches : List Fetch) (s s1 : State) (d d1 : Devices) → FetchesAll at s d fetches s1 d1 → (steps : List Step) × TakesAll at.moment d.machine steps d1.machine
fetched_steps acts at [] s s1 d d1 h = ([], ap (λ (x : Devices). x.machine) h.1)
fetched_steps acts at (fetch ∷ fetches) s s1 d d1 (mid, then, one, rest) =
    let first = acts at s one.turned d then (Wants fetch.id fetch.began fetch.digest) one.turns in
    let more = fetched_steps acts at fetches mid s1 then d1 rest in
    (first.0 ++ more.0, steps_after at.moment d.machine first.0 then.machine more.0 d1.machine first.1 more.1)

turned_steps : ActsByStep → {S : Type 0} (gives : Gives S) (at : When) (s : State) (d : Devices) (g : GiverView S) (answer : Turned) (s2 : State) (d2 : Devices) (g2 : GiverView S) → TurnsWithFiles gives at s d g answer s2 d2 g2
    → (steps : List Step) × TakesAll at.moment d.machine steps d2.machine
turned_steps acts gives at s d g answer s2 d2 g2 t =
    let m = t.turns in
    let first = fetched_steps acts at m.fetches s m.between d m.devices m.fetched in
    let last = acts at m.between s2 m.devices d2 m.last m.turns in
    (first.0 ++ last.0, steps_after at.moment d.machine first.0 m.devices.machine last.0 d2.machine first.1 last.1)

-- what was done since nothing was done
grown : (commands more : List Command) (told : Option (List Command)) → told ≡ Some commands → Grows (Some []) told more → commands ≡ more
grown commands more None is g = absurd g
grown commands more (Some now) is g = sym (some_is now commands is) ∙ g

-- printed is what was answered, and the worlds are the same but for polls left
record Answers (name : List ℕ) (moment : ℤ) (old : PlayedComputer) (said : List ℕ) (new : PlayedComputer) : Type 0 where
  prints : PrintsAnswers name moment old said new
  alike : IsAlike new

turn_answers : ActsByStep → AnswersAlike → (name : List ℕ) (moment : ℤ) (accepted : List Entry) (sites : List Site) (old : PlayedComputer) (said : List ℕ) (new : PlayedComputer) → IsAlike old
    → TurnsComputer name moment accepted sites old said new → Answers name moment old said new
turn_answers acts answers name moment accepted sites old said new alike t =
    let d : Devices = devices_of old in
    let run = turned_steps acts _ (turn_time moment old) t.gathered d _ t.answer new.agent t.told t.files t.turns in
    let steady : Steady d.machine t.told.machine = record { below = omega arith; still = t.tells.machine_faults } in
    let a = answers moment d.machine t.told.machine run.0 old.world old.again refl alike steady run.1 in
    let did : List Answered = answered_in run.0 in
    let commands : t.commands ≡ commands_of did = grown t.commands (commands_of did) t.told.machine.acted t.tells.acted a.acted in
    let world : a.world ≡ new.world = some_is a.world new.world (sym a.told ∙ t.tells.world) in
    let again : world_after moment old.again (commands_of did) ≡ new.again = ap (λ (l : List Command). world_after moment old.again l) (sym commands) ∙ sym t.again in
    record {
      prints = record {
        steps = run.0;
        machine = t.told.machine;
        answer = t.answer;
        takes = run.1;
        world = t.tells.world;
        said_is = t.said_is ∙ ap (λ (l : List Answered). do_lines l ++ turn_line name moment t.answer) (ap (λ (l : List Command). answers_from moment old.again l) commands ∙ sym a.answers);
      };
      alike = subst (λ (w : WorldState). SameButPolls w new.again) world (subst (λ (w : WorldState). SameButPolls a.world w) again a.same);
    }

pub printed_as_answered : ActsByStep → AnswersAlike → (name : List ℕ) (moment : ℤ) (accepted : List Entry) (sites : List Site) (old : PlayedComputer) (said : List ℕ) (new : PlayedComputer)
    → SameButPolls old.world old.again → TurnsComputer name moment accepted sites old said new → PrintsAnswers name moment old said new
printed_as_answered acts answers name moment accepted sites old said new alike t = (turn_answers acts answers name moment accepted sites old said new alike t).prints

-- ---- computers
found_alike : (name : List ℕ) (entries : List (List ℕ × PlayedComputer)) (c : PlayedComputer) → named name entries ≡ Some c → AreAlike entries → IsAlike c
found_alike name [] c e h = absurd (cc)
found_alike name (x ∷ xs) c e h = by (bytes_eq name x.0) e (λ is. found_alike name xs c is h.1)
  where
    by : (b : Bool) → cond b (Some x.1) (named name xs) ≡ Some c → (named name xs ≡ Some c → IsAlike c) → IsAlike c
    by true is next = subst IsAlike (some_is x.1 c is) h.0
    by false is next = next is

set_alike : (name : List ℕ) (entries : List (List ℕ × PlayedComputer)) (c : PlayedComputer) → IsAlike c → AreAlike entries → AreAlike (set_value (bytes_eq name) entries c)
set_alike name [] c is h = h
set_alike name (x ∷ xs) c is h = by (bytes_eq name x.0) (set_alike name xs c is h.1)
  where
    by : (b : Bool) → AreAlike (set_value (bytes_eq name) xs c) → AreAlike (cond b ((x.0, c) ∷ xs) (x ∷ set_value (bytes_eq name) xs c))
    by true rest = (is, h.1)
    by false rest = (h.0, rest)

changed_alike : (name : List ℕ) (entries : List (List ℕ × PlayedComputer)) (c : PlayedComputer) → IsAlike c → AreAlike entries → AreAlike (changed name (λ _. c) entries)
changed_alike name entries c is h = by (named name entries)
  where
    by : (o : Option PlayedComputer) → AreAlike (replaced name (λ _. c) entries o)
    by None = h
    by (Some there) = set_alike name entries c is h

more_alike : (entries : List (List ℕ × PlayedComputer)) (x : List ℕ × PlayedComputer) → IsAlike x.1 → AreAlike entries → AreAlike (entries ++ x ∷ [])
more_alike [] x is h = (is, tt)
more_alike (y ∷ ys) x is h = (h.0, more_alike ys x is h.1)

-- ---- deeds
abbrev HasAlike : Office → Type 0
HasAlike o = AreAlike o.computers

relay_keeps : (name : List ℕ) (Does : RelayState → List ℕ → RelayState → Type 0) (old : Office) → KeepsFrom HasAlike old (AtRelay name Does)
relay_keeps name Does old said new h (relay, then, here, does, is) = stays HasAlike _ new is h

computer_keeps : (name : List ℕ) (Does : PlayedComputer → List ℕ → PlayedComputer → Type 0) (old : Office)
    → ((computer : PlayedComputer) (said : List ℕ) (new : PlayedComputer) → IsAlike computer → Does computer said new → IsAlike new) → KeepsFrom HasAlike old (AtComputer name Does)
computer_keeps name Does old one said new h (computer, then, here, does, is) =
    stays HasAlike _ new is (changed_alike name old.computers then (one computer said then (found_alike name old.computers computer here h) does) h)

sent_alike : (old : Office) (messages : List Message) → AreAlike old.computers → AreAlike old.computers
sent_alike old messages h = h

tells_keep : (message : Message) (old : Office) (said : List (List ℕ)) (computers : List (List ℕ × PlayedComputer)) → AreAlike old.computers → Tells message old said computers → AreAlike computers
tells_keep (VerdictToComputer name seq verdict) old said computers h (computer, agent, dropped, here, settles, p, is) =
    subst AreAlike (sym is) (changed_alike name old.computers (record computer { agent = agent }) (found_alike name old.computers computer here h) h)
tells_keep (ReplyToRelay relay key digest answered) old said computers h p = subst AreAlike (sym p.1) h
tells_keep (ReportToRelay relay report) old said computers h p = subst AreAlike (sym p.1) h
tells_keep (ReportToServer relay report) old said computers h p = subst AreAlike (sym p.1) h

arrives_alike : (number : ℕ) (message : Message) → Keeps HasAlike (Delivers number message)
arrives_alike number message old said new h p = tells_keep message old p.words new.computers h p.tells

measures_alike : (name : List ℕ) (moment : ℤ) → Keeps HasAlike (Measures name moment)
measures_alike name moment old said new h p =
    let alike : IsAlike p.measured = subst IsAlike (sym p.measures.new_is) (found_alike name old.computers p.computer p.here h) in
    stays HasAlike _ new p.new_is (changed_alike name old.computers p.measured alike h)

targets_alike : (name text : List ℕ) → Keeps HasAlike (TargetsGroup name text)
targets_alike name text old said new h (inl (none, is, same)) = stays HasAlike old new same h
targets_alike name text old said new h (inr (first, more, are, asks)) = stays HasAlike _ new asks.new_is h

-- ---- orders
polls_same : (w : WorldState) → SameButPolls w w
polls_same w = record { rest = refl; exits = refl }

module _ (acts : ActsByStep) (answers : AnswersAlike) where
  turned_at : (name : List ℕ) (moment : ℤ) (old : Office) (computer : PlayedComputer) (said : List ℕ) (new : PlayedComputer) → IsAlike computer → TurnsAt name moment old computer said new → IsAlike new
  turned_at name moment old computer said new alike (relay, here, t) = (turn_answers acts answers name moment old.accepted relay.sites computer said new alike t).alike

  restarted_at : (name : List ℕ) (computer : PlayedComputer) (said : List ℕ) (new : PlayedComputer) → IsAlike computer → RestartsAt name computer said new → IsAlike new
  restarted_at name computer said new alike (agent, opens, is, becomes) = subst IsAlike (sym becomes) alike

  obeys_keep : (what : Order) → Keeps HasAlike (Obeys what)
  obeys_keep (order.Publish text) = λ old said new h p. stays HasAlike _ new p.new_is h
  obeys_keep (order.Act text) = λ old said new h p. stays HasAlike _ new p.new_is h
  obeys_keep (order.Stop id) = λ old said new h p. stays HasAlike _ new p.new_is h
  obeys_keep (order.File bytes) = λ old said new h p. stays HasAlike _ new p.new_is h
  obeys_keep (order.Relay name) = λ old said new h p. stays HasAlike _ new p.1 h
  obeys_keep (order.Computer name relay world) = λ old said new h p. stays HasAlike _ new p.1 (more_alike old.computers _ (polls_same world) h)
  obeys_keep (order.Gather relay) = λ old said new h p. relay_keeps relay (GathersAt relay old) old said new h p
  obeys_keep (order.Turn name moment) = λ old said new h p. computer_keeps name (TurnsAt name moment old) old (turned_at name moment old) said new h p
  obeys_keep (order.Restart name) = λ old said new h p. computer_keeps name (RestartsAt name) old (restarted_at name) said new h p
  obeys_keep (order.Send name seq) = sends_keep HasAlike sent_alike name seq
  obeys_keep (order.Push relay) = pushes_keep HasAlike sent_alike relay
  obeys_keep (order.Deliver message) = delivers_keep HasAlike sent_alike arrives_alike message
  obeys_keep (order.Report name) = reports_keep HasAlike sent_alike arrives_alike name
  obeys_keep (order.Forward relay) = forwards_keep HasAlike sent_alike arrives_alike relay
  obeys_keep (order.Forget relay) = λ old said new h p. relay_keeps relay (ForgetsAt relay) old said new h p
  obeys_keep (order.Analysis analysis) = λ old said new h p. stays HasAlike _ new p.new_is h
  obeys_keep (order.Group group) = λ old said new h p. stays HasAlike _ new p.new_is h
  obeys_keep (order.Measure name moment) = measures_alike name moment
  obeys_keep (order.Members name) = λ old said new h p. stays HasAlike _ new p.0 h
  obeys_keep (order.Target name text) = targets_alike name text

  plays_keep : (what : Order) → Keeps HasAlike (PlaysOrder what)
  plays_keep what old said new h p = obeys_keep what old said new h p.obeys

  pub worlds_alike : (orders : List Order) (written : List ℕ) (o : Office) → IsPlayed orders written o → AreAlike o.computers
  worlds_alike orders written o p = each_keeps HasAlike PlaysOrder plays_keep orders empty_office p.said o tt p.plays

-- The words of the server, of relays and of computers are steps of the delivery of reports.
use Rattle.std.proofs.Common.{◌≡◌, ℕ, ℤ, List, [], ◌∷◌, ◌++◌, Ok, Err, Option, Some, refl, sym, ap, subst, ◌∙◌, arith, append_assoc}
use Rattle.std.specs.Prelude.{IsSome, bytes_eq}
use Rattle.std.proofs.lemmas.List.{map-append}
use Rattle.desk_base.specs.Counts.{Rose}
use Rattle.relay_core.specs.Relays.{RelayState, desk_queue, empty_relay}
use Rattle.agent_state.specs.States.{State}
use Rattle.agent_core.specs.declared.opening.Opened.TheVariants as opening
use Rattle.agent_core.specs.Agents.{AgentState, shown_state}
use Rattle.agent_core.specs.Opens.{OpensAgent}
use Rattle.agent_core.specs.Schedules.{IsMailOf, Mail, restarted}
use Rattle.server_text.specs.declared.reply.Reply.{Reply}
use Rattle.server_text.specs.declared.reply.Reply.TheVariants as told
use Rattle.server_text.specs.declared.request.Request.{Request}
use Rattle.server_text.specs.declared.request.Request.TheVariants as request
use Rattle.server_text.specs.declared.site_versions.SiteVersion.{SiteVersion}
use Rattle.server_text.specs.Entries.{Asked, Entry}
use Rattle.server_text.specs.RequestTexts.{Asks}
use Rattle.server_core.specs.CallAnswers.{after}
use Rattle.server_core.specs.DeskLimits.{desk_limits}
use Rattle.delivery.specs.Messages.{Carrier, carrier_of, empty_carrier, named}
use Rattle.delivery.specs.Schedules.{Ask, Computer, Forget, IsNoReport, Network, Restart, Step, new_computer, reached, with_mail}
use Rattle.turn_lines.specs.TurnsWithFiles.{any_begun}
use Rattle.office_rules.specs.ComputerWords.{ServesFiles, Turns, Restarts, devices_of, turn_time}
use Rattle.office_rules.specs.Deeds.{Deed, DoesEach}
use Rattle.office_rules.specs.Offices.{IsSoundComputer, IsSoundOffice, Office, PlayedComputer, carriers_of, with_computer}
use Rattle.office_rules.specs.RelayWords.{Forgets, Gathers, TakesNewer, TakesText, site_reply}
use Rattle.office_rules.specs.ServerWords.{AsksServer}
use Rattle.office_rules.specs.WordSteps.{AreOfEach, AreOfRequest, AreOfTurning}
use Rattle.office_rules.proofs.Networks.{Ends, Follows, FollowsOffice, along, carrier_follows, carriers_changed, carriers_same, computer_there, desk_found, desk_more, ends_both, finds_like, known_behind, mail_follows, more_like, named_carrier, no_steps}
use Rattle.office_rules.proofs.TurningMail.{TurnsAreSteps, gathers_mail, memory_lasts, turns_move}
use Rattle.office_rules.proofs.UnderNames.{all_looked, set_found, set_named}

-- From this office the deed is steps of these, to a network that follows the office then.
abbrev pub IsStepsFrom : Office → Deed → (Office → List Step → Type 0) → Type 0
IsStepsFrom old D AreOf =
    (coming : List (List ℕ × Computer)) (later : List (List ℕ × Carrier)) (n : Network) (said : List ℕ) (new : Office) → FollowsOffice coming later n old → D old said new → (steps : List Step) × AreOf old steps × Ends coming later n steps new

pub each_steps : {T : Type 0} (Does : T → Deed) (AreOf : T → Office → List Step → Type 0) → ((x : T) (old : Office) → IsStepsFrom old (Does x) (AreOf x)) → (xs : List T) (old : Office) → IsStepsFrom old (DoesEach Does xs) (AreOfEach Does AreOf xs)
each_steps Does AreOf one [] old coming later n said new f p = ([], refl, no_steps coming later n old new p.1 f)
each_steps Does AreOf one (x ∷ xs) old coming later n said new f (mid, a, b, p, q, is) =
    let first = one x old coming later n a mid f p in
    let more = each_steps Does AreOf one xs mid coming later (reached desk_limits n first.0) b new first.2.follows q in (
      first.0 ++ more.0,
      (mid, a, first.0, more.0, p, first.1, more.1, refl),
      ends_both coming later n first.0 more.0 mid new first.2 more.2,
    )

-- ---- publish, act, stop, file
-- the request is none that reports
abbrev pub NoReporting : Request → Type 0
NoReporting request = (asked : Asked) → Asks request asked → IsNoReport asked

pub no_publishing : (text : List ℕ) → NoReporting (request.Publish text)
no_publishing text asked (Ok site, reads, is) = subst IsNoReport (sym is) tt
no_publishing text asked (Err line, reads, is) = subst IsNoReport (sym is) tt

pub no_acting : (text : List ℕ) → NoReporting (request.Act text)
no_acting text asked (Ok action, reads, is) = subst IsNoReport (sym is) tt
no_acting text asked (Err line, reads, is) = subst IsNoReport (sym is) tt

pub no_stopping : (id : ℕ) → NoReporting (request.Stop id)
no_stopping id asked is = subst IsNoReport (sym is) tt

pub no_filing : (bytes : List ℕ) → NoReporting (request.File bytes)
no_filing bytes asked is = subst IsNoReport (sym is) tt

pub asking : (word : List ℕ) (what : Request) → NoReporting what → (old : Office) → IsStepsFrom old (AsksServer word what) (λ before steps. AreOfRequest what steps)
asking word what none old coming later n said new f p = (
  Ask what p.asked ∷ [],
  (p.asked, p.asks, refl),
  subst (λ (o : Office). Ends coming later n (Ask what p.asked ∷ []) o) (sym p.new_is) (record {
    schedule = ((p.asks, none p.asked p.asks), tt);
    follows = record {
      accepted_are = ap (λ (a : List Entry). after a desk_limits p.asked) f.accepted_are;
      messages_are = f.messages_are;
      relays_are = f.relays_are;
      front = f.front;
      computers_are = f.computers_are;
      like = f.like;
      desk = f.desk;
      known = f.known;
    };
  }),
)

-- ---- relay, computer
pub naming_relay : (coming : List (List ℕ × Computer)) (later : List (List ℕ × Carrier)) (n : Network) (name : List ℕ) (old new : Office) → FollowsOffice coming ((name, empty_carrier desk_queue) ∷ later) n old
    → new ≡ record old { relays = old.relays ++ (name, empty_relay desk_queue) ∷ [] } → Ends coming later n [] new
naming_relay coming later n name old new f is =
    let entry : List ℕ × Carrier = (name, empty_carrier desk_queue) in
    let more : carriers_of (old.relays ++ (name, empty_relay desk_queue) ∷ []) ≡ carriers_of old.relays ++ entry ∷ [] =
    map-append (λ (x : List ℕ × RelayState). (x.0, carrier_of x.1)) old.relays ((name, empty_relay desk_queue) ∷ []) in
    subst (λ (o : Office). Ends coming later n [] o) (sym is) (record {
      schedule = tt;
      follows = subst (λ (r : List (List ℕ × Carrier)). Follows coming later n old.accepted old.messages r old.computers) (sym more) (record {
        accepted_are = f.accepted_are;
        messages_are = f.messages_are;
        relays_are = f.relays_are ∙ sym (append_assoc (carriers_of old.relays) (entry ∷ []) later);
        front = f.front;
        computers_are = f.computers_are;
        like = f.like;
        desk = desk_more (carriers_of old.relays) entry refl f.desk;
        known = known_behind (carriers_of old.relays) (entry ∷ []) old.messages f.known;
      });
    })

pub naming_computer : (coming : List (List ℕ × Computer)) (later : List (List ℕ × Carrier)) (n : Network) (given : List ℕ × List ℕ) (computer : PlayedComputer) (old new : Office) → FollowsOffice (new_computer given ∷ coming) later n old
    → new ≡ record old { computers = old.computers ++ (given.0, computer) ∷ [] } → given.1 ≡ computer.relay → IsMailOf (new_computer given).1.mail computer.agent (Some computer.saved) → computer.agent.computer ≡ given.0
    → Ends coming later n [] new
naming_computer coming later n given computer old new f is relay mail own =
    subst (λ (o : Office). Ends coming later n [] o) (sym is) (record {
      schedule = tt;
      follows = record {
        accepted_are = f.accepted_are;
        messages_are = f.messages_are;
        relays_are = f.relays_are;
        front = f.front ++ new_computer given ∷ [];
        computers_are = f.computers_are ∙ sym (append_assoc f.front (new_computer given ∷ []) coming);
        like = more_like f.front old.computers (new_computer given) (given.0, computer) (record { name = refl; relay = relay; mail = mail; own = own }) f.like;
        desk = f.desk;
        known = f.known;
      };
    })

-- ---- gather, forget
text_same : (name : List ℕ) (answer : Reply) (old : RelayState) (said : List ℕ) (new : RelayState) → TakesText name answer old said new → carrier_of new ≡ carrier_of old
text_same name (told.Site text) old said new (site, reads, keeps, is) = ap carrier_of keeps.1
text_same name told.Ok old said new p = ap carrier_of p.1
text_same name told.Again old said new p = ap carrier_of p.1
text_same name (told.Digest digest) old said new p = ap carrier_of p.1
text_same name (told.Sites sites) old said new p = ap carrier_of p.1
text_same name told.Same old said new p = ap carrier_of p.1
text_same name (told.Content bytes) old said new p = ap carrier_of p.1
text_same name (told.Rows rows) old said new p = ap carrier_of p.1
text_same name (told.BadText line) old said new p = ap carrier_of p.1
text_same name (told.Conflict digest) old said new p = ap carrier_of p.1
text_same name told.NoSuch old said new p = ap carrier_of p.1
text_same name (told.Older version) old said new p = ap carrier_of p.1
text_same name (told.Full limit) old said new p = ap carrier_of p.1
text_same name told.KeeperFault old said new p = ap carrier_of p.1
text_same name told.Memory old said new p = ap carrier_of p.1

newer_same : (name : List ℕ) (accepted : List Entry) (sites : List SiteVersion) (old : RelayState) (said : List ℕ) (new : RelayState) → TakesNewer name accepted sites old said new → carrier_of new ≡ carrier_of old
newer_same name accepted [] old said new p = ap carrier_of p.1
newer_same name accepted (site ∷ sites) old said new (mid, a, b, p, q, is) = newer_same name accepted sites mid b new q ∙ text_same name (site_reply accepted old site.name) old a mid p

pub gathering : (name : List ℕ) (old : Office) → IsStepsFrom old (Gathers name) (λ before steps. steps ≡ [])
gathering name old coming later n said new f (relay, then, here, does, is) =
    let same = carriers_same name old.relays relay then here (newer_same name old.accepted _ relay does.0 then does.1) in (
      [],
      refl,
      subst (λ (o : Office). Ends coming later n [] o) (sym is) (record { schedule = tt; follows = along coming later n _ _ _ _ _ _ _ _ refl refl same refl f }),
    )

pub forgetting : (name : List ℕ) (old : Office) → IsStepsFrom old (Forgets name) (λ before steps. steps ≡ Forget name ∷ [])
forgetting name old coming later n said new f (relay, then, here, does, is) =
    let change : Carrier → Carrier = λ carrier. empty_carrier carrier.limit in
    let carrier = named_carrier name old.relays relay here in
    let limit : relay.limit ≡ desk_queue = desk_found name (carriers_of old.relays) (carrier_of relay) carrier f.desk in
    let anew : change (carrier_of relay) ≡ carrier_of then = ap (λ (l : ℕ). empty_carrier l) limit ∙ ap carrier_of (sym does.1) in (
      Forget name ∷ [],
      refl,
      subst (λ (o : Office). Ends coming later n (Forget name ∷ []) o) (sym is) (record {
        schedule = (tt, tt);
        follows = along coming later _ _ _ _ _ _ _ _ _ refl refl (carriers_changed name change old.relays relay then here anew) refl
            (carrier_follows coming later name change n old.accepted old.messages (carriers_of old.relays) old.computers (carrier_of relay) carrier (λ x. refl) f);
      }),
    )

-- ---- turn
no_pocket_fault : (old new : ℕ) → new ≡ 0 → Rose old new → ⊥
no_pocket_fault old new none rose = omega (arith, none, rose)

module _ (law : TurnsAreSteps) where
  pub turning : (name : List ℕ) (moment : ℤ) (old : Office) (coming : List (List ℕ × Computer)) (later : List (List ℕ × Carrier)) (n : Network) (said : List ℕ) (new : Office) → FollowsOffice coming later n old → Turns name moment old said new
      → IsSoundOffice new → (steps : List Step) × AreOfTurning name moment old steps × Ends coming later n steps new
  turning name moment old coming later n said new f (computer, then, here, (relay, from, t), is) sound =
      let found = finds_like name f.front old.computers computer here f.like in
      let there = computer_there coming later name n old.accepted old.messages (carriers_of old.relays) old.computers computer f found in
      let made = t.turns.turns in
      let stands : named name new.computers ≡ Some then =
      ap (λ (o : Office). named name o.computers) is ∙ ap (λ (l : List (List ℕ × PlayedComputer)). named name l) (set_named name (λ _. then) old.computers computer here)
      ∙ set_found name old.computers computer then here in
      let good = all_looked (λ (entry : List ℕ × PlayedComputer). IsSoundComputer entry.1) (bytes_eq name) new.computers then sound.computers stands in
      let mail = gathers_mail found.there.mail relay.sites computer.agent t.gathered (Some computer.saved) t.gathers found.mail in
      let moved = turns_move law name (turn_time moment computer) made.fetches n found.there there t.gathered made.between then.agent (devices_of computer) made.devices t.told made.last made.fetched made.turns good.2.sound
      (λ e. absurd (no_pocket_fault made.devices.pocket.faults t.told.pocket.faults t.tells.pocket_faults (made.cause.pocket.rose e)))
      (memory_lasts ServesFiles (any_begun made.fetches) made.last t.turns.last t.turns.told t.answer t.files made.answers t.turns.closes t.memory) mail in
      let kept : IsMailOf moved.mail then.agent (Some then.saved) = subst (λ x. IsMailOf moved.mail then.agent x) t.tells.saved moved.is in
      let own : then.agent.computer ≡ computer.agent.computer = sym kept.computer ∙ moved.own ∙ found.mail.computer in (
        moved.steps,
        record { computer = computer; then = then; relay = relay; said = said; here = here; from = from; turns = t; each = moved.are },
        subst (λ (o : Office). Ends coming later n moved.steps o) (sym is) (record {
          schedule = moved.moves.schedule;
          follows = mail_follows coming later name n (reached desk_limits n moved.steps) old.accepted old.messages (carriers_of old.relays) old.computers computer then moved.mail here f found moved.moves.accepted
              moved.moves.messages moved.moves.relays moved.moves.computers kept t.relay own;
        }),
      )

-- ---- restart
abbrev pub Reopens : Type 0
Reopens = (computer : List ℕ) (told : Option (Option (List ℕ))) (s : State) (agent : AgentState) (m : Mail) → IsSome told → OpensAgent computer told (opening.Agent agent) → IsMailOf m s told → s.computer ≡ computer
    → IsMailOf (restarted m) (shown_state agent) told

pub restarting : Reopens → (name : List ℕ) (old : Office) → IsStepsFrom old (Restarts name) (λ before steps. steps ≡ Restart name ∷ [])
restarting law name old coming later n said new f (computer, then, here, (agent, opens, prints, becomes), is) =
    let found = finds_like name f.front old.computers computer here f.like in
    let there = computer_there coming later name n old.accepted old.messages (carriers_of old.relays) old.computers computer f found in
    let mail = law name (Some computer.saved) computer.agent agent found.there.mail refl opens found.mail found.own in
    let anew : PlayedComputer = record computer { agent = shown_state agent } in (
      Restart name ∷ [],
      refl,
      subst (λ (o : Office). Ends coming later n (Restart name ∷ []) o) (sym (is ∙ ap (λ (c : PlayedComputer). with_computer name c old) becomes)) (record {
        schedule = (tt, tt);
        follows = mail_follows coming later name n (reached desk_limits n (Restart name ∷ [])) old.accepted old.messages (carriers_of old.relays) old.computers computer anew (restarted found.there.mail) here f found refl refl refl
            (set_named name (with_mail restarted) n.computers found.there there) mail refl (sym mail.computer ∙ found.mail.computer);
      }),
    )

-- Computers and their mails, as a verdict arrives and as an agent is opened.
use Rattle.std.proofs.Common.{◌≡◌, ℕ, Bool, true, false, ◌⊎◌, inl, inr, List, [], Option, Some, None, refl, sym, ap, subst, ◌∙◌}
use Rattle.std.specs.Prelude.{IsSome, length}
use Rattle.line_forms.specs.Names.{IsName}
use Rattle.report_text.specs.declared.answer.Verdict.{Verdict}
use Rattle.report_text.specs.declared.answer.Verdict.TheVariants as verdict
use Rattle.bf_world.specs.Worlds.{WorldState}
use Rattle.group_sample.specs.Due.{AnalystState, new_analyst}
use Rattle.relay_core.specs.Relays.{RelayState}
use Rattle.agent_text.specs.PocketStates.{sure_view}
use Rattle.agent_state.specs.Changes.{SettlesState}
use Rattle.agent_state.specs.States.{IsSound, State}
use Rattle.agent_core.specs.declared.opening.Opened.TheVariants as opened
use Rattle.agent_core.specs.Agents.{AgentState, shown_state}
use Rattle.agent_core.specs.declared.opening.Opened.{Opened}
use Rattle.agent_core.specs.Opens.{IsAgentOf, OpensAgent, OpensFrom, new_state}
use Rattle.agent_core.specs.Schedules.{HasSaved, IsMailOf, Mail, restarted, settled}
use Rattle.office_rules.specs.Offices.{PlayedComputer, new_computer}
use Rattle.agent_core.specs.Stops.{HeldWaitsBelow}
use Rattle.office_play.proofs.Answered.{never_failed}
use Rattle.office_play.specs.Links.{HasMail, IsGoodComputer, IsNamed, IsPocketOf}
use Rattle.office_play.specs.States.{shown_computer}

-- ---- a verdict
-- what `turns_are_steps` says of a verdict
abbrev pub SettlesMail : Type 0
SettlesMail = (seq : ℕ) (verdict : Verdict) (s s2 : State) (m : Mail) (told : Option (Option (List ℕ))) → SettlesState seq verdict s true s2
    → IsMailOf m s told → IsMailOf (settled seq m) s2 told

not_settled : (seq : ℕ) (verdict : Verdict) (s s2 : State) → SettlesState seq verdict s false s2 → s2 ≡ s
not_settled seq verdict.Stored s s2 h = h.1
not_settled seq verdict.Carried s s2 h = h.1
not_settled seq (verdict.Conflict digest) s s2 h = h.1
not_settled seq (verdict.Full limit) s s2 h = h.1

settled_held : (seq : ℕ) (verdict : Verdict) (s s2 : State) (dropped : Bool) → SettlesState seq verdict s dropped s2 → s2.held ≡ s.held
settled_held seq verdict.Stored s s2 true h = ap (λ (x : State). x.held) h.1
settled_held seq verdict.Stored s s2 false h = ap (λ (x : State). x.held) h.1
settled_held seq verdict.Carried s s2 dropped h = ap (λ (x : State). x.held) h.1
settled_held seq (verdict.Conflict digest) s s2 dropped h = ap (λ (x : State). x.held) h.1
settled_held seq (verdict.Full limit) s s2 dropped h = ap (λ (x : State). x.held) h.1

settled_mail : SettlesMail → (name : List ℕ) (seq : ℕ) (verdict : Verdict) (s s2 : State) (dropped : Bool) (saved : Option (List ℕ))
    → SettlesState seq verdict s dropped s2 → HasMail name s saved → HasMail name s2 saved
settled_mail law name seq verdict s s2 true saved h has =
    (settled seq has.0, has.1, law seq verdict s s2 has.0 (Some saved) h has.2)
settled_mail law name seq verdict s s2 false saved h has =
    subst (λ (x : State). HasMail name x saved) (sym (not_settled seq verdict s s2 h)) has

pub settled_good : SettlesMail → (relays : List (List ℕ × RelayState)) (name : List ℕ) (seq : ℕ) (verdict : Verdict)
    (computer : PlayedComputer) (agent : State) (dropped : Bool) → SettlesState seq verdict computer.agent dropped agent → IsSound agent
    → IsGoodComputer relays (name, computer) → IsGoodComputer relays (name, record computer { agent = agent })
settled_good law relays name seq verdict computer agent dropped settles sound good = record {
  sound = record {
    sound = sound;
    waits = subst (HeldWaitsBelow (length computer.world.started)) (sym (settled_held seq verdict computer.agent agent dropped settles)) good.sound.waits;
  };
  name = good.name;
  mail = settled_mail law name seq verdict computer.agent agent dropped computer.saved settles good.mail;
  relay = good.relay;
}

-- ---- an agent that is opened
-- what `turns_are_steps` says of an agent that is opened
abbrev pub OpensMail : Type 0
OpensMail = (computer : List ℕ) (told : Option (Option (List ℕ))) (s : State) (agent : AgentState) (m : Mail) → IsSome told
    → OpensAgent computer told (opened.Agent agent) → IsMailOf m s told → s.computer ≡ computer
    → IsMailOf (restarted m) (shown_state agent) told

opened_held : (computer : List ℕ) (saved : Option (List ℕ)) (s : State) → IsAgentOf computer saved s → s.held ≡ None
opened_held computer None s h = ap (λ (x : State). x.held) h
opened_held computer (Some text) s h = ap (λ (x : State). x.held) h.2

opened_waits : (started : ℕ) (computer : List ℕ) (told : Option (Option (List ℕ))) (agent : AgentState)
    → OpensAgent computer told (opened.Agent agent) → HeldWaitsBelow started (shown_state agent).held
opened_waits started computer told agent opens =
    subst (HeldWaitsBelow started) (sym (opened_held computer opens.0 (shown_state agent) opens.2)) tt

pub opened_good : OpensMail → (relays : List (List ℕ × RelayState)) (name : List ℕ) (computer : PlayedComputer) (agent : AgentState)
    → OpensAgent name (Some computer.saved) (opened.Agent agent) → IsSound (shown_state agent) → IsGoodComputer relays (name, computer)
    → IsGoodComputer relays (name, record computer { agent = shown_state agent })
opened_good law relays name computer agent opens sound good =
    let has = good.mail in
    record {
      sound = record { sound = sound; waits = opened_waits (length computer.world.started) name (Some computer.saved) agent opens };
      name = good.name;
      mail = (restarted has.0, has.1, law name (Some computer.saved) computer.agent agent has.0 refl opens has.2 (sym has.2.computer ∙ has.1));
      relay = good.relay;
    }

-- An agent without a saved text has done nothing yet.
pub opened_new : (name : List ℕ) (agent : AgentState) → OpensAgent name (Some None) (opened.Agent agent) → shown_state agent ≡ new_state name
opened_new name agent opens =
    subst (λ (saved : Option (List ℕ)). IsAgentOf name saved (shown_state agent)) (sym opens.1) opens.2

pub new_good : (relays : List (List ℕ × RelayState)) (name relay : List ℕ) (world : WorldState) → IsName name → IsNamed relay relays
    → IsSound (new_state name) → IsGoodComputer relays (name, new_computer name relay world)
new_good relays name relay world named there sound = record {
  sound = record { sound = sound; waits = tt };
  name = named;
  mail = (
    record { computer = name; next = 1; outbox = []; saved_next = 1; saved_outbox = [] },
    refl,
    record { computer = refl; next = refl; outbox = refl; kept = (refl, refl) },
  );
  relay = there;
}

-- a pocket in which nothing was saved
pub pocket_new : (name : List ℕ) → IsPocketOf name None
pocket_new name = (record { computer = name; next = 1; outbox = []; saved_next = 1; saved_outbox = [] }, refl, (refl, refl))

-- what the code sees of a computer that begins
pub new_shown : (name relay : List ℕ) (own again : WorldState) (agent : AgentState) (saved : Option (List ℕ)) (analyst : AnalystState)
    → shown_state agent ≡ new_state name → saved ≡ None → analyst ≡ new_analyst name
    → shown_computer (record { relay = relay; agent = agent; saved = saved; world = own; again = again; analyst = analyst })
    ≡ record (new_computer name relay own) { again = again }
new_shown name relay own again agent saved analyst fresh none unmeasured =
    λ k. record { relay = relay; agent = fresh k; saved = none k; world = own; again = again; analyst = unmeasured k }

-- of which both worlds are one
pub new_of : (name relay : List ℕ) (own again world : WorldState) → own ≡ world → again ≡ world
    → record (new_computer name relay own) { again = again } ≡ new_computer name relay world
new_of name relay own again world same copied = λ k. record (new_computer name relay (same k)) { again = copied k }

-- what its pocket has
pub pocket_of : (name : List ℕ) (agent : State) (saved : Option (List ℕ)) → HasMail name agent saved → IsPocketOf name saved
pocket_of name agent saved has = (has.0, has.1, has.2.kept)

-- ---- what is opened never fails
-- what `pockets_keep_own_texts` says of an agent that is opened
abbrev pub NeverBad : Type 0
NeverBad = (m : Mail) (now : Option (List ℕ)) (line : ℕ) → HasSaved m now → ¬ OpensAgent m.computer (Some now) (opened.BadPocket line)

pub never_bad_pocket : NeverBad → (name : List ℕ) (saved then : Option (List ℕ)) (answer : Opened) → IsPocketOf name saved
    → OpensFrom name (sure_view saved) answer (sure_view then)
    → ((line : ℕ) × (answer ≡ opened.BadPocket line)) ⊎ (answer ≡ opened.PocketFault) → ⊥
never_bad_pocket law name saved then answer own opens (inl (line, is)) =
    law own.0 saved line own.2
    (subst (λ (n : List ℕ). OpensAgent n (Some saved) (opened.BadPocket line)) (sym own.1) (subst (OpensAgent name (Some saved)) is opens.opens))
never_bad_pocket law name saved then answer own opens (inr is) = never_failed (answer ≡ opened.PocketFault) opens.counts is

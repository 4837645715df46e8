-- The network that a schedule reaches follows an office.
use Rattle.std.proofs.Common.{◌≡◌, ℕ, Bool, true, false, cond, List, [], ◌∷◌, ◌++◌, Some, refl, sym, ap, subst, ◌∙◌}
use Rattle.std.specs.Prelude.{All, bytes_eq, ⊤}
use Rattle.std.specs.Map.{set_value}
use Rattle.std.proofs.lemmas.List.Elements.{All-append, All-weaker}
use Rattle.std.proofs.lemmas.Slice.Eq.{bytes_eq-Decides}
use Rattle.relay_core.specs.Relays.{RelayState, desk_queue}
use Rattle.agent_core.specs.Schedules.{IsMailOf, Mail}
use Rattle.server_text.specs.Entries.{Entry}
use Rattle.server_core.specs.declared.limits.Limits.{Limits}
use Rattle.server_core.specs.DeskLimits.{desk_limits}
use Rattle.delivery.specs.Messages.{Carrier, Message, ReportToRelay, ReportToServer, VerdictToComputer, ReplyToRelay, carrier_of, changed, named}
use Rattle.delivery.specs.Schedules.{Computer, IsSchedule, Network, Step, reached, taken}
use Rattle.office_rules.specs.Offices.{Office, PlayedComputer, carriers_of}
use Rattle.office_rules.specs.OfficeSchedules.{AreComputersOf}
use Rattle.office_rules.proofs.OneDeed.{some_is}
use Rattle.office_rules.proofs.UnderNames.{changed_more, changed_stays, named_more, set_more, set_named, unchanged}

-- ---- schedules one after another
pub schedule_both : (limits : Limits) (n : Network) (xs ys : List Step) → IsSchedule limits n xs → IsSchedule limits (reached limits n xs) ys → IsSchedule limits n (xs ++ ys)
schedule_both limits n [] ys p q = q
schedule_both limits n (x ∷ xs) ys p q = (p.0, schedule_both limits (taken limits x n) xs ys p.1 q)

pub reached_both : (limits : Limits) (n : Network) (xs ys : List Step) → reached limits n (xs ++ ys) ≡ reached limits (reached limits n xs) ys
reached_both limits n [] ys = refl
reached_both limits n (x ∷ xs) ys = reached_both limits (taken limits x n) xs ys

-- ---- relays
pub named_carrier : (name : List ℕ) (relays : List (List ℕ × RelayState)) (relay : RelayState) → named name relays ≡ Some relay → named name (carriers_of relays) ≡ Some (carrier_of relay)
named_carrier name [] relay e = absurd (cc)
named_carrier name (x ∷ xs) relay e = by (bytes_eq name x.0) e (named_carrier name xs relay)
  where
    by : (b : Bool) → cond b (Some x.1) (named name xs) ≡ Some relay → (named name xs ≡ Some relay → named name (carriers_of xs) ≡ Some (carrier_of relay)) → cond b (Some (carrier_of x.1)) (named name (carriers_of xs)) ≡ Some (carrier_of relay)
    by true e next = ap (λ (r : RelayState). Some (carrier_of r)) (some_is x.1 relay e)
    by false e next = next e

carriers_set : (name : List ℕ) (relays : List (List ℕ × RelayState)) (then : RelayState) → carriers_of (set_value (bytes_eq name) relays then) ≡ set_value (bytes_eq name) (carriers_of relays) (carrier_of then)
carriers_set name [] then = refl
carriers_set name (x ∷ xs) then = by (bytes_eq name x.0) (carriers_set name xs then)
  where
    by : (b : Bool) → carriers_of (set_value (bytes_eq name) xs then) ≡ set_value (bytes_eq name) (carriers_of xs) (carrier_of then)
        → carriers_of (cond b ((x.0, then) ∷ xs) (x ∷ set_value (bytes_eq name) xs then)) ≡ cond b ((x.0, carrier_of then) ∷ carriers_of xs) ((x.0, carrier_of x.1) ∷ set_value (bytes_eq name) (carriers_of xs) (carrier_of then))
    by true next = refl
    by false next = ap (λ (l : List (List ℕ × Carrier)). (x.0, carrier_of x.1) ∷ l) next

pub carriers_changed : (name : List ℕ) (change : Carrier → Carrier) (relays : List (List ℕ × RelayState)) (relay then : RelayState) → named name relays ≡ Some relay → change (carrier_of relay) ≡ carrier_of then
    → carriers_of (changed name (λ _. then) relays) ≡ changed name change (carriers_of relays)
carriers_changed name change relays relay then here is =
    ap carriers_of (set_named name (λ _. then) relays relay here) ∙ carriers_set name relays then ∙ ap (λ (c : Carrier). set_value (bytes_eq name) (carriers_of relays) c) (sym is)
    ∙ sym (set_named name change (carriers_of relays) (carrier_of relay) (named_carrier name relays relay here))

-- a relay of which the same matters
pub carriers_same : (name : List ℕ) (relays : List (List ℕ × RelayState)) (relay then : RelayState) → named name relays ≡ Some relay → carrier_of then ≡ carrier_of relay → carriers_of (changed name (λ _. then) relays) ≡ carriers_of relays
carriers_same name relays relay then here is =
    ap carriers_of (set_named name (λ _. then) relays relay here) ∙ carriers_set name relays then ∙ ap (λ (c : Carrier). set_value (bytes_eq name) (carriers_of relays) c) is
    ∙ sym (unchanged name (carriers_of relays) (carrier_of relay) (named_carrier name relays relay here))

-- each queues as many reports as a relay of the desk
abbrev pub AreOfDesk : List (List ℕ × Carrier) → Type 0
AreOfDesk [] = ⊤
AreOfDesk (entry ∷ entries) = (entry.1.limit ≡ desk_queue) × AreOfDesk entries

pub desk_found : (name : List ℕ) (carriers : List (List ℕ × Carrier)) (carrier : Carrier) → named name carriers ≡ Some carrier → AreOfDesk carriers → carrier.limit ≡ desk_queue
desk_found name [] carrier e h = absurd (cc)
desk_found name (x ∷ xs) carrier e h = by (bytes_eq name x.0) e (λ is. desk_found name xs carrier is h.1)
  where
    by : (b : Bool) → cond b (Some x.1) (named name xs) ≡ Some carrier → (named name xs ≡ Some carrier → carrier.limit ≡ desk_queue) → carrier.limit ≡ desk_queue
    by true e next = ap (λ (c : Carrier). c.limit) (sym (some_is x.1 carrier e)) ∙ h.0
    by false e next = next e

desk_set : (name : List ℕ) (carriers : List (List ℕ × Carrier)) (carrier : Carrier) → carrier.limit ≡ desk_queue → AreOfDesk carriers → AreOfDesk (set_value (bytes_eq name) carriers carrier)
desk_set name [] carrier is h = h
desk_set name (x ∷ xs) carrier is h = by (bytes_eq name x.0) (desk_set name xs carrier is h.1)
  where
    by : (b : Bool) → AreOfDesk (set_value (bytes_eq name) xs carrier) → AreOfDesk (cond b ((x.0, carrier) ∷ xs) (x ∷ set_value (bytes_eq name) xs carrier))
    by true rest = (is, h.1)
    by false rest = (h.0, rest)

pub desk_more : (carriers : List (List ℕ × Carrier)) (entry : List ℕ × Carrier) → entry.1.limit ≡ desk_queue → AreOfDesk carriers → AreOfDesk (carriers ++ entry ∷ [])
desk_more [] entry is h = (is, tt)
desk_more (x ∷ xs) entry is h = (h.0, desk_more xs entry is h.1)

-- ---- messages
-- the relay that a report left, or that a reply is for, is there
abbrev pub IsKnown : List (List ℕ × Carrier) → Message → Type 0
IsKnown carriers (ReportToServer relay report) = (carrier : Carrier) × (named relay carriers ≡ Some carrier)
IsKnown carriers (ReplyToRelay relay key digest answered) = (carrier : Carrier) × (named relay carriers ≡ Some carrier)
IsKnown carriers (ReportToRelay relay report) = ⊤
IsKnown carriers (VerdictToComputer computer seq verdict) = ⊤

known_changed : (name : List ℕ) (change : Carrier → Carrier) (carriers : List (List ℕ × Carrier)) (message : Message) → IsKnown carriers message → IsKnown (changed name change carriers) message
known_changed name change carriers (ReportToServer relay report) (carrier, here) = changed_stays name relay change carriers carrier here
known_changed name change carriers (ReplyToRelay relay key digest answered) (carrier, here) = changed_stays name relay change carriers carrier here
known_changed name change carriers (ReportToRelay relay report) is = tt
known_changed name change carriers (VerdictToComputer computer seq verdict) is = tt

known_more : (carriers more : List (List ℕ × Carrier)) (message : Message) → IsKnown carriers message → IsKnown (carriers ++ more) message
known_more carriers more (ReportToServer relay report) (carrier, here) = (carrier, named_more relay carriers more carrier here)
known_more carriers more (ReplyToRelay relay key digest answered) (carrier, here) = (carrier, named_more relay carriers more carrier here)
known_more carriers more (ReportToRelay relay report) is = tt
known_more carriers more (VerdictToComputer computer seq verdict) is = tt

-- ---- computers
-- a computer at the same relay, of whose agent and pocket this mail matters; the agent has the computer's name
pub record IsLike (there : List ℕ × Computer) (computer : List ℕ × PlayedComputer) : Type 0 where
  pub name : there.0 ≡ computer.0
  pub relay : there.1.relay ≡ computer.1.relay
  pub mail : IsMailOf there.1.mail computer.1.agent (Some computer.1.saved)
  pub own : computer.1.agent.computer ≡ computer.0

abbrev pub AreLike : List (List ℕ × Computer) → List (List ℕ × PlayedComputer) → Type 0
AreLike [] [] = ⊤
AreLike (there ∷ others) (computer ∷ computers) = IsLike there computer × AreLike others computers
AreLike others computers = ⊥

pub computers_like : (others : List (List ℕ × Computer)) (computers : List (List ℕ × PlayedComputer)) → AreLike others computers → AreComputersOf others computers
computers_like [] [] h = tt
computers_like [] (y ∷ ys) h = absurd h
computers_like (x ∷ xs) [] h = absurd h
computers_like (x ∷ xs) (y ∷ ys) h = ((h.0.name, h.0.relay, h.0.mail), computers_like xs ys h.1)

pub record FindsLike (name : List ℕ) (others : List (List ℕ × Computer)) (computer : PlayedComputer) : Type 0 where
  pub there : Computer
  pub here : named name others ≡ Some there
  pub relay : there.relay ≡ computer.relay
  pub mail : IsMailOf there.mail computer.agent (Some computer.saved)
  pub own : computer.agent.computer ≡ name

pub finds_like : (name : List ℕ) (others : List (List ℕ × Computer)) (computers : List (List ℕ × PlayedComputer)) (computer : PlayedComputer) → named name computers ≡ Some computer → AreLike others computers
    → FindsLike name others computer
finds_like name [] [] computer e h = absurd (cc)
finds_like name [] (y ∷ ys) computer e h = absurd h
finds_like name (x ∷ xs) [] computer e h = absurd h
finds_like name (x ∷ xs) (y ∷ ys) computer e h = by (bytes_eq name y.0) refl e (λ is. finds_like name xs ys computer is h.1)
  where
    by : (b : Bool) → bytes_eq name y.0 ≡ b → cond b (Some y.1) (named name ys) ≡ Some computer → (named name ys ≡ Some computer → FindsLike name xs computer) → FindsLike name (x ∷ xs) computer
    by true is e next =
        let same : y.1 ≡ computer = some_is y.1 computer e in
        record {
          there = x.1;
          here = ap (λ (b : Bool). cond b (Some x.1) (named name xs)) (ap (λ (key : List ℕ). bytes_eq name key) h.0.name ∙ is);
          relay = h.0.relay ∙ ap (λ (c : PlayedComputer). c.relay) same;
          mail = subst (λ (c : PlayedComputer). IsMailOf x.1.mail c.agent (Some c.saved)) same h.0.mail;
          own = ap (λ (c : PlayedComputer). c.agent.computer) (sym same) ∙ h.0.own ∙ sym ((bytes_eq-Decides name y.0).0 is);
        }
    by false is e next =
        let r = next e in
        record {
          there = r.there;
          here = ap (λ (b : Bool). cond b (Some x.1) (named name xs)) (ap (λ (key : List ℕ). bytes_eq name key) h.0.name ∙ is) ∙ r.here;
          relay = r.relay;
          mail = r.mail;
          own = r.own;
        }

set_like : (name : List ℕ) (others : List (List ℕ × Computer)) (computers : List (List ℕ × PlayedComputer)) (computer then : PlayedComputer) (new : Computer) → named name computers ≡ Some computer → new.relay ≡ then.relay
    → IsMailOf new.mail then.agent (Some then.saved) → then.agent.computer ≡ computer.agent.computer → AreLike others computers → AreLike (set_value (bytes_eq name) others new) (set_value (bytes_eq name) computers then)
set_like name [] [] computer then new e relay mail own h = h
set_like name [] (y ∷ ys) computer then new e relay mail own h = absurd h
set_like name (x ∷ xs) [] computer then new e relay mail own h = absurd h
set_like name (x ∷ xs) (y ∷ ys) computer then new e relay mail own h =
    subst (λ (b : Bool). AreLike (cond b ((x.0, new) ∷ xs) (x ∷ set_value (bytes_eq name) xs new)) (cond (bytes_eq name y.0) ((y.0, then) ∷ ys) (y ∷ set_value (bytes_eq name) ys then)))
    (sym (ap (λ (key : List ℕ). bytes_eq name key) h.0.name)) (by (bytes_eq name y.0) e (λ is. set_like name xs ys computer then new is relay mail own h.1))
  where
    by : (b : Bool) → cond b (Some y.1) (named name ys) ≡ Some computer → (named name ys ≡ Some computer → AreLike (set_value (bytes_eq name) xs new) (set_value (bytes_eq name) ys then))
        → AreLike (cond b ((x.0, new) ∷ xs) (x ∷ set_value (bytes_eq name) xs new)) (cond b ((y.0, then) ∷ ys) (y ∷ set_value (bytes_eq name) ys then))
    by true e next = (
      record { name = h.0.name; relay = relay; mail = mail; own = own ∙ ap (λ (c : PlayedComputer). c.agent.computer) (sym (some_is y.1 computer e)) ∙ h.0.own },
      h.1,
    )
    by false e next = (h.0, next e)

pub more_like : (others : List (List ℕ × Computer)) (computers : List (List ℕ × PlayedComputer)) (there : List ℕ × Computer) (computer : List ℕ × PlayedComputer) → IsLike there computer → AreLike others computers
    → AreLike (others ++ there ∷ []) (computers ++ computer ∷ [])
more_like [] [] there computer is h = (is, tt)
more_like [] (y ∷ ys) there computer is h = absurd h
more_like (x ∷ xs) [] there computer is h = absurd h
more_like (x ∷ xs) (y ∷ ys) there computer is h = (h.0, more_like xs ys there computer is h.1)

-- ---- the network of an office
-- The network has what the office has, and behind it the computers and the relays that are still to be named.
pub record Follows (coming : List (List ℕ × Computer)) (later : List (List ℕ × Carrier)) (n : Network) (accepted : List Entry) (messages : List Message) (carriers : List (List ℕ × Carrier))
    (computers : List (List ℕ × PlayedComputer)) : Type 0 where
  pub accepted_are : n.accepted ≡ accepted
  pub messages_are : n.messages ≡ messages
  pub relays_are : n.relays ≡ carriers ++ later
  pub front : List (List ℕ × Computer)
  pub computers_are : n.computers ≡ front ++ coming
  pub like : AreLike front computers
  pub desk : AreOfDesk carriers
  pub known : All (IsKnown carriers) messages

abbrev pub FollowsOffice : List (List ℕ × Computer) → List (List ℕ × Carrier) → Network → Office → Type 0
FollowsOffice coming later n o = Follows coming later n o.accepted o.messages (carriers_of o.relays) o.computers

module _ (coming : List (List ℕ × Computer)) (later : List (List ℕ × Carrier)) where
  pub along : (n : Network) (a a2 : List Entry) (m m2 : List Message) (r r2 : List (List ℕ × Carrier)) (c c2 : List (List ℕ × PlayedComputer)) → a2 ≡ a → m2 ≡ m → r2 ≡ r → c2 ≡ c → Follows coming later n a m r c → Follows coming later n a2 m2 r2 c2
  along n a a2 m m2 r r2 c c2 p q s t f = subst (λ x. Follows coming later n x m2 r2 c2) (sym p) (subst (λ x. Follows coming later n a x r2 c2) (sym q) (subst (λ x. Follows coming later n a m x c2) (sym s) (subst (λ x. Follows coming later n a m r x) (sym t) f)))

  -- a carrier is changed
  pub carrier_follows : (name : List ℕ) (change : Carrier → Carrier) (n : Network) (a : List Entry) (m : List Message) (r : List (List ℕ × Carrier)) (c : List (List ℕ × PlayedComputer)) (carrier : Carrier) → named name r ≡ Some carrier
      → ((x : Carrier) → (change x).limit ≡ x.limit) → Follows coming later n a m r c → Follows coming later (record n { relays = changed name change n.relays }) a m (changed name change r) c
  carrier_follows name change n a m r c carrier here limit f = record {
    accepted_are = f.accepted_are;
    messages_are = f.messages_are;
    relays_are = ap (λ (l : List (List ℕ × Carrier)). changed name change l) f.relays_are ∙ changed_more name change r later carrier here;
    front = f.front;
    computers_are = f.computers_are;
    like = f.like;
    desk = subst AreOfDesk (sym (set_named name change r carrier here)) (desk_set name r (change carrier) (limit carrier ∙ desk_found name r carrier here f.desk) f.desk);
    known = All-weaker (IsKnown r) (IsKnown (changed name change r)) (known_changed name change r) m f.known;
  }

  -- messages are sent
  pub messages_follow : (n : Network) (a : List Entry) (m : List Message) (r : List (List ℕ × Carrier)) (c : List (List ℕ × PlayedComputer)) (sent more : List Message) → sent ≡ more → All (IsKnown r) more → Follows coming later n a m r c
      → Follows coming later (record n { messages = n.messages ++ sent }) a (m ++ more) r c
  messages_follow n a m r c sent more same known f = record {
    accepted_are = f.accepted_are;
    messages_are = ap (λ (l : List Message). l ++ sent) f.messages_are ∙ ap (λ (l : List Message). m ++ l) same;
    relays_are = f.relays_are;
    front = f.front;
    computers_are = f.computers_are;
    like = f.like;
    desk = f.desk;
    known = All-append (IsKnown r) m more f.known known;
  }

  -- what the network has under a name
  pub relay_there : (name : List ℕ) (n : Network) (a : List Entry) (m : List Message) (r : List (List ℕ × Carrier)) (c : List (List ℕ × PlayedComputer)) (carrier : Carrier) → named name r ≡ Some carrier → Follows coming later n a m r c
      → named name n.relays ≡ Some carrier
  relay_there name n a m r c carrier here f = ap (λ (l : List (List ℕ × Carrier)). named name l) f.relays_are ∙ named_more name r later carrier here

  pub computer_there : (name : List ℕ) (n : Network) (a : List Entry) (m : List Message) (r : List (List ℕ × Carrier)) (c : List (List ℕ × PlayedComputer)) (computer : PlayedComputer) → (f : Follows coming later n a m r c)
      → (found : FindsLike name f.front computer) → named name n.computers ≡ Some found.there
  computer_there name n a m r c computer f found = ap (λ (l : List (List ℕ × Computer)). named name l) f.computers_are ∙ named_more name f.front coming found.there found.here

  -- a mail is changed
  pub mail_follows : (name : List ℕ) (n n2 : Network) (a : List Entry) (m : List Message) (r : List (List ℕ × Carrier)) (c : List (List ℕ × PlayedComputer)) (computer then : PlayedComputer) (mail : Mail) → named name c ≡ Some computer
      → (f : Follows coming later n a m r c) → (found : FindsLike name f.front computer) → n2.accepted ≡ n.accepted → n2.messages ≡ n.messages → n2.relays ≡ n.relays
      → n2.computers ≡ set_value (bytes_eq name) n.computers (record found.there { mail = mail }) → IsMailOf mail then.agent (Some then.saved) → then.relay ≡ computer.relay → then.agent.computer ≡ computer.agent.computer
      → Follows coming later n2 a m r (changed name (λ _. then) c)
  mail_follows name n n2 a m r c computer then mail here f found accepted messages relays computers is relay own =
      let new : Computer = record found.there { mail = mail } in
      record {
        accepted_are = accepted ∙ f.accepted_are;
        messages_are = messages ∙ f.messages_are;
        relays_are = relays ∙ f.relays_are;
        front = set_value (bytes_eq name) f.front new;
        computers_are = computers ∙ ap (λ (l : List (List ℕ × Computer)). set_value (bytes_eq name) l new) f.computers_are ∙ set_more name f.front coming found.there new found.here;
        like = subst (λ (l : List (List ℕ × PlayedComputer)). AreLike (set_value (bytes_eq name) f.front new) l) (sym (set_named name (λ _. then) c computer here))
            (set_like name f.front c computer then new here (found.relay ∙ sym relay) is own f.like);
        desk = f.desk;
        known = f.known;
      }

-- ---- steps that reach what follows an office
pub record Ends (coming : List (List ℕ × Computer)) (later : List (List ℕ × Carrier)) (n : Network) (steps : List Step) (o : Office) : Type 0 where
  pub schedule : IsSchedule desk_limits n steps
  pub follows : FollowsOffice coming later (reached desk_limits n steps) o

pub ends_both : (coming : List (List ℕ × Computer)) (later : List (List ℕ × Carrier)) (n : Network) (xs ys : List Step) (mid o : Office) (one : Ends coming later n xs mid) → Ends coming later (reached desk_limits n xs) ys o
    → Ends coming later n (xs ++ ys) o
ends_both coming later n xs ys mid o one other = record {
  schedule = schedule_both desk_limits n xs ys one.schedule other.schedule;
  follows = subst (λ (x : Network). FollowsOffice coming later x o) (sym (reached_both desk_limits n xs ys)) other.follows;
}

pub no_steps : (coming : List (List ℕ × Computer)) (later : List (List ℕ × Carrier)) (n : Network) (old new : Office) → new ≡ old → FollowsOffice coming later n old → Ends coming later n [] new
no_steps coming later n old new is f = record { schedule = tt; follows = subst (λ (o : Office). FollowsOffice coming later n o) (sym is) f }

-- more stands behind
pub known_behind : (carriers more : List (List ℕ × Carrier)) (messages : List Message) → All (IsKnown carriers) messages → All (IsKnown (carriers ++ more)) messages
known_behind carriers more messages all = All-weaker (IsKnown carriers) (IsKnown (carriers ++ more)) (known_more carriers more) messages all

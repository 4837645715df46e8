-- `relay` and `agent` say one thing, where nothing failed and all is told.
use Rattle.std.proofs.Common.{◌≡◌, ℕ, List, [], IsSome, Some, Ok, refl, sym, ap, ◌∙◌, subst, arith}
use Rattle.std.specs.declared.option.Option.{Option}
use Rattle.std.specs.Io.KnownBytes.{Appends}
use Rattle.std.specs.Ordering.{nat_cmp}
use Rattle.std.specs.Cmp.Lexicographic.{slice_cmp}
use Rattle.std.specs.List.Sorted.{IsStrictlySortedBy}
use Rattle.std.proofs.lemmas.List.Elements.{All-nil}
use Rattle.desk_base.specs.Views.{ClockView, SinkView}
use Rattle.desk_base.specs.declared.sink.Put.TheVariants as put
use Rattle.bf_machine.specs.Views.{MachineView}
use Rattle.desk_door.specs.Links.{LinkView}
use Rattle.fix_site.specs.Sites.{IsSite}
use Rattle.agent_text.specs.Pockets.{PocketView}
use Rattle.agent_state.specs.States.{State}
use Rattle.agent_core.specs.Agents.{AgentState, shown_state}
use Rattle.agent_core.specs.Devices.{Devices, devices}
use Rattle.agent_core.specs.Opens.{OpensAgent}
use Rattle.agent_core.specs.declared.opening.Opened.TheVariants as opened
use Rattle.relay_cache.specs.CachedFiles.{CacheState}
use Rattle.relay_core.specs.KeptSites.{AreKept}
use Rattle.relay_core.specs.Relays.{RelayState, desk_queue, empty_relay}
use Rattle.desk_rounds.specs.declared.agent_rounds.Rounder.{Rounder}
use Rattle.desk_runs.specs.AgentRuns as rounds
use Rattle.desk_runs.specs.AgentRuns.{AgentRun}
use Rattle.desk_runs.specs.AgentSteps.{AgentScene}
use Rattle.desk_runs.specs.OneExchanges.{LinkTold, TellsLink}
use Rattle.desk_runs.specs.OneRelaying.{IsSteadyRelay, RelayTold, RelaysAlike, TellsRelay}
use Rattle.desk_runs.specs.OneRounding.{AgentTold, AgentsAlike, IsSteadyAgent, TellsAgent}
use Rattle.desk_runs.specs.RelayRuns as relay
use Rattle.desk_runs.specs.RelayRuns.{RelayRun}
use Rattle.desk_runs.specs.RelaySteps.{RelayScene}
use Rattle.desk_top.specs.declared.command.AgentWords.{AgentWords}
use Rattle.desk_top.specs.declared.command.RelayWords.{RelayWords}
use Rattle.desk_top.specs.OneWorking.{RelayedAlike, RelayedSteadily, RoundedAlike, RoundedSteadily, TellsRelaying, TellsRounding}
use Rattle.desk_top.specs.Relayed.{OpensRelay, Relaying, RelaysAt, empty_cache, relay_at, with_upstream}
use Rattle.desk_top.specs.Rounded.{OpensRounds, Rounding, RoundsAt, agent_at, rounder_of}
use Rattle.desk_top.proofs.OneSaid.{bytes_fixed}

-- what desk_runs says of every two runs, in its laws on them
abbrev pub OneRelaying : Type 0
OneRelaying = (told : RelayTold) (old start one other : RelayScene) (run again : RelayRun) → TellsRelay told old → TellsRelay told start → relay.Runs old run one → relay.Runs start again other
    → relay.talk_count run ≡ relay.talk_count again → IsSteadyRelay old one → IsSteadyRelay start other → (run ≡ again) × RelaysAlike one other

abbrev pub OneRounding : Type 0
OneRounding = (rounder : Rounder) (told : AgentTold) (old start one other : AgentScene) (run again : AgentRun) → TellsAgent told old → TellsAgent told start → IsSome old.point.clock.given → IsSome start.point.clock.given
    → rounds.Runs rounder old run one → rounds.Runs rounder start again other → rounds.round_count run ≡ rounds.round_count again → IsSteadyAgent old one → IsSteadyAgent start other
    → one.point.clock.given ≡ other.point.clock.given → (run ≡ again) × AgentsAlike one other

-- and agent_core of every two agents that were opened from one pocket
abbrev pub OneOpening : Type 0
OneOpening = (computer : List ℕ) (told : Option (Option (List ℕ))) (agent other : AgentState) → IsSome told → OpensAgent computer told (opened.Agent agent) → OpensAgent computer told (opened.Agent other)
    → shown_state agent ≡ shown_state other

-- ---- links
-- the upstream is named
abbrev named : List ℕ → LinkTold → LinkTold
named upstream told = record { upstream = Some upstream; asked = told.asked; replies = told.replies }

named_so : (upstream : List ℕ) (told : LinkTold) (old new : LinkView) → new ≡ with_upstream upstream old → TellsLink told old → TellsLink (named upstream told) new
named_so upstream told old new is tells =
    let P : LinkView → Type 0 = λ l. TellsLink (named upstream told) l in
    subst P (sym is) (record { upstream = refl; asked = tells.asked; replies = tells.replies; rises = tells.rises })

named_faults : (upstream : List ℕ) (old new : LinkView) → new ≡ with_upstream upstream old → new.faults ≡ old.faults
named_faults upstream old new is = ap (λ (l : LinkView). l.faults) is

-- ---- a relay
none_sorted : IsStrictlySortedBy (slice_cmp nat_cmp) []
unfolding IsStrictlySortedBy
none_sorted = tt

none_kept : AreKept []
none_kept = record { good = All-nil IsSite; ascending = none_sorted }

-- the relay at work, once its door was opened
abbrev begun_told : RelayWords → List (List ℕ) → List (List ℕ) → LinkTold → RelayTold
begun_told asked coming written told = record {
  coming = coming;
  written = written;
  link = named asked.upstream.now told;
  relay = empty_relay desk_queue;
  cache = empty_cache asked.room;
}

abbrev begun_at : RelayWords → Relaying → RelayScene
begun_at asked begun = relay_at (empty_relay desk_queue) (empty_cache asked.room) begun

record RelayOpenedSo (asked : RelayWords) (coming written : List (List ℕ)) (told : LinkTold) (old begun new : Relaying) (last : RelayState) (kept : Option CacheState) : Type 0 where
  tells : TellsRelay (begun_told asked coming written told) (begun_at asked begun)
  steady : IsSteadyRelay (begun_at asked begun) (relay_at last kept new)
  held : begun.sink.held ≡ old.sink.held

relay_opened_so : (asked : RelayWords) (coming written : List (List ℕ)) (told : LinkTold) (old begun new : Relaying) (last : RelayState) (kept : Option CacheState) → OpensRelay asked old put.Done begun → TellsRelaying coming written told old
    → RelayedSteadily old new → RelayOpenedSo asked coming written told old begun new last kept
relay_opened_so asked coming written told old begun new last kept opens tells steady =
    let door : begun.door.faults ≡ old.door.faults = opens.door.counts.steady (λ e. cc) in
    let link = named_faults asked.upstream.now old.link begun.link opens.link in
    let below = tells.door.rises in
    record {
      tells = record {
        door = record { comes = opens.door.coming ∙ tells.door.comes; holds = opens.door.written ∙ tells.door.holds; rises = omega (arith, door, below) };
        link = named_so asked.upstream.now told old.link begun.link opens.link tells.link;
        relay = refl;
        cache = refl;
        kept = none_kept;
      };
      steady = record { door = steady.door ∙ sym door; link = steady.link ∙ sym link };
      held = ap (λ (s : SinkView). s.held) opens.sink;
    }

pub relayed_once : OneRelaying → (asked : RelayWords) (held : List ℕ) (coming written : List (List ℕ)) (told : LinkTold) (old one other : Relaying) → old.sink.held ≡ Some held → TellsRelaying coming written told old
    → RelaysAt asked old (Ok tt) one → RelaysAt asked old (Ok tt) other → RelayedSteadily old one → RelayedSteadily old other → (one.sink.held ≡ other.sink.held) × RelayedAlike one other
relayed_once law asked held coming written told old one other holds tells (begun, last, kept, opens, (run, is, goes)) (begun', last', kept', opens', (run', is', goes')) steady steady' =
    let so = relay_opened_so asked coming written told old begun one last kept opens tells steady in
    let so' = relay_opened_so asked coming written told old begun' other last' kept' opens' tells steady' in
    let once = law (begun_told asked coming written told) (begun_at asked begun) (begun_at asked begun') (relay_at last kept one) (relay_at last' kept' other) run run' so.tells so'.tells goes.runs goes'.runs
    (is ∙ sym is') so.steady so'.steady in
    let alike = once.1 in
    let P : Option (List ℕ) → Type 0 = λ h. Appends h one.sink.held (relay.said run) in
    let Q : Option (List ℕ) → Type 0 = λ h. Appends h other.sink.held (relay.said run') in (
      bytes_fixed old.sink.held one.sink.held other.sink.held held (relay.said run) (relay.said run') holds (ap relay.said once.0) (subst P so.held goes.lines) (subst Q so'.held goes'.lines),
      record { written = alike.1.door.holds ∙ sym alike.2.door.holds; asked = alike.1.link.asked ∙ sym alike.2.link.asked },
    )

-- ---- an agent
-- opening leaves the pocket as it was
pocket_same : (asked : AgentWords) (old begun : Rounding) (agent : AgentState) → OpensRounds asked old (opened.Agent agent) begun → begun.pocket ≡ old.pocket
pocket_same asked old begun agent opens =
    let saved : begun.pocket.saved ≡ old.pocket.saved = opens.pocket.saved in
    let faults : begun.pocket.faults ≡ old.pocket.faults = opens.pocket.counts.steady (λ e. cc) in
    λ i. record { saved = saved i; faults = faults i }

abbrev agent_told : AgentWords → LinkTold → State → Rounding → AgentTold
agent_told asked told agent old = record { link = named asked.upstream.now told; agent = agent; devices = devices old.machine old.pocket }

record AgentOpenedSo (asked : AgentWords) (told : LinkTold) (state : State) (old begun new : Rounding) (agent : AgentState) (last : State) : Type 0 where
  tells : TellsAgent (agent_told asked told state old) (agent_at (shown_state agent) begun)
  moments : IsSome begun.clock.given
  steady : IsSteadyAgent (agent_at (shown_state agent) begun) (agent_at last new)
  held : begun.sink.held ≡ old.sink.held

agent_opened_so : (asked : AgentWords) (told : LinkTold) (state : State) (old begun new : Rounding) (agent : AgentState) (last : State) → shown_state agent ≡ state → OpensRounds asked old (opened.Agent agent) begun
    → TellsRounding told old → RoundedSteadily old new → AgentOpenedSo asked told state old begun new agent last
agent_opened_so asked told state old begun new agent last is opens tells steady =
    let pocket = pocket_same asked old begun agent opens in
    let Given : ClockView → Type 0 = λ c. IsSome c.given in
    let link = named_faults asked.upstream.now old.link begun.link opens.link in
    record {
      tells = record {
        link = named_so asked.upstream.now told old.link begun.link opens.link tells.link;
        agent = is;
        devices = λ i. devices (opens.machine i) (pocket i);
        all = tells.devices;
      };
      moments = subst Given (sym opens.clock) tells.moments;
      steady = record {
        link = steady.link ∙ sym link;
        machine = steady.machine ∙ sym (ap (λ (m : MachineView). m.faults) opens.machine);
        pocket = steady.pocket ∙ sym (ap (λ (p : PocketView). p.faults) pocket);
      };
      held = ap (λ (s : SinkView). s.held) opens.sink;
    }

pub rounded_once : OneRounding → OneOpening → (asked : AgentWords) (held : List ℕ) (told : LinkTold) (old one other : Rounding) → old.sink.held ≡ Some held → TellsRounding told old
    → RoundsAt asked old (Ok tt) one → RoundsAt asked old (Ok tt) other → RoundedSteadily old one → RoundedSteadily old other → one.clock.given ≡ other.clock.given
    → (one.sink.held ≡ other.sink.held) × RoundedAlike one other
rounded_once law opening asked held told old one other holds tells (begun, agent, last, opens, (run, is, goes)) (begun', agent', last', opens', (run', is', goes')) steady steady' moments =
    let state : shown_state agent' ≡ shown_state agent = opening asked.name.now old.pocket.saved agent' agent tells.devices.tells.saved opens'.pocket.opens opens.pocket.opens in
    let so = agent_opened_so asked told (shown_state agent) old begun one agent last refl opens tells steady in
    let so' = agent_opened_so asked told (shown_state agent) old begun' other agent' last' state opens' tells steady' in
    let once = law (rounder_of asked) (agent_told asked told (shown_state agent) old) (agent_at (shown_state agent) begun) (agent_at (shown_state agent') begun') (agent_at last one) (agent_at last' other) run run' so.tells so'.tells
    so.moments so'.moments goes.runs goes'.runs (is ∙ sym is') so.steady so'.steady moments in
    let alike = once.1 in
    let both : devices one.machine one.pocket ≡ devices other.machine other.pocket = alike.1.devices ∙ sym alike.2.devices in
    let P : Option (List ℕ) → Type 0 = λ h. Appends h one.sink.held (rounds.said run) in
    let Q : Option (List ℕ) → Type 0 = λ h. Appends h other.sink.held (rounds.said run') in (
      bytes_fixed old.sink.held one.sink.held other.sink.held held (rounds.said run) (rounds.said run') holds (ap rounds.said once.0) (subst P so.held goes.lines) (subst Q so'.held goes'.lines),
      record {
        asked = alike.1.link.asked ∙ sym alike.2.link.asked;
        machine = ap (λ (d : Devices). d.machine) both;
        pocket = ap (λ (d : Devices). d.pocket) both;
      },
    )

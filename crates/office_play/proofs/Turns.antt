-- A computer that turns.
use Rattle.std.proofs.Common.{◌≡◌, ◌≢◌, ℕ, ℤ, ◌+◌, ◌<◌, ◌≤◌, pos, negsuc, arith, cond, List, [], ◌∷◌, ◌++◌, drop, get_or, length, Option, Some, refl, sym, ap, subst, ◌∙◌, w64, FitsSigned}
use Rattle.std.proofs.lemmas.Int.{ints}
use Rattle.std.proofs.lemmas.List.{append_assoc, drop_all, drop_more}
use Rattle.bf_world.specs.declared.command.Command.{Command}
use Rattle.desk_keep.specs.declared.change.Change.{Change}
use Rattle.report_text.specs.declared.answer.Gathered.{Gathered}
use Rattle.report_text.specs.declared.answer.Gathered.TheVariants as gathered
use Rattle.desk_base.specs.Counts.{CountsFaults}
use Rattle.desk_base.specs.Moments.{IsMoment}
use Rattle.bf_machine.specs.Steps.{answers_from, world_after}
use Rattle.bf_machine.specs.Sure.{SureState, untouched}
use Rattle.fix_site.specs.declared.site.Site.{Site}
use Rattle.agent_state.specs.Changes.{GathersSite}
use Rattle.agent_state.specs.States.{IsSound, State}
use Rattle.agent_core.specs.Agents.{shown_state}
use Rattle.agent_core.specs.declared.turned.Turned.{Turned}
use Rattle.agent_core.specs.declared.turned.Turned.TheVariants.{PocketFault}
use Rattle.server_text.specs.Entries.{Entry}
use Rattle.turn_lines.specs.DoLines.{do_lines}
use Rattle.turn_lines.specs.TurnLines.{turn_line}
use Rattle.turn_lines.specs.TurnsWithFiles.{any_begun}
use Rattle.delivery.specs.Messages.{named}
use Rattle.delivery.specs.Schedules.{Computer, Network}
use Rattle.office_rules.specs.ComputerWords.{GathersEach, ServesFiles, TurnsComputer}
use Rattle.office_rules.specs.Offices.{PlayedComputer}
use Rattle.office_rules.proofs.TurningMail.{TurnsAreSteps, memory_lasts, turns_move}
use Rattle.office_play.specs.Links.{HasMail}
use Rattle.office_play.specs.States.{ComputerState, shown_computer, shown_entry}
use Rattle.office_play.specs.Turning.{MakesTurns, MakesTurnsOver, Turner, TurnsOver, told_of}
use Rattle.office_play.proofs.Answered.{never_failed}
use Rattle.office_play.proofs.Places.{is_same}

-- Turns of a computer take a mail of it to one of it.
pub turns_mail : TurnsAreSteps → (name : List ℕ) (moment : ℤ) (accepted : List Entry) (old : Turner) (answer : Turned) (new : Turner)
    → MakesTurns moment accepted old answer new → IsSound new.agent → HasMail name old.agent old.pocket → HasMail name new.agent new.pocket
turns_mail law name moment accepted old answer new made sound has =
    let t = made.turns in
    let last = t.turns.last in
    let never : last ≢ PocketFault = λ is.
    never_failed (last ≡ PocketFault) (subst (λ n. CountsFaults (last ≡ PocketFault) n 0) t.turns.pocket t.turns.cause.pocket) is in
    let ample = memory_lasts ServesFiles (any_begun t.turns.fetches) last t.last t.told answer made.files t.turns.answers t.closes made.memory in
    let there : Computer = record { relay = []; mail = has.0 } in
    let alone : Network =
    record { computers = (name, there) ∷ []; relays = []; accepted = []; messages = []; made = []; dropped = [] } in
    let here : named name alone.computers ≡ Some there = ap (λ b. cond b (Some there) (named name [])) (is_same name name refl) in
    let moved = turns_move law name (record { moment = moment; offset = old.machine.world.offset }) t.turns.fetches alone there here old.agent t.turns.between new.agent (told_of old) t.turns.devices (told_of new) last t.turns.fetched
    t.turns.turns sound never ample has.2 in
    (moved.mail, moved.own ∙ has.1, moved.is)

-- What its agent gathers and its turns come to, with the lines of them, is what the word does.
pub computer_turns : (name : List ℕ) (moment : ℤ) (accepted : List Entry) (sites : List Site) (old : PlayedComputer) (gathered : State)
    (answer : Turned) (then : Turner) (new : PlayedComputer) (said : List ℕ) → GathersEach sites old.agent gathered
    → MakesTurns moment accepted (record { agent = gathered; machine = untouched old.world; pocket = old.saved }) answer then
    → new ≡ record {
      relay = old.relay;
      agent = then.agent;
      saved = then.pocket;
      world = then.machine.world;
      again = world_after moment old.again then.machine.acted;
      analyst = old.analyst;
    } → said ≡ do_lines (answers_from moment old.again then.machine.acted) ++ turn_line name moment answer
    → TurnsComputer name moment accepted sites old said new
computer_turns name moment accepted sites old gathered answer then new said gathers made is said_is =
    subst (λ (n : PlayedComputer). TurnsComputer name moment accepted sites old said n) (sym is) (record {
      gathered = gathered;
      answer = answer;
      told = told_of then;
      files = made.files;
      commands = then.machine.acted;
      gathers = gathers;
      turns = made.turns;
      memory = made.memory;
      tells = record { world = refl; acted = refl; saved = refl; machine_faults = refl; pocket_faults = refl };
      relay = refl;
      analyst = refl;
      again = refl;
      said_is = said_is;
    })

-- ---- sites that its agent gathers
gathered_held : (s s2 : State) (site : Site) (answer : Gathered) → GathersSite s site answer s2 → s2.held ≡ s.held
gathered_held s s2 site gathered.New h = ap (λ (x : State). x.held) h.1
gathered_held s s2 site (gathered.Older version) h = ap (λ (x : State). x.held) h.2
gathered_held s s2 site gathered.Memory h = ap (λ (x : State). x.held) h

-- What gathers the rest gathers all, and it goes on holding what it held.
pub record GathersRest (sites : List Site) (old : State) (left : List Site) (now : State) : Type 0 where
  pub rest : (new : State) → GathersEach left now new → GathersEach sites old new
  pub held : now.held ≡ old.held

pub gathers_next : (sites : List Site) (old s s2 : State) (at : ℕ) (site : Site) (answer : Gathered) → at < length sites
    → site ≡ get_or sites at site → GathersSite s site answer s2 → answer ≢ gathered.Memory → GathersRest sites old (drop at sites) s
    → GathersRest sites old (drop (at + 1) sites) s2
gathers_next sites old s s2 at site answer within is gathers ample before =
    let here : drop at sites ≡ site ∷ drop (at + 1) sites =
    drop_more sites at site within ∙ ap (λ x. x ∷ drop (at + 1) sites) (sym is) in
    record {
      rest = λ new more. before.rest new (subst (λ l. GathersEach l s new) (sym here) (answer, s2, gathers, ample, more));
      held = gathered_held s s2 site answer gathers ∙ before.held;
    }

pub gathers_all : (sites : List Site) (old now : State) (at : ℕ) → length sites ≤ at → GathersRest sites old (drop at sites) now
    → GathersEach sites old now
gathers_all sites old now at past before =
    before.rest now (subst (λ l. GathersEach l now now) (sym (drop_all at sites past)) refl)

gathered_mail : (name : List ℕ) (saved : Option (List ℕ)) (s s2 : State) (site : Site) (answer : Gathered) → GathersSite s site answer s2
    → HasMail name s saved → HasMail name s2 saved
gathered_mail name saved s s2 site gathered.New h has =
    subst (λ (x : State). HasMail name x saved) (sym h.1) (
      has.0,
      has.1,
      record { computer = has.2.computer; next = has.2.next; outbox = has.2.outbox; kept = has.2.kept },
    )
gathered_mail name saved s s2 site (gathered.Older version) h has = subst (λ (x : State). HasMail name x saved) (sym h.2) has
gathered_mail name saved s s2 site gathered.Memory h has = subst (λ (x : State). HasMail name x saved) (sym h) has

-- A mail of the computer stays one.
pub gathers_mail : (name : List ℕ) (saved : Option (List ℕ)) (sites : List Site) (s s2 : State) → GathersEach sites s s2
    → HasMail name s saved → HasMail name s2 saved
gathers_mail name saved [] s s2 h has = subst (λ (x : State). HasMail name x saved) (sym h) has
gathers_mail name saved (site ∷ sites) s s2 h has =
    gathers_mail name saved sites h.1 s2 h.4 (gathered_mail name saved s h.1 site h.0 h.2 has)

-- ---- in the code
-- What the code sees of a computer that turned, and what it wrote, is what the word does.
pub turned_entry : (moment : ℤ) (rows : List Change) (sites : List Site) (seen old : List ℕ × ComputerState) (gathered : State) (answer : Turned)
    (then : Turner) (begun : SureState) (acted : List Command) (new : PlayedComputer) (out mid written : List ℕ) → seen ≡ old
    → begun ≡ untouched seen.1.world → acted ≡ then.machine.acted → GathersEach sites (shown_state seen.1.agent) gathered
    → MakesTurnsOver moment rows (record { agent = gathered; machine = begun; pocket = seen.1.saved }) answer then
    → new ≡ record {
      relay = seen.1.relay;
      agent = then.agent;
      saved = then.pocket;
      world = then.machine.world;
      again = world_after moment seen.1.again acted;
      analyst = seen.1.analyst;
    } → mid ≡ out ++ do_lines (answers_from moment seen.1.again acted) → written ≡ mid ++ turn_line seen.0 moment answer
    → TurnsOver moment rows sites (shown_entry old) out (seen.0, new) written
turned_entry moment rows sites seen old gathered answer then begun acted new out mid written is begun_is acted_is gathers makes new_is lines line =
    subst (λ (e : List ℕ × ComputerState). TurnsOver moment rows sites (shown_entry e) out (seen.0, new) written) is (λ accepted are.
    let commands = then.machine.acted in
    let again = seen.1.again in
    let done : List ℕ = do_lines (answers_from moment again commands) in
    let last : List ℕ = turn_line seen.0 moment answer in
    let made = subst (λ (m : SureState). MakesTurns moment accepted (record { agent = gathered; machine = m; pocket = seen.1.saved }) answer then) begun_is
    (makes accepted are) in
    let became = new_is
    ∙ ap (λ (a : List Command). record { relay = seen.1.relay; agent = then.agent; saved = then.pocket; world = then.machine.world; again = world_after moment again a; analyst = seen.1.analyst })
    acted_is in (
      done ++ last,
      computer_turns seen.0 moment accepted sites (shown_computer seen.1) gathered answer then new (done ++ last) gathers made became refl,
      line ∙ ap (λ t. t ++ last) (lines ∙ ap (λ (a : List Command). out ++ do_lines (answers_from moment again a)) acted_is) ∙ append_assoc out done last,
    ))

-- a moment can be handed over in 64 bits
pub moment_fits : (moment : ℤ) → IsMoment moment → FitsSigned w64 moment
moment_fits (pos n) h = record { sfits = omega (arith, ints, h.1) }
moment_fits (negsuc n) h = absurd (omega (arith, ints, h.0))

use Rattle.std.proofs.Common.{◌≡◌, List, ℕ, [], ◌∷◌, ◌++◌, ap, subst, ◌∙◌}
use Rattle.std.specs.Prelude.{get_or}
use Rattle.std.proofs.lemmas.Result.{on_ok_weaker}
use Rattle.agent_state.specs.Changes.{SettlesState}
use Rattle.agent_core.specs.Agents.{AgentState, shown_state}
use Rattle.office_rules.specs.OfficeLines.{delivered_line}
use Rattle.office_play.specs.States.{ComputerState, OfficeState, kept_of, shown_computer, shown_entry}
use Rattle.office_play.proofs.Arrivals.{settles}
use Rattle.office_play.proofs.ComputerWords.{good_at}
use Rattle.office_play.proofs.Mails.{settled_good}
use Rattle.office_play.proofs.Names.{keeps_computer_set}
use Rattle.office_play.proofs.Seen.{computer_changed, entry_seen}
use Rattle.office_play.proofs.office.Office.settle.Goals as goal

pub returns-clause-plays : goal.returns-clause-plays
returns-clause-plays c =
    let old : OfficeState = c.args.self.now in
    let name = c.args.computer.now in
    let place = c.computer_place-place.result in
    let entry : List ℕ × ComputerState = c.index_mut.result.now in
    let agent : AgentState = c.settle-dropped.new.self in
    let is : entry ≡ get_or old.computers place entry =
    c.index_mut.ensures.value ∙ ap (λ (o : OfficeState). get_or o.computers place entry) c.self.view_is in
    let seen = entry_seen old.computers place entry is in
    let w : ComputerState = record entry.1 { agent = agent } in
    let item = ap (λ (e : List ℕ × ComputerState). (e.0, record e.1 { agent = agent })) c.agent.view_is in
    let settled = subst (λ (e : List ℕ × ComputerState). SettlesState c.args.seq c.args.verdict.now (shown_state e.1.agent) c.settle-dropped.result (shown_state agent)) c.agent.view_is
    c.settle-dropped.ensures in
    let good = good_at (kept_of old) name place (shown_entry entry) c.computer_place-place.ensures seen c.requires.good in
    on_ok_weaker c.say_delivered.result
    (λ said. settles (kept_of old) _ name c.args.seq c.args.verdict.now place (shown_entry entry) (shown_state agent) c.settle-dropped.result c.args.number c.args.out.now _
    c.computer_place-place.ensures seen c.requires.good settled
    (settled_good c.turns_are_steps.ensures.settled old.relays name c.args.seq c.args.verdict.now (shown_computer entry.1) (shown_state agent) c.settle-dropped.result settled
    c.agents_are_sound.ensures good)
    (computer_changed _ old place entry _ w c.self.view_is item)
    (said ∙ ap (λ word. c.args.out.now ++ delivered_line c.args.number (word ∷ [])) c.settled_word.ensures))
    c.say_delivered.ensures

pub returns-clause-names : goal.returns-clause-names
returns-clause-names c =
    let old : OfficeState = c.args.self.now in
    let place = c.computer_place-place.result in
    let entry : List ℕ × ComputerState = c.index_mut.result.now in
    let agent : AgentState = c.settle-dropped.new.self in
    let is : entry ≡ get_or old.computers place entry =
    c.index_mut.ensures.value ∙ ap (λ (o : OfficeState). get_or o.computers place entry) c.self.view_is in
    let w : ComputerState = record entry.1 { agent = agent } in
    let item = ap (λ (e : List ℕ × ComputerState). (e.0, record e.1 { agent = agent })) c.agent.view_is in
    on_ok_weaker c.say_delivered.result
    (λ said. keeps_computer_set c.args.computer.now (kept_of old) _ place (shown_entry entry) (shown_computer w) c.computer_place-place.ensures
    (entry_seen old.computers place entry is) (computer_changed _ old place entry _ w c.self.view_is item))
    c.say_delivered.ensures

use Rattle.std.proofs.Common.{◌≡◌, List, ℕ, Some, [], ◌∷◌, ◌++◌, codes, sym, ap, subst, ◌∙◌}
use Rattle.std.specs.Prelude.{get_or}
use Rattle.std.specs.declared.option.Option.{Option}
use Rattle.std.proofs.lemmas.Result.{on_ok_weaker}
use Rattle.agent_core.specs.declared.opening.Opened.TheVariants as opened
use Rattle.agent_core.specs.Agents.{AgentState}
use Rattle.agent_core.specs.Opens.{OpensAgent}
use Rattle.office_rules.specs.OfficeLines.{words_line}
use Rattle.office_play.specs.Links.{IsPocketOf}
use Rattle.office_play.specs.States.{ComputerState, OfficeState, kept_of, shown_computer, shown_entry}
use Rattle.office_play.proofs.ComputerWords.{good_at, restarts}
use Rattle.office_play.proofs.Mails.{pocket_of}
use Rattle.office_play.proofs.Names.{keeps_computer_set}
use Rattle.office_play.proofs.Seen.{computer_changed, entry_seen}
use Rattle.office_play.proofs.office.Office.restart.Goals as goal

pub opened-requires : goal.opened-requires
opened-requires c =
    let old : OfficeState = c.args.self.now in
    let place = c.computer_place-place.result in
    let entry : List ℕ × ComputerState = c.index_mut-computer.result.now in
    let is : entry ≡ get_or old.computers place entry =
    c.index_mut-computer.ensures.value ∙ ap (λ (o : OfficeState). get_or o.computers place entry) c.self.view_is in
    let good = good_at (kept_of old) c.args.name.now place (shown_entry entry) c.computer_place-place.ensures (entry_seen old.computers place entry is) c.requires.good in
    record {
      name = good.name;
      pocket = subst (λ (e : List ℕ × ComputerState). IsPocketOf c.args.name.now e.1.saved) (sym c.computer.view_is)
          (pocket_of c.args.name.now (shown_computer entry.1).agent entry.1.saved good.mail);
    }

pub returns-clause-plays : goal.returns-clause-plays
returns-clause-plays c =
    let old : OfficeState = c.args.self.now in
    let place = c.computer_place-place.result in
    let entry : List ℕ × ComputerState = c.index_mut-computer.result.now in
    let agent : AgentState = c.in_ok-agent.agent in
    let is : entry ≡ get_or old.computers place entry =
    c.index_mut-computer.ensures.value ∙ ap (λ (o : OfficeState). get_or o.computers place entry) c.self.view_is in
    let w : ComputerState = record entry.1 { agent = agent } in
    let i = c.computer.inside in
    let item =
    ap (λ (s : Option (List ℕ)). (i.name, record { relay = i.relay; agent = agent; saved = s; world = i.machine.world; again = i.again; analyst = i.analyst })) c.opened.ensures.pocket
    ∙ ap (λ (e : List ℕ × ComputerState). (e.0, record e.1 { agent = agent })) c.computer.view_is in
    let opens = subst (λ (e : List ℕ × ComputerState). OpensAgent c.args.name.now (Some e.1.saved) (opened.Agent agent)) c.computer.view_is c.in_ok-agent.ensures.agent in
    on_ok_weaker c.say_words.result
    (λ said. restarts c.turns_are_steps.ensures.opened (kept_of old) _ c.args.name.now place (shown_entry entry) agent c.args.out.now _ c.computer_place-place.ensures
    (entry_seen old.computers place entry is) c.requires.good opens c.in_ok-agent.ensures.sound
    (said ∙ ap (λ n. c.args.out.now ++ words_line (codes "restart" ∷ n ∷ [])) c.as_str.ensures)
    (computer_changed _ old place entry _ w c.self.view_is item))
    c.say_words.ensures

pub returns-clause-names : goal.returns-clause-names
returns-clause-names c =
    let old : OfficeState = c.args.self.now in
    let place = c.computer_place-place.result in
    let entry : List ℕ × ComputerState = c.index_mut-computer.result.now in
    let agent : AgentState = c.in_ok-agent.agent in
    let is : entry ≡ get_or old.computers place entry =
    c.index_mut-computer.ensures.value ∙ ap (λ (o : OfficeState). get_or o.computers place entry) c.self.view_is in
    let w : ComputerState = record entry.1 { agent = agent } in
    let i = c.computer.inside in
    let item =
    ap (λ (s : Option (List ℕ)). (i.name, record { relay = i.relay; agent = agent; saved = s; world = i.machine.world; again = i.again; analyst = i.analyst })) c.opened.ensures.pocket
    ∙ ap (λ (e : List ℕ × ComputerState). (e.0, record e.1 { agent = agent })) c.computer.view_is in
    on_ok_weaker c.say_words.result
    (λ said. keeps_computer_set c.args.name.now (kept_of old) _ place (shown_entry entry) (shown_computer w) c.computer_place-place.ensures
    (entry_seen old.computers place entry is) (computer_changed _ old place entry _ w c.self.view_is item))
    c.say_words.ensures

use Rattle.std.proofs.Common.{List, ℕ, Some, sym, subst, ◌∙◌}
use Rattle.std.specs.declared.option.Option.{Option}
use Rattle.agent_state.specs.States.{IsSound}
use Rattle.agent_core.specs.declared.opening.Opened.TheVariants as opened
use Rattle.agent_core.specs.Opens.{OpensAgent}
use Rattle.office_play.specs.Links.{IsPocketOf}
use Rattle.office_play.proofs.Mails.{opened_new, pocket_new}
use Rattle.office_play.proofs.computer.begun.Goals as goal

pub opened-requires : goal.opened-requires
opened-requires c = record {
  name = c.requires;
  pocket = subst (IsPocketOf c.args.name.now) (sym c.new-pocket.ensures) (pocket_new c.args.name.now);
}

pub returns-clause-agent : goal.returns-clause-agent
returns-clause-agent c =
    opened_new c.args.name.now c.in_ok-agent.agent
    (subst (λ (saved : Option (List ℕ)). OpensAgent c.args.name.now (Some saved) (opened.Agent c.in_ok-agent.agent)) c.new-pocket.ensures c.in_ok-agent.ensures.agent)

pub returns-clause-pocket : goal.returns-clause-pocket
returns-clause-pocket c = c.opened.ensures.pocket ∙ c.new-pocket.ensures

pub returns-clause-sound : goal.returns-clause-sound
returns-clause-sound c =
    subst IsSound (opened_new c.args.name.now c.in_ok-agent.agent
    (subst (λ (saved : Option (List ℕ)). OpensAgent c.args.name.now (Some saved) (opened.Agent c.in_ok-agent.agent)) c.new-pocket.ensures c.in_ok-agent.ensures.agent))
    c.in_ok-agent.ensures.sound

use Rattle.office_play.proofs.Mails.{new_shown}
use Rattle.office_play.proofs.computer.PlayedComputer.new.Goals as goal

pub begun-requires : goal.begun-requires
begun-requires c = c.requires

pub returns-clause-computer : goal.returns-clause-computer
returns-clause-computer c =
    let begun = c.in_ok-begun.begun in
    let worlds = c.args.worlds in
    new_shown c.args.name c.args.relay worlds.machine.world worlds.again begun.agent begun.pocket c.in_ok-analyst.analyst c.in_ok-begun.ensures.agent
    c.in_ok-begun.ensures.pocket c.in_ok-analyst.ensures

pub returns-clause-sound : goal.returns-clause-sound
returns-clause-sound c = c.in_ok-begun.ensures.sound

use Rattle.agent_attempt.specs.ActionContents.{actions_of}
use Rattle.agent_core.specs.declared.kept_state.KeptState.{KeptState}
use Rattle.agent_state.proofs.TallyLists.{all_stand}
use Rattle.agent_core.proofs.MarkedRows.{all_stand_marked}
use Rattle.agent_core.proofs.kept_state.KeptState.tally_for.Goals as goal

pub standing-requires : goal.standing-requires
standing-requires c =
    let a : KeptState = c.args.self.now in
    all_stand_marked a.tallies a.histories c.args.marked.now c.requires.marked (all_stand a.tallies (actions_of a.sites) a.histories c.requires.sound.tallies)

use Rattle.office_rules.proofs.OnePlay.{play_once}
use Rattle.office_rules.proofs.law.one_play.Goals as goal

pub returns : goal.returns
returns c = play_once (record {
  meaning = c.one_meaning.ensures;
  reading = c.one_reading.ensures;
  turn = c.one_turn.ensures;
  tells = c.devices_go_on_telling.ensures.tells;
  cause = c.devices_go_on_telling.ensures.cause;
  supply = c.one_change.ensures.supplied;
  gathering = c.one_change.ensures.gathered;
  settling = c.one_change.ensures.settled;
  opening = c.one_change.ensures.opened;
  sample = c.one_sample.ensures;
  members = c.one_list_of_members.ensures;
})

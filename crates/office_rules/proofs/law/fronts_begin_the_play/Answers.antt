use Rattle.office_rules.proofs.Fronts.{front_begins, front_of_itself}
use Rattle.office_rules.proofs.law.fronts_begin_the_play.Goals as goal

pub returns-clause-whole : goal.returns-clause-whole
returns-clause-whole c = front_of_itself

pub returns-clause-fronts : goal.returns-clause-fronts
returns-clause-fronts c = front_begins (record {
  meaning = c.one_meaning.ensures;
  reading = c.one_reading.ensures;
  turn = c.one_turn.ensures;
  tells = c.devices_go_on_telling.ensures.tells;
  cause = c.devices_go_on_telling.ensures.cause;
  supply = c.one_change.ensures.supplied;
  gathering = c.one_change.ensures.gathered;
  settling = c.one_change.ensures.settled;
  opening = c.one_change.ensures.opened;
  sample = c.one_sample.ensures;
  members = c.one_list_of_members.ensures;
})

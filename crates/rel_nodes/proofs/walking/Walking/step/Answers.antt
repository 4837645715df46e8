use Rattle.rel_nodes.proofs.walking.Walking.step.Goals as goal

pub returns : goal.returns
returns g c =
    let e = c.next_event-event.ensures in
    record {
      goes = λ w h. c.placed.ensures.goes _ _ _ _ (e.goes w h);
      cause = rw c.placed.ensures.failed e.cause;
      as_room = c.placed.ensures.room _ e.room;
      falls = c.placed.ensures.falls _ _ e.falls;
      looks = e.looks;
    }

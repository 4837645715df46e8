use Rattle.office_text.specs.Made.{turn_lines}
use Rattle.office_text.proofs.MadeLemmas.{place_more}
use Rattle.office_text.proofs.made.add_turns.Goals as goal

pub loop-place-preserved : goal.loop-place-preserved
loop-place-preserved c = place_more turn_lines c.loop-place.place c.args.out.now c.loop-place.out c.add_turn.new.out c.loop-place.invariant c.in_ok-add_turn.ensures

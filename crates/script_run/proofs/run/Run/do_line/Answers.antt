use Rattle.script_run.proofs.run.Run.do_line.Goals as goal

pub returns-in-Ok : goal.returns-in-Ok
returns-in-Ok g c = c.carry_out.ensures _ c.in-Ok.ensures

pub returns-in-Err : goal.returns-in-Err
returns-in-Err g c = c.break_off.ensures _ _ c.in-Err.ensures

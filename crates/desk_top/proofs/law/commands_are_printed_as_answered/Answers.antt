use Rattle.desk_top.proofs.law.commands_are_printed_as_answered.Goals as goal

pub returns : goal.returns
returns c = c.commands_are_printed_as_answered.ensures

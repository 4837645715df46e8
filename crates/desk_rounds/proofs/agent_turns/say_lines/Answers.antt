use Rattle.std.proofs.Common.{FitsSigned, rules, w64}
use Rattle.desk_rounds.proofs.AgentParts.{line_at, said_lines}
use Rattle.desk_rounds.proofs.agent_turns.say_lines.Goals as goal

pub returns-in-Ok : goal.returns-in-Ok
returns-in-Ok c =
    let moment : FitsSigned w64 c.args.time.moment = search rules in
    said_lines c.args.rounder.now c.args.time.moment c.args.turned.now c.args.missed c.say_missed.result c.args.out.now c.say_missed.new.out
    c.say_turn.new.out c.in_default.not-Memory c.say_missed.ensures
    (line_at c.args.rounder.now.name c.args.time.moment c.args.turned.now c.say_missed.new.out c.say_turn.new.out moment c.in-Ok.ensures)

use Rattle.desk_rounds.proofs.AgentParts.{printed_turns, quiet_memory, quiet_pocket}
use Rattle.desk_rounds.proofs.agent_turns.say_turns.Goals as goal

pub returns-in-PocketFault : goal.returns-in-PocketFault
returns-in-PocketFault c =
    quiet_pocket c.args.rounder.now c.args.time.moment c.args.turned.now c.args.missed c.args.out.now c.in-PocketFault.is

pub returns-in-Memory : goal.returns-in-Memory
returns-in-Memory c = quiet_memory c.args.rounder.now c.args.time.moment c.args.turned.now c.args.missed c.args.out.now c.in-Memory.is

pub returns-in_default : goal.returns-in_default
returns-in_default c =
    printed_turns c.args.rounder.now c.args.time.moment c.args.turned.now c.args.missed c.say_lines.result c.args.out.now c.say_lines.new.out
    c.in_default.not-PocketFault c.in_default.not-Memory c.say_lines.ensures

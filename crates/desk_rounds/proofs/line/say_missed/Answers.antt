use Rattle.std.proofs.Common.{Option, subst, sym}
use Rattle.desk_rounds.specs.declared.asking.Miss.{Miss}
use Rattle.desk_rounds.specs.AgentRounds.{SaysMissed}
use Rattle.desk_rounds.proofs.AgentParts.{said_missed}
use Rattle.desk_rounds.proofs.line.say_missed.Goals as goal

pub returns-in-Some : goal.returns-in-Some
returns-in-Some c =
    subst (λ (m : Option Miss). SaysMissed m c.say_miss.result c.args.out.now c.say_miss.new.out) (sym c.in-Some.is)
    (said_missed c.in-Some.miss c.say_miss.result c.args.out.now c.say_miss.new.out c.say_miss.ensures)

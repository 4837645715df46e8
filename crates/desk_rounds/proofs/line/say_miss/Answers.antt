use Rattle.desk_rounds.proofs.Rounding.{said_bad_answer, said_memory, said_no_answer}
use Rattle.desk_rounds.proofs.line.say_miss.Goals as goal

pub returns-in-NoAnswer : goal.returns-in-NoAnswer
returns-in-NoAnswer c = said_no_answer c.args.miss c.say.result c.args.out.now c.say.new.out c.in-NoAnswer.is c.say.ensures

pub returns-in-BadAnswer : goal.returns-in-BadAnswer
returns-in-BadAnswer c =
    said_bad_answer c.args.miss c.say-in-BadAnswer.result c.args.out.now c.say-in-BadAnswer.new.out c.in-BadAnswer.is c.say-in-BadAnswer.ensures

pub returns-in-Memory : goal.returns-in-Memory
returns-in-Memory c = said_memory c.args.miss c.args.out.now c.in-Memory.is

use Rattle.std.proofs.Common.{sym, ◌∙◌}
use Rattle.script_run.specs.declared.place.Place.TheVariants.{Ready, Wanting, Supplied, Placing, Doing, Waiting, Testing, Asking, Done, Failed}
use Rattle.script_run.proofs.Rounds.{steps_at}
use Rattle.script_run.proofs.run.Run.step.Goals as goal

pub returns-in-Ready : goal.returns-in-Ready
returns-in-Ready g c = steps_at c.args.self.now.place Ready c.args.self.now _ _ _ _ _ (sym c.replace.ensures.value ∙ c.in-Ready.is) (c.begin.ensures _)

pub returns-in-Wanting : goal.returns-in-Wanting
returns-in-Wanting g c = steps_at c.args.self.now.place (Wanting c.in-Wanting.fetch) c.args.self.now _ _ _ _ _ (sym c.replace.ensures.value ∙ c.in-Wanting.is) (c.want.ensures _)

pub returns-in-Supplied : goal.returns-in-Supplied
returns-in-Supplied g c =
    steps_at c.args.self.now.place (Supplied c.in-Supplied.fetch c.in-Supplied.bytes) c.args.self.now _ _ _ _ _ (sym c.replace.ensures.value ∙ c.in-Supplied.is) (c.compare.ensures _)

pub returns-in-Placing : goal.returns-in-Placing
returns-in-Placing g c =
    steps_at c.args.self.now.place (Placing c.in-Placing.line c.in-Placing.name c.in-Placing.bytes) c.args.self.now _ _ _ _ _ (sym c.replace.ensures.value ∙ c.in-Placing.is) c.put.ensures

pub returns-in-Doing : goal.returns-in-Doing
returns-in-Doing g c = steps_at c.args.self.now.place (Doing c.in-Doing.line c.in-Doing.what) c.args.self.now _ _ _ _ _ (sym c.replace.ensures.value ∙ c.in-Doing.is) c.do_line.ensures

pub returns-in-Waiting : goal.returns-in-Waiting
returns-in-Waiting g c = steps_at c.args.self.now.place (Waiting c.in-Waiting.line c.in-Waiting.process) c.args.self.now _ _ _ _ _ (sym c.replace.ensures.value ∙ c.in-Waiting.is) c.wait.ensures

pub returns-in-Testing : goal.returns-in-Testing
returns-in-Testing g c = steps_at c.args.self.now.place (Testing c.in-Testing.arms c.in-Testing.other) c.args.self.now _ _ _ _ _ (sym c.replace.ensures.value ∙ c.in-Testing.is) (c.choose.ensures _)

pub returns-in-Asking : goal.returns-in-Asking
returns-in-Asking g c =
    steps_at c.args.self.now.place (Asking c.in-Asking.arm c.in-Asking.arms c.in-Asking.other) c.args.self.now _ _ _ _ _ (sym c.replace.ensures.value ∙ c.in-Asking.is) c.ask.ensures

pub returns-in-Done : goal.returns-in-Done
returns-in-Done g c = steps_at c.args.self.now.place Done c.args.self.now _ _ _ _ _ (sym c.replace.ensures.value ∙ c.in-Done.is) (c.end.ensures _)

pub returns-in-Failed : goal.returns-in-Failed
returns-in-Failed g c = steps_at c.args.self.now.place (Failed c.in-Failed.line c.in-Failed.midway c.in-Failed.cause) c.args.self.now _ _ _ _ _ (sym c.replace.ensures.value ∙ c.in-Failed.is) (c.tell.ensures _)

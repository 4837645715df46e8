use Rattle.std.proofs.Common.{true}
use Rattle.script_run.proofs.Texts.{said_text, said_error, said_fault, said_memory}
use Rattle.script_run.proofs.filling.said.Goals as goal

pub returns-in-Text : goal.returns-in-Text
returns-in-Text g c = record {
  fills = λ line midway behind. (true, said_text c.args.kept.now.scene line midway c.args.expression.now behind _ c.in-Text.text _ c.in-Text.ensures);
  only = c.in-Text.ensures.only;
}

pub returns-in-Error : goal.returns-in-Error
returns-in-Error g c = record {
  fills = λ line midway behind. said_error c.args.kept.now.scene line midway c.args.expression.now behind _ c.in-Error.kind c.in-Error.place _ c.in-Error.ensures;
  only = c.in-Error.ensures.only;
}

pub returns-in-Failed : goal.returns-in-Failed
returns-in-Failed g c = record {
  fills = λ line midway behind. said_fault c.args.kept.now.scene line midway c.args.expression.now behind _ c.in-Failed.field-0 _ c.in-Failed.ensures;
  only = c.in-Failed.ensures.only;
}

pub returns-in-Memory : goal.returns-in-Memory
returns-in-Memory g c = record {
  fills = λ line midway behind. said_memory c.args.kept.now.scene line midway c.args.expression.now behind _ _ c.in-Memory.ensures;
  only = c.in-Memory.ensures.only;
}

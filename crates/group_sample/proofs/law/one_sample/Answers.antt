use Rattle.group_sample.proofs.OneSample.{sample_one}
use Rattle.group_sample.proofs.law.one_sample.Goals as goal

pub returns : goal.returns
returns c = sample_one

use Rattle.office_text.proofs.OrderLists.{office_one}
use Rattle.office_text.proofs.law.one_office.Goals as goal

pub returns : goal.returns
returns c = office_one

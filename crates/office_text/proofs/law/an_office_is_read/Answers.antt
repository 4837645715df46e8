use Rattle.office_text.proofs.OfficeReading.{office_read}
use Rattle.office_text.proofs.law.an_office_is_read.Goals as goal

pub returns : goal.returns
returns c = office_read

use Rattle.office_play.proofs.play.play_office.Goals as goal

pub play_in-requires : goal.play_in-requires
play_in-requires g c = record { orders = c.requires; office = c.new-office.ensures }

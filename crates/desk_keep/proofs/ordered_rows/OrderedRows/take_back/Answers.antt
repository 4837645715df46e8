use Rattle.std.proofs.Common.{sym, ap, ◌∙◌}
use Rattle.desk_keep.specs.Keys.{key_of}
use Rattle.desk_keep.specs.Inside.{without}
use Rattle.desk_keep.proofs.Putting.{AreRows-put}
use Rattle.desk_keep.proofs.Undoing.{put_back, taken_out}
use Rattle.desk_keep.proofs.ordered_rows.OrderedRows.take_back.Goals as goal

pub returns-in-Some : goal.returns-in-Some
returns-in-Some c = λ rows are was stood.
    put_back c.args.row.now c.in-Some.before rows c.args.self.now c.put.new.self c.put.result are was (sym c.in-Some.is ∙ stood) c.put.ensures.ok c.put.ensures.absent

pub returns-in-None : goal.returns-in-None
returns-in-None c = λ rows are was stood.
    c.remove.ensures ∙ ap (without (key_of c.args.row.now)) was
    ∙ taken_out c.args.row.now rows (AreRows-put c.args.row.now rows c.requires.row are) are (sym (sym c.in-None.is ∙ stood))

use Rattle.std.proofs.Common.{◌∙◌, ap, codes, true}
use Rattle.bf_world.specs.Maps.{put}
use Rattle.session_tables.proofs.EntryLemmas.{root_put}
use Rattle.session_tables.proofs.entries.root_names.Goals as goal

pub returns : goal.returns
returns c =
    c.in_ok-put-3.ensures.ok ∙ ap (put (codes "sites") true) (c.in_ok-put-2.ensures.ok
    ∙ ap (put (codes "computers") true) (c.in_ok-put.ensures.ok ∙ ap (put (codes "actions") true) c.new-names.ensures)) ∙ root_put

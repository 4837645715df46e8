use Rattle.std.proofs.Common.{◌∙◌, arith, refl}
use Rattle.desk_rounds.proofs.Rounding.{gathers_done, gathers_first, gathers_memory, gathers_on, gathers_part}
use Rattle.desk_rounds.proofs.gathering.gather_listed.Goals as goal

pub sites-init : goal.sites-init
sites-init g c = record {
  sound = c.requires;
  fixed = refl;
  far = gathers_first g.C.Client.rules c.args.sites.now _ c.args.out.now;
}

pub sites-preserved : goal.sites-preserved
sites-preserved g c = record {
  sound = c.gather_site.ensures.sound;
  fixed = c.gather_site.ensures.fixed ∙ c.sites.invariant.fixed;
  far = gathers_on g.C.Client.rules c.args.sites.now _ _ _ _ _ c.site-item.result c.gather_site.result _ _ c.sites.invariant.far (omega arith)
      c.site-item.is c.in-Item.is c.gather_site.ensures.gathers;
}

pub returns-in-Part-clause-gathers : goal.returns-in-Part-clause-gathers
returns-in-Part-clause-gathers g c =
    gathers_part g.C.Client.rules c.args.sites.now _ _ _ _ _ c.site-item.result c.gather_site.result _ _ c.sites.invariant.far (omega arith)
    c.site-item.is c.in-Part.is c.gather_site.ensures.gathers

pub returns-in-Memory-clause-gathers : goal.returns-in-Memory-clause-gathers
returns-in-Memory-clause-gathers g c =
    gathers_memory g.C.Client.rules c.args.sites.now _ _ _ _ _ c.site-item.result c.gather_site.result _ _ c.sites.invariant.far (omega arith)
    c.site-item.is c.in-Memory.is c.gather_site.ensures.gathers

pub returns-clause-gathers : goal.returns-clause-gathers
returns-clause-gathers g c = gathers_done g.C.Client.rules c.args.sites.now _ _ _ _ _ c.sites.invariant.far (omega arith)

use Rattle.std.proofs.Common.{[], Ok, Option, refl, subst, sym}
use Rattle.fix_site.specs.Sites.{IsSite}
use Rattle.fix_site.specs.declared.site.Site.{Site}
use Rattle.std.specs.Prelude.{IfSome}
use Rattle.desk_rounds.specs.declared.part.Next.TheVariants as next
use Rattle.desk_rounds.specs.Gathering.{KeepsCame}
use Rattle.desk_rounds.proofs.gathering.keep_came.Goals as goal

pub keep-requires-clause-site : goal.keep-requires-clause-site
keep-requires-clause-site g c = subst (λ (o : Option Site). IfSome o IsSite) c.in-Some.is c.requires.good

pub returns-in-Some-clause-keeps : goal.returns-in-Some-clause-keeps
returns-in-Some-clause-keeps g c =
    subst (λ (o : Option Site). KeepsCame g.C.Client.rules (Ok o) (g.C.Client.told c.args.client.now) c.next_kept.result [] (g.C.Client.told c.keep.new.self))
    (sym c.in-Some.is) (c.keep.result, c.keep.ensures.keeps, record { then_is = c.next_kept.ensures; quiet = refl })

pub returns-in-None-clause-keeps : goal.returns-in-None-clause-keeps
returns-in-None-clause-keeps g c =
    subst (λ (o : Option Site). KeepsCame g.C.Client.rules (Ok o) (g.C.Client.told c.args.client.now) next.Item [] (g.C.Client.told c.args.client.now))
    (sym c.in-None.is) (record { then_is = refl; quiet = refl }, refl)

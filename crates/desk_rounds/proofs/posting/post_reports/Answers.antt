use Rattle.std.proofs.Common.{◌∙◌, ◌<◌, ◌≤◌, ◌-◌, List, length, refl, subst, sym}
use Rattle.report_text.specs.declared.report.Report.{Report}
use Rattle.desk_rounds.specs.Clients.{at}
use Rattle.desk_rounds.specs.Ways.{way}
use Rattle.desk_rounds.proofs.Rounding.{Posts, posts_done, posts_fewer, posts_first, posts_memory, posts_on, posts_part}
use Rattle.desk_rounds.proofs.posting.post_reports.Goals as goal

pub reports-init : goal.reports-init
reports-init g c = record { sound = c.requires; fixed = refl; far = posts_first g.C.Client.rules _ c.args.out.now }

pub returns-in-NoAnswer-clause-posts : goal.returns-in-NoAnswer-clause-posts
returns-in-NoAnswer-clause-posts g c =
    let inside = subst (λ (l : List Report). c.reports.place < length l) c.reports-in-reports.ensures.reports c.reports-test.true in
    posts_part g.C.Client.rules _ _ _ _ _ c.post_at-posted.result _ _ c.reports.invariant.far inside c.in-NoAnswer.is c.post_at-posted.ensures.posts

pub returns-in-Memory-clause-posts : goal.returns-in-Memory-clause-posts
returns-in-Memory-clause-posts g c =
    let inside = subst (λ (l : List Report). c.reports.place < length l) c.reports-in-reports.ensures.reports c.reports-test.true in
    posts_memory g.C.Client.rules _ _ _ _ _ c.post_at-posted.result _ _ c.reports.invariant.far inside c.in-Memory.is c.post_at-posted.ensures.posts

pub reports-smaller : goal.reports-smaller
reports-smaller g c =
    let inside = subst (λ (l : List Report). c.reports.place < length l) c.reports-in-reports.ensures.reports c.reports-test.true in
    let reports = g.C.Client.rules.reports (g.C.Client.told c.reports.client) in
    let later = g.C.Client.rules.reports (g.C.Client.told c.post_at-posted.new.client) in
    subst (λ n. length later - n < length reports - c.reports.place) (sym c.place_after-place.ensures)
    (posts_fewer g.C.Client.rules _ _ _ _ _ c.post_at-posted.result _ _ c.reports.invariant.far inside c.in_default.not-NoAnswer
    c.in_default.not-Memory c.post_at-posted.ensures.posts)

pub reports-preserved : goal.reports-preserved
reports-preserved g c =
    let inside = subst (λ (l : List Report). c.reports.place < length l) c.reports-in-reports.ensures.reports c.reports-test.true in
    let old = at (g.C.Client.told c.args.client.now) (way (g.L.Link.told c.args.link.now) c.args.second.now) in
    let new = at (g.C.Client.told c.post_at-posted.new.client) (way (g.L.Link.told c.post_at-posted.new.link) c.post_at-posted.new.second) in
    record {
      sound = c.post_at-posted.ensures.sound;
      fixed = c.post_at-posted.ensures.fixed ∙ c.reports.invariant.fixed;
      far = subst (λ n. Posts g.C.Client.rules old c.args.out.now n new c.post_at-posted.new.out) (sym c.place_after-place.ensures)
          (posts_on g.C.Client.rules _ _ _ _ _ c.post_at-posted.result _ _ c.reports.invariant.far inside c.in_default.not-NoAnswer
          c.in_default.not-Memory c.post_at-posted.ensures.posts);
    }

pub returns-clause-posts : goal.returns-clause-posts
returns-clause-posts g c =
    let end = subst (λ (l : List Report). length l ≤ c.reports.place) c.reports-in-reports.ensures.reports c.reports-test.false in
    posts_done g.C.Client.rules _ _ _ _ _ c.reports.invariant.far end

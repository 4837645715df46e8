use Rattle.std.proofs.Common.{◌≡◌, Bool, [], ◌++◌, Err, List, Ok, get_or, subst, sym}
use Rattle.report_text.specs.declared.report.Report.{Report}
use Rattle.desk_rounds.specs.Asking.{AsksFor, Said}
use Rattle.desk_rounds.specs.Replies.{JudgesReport}
use Rattle.desk_rounds.specs.Requests.{report_request}
use Rattle.desk_rounds.specs.Clients.{at}
use Rattle.desk_rounds.specs.Parts.{Prints}
use Rattle.desk_rounds.specs.Posting.{PostsAt, next_posted}
use Rattle.desk_rounds.specs.Ways.{switched, way}
use Rattle.desk_rounds.proofs.Rounding.{posts_missed, posts_settled, prints_missed, prints_none}
use Rattle.desk_rounds.proofs.Saying.{came_said, prints_after, said_err, said_ok}
use Rattle.desk_rounds.proofs.posting.post_at.Goals as goal

pub returns-in-Ok-clause-posts : goal.returns-in-Ok-clause-posts
returns-in-Ok-clause-posts g c =
    let old = at (g.C.Client.told c.args.client.now) (way (g.L.Link.told c.args.link.now) c.args.second.now) in
    let between = way (g.L.Link.told c.post_report-came.new.link) c.post_report-came.new.second in
    let there = c.index-reports-place.result in
    let request = report_request there in
    let came = c.post_report-came.result in
    let is = subst (λ (l : List Report). there ≡ get_or l c.args.place there) c.reports.ensures.reports c.index-reports-place.is in
    let says = subst (λ (b : Bool). Said b between.second came (Ok c.in-Ok.judged) c.args.out.now c.said.new.out) c.is_some-before.ensures c.in-Ok.ensures in
    let asks = subst (λ a. AsksFor request (JudgesReport a) old.way (Ok c.in-Ok.judged) between) c.asker-asker.ensures
    (came_said (JudgesReport c.asker-asker.result) request old.way between _ between.second came (Ok c.in-Ok.judged) c.args.out.now c.said.new.out
    c.post_report-came.ensures says) in (
      switched old.way between ++ [],
      subst (λ w. PostsAt g.C.Client.rules c.args.place old w (switched old.way between ++ []) (at (g.C.Client.told c.settle_at.new.self) between))
          (sym c.settled.ensures)
          (posts_settled g.C.Client.rules c.args.place old between (g.C.Client.told c.settle_at.new.self) there c.in-Ok.judged c.settle_at.result is asks
          c.settle_at.ensures.settles),
      prints_after (next_posted c.settled.result) (switched old.way between) [] c.args.out.now c.said.new.out c.said.new.out
          (said_ok _ between.second came c.in-Ok.judged c.args.out.now c.said.new.out says) (prints_none (next_posted c.settled.result) c.said.new.out),
    )

pub returns-in-Err-clause-posts : goal.returns-in-Err-clause-posts
returns-in-Err-clause-posts g c =
    let old = at (g.C.Client.told c.args.client.now) (way (g.L.Link.told c.args.link.now) c.args.second.now) in
    let between = way (g.L.Link.told c.post_report-came.new.link) c.post_report-came.new.second in
    let there = c.index-reports-place.result in
    let request = report_request there in
    let came = c.post_report-came.result in
    let is = subst (λ (l : List Report). there ≡ get_or l c.args.place there) c.reports.ensures.reports c.index-reports-place.is in
    let says = subst (λ (b : Bool). Said b between.second came (Err c.in-Err.miss) c.args.out.now c.said.new.out) c.is_some-before.ensures c.in-Err.ensures in
    let asks = subst (λ a. AsksFor request (JudgesReport a) old.way (Err c.in-Err.miss) between) c.asker-asker.ensures
    (came_said (JudgesReport c.asker-asker.result) request old.way between _ between.second came (Err c.in-Err.miss) c.args.out.now c.said.new.out
    c.post_report-came.ensures says) in
    let it = c.say_miss.ensures in
    let lines = switched old.way between ++ it.0 in (
      lines,
      subst (λ w. PostsAt g.C.Client.rules c.args.place old w lines (at (g.C.Client.told c.args.client.now) between)) (sym c.missed.ensures)
          (posts_missed g.C.Client.rules c.args.place old between there c.in-Err.miss c.say_miss.result it.0 is asks it.1),
      subst (λ w. Prints (next_posted w) lines c.args.out.now c.say_miss.new.out) (sym c.missed.ensures)
          (prints_missed g.C.Client.rules c.say_miss.result lines c.args.out.now c.say_miss.new.out
          (said_err _ between.second came c.in-Err.miss c.args.out.now c.said.new.out c.say_miss.new.out c.say_miss.result it.0 says it.1 it.2)),
    )

use Rattle.std.proofs.Common.{rules, SFits, w64}
use Rattle.std.proofs.lemmas.Int.{to_z-of_z}
use Rattle.fix_site.proofs.Rules.{at_start, at_until, at_hours, at_days, at_retries, at_reapply, behind_start, behind_until, behind_client, behind_hours, behind_days, behind_retries, stuck_rules, rules_of, rules_pass}
use Rattle.fix_site.proofs.rule_reader.take_rules.Goals as goal

pub returns-in_default : goal.returns-in_default
returns-in_default c =
    stuck_rules c.args.lines.now c.take_moment.new.lines
    (at_start c.args.lines.now c.take_moment.new.lines c.in_default.ensures)

pub returns-in_default-take_moment : goal.returns-in_default-take_moment
returns-in_default-take_moment c =
    stuck_rules c.args.lines.now c.take_moment-2.new.lines
    (behind_start c.in-Some.start c.args.lines.now c.take_moment.new.lines c.take_moment-2.new.lines c.in-Some.ensures.0 c.in-Some.ensures.1
    (at_until c.take_moment.new.lines c.take_moment-2.new.lines c.in_default-take_moment.ensures))

pub returns-in_default-take_hours : goal.returns-in_default-take_hours
returns-in_default-take_hours c =
    stuck_rules c.args.lines.now c.take_hours.new.lines
    (behind_start c.in-Some.start c.args.lines.now c.take_moment.new.lines c.take_hours.new.lines c.in-Some.ensures.0 c.in-Some.ensures.1
    (behind_until c.in-Some-take_moment.until c.take_moment.new.lines c.take_moment-2.new.lines c.take_hours.new.lines c.in-Some-take_moment.ensures.0 c.in-Some-take_moment.ensures.1
    (behind_client c.take_exactly-client.result c.take_moment-2.new.lines c.take_exactly-client.new.self c.take_hours.new.lines c.take_exactly-client.ensures
    (at_hours c.take_exactly-client.new.self c.take_hours.new.lines c.in_default-take_hours.ensures))))

pub returns-in_default-take_days : goal.returns-in_default-take_days
returns-in_default-take_days c =
    stuck_rules c.args.lines.now c.take_days.new.lines
    (behind_start c.in-Some.start c.args.lines.now c.take_moment.new.lines c.take_days.new.lines c.in-Some.ensures.0 c.in-Some.ensures.1
    (behind_until c.in-Some-take_moment.until c.take_moment.new.lines c.take_moment-2.new.lines c.take_days.new.lines c.in-Some-take_moment.ensures.0 c.in-Some-take_moment.ensures.1
    (behind_client c.take_exactly-client.result c.take_moment-2.new.lines c.take_exactly-client.new.self c.take_days.new.lines c.take_exactly-client.ensures
    (behind_hours c.in-Some-take_hours.hours c.take_exactly-client.new.self c.take_hours.new.lines c.take_days.new.lines c.in-Some-take_hours.ensures.0 c.in-Some-take_hours.ensures.1
    (at_days c.take_hours.new.lines c.take_days.new.lines c.in_default-take_days.ensures)))))

pub returns-in_default-take_retries : goal.returns-in_default-take_retries
returns-in_default-take_retries c =
    stuck_rules c.args.lines.now c.take_retries.new.lines
    (behind_start c.in-Some.start c.args.lines.now c.take_moment.new.lines c.take_retries.new.lines c.in-Some.ensures.0 c.in-Some.ensures.1
    (behind_until c.in-Some-take_moment.until c.take_moment.new.lines c.take_moment-2.new.lines c.take_retries.new.lines c.in-Some-take_moment.ensures.0 c.in-Some-take_moment.ensures.1
    (behind_client c.take_exactly-client.result c.take_moment-2.new.lines c.take_exactly-client.new.self c.take_retries.new.lines c.take_exactly-client.ensures
    (behind_hours c.in-Some-take_hours.hours c.take_exactly-client.new.self c.take_hours.new.lines c.take_retries.new.lines c.in-Some-take_hours.ensures.0 c.in-Some-take_hours.ensures.1
    (behind_days c.in-Some-take_days.days c.take_hours.new.lines c.take_days.new.lines c.take_retries.new.lines c.in-Some-take_days.ensures.0 c.in-Some-take_days.ensures.1
    (at_retries c.take_days.new.lines c.take_retries.new.lines c.in_default-take_retries.ensures))))))

pub returns-in_default-take_reapply : goal.returns-in_default-take_reapply
returns-in_default-take_reapply c =
    stuck_rules c.args.lines.now c.take_reapply.new.lines
    (behind_start c.in-Some.start c.args.lines.now c.take_moment.new.lines c.take_reapply.new.lines c.in-Some.ensures.0 c.in-Some.ensures.1
    (behind_until c.in-Some-take_moment.until c.take_moment.new.lines c.take_moment-2.new.lines c.take_reapply.new.lines c.in-Some-take_moment.ensures.0 c.in-Some-take_moment.ensures.1
    (behind_client c.take_exactly-client.result c.take_moment-2.new.lines c.take_exactly-client.new.self c.take_reapply.new.lines c.take_exactly-client.ensures
    (behind_hours c.in-Some-take_hours.hours c.take_exactly-client.new.self c.take_hours.new.lines c.take_reapply.new.lines c.in-Some-take_hours.ensures.0 c.in-Some-take_hours.ensures.1
    (behind_days c.in-Some-take_days.days c.take_hours.new.lines c.take_days.new.lines c.take_reapply.new.lines c.in-Some-take_days.ensures.0 c.in-Some-take_days.ensures.1
    (behind_retries (c.in-Some-take_retries.retries.count, c.in-Some-take_retries.retries.wait) c.take_days.new.lines c.take_retries.new.lines c.take_reapply.new.lines (c.in-Some-take_retries.ensures.0, c.in-Some-take_retries.ensures.1) c.in-Some-take_retries.ensures.2
    (at_reapply c.take_retries.new.lines c.take_reapply.new.lines c.in_default-take_reapply.ensures)))))))

pub returns : goal.returns
returns c =
    let fits : SFits w64 c.in-Some-take_retries.retries.wait = search rules in
    let rules = rules_of c.in-Some.start c.in-Some-take_moment.until c.take_exactly-client.result c.in-Some-take_hours.hours c.in-Some-take_days.days c.in-Some-take_retries.retries.count c.in-Some-take_retries.retries.wait c.in-Some-take_reapply.reapply in
    simp to_z-of_z (
      record {
        start = c.in-Some.ensures.0;
        until = c.in-Some-take_moment.ensures.0;
        hours = c.in-Some-take_hours.ensures.0;
        days = c.in-Some-take_days.ensures.0;
        retries = c.in-Some-take_retries.ensures.0;
        wait = c.in-Some-take_retries.ensures.1;
        reapply = c.in-Some-take_reapply.ensures.0;
      },
      rules_pass rules c.args.lines.now c.take_moment.new.lines c.take_moment-2.new.lines c.take_exactly-client.new.self c.take_hours.new.lines c.take_days.new.lines c.take_retries.new.lines c.take_reapply.new.lines
          c.in-Some.ensures.1 c.in-Some-take_moment.ensures.1 c.take_exactly-client.ensures c.in-Some-take_hours.ensures.1 c.in-Some-take_days.ensures.1 c.in-Some-take_retries.ensures.2 c.in-Some-take_reapply.ensures.1,
    )

use Rattle.std.proofs.Common.{subst}
use Rattle.desk_door.specs.Doors.{EndsTalk}
use Rattle.desk_http.proofs.Talking.{conversed, leaves}
use Rattle.desk_http.specs.Replying.{Talks}
use Rattle.desk_http.proofs.talk.converse.Goals as goal

pub returns-clause-talks : goal.returns-clause-talks
returns-clause-talks g c =
    let told = g.D.Door.told in
    let host = g.H.Site2.told c.args.host.now in
    let host' = g.H.Site2.told c.respond-met.new.host in
    let mid = told c.read_request-taken.new.door in
    let last = told c.respond-met.new.door in
    let new = told c.close.new.self in
    let t = c.read_request-taken.result in
    let m = c.respond-met.result in
    let talks = subst (λ b. Talks g.H.Site2.calls mid host b t m last host') c.as_slice.ensures c.respond-met.ensures.talks in
    let ends = subst (λ b. EndsTalk b last new) c.is_whole.ensures c.close.ensures in
    conversed g.H.Site2.calls c.args.routes (told c.args.door.now) mid last new host host' c.read_request-taken.new.buf t m c.read_request-taken.ensures.takes c.read_request-taken.ensures.only talks ends

pub returns-clause-only : goal.returns-clause-only
returns-clause-only g c =
    let told = g.D.Door.told in
    let last = told c.respond-met.new.door in
    let new = told c.close.new.self in
    let ends = subst (λ b. EndsTalk b last new) c.is_whole.ensures c.close.ensures in
    leaves g.H.Site2.calls (told c.args.door.now) (told c.read_request-taken.new.door) last new (g.H.Site2.told c.args.host.now) (g.H.Site2.told c.respond-met.new.host) c.as_slice.result.now c.read_request-taken.result c.respond-met.result c.read_request-taken.ensures.only c.respond-met.ensures.talks ends

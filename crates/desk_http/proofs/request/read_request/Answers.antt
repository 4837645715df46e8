use Rattle.std.proofs.Common.{◌+◌, Some, None, true, refl, sym, subst, ap, arith, length, length-append}
use Rattle.route_rules.specs.Routes.{FindsRoute}
use Rattle.desk_http.specs.Heard.{Call}
use Rattle.desk_http.specs.Conversing.{IsHeard, in_head}
use Rattle.httparse.specs.Spans.{span_bytes}
use Rattle.desk_http.proofs.Requests.{ReadHead, begun_body, few_here, few_in_body, few_of_head, fields_at, found_at, hears_bad, hears_call, hears_cut, hears_long, hears_no_head, hears_none, route_at}
use Rattle.desk_http.proofs.request.read_request.Goals as goal

pub returns-in-Bad-clause-takes : goal.returns-in-Bad-clause-takes
returns-in-Bad-clause-takes g c =
    let r = c.in-Bad.ensures.reads in
    hears_no_head c.args.routes (g.D.Door.told c.args.door.now).left (g.D.Door.told c.read_head.new.door).left c.read_head.new.buf r.0 r.1 r.2 r.3

pub returns-in_default-clause-takes : goal.returns-in_default-clause-takes
returns-in_default-clause-takes g c =
    let r = c.in-Read.ensures.reads in
    let old = (g.D.Door.told c.args.door.now).left in
    let mid = (g.D.Door.told c.read_head.new.door).left in
    let is : ReadHead old mid c.read_head.new.buf c.read_head.new.fields c.in-Read.head = record { room = c.in-Read.ensures.fields; taken = r.0; short = r.1; within = r.2; head = r.3.0; at = r.3.1 } in
    hears_bad c.args.routes old mid _ _ _ is (fields_at c.args.routes old mid _ _ _ is _ _ None c.as_slice.ensures refl c.in_default.ensures)

pub returns-in-Ok-None-clause-takes : goal.returns-in-Ok-None-clause-takes
returns-in-Ok-None-clause-takes g c =
    let r = c.in-Read.ensures.reads in
    let old = (g.D.Door.told c.args.door.now).left in
    let mid = (g.D.Door.told c.read_head.new.door).left in
    let is : ReadHead old mid c.read_head.new.buf c.read_head.new.fields c.in-Read.head = record { room = c.in-Read.ensures.fields; taken = r.0; short = r.1; within = r.2; head = r.3.0; at = r.3.1 } in
    let at = fields_at c.args.routes old mid _ _ _ is _ _ (Some c.in-Some.length) c.as_slice.ensures refl c.in-Some.ensures in
    let finds = found_at (λ f. FindsRoute c.args.routes c.of-method.result.now c.of-path.result.now f) c.find_route.result c.in-Ok-None.field-0 None c.in-Ok-None.is c.in-Ok-None.field-0-is c.find_route.ensures in
    hears_none c.args.routes old mid _ _ _ is c.in-Some.length at (route_at c.args.routes old mid _ _ _ is _ _ _ _ None c.as_slice-2.ensures c.as_slice-3.ensures c.of-method.ensures c.of-path.ensures finds) _ (ap length c.as_slice-4.ensures)

pub returns-then-length-most-clause-takes : goal.returns-then-length-most-clause-takes
returns-then-length-most-clause-takes g c =
    let r = c.in-Read.ensures.reads in
    let old = (g.D.Door.told c.args.door.now).left in
    let mid = (g.D.Door.told c.read_head.new.door).left in
    let is : ReadHead old mid c.read_head.new.buf c.read_head.new.fields c.in-Read.head = record { room = c.in-Read.ensures.fields; taken = r.0; short = r.1; within = r.2; head = r.3.0; at = r.3.1 } in
    let at = fields_at c.args.routes old mid _ _ _ is _ _ (Some c.in-Some.length) c.as_slice.ensures refl c.in-Some.ensures in
    let some = c.in-Ok-Some in
    let finds = found_at (λ f. FindsRoute c.args.routes c.of-method.result.now c.of-path.result.now f) c.find_route.result some.field-0 (Some some.route) some.is some.field-0-is c.find_route.ensures in
    let route = route_at c.args.routes old mid _ _ _ is _ _ _ _ (Some some.route) c.as_slice-2.ensures c.as_slice-3.ensures c.of-method.ensures c.of-path.ensures finds in
    hears_long c.args.routes old mid _ _ _ is c.in-Some.length at some.route route (omega (arith, c.most.ensures, c.if-length-most.true)) _ (ap length c.as_slice-4.ensures)

pub returns-in-Whole-clause-takes : goal.returns-in-Whole-clause-takes
returns-in-Whole-clause-takes g c =
    let r = c.in-Read.ensures.reads in
    let old = (g.D.Door.told c.args.door.now).left in
    let mid = (g.D.Door.told c.read_head.new.door).left in
    let new = (g.D.Door.told c.read_rest.new.door).left in
    let is : ReadHead old mid c.read_head.new.buf c.read_head.new.fields c.in-Read.head = record { room = c.in-Read.ensures.fields; taken = r.0; short = r.1; within = r.2; head = r.3.0; at = r.3.1 } in
    let at = fields_at c.args.routes old mid _ _ _ is _ _ (Some c.in-Some.length) c.as_slice.ensures refl c.in-Some.ensures in
    let some = c.in-Ok-Some in
    let finds = found_at (λ f. FindsRoute c.args.routes c.of-method.result.now c.of-path.result.now f) c.find_route.result some.field-0 (Some some.route) some.is some.field-0-is c.find_route.ensures in
    let route = route_at c.args.routes old mid _ _ _ is _ _ _ _ (Some some.route) c.as_slice-2.ensures c.as_slice-3.ensures c.of-method.ensures c.of-path.ensures finds in
    let q = c.in-Whole.ensures.reads in
    let buf = c.read_rest.new.buf in
    let n = c.in-Some.length in
    let call = hears_call c.args.routes old mid _ _ _ is n at some.route route new buf (omega (arith, c.most.ensures, c.if-length-most.false)) q.0 q.2 q.1 in
    let path = span_bytes buf c.in-Read.head.path in
    let body = span_bytes buf (record { start = c.in-Read.head.len; end = c.in-Read.head.len + n }) in (
      ((r.2.path.0, omega (arith, r.2.path.1, r.2.section.len_fits, ap length q.0.2, length-append c.read_head.new.buf q.0.0)), (omega arith, q.1)),
      subst (λ asking. IsHeard c.args.routes old new buf (Call asking path body) true) (sym c.asking.ensures) call,
    )

pub returns-in-Cut-clause-takes : goal.returns-in-Cut-clause-takes
returns-in-Cut-clause-takes g c =
    let r = c.in-Read.ensures.reads in
    let old = (g.D.Door.told c.args.door.now).left in
    let mid = (g.D.Door.told c.read_head.new.door).left in
    let new = (g.D.Door.told c.read_rest.new.door).left in
    let is : ReadHead old mid c.read_head.new.buf c.read_head.new.fields c.in-Read.head = record { room = c.in-Read.ensures.fields; taken = r.0; short = r.1; within = r.2; head = r.3.0; at = r.3.1 } in
    let at = fields_at c.args.routes old mid _ _ _ is _ _ (Some c.in-Some.length) c.as_slice.ensures refl c.in-Some.ensures in
    let some = c.in-Ok-Some in
    let finds = found_at (λ f. FindsRoute c.args.routes c.of-method.result.now c.of-path.result.now f) c.find_route.result some.field-0 (Some some.route) some.is some.field-0-is c.find_route.ensures in
    let route = route_at c.args.routes old mid _ _ _ is _ _ _ _ (Some some.route) c.as_slice-2.ensures c.as_slice-3.ensures c.of-method.ensures c.of-path.ensures finds in
    let q = c.in-Cut.ensures.reads in
    hears_cut c.args.routes old mid _ _ _ is c.in-Some.length at some.route route new c.read_rest.new.buf (omega (arith, c.most.ensures, c.if-length-most.false)) q.0 (omega (arith, q.2)) q.1 q.2

pub returns-in-Failed-read_rest-clause-takes : goal.returns-in-Failed-read_rest-clause-takes
returns-in-Failed-read_rest-clause-takes g c =
    let r = c.in-Read.ensures.reads in
    let old = (g.D.Door.told c.args.door.now).left in
    let mid = (g.D.Door.told c.read_head.new.door).left in
    let new = (g.D.Door.told c.read_rest.new.door).left in
    let is : ReadHead old mid c.read_head.new.buf c.read_head.new.fields c.in-Read.head = record { room = c.in-Read.ensures.fields; taken = r.0; short = r.1; within = r.2; head = r.3.0; at = r.3.1 } in
    let at = fields_at c.args.routes old mid _ _ _ is _ _ (Some c.in-Some.length) c.as_slice.ensures refl c.in-Some.ensures in
    let some = c.in-Ok-Some in
    let finds = found_at (λ f. FindsRoute c.args.routes c.of-method.result.now c.of-path.result.now f) c.find_route.result some.field-0 (Some some.route) some.is some.field-0-is c.find_route.ensures in
    let route = route_at c.args.routes old mid _ _ _ is _ _ _ _ (Some some.route) c.as_slice-2.ensures c.as_slice-3.ensures c.of-method.ensures c.of-path.ensures finds in
    let q = c.in-Failed-read_rest.ensures.reads in
    begun_body c.args.routes old mid _ _ _ is c.in-Some.length at some.route route new c.read_rest.new.buf (omega (arith, c.most.ensures, c.if-length-most.false)) q.0 (omega (arith, q.1)) q.1

pub returns-in-Memory-read_rest-clause-takes : goal.returns-in-Memory-read_rest-clause-takes
returns-in-Memory-read_rest-clause-takes g c =
    let r = c.in-Read.ensures.reads in
    let old = (g.D.Door.told c.args.door.now).left in
    let mid = (g.D.Door.told c.read_head.new.door).left in
    let new = (g.D.Door.told c.read_rest.new.door).left in
    let is : ReadHead old mid c.read_head.new.buf c.read_head.new.fields c.in-Read.head = record { room = c.in-Read.ensures.fields; taken = r.0; short = r.1; within = r.2; head = r.3.0; at = r.3.1 } in
    let at = fields_at c.args.routes old mid _ _ _ is _ _ (Some c.in-Some.length) c.as_slice.ensures refl c.in-Some.ensures in
    let some = c.in-Ok-Some in
    let finds = found_at (λ f. FindsRoute c.args.routes c.of-method.result.now c.of-path.result.now f) c.find_route.result some.field-0 (Some some.route) some.is some.field-0-is c.find_route.ensures in
    let route = route_at c.args.routes old mid _ _ _ is _ _ _ _ (Some some.route) c.as_slice-2.ensures c.as_slice-3.ensures c.of-method.ensures c.of-path.ensures finds in
    few_in_body c.args.routes old mid _ _ _ is c.in-Some.length at some.route route new (omega (arith, c.most.ensures, c.if-length-most.false)) c.in-Memory-read_rest.ensures.reads

pub returns-in-Memory-clause-takes : goal.returns-in-Memory-clause-takes
returns-in-Memory-clause-takes g c =
    few_of_head c.args.routes (g.D.Door.told c.args.door.now).left (g.D.Door.told c.read_head.new.door).left c.in-Memory.ensures.reads

pub returns-in-Failed-clause-takes : goal.returns-in-Failed-clause-takes
returns-in-Failed-clause-takes g c =
    let r = c.in-Failed.ensures.reads in
    (r.0, in_head r.1 r.2)

pub returns-in-Err-clause-takes : goal.returns-in-Err-clause-takes
returns-in-Err-clause-takes g c =
    let r = c.in-Read.ensures.reads in
    let old = (g.D.Door.told c.args.door.now).left in
    let mid = (g.D.Door.told c.read_head.new.door).left in
    let is : ReadHead old mid c.read_head.new.buf c.read_head.new.fields c.in-Read.head = record { room = c.in-Read.ensures.fields; taken = r.0; short = r.1; within = r.2; head = r.3.0; at = r.3.1 } in
    few_here c.args.routes old mid _ _ _ is

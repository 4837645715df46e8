use Rattle.std.proofs.Common.{[], ◌∷◌, ◌++◌, length, get_or, refl}
use Rattle.httparse.specs.Spans.{IsHeaderWithin, header_bytes}
use Rattle.desk_http.proofs.Naming.{all_after, no_span, seen_all, seen_more}
use Rattle.desk_http.proofs.fields.find_framing.Goals as goal

pub returns : goal.returns
returns c =
    let i = c.loop-rest.invariant in
    seen_all c.args.buf.now c.args.fields.now c.loop-rest.rest.now i.seen (record { coding = c.loop-rest.coding; host = c.loop-rest.host; size = c.loop-rest.size }) i.whole c.in_default.len_below i.found

pub loop-rest-init : goal.loop-rest-init
loop-rest-init c = record { seen = []; found = record { coding = refl; host = refl; size = refl }; whole = refl; within = c.requires }

pub loop-rest-preserved : goal.loop-rest-preserved
loop-rest-preserved c =
    let i = c.loop-rest.invariant in
    let buf = c.args.buf.now in
    let rest = c.loop-rest.rest.now in
    record {
      seen = i.seen ++ header_bytes buf (get_or rest 0 no_span) ∷ [];
      found = record { coding = c.after-coding.ensures i.seen i.found.coding; host = c.after-host.ensures i.seen i.found.host; size = c.after-size.ensures i.seen i.found.size };
      whole = seen_more buf c.args.fields.now rest i.seen no_span i.whole c.in-len1-up.len_at_least;
      within = all_after (IsHeaderWithin (length buf)) rest no_span c.in-len1-up.len_at_least i.within;
    }
